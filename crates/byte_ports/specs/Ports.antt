-- What sources and sinks do to the bytes that they tell.
use Rattle.std.specs.Prelude.{ℕ, ◌<◌, ◌≤◌, List, length, take, Option, Result, MatchResult}
use Rattle.std.specs.Io.KnownBytes.{Appends, Consumes, IsAtEnd}

-- told bytes grew by a front of these, which may be all of them or none
abbrev pub AppendsFront : Option (List ℕ) → Option (List ℕ) → List ℕ → Type 0
AppendsFront old new bytes = (count : ℕ) × (count ≤ length bytes) × Appends old new (take count bytes)

-- at Ok told bytes grew by all of these, at Err by a front of them
abbrev pub WritesAll : {T E : Type 0} → Option (List ℕ) → Option (List ℕ) → Result T E → List ℕ → Type 0
WritesAll old new result bytes = MatchResult result (λ _. Appends old new bytes) (λ _. AppendsFront old new bytes)

-- the first `count` bytes of the buffer were taken, and fewer than fit only where none is left
pub record FillsTo (old new : Option (List ℕ)) (out : List ℕ) (count : ℕ) : Type 0 where
  pub within : count ≤ length out
  pub taken : Consumes old new (take count out)
  pub end : count < length out → IsAtEnd new

-- some bytes were taken, fewer than fit, and they stand at the front of the buffer
abbrev pub TakesSome : Option (List ℕ) → Option (List ℕ) → List ℕ → Type 0
TakesSome old new out = (count : ℕ) × (count < length out) × Consumes old new (take count out)

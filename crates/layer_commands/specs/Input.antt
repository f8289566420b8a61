-- Reading a source to its end.
use Rattle.std.specs.Prelude.{◌≡◌, ℕ, ◌%◌, ◌<◌, ◌≤◌, List, ◌++◌, length, Option, IfSome, ⊤}
use Rattle.std.specs.Io.KnownBytes.{Consumes, IsAtEnd}
use Rattle.layer_commands.specs.declared.refusal.Refusal.{Refusal}
use Rattle.layer_commands.specs.declared.refusal.Refusal.TheVariants.{SourceFault, TooLong, Memory}

-- so many bytes were taken behind those before, and fewer than there was room for only at the end
pub record ReadsPiece (old new : Option (List ℕ)) (before now : List ℕ) (room count : ℕ) : Type 0 where
  pub taken : List ℕ
  pub grown : now ≡ before ++ taken
  pub size : length taken ≡ count
  pub within : count ≤ room
  pub consumed : Consumes old new taken
  pub end : count < room → IsAtEnd new

-- the bytes taken are whole sectors, and so many at most
pub record TakesSectors (old new : Option (List ℕ)) (most : ℕ) : Type 0 where
  pub bytes : List ℕ
  pub taken : Consumes old new bytes
  pub short : length bytes ≤ most
  pub whole : length bytes % 512 ≡ 0

-- Why the bytes of a source, of which so many are taken at most, were not all read. Memory is taken before bytes are, so it is
-- wanting only where what was taken is not too long and no end was met.
abbrev pub IsInputRefusal : Option (List ℕ) → Option (List ℕ) → ℕ → Refusal → Type 0
IsInputRefusal old new most SourceFault = ⊤
IsInputRefusal old new most TooLong = IfSome old (λ file. most < length file)
IsInputRefusal old new most Memory = TakesSectors old new most
IsInputRefusal old new most other = ⊥

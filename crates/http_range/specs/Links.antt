-- What a link tells, and what its calls do to it.
use Rattle.std.specs.Prelude.{◌≡◌, ℕ, ◌≤◌, ◌⊎◌, Bool, false, ◌||◌, ◌&&◌, nat_eq, nat_lt, List, [], ◌∷◌, ◌++◌, length, take, Option, option_map, Result, MatchResult}

-- one dial: the count of faults at which it began, the bytes sent and received on it, and whether a receive found its end
pub record Dial : Type 0 where
  pub began : ℕ
  pub sent : List ℕ
  pub received : List ℕ
  pub ended : Bool

-- the present dial, and those before it, the last one first
pub record Dials : Type 0 where
  pub now : Dial
  pub past : List Dial

-- a file that is served at a path
pub record Blob : Type 0 where
  pub path : List ℕ
  pub bytes : List ℕ

-- a link: the faults so far, its dials and the files that it serves, where it tells them
pub record LinkState : Type 0 where
  pub faults : ℕ
  pub dials : Option Dials
  pub blobs : Option (List Blob)

-- a dial on which nothing was sent or received
abbrev pub new_dial : ℕ → Dial
new_dial began = record { began = began; sent = []; received = []; ended = false }

-- the dial after these bytes more were sent and received, and its end perhaps found
abbrev pub dial_on : List ℕ → List ℕ → Bool → Dial → Dial
dial_on sent got ended d =
    record { began = d.began; sent = d.sent ++ sent; received = d.received ++ got; ended = d.ended || ended }

-- the same of the present dial, where the dials are told
abbrev pub dials_on : List ℕ → List ℕ → Bool → Option Dials → Option Dials
dials_on sent got ended dials = option_map (λ d. record { now = dial_on sent got ended d.now; past = d.past }) dials

-- a new dial after the present one
abbrev pub dialed : ℕ → Option Dials → Option Dials
dialed began dials = option_map (λ d. record { now = new_dial began; past = d.now ∷ d.past }) dials

-- these bytes more were sent and received on the present dial, and its end perhaps found
pub record Went (sent got : List ℕ) (ended : Bool) (old new : LinkState) : Type 0 where
  pub dials : new.dials ≡ dials_on sent got ended old.dials
  pub blobs : new.blobs ≡ old.blobs

-- a new dial has begun
pub record Dialed (old new : LinkState) : Type 0 where
  pub dials : new.dials ≡ dialed new.faults old.dials
  pub blobs : new.blobs ≡ old.blobs

-- whether a receive that took so many bytes found the end
abbrev pub is_end : ℕ → List ℕ → Bool
is_end count out = nat_eq count 0 && nat_lt 0 (length out)

-- a part of these bytes was sent
abbrev pub SendsFront : LinkState → LinkState → List ℕ → Type 0
SendsFront old new bytes = (count : ℕ) × (count ≤ length bytes) × Went (take count bytes) [] false old new

-- all bytes were sent, or a front of them before the link failed
abbrev pub Sends : {T E : Type 0} → LinkState → LinkState → List ℕ → Result T E → Type 0
Sends old new bytes result = MatchResult result (λ _. Went bytes [] false old new) (λ _. SendsFront old new bytes)

-- so many bytes were received, or none before the link failed
abbrev pub Receives : {E : Type 0} → LinkState → LinkState → List ℕ → Result ℕ E → Type 0
Receives old new out result = MatchResult result
    (λ count. (count ≤ length out) × Went [] (take count out) (is_end count out) old new)
    (λ _. Went [] [] false old new)

-- a new dial has begun, or the link failed with or without one
abbrev pub Redials : {T E : Type 0} → LinkState → LinkState → Result T E → Type 0
Redials old new result = MatchResult result (λ _. Dialed old new) (λ _. Dialed old new ⊎ Went [] [] false old new)

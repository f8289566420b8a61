-- What a call does to the bytes of one file, and what a crash may make of it until the next sync.
use Rattle.std.specs.Prelude.{◌≡◌, ℕ, ◌+◌, ◌-◌, ◌<◌, ◌≤◌, ◌⊎◌, min, max, List, ◌++◌, length, take, drop, replicate, slice_index}

-- n bytes of a file from a place on
abbrev pub piece : ℕ → ℕ → List ℕ → List ℕ
piece at n file = take n (drop at file)

-- a file with these bytes written from a place on; a gap before that place becomes zeros
abbrev pub put : List ℕ → ℕ → List ℕ → List ℕ
put old at bytes = take at old ++ replicate (at - length old) 0 ++ bytes ++ drop (at + length bytes) old

-- a write of n bytes that was done, done in part or torn: the places that it wrote and those past the old end
-- may hold anything, the end lies between the old and the new one, and all other bytes stay
pub record Torn (at n : ℕ) (old new : List ℕ) : Type 0 where
  pub no_shorter : length old ≤ length new
  pub no_longer : length new ≤ max (length old) (at + n)
  pub below : (i : ℕ) → i < length old → i < at → slice_index new i ≡ slice_index old i
  pub above : (i : ℕ) → i < length old → at + n ≤ i → slice_index new i ≡ slice_index old i

-- a cut to n bytes that was done or done in part: what was to be cut off may be there and hold anything, and all
-- other bytes stay
pub record Cut (n : ℕ) (old new : List ℕ) : Type 0 where
  pub no_shorter : min (length old) n ≤ length new
  pub no_longer : length new ≤ length old
  pub below : (i : ℕ) → i < length new → i < n → slice_index new i ≡ slice_index old i

-- a call that changes nothing
abbrev pub Same : List ℕ → List ℕ → Type 0
Same old new = new ≡ old

-- each new outcome of a crash comes of an old one by the step
abbrev pub Follows : (List ℕ → List ℕ → Type 0) → (List ℕ → Type 0) → (List ℕ → Type 0) → Type 0
Follows step old new = (c : List ℕ) → new c → (d : List ℕ) × old d × step d c

-- a crash leaves this file and no other
abbrev pub Only : List ℕ → (List ℕ → Type 0) → Type 0
Only file outcomes = (c : List ℕ) → outcomes c → c ≡ file

-- a write that failed: each byte is the old one, or the one that a whole write would have left
abbrev pub WroteInPart : ℕ → List ℕ → List ℕ → List ℕ → Type 0
WroteInPart at bytes old new = (i : ℕ) → i < length new → (slice_index new i ≡ slice_index old i) ⊎ (slice_index new i ≡ slice_index (put old at bytes) i)

-- a cut that failed: a front of the old file
abbrev pub CutInPart : List ℕ → List ℕ → Type 0
CutInPart old new = new ≡ take (length new) old

-- What contracts see of the link in memory.
use Rattle.std.specs.Prelude.{ℕ, ◌+◌, Bool, List, [], ◌∷◌, Some, None}
use Rattle.http_range.specs.Links.{Dial, LinkState}

-- one dial in memory: the bytes left, those sent and received, whether its end was found, and the faults on it
pub record MemDialState : Type 0 where
  pub left : List ℕ
  pub sent : List ℕ
  pub received : List ℕ
  pub ended : Bool
  pub faults : ℕ

-- the present dial and those before it, the last one first; the bytes of the dials to come; the numbers of the calls that
-- fail, the number of the next call, and how many calls found no memory
pub record MemLinkState : Type 0 where
  pub dial : MemDialState
  pub past : List MemDialState
  pub coming : List (List ℕ)
  pub failing : List ℕ
  pub calls : ℕ
  pub wants : ℕ

-- the faults on these dials
abbrev pub faults_on : List MemDialState → ℕ
faults_on [] = 0
faults_on (d ∷ past) = d.faults + faults_on past

-- a dial, and those before it
abbrev pub dial_of : MemDialState → List MemDialState → Dial
dial_of d past = record { began = faults_on past; sent = d.sent; received = d.received; ended = d.ended }

abbrev pub dials_of : List MemDialState → List Dial
dials_of [] = []
dials_of (d ∷ past) = dial_of d past ∷ dials_of past

-- the link tells its dials alone
abbrev pub mem_state : MemLinkState → LinkState
mem_state m = record {
  faults = m.dial.faults + faults_on m.past;
  dials = Some (record { now = dial_of m.dial m.past; past = dials_of m.past });
  blobs = None;
}

-- the first list, or no bytes
abbrev pub first_text : List (List ℕ) → List ℕ
first_text [] = []
first_text (text ∷ texts) = text

-- the lists behind the first
abbrev pub later_texts : List (List ℕ) → List (List ℕ)
later_texts [] = []
later_texts (text ∷ texts) = texts

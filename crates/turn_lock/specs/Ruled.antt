-- The rule of the lock: what its word, its slot and the views of all seats have to do with one history.
use Rattle.std.specs.Prelude.{◌≡◌, ◌≢◌, ℕ, suc, ◌+◌, ◌*◌, ◌<◌, ◌≤◌, Option, Some, None, List, [], ◌∷◌, length, All}
use mathlib.Core.Option.{some, none}
use lib.ListN.{get_elem?}
use Rattle.atomic_table.specs.Table.{State}
use Rattle.flat_image.specs.declared.stands.Entry.{Entry}
use Rattle.flat_image.specs.Entries.{calls_by, StartsWith}
use Rattle.turn_lock.specs.declared.rule.Kept.{Kept}
use Rattle.turn_lock.specs.declared.rule.View.{View}

-- the view of the seat that makes all others, which has no number of its own
abbrev pub opener : {A : Type 0} → View A
opener = record { seen = []; tag = 0; next = 1; holds = 0; named = None; kept = [] }

module _ {A : Type 0} where
  -- a number that a seat has: it was given out, to that seat, and each of its entries is in the list
  abbrev pub Owned : List (Entry A) → ℕ → (ℕ → ℕ) → ℕ → ℕ → List (Entry A) → Type 0
  Owned log next owner j tag seen = (k : ℕ) → tag ≡ suc k → (k < next) × (owner k ≡ j) × (calls_by k log ≡ calls_by k seen)

  -- a list that a seat keeps is a beginning of the history, of another number than the seat's own
  abbrev pub IsKept : List (Entry A) → ℕ → (ℕ → ℕ) → ℕ → ℕ → Kept A → Type 0
  IsKept log next owner j own l = StartsWith log l.seen × Owned log next owner j l.tag l.seen × (0 < l.tag → l.tag ≢ own)

  -- what is true of the view of the seat at place j
  pub record Knows (log : List (Entry A)) (held holder maker next : ℕ) (owner : ℕ → ℕ) (j : ℕ) (v : View A) : Type 0 where
    pub begun : StartsWith log v.seen
    pub own : Owned log next owner j v.tag v.seen
    pub lists : All (IsKept log next owner j v.tag) v.kept
    pub turn : v.holds ≡ 1 → (held ≡ 1) × (j ≡ holder) × (v.seen ≡ log) × (0 < v.tag)
    pub makes : 0 < v.next → (j ≡ maker) × (v.next ≡ suc next)

-- the rule, for what a value stands for, the base, the number of the first entry and the number of seats
pub record Ruled {V A B : Type 0} (stands : V → B → ℕ → List (Entry A) → Type 0) (base : B) (first seats : ℕ) (s : State (Option V) (View A)) : Type 0 where
  -- the one history
  pub log : List (Entry A)
  -- 1 while the turn is held
  pub held : ℕ
  -- the places of the seat that has the turn and of the one that makes seats
  pub holder : ℕ
  pub maker : ℕ
  -- the next number, and the place of the seat that each number is with
  pub next : ℕ
  pub owner : ℕ → ℕ
  pub word : s.words ≡ (2 * (first + length log) + held) ∷ []
  pub room : first + length log + held ≤ 4611686018427387904
  pub bit : held ≤ 1
  pub free : held ≡ 0 → (x : V) × (s.homes ≡ some (Some x) ∷ []) × stands x base first log
  pub taken : held ≡ 1 → (s.homes ≡ none ∷ []) × ((v : View A) × (get_elem? s.views holder ≡ some v) × (v.holds ≡ 1))
  pub each_seat : (j : ℕ) (v : View A) → get_elem? s.views j ≡ some v → Knows log held holder maker next owner j v
  pub limit : next ≤ seats
  pub unborn : (k : ℕ) → next ≤ k → calls_by k log ≡ []

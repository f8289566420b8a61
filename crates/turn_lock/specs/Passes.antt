-- What lies in a seat: what a pass through the table knows and has, and what is true of it.
use Rattle.std.specs.Prelude.{◌≡◌, ℕ, suc, ◌-◌, ◌+◌, ◌*◌, ◌==◌, ◌<◌, ◌≤◌, Option, None, Some, false, List, [], ◌∷◌, length, slice_get, All}
use Rattle.atomic_table.specs.Seated.{TableId}
use Rattle.atomic_table.specs.Table.{Me}
use Rattle.flat_image.specs.declared.stands.Entry.{Entry}
use Rattle.flat_image.specs.Entries.{calls_by, StartsWith}
use Rattle.turn_lock.specs.declared.rule.View.{View}
use Rattle.turn_lock.specs.Locks.{Place, place}

-- what contracts see of a seat with the pass
abbrev pub place_of : {S A : Type 0} → TableId → Me S (View A) → Place A
place_of lock m = place lock (m.0.tag - 1) m.0.seen (m.0.holds == 1)

-- it has a number, and just while it has the turn, it has the slot, from which the value was taken
pub record IsSeat {V A : Type 0} (m : Me (Option V) (View A)) : Type 0 where
  pub numbered : 0 < m.0.tag
  pub bit : m.0.holds ≤ 1
  pub without : m.0.holds ≡ 0 → m.1 ≡ []
  pub holding : m.0.holds ≡ 1 → m.1 ≡ (0, None) ∷ []

-- it got the turn with this value
pub record HasTurn {V B A : Type 0} (stands : V → B → ℕ → List (Entry A) → Type 0) (base : B) (first : ℕ) (value : V) (m : Me (Option V) (View A)) : Type 0 where
  pub turn : m.0.holds ≡ 1
  pub stood : stands value base first m.0.seen
  pub room : first + length m.0.seen < 4611686018427387904

-- the word, where all of the history was seen
pub record IsWord {A : Type 0} (first : ℕ) (seen : List (Entry A)) (word : ℕ) : Type 0 where
  pub held : ℕ
  pub is : word ≡ 2 * (first + length seen) + held
  pub bit : held ≤ 1
  pub room : first + length seen + held ≤ 4611686018427387904

-- A list that the seat at place j has is a beginning of the history; its number is with that seat, and all entries of
-- the number are in the list.
pub record Backed {A : Type 0} (history : List (Entry A)) (owner : ℕ → ℕ) (j tag : ℕ) (seen : List (Entry A)) : Type 0 where
  pub begun : StartsWith history seen
  pub own : (k : ℕ) → tag ≡ suc k → (owner k ≡ j) × (calls_by k history ≡ calls_by k seen)

-- so are all lists of its view
pub record IsBacked {A : Type 0} (history : List (Entry A)) (owner : ℕ → ℕ) (j : ℕ) (v : View A) : Type 0 where
  pub own : Backed history owner j v.tag v.seen
  pub lists : All (λ l. Backed history owner j l.tag l.seen) v.kept

-- the view has what the seat with number k had seen
abbrev pub Has : {A : Type 0} → View A → ℕ → List (Entry A) → Type 0
Has {A} v k seen = (history : List (Entry A)) (owner : ℕ → ℕ) (j : ℕ) → IsBacked history owner j v → Backed history owner j (suc k) seen

-- how a lock ends: the value stands for a history that backs the view, and only numbers below the count have entries
pub record Ends {V B A : Type 0} (stands : V → B → ℕ → List (Entry A) → Type 0) (base : B) (first seats : ℕ) (value : V) (v : View A) : Type 0 where
  pub history : List (Entry A)
  pub owner : ℕ → ℕ
  pub at : ℕ
  pub stood : stands value base first history
  pub backed : IsBacked history owner at v
  pub no_others : (k : ℕ) → seats ≤ k → calls_by k history ≡ []

-- new seats of a lock, by number
pub record AreNew {A : Type 0} (lock : TableId) (count : ℕ) (seats : List (Place A)) : Type 0 where
  pub all : length seats ≡ count
  pub each : (k : ℕ) (s : Place A) → slice_get seats k ≡ Some s → s ≡ place lock k [] false

-- the view has what each of the seats had seen
abbrev pub Gathers : {A : Type 0} → List (Place A) → View A → Type 0
Gathers {A} seats v = (k : ℕ) (s : Place A) → slice_get seats k ≡ Some s → Has v k s.seen

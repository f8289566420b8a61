-- What each atomic step tells the seat that makes it.
use Rattle.std.specs.Prelude.{◌≡◌, ◌≢◌, ℕ, suc, ◌+◌, ◌-◌, ◌*◌, ◌≤◌, Option, Some, None, List, [], ◌∷◌, ◌++◌, length, All}
use Rattle.atomic_table.specs.Table.{Me, rest}
use Rattle.flat_image.specs.declared.stands.Entry.{Entry}
use Rattle.flat_image.specs.Entries.{entry, calls_by, StartsWith}
use Rattle.turn_lock.specs.declared.rule.Kept.{Kept}
use Rattle.turn_lock.specs.declared.rule.View.{View}

-- a history that begins with the list, and has no entry of the list's number past it
pub record Continues {A : Type 0} (log : List (Entry A)) (tag : ℕ) (seen : List (Entry A)) : Type 0 where
  pub begun : StartsWith log seen
  pub own : (k : ℕ) → tag ≡ suc k → calls_by k log ≡ calls_by k seen

-- a history that continues all that a view knows
pub record Sees {A : Type 0} (v : View A) (log : List (Entry A)) : Type 0 where
  pub seen : Continues log v.tag v.seen
  pub lists : All (λ l. Continues log l.tag l.seen) v.kept

-- what was seen, and the entry that was named
abbrev pub with_named : {A : Type 0} → List (Entry A) → ℕ → Option A → List (Entry A)
with_named seen number None = seen
with_named seen number (Some act) = seen ++ entry number act ∷ []

module _ {S A : Type 0} where
  -- look: the seat has seen all of the history at that moment, and lists that it kept are dropped
  pub record Looked (first : ℕ) (m : Me S (View A)) (found : ℕ) (m' : Me S (View A)) : Type 0 where
    pub log : List (Entry A)
    pub held : ℕ
    pub after : m' ≡ (record m.0 { seen = log; kept = [] }, m.1)
    pub sees : Sees m.0 log
    pub word : found ≡ 2 * (first + length log) + held
    pub bit : held ≤ 1
    pub room : first + length log + held ≤ 4611686018427387904

  -- name: the act of the entry that is to come
  abbrev pub named_as : Option A → Me S (View A) → Me S (View A) → Type 0
  named_as act m m' = m' ≡ (record m.0 { named = act }, m.1)

  -- release with an entry
  abbrev pub noted : Me S (View A) → Me S (View A) → Type 0
  noted m m' = m' ≡ (record m.0 { seen = with_named m.0.seen (m.0.tag - 1) m.0.named; holds = 0; named = None }, rest m.1)

  -- release without one
  abbrev pub given : Me S (View A) → Me S (View A) → Type 0
  given m m' = m' ≡ (record m.0 { holds = 0; named = None }, rest m.1)

-- claim: the seat has seen all of the history, and has the turn and the value, which stands for the history
pub record Taken {V A B : Type 0} (stands : V → B → ℕ → List (Entry A) → Type 0) (base : B) (first : ℕ) (m : Me (Option V) (View A)) (found : ℕ) (m' : Me (Option V) (View A)) : Type 0 where
  pub log : List (Entry A)
  pub value : V
  pub after : m' ≡ (record m.0 { seen = log; holds = 1; named = None; kept = [] }, (0, Some value) ∷ m.1)
  pub sees : Sees m.0 log
  pub word : found ≡ 2 * (first + length log)
  pub stood : stands value base first log

-- the turn is taken where the word was as expected; else the seat has looked
pub record Claimed {V A B : Type 0} (stands : V → B → ℕ → List (Entry A) → Type 0) (base : B) (first expected : ℕ) (m : Me (Option V) (View A)) (found : ℕ) (m' : Me (Option V) (View A)) : Type 0 where
  pub hit : found ≡ expected → Taken stands base first m found m'
  pub miss : found ≢ expected → Looked first m found m'

module _ {A : Type 0} where
  -- split: the next seat, and the seat that made it
  abbrev pub made_one : View A → View A
  made_one v = record v { next = v.next + 1 }

  abbrev pub newcomer : View A → View A
  newcomer v = record { seen = []; tag = v.next; next = 0; holds = 0; named = None; kept = [] }

  -- split: a note of what was seen
  abbrev pub note_of : View A → View A
  note_of v = record { seen = v.seen; tag = 0; next = 0; holds = 0; named = None; kept = [] }

  -- join: what the other had seen and all that it kept is kept
  abbrev pub list_of : View A → Kept A
  list_of v = record { tag = v.tag; seen = v.seen }

  abbrev pub joined : View A → View A → View A
  joined v w = record v { kept = list_of w ∷ (v.kept ++ w.kept) }

  -- a view that was joined into another is spent
  abbrev pub spent_view : View A
  spent_view = record { seen = []; tag = 0; next = 0; holds = 0; named = None; kept = [] }

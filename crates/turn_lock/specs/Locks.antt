-- What contracts see of a lock and of its seats.
use Rattle.std.specs.Prelude.{◌≡◌, ℕ, ◌<◌, ◌≤◌, Bool, false, List, [], length, slice_index_or, All}
use Rattle.atomic_table.specs.Seated.{TableId}
use Rattle.flat_image.specs.declared.stands.Entry.{Entry}
use Rattle.flat_image.specs.Entries.{calls_by, StartsWith}

-- a lock: which it is, the base that its value stood for, the number of the first entry, and how many seats it has
pub record Lock (B : Type 0) : Type 0 where
  pub id : TableId
  pub base : B
  pub first : ℕ
  pub seats : ℕ

-- a seat: its lock, its number there, the beginning of the history that it has seen, and whether it has the turn
pub record Place (A : Type 0) : Type 0 where
  pub lock : TableId
  pub number : ℕ
  pub seen : List (Entry A)
  pub holds : Bool

abbrev pub place : {A : Type 0} → TableId → ℕ → List (Entry A) → Bool → Place A
place lock number seen holds = record { lock = lock; number = number; seen = seen; holds = holds }

-- the same seat, which has seen no less, and nothing new of its own
pub record IsLater {A : Type 0} (old new : Place A) : Type 0 where
  pub lock : new.lock ≡ old.lock
  pub number : new.number ≡ old.number
  pub seen : StartsWith new.seen old.seen
  pub others : calls_by old.number new.seen ≡ calls_by old.number old.seen

-- all seats of a lock with that many, by number, none of which has the turn
pub record AreSeats {A : Type 0} (lock : TableId) (count : ℕ) (seats : List (Place A)) : Type 0 where
  pub all : length seats ≡ count
  pub lock_is : All (λ s. s.lock ≡ lock) seats
  pub numbered : (k : ℕ) (d : Place A) → k < length seats → (slice_index_or seats k d).number ≡ k
  pub idle : All (λ s. s.holds ≡ false) seats

-- the history of a lock with these seats: it begins with what each has seen, and each entry has the number of one of
-- them and is in what that one has seen
pub record IsHistory {A : Type 0} (seats : List (Place A)) (history : List (Entry A)) : Type 0 where
  pub begins : All (λ s. StartsWith history s.seen) seats
  pub own : All (λ s. calls_by s.number history ≡ calls_by s.number s.seen) seats
  pub no_others : (k : ℕ) → length seats ≤ k → calls_by k history ≡ []

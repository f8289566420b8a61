-- What there is to know of a disk of numbered files, and the rule by which each call changes it.
use Rattle.std.specs.Prelude.{◌≡◌, ℕ, ◌<◌, ◌≤◌, List}
use Rattle.block_disk.specs.Changes.{Follows}

-- a file set: the bytes of each file
abbrev pub Files : Type 0
Files = ℕ → List ℕ

pub record DiskState : Type 1 where
  -- what a read gives of each file
  pub seen : ℕ → List ℕ
  -- what a crash now may leave of each file; the files are left each by itself
  pub may_leave : ℕ → List ℕ → Type 0
  -- The number of this moment. Moments are counted where a change is complete: a crash in the middle of a call leaves
  -- what it might have left before the call, or what it may leave after it.
  pub moment : ℕ
  -- the file sets that a crash at the moment of that number might have left
  pub left_at : ℕ → (ℕ → List ℕ) → Type 0

-- a crash now may leave this file set
abbrev pub Leaves : DiskState → Files → Type 0
Leaves now files = (f : ℕ) → now.may_leave f (files f)

-- a crash at some moment since that one might have left this file set
abbrev pub LeftSince : DiskState → ℕ → Files → Type 0
LeftSince now since files = (k : ℕ) × (since ≤ k) × (k ≤ now.moment) × now.left_at k files

-- Time goes on: what might have been left at a past moment stays as it was, and at each new moment only what may be
-- left now.
pub record Elapses (old new : DiskState) : Type 0 where
  pub later : old.moment ≤ new.moment
  pub past : (k : ℕ) (files : Files) → k ≤ old.moment → new.left_at k files → old.left_at k files
  pub keeps : (k : ℕ) (files : Files) → k ≤ old.moment → old.left_at k files → new.left_at k files
  pub since : (k : ℕ) (files : Files) → old.moment < k → k ≤ new.moment → new.left_at k files → Leaves new files

-- files other than these read as before, and a crash may leave no more of them than before
pub record Spares (touched : ℕ → Type 0) (old new : DiskState) : Type 0 where
  pub seen : (f : ℕ) → ¬ touched f → new.seen f ≡ old.seen f
  pub left : (f : ℕ) (c : List ℕ) → ¬ touched f → new.may_leave f c → old.may_leave f c

-- the rule of one call on one file, whether it succeeds or fails: what a read gives changes by the step, so does each
-- outcome of a crash, and all other files stay
pub record Steps (file : ℕ) (step : List ℕ → List ℕ → Type 0) (old new : DiskState) : Type 0 where
  pub seen : step (old.seen file) (new.seen file)
  pub left : Follows step (old.may_leave file) (new.may_leave file)
  pub others : Spares (λ f. f ≡ file) old new
  pub time : Elapses old new

-- The other half of that rule: whatever the step makes of an old outcome a crash may leave, and of all other files
-- whatever it might have left before.
pub record MayLeave (file : ℕ) (step : List ℕ → List ℕ → Type 0) (old new : DiskState) : Type 0 where
  pub left : (d c : List ℕ) → old.may_leave file d → step d c → new.may_leave file c
  pub others : (f : ℕ) (c : List ℕ) → ¬ (f ≡ file) → old.may_leave f c → new.may_leave f c

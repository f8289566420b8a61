-- Claims on what a crash leaves at every moment of a run of calls.
use Rattle.std.specs.Prelude.{◌≡◌, ℕ, ◌≤◌, List}
use Rattle.block_disk.specs.DiskState.{DiskState, Files, Spares}

-- At each moment of the run there is one i so that all file sets that a crash might have left then have P i.
pub record LeavesOnly {I : Type 0} (old new : DiskState) (P : I → Files → Type 0) : Type 0 where
  pub later : old.moment ≤ new.moment
  pub past : (k : ℕ) (files : Files) → k ≤ old.moment → new.left_at k files → old.left_at k files
  pub each : (k : ℕ) → old.moment ≤ k → k ≤ new.moment → (i : I) × ((files : Files) → new.left_at k files → P i files)

-- a file set that has P, and has each file that was not touched as a crash might have left it at the start
pub record Beside (touched : ℕ → Type 0) (old : DiskState) (P : Files → Type 0) (files : Files) : Type 0 where
  pub has : P files
  pub others : (f : ℕ) → ¬ touched f → old.may_leave f (files f)

-- a run of calls on some files, of which at each moment all that a crash leaves has P of one i
pub record RunBy {I : Type 0} (touched : ℕ → Type 0) (old new : DiskState) (P : I → Files → Type 0) : Type 0 where
  pub leaves : LeavesOnly old new (λ (i : I). Beside touched old (P i))
  pub others : Spares touched old new

-- the same of a P without a choice
abbrev pub Run : (ℕ → Type 0) → DiskState → DiskState → (Files → Type 0) → Type 0
Run touched old new P = RunBy touched old new (λ (u : Unit {0}) files. P files)

-- a run on one file, and P of that file
abbrev pub FileRunBy : {I : Type 0} → ℕ → DiskState → DiskState → (I → List ℕ → Type 0) → Type 0
FileRunBy {I} file old new P = RunBy (λ f. f ≡ file) old new (λ (i : I) files. P i (files file))

abbrev pub FileRun : ℕ → DiskState → DiskState → (List ℕ → Type 0) → Type 0
FileRun file old new P = Run (λ f. f ≡ file) old new (λ files. P (files file))

-- calls that change nothing: all files read as before, and at each moment a crash leaves what it might have left at first
abbrev pub Quiet : DiskState → DiskState → Type 0
Quiet old new = Run (λ f. ⊥) old new (λ files. Unit {0})

-- The disk in memory: what its calls do beside the rule of each disk, and why they fail.
use Rattle.std.specs.Prelude.{◌≡◌, ℕ, ◌+◌, ◌-◌, ◌^◌, min, List, [], ◌∷◌, None, ◌++◌, ◌⊎◌, Result, IsErr, OnOk, OnErr}
use Rattle.block_disk.specs.declared.disk.DiskFailed.{DiskFailed}
use Rattle.block_disk.specs.declared.history.DiskCall.{DiskCall}
use Rattle.block_disk.specs.declared.mem_disk.MemDisk.{MemDisk}
use Rattle.block_disk.specs.declared.plan.Plan.{Plan}
use Rattle.block_disk.specs.DiskState.{DiskState, Files, Spares}
use Rattle.block_disk.specs.HistoryState.{past_of, start_of, state_of}
use Rattle.block_disk.specs.Plan.{IsToFail, after_call}

abbrev pub mem_state : MemDisk → DiskState
mem_state disk = state_of disk.history

-- the files at the start
abbrev pub start_files : MemDisk → Files
start_files disk = start_of disk.history

-- the record of its calls, the newest first
abbrev pub recorded : MemDisk → List DiskCall
recorded disk = past_of disk.history

abbrev pub plan_of : MemDisk → Plan
plan_of disk = disk.plan

abbrev pub wants_of : MemDisk → ℕ
wants_of disk = disk.wants

-- the next call was named to fail, or comes after the stop
abbrev pub FailsNext : MemDisk → Type 0
FailsNext disk = IsToFail (plan_of disk)

-- a call that changes nothing fails exactly where it was to fail, or for this cause
pub record Answers {T : Type 0} (cause : Type 0) (old new : MemDisk) (result : Result T DiskFailed) : Type 0 where
  pub ok : OnOk result ((FailsNext old → ⊥) × (cause → ⊥))
  pub err : OnErr result (FailsNext old ⊎ cause)
  pub plan : plan_of new ≡ after_call (plan_of old)
  pub start : (f : ℕ) → start_files new f ≡ start_files old f
  pub recorded : recorded new ≡ recorded old
  pub wants : wants_of new ≡ wants_of old

-- A call that is recorded where it succeeds. It fails exactly where it was to fail, and then this part of it may be
-- recorded, or where it found no memory, which is counted.
pub record Records {T : Type 0} (call : DiskCall) (part : List DiskCall) (old new : MemDisk) (result : Result T DiskFailed) : Type 0 where
  pub ok : OnOk result ((FailsNext old → ⊥) × (recorded new ≡ call ∷ recorded old) × (wants_of new ≡ wants_of old))
  pub named : FailsNext old → IsErr result × (wants_of new ≡ wants_of old) × ((recorded new ≡ recorded old) ⊎ (recorded new ≡ part ++ recorded old))
  pub wanted : OnErr result ((FailsNext old → ⊥) → (recorded new ≡ recorded old) × (wants_of new ≡ min (wants_of old + 1) (2 ^ 64 - 1)))
  pub plan : plan_of new ≡ after_call (plan_of old)
  pub start : (f : ℕ) → start_files new f ≡ start_files old f

-- a disk to which nothing has happened yet
pub record IsFresh (disk : MemDisk) : Type 0 where
  pub recorded : recorded disk ≡ []
  pub plan : plan_of disk ≡ record { named = record { failing = []; calls = 0 }; stop = None }
  pub wants : wants_of disk ≡ 0
  pub faults : disk.faults.count ≡ 0

-- another plan, and the same disk else
pub record OnlyPlan (old new : MemDisk) : Type 0 where
  pub start : (f : ℕ) → start_files new f ≡ start_files old f
  pub recorded : recorded new ≡ recorded old
  pub wants : wants_of new ≡ wants_of old
  pub faults : new.faults.count ≡ old.faults.count
  pub state : Spares (λ f. ⊥) (mem_state old) (mem_state new)

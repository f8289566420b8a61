-- Which calls of a disk in memory are to fail.
use Rattle.std.specs.Prelude.{◌≡◌, ℕ, ◌+◌, ◌-◌, ◌^◌, min, ◌⊎◌, Option, None, Some, Contains}
use Rattle.block_disk.specs.declared.plan.Plan.{Plan}

-- the disk has stopped
abbrev pub HasStopped : Option ℕ → Type 0
HasStopped None = ⊥
HasStopped (Some calls) = calls ≡ 0

-- the next call was named to fail, or comes after the stop
unfoldable pub IsToFail : Plan → Type 0
IsToFail plan = Contains plan.named.failing plan.named.calls ⊎ HasStopped plan.stop

abbrev pub one_less : Option ℕ → Option ℕ
one_less None = None
one_less (Some calls) = Some (calls - 1)

-- the plan after one call
abbrev pub after_call : Plan → Plan
after_call plan = record plan {
  named = record plan.named { calls = min (plan.named.calls + 1) (2 ^ 64 - 1) };
  stop = one_less plan.stop;
}

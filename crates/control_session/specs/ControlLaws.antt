-- What it comes to that a port gave the answers of a control.
use Rattle.std.specs.Prelude.{◌≡◌, ◌+◌, ◌≤◌, Bool, true, false, List, ◌++◌, count_by}
use Rattle.flat_image.specs.History.{History}
use Rattle.flat_image.specs.Ports.{PortState}
use Rattle.control_session.specs.declared.answer.CommitAnswer.{CommitAnswer}
use Rattle.control_session.specs.declared.answer.CommitAnswer.TheVariants as commit
use Rattle.control_session.specs.declared.answer.WarmAnswer.{WarmAnswer}
use Rattle.control_session.specs.declared.answer.WarmAnswer.TheVariants as warm
use Rattle.control_session.specs.Controls.{Answer, Committed, Warmed, Told}

-- the answer tells a fault
abbrev pub is_commit_fault : CommitAnswer → Bool
is_commit_fault commit.Done = false
is_commit_fault (commit.Busy other) = false
is_commit_fault commit.TooMany = false
is_commit_fault commit.UuidTwice = false
is_commit_fault commit.Failed = true
is_commit_fault commit.Worn = false
is_commit_fault commit.Memory = false

abbrev pub is_warm_fault : WarmAnswer → Bool
is_warm_fault (warm.Done blocks) = false
is_warm_fault warm.NoLayer = false
is_warm_fault warm.Failed = true

abbrev pub is_fault : Answer → Bool
is_fault (Committed answer) = is_commit_fault answer
is_fault (Warmed answer) = is_warm_fault answer
is_fault (Told answer) = false

-- the port is the same one and has seen more. It met a fault for each answer that tells one, and none where none does
pub record FitsHistory (old : PortState) (answers : List Answer) (new : PortState) : Type 0 where
  pub more : History
  pub is : new ≡ record old { seen = old.seen ++ more; faults = new.faults }
  pub faults : old.faults + count_by is_fault answers ≤ new.faults
  pub spared : count_by is_fault answers ≡ 0 → new.faults ≡ old.faults

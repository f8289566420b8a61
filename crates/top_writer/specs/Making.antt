-- The files of a new top.
use Rattle.std.specs.Prelude.{◌≡◌, ℕ, List, length, Bool, IsTrue}
use Rattle.block_disk.specs.DiskState.{DiskState}
use Rattle.gate_mark.specs.declared.mark.Mark.{Mark}
use Rattle.gate_mark.specs.Mark.{file_of, sequence_in, IsKept, IsSettled, MayHold}
use Rattle.lsmt_header.specs.declared.head.Head.{Head}
use Rattle.lsmt_header.specs.Blocks.{BlockOf}
use Rattle.top_writer.specs.Showing.{Counts}

-- the file reads as the block of the head, and a crash leaves it so
pub record IsMade (tells : Bool) (now : DiskState) (file : ℕ) (head : Head) : Type 0 where
  pub block : List ℕ
  pub is : BlockOf block head
  pub long : length block ≡ 4096
  pub left : (c : List ℕ) → now.may_leave file c → c ≡ block
  pub seen : IsTrue tells → now.seen file ≡ block

-- the mark is new, and counts nothing
pub record IsNewMark (now : DiskState) (file : ℕ) (mark : Mark) : Type 0 where
  pub file_is : file_of mark ≡ file
  pub sequence : sequence_in mark ≡ 1
  pub kept : IsKept now mark
  pub settled : IsSettled mark
  pub counts : (body : List ℕ) → MayHold mark body → Counts body 0 0

use Rattle.std.proofs.Common.{◌≡◌, ◌++◌, ◌∷◌, [], rules, get_or}
use Rattle.std.specs.Prelude.{if◌then◌else◌}
use Rattle.block_disk.proofs.Marks.{marked_more}
use Rattle.block_disk.proofs.crash.marked_bytes.Goals as goal
use Rattle.block_disk.proofs.crash.marked_bytes.Goals.{then-is_odd, else-is_odd}

pub loop-byte-preserved : goal.loop-byte-preserved
loop-byte-preserved c =
    let is : c.if-is_odd.push ≡ (if c.loop-byte.is_odd then 165 else get_or c.args.bytes.now c.loop-byte.byte-index 0) =
    elim c.if-is_odd.branch [ then-is_odd w ↦ rw w.if-is_odd.true w.push-is | else-is_odd w ↦ rw w.if-is_odd.false w.push-is ] in
    let pushed : c.push.new.self.items ≡ c.loop-byte.out.items ++ c.if-is_odd.push ∷ [] = search rules in
    rw pushed (marked_more c.loop-byte.is_odd c.loop-byte.out.items c.args.bytes.now _ c.loop-byte.byte-index c.if-is_odd.push c.loop-byte-test.true is c.loop-byte.invariant)

use Rattle.std.proofs.Common.{◌≡◌, ℕ, List, [], refl, sym, ap, subst}
use Rattle.merged_index.specs.Cells.{cells_of}
use Rattle.top_writer.proofs.QuietLaws.{quiet_none}
use Rattle.image_core.specs.View.{sealed_read}
use Rattle.image_core.specs.Whole.{sectors_by, AreFilled}
use Rattle.image_core.proofs.WholeReads.{bare-files}
use Rattle.image_core.proofs.whole.fill_gaps.Goals as goal

pub returns-in-Ok-clause-filled : goal.returns-in-Ok-clause-filled
returns-in-Ok-clause-filled g c =
    bare-files g.D.Disk.tells (g.S.Shelf.files c.args.shelf.now) (sealed_read (g.D.Disk.state c.args.disk.now).seen c.args.count)
    (λ files. AreFilled (sectors_by files (cells_of c.args.snapshot.now.index)) c.args.at c.args.gaps.now c.args.out.now c.fill.new.out)
    (ap (sealed_read (g.D.Disk.state c.args.disk.now).seen) c.if-count-eq0.true) c.in-Ok.ensures.filled

pub returns-in-Ok-clause-quiet : goal.returns-in-Ok-clause-quiet
returns-in-Ok-clause-quiet g c = quiet_none (g.D.Disk.state c.args.disk.now) (λ files left. g.met.D.Disk.now_at c.args.disk.now files left)

pub returns-in-Err-clause-quiet : goal.returns-in-Err-clause-quiet
returns-in-Err-clause-quiet g c = quiet_none (g.D.Disk.state c.args.disk.now) (λ files left. g.met.D.Disk.now_at c.args.disk.now files left)

use Rattle.seg_table.specs.Cells.{cells_of}
use Rattle.top_writer.proofs.PendingLaws.{pending_joined}
use Rattle.top_writer.proofs.top.Top.go_on.Goals as goal

pub returns-in-Some-clause-pending : goal.returns-in-Some-clause-pending
returns-in-Some-clause-pending g c =
    pending_joined (cells_of c.args.self.now.table) c.args.extent.now c.args.run.now c.args.next.now c.in-Some.both
    c.requires.pending c.requires.behind c.requires.within c.requires.says c.in-Some.ensures.some

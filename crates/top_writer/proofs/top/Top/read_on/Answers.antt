use Rattle.std.proofs.Common.{◌+◌, ◌<◌, arith}
use Rattle.seg_table.specs.Cells.{cells_of}
use Rattle.top_writer.proofs.PendingLaws.{found_further}
use Rattle.top_writer.proofs.top.Top.read_on.Goals as goal

pub returns-clause-further : goal.returns-clause-further
returns-clause-further g c =
    let extent = c.args.extent.now in
    let from = c.end-from.result in
    let found = c.find-found in
    let further : from < found.result.until = found_further (cells_of c.args.self.now.table) from found.result.until (extent.at + extent.count) found.result.pieces found.new.out
    (omega (arith, c.end-from.ensures, c.requires.more)) found.ensures.cells found.ensures.room (omega (arith, found.auto.out))
    (λ short. found.ensures.full (omega (arith, short, c.end.ensures, c.end-from.ensures, c.requires.more))) in
    omega (arith, further, c.end-from.ensures, c.in_ok-run.ensures.end)

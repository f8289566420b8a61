use Rattle.seg_table.specs.Cells.{cell_in}
use Rattle.seg_table.proofs.CellLaws.{cell_in-outside}
use Rattle.seg_table.proofs.PieceLaws.{none_set}
use Rattle.seg_table.proofs.plain_search.walk_uncounted.Goals as goal

pub returns-clause-none : goal.returns-clause-none
returns-clause-none g c =
    none_set (cell_in c.args.puts.now) c.args.from c.next_in.result c.next_in.ensures.next c.next_in.ensures.none (cell_in-outside c.args.puts.now)

use Rattle.std.proofs.Common.{refl, arith}
use Rattle.seg_table.specs.Cells.{cell_in}
use Rattle.seg_table.specs.Segments.{joined}
use Rattle.seg_table.proofs.CellLaws.{cell_in-outside}
use Rattle.seg_table.proofs.PieceLaws.{none_set}
use Rattle.seg_table.proofs.search.walk_uncounted.Goals as goal

pub returns-then-from-clause-none : goal.returns-then-from-clause-none
returns-then-from-clause-none g c = (λ _ p low. cell_in-outside (joined c.args.leaves.now) p (omega arith), λ _. refl)

pub returns-clause-none : goal.returns-clause-none
returns-clause-none g c =
    none_set (cell_in (joined c.args.leaves.now)) c.args.from c.piece_at.result c.piece_at.ensures.next c.piece_at.ensures.none (cell_in-outside (joined c.args.leaves.now))

use Rattle.std.proofs.Common.{map, sym, ap, subst, ◌∙◌, arith}
use Rattle.std.proofs.lemmas.List.{take_all}
use Rattle.merged_index.specs.Cells.{what_of, cell_at, IsRowEdge, IsSegmentEdge}
use Rattle.merged_index.specs.Segments.{AreSegments}
use Rattle.merged_index.proofs.RowSegments.{as_segment, row_cells, row_segments, row_edges}
use Rattle.merged_index.proofs.paint.segments_of.Goals as goal

pub returns-clause-sound : goal.returns-clause-sound
returns-clause-sound c =
    let rows = c.rows-rows.result.now in
    let whole = take_all c.loop-row.row-index rows (omega arith) in
    let is = c.rows-rows.ensures.sound in
    subst (AreSegments 0) (sym (c.loop-row.invariant ∙ ap (map (as_segment c.args.number)) whole))
    (row_segments c.args.number c.args.layer.now.head.sectors c.args.layer.now.head.index_at 0 rows is.sound (omega (arith, is.valid)) (omega (arith, is.index_at)))

pub returns-clause-cells : goal.returns-clause-cells
returns-clause-cells c p =
    let rows = c.rows-rows.result.now in
    let whole = take_all c.loop-row.row-index rows (omega arith) in
    ap (λ ss. cell_at ss p) (c.loop-row.invariant ∙ ap (map (as_segment c.args.number)) whole) ∙ row_cells c.args.number rows p
    ∙ ap (λ rs. what_of c.args.number rs p) c.rows-rows.ensures.value

pub returns-clause-edges : goal.returns-clause-edges
returns-clause-edges c p edge =
    let rows = c.rows-rows.result.now in
    let whole = take_all c.loop-row.row-index rows (omega arith) in
    subst (λ rs. IsRowEdge rs p) c.rows-rows.ensures.value
    (row_edges c.args.number rows p (subst (λ ss. IsSegmentEdge ss p) (c.loop-row.invariant ∙ ap (map (as_segment c.args.number)) whole) edge))

use Rattle.std.proofs.Common.{◌≡◌, ℕ, ◌+◌, ◌⊎◌, List, subst}
use Rattle.seg_table.specs.declared.segment.Segment.{Segment}
use Rattle.seg_table.specs.Cells.{Table, IsEdge}
use Rattle.seg_table.specs.Segments.{joined}
use Rattle.seg_table.proofs.table.SegTable.put.Goals as goal

pub returns-clause-edges : goal.returns-clause-edges
returns-clause-edges c =
    let s : Segment = record { extent = c.args.extent; what = c.args.what } in
    let ys : List Segment = joined c.put_uncounted.new.leaves.items in
    let P : Table → Type 0 = λ t. (p : ℕ) → IsEdge ys p → IsEdge t.segments p ⊎ ((p ≡ s.extent.at) ⊎ (p ≡ s.extent.at + s.extent.count)) in
    subst P c.self.view_is c.put_uncounted.ensures.put.edges

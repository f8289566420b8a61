use Rattle.std.proofs.Common.{◌≡◌, ℕ, ◌+◌, ◌⊎◌, subst}
use Rattle.seg_table.specs.declared.segment.Segment.{Segment}
use Rattle.seg_table.specs.Cells.{Table, cells_of, cell_in, IsEdge, Sets}
use Rattle.seg_table.proofs.CellLaws.{Sets-push, IsEdge-push}
use Rattle.seg_table.proofs.plain.PlainTable.put.Goals as goal

pub returns-clause-cells : goal.returns-clause-cells
returns-clause-cells c =
    let s : Segment = record { extent = c.args.extent; what = c.args.what } in
    let ys = c.push_reserved.new.self.items in
    let P : Table → Type 0 = λ t. Sets (cells_of t) (cell_in ys) s in
    subst P c.self.view_is (Sets-push c.self.inside.puts.items ys s c.push_reserved.ensures.items)

pub returns-clause-edges : goal.returns-clause-edges
returns-clause-edges c =
    let s : Segment = record { extent = c.args.extent; what = c.args.what } in
    let ys = c.push_reserved.new.self.items in
    let P : Table → Type 0 = λ t. (p : ℕ) → IsEdge ys p → IsEdge t.segments p ⊎ ((p ≡ s.extent.at) ⊎ (p ≡ s.extent.at + s.extent.count)) in
    subst P c.self.view_is (IsEdge-push c.self.inside.puts.items ys s c.push_reserved.ensures.items)

use Rattle.std.proofs.Common.{◌≡◌, ◌+◌, ◌∙◌, All, List, take, ap, subst}
use Rattle.seg_table.specs.declared.segment.Segment.{Segment}
use Rattle.seg_table.specs.Cells.{Table}
use Rattle.seg_table.specs.Pieces.{IsUnparted}
use Rattle.seg_table.proofs.plain.PlainTable.find.Goals as goal

pub returns-clause-unparted : goal.returns-clause-unparted
returns-clause-unparted g c =
    let segments : Table → List Segment = λ t. t.segments in
    let same : c.as_slice.result.now ≡ c.args.self.now.segments = c.as_slice.ensures.value ∙ ap segments c.self.view_is in
    let P : List Segment → Type 0 = λ ys. All (IsUnparted ys (c.args.at + c.args.count)) (take c.find_in.result.pieces c.find_in.new.out) in
    subst P same c.find_in.ensures.unparted

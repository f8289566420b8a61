use Rattle.std.proofs.Common.{◌^◌, ◌≤◌, length, sym, subst, arith}
use Rattle.seg_table.specs.Segments.{joined}
use Rattle.seg_table.proofs.SortedLaws.{few-segments}
use Rattle.seg_table.proofs.table.SegTable.len.Goals as goal

pub count_in-requires : goal.count_in-requires
count_in-requires c =
    let few = few-segments 0 (joined c.self.inside.leaves.items) (omega arith) c.self.invariant.are.sorted in
    record { few = subst (λ ys. length (joined ys) ≤ 2 ^ 31) (sym c.as_slice.ensures.value) (omega (arith, few)) }

use Rattle.std.proofs.Common.{List, set, ap, ◌∙◌}
use Rattle.seg_table.specs.declared.segment.Segment.{Segment}
use Rattle.seg_table.proofs.LeafLaws.{set-parts}
use Rattle.seg_table.proofs.leaf.Leaf.set.Goals as goal

pub returns : goal.returns
returns c = ap (λ (ys : List Segment). set ys c.args.number c.args.segment) c.self.view_is ∙ set-parts c.args.self.now c.args.number c.args.segment c.requires

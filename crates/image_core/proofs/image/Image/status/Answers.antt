use Rattle.std.proofs.Common.{◌≡◌, ◌+◌, List, length, refl, sym, ap, ◌∙◌, arith}
use Rattle.image_core.specs.Pieces.{SnapshotView, IsStatusOf}
use Rattle.image_core.specs.Parts.{parts_view}
use Rattle.image_core.specs.Seen.{seen}
use Rattle.image_core.proofs.CommitRefusals.{pending-same}
use Rattle.image_core.proofs.StandFacts.{image-few, image-snapshot}
use Rattle.image_core.proofs.StepReplies.{status-told}
use Rattle.image_core.proofs.image.Image.status.Goals as goal

pub count-requires : goal.count-requires
count-requires g c = omega (arith, image-few (seen g.D.Disk c.args.self.now) c.requires.standing)

pub overflow_add-result : goal.overflow_add-result
overflow_add-result g c =
    let few = image-few (seen g.D.Disk c.args.self.now) c.requires.standing in
    let lowers = c.lowers.ensures ∙ (ap (λ (s : SnapshotView). s.lowers) c.deref.ensures ∙ (image-snapshot (seen g.D.Disk c.args.self.now) c.requires.standing).lowers_are) in
    omega (arith, few, lowers, c.count.ensures)

pub returns-clause-view : goal.returns-clause-view
returns-clause-view g c =
    let lowers = c.lowers.ensures ∙ (ap (λ (s : SnapshotView). s.lowers) c.deref.ensures ∙ (image-snapshot (seen g.D.Disk c.args.self.now) c.requires.standing).lowers_are) in
    record {
      sectors = c.sectors.ensures;
      layers = omega (arith, lowers, c.count.ensures);
      pending = c.pending.ensures ∙ sym (pending-same c.args.self.now.parts.stack.commit);
    }

pub returns-clause-told : goal.returns-clause-told
returns-clause-told g c base history stands =
    status-told (seen g.D.Disk c.args.self.now) (record { sectors = c.sectors.result; layers = c.lowers.result + c.count.result; pending = c.pending.result })
    (returns-clause-view g c) base history stands

use Rattle.std.proofs.Common.{length, ◌∙◌}
use Rattle.std.specs.Arc.{arc_value}
use Rattle.image_read.proofs.Filling.{plan-refused, plan-named, plan-gaps_lie, read-ends, read-charges, all-filled, same-fault, refused-charges}
use Rattle.image_read.proofs.reader.read_planned.Goals as goal

pub returns-in-Err-clause-read : goal.returns-in-Err-clause-read
returns-in-Err-clause-read g c = plan-refused _ _ c.args.extent.at c.args.extent.count c.in-Err.fault c.in-Err.ensures.plan

pub returns-in-Err-clause-worn : goal.returns-in-Err-clause-worn
returns-in-Err-clause-worn g c worn = same-fault c.in-Err.fault _ (c.in-Err.ensures.worn worn)

pub returns-in-Err-clause-cause : goal.returns-in-Err-clause-cause
returns-in-Err-clause-cause g c = refused-charges c.in-Err.fault _ _ c.in-Err.ensures.cause

pub fill-requires-clause-named : goal.fill-requires-clause-named
fill-requires-clause-named g c =
    rw c.deref.ensures (plan-named g.D.Disk.tells _ _ c.args.extent c.args.out.now c.plan.new.out c.plan.new.gaps (arc_value c.in-Ok.snapshot) c.plan.new.self.done.value c.in-Ok.ensures.plan c.in-Ok.ensures.done)

pub fill-requires-clause-there : goal.fill-requires-clause-there
fill-requires-clause-there g c =
    plan-gaps_lie g.D.Disk.tells _ _ c.args.extent c.args.out.now c.plan.new.out c.plan.new.gaps c.as_slice.result.now (arc_value c.in-Ok.snapshot) (length c.plan.new.out) c.in-Ok.ensures.plan
    c.as_slice.ensures (c.plan.auto.out ∙ c.requires.size)

pub returns-clause-read : goal.returns-clause-read
returns-clause-read g c =
    let s = arc_value c.in-Ok.snapshot in
    let mid = c.plan.new.self in
    read-ends _ _ _ g.D.Disk.tells c.args.extent c.args.out.now c.plan.new.out c.fill.new.out c.plan.new.gaps s mid.done.value c.fill.result c.in-Ok.ensures.plan (c.fill.auto.out ∙ (c.plan.auto.out ∙ c.requires.size)) c.in-Ok.ensures.done
    c.fill.ensures.reads c.fill.ensures.fails
    (all-filled g.D.Disk.tells (g.S.Shelf.files mid.shelf) mid.image.now.base.lowers mid.done.value s c.args.extent.at c.plan.new.gaps c.plan.new.out c.fill.new.out c.fill.result mid.files_are
    (rw (c.deref.ensures, c.as_slice.ensures) at c.fill.ensures.filled))

pub returns-clause-cause : goal.returns-clause-cause
returns-clause-cause g c = read-charges _ _ _ c.in-Ok.snapshot c.fill.result c.in-Ok.ensures.cause c.fill.ensures.reads c.fill.ensures.fails

pub returns-clause-worn : goal.returns-clause-worn
returns-clause-worn g c worn = absurd (let never = c.in-Ok.ensures.worn worn in cc never)

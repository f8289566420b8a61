use Rattle.std.proofs.Common.{sym, subst}
use Rattle.flat_image.specs.History.{now}
use Rattle.image_core.specs.declared.steps.Step.{Step}
use Rattle.image_core.specs.declared.steps.Reply.TheVariants.{Grown, Frozen, Copied, SealedAs, Swept, Now}
use Rattle.image_core.specs.declared.commit.CopyState.{CopyState}
use Rattle.image_core.specs.Seen.{seen, view, Goes}
use Rattle.image_core.specs.Steps.{noted_with, CountsPieces, IsReply}
use Rattle.image_core.proofs.StepGoes.{goes-not}
use Rattle.image_core.proofs.StepReplies.{grow-replied, freeze-replied, copy-replied, seal-replied}
use Rattle.image_core.proofs.steps.make_step.Goals as goal

pub returns-in-Status-clause-goes : goal.returns-in-Status-clause-goes
returns-in-Status-clause-goes g c =
    let x = seen g.D.Disk c.args.image.now in
    subst (λ (s : Step). Goes x x (noted_with s (Now c.status.result))) (sym c.in-Status.is)
    (goes-not x (λ files left. g.met.D.Disk.now_at c.args.image.now.disk files left))

pub returns-in-Status-clause-reply : goal.returns-in-Status-clause-reply
returns-in-Status-clause-reply g c base history stands =
    subst (λ (s : Step). IsReply g.D.Disk.tells (now base history) s (Now c.status.result)) (sym c.in-Status.is) (c.status.ensures.told base history stands)

pub returns-in-Grow-clause-reply : goal.returns-in-Grow-clause-reply
returns-in-Grow-clause-reply g c base history stands =
    subst (λ (s : Step). IsReply g.D.Disk.tells (now base history) s (Grown c.grow.result)) (sym c.in-Grow.is)
    (grow-replied (seen g.D.Disk c.args.image.now) base history stands (Unit {0}) c.in-Grow.sectors c.grow.result c.grow.ensures.refused)

pub returns-in-Freeze-clause-reply : goal.returns-in-Freeze-clause-reply
returns-in-Freeze-clause-reply g c base history stands =
    subst (λ (s : Step). IsReply g.D.Disk.tells (now base history) s (Frozen c.freeze.result)) (sym c.in-Freeze.is)
    (freeze-replied (seen g.D.Disk c.args.image.now) base history stands (Unit {0}) c.in-Freeze.uuid c.freeze.result c.freeze.ensures.refused)

pub returns-in-Copy-clause-reply : goal.returns-in-Copy-clause-reply
returns-in-Copy-clause-reply g c base history stands =
    subst (λ (s : Step). IsReply g.D.Disk.tells (now base history) s (Copied c.copy.result)) (sym c.in-Copy.is)
    (copy-replied (seen g.D.Disk c.args.image.now) base history stands CopyState c.in-Copy.uuid c.copy.result c.copy.ensures.refused)

pub returns-in-Seal-clause-reply : goal.returns-in-Seal-clause-reply
returns-in-Seal-clause-reply g c base history stands =
    subst (λ (s : Step). IsReply g.D.Disk.tells (now base history) s (SealedAs c.seal.result)) (sym c.in-Seal.is)
    (seal-replied (seen g.D.Disk c.args.image.now) base history stands c.in-Seal.uuid c.seal.result c.seal.ensures.refused c.seal.ensures.epoch)

pub returns-in-Sweep-clause-reply : goal.returns-in-Sweep-clause-reply
returns-in-Sweep-clause-reply g c base history stands =
    subst (λ (s : Step). IsReply g.D.Disk.tells (now base history) s (Swept c.sweep.result)) (sym c.in-Sweep.is) (c.sweep.ensures.told base history stands)

pub returns-in-Copy-clause-pieces : goal.returns-in-Copy-clause-pieces
returns-in-Copy-clause-pieces g c =
    subst (λ (s : Step). CountsPieces (view c.args.image.now) (view c.copy.new.self) s (Copied c.copy.result)) (sym c.in-Copy.is) c.copy.ensures.copied

pub returns-in-Seal-clause-pieces : goal.returns-in-Seal-clause-pieces
returns-in-Seal-clause-pieces g c =
    subst (λ (s : Step). CountsPieces (view c.args.image.now) (view c.seal.new.self) s (SealedAs c.seal.result)) (sym c.in-Seal.is) c.seal.ensures.refused

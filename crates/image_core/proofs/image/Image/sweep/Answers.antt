use Rattle.std.proofs.Common.{◌≡◌, ◌+◌, ◌∙◌, ℕ, refl, sym, ap, subst, arith}
use Rattle.block_disk.specs.Claims.{Run}
use Rattle.sector_extent.specs.CauseLaws.{calm_ok}
use Rattle.image_core.specs.Sweeping.{IsSweptFile, AreEmptied}
use Rattle.flat_image.specs.History.{committed}
use Rattle.image_core.proofs.SheetsRead.{layers-length}
use Rattle.image_core.specs.Seen.{seen}
use Rattle.image_core.proofs.StandFacts.{image-few}
use Rattle.image_core.proofs.Sweeps.{sweep-done, sweep-failed}
use Rattle.image_core.proofs.image.Image.sweep.Goals as goal

pub returns-in-Ok-clause-goes : goal.returns-in-Ok-clause-goes
returns-in-Ok-clause-goes g c =
    sweep-done g.D.Disk c.args.self.now.disk c.empty_tops.new.disk c.args.self.now.parts c.count-count.result c.count-count.ensures c.empty_tops.ensures.run c.empty_tops.ensures.cause.later

pub returns-in-Err-clause-goes : goal.returns-in-Err-clause-goes
returns-in-Err-clause-goes g c =
    sweep-failed g.D.Disk c.args.self.now.disk c.empty_tops.new.disk c.args.self.now.parts c.count-count.result c.count-count.ensures c.empty_tops.ensures.run
    (omega (arith, c.in-Err.ensures.cause.failed refl))

pub returns-in-Ok-clause-told : goal.returns-in-Ok-clause-told
returns-in-Ok-clause-told g c base history stands =
    c.count-count.ensures ∙ sym (layers-length (committed base history) c.args.self.now.parts.stack.committed.items stands.fits.stack.committed)

pub count-count-requires : goal.count-count-requires
count-count-requires g c = omega (arith, image-few (seen g.D.Disk c.args.self.now) c.requires.standing)

pub empty_tops-requires : goal.empty_tops-requires
empty_tops-requires g c = record { few = omega (arith, image-few (seen g.D.Disk c.args.self.now) c.requires.standing, c.count-count.ensures) }

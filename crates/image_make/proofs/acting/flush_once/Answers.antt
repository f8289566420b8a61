use Rattle.std.proofs.Common.{[], ◌∷◌, refl}
use Rattle.flat_image.specs.declared.act.Act.TheVariants as act
use Rattle.flat_image.specs.declared.act.Asked.TheVariants.{Nothing}
use Rattle.flat_image.specs.Entries.{entry}
use Rattle.image_core.specs.Seen.{Seen, seen}
use Rattle.image_make.specs.Steps.{AsksNothing}
use Rattle.image_make.proofs.StepLaws.{one-added, one-step, still-standing, stops-failed}
use Rattle.image_make.proofs.acting.flush_once.Goals as goal

pub returns-in-Ok-clause-adds : goal.returns-in-Ok-clause-adds
returns-in-Ok-clause-adds g c = one-added (seen g.D.Disk c.args.image.now) (seen g.D.Disk c.flush.new.self) act.Flush refl c.in-Ok.ensures.goes

pub returns-in-Ok-clause-standing : goal.returns-in-Ok-clause-standing
returns-in-Ok-clause-standing g c =
    let old : Seen = seen g.D.Disk c.args.image.now in
    let new : Seen = seen g.D.Disk c.flush.new.self in
    still-standing (entry 0 act.Flush ∷ []) old new c.requires.standing (one-added old new act.Flush refl c.in-Ok.ensures.goes)

pub returns-in-Ok-clause-stepped : goal.returns-in-Ok-clause-stepped
returns-in-Ok-clause-stepped g c =
    one-step (seen g.D.Disk c.args.image.now) (seen g.D.Disk c.flush.new.self) act.Flush c.requires.standing c.in-Ok.ensures.goes

pub returns-in-Err-clause-refused : goal.returns-in-Err-clause-refused
returns-in-Err-clause-refused g c =
    let old : Seen = seen g.D.Disk c.args.image.now in
    let new : Seen = seen g.D.Disk c.flush.new.self in
    stops-failed (entry 0 act.Flush ∷ []) AsksNothing old new refl (c.in-Err.ensures.cause.failed refl) (one-added old new (act.Fault Nothing) refl c.in-Err.ensures.goes)

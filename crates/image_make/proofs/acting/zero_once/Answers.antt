use Rattle.std.proofs.Common.{[], ◌∷◌, refl}
use Rattle.std.specs.Prelude.{Some}
use Rattle.flat_image.specs.declared.act.Act.{Act}
use Rattle.flat_image.specs.declared.act.Act.TheVariants as act
use Rattle.flat_image.specs.Entries.{entry}
use Rattle.image_core.specs.Seen.{Goes, Seen, seen}
use Rattle.image_make.specs.Steps.{AsksNothing}
use Rattle.image_make.proofs.StepLaws.{one-added, one-step, same-zero, still-standing, stops-short, unmade}
use Rattle.image_make.proofs.acting.zero_once.Goals as goal

pub returns-in-Ok-clause-adds : goal.returns-in-Ok-clause-adds
returns-in-Ok-clause-adds g c =
    let old : Seen = seen g.D.Disk c.args.image.now in
    let new : Seen = seen g.D.Disk c.zero.new.self in
    let goes = same-zero (λ (a : Act). Goes old new (Some a)) c.extent_of.ensures.place c.extent_of.ensures.count c.in-Ok.ensures.goes in
    one-added old new (act.Zero c.args.at c.args.count) refl goes

pub returns-in-Ok-clause-standing : goal.returns-in-Ok-clause-standing
returns-in-Ok-clause-standing g c =
    let old : Seen = seen g.D.Disk c.args.image.now in
    let new : Seen = seen g.D.Disk c.zero.new.self in
    let goes = same-zero (λ (a : Act). Goes old new (Some a)) c.extent_of.ensures.place c.extent_of.ensures.count c.in-Ok.ensures.goes in
    still-standing (entry 0 (act.Zero c.args.at c.args.count) ∷ []) old new c.requires.standing (one-added old new (act.Zero c.args.at c.args.count) refl goes)

pub returns-in-Ok-clause-stepped : goal.returns-in-Ok-clause-stepped
returns-in-Ok-clause-stepped g c =
    let old : Seen = seen g.D.Disk c.args.image.now in
    let new : Seen = seen g.D.Disk c.zero.new.self in
    one-step old new (act.Zero c.extent_of.result.at c.extent_of.result.count) c.requires.standing c.in-Ok.ensures.goes

pub returns-in-Err-Memory-clause-refused : goal.returns-in-Err-Memory-clause-refused
returns-in-Err-Memory-clause-refused g c =
    let old : Seen = seen g.D.Disk c.args.image.now in
    let new : Seen = seen g.D.Disk c.zero.new.self in
    stops-short (entry 0 (act.Zero c.args.at c.args.count) ∷ []) AsksNothing old new (unmade (act.Zero c.extent_of.result.at c.extent_of.result.count) old new c.in-Err-Memory.field-0 c.in-Err-Memory.field-0-is c.in-Err-Memory.ensures.goes)

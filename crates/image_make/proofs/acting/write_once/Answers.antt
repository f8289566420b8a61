use Rattle.std.proofs.Common.{◌≡◌, ◌*◌, replicate, [], ◌∷◌, refl, ap}
use Rattle.std.specs.Prelude.{Some}
use Rattle.flat_image.specs.declared.act.Act.{Act}
use Rattle.flat_image.specs.declared.act.Act.TheVariants as act
use Rattle.top_writer.specs.declared.fault.WriteFault.{WriteFault}
use Rattle.flat_image.specs.Entries.{entry}
use Rattle.image_core.specs.Seen.{Goes, Seen, seen}
use Rattle.image_make.specs.Steps.{AsksNothing}
use Rattle.image_make.proofs.StepLaws.{broken, one-added, one-step, refuses, same-write, still-standing, stops-failed, stops-short, unmade}
use Rattle.image_make.proofs.acting.write_once.Goals as goal

pub returns-in-Ok-clause-adds : goal.returns-in-Ok-clause-adds
returns-in-Ok-clause-adds g c =
    let old : Seen = seen g.D.Disk c.args.image.now in
    let new : Seen = seen g.D.Disk c.write.new.self in
    let bytes : c.fill_sectors.new.piece ≡ replicate (512 * c.args.count) c.args.byte = c.fill_sectors.ensures in
    let goes = same-write (λ (a : Act). Goes old new (Some a)) c.extent_of.ensures.place bytes c.in-Ok.ensures.goes in
    one-added old new (act.Write c.args.at (replicate (512 * c.args.count) c.args.byte)) refl goes

pub returns-in-Ok-clause-standing : goal.returns-in-Ok-clause-standing
returns-in-Ok-clause-standing g c =
    let old : Seen = seen g.D.Disk c.args.image.now in
    let new : Seen = seen g.D.Disk c.write.new.self in
    still-standing (entry 0 (act.Write c.extent_of.result.at c.fill_sectors.new.piece) ∷ []) old new c.requires.standing
    (one-added old new (act.Write c.extent_of.result.at c.fill_sectors.new.piece) refl c.in-Ok.ensures.goes)

pub returns-in-Ok-clause-stepped : goal.returns-in-Ok-clause-stepped
returns-in-Ok-clause-stepped g c =
    one-step (seen g.D.Disk c.args.image.now) (seen g.D.Disk c.write.new.self) (act.Write c.extent_of.result.at c.fill_sectors.new.piece) c.requires.standing c.in-Ok.ensures.goes

pub returns-in-Err-Memory-clause-refused : goal.returns-in-Err-Memory-clause-refused
returns-in-Err-Memory-clause-refused g c =
    let old : Seen = seen g.D.Disk c.args.image.now in
    let new : Seen = seen g.D.Disk c.write.new.self in
    stops-short (entry 0 (act.Write c.args.at (replicate (512 * c.args.count) c.args.byte)) ∷ []) AsksNothing old new (unmade (act.Write c.extent_of.result.at c.fill_sectors.new.piece) old new c.in-Err-Memory.field-0 c.in-Err-Memory.field-0-is c.in-Err-Memory.ensures.goes)

pub returns-in-Err-Failed-clause-refused : goal.returns-in-Err-Failed-clause-refused
returns-in-Err-Failed-clause-refused g c =
    let old : Seen = seen g.D.Disk c.args.image.now in
    let new : Seen = seen g.D.Disk c.write.new.self in
    stops-failed (entry 0 (act.Write c.args.at (replicate (512 * c.args.count) c.args.byte)) ∷ []) AsksNothing old new refl (c.in-Err-Failed.ensures.cause.failed (ap (λ (w : WriteFault). refuses w) c.in-Err-Failed.field-0-is))
    (broken (act.Write c.extent_of.result.at c.fill_sectors.new.piece) old new c.in-Err-Failed.field-0 c.in-Err-Failed.field-0-is c.in-Err-Failed.ensures.goes)

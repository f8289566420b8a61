use Rattle.std.proofs.Common.{◌*◌, [], ◌∷◌, length, replicate, sym, subst}
use Rattle.std.specs.Prelude.{IfErr}
use Rattle.flat_image.specs.declared.act.Act.TheVariants as act
use Rattle.image_core.specs.Committing.{uuids_in}
use Rattle.image_core.specs.Seen.{Seen, seen, view}
use Rattle.image_commands.specs.Images.{entries}
use Rattle.image_make.specs.declared.draws.Drawn.{Drawn}
use Rattle.image_make.specs.declared.draws.Drawn.TheVariants.{Flush, Zero, Write}
use Rattle.image_make.specs.Acts.{acts_with}
use Rattle.image_make.specs.Making.{AsksIn}
use Rattle.image_make.specs.Steps.{AsksNothing, StopsIn}
use Rattle.image_make.proofs.StepLaws.{stops-asked}
use Rattle.image_make.proofs.acting.act_on.Goals as goal

pub returns-in-Flush-clause-refused : goal.returns-in-Flush-clause-refused
returns-in-Flush-clause-refused g c =
    let old : Seen = seen g.D.Disk c.args.image.now in
    let new : Seen = seen g.D.Disk c.flush_once.new.image in
    subst (λ (d : Drawn). IfErr c.flush_once.result (StopsIn (entries (acts_with (length (uuids_in (view c.args.image.now))) d)) (AsksIn d) old new)) (sym c.in-Flush.is)
    (stops-asked c.flush_once.result (entries (act.Flush ∷ [])) AsksNothing (AsksIn Flush) old new (λ asked is. is) c.flush_once.ensures.refused)

pub returns-in-Zero-clause-refused : goal.returns-in-Zero-clause-refused
returns-in-Zero-clause-refused g c =
    let old : Seen = seen g.D.Disk c.args.image.now in
    let new : Seen = seen g.D.Disk c.zero_once.new.image in
    subst (λ (d : Drawn). IfErr c.zero_once.result (StopsIn (entries (acts_with (length (uuids_in (view c.args.image.now))) d)) (AsksIn d) old new)) (sym c.in-Zero.is)
    (stops-asked c.zero_once.result (entries (act.Zero c.in-Zero.at c.in-Zero.count ∷ [])) AsksNothing (AsksIn (Zero c.in-Zero.at c.in-Zero.count)) old new (λ asked is. is) c.zero_once.ensures.refused)

pub returns-in-Write-clause-refused : goal.returns-in-Write-clause-refused
returns-in-Write-clause-refused g c =
    let old : Seen = seen g.D.Disk c.args.image.now in
    let new : Seen = seen g.D.Disk c.write_once.new.image in
    subst (λ (d : Drawn). IfErr c.write_once.result (StopsIn (entries (acts_with (length (uuids_in (view c.args.image.now))) d)) (AsksIn d) old new)) (sym c.in-Write.is)
    (stops-asked c.write_once.result (entries (act.Write c.in-Write.at (replicate (512 * c.in-Write.count) c.in-Write.byte) ∷ [])) AsksNothing
    (AsksIn (Write c.in-Write.at c.in-Write.count c.in-Write.byte)) old new (λ asked is. is) c.write_once.ensures.refused)

pub returns-in-Commit-clause-refused : goal.returns-in-Commit-clause-refused
returns-in-Commit-clause-refused g c =
    let old : Seen = seen g.D.Disk c.args.image.now in
    let new : Seen = seen g.D.Disk c.commit_once.new.image in
    subst (λ (d : Drawn). IfErr c.commit_once.result (StopsIn (entries (acts_with (length (uuids_in (view c.args.image.now))) d)) (AsksIn d) old new)) (sym c.in-Commit.is)
    c.commit_once.ensures.refused

use Rattle.std.proofs.Common.{◌≡◌, ℕ, List, [], length, ap, ◌∙◌, subst}
use Rattle.std.specs.Prelude.{Option}
use Rattle.flat_image.specs.History.{History}
use Rattle.image_core.specs.Committing.{uuids_in}
use Rattle.image_core.specs.Seen.{Seen, seen, view}
use Rattle.layer_commands.specs.declared.refusal.Refusal.{Refusal}
use Rattle.layer_commands.specs.declared.refusal.Refusal.TheVariants as refused
use Rattle.image_commands.specs.Images.{commit_acts, entries}
use Rattle.image_commands.specs.ImageSteps.{Adds, CommitCause}
use Rattle.image_make.proofs.StepLaws.{commit-stops, few-layers, still-standing}
use Rattle.image_make.proofs.acting.commit_once.Goals as goal

pub returns-then-is_too_many-clause-standing : goal.returns-then-is_too_many-clause-standing
returns-then-is_too_many-clause-standing g c =
    let old : Seen = seen g.D.Disk c.args.image.now in
    let new : Seen = seen g.D.Disk c.commit_whole.new.image in
    let is : c.in-Err.refusal ≡ refused.TooManyLayers = c.is_too_many.ensures.0 c.if-is_too_many.true in
    let cause = subst (λ (x : Refusal). CommitCause c.args.uuid old new x) is c.in-Err.ensures.refused in
    still-standing [] old new c.requires.standing cause.2.adds

pub returns-in-Ok-clause-adds : goal.returns-in-Ok-clause-adds
returns-in-Ok-clause-adds g c =
    let old : Seen = seen g.D.Disk c.args.image.now in
    let new : Seen = seen g.D.Disk c.commit_whole.new.image in
    subst (λ (h : History). Adds h old new)
    (ap (λ (o : Option (List ℕ)). entries (commit_acts c.args.uuid o)) c.requires.free
    ∙ few-layers (length (uuids_in (view c.args.image.now))) c.args.uuid (λ full. let is = c.in-Ok.ensures.many c.requires.free full in cc)) c.in-Ok.ensures.adds

pub returns-else-is_too_many-clause-refused : goal.returns-else-is_too_many-clause-refused
returns-else-is_too_many-clause-refused g c =
    let old : Seen = seen g.D.Disk c.args.image.now in
    let new : Seen = seen g.D.Disk c.commit_whole.new.image in
    commit-stops c.args.uuid old new c.in-Err.refusal c.requires.free c.requires.unlike
    (λ is. let told = c.is_too_many.ensures.1 is in let other = c.if-is_too_many.false in cc)
    (λ full. let is = c.in-Err.ensures.many c.requires.free full in cc) c.in-Err.ensures.refused

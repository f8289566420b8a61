use Rattle.std.proofs.Common.{◌≡◌, ℕ, List, subst, ◌∙◌}
use Rattle.flat_image.proofs.HistoryLaws.{now-lowers}
use Rattle.image_core.specs.View.{AreLayersOf}
use Rattle.image_core.specs.Seen.{Seen, seen}
use Rattle.image_core.proofs.SheetsRead.{layers-length}
use Rattle.image_tests.specs.Over.{IsOver}
use Rattle.image_tests.proofs.scenes.read.Goals as goal

told-of : (x : Seen) (files : List (List ℕ)) → IsOver files x → AreLayersOf files x.parts.stack.lowers
told-of x files over =
    subst (λ (l : List (List ℕ)). AreLayersOf l x.parts.stack.lowers) (now-lowers over.0 over.1 ∙ over.2) over.3.fits.stack.lowers_are

pub read_whole-answer-requires-clause-count : goal.read_whole-answer-requires-clause-count
read_whole-answer-requires-clause-count g c =
    layers-length c.args.shelf.now.files _ (told-of (seen g.D.Disk c.args.image.now) c.args.shelf.now.files c.requires.over)

pub read_whole-answer-requires-clause-told : goal.read_whole-answer-requires-clause-told
read_whole-answer-requires-clause-told g c = λ files e.
    let same : c.args.shelf.now.files ≡ files = cc in
    subst (λ (l : List (List ℕ)). AreLayersOf l c.args.image.now.parts.stack.lowers) same
    (told-of (seen g.D.Disk c.args.image.now) c.args.shelf.now.files c.requires.over)

pub returns : goal.returns
returns g c =
    let o = c.requires.over in
    let kept = c.read_whole-answer.ensures.same.files in
    let same : c.args.shelf.now.files ≡ c.read_whole-answer.new.shelf.files = cc in
    record { over = (o.0, _, o.2 ∙ same, c.read_whole-answer.ensures.goes.stands o.0 o.1 0 o.3) }

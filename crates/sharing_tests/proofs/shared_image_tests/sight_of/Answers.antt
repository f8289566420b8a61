use Rattle.std.proofs.Common.{◌≡◌, ℕ, List, [], length, sym, ap, subst, ◌∙◌}
use Rattle.flat_image.specs.declared.base.Base.{Base}
use Rattle.flat_image.specs.History.{History}
use Rattle.flat_image.proofs.HistoryLaws.{now-lowers}
use Rattle.image_core.specs.View.{AreLayersOf}
use Rattle.image_core.specs.Seen.{Seen, StandsFor, seen}
use Rattle.image_core.proofs.SheetsRead.{layers-length}
use Rattle.sharing_tests.proofs.shared_image_tests.sight_of.Goals as goal

told-of : (x : Seen) → ((base : Base) × (history : History) × (base.lowers ≡ []) × StandsFor x base history)
    → AreLayersOf [] x.parts.stack.lowers
told-of x over =
    subst (λ (l : List (List ℕ)). AreLayersOf l x.parts.stack.lowers) (now-lowers over.0 over.1 ∙ over.2) over.3.fits.stack.lowers_are

pub read_whole-answer-requires-clause-count : goal.read_whole-answer-requires-clause-count
read_whole-answer-requires-clause-count g c =
    ap (λ (l : List (List ℕ)). length l) c.no_files-shelf.ensures ∙ layers-length [] _ (told-of (seen g.D.Disk c.args.image.now) c.requires.over)

pub read_whole-answer-requires-clause-told : goal.read_whole-answer-requires-clause-told
read_whole-answer-requires-clause-told g c = λ files e.
    let same : c.no_files-shelf.result.files ≡ files = cc in
    subst (λ (l : List (List ℕ)). AreLayersOf l c.args.image.now.parts.stack.lowers) (sym c.no_files-shelf.ensures ∙ same)
    (told-of (seen g.D.Disk c.args.image.now) c.requires.over)

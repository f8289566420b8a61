-- What the disk of an image that was served shows.
use Rattle.std.proofs.Common.{◌≡◌, ℕ, suc, IsTrue, List, [], ◌∷◌, ◌++◌, length, refl, ap, ◌∙◌, subst, arith, length-append}
use Rattle.block_disk.specs.DiskState.{Leaves}
use Rattle.flat_image.specs.declared.act.Act.TheVariants.{Flush}
use Rattle.flat_image.specs.declared.base.Base.{Base}
use Rattle.flat_image.specs.Entries.{entry}
use Rattle.flat_image.specs.History.{History, now, kept}
use Rattle.flat_image.proofs.HistoryLaws.{kept-entry}
use Rattle.image_core.specs.Seen.{Seen, StandsFor}
use Rattle.image_core.proofs.StandLaws.{kept-shows}
use Rattle.image_commands.specs.Images.{LeavesOf, Holds}
use Rattle.image_commands.specs.ImageSteps.{port_of}
use Rattle.image_commands.proofs.ImageLaws.{stands-for, holds-of}
use Rattle.lane_serve.specs.declared.lane.LaneEnd.{LaneEnd}
use Rattle.lane_export.specs.declared.export_end.ExportEnd.{ExportEnd}
use Rattle.lane_export.specs.declared.export_end.ExportEnd.TheVariants as export_end
use Rattle.lane_export.specs.Lanes.{EndsWith, WhyEnded, IsUnblamed}

-- all of a history that ends with a flush is kept
all-kept : (history : History) (number : ℕ) → EndsWith history number Flush → kept history ≡ length history
all-kept history number (before, is) =
    let here : kept history ≡ suc (length before) = ap (λ (h : History). kept h) is ∙ kept-entry before number Flush refl in
    let long : length history ≡ length (before ++ entry number Flush ∷ []) = ap (λ (h : History). length h) is in
    let joined = length-append before (entry number Flush ∷ []) in
    omega (arith, here, long, joined)

pub shown-left : (image : Seen) (base : Base) (history : History) → StandsFor image base history → LeavesOf (port_of image) base history
shown-left image base history stands files leaves = (stands-for image base history stands).crash files leaves

pub shown-holds : (image : Seen) (base : Base) (history : History) (ends : List LaneEnd) (number : ℕ) (end : ExportEnd) → StandsFor image base history → WhyEnded ends history number end
    → (IsTrue image.tells → Leaves image.state image.state.seen) → end ≡ export_end.Flushed → IsUnblamed history → Holds (port_of image) (now base history)
shown-holds image base history ends number end stands why stay is unblamed =
    let flushed = (subst (WhyEnded ends history number) is why).1 in
    holds-of (port_of image) (now base history) stay
    (λ files leaves. kept-shows base history files (shown-left image base history stands files leaves) (all-kept history number flushed) unblamed.0 unblamed.1)

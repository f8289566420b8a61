use Rattle.std.proofs.Common.{◌≡◌, ℕ, ◌+◌, ◌*◌, ◌≤◌, List, [], ◌∷◌, ◌++◌, length, refl, sym, ap, ◌∙◌, subst, arith}
use Rattle.std.specs.Prelude.{Option, Some, None, IfSome}
use Rattle.sector_extent.specs.declared.extent.Extent.{Extent}
use Rattle.sector_extent.specs.CauseLaws.{calm_value, calm_ok}
use Rattle.flat_image.specs.Frozen.{Frozen}
use Rattle.flat_image.specs.Sheets.{IsSheet}
use Rattle.flat_image.specs.Base.{IsFrozen}
use Rattle.flat_image.specs.Left.{Stand, stand}
use Rattle.top_writer.specs.declared.fault.ReadFault.TheVariants.{Failed}
use Rattle.top_writer.specs.Files.{HeadsAsked}
use Rattle.top_writer.specs.Gaps.{Paints, IsHole, AreGaps}
use Rattle.top_writer.proofs.Going.{fits_quiet}
use Rattle.top_writer.proofs.QuietLaws.{quiet_joined}
use Rattle.image_core.specs.Parts.{frozen_stand}
use Rattle.image_core.specs.Shows.{epoch_of, heads_asked}
use Rattle.image_core.specs.Upper.{over_frozen, AreAdded}
use Rattle.image_core.proofs.Copies.{frozen-some}
use Rattle.std.proofs.lemmas.Result.{err_from_is_err_and}
use Rattle.image_core.proofs.FaultCounts.{charges-after}
use Rattle.image_core.proofs.FilledSectors.{gaps-lie, gaps-within}
use Rattle.image_core.proofs.Grows.{none-frozen}
use Rattle.image_core.proofs.OverTops.{over-paints, over-gaps}
use Rattle.image_core.proofs.parts.Parts.read_upper.Goals as goal

pub read_parts-requires-clause-there : goal.read_parts-requires-clause-there
read_parts-requires-clause-there g c =
    let (b, tops, attempts, base_is, fit) = c.requires.fits in
    let asked : HeadsAsked = heads_asked fit.exact (epoch_of b) b.lowers in
    let adds = c.in_ok-read_part-in-Some.ensures.gaps b.sectors asked (stand b) tops fit.top in
    let empty = c.from_vec-under.ensures ∙ c.new.ensures.items in
    let end : ℕ = c.args.extent.at + c.args.extent.count in
    let are : AreGaps (IsHole b.top) c.args.extent.at end c.as_slice.result.now =
    subst (AreGaps (IsHole b.top) c.args.extent.at end) (sym (c.as_slice.ensures ∙ (adds.behind ∙ ap (λ (l : List Extent). l ++ adds.added) empty))) adds.gaps in
    gaps-lie (IsHole b.top) c.args.extent.at (length c.read_part-in-Some.new.out) c.args.extent.at end c.as_slice.result.now
    (omega arith) (omega (arith, c.read_part-in-Some.ensures.size, c.requires.size)) are

pub read_parts-requires-clause-within : goal.read_parts-requires-clause-within
read_parts-requires-clause-within g c =
    let (b, tops, attempts, base_is, fit) = c.requires.fits in
    let asked : HeadsAsked = heads_asked fit.exact (epoch_of b) b.lowers in
    let adds = c.in_ok-read_part-in-Some.ensures.gaps b.sectors asked (stand b) tops fit.top in
    let empty = c.from_vec-under.ensures ∙ c.new.ensures.items in
    let end : ℕ = c.args.extent.at + c.args.extent.count in
    let are : AreGaps (IsHole b.top) c.args.extent.at end c.as_slice.result.now =
    subst (AreGaps (IsHole b.top) c.args.extent.at end) (sym (c.as_slice.ensures ∙ (adds.behind ∙ ap (λ (l : List Extent). l ++ adds.added) empty))) adds.gaps in
    let own = frozen-some g.D.Disk.tells (g.D.Disk.state c.args.disk.now) fit.exact b.sectors b.lowers b.done b.frozen c.args.self.now.stack.commit c.in-Some.commit c.in-Some.is fit.stack.commit in
    let under : HeadsAsked = heads_asked fit.exact (length b.done) b.lowers in
    let s : Stand = frozen_stand own.0 own.2.rows own.2.filled in
    let mid = fits_quiet g.D.Disk.tells (g.D.Disk.state c.args.disk.now) (g.D.Disk.state c.read_part-in-Some.new.disk) b.sectors under c.in-Some.commit.top s (s ∷ []) c.read_part-in-Some.ensures.quiet own.2.top in
    gaps-within (IsHole b.top) c.args.extent.at end _ c.as_slice.result.now (omega (arith, c.requires.within, fit.top.holds.sectors, own.2.top.holds.sectors)) are

pub read_parts-requires-clause-fits : goal.read_parts-requires-clause-fits
read_parts-requires-clause-fits g c =
    let (b, tops, attempts, base_is, fit) = c.requires.fits in
    let own = frozen-some g.D.Disk.tells (g.D.Disk.state c.args.disk.now) fit.exact b.sectors b.lowers b.done b.frozen c.args.self.now.stack.commit c.in-Some.commit c.in-Some.is fit.stack.commit in
    let under : HeadsAsked = heads_asked fit.exact (length b.done) b.lowers in
    let s : Stand = frozen_stand own.0 own.2.rows own.2.filled in
    let mid = fits_quiet g.D.Disk.tells (g.D.Disk.state c.args.disk.now) (g.D.Disk.state c.read_part-in-Some.new.disk) b.sectors under c.in-Some.commit.top s (s ∷ []) c.read_part-in-Some.ensures.quiet own.2.top in
    record { n = b.sectors; asked = under; stand = s; may = s ∷ []; fits = mid }

pub returns-in_ok-read_part-in-None-clause-bytes : goal.returns-in_ok-read_part-in-None-clause-bytes
returns-in_ok-read_part-in-None-clause-bytes g c told b tops attempts fit base_is =
    let none : b.frozen ≡ None = none-frozen g.D.Disk.tells (g.D.Disk.state c.args.disk.now) fit.exact b.sectors b.lowers b.done b.frozen c.args.self.now.stack.commit c.in-None.is fit.stack.commit in
    subst (λ (o : Option Frozen). Paints (over_frozen o b.top) c.args.extent.at c.args.extent.count c.args.out.now c.read_part.new.out) (sym none)
    (c.in_ok-read_part-in-None.ensures.bytes told b.sectors (heads_asked fit.exact (epoch_of b) b.lowers) (stand b) tops fit.top)

pub returns-in_ok-read_part-in-None-clause-gaps : goal.returns-in_ok-read_part-in-None-clause-gaps
returns-in_ok-read_part-in-None-clause-gaps g c b tops attempts fit =
    let none : b.frozen ≡ None = none-frozen g.D.Disk.tells (g.D.Disk.state c.args.disk.now) fit.exact b.sectors b.lowers b.done b.frozen c.args.self.now.stack.commit c.in-None.is fit.stack.commit in
    let adds = c.in_ok-read_part-in-None.ensures.gaps b.sectors (heads_asked fit.exact (epoch_of b) b.lowers) (stand b) tops fit.top in
    let end : ℕ = c.args.extent.at + c.args.extent.count in
    subst (λ (o : Option Frozen). AreGaps (IsHole (over_frozen o b.top)) c.args.extent.at end c.read_part.new.gaps) (sym none)
    (subst (AreGaps (IsHole b.top) c.args.extent.at end) (sym (adds.behind ∙ ap (λ (l : List Extent). l ++ adds.added) c.requires.empty)) adds.gaps)

pub returns-in_ok-read_parts-in-Some-clause-bytes : goal.returns-in_ok-read_parts-in-Some-clause-bytes
returns-in_ok-read_parts-in-Some-clause-bytes g c told b tops attempts fit base_is =
    let asked : HeadsAsked = heads_asked fit.exact (epoch_of b) b.lowers in
    let adds = c.in_ok-read_part-in-Some.ensures.gaps b.sectors asked (stand b) tops fit.top in
    let empty = c.from_vec-under.ensures ∙ c.new.ensures.items in
    let end : ℕ = c.args.extent.at + c.args.extent.count in
    let are : AreGaps (IsHole b.top) c.args.extent.at end c.as_slice.result.now =
    subst (AreGaps (IsHole b.top) c.args.extent.at end) (sym (c.as_slice.ensures ∙ (adds.behind ∙ ap (λ (l : List Extent). l ++ adds.added) empty))) adds.gaps in
    let own = frozen-some g.D.Disk.tells (g.D.Disk.state c.args.disk.now) fit.exact b.sectors b.lowers b.done b.frozen c.args.self.now.stack.commit c.in-Some.commit c.in-Some.is fit.stack.commit in
    let under : HeadsAsked = heads_asked fit.exact (length b.done) b.lowers in
    let s : Stand = frozen_stand own.0 own.2.rows own.2.filled in
    let mid = fits_quiet g.D.Disk.tells (g.D.Disk.state c.args.disk.now) (g.D.Disk.state c.read_part-in-Some.new.disk) b.sectors under c.in-Some.commit.top s (s ∷ []) c.read_part-in-Some.ensures.quiet own.2.top in
    let sheet : IsSheet b.sectors own.0.sheet = (subst (λ (o : Option Frozen). IfSome o (IsFrozen b.sectors)) own.1 base_is.frozen_is).sheet_is in
    subst (λ (o : Option Frozen). Paints (over_frozen o b.top) c.args.extent.at c.args.extent.count c.args.out.now c.read_parts.new.out) (sym own.1)
    (over-paints b.sectors own.0.sheet b.top c.args.extent.at c.args.extent.count c.as_slice.result.now c.args.out.now c.read_part-in-Some.new.out c.read_parts.new.out sheet base_is.top_is
    (omega (arith, c.requires.within, fit.top.holds.sectors)) c.requires.size (c.read_parts.ensures.size ∙ (c.read_part-in-Some.ensures.size ∙ c.requires.size))
    (c.in_ok-read_part-in-Some.ensures.bytes told b.sectors asked (stand b) tops fit.top) are
    (c.in_ok-read_parts-in-Some.ensures.bytes told b.sectors under s (s ∷ []) mid sheet))

pub returns-in_ok-read_parts-in-Some-clause-gaps : goal.returns-in_ok-read_parts-in-Some-clause-gaps
returns-in_ok-read_parts-in-Some-clause-gaps g c b tops attempts fit =
    let asked : HeadsAsked = heads_asked fit.exact (epoch_of b) b.lowers in
    let adds = c.in_ok-read_part-in-Some.ensures.gaps b.sectors asked (stand b) tops fit.top in
    let empty = c.from_vec-under.ensures ∙ c.new.ensures.items in
    let end : ℕ = c.args.extent.at + c.args.extent.count in
    let are : AreGaps (IsHole b.top) c.args.extent.at end c.as_slice.result.now =
    subst (AreGaps (IsHole b.top) c.args.extent.at end) (sym (c.as_slice.ensures ∙ (adds.behind ∙ ap (λ (l : List Extent). l ++ adds.added) empty))) adds.gaps in
    let own = frozen-some g.D.Disk.tells (g.D.Disk.state c.args.disk.now) fit.exact b.sectors b.lowers b.done b.frozen c.args.self.now.stack.commit c.in-Some.commit c.in-Some.is fit.stack.commit in
    let under : HeadsAsked = heads_asked fit.exact (length b.done) b.lowers in
    let s : Stand = frozen_stand own.0 own.2.rows own.2.filled in
    let mid = fits_quiet g.D.Disk.tells (g.D.Disk.state c.args.disk.now) (g.D.Disk.state c.read_part-in-Some.new.disk) b.sectors under c.in-Some.commit.top s (s ∷ []) c.read_part-in-Some.ensures.quiet own.2.top in
    subst (λ (o : Option Frozen). AreGaps (IsHole (over_frozen o b.top)) c.args.extent.at end c.read_parts.new.gaps) (sym own.1)
    (over-gaps own.0.sheet b.top c.args.extent.at end c.as_slice.result.now c.read_parts.new.gaps are
    (subst (λ (l : List Extent). AreAdded (IsHole own.0.sheet) c.as_slice.result.now l c.read_parts.new.gaps) c.requires.empty
    (c.in_ok-read_parts-in-Some.ensures.gaps b.sectors under s (s ∷ []) mid)))

pub returns-in_ok-read_parts-in-Some-clause-quiet : goal.returns-in_ok-read_parts-in-Some-clause-quiet
returns-in_ok-read_parts-in-Some-clause-quiet g c =
    quiet_joined (g.D.Disk.state c.args.disk.now) (g.D.Disk.state c.read_part-in-Some.new.disk) (g.D.Disk.state c.read_parts.new.disk) c.read_part-in-Some.ensures.quiet c.read_parts.ensures.quiet

pub returns-in_err-read_parts-in-Some-clause-quiet : goal.returns-in_err-read_parts-in-Some-clause-quiet
returns-in_err-read_parts-in-Some-clause-quiet g c =
    quiet_joined (g.D.Disk.state c.args.disk.now) (g.D.Disk.state c.read_part-in-Some.new.disk) (g.D.Disk.state c.read_parts.new.disk) c.read_part-in-Some.ensures.quiet c.read_parts.ensures.quiet

pub returns-in_ok-read_parts-in-Some-clause-cause : goal.returns-in_ok-read_parts-in-Some-clause-cause
returns-in_ok-read_parts-in-Some-clause-cause g c =
    charges-after g.D.Disk.faults c.args.disk.now c.read_part-in-Some.new.disk c.read_parts.new.disk _
    (calm_value g.D.Disk.faults c.args.disk.now c.read_part-in-Some.new.disk tt Failed c.in_ok-read_part-in-Some.ensures.cause) c.in_ok-read_parts-in-Some.ensures.cause

pub returns-in_err-read_parts-in-Some-clause-cause : goal.returns-in_err-read_parts-in-Some-clause-cause
returns-in_err-read_parts-in-Some-clause-cause g c =
    let p = err_from_is_err_and c.from_residual-in_err-read_parts-in-Some.result c.from_residual-in_err-read_parts-in-Some.ensures.1 in
    rw (p.1, p.2)
    (charges-after g.D.Disk.faults c.args.disk.now c.read_part-in-Some.new.disk c.read_parts.new.disk _
    (calm_value g.D.Disk.faults c.args.disk.now c.read_part-in-Some.new.disk tt Failed c.in_ok-read_part-in-Some.ensures.cause) c.in_err-read_parts-in-Some.ensures.cause)

-- What a plan reads of an image: its upper part, over the layers.
use Rattle.std.proofs.Common.{◌≡◌, ℕ, ◌+◌, ◌*◌, ◌<◌, ◌≤◌, List, [], ◌∷◌, ◌++◌, length, map, refl, sym, ap, ◌∙◌, subst, arith}
use Rattle.std.specs.Prelude.{All, Option, Some, None, IfSome, slice_index_or, fold, replicate}
use Rattle.std.proofs.lemmas.List.Sums.{fold-append}
use Rattle.std.proofs.lemmas.List.Elements.{All-nil, All-cons, All-append}
use Rattle.flat_image.specs.declared.base.Base.{Base}
use Rattle.flat_image.specs.Sheets.{Cell, Hole, Zero, Filled, IsSheet, zero_sector, painted, paint, flat}
use Rattle.flat_image.specs.Frozen.{Frozen}
use Rattle.flat_image.specs.Base.{sheet_list, image_of, IsFrozen, IsBase}
use Rattle.flat_image.specs.LayerReading.{sheet_in}
use Rattle.flat_image.specs.History.{History, now, after, committed}
use Rattle.flat_image.proofs.HistoryLaws.{base-stays, after-is_image, now-lowers, layer_fits}
use Rattle.flat_image.proofs.Painting.{FitsIn, length-flat, flat-over}
use Rattle.top_writer.specs.Gaps.{Paints, IsHole}
use Rattle.image_core.specs.Parts.{parts_view}
use Rattle.image_core.specs.Seen.{Seen, StandsFor}
use Rattle.image_core.specs.Upper.{cell_over, sheet_over, over_frozen, upper, IsGap}
use Rattle.image_core.specs.Planning.{IsPlanned, PlanReads}
use Rattle.image_core.proofs.OverTops.{over-sheet}
use Rattle.image_core.proofs.Planned.{over-ground, get_or-paint, under-hole}

-- an image under a sheet over another
painted-over : (sector : List ℕ) (under over : Cell) → painted (painted sector under) over ≡ painted sector (cell_over under over)
painted-over sector under Hole = refl
painted-over sector under Zero = refl
painted-over sector under (Filled new) = refl

paint-over : (image : List (List ℕ)) (under over : List Cell) → paint (paint image under) over ≡ paint image (sheet_over under over)
paint-over [] [] over = refl
paint-over [] (cell ∷ under) [] = refl
paint-over [] (cell ∷ under) (above ∷ over) = λ i. painted-over zero_sector cell above i ∷ paint-over [] under over i
paint-over (sector ∷ image) [] over = refl
paint-over (sector ∷ image) (cell ∷ under) [] = refl
paint-over (sector ∷ image) (cell ∷ under) (above ∷ over) = λ i. painted-over sector cell above i ∷ paint-over image under over i

-- the upper part of an image is a sheet,
pub upper-sheet : (n : ℕ) (frozen : Option Frozen) (top : List Cell) → IfSome frozen (IsFrozen n) → IsSheet n top → IsSheet n (over_frozen frozen top)
upper-sheet n None top is top_is = top_is
upper-sheet n (Some f) top is top_is = over-sheet n f.sheet top is.sheet_is top_is

-- and over the layers it makes the image
frozen-fits : (n : ℕ) (frozen : Option Frozen) → IfSome frozen (IsFrozen n) → All (FitsIn n) (sheet_list frozen)
frozen-fits n None is = All-nil (FitsIn n)
frozen-fits n (Some f) is = All-cons (FitsIn n) f.sheet [] (omega (arith, is.sheet_is.count)) (All-nil (FitsIn n))

over-layers : (image : List (List ℕ)) (frozen : Option Frozen) (top : List Cell) → fold paint image (sheet_list frozen ++ top ∷ []) ≡ paint image (over_frozen frozen top)
over-layers image None top = refl
over-layers image (Some f) top = paint-over image f.sheet top

pub image-upper : (b : Base) → IsBase b → image_of b ≡ paint (flat b.sectors (map sheet_in (b.lowers ++ b.done))) (upper b)
image-upper b base =
    let layers : List (List Cell) = map sheet_in (b.lowers ++ b.done) in
    let tops : List (List Cell) = sheet_list b.frozen ++ b.top ∷ [] in
    let fits : All (FitsIn b.sectors) layers = layer_fits 0 b.sectors (b.lowers ++ b.done) base.layers base.rising in
    let more : All (FitsIn b.sectors) tops =
    All-append (FitsIn b.sectors) (sheet_list b.frozen) (b.top ∷ []) (frozen-fits b.sectors b.frozen base.frozen_is)
    (All-cons (FitsIn b.sectors) b.top [] (omega (arith, base.top_is.count)) (All-nil (FitsIn b.sectors))) in
    let blank : List (List ℕ) = replicate b.sectors zero_sector in
    flat-over b.sectors (layers ++ tops) (All-append (FitsIn b.sectors) layers tops fits more)
    ∙ (fold-append paint blank layers tops
    ∙ (over-layers (fold paint blank layers) b.frozen b.top
    ∙ ap (λ (image : List (List ℕ)). paint image (upper b)) (sym (flat-over b.sectors layers fits))))

module _ (x : Seen) (base : Base) (history : History) (stands : StandsFor x base history) where
  abbrev b : Base
  b = now base history

  abbrev n : ℕ
  n = (parts_view x.parts).sectors

  abbrev ground : List (List ℕ)
  ground = flat b.sectors (map sheet_in (b.lowers ++ b.done))

  good : IsBase b
  good = (base-stays base history stands.base_is stands.few stands.proper).0

  long : length ground ≡ b.sectors
  long = length-flat b.sectors (map sheet_in (b.lowers ++ b.done)) (layer_fits 0 b.sectors (b.lowers ++ b.done) good.layers good.rising)

  sectors : n ≡ b.sectors
  sectors = stands.fits.top.holds.sectors

  above : IsSheet b.sectors (upper b)
  above = upper-sheet b.sectors b.frozen b.top good.frozen_is good.top_is

  image : paint ground (upper b) ≡ after base history
  image = sym (image-upper b good) ∙ after-is_image base history stands.base_is stands.few stands.proper

  layers : ground ≡ flat n (map sheet_in (base.lowers ++ b.done))
  layers = let lows : b.lowers ≡ base.lowers = now-lowers base history in λ i. flat (sym sectors i) (map sheet_in (lows i ++ b.done))

  -- in a gap, whatever the disk tells, the image is that of the layers alone
  pub holes-below : (i : ℕ) → i < (parts_view x.parts).sectors → IsGap (now base history) i
      → slice_index_or (after base history) i [] ≡ slice_index_or (flat (parts_view x.parts).sectors (map sheet_in (base.lowers ++ committed base history))) i []
  holes-below i below gap =
      ap (λ (m : List (List ℕ)). slice_index_or m i []) (sym image)
      ∙ (get_or-paint ground (upper b) i (omega (arith, below, sectors, long)) (omega (arith, below, sectors, above.count))
      ∙ (under-hole (slice_index_or ground i []) (slice_index_or (upper b) i Hole) gap ∙ ap (λ (l : List (List ℕ)). slice_index_or l i []) layers))

  pub plan-reads : (at count : ℕ) (old new : List ℕ) → PlanReads x base history at count old new
  plan-reads at count old new k size within paints =
      subst (λ (l : List (List ℕ)). IsPlanned (after base history) l (IsGap b) at count old new) layers
      (subst (λ (m : List (List ℕ)). IsPlanned m ground (IsGap b) at count old new) image
      (over-ground ground (upper b) b.sectors long above at count old new size (omega (arith, within, sectors)) paints))

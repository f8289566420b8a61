-- What a plan reads, sector by sector.
use Rattle.std.proofs.Common.{◌≡◌, ℕ, zero, suc, ◌+◌, ◌*◌, ◌<◌, ◌≤◌, List, [], ◌∷◌, ◌++◌, length, map, take, drop, refl, sym, ap, ◌∙◌, subst, arith}
use Rattle.std.specs.Prelude.{All, Option, None, slice_index_or, fold, replicate}
use Rattle.std.proofs.Math.Seq.{take-append_seam, drop-append-add}
use Rattle.std.proofs.lemmas.List.{drop-drop, length-drop, get_or-take, get_or-drop, length-take-le}
use Rattle.std.proofs.lemmas.List.Sums.{fold-append}
use Rattle.std.proofs.lemmas.List.Elements.{All-nil, All-cons, All-head, All-tail, All-take, All-drop}
use Rattle.sector_extent.specs.declared.extent.Extent.{Extent}
use Rattle.flat_image.specs.declared.base.Base.{Base}
use Rattle.flat_image.specs.Sheets.{Cell, Hole, Zero, Filled, IsCell, IsSector, IsSheet, zero_sector, painted, paint, flat, bytes_of, image_in}
use Rattle.flat_image.specs.RowCells.{sector_at}
use Rattle.flat_image.specs.Frozen.{Frozen}
use Rattle.flat_image.specs.Base.{sheet_list, image_of, IsLayerFile, IsBase}
use Rattle.flat_image.specs.LayerReading.{sheet_in}
use Rattle.flat_image.specs.History.{History, now, after, committed}
use Rattle.flat_image.proofs.HistoryLaws.{base-stays, after-is_image, now-lowers, layer_fits, image-over}
use Rattle.flat_image.proofs.LayerLaws.{sheet_in-IsLayer, IsSheet-IsLayer}
use Rattle.flat_image.proofs.Painting.{FitsIn, AreWhole, length-image_in, AreWhole-image_in, AreSectors-paint, length-flat, length-paint}
use Rattle.top_writer.specs.Gaps.{Paints, IsHole, AreGaps}
use Rattle.image_core.specs.Parts.{parts_view}
use Rattle.image_core.specs.Seen.{Seen, StandsFor}
use Rattle.image_core.specs.Upper.{over_frozen, upper, IsGap}
use Rattle.image_core.specs.Planning.{IsPlanned, PlanReads}
use Rattle.image_core.proofs.FilledSectors.{bytes-are}

-- a sector under a sheet
pub get_or-paint : (image : List (List ℕ)) (cells : List Cell) (k : ℕ) → k < length image → k < length cells
    → slice_index_or (paint image cells) k [] ≡ painted (slice_index_or image k []) (slice_index_or cells k Hole)
get_or-paint [] cells k below within = absurd (omega (arith, below))
get_or-paint (sector ∷ image) [] k below within = absurd (omega (arith, within))
get_or-paint (sector ∷ image) (cell ∷ cells) zero below within = refl
get_or-paint (sector ∷ image) (cell ∷ cells) (suc k) below within = get_or-paint image cells k (omega (arith, below)) (omega (arith, within))

-- a sector of an image that stands as bytes
sector-of : (image : List (List ℕ)) (k : ℕ) → All IsSector image → k < length image → sector_at (bytes_of image) k ≡ slice_index_or image k []
sector-of [] k whole below = absurd (omega (arith, below))
sector-of (sector ∷ image) zero whole below =
    let long : length sector ≡ 512 = All-head IsSector sector image whole in
    ap (λ (n : ℕ). take n (sector ++ bytes_of image)) (sym long) ∙ take-append_seam sector (bytes_of image)
sector-of (sector ∷ image) (suc k) whole below =
    let long : length sector ≡ 512 = All-head IsSector sector image whole in
    let past : 512 * suc k ≡ length sector + 512 * k = omega (arith, long) in
    ap (λ (n : ℕ). take 512 (drop n (sector ++ bytes_of image))) past
    ∙ (ap (take 512) (drop-append-add sector (bytes_of image) (512 * k)) ∙ sector-of image k (All-tail IsSector sector image whole) (omega (arith, below)))

-- an image under the top's cells, where they are a hole and where not
pub under-hole : (sector : List ℕ) (cell : Cell) → cell ≡ Hole → painted sector cell ≡ sector
under-hole sector cell is = ap (painted sector) is

over-hole : (one other : List ℕ) (cell : Cell) → ¬ (cell ≡ Hole) → painted one cell ≡ painted other cell
over-hole one other Hole some = absurd (some refl)
over-hole one other Zero some = refl
over-hole one other (Filled sector) some = refl

-- a sector of bytes that are taken apart
sector-in : (n : ℕ) (bytes : List ℕ) (k : ℕ) → k < n → slice_index_or (image_in n bytes) k [] ≡ sector_at bytes k
sector-in zero bytes k below = absurd (omega (arith, below))
sector-in (suc n) bytes zero below = refl
sector-in (suc n) bytes (suc k) below =
    let past : 512 + 512 * k ≡ 512 * suc k = omega arith in
    sector-in n (drop 512 bytes) k (omega (arith, below)) ∙ ap (take 512) (drop-drop (512 * k) 512 bytes ∙ ap (λ (j : ℕ). drop j bytes) past)

-- a part that cells are painted over, sector by sector
module _ (top : List Cell) (n : ℕ) (is : IsSheet n top) (at count : ℕ) (old new : List ℕ) (size : length old ≡ 512 * count) (within : at + count ≤ n) where
  abbrev from : List (List ℕ)
  from = image_in count old

  abbrev part : List Cell
  part = take count (drop at top)

  from_long : length from ≡ count
  from_long = length-image_in count old

  part_long : length part ≡ count
  part_long = length-take-le count (drop at top) (omega (arith, length-drop at top, is.count, within))

  under_long : length (paint from part) ≡ count
  under_long = length-paint from part (omega (arith, from_long, part_long)) ∙ from_long

  whole : AreWhole (paint from part)
  whole = AreSectors-paint from part (AreWhole-image_in count old (omega (arith, size))) (All-take IsCell count (drop at top) (All-drop IsCell at top is.cells))

  painted-at : (k : ℕ) → k < count → slice_index_or (paint from part) k [] ≡ painted (sector_at old k) (slice_index_or top (at + k) Hole)
  painted-at k below =
      let cell : slice_index_or part k Hole ≡ slice_index_or top (at + k) Hole = get_or-take count (drop at top) k Hole below ∙ get_or-drop at top k Hole in
      let old_is : slice_index_or from k [] ≡ sector_at old k = sector-in count old k below in
      get_or-paint from part k (omega (arith, below, from_long)) (omega (arith, below, part_long)) ∙ (λ i. painted (old_is i) (cell i))

  pub part-sector : Paints top at count old new → (k : ℕ) → k < count → sector_at new k ≡ painted (sector_at old k) (slice_index_or top (at + k) Hole)
  part-sector paints k below =
      ap (λ (f : List ℕ). sector_at f k) paints ∙ (sector-of (paint from part) k whole (omega (arith, below, under_long)) ∙ painted-at k below)

  -- and the other way round
  pub sectors-paint : length new ≡ 512 * count → ((k : ℕ) → k < count → sector_at new k ≡ painted (sector_at old k) (slice_index_or top (at + k) Hole)) → Paints top at count old new
  sectors-paint long says =
      bytes-are (paint from part) new whole (omega (arith, long, under_long)) (λ k below. says k (omega (arith, below, under_long)) ∙ sym (painted-at k (omega (arith, below, under_long))))

module _ (ground : List (List ℕ)) (top : List Cell) (n : ℕ) (long : length ground ≡ n) (is : IsSheet n top) (at count : ℕ) (old new : List ℕ) (size : length old ≡ 512 * count)
    (within : at + count ≤ n) (paints : Paints top at count old new) where
  each-sector : (k : ℕ) → k < count → sector_at new k ≡ painted (sector_at old k) (slice_index_or top (at + k) Hole)
  each-sector = part-sector top n is at count old new size within paints

  whole-sector : (i : ℕ) → i < n → slice_index_or (paint ground top) i [] ≡ painted (slice_index_or ground i []) (slice_index_or top i Hole)
  whole-sector i below = get_or-paint ground top i (omega (arith, below, long)) (omega (arith, below, is.count))

  paint-long : length (paint ground top) ≡ n
  paint-long = length-paint ground top (omega (arith, long, is.count)) ∙ long

  pub over-ground : IsPlanned (paint ground top) ground (IsHole top) at count old new
  over-ground = record {
    read = λ k below some.
        each-sector k below
        ∙ (over-hole (sector_at old k) (slice_index_or ground (at + k) []) (slice_index_or top (at + k) Hole) some ∙ sym (whole-sector (at + k) (omega (arith, below, within))));
    left = λ k below hole. each-sector k below ∙ under-hole (sector_at old k) (slice_index_or top (at + k) Hole) hole;
    below = λ i below hole. whole-sector i (omega (arith, below, paint-long)) ∙ under-hole (slice_index_or ground i []) (slice_index_or top i Hole) hole;
  }

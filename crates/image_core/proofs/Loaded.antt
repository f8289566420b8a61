-- The heads of layers in memory, and the sheet of a top.
use Rattle.std.proofs.Common.{◌≡◌, ℕ, zero, suc, ◌+◌, ◌-◌, ◌*◌, ◌^◌, ◌<◌, ◌≤◌, ◌==◌, Bool, true, false, inl, IsTrue, List, [], ◌∷◌, ◌++◌, length, take, reverse, refl, sym, ap, ◌∙◌, subst, arith}
use Rattle.std.specs.Prelude.{All, Option, Some, None, slice_index_or}
use Rattle.std.specs.List.{range_with_len}
use Rattle.std.proofs.lemmas.List.{take_more, get_or-map, length-map, length-reverse}
use Rattle.std.proofs.lemmas.Grind.{get_or_head}
use Rattle.block_disk.specs.DiskState.{DiskState, Files}
use Rattle.block_disk.specs.Claims.{Quiet}
use Rattle.gate_mark.specs.Mark.{file_of, sequence_in, IsKept, MayHold}
use Rattle.lsmt_header.specs.declared.head.Head.{Head}
use Rattle.lsmt_header.specs.Blocks.{IsSize, nil}
use Rattle.sealed_layer.specs.Layers.{LayerIndex}
use Rattle.flat_image.specs.declared.base.Base.{Base}
use Rattle.flat_image.specs.Sheets.{Cell, IsCell, IsSheet}
use Rattle.flat_image.specs.RowCells.{cell_of}
use Rattle.flat_image.specs.CanonicalFiles.{stretches}
use Rattle.flat_image.specs.Base.{top_uuid, IsBase}
use Rattle.flat_image.specs.Left.{Stand, Blamed}
use Rattle.flat_image.proofs.LayerLaws.{length-range, all_cells}
use Rattle.flat_image.proofs.RowStretches.{rows-make_few}
use Rattle.top_writer.specs.declared.fault.TopReason.{TopReason}
use Rattle.top_writer.specs.Blank.{blank_sheet}
use Rattle.top_writer.specs.Files.{Stored, HeadsAsked, asked_of, stored_in}
use Rattle.top_writer.specs.Fitting.{TopFits, ViewFits}
use Rattle.top_writer.specs.Reasons.{IsReason}
use Rattle.top_writer.specs.Rows.{IsTopRow}
use Rattle.top_writer.specs.Showing.{ShowsTop}
use Rattle.top_writer.specs.View.{TopView, view_of, epoch_of, sectors_of, table_of, sequence_of}
use Rattle.image_core.specs.declared.loading.LoadFault.{LoadFault}
use Rattle.image_core.specs.declared.loading.LoadFault.TheVariants as why
use Rattle.image_core.specs.declared.parts.Parts.{Parts}
use Rattle.image_core.specs.Opening.{blank_layers, blank_frozen}
use Rattle.image_core.specs.Parts.{commit_view, IsBareStack}
use Rattle.std.specs.Option.{option_map}
use Rattle.image_core.specs.Numbers.{manifest_file}
use Rattle.image_core.specs.Manifest.{Names, size_said, exact_said}
use Rattle.image_core.specs.Shows.{HaveSize, IsSound}
use Rattle.image_core.specs.View.{AreLayersOf}
use Rattle.image_core.specs.Seen.{Seen, IsLoaded}
use Rattle.image_core.specs.Creating.{fresh_at}
use Rattle.image_core.specs.Loading.{heads_in, upper_uuid}
use Rattle.image_core.proofs.Created.{same-upper, fresh-sound, fresh-base, bare-fits}
use Rattle.image_core.proofs.Lifts.{kept-one}
use Rattle.std.proofs.lemmas.List.Elements.{All-nil}
use Rattle.image_core.proofs.Named.{stored-same}
use Rattle.image_core.proofs.PartsHold.{top-room}
use Rattle.image_core.proofs.TopShown.{stored_cell, all_reversed}

-- one head more
pub heads-more : (layers : List LayerIndex) (heads : List Head) (i : ℕ) (x : Head) (y : LayerIndex) → i < length layers → slice_index_or layers i y ≡ y → x ≡ y.head
    → heads ≡ take i (heads_in layers) → heads ++ x ∷ [] ≡ take (i + 1) (heads_in layers)
heads-more layers heads i x y below is same so_far =
    let here : x ≡ slice_index_or (heads_in layers) i x =
    same ∙ (ap (λ (l : LayerIndex). l.head) (sym is) ∙ sym (get_or-map (λ (l : LayerIndex). l.head) layers i y x below)) in
    (λ j. so_far j ++ here j ∷ []) ∙ sym (take_more (heads_in layers) i x (omega (arith, below, length-map layers (λ (l : LayerIndex). l.head))))

-- the uuid of the uppermost layer
pub upper-at : (layers : List LayerIndex) (i : ℕ) (d : LayerIndex) → suc i ≡ length layers → (slice_index_or layers i d).head.uuid ≡ upper_uuid layers
upper-at [] i d last = absurd (omega (arith, last))
upper-at (layer ∷ []) i d last = ap (λ (l : LayerIndex). l.head.uuid) (get_or_head layer [] i d (omega (arith, last)))
upper-at (layer ∷ next ∷ layers) zero d last = absurd (omega (arith, last))
upper-at (layer ∷ next ∷ layers) (suc i) d last = upper-at (next ∷ layers) i d (omega (arith, last))

-- a list that is not empty has a last place
pub last-place : (n : ℕ) → false ≡ (n == 0) → suc (n - 1) ≡ n
last-place zero is = absurd (let e : false ≡ true = is in cc)
last-place (suc n) is = omega arith

-- the sheet of a top in memory is one, of few stretches
module _ (tells : Bool) (disk : DiskState) (n : ℕ) (asked : HeadsAsked) (v : TopView) (s : Stand) (may : List Stand) (fits : ViewFits tells disk n asked v s may) where
  pub top-sheet : IsSize n → IsSheet n s.cells
  top-sheet size =
      let holds = fits.holds in record {
        some = size.0;
        few = size.1;
        count = ap (length {A = Cell}) holds.cells ∙ (length-map (range_with_len 0 n) (cell_of fits.file (reverse fits.rows)) ∙ length-range 0 n);
        cells = subst (All IsCell) (sym holds.cells)
            (all_cells fits.file (reverse fits.rows)
            (stored_cell fits.file n v.filled (reverse fits.rows) (all_reversed (IsTopRow n v.filled) fits.rows holds.sound) (omega (arith, holds.long))) 0 n);
      }

  pub top-few : length (stretches 0 s.cells) ≤ 2 * s.rows
  top-few =
      let holds = fits.holds in
      subst (λ (cells : List Cell). length (stretches 0 cells) ≤ 2 * s.rows) (sym holds.cells)
      (omega (arith, rows-make_few fits.file n (reverse fits.rows), length-reverse fits.rows, holds.number, holds.rows_are))

-- A top that is to be frozen: what its sealing was begun with, and what is asked of its heads.
use Rattle.std.proofs.Common.{◌≡◌, ℕ, ◌+◌, ◌*◌, ◌^◌, ◌<◌, ◌≤◌, Bool, IsTrue, List, [], ◌∷◌, ◌++◌, length, map, take, reverse, refl, sym, ap, ◌∙◌, subst, arith}
use Rattle.std.specs.Prelude.{All, Option, Some, None, slice_index_or}
use Rattle.std.specs.List.{range_with_len}
use Rattle.std.proofs.lemmas.List.{ext_get_or, take_all}
use Rattle.std.proofs.lemmas.List.FromFn.{length-map-range_with_len, get_or-map-range_with_len}
use Rattle.block_disk.specs.DiskState.{DiskState}
use Rattle.seg_table.specs.declared.segment.Segment.{Segment}
use Rattle.seg_table.specs.declared.segment.What.{What}
use Rattle.seg_table.specs.declared.segment.What.TheVariants as what
use Rattle.seg_table.specs.Cells.{Table, cell_in, cells_of}
use Rattle.lsmt_header.specs.Blocks.{IsSize}
use Rattle.flat_image.specs.declared.base.Base.{Base}
use Rattle.flat_image.specs.Sheets.{Cell, Hole}
use Rattle.flat_image.specs.RowCells.{cell_of}
use Rattle.flat_image.specs.CanonicalFiles.{stretches, canonical_rows}
use Rattle.flat_image.specs.Base.{top_uuid, top_size, HasFewStretches}
use Rattle.flat_image.specs.Frozen.{Frozen}
use Rattle.flat_image.specs.Left.{Stand}
use Rattle.flat_image.specs.Stacks.{uppermost}
use Rattle.flat_image.proofs.StretchCounts.{few-rows}
use Rattle.sealed_layer.specs.Layers.{LayerIndex}
use Rattle.layer_commit.specs.Fitting.{SealFits, Begun}
use Rattle.layer_commit.specs.Gathered.{ArePlaces, EndBy, Reaches}
use Rattle.layer_commit.specs.Sources as sources
use Rattle.layer_commit.specs.Sources.{table_sheet}
use Rattle.layer_commit.specs.View.{SealView, file_by}
use Rattle.top_writer.specs.declared.top.Top.{Top}
use Rattle.top_writer.specs.Files.{IsParent, HeadsAsked, parent_said, data_file}
use Rattle.top_writer.specs.Fitting.{IsData, IsIndex, Holds, Lasts, ViewFits, TopFits}
use Rattle.top_writer.specs.View.{TopView, view_of, epoch_of, sectors_of, table_of, cell_at}
use Rattle.image_core.specs.Loading.{upper_uuid, upper_size}
use Rattle.image_core.specs.Numbers.{sealed_file}
use Rattle.image_core.specs.Shows.{heads_asked}
use Rattle.image_core.specs.View.{AreLayersOf}
use Rattle.image_core.proofs.Created.{same-upper, layer-file}
use Rattle.flat_image.specs.RowCells.{sheet_of}
use Rattle.flat_image.specs.LayerReading.{uuid_in}
use Rattle.flat_image.proofs.LayerLaws.{size_in-layer, uuid_in-layer}
use Rattle.image_core.proofs.Sizes.{size-weaker}

-- less is asked of the heads of a top
module _ (tells : Bool) (disk : DiskState) (n : ℕ) (asked less : HeadsAsked) (exact : IsTrue less.exact → IsTrue asked.exact)
    (parent : (p : List ℕ) → IsParent asked.parent p → IsParent less.parent p) where
  data-less : (file : List ℕ) → IsData n asked file → IsData n less file
  data-less file is = record { head = is.head; size = record { within = is.size.within; same = λ e. is.size.same (exact e) }; parent_is = parent (parent_said file) is.parent_is }

  pub fits-less : (v : TopView) (s : Stand) (may : List Stand) → ViewFits tells disk n asked v s may → ViewFits tells disk n less v s may
  fits-less v s may fits =
      let holds = fits.holds in
      let lasts = fits.lasts in
      record {
        file = fits.file;
        rows = fits.rows;
        holds = record {
          epoch = holds.epoch;
          sectors = holds.sectors;
          head = data-less fits.file holds.head;
          long = holds.long;
          number = holds.number;
          sound = holds.sound;
          room = holds.room;
          rows_are = holds.rows_are;
          filled_are = holds.filled_are;
          cells = holds.cells;
          table = holds.table;
          waiting = holds.waiting;
          waiting_size = holds.waiting_size;
        };
        lasts = record {
          synced_sectors = lasts.synced_sectors;
          within = lasts.within;
          mark_is = lasts.mark_is;
          mark = lasts.mark;
          bytes_left = lasts.bytes_left;
          index_left = λ c left.
              let is = lasts.index_left c left in
              record { head = is.head; size = record { within = is.size.within; same = λ e. is.size.same (exact e) }; long = is.long; spelled = is.spelled };
          seen = lasts.seen;
          bodies = lasts.bodies;
        };
      }

-- the two readings of an entry of a table are one
same-cell : (file : List ℕ) (e : Option What) → sources.cell_at file e ≡ cell_at file e
same-cell file None = refl
same-cell file (Some what.Zero) = refl
same-cell file (Some (what.Place place)) = refl

module _ (tells : Bool) (disk : DiskState) (n : ℕ) (asked : HeadsAsked) (v : TopView) (s : Stand) (may : List Stand) (fits : ViewFits tells disk n asked v s may)
    (table : Table) (same : table.segments ≡ v.segments) where
  cell-here : (i : ℕ) → cells_of table i ≡ cell_in v.segments i
  cell-here i = ap (λ (l : List Segment). cell_in l i) same

  -- the sheet of the table, over all that was ever written, is the top's
  pub own-sheet : table_sheet fits.file n table ≡ s.cells
  unfolding table_sheet
  own-sheet =
      let f : ℕ → Cell = λ i. sources.cell_at fits.file (cells_of table i) in
      let g : ℕ → Cell = cell_of fits.file (reverse fits.rows) in
      let long : length (map f (range_with_len 0 n)) ≡ n = length-map-range_with_len f 0 n in
      let count : length s.cells ≡ n = ap (length {A = Cell}) fits.holds.cells ∙ length-map-range_with_len g 0 n in
      ext_get_or Hole (map f (range_with_len 0 n)) s.cells (long ∙ sym count)
      (λ i below.
      let lt : i < n = omega (arith, below, long) in
      get_or-map-range_with_len f 0 n i i Hole lt (omega arith)
      ∙ (ap (sources.cell_at fits.file) (cell-here i) ∙ (same-cell fits.file (cell_in v.segments i) ∙ (fits.holds.table.same i lt
      ∙ sym (ap (λ (l : List Cell). slice_index_or l i Hole) fits.holds.cells ∙ get_or-map-range_with_len g 0 n i i Hole lt (omega arith))))))

  pub own-end : EndBy n (cells_of table)
  own-end i past = cell-here i ∙ fits.holds.table.within i past

  pub own-places : ArePlaces (cells_of table)
  own-places i place is = omega (arith, fits.holds.table.to i place (sym (cell-here i) ∙ is), fits.holds.room.sectors_fit)

  pub own-reaches : Reaches fits.file (cells_of table)
  own-reaches i place is = omega (arith, fits.holds.table.to i place (sym (cell-here i) ∙ is), fits.holds.long)

  pub own-rows : length (stretches 0 s.cells) ≤ 2 * s.rows → n ≤ 2 ^ 31 → (stored : List ℕ) × (length (canonical_rows (table_sheet stored n table)) ≤ 2 ^ 24)
  own-rows few most =
      let g : ℕ → Cell = cell_of fits.file (reverse fits.rows) in
      let count : length s.cells ≡ n = ap (length {A = Cell}) fits.holds.cells ∙ length-map-range_with_len g 0 n in (
        fits.file,
        subst (λ (cells : List Cell). length (canonical_rows cells) ≤ 2 ^ 24) (sym own-sheet)
            (few-rows s.cells (omega (arith, count, most)) (omega (arith, few, fits.holds.rows_are, fits.holds.room.rows_fit))),
      )

  -- a sealing that was begun with the table copies from the top's data file
  pub begun-fits : (uuid parent : List ℕ) (below from to : ℕ) (w : SealView) → Begun table uuid parent below n from to w → from ≡ data_file v.epoch → SealFits tells disk w fits.file
  begun-fits uuid parent below from to w begun is = record {
    sound = begun.sound;
    within = begun.within fits.file own-reaches;
    source = λ told.
        let front = fits.lasts.seen told in
        let size : 4096 + 512 * v.filled ≡ length fits.file = sym fits.holds.long in
        subst (λ (f : ℕ). take (length fits.file) (disk.seen f) ≡ fits.file) (sym (begun.from_is ∙ is))
        (subst (λ (k : ℕ). take k (disk.seen (data_file v.epoch)) ≡ take k fits.file) size front.same ∙ take_all (length fits.file) fits.file (omega arith));
    written = λ told some. absurd (omega (arith, some, begun.none));
  }

-- layers of both lists of files
pub layers-append : (files more : List (List ℕ)) (layers others : List LayerIndex) → AreLayersOf files layers → AreLayersOf more others → AreLayersOf (files ++ more) (layers ++ others)
layers-append [] more [] others are also = also
layers-append [] more (layer ∷ layers) others are also = absurd are
layers-append (file ∷ files) more [] others are also = absurd are
layers-append (file ∷ files) more (layer ∷ layers) others are also = (are.0, layers-append files more layers others are.1 also)

-- the sectors of the uppermost layer are those of the uppermost file
pub same-size : (n : ℕ) (files : List (List ℕ)) (layers : List LayerIndex) → AreLayersOf files layers → upper_size n layers ≡ top_size n files
same-size n [] [] are = refl
same-size n [] (layer ∷ layers) are = absurd are
same-size n (file ∷ files) [] are = absurd are
same-size n (file ∷ []) (layer ∷ []) are = sym (size_in-layer file layer.head (sheet_of file layer.head.sectors layer.rows) (layer-file file layer are.0))
same-size n (file ∷ []) (layer ∷ next ∷ layers) are = absurd are.1
same-size n (file ∷ next ∷ files) (layer ∷ []) are = absurd are.1
same-size n (file ∷ next ∷ files) (layer ∷ above ∷ layers) are = same-size n (next ∷ files) (above ∷ layers) are.1

-- and so are their uuids
pub same-uuids : (files : List (List ℕ)) (layers : List LayerIndex) → AreLayersOf files layers → map (λ (l : LayerIndex). l.head.uuid) layers ≡ map uuid_in files
same-uuids [] [] are = refl
same-uuids [] (layer ∷ layers) are = absurd are
same-uuids (file ∷ files) [] are = absurd are
same-uuids (file ∷ files) (layer ∷ layers) are =
    let here : layer.head.uuid ≡ uuid_in file = sym (uuid_in-layer file layer.head (sheet_of file layer.head.sectors layer.rows) (layer-file file layer are.0)) in
    λ i. here i ∷ same-uuids files layers are.1 i

-- what stands uppermost of both lists
pub upper-more : {A B : Type 0} → (field : A → B) (none : B) (xs ys : List A) → uppermost none (map field (xs ++ ys)) ≡ uppermost (uppermost none (map field xs)) (map field ys)
upper-more field none [] ys = refl
upper-more field none (x ∷ xs) ys = upper-more field (field x) xs ys

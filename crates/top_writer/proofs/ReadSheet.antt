-- What was read by the table is what the top has.
use Rattle.std.proofs.Common.{◌≡◌, ℕ, ◌+◌, ◌-◌, ◌*◌, ◌<◌, ◌≤◌, List, ◌++◌, length, map, take, drop, reverse, refl, sym, ap, ◌∙◌, arith, get_or, Option, Some, None, Bool, IsTrue}
use Rattle.std.specs.Prelude.{slice_index_or}
use Rattle.std.specs.List.{range_with_len}
use Rattle.std.proofs.lemmas.List.{ext_get_or, get_or-drop, get_or-take, length-take, length-drop, append-nil, drop_all}
use Rattle.std.proofs.lemmas.List.FromFn.{get_or-map-range_with_len, length-map-range_with_len}
use Rattle.block_disk.specs.DiskState.{DiskState}
use Rattle.sector_extent.specs.declared.extent.Extent.{Extent}
use Rattle.seg_mapping.specs.declared.Row.{Row}
use Rattle.seg_table.specs.declared.segment.What.{What}
use Rattle.seg_table.specs.declared.segment.What.TheVariants as what
use Rattle.seg_table.specs.Cells.{cell_in}
use Rattle.flat_image.specs.Sheets.{Cell, Hole, paint, bytes_of, image_in}
use Rattle.flat_image.specs.Left.{Stand}
use Rattle.flat_image.specs.RowCells.{cell_of}
use Rattle.top_writer.specs.Files.{data_file, HeadsAsked}
use Rattle.top_writer.specs.Fitting.{Holds, ViewFits}
use Rattle.top_writer.specs.Gaps.{Paints, IsHole, AddsGaps}
use Rattle.top_writer.specs.Reading.{AreLow, IsRead}
use Rattle.top_writer.specs.View.{TopView, cell_at}
use Rattle.top_writer.proofs.GapLaws.{gaps_same}
use Rattle.top_writer.proofs.HoldLaws.{place_front}

-- a part of a sheet
sheet_part : (f : ℕ → Cell) (at count n : ℕ) → at + count ≤ n → take count (drop at (map f (range_with_len 0 n))) ≡ map f (range_with_len at count)
sheet_part f at count n within =
    let all : List Cell = map f (range_with_len 0 n) in
    let len : length all ≡ n = length-map-range_with_len f 0 n in
    let part_len : length (take count (drop at all)) ≡ count = length-take count (drop at all) ∙ omega (arith, length-drop at all, len, within) in
    ext_get_or Hole (take count (drop at all)) (map f (range_with_len at count)) (part_len ∙ sym (length-map-range_with_len f at count))
    (λ i lt. let below : i < count = omega (arith, part_len, lt) in
    get_or-take count (drop at all) i Hole below
    ∙ get_or-drop at all i Hole
    ∙ get_or-map-range_with_len f 0 n (at + i) (at + i) Hole (omega (arith, below, within)) (omega arith)
    ∙ sym (get_or-map-range_with_len f at count i (at + i) Hole below refl))

pub map_same : (f g : ℕ → Cell) (at count : ℕ) → ((i : ℕ) → at ≤ i → i < at + count → f i ≡ g i) → map f (range_with_len at count) ≡ map g (range_with_len at count)
map_same f g at count same =
    ext_get_or Hole (map f (range_with_len at count)) (map g (range_with_len at count)) (length-map-range_with_len f at count ∙ sym (length-map-range_with_len g at count))
    (λ i lt. let below : i < count = omega (arith, length-map-range_with_len f at count, lt) in
    get_or-map-range_with_len f at count i (at + i) Hole below refl
    ∙ same (at + i) (omega arith) (omega (arith, below))
    ∙ sym (get_or-map-range_with_len g at count i (at + i) Hole below refl))

-- the cells by the table, where the data file reads so
seen_cells : (tells : Bool) (now : DiskState) (n : ℕ) (asked : HeadsAsked) (v : TopView) (s : Stand) (may : List Stand) (at count : ℕ) → at + count ≤ n → ViewFits tells now n asked v s may
    → IsTrue tells → map (λ i. cell_at (now.seen (data_file v.epoch)) (cell_in v.segments i)) (range_with_len at count) ≡ take count (drop at s.cells)
seen_cells tells now n asked v s may at count within fits told =
    let holds = fits.holds in
    map_same (λ i. cell_at (now.seen (data_file v.epoch)) (cell_in v.segments i)) (cell_of fits.file (reverse fits.rows)) at count
    (λ i low high. place_front v.filled fits.file (now.seen (data_file v.epoch)) (cell_in v.segments i) (holds.table.to i) (fits.lasts.seen told) ∙ holds.table.same i (omega (arith, high, within)))
    ∙ sym (sheet_part (cell_of fits.file (reverse fits.rows)) at count n within)
    ∙ ap (λ (cells : List Cell). take count (drop at cells)) (sym holds.cells)

pub read_paints : (tells : Bool) (now : DiskState) (n : ℕ) (asked : HeadsAsked) (v : TopView) (s : Stand) (may : List Stand) (extent : Extent) (start out : List ℕ) (gaps_then gaps : List Extent)
    → extent.at + extent.count ≤ v.sectors → length start ≡ 512 * extent.count
    → IsRead tells (now.seen (data_file v.epoch)) (cell_in v.segments) extent.at (extent.at + extent.count) start out gaps_then gaps
    → IsTrue tells → ViewFits tells now n asked v s may → Paints s.cells extent.at extent.count start out
read_paints tells now n asked v s may extent start out gaps_then gaps within size read told fits =
    let in_image : extent.at + extent.count ≤ n = omega (arith, within, fits.holds.sectors) in
    let count : extent.at + extent.count - extent.at ≡ extent.count = omega arith in
    let f : ℕ → Cell = λ i. cell_at (now.seen (data_file v.epoch)) (cell_in v.segments i) in
    read.is
    ∙ ap (λ (xs : List ℕ). read.front ++ xs) (drop_all (512 * (extent.at + extent.count - extent.at)) start (omega (arith, size, count)))
    ∙ append-nil read.front
    ∙ read.painted told
    ∙ ap (λ (k : ℕ). bytes_of (paint (image_in k start) (map f (range_with_len extent.at k)))) count
    ∙ ap (λ (cells : List Cell). bytes_of (paint (image_in extent.count start) cells)) (seen_cells tells now n asked v s may extent.at extent.count in_image fits told)

-- a cell is a hole just where the table has nothing
none_hole : (file : List ℕ) (o : Option What) → cell_at file o ≡ Hole → o ≡ None
none_hole file None is = refl
none_hole file (Some what.Zero) is = cc
none_hole file (Some (what.Place place)) is = cc

hole_none : (file : List ℕ) (o : Option What) → o ≡ None → cell_at file o ≡ Hole
hole_none file o is = ap (cell_at file) is

top_cell : (n : ℕ) (asked : HeadsAsked) (v : TopView) (s : Stand) (file : List ℕ) (rows : List Row) (i : ℕ) → i < n → Holds n asked v s file rows
    → slice_index_or s.cells i Hole ≡ cell_at file (cell_in v.segments i)
top_cell n asked v s file rows i lt holds =
    ap (λ (cells : List Cell). get_or cells i Hole) holds.cells
    ∙ get_or-map-range_with_len (cell_of file (reverse rows)) 0 n i i Hole lt (omega arith)
    ∙ sym (holds.table.same i lt)

pub read_gaps : (tells : Bool) (now : DiskState) (n : ℕ) (asked : HeadsAsked) (v : TopView) (s : Stand) (may : List Stand) (file : List ℕ) (extent : Extent) (start out : List ℕ) (gaps_then gaps : List Extent)
    → extent.at + extent.count ≤ v.sectors
    → IsRead tells file (cell_in v.segments) extent.at (extent.at + extent.count) start out gaps_then gaps
    → ViewFits tells now n asked v s may → AddsGaps (IsHole s.cells) extent.at (extent.at + extent.count) gaps_then gaps
read_gaps tells now n asked v s may file extent start out gaps_then gaps within read fits =
    let holds = fits.holds in
    let cell : (i : ℕ) → i < extent.at + extent.count → slice_index_or s.cells i Hole ≡ cell_at fits.file (cell_in v.segments i) =
    λ i high. top_cell n asked v s fits.file fits.rows i (omega (arith, high, within, holds.sectors)) holds in
    record {
      added = read.gaps_added.added;
      behind = read.gaps_added.behind;
      gaps = gaps_same (λ i. cell_in v.segments i ≡ None) (IsHole s.cells) extent.at (extent.at + extent.count) read.gaps_added.added
          (λ i low high none. cell i high ∙ hole_none fits.file (cell_in v.segments i) none)
          (λ i low high hole. none_hole fits.file (cell_in v.segments i) (sym (cell i high) ∙ hole))
          read.gaps_added.gaps;
    }

-- no place of a top's table is past what a disk can hold
pub low_places : (tells : Bool) (now : DiskState) (n : ℕ) (asked : HeadsAsked) (v : TopView) (s : Stand) (may : List Stand) → ViewFits tells now n asked v s may → AreLow (cell_in v.segments)
low_places tells now n asked v s may fits i place is = let below = fits.holds.table.to i place is in let room = fits.holds.room.sectors_fit in omega (arith, below, room)

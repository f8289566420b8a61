-- What is read of a layer file is what the layer has.
use Rattle.std.proofs.Common.{◌≡◌, ℕ, zero, suc, ◌+◌, List, [], ◌∷◌, length, take, drop, refl, sym, ap, ◌∙◌, subst, arith}
use Rattle.std.specs.Int.{w64, to_le_bytes, from_le_bytes}
use Rattle.std.specs.List.{range_with_len}
use Rattle.std.specs.Prelude.{All}
use Rattle.std.proofs.Math.Seq.{take-append_seam, drop-append_seam}
use Rattle.std.proofs.lemmas.List.{length-map}
use Rattle.std.proofs.lemmas.List.Elements.{All-nil, All-cons}
use Rattle.std.proofs.lemmas.Nat.{from_le_bytes-to_le_bytes_8}
use Rattle.seg_mapping.specs.declared.Row.{Row}
use Rattle.seg_mapping.specs.Rows.{RowOf, spelling, first_word, second_word}
use Rattle.seg_mapping.proofs.RowWords.{first_word-below, second_word-below, row_in-words}
use Rattle.lsmt_header.specs.declared.head.Head.{Head}
use Rattle.lsmt_header.specs.Blocks.{raw_head, raw_of}
use Rattle.lsmt_header.proofs.BlockLemmas.{raw_of-block}
use Rattle.flat_image.specs.Sheets.{Cell, IsCell, IsSheet}
use Rattle.flat_image.specs.RowCells.{cell_of, cells_from, sheet_of, AreSpelled}
use Rattle.flat_image.specs.LayerFiles.{LayerFile}
use Rattle.flat_image.specs.LayerReading.{row_in, row_of, rows_in, sheet_in, uuid_in, size_in, IsLayer}
use Rattle.flat_image.specs.HistoryLaws.{ReadsLayer}
use Rattle.flat_image.proofs.CellLaws.{whole_cells}

-- sixteen bytes are read as the row that they spell
row_of-spelled : (bytes : List ℕ) (row : Row) → RowOf bytes row → row_of bytes ≡ row
unfolding spelling
row_of-spelled bytes row of =
    let first : List ℕ = to_le_bytes w64 (first_word row) in
    let second : List ℕ = to_le_bytes w64 (second_word row) in
    let front : take 8 bytes ≡ first = ap (take 8) of.spelled ∙ take-append_seam first second in
    let behind : take 8 (drop 8 bytes) ≡ second = ap (λ l. take 8 (drop 8 l)) of.spelled ∙ ap (take 8) (drop-append_seam first second) in
    ap (λ l. row_in (from_le_bytes w64 l) (from_le_bytes w64 (take 8 (drop 8 bytes)))) front
    ∙ (ap (λ l. row_in (from_le_bytes w64 first) (from_le_bytes w64 l)) behind
    ∙ (ap (λ n. row_in n (from_le_bytes w64 second)) (from_le_bytes-to_le_bytes_8 (first_word row) (first_word-below row of.fits))
    ∙ (ap (λ n. row_in (first_word row) n) (from_le_bytes-to_le_bytes_8 (second_word row) (second_word-below row of.fits of.tag))
    ∙ row_in-words row of.fits)))

pub rows_in-spelled : (file : List ℕ) (at : ℕ) (rows : List Row) → AreSpelled file at rows → rows_in file at (length rows) ≡ rows
rows_in-spelled file at [] spelled = refl
rows_in-spelled file at (row ∷ rows) spelled =
    ap (λ r. r ∷ rows_in file (at + 16) (length rows)) (row_of-spelled (take 16 (drop at file)) row spelled.0)
    ∙ ap (λ r. row ∷ r) (rows_in-spelled file (at + 16) rows spelled.1)

-- the sheet and the uuid that are read of a layer file
pub sheet_in-layer : (file : List ℕ) (head : Head) (sheet : List Cell) → LayerFile file head sheet → sheet_in file ≡ sheet
unfolding sheet_in
sheet_in-layer file head sheet is =
    let raw : raw_head (take 4096 file) ≡ raw_of head = raw_of-block (take 4096 file) head is.layer.framed.front in
    ap (λ r. sheet_of file r.sectors (rows_in file r.index_at r.rows)) raw
    ∙ (ap (λ n. sheet_of file head.sectors (rows_in file head.index_at n)) (sym is.layer.count)
    ∙ (ap (sheet_of file head.sectors) (rows_in-spelled file head.index_at is.rows is.layer.spelled)
    ∙ sym is.sheet_is))

pub uuid_in-layer : (file : List ℕ) (head : Head) (sheet : List Cell) → LayerFile file head sheet → uuid_in file ≡ head.uuid
unfolding uuid_in
uuid_in-layer file head sheet is = ap (λ r. r.uuid) (raw_of-block (take 4096 file) head is.layer.framed.front)

pub size_in-layer : (file : List ℕ) (head : Head) (sheet : List Cell) → LayerFile file head sheet → size_in file ≡ head.sectors
unfolding size_in
size_in-layer file head sheet is = ap (λ r. r.sectors) (raw_of-block (take 4096 file) head is.layer.framed.front)

-- the cells of a range
pub length-range : (at count : ℕ) → length (range_with_len at count) ≡ count
length-range at zero = refl
length-range at (suc count) = ap suc (length-range (at + 1) count)

pub all_cells : (file : List ℕ) (rows : List Row) → ((p : ℕ) → IsCell (cell_of file rows p)) → (at count : ℕ) → All IsCell (cells_from file rows at count)
all_cells file rows whole at zero = All-nil IsCell
all_cells file rows whole at (suc count) =
    All-cons IsCell (cell_of file rows at) (cells_from file rows (at + 1) count) (whole at) (all_cells file rows whole (at + 1) count)

-- the sheet of a layer file is a sheet
pub IsSheet-layer : (file : List ℕ) (head : Head) (sheet : List Cell) → LayerFile file head sheet → IsSheet head.sectors sheet
IsSheet-layer file head sheet is = record {
  some = is.layer.framed.front.valid.size.0;
  few = is.layer.framed.front.valid.size.1;
  count = ap length is.sheet_is ∙ (length-map (range_with_len 0 head.sectors) (cell_of file is.rows) ∙ length-range 0 head.sectors);
  cells = subst (All IsCell) (sym is.sheet_is)
      (all_cells file is.rows (whole_cells file head.sectors head.index_at 0 is.rows is.layer.sound (omega (arith, is.layer.index.end))) 0 head.sectors);
}

-- the same of a layer by its number of sectors and its uuid
pub sheet_in-IsLayer : (n : ℕ) (uuid : List ℕ) (sheet : List Cell) (file : List ℕ) → IsLayer n uuid sheet file → sheet_in file ≡ sheet
sheet_in-IsLayer n uuid sheet file is = sheet_in-layer file is.head sheet is.layer

pub uuid_in-IsLayer : (n : ℕ) (uuid : List ℕ) (sheet : List Cell) (file : List ℕ) → IsLayer n uuid sheet file → uuid_in file ≡ uuid
uuid_in-IsLayer n uuid sheet file is = uuid_in-layer file is.head sheet is.layer ∙ is.named

pub size_in-IsLayer : (n : ℕ) (uuid : List ℕ) (sheet : List Cell) (file : List ℕ) → IsLayer n uuid sheet file → size_in file ≡ n
size_in-IsLayer n uuid sheet file is = size_in-layer file is.head sheet is.layer ∙ is.size

pub IsSheet-IsLayer : (n : ℕ) (uuid : List ℕ) (sheet : List Cell) (file : List ℕ) → IsLayer n uuid sheet file → IsSheet n sheet
IsSheet-IsLayer n uuid sheet file is = subst (λ k. IsSheet k sheet) is.size (IsSheet-layer file is.head sheet is.layer)

pub reads-layer : (file : List ℕ) (head : Head) (sheet : List Cell) → LayerFile file head sheet → ReadsLayer file head sheet
reads-layer file head sheet is = record {
  cells = sheet_in-layer file head sheet is;
  name = uuid_in-layer file head sheet is;
  size = size_in-layer file head sheet is;
  whole = IsSheet-layer file head sheet is;
}

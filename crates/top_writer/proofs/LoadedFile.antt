-- The data file of a top that was loaded. Where the disk does not tell, it is its first block and zeros.
use Rattle.std.proofs.Common.{◌≡◌, ℕ, ◌+◌, ◌-◌, ◌*◌, ◌<◌, ◌≤◌, List, ◌++◌, length, take, drop, reverse, Bool, true, false, IsTrue, refl, sym, ap, ◌∙◌, arith, length-append}
use Rattle.std.specs.Prelude.{replicate, Option, Some, None}
use Rattle.std.proofs.Math.Seq.{drop-append-add}
use Rattle.std.proofs.lemmas.List.{take-take, take-append-le, length-take-le, length-replicate, take-replicate, drop-replicate, ext_get_or}
use Rattle.std.proofs.lemmas.List.FromFn.{length-map-range_with_len, get_or-map-range_with_len}
use Rattle.seg_mapping.specs.declared.Row.{Row}
use Rattle.seg_table.specs.declared.segment.Segment.{Segment}
use Rattle.seg_table.specs.declared.segment.What.{What}
use Rattle.seg_table.specs.declared.segment.What.TheVariants as what
use Rattle.seg_table.specs.Cells.{cell_in}
use Rattle.flat_image.specs.Sheets.{Cell, Hole, Filled, zero_sector}
use Rattle.flat_image.specs.RowCells.{sector_at, cell_of}
use Rattle.top_writer.specs.Files.{HeadsAsked}
use Rattle.top_writer.specs.Blank.{blank_cell, blank_sheet}
use Rattle.top_writer.specs.Fitting.{HasFront, IsData, IsTableOf}
use Rattle.top_writer.specs.Rows.{top_sheet}
use Rattle.top_writer.specs.View.{cell_at}
use Rattle.top_writer.proofs.ShowLaws.{same_head}

abbrev pub data_of : Bool → ℕ → List ℕ → List ℕ → List ℕ
data_of true filled block bytes = take (4096 + 512 * filled) bytes
data_of false filled block bytes = block ++ replicate {A = ℕ} (512 * filled) 0

pub length-data_of : (tells : Bool) (filled : ℕ) (block bytes : List ℕ) → length block ≡ 4096 → (IsTrue tells → 4096 + 512 * filled ≤ length bytes)
    → length (data_of tells filled block bytes) ≡ 4096 + 512 * filled
length-data_of true filled block bytes size long = length-take-le (4096 + 512 * filled) bytes (long refl)
length-data_of false filled block bytes size long =
    length-append block (replicate {A = ℕ} (512 * filled) 0) ∙ omega (arith, size, length-replicate {A = ℕ} (512 * filled) 0)

first_block : (tells : Bool) (filled : ℕ) (block bytes : List ℕ) → length block ≡ 4096 → (IsTrue tells → block ≡ take 4096 bytes)
    → take 4096 (data_of tells filled block bytes) ≡ take 4096 block
first_block true filled block bytes size is =
    take-take 4096 (4096 + 512 * filled) bytes (omega arith) ∙ sym (ap (λ (b : List ℕ). take 4096 b) (is refl) ∙ take-take 4096 4096 bytes (omega arith))
first_block false filled block bytes size is = take-append-le 4096 block (replicate {A = ℕ} (512 * filled) 0) (omega (arith, size))

pub head-data_of : (tells : Bool) (filled n : ℕ) (asked : HeadsAsked) (block bytes : List ℕ) → length block ≡ 4096 → (IsTrue tells → block ≡ take 4096 bytes)
    → IsData n asked block → IsData n asked (data_of tells filled block bytes)
head-data_of tells filled n asked block bytes size is head =
    same_head n asked block (data_of tells filled block bytes) (first_block tells filled block bytes size is) head

pub front-data_of : (tells : Bool) (filled : ℕ) (block bytes : List ℕ) → IsTrue tells → 4096 + 512 * filled ≤ length bytes
    → HasFront (4096 + 512 * filled) (data_of tells filled block bytes) bytes
front-data_of true filled block bytes told long = record { long = long; same = sym (take-take (4096 + 512 * filled) (4096 + 512 * filled) bytes (omega arith)) }
front-data_of false filled block bytes told long = cc

-- a sector of it behind the block is of zeros
zeros_at : (filled : ℕ) (block : List ℕ) (place : ℕ) → length block ≡ 4096 → 8 ≤ place → place < 8 + filled
    → sector_at (block ++ replicate {A = ℕ} (512 * filled) 0) place ≡ zero_sector
unfolding zero_sector
zeros_at filled block place size from to =
    let zeros : List ℕ = replicate {A = ℕ} (512 * filled) 0 in
    let at : 512 * place ≡ length block + (512 * place - 4096) = omega (arith, size, from) in
    ap (λ (k : ℕ). take 512 (drop k (block ++ zeros))) at
    ∙ ap (take 512) (drop-append-add block zeros (512 * place - 4096) ∙ drop-replicate (512 * place - 4096) (512 * filled) 0)
    ∙ take-replicate 512 (512 * filled - (512 * place - 4096)) 0 (omega (arith, from, to))

blank_entry : (filled : ℕ) (block : List ℕ) (e : Option What) → length block ≡ 4096 → ((place : ℕ) → e ≡ Some (what.Place place) → 8 ≤ place)
    → ((place : ℕ) → e ≡ Some (what.Place place) → place < 8 + filled) → cell_at (block ++ replicate {A = ℕ} (512 * filled) 0) e ≡ blank_cell e
blank_entry filled block None size from to = refl
blank_entry filled block (Some what.Zero) size from to = refl
blank_entry filled block (Some (what.Place place)) size from to = ap Filled (zeros_at filled block place size (from place refl) (to place refl))

-- so where the disk does not tell, the sheet is what the table says of itself
pub blank-data_of : (tells : Bool) (n filled : ℕ) (block bytes : List ℕ) (rows : List Row) (table : List Segment) → length block ≡ 4096
    → IsTableOf n filled (data_of tells filled block bytes) rows table → ¬ IsTrue tells → top_sheet (data_of tells filled block bytes) n rows ≡ blank_sheet n table
blank-data_of true n filled block bytes rows table size is untold = absurd (untold refl)
blank-data_of false n filled block bytes rows table size is untold =
    let file : List ℕ = block ++ replicate {A = ℕ} (512 * filled) 0 in
    let f : ℕ → Cell = cell_of file (reverse rows) in
    let g : ℕ → Cell = λ i. blank_cell (cell_in table i) in
    let long : length (top_sheet file n rows) ≡ n = length-map-range_with_len f 0 n in
    ext_get_or Hole (top_sheet file n rows) (blank_sheet n table) (long ∙ sym (length-map-range_with_len g 0 n))
    (λ i below.
    let within : i < n = omega (arith, below, long) in
    get_or-map-range_with_len f 0 n i i Hole within (omega arith)
    ∙ (sym (is.same i within) ∙ blank_entry filled block (cell_in table i) size (is.from i) (is.to i))
    ∙ sym (get_or-map-range_with_len g 0 n i i Hole within (omega arith)))

-- The cells that rows make of a data file.
use Rattle.std.proofs.Common.{◌≡◌, ℕ, zero, suc, ◌+◌, ◌-◌, ◌*◌, ◌<◌, ◌≤◌, ◌⊎◌, true, false, cond, Bool, Some, List, [], ◌∷◌, ◌++◌, map, reverse, refl, ap, arith, inl, inr}
use Rattle.std.specs.Prelude.{All, min}
use Rattle.std.specs.List.{range_with_len}
use Rattle.std.proofs.lemmas.Bool.Decides.{leb_tells}
use Rattle.std.proofs.lemmas.List.Elements.{All-head, All-tail}
use Rattle.std.proofs.lemmas.List.Sorted.{All-permutation, IsPermutation-reverse}
use Rattle.seg_mapping.specs.declared.Row.{Row}
use Rattle.seg_table.specs.declared.segment.What.{What}
use Rattle.seg_table.specs.declared.segment.What.TheVariants as what
use Rattle.seg_table.specs.Cells.{onward}
use Rattle.flat_image.specs.Sheets.{Cell, Zero, Filled}
use Rattle.flat_image.specs.RowCells.{sector_at, covers, cell_by, cell_of}
use Rattle.flat_image.proofs.CellLaws.{covers-before, covers-behind, covers-within, covers-from, covers-below}
use Rattle.top_writer.specs.Fitting.{HasFront}
use Rattle.top_writer.specs.Rows.{IsTopRow, top_sheet, row_number, newest_rows}
use Rattle.top_writer.specs.View.{cell_at}
use Rattle.top_writer.proofs.Fronts.{sector_front}

either : (b : Bool) → (b ≡ true) ⊎ (b ≡ false)
either true = inl refl
either false = inr refl

-- a row in the front of a file says the same of each file with that front
by_front : (n filled : ℕ) (row : Row) (i : ℕ) (whole file : List ℕ) → IsTopRow n filled row → HasFront (4096 + 512 * filled) whole file
    → row.offset ≤ i → i < row.offset + row.count → cell_by file row i ≡ cell_by whole row i
by_front n filled row i whole file is front from below =
    elim row.zeroed as (λ z. (z ≡ false → row.place + row.count ≤ 8 + filled) → cond z Zero (Filled (sector_at file (row.place + (i - row.offset)))) ≡ cond z Zero (Filled (sector_at whole (row.place + (i - row.offset))))) [
      | true ↦ λ _. refl
      | false ↦ λ to. let end = to refl in
          ap Filled (sector_front (row.place + (i - row.offset)) (4096 + 512 * filled) whole file (omega (arith, end, from, below)) front)
    ]
    is.place.to

pub cell_front : (n filled : ℕ) (rows : List Row) (i : ℕ) (whole file : List ℕ) → All (IsTopRow n filled) rows → HasFront (4096 + 512 * filled) whole file
    → cell_of file rows i ≡ cell_of whole rows i
cell_front n filled [] i whole file are front = refl
cell_front n filled (row ∷ rows) i whole file are front =
    let rest : cell_of file rows i ≡ cell_of whole rows i = cell_front n filled rows i whole file (All-tail (IsTopRow n filled) row rows are) front in
    let here = All-head (IsTopRow n filled) row rows are in
    elim (either (covers row i)) [
      | inl on ↦ rw on (by_front n filled row i whole file here front (covers-from row i on) (covers-below row i on))
      | inr off ↦ rw off rest
    ]

pub All-reverse : {X : Type 0} (P : X → Type 0) (xs : List X) → All P xs → All P (reverse xs)
All-reverse P xs all = All-permutation P xs (reverse xs) (IsPermutation-reverse xs) all

pub sheet_front : (n filled : ℕ) (rows : List Row) (whole file : List ℕ) → All (IsTopRow n filled) rows → HasFront (4096 + 512 * filled) whole file
    → top_sheet file n rows ≡ top_sheet whole n rows
sheet_front n filled rows whole file are front =
    let same : cell_of file (reverse rows) ≡ cell_of whole (reverse rows) = λ i j. cell_front n filled (reverse rows) j whole file (All-reverse (IsTopRow n filled) rows are) front i in
    ap (λ (f : ℕ → Cell). map f (range_with_len 0 n)) same

-- where the row of that number begins and ends
pub number_offset : (at count : ℕ) (w : What) (k : ℕ) → (row_number at count w k).offset ≡ at + 16383 * k
number_offset at count (what.Place place) k = refl
number_offset at count what.Zero k = refl

pub number_count : (at count : ℕ) (w : What) (k : ℕ) → (row_number at count w k).count ≡ min 16383 (count - 16383 * k)
number_count at count (what.Place place) k = refl
number_count at count what.Zero k = refl

number_says : (file : List ℕ) (at count : ℕ) (w : What) (k i : ℕ) → at + 16383 * k ≤ i → cell_by file (row_number at count w k) i ≡ cell_at file (Some (onward w (i - at)))
number_says file at count (what.Place place) k i from =
    ap (λ (p : ℕ). Filled (sector_at file p)) (let e : place + 16383 * k + (i - (at + 16383 * k)) ≡ place + (i - at) = omega (arith, from) in e)
number_says file at count what.Zero k i from = refl

-- the first so many rows of an extent say what it has of the sectors that they cover
pub newest_inside : (file : List ℕ) (at count : ℕ) (w : What) (k : ℕ) (older : List Row) (i : ℕ) → at ≤ i → i < at + count → i < at + 16383 * k
    → cell_of file (newest_rows at count w k ++ older) i ≡ cell_at file (Some (onward w (i - at)))
newest_inside file at count w zero older i from below within = absurd (omega (arith, from, within))
newest_inside file at count w (suc k) older i from below within =
    let row = row_number at count w k in
    elim (leb_tells (at + 16383 * k) i) [
      | inl e ↦ let on : covers row i ≡ true = covers-within row i (omega (arith, number_offset at count w k, e.1)) (omega (arith, number_offset at count w k, number_count at count w k, below, within)) in
          rw on (number_says file at count w k i e.1)
      | inr e ↦ let off : covers row i ≡ false = covers-before row i (omega (arith, number_offset at count w k, e.1)) in
          rw off (newest_inside file at count w k older i from below (omega (arith, e.1)))
    ]

-- and of other sectors what the older rows say
pub newest_outside : (file : List ℕ) (at count : ℕ) (w : What) (k : ℕ) (older : List Row) (i : ℕ) → (i < at) ⊎ (at + count ≤ i)
    → cell_of file (newest_rows at count w k ++ older) i ≡ cell_of file older i
newest_outside file at count w zero older i out = refl
newest_outside file at count w (suc k) older i out =
    let row = row_number at count w k in
    let rest = newest_outside file at count w k older i out in
    let off : covers row i ≡ false = elim out [
      | inl before ↦ covers-before row i (omega (arith, number_offset at count w k, before))
      | inr behind ↦ elim (leb_tells (at + 16383 * k) i) [
        | inl e ↦ covers-behind row i (omega (arith, number_offset at count w k, number_count at count w k, behind, e.1))
        | inr e ↦ covers-before row i (omega (arith, number_offset at count w k, e.1))
      ]
    ] in
    rw off rest

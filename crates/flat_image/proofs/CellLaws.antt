-- What the rows of a layer say of a sector.
use Rattle.std.proofs.Common.{◌≡◌, ℕ, ◌+◌, ◌-◌, ◌*◌, ◌/◌, ◌<◌, ◌≤◌, true, false, cond, List, [], ◌∷◌, ◌++◌, length, drop, refl, ap, arith, length-drop}
use Rattle.std.proofs.lemmas.List.{length-take-le}
use Rattle.std.proofs.lemmas.Bool.Decides.{nat_tests}
use Rattle.seg_mapping.specs.declared.Row.{Row}
use Rattle.flat_image.specs.Sheets.{Cell, Hole, Zero, Filled, IsCell}
use Rattle.flat_image.specs.RowCells.{sector_at, covers, cell_by, cell_of, AreLayerRows, end_of}

-- the row does not speak of sectors before it or behind it, and of those between it does
pub covers-before : (row : Row) (p : ℕ) → p < row.offset → covers row p ≡ false
covers-before row p h = grind (arith, nat_tests)

pub covers-behind : (row : Row) (p : ℕ) → row.offset + row.count ≤ p → covers row p ≡ false
covers-behind row p h = grind (arith, nat_tests)

pub covers-within : (row : Row) (p : ℕ) → row.offset ≤ p → p < row.offset + row.count → covers row p ≡ true
covers-within row p low high = grind (arith, nat_tests)

pub covers-from : (row : Row) (p : ℕ) → covers row p ≡ true → row.offset ≤ p
covers-from row p h = grind (arith, nat_tests)

pub covers-below : (row : Row) (p : ℕ) → covers row p ≡ true → p < row.offset + row.count
covers-below row p h = grind (arith, nat_tests)

-- rows from `low` on end there or later
pub low-end_of : (n index_at low : ℕ) (rows : List Row) → AreLayerRows n index_at low rows → low ≤ end_of low rows
low-end_of n index_at low [] are = omega arith
low-end_of n index_at low (row ∷ rows) are = omega (arith, are.0.order, low-end_of n index_at (row.offset + row.count) rows are.1)

-- rows from `low` on say nothing of what is before
pub hole_before : (file : List ℕ) (n index_at low : ℕ) (rows : List Row) (p : ℕ) → AreLayerRows n index_at low rows → p < low → cell_of file rows p ≡ Hole
hole_before file n index_at low [] p are below = refl
hole_before file n index_at low (row ∷ rows) p are below =
    let order = are.0.order in
    let off : covers row p ≡ false = covers-before row p (omega (arith, order)) in
    rw off (hole_before file n index_at (row.offset + row.count) rows p are.1 (omega (arith, order)))

-- and nothing of what is behind their end
pub hole_behind : (file : List ℕ) (n index_at low : ℕ) (rows : List Row) (p : ℕ) → AreLayerRows n index_at low rows → end_of low rows ≤ p → cell_of file rows p ≡ Hole
hole_behind file n index_at low [] p are above = refl
hole_behind file n index_at low (row ∷ rows) p are above =
    let end = low-end_of n index_at (row.offset + row.count) rows are.1 in
    let off : covers row p ≡ false = covers-behind row p (omega (arith, end)) in
    rw off (hole_behind file n index_at (row.offset + row.count) rows p are.1 above)

-- past its sectors a layer has holes
pub hole_past : (file : List ℕ) (n index_at low : ℕ) (rows : List Row) (p : ℕ) → AreLayerRows n index_at low rows → n ≤ p → cell_of file rows p ≡ Hole
hole_past file n index_at low [] p are past = refl
hole_past file n index_at low (row ∷ rows) p are past =
    let range = are.0.range in
    let off : covers row p ≡ false = covers-behind row p (omega (arith, range, past)) in
    rw off (hole_past file n index_at (row.offset + row.count) rows p are.1 past)

-- rows in two parts
pub rows_split : (n index_at low : ℕ) (xs ys : List Row) → AreLayerRows n index_at low (xs ++ ys) → AreLayerRows n index_at low xs × AreLayerRows n index_at (end_of low xs) ys
rows_split n index_at low [] ys are = (tt, are)
rows_split n index_at low (row ∷ xs) ys are =
    let rest = rows_split n index_at (row.offset + row.count) xs ys are.1 in ((are.0, rest.0), rest.1)

pub rows_joined : (n index_at low : ℕ) (xs ys : List Row) → AreLayerRows n index_at low xs → AreLayerRows n index_at (end_of low xs) ys → AreLayerRows n index_at low (xs ++ ys)
rows_joined n index_at low [] ys are more = more
rows_joined n index_at low (row ∷ xs) ys are more = (are.0, rows_joined n index_at (row.offset + row.count) xs ys are.1 more)

-- of a sector behind the first rows the other rows say what is said
pub cell_of-behind : (file : List ℕ) (n index_at low : ℕ) (xs ys : List Row) (p : ℕ) → AreLayerRows n index_at low xs → end_of low xs ≤ p → cell_of file (xs ++ ys) p ≡ cell_of file ys p
cell_of-behind file n index_at low [] ys p are above = refl
cell_of-behind file n index_at low (row ∷ xs) ys p are above =
    let end = low-end_of n index_at (row.offset + row.count) xs are.1 in
    let off : covers row p ≡ false = covers-behind row p (omega (arith, end)) in
    rw off (cell_of-behind file n index_at (row.offset + row.count) xs ys p are.1 above)

-- of a sector that the further rows leave out the first rows say what is said
pub cell_of-before : (file : List ℕ) (xs ys : List Row) (p : ℕ) → cell_of file ys p ≡ Hole → cell_of file (xs ++ ys) p ≡ cell_of file xs p
cell_of-before file [] ys p hole = hole
cell_of-before file (row ∷ xs) ys p hole =
    ap (λ (cell : Cell). cond (covers row p) (cell_by file row p) cell) (cell_of-before file xs ys p hole)

pub whole_by : (file : List ℕ) (row : Row) (p index_at : ℕ) → (row.zeroed ≡ false → row.place + row.count ≤ index_at / 512) → index_at ≤ length file → p < row.offset + row.count → row.offset ≤ p
    → IsCell (cell_by file row p)
whole_by file row p index_at to within high low =
    elim row.zeroed as (λ z. (z ≡ false → row.place + row.count ≤ index_at / 512) → IsCell (cond z Zero (Filled (sector_at file (row.place + (p - row.offset)))))) [
      | true ↦ λ _. tt
      | false ↦ λ fits. let bound = fits refl in
          length-take-le 512 (drop (512 * (row.place + (p - row.offset))) file) (omega (arith, bound, length-drop (512 * (row.place + (p - row.offset))) file))
    ]
    to

-- each cell that rows in the data of a file make is whole
pub whole_cells : (file : List ℕ) (n index_at low : ℕ) (rows : List Row) → AreLayerRows n index_at low rows → index_at ≤ length file → (p : ℕ) → IsCell (cell_of file rows p)
whole_cells file n index_at low [] are within p = tt
whole_cells file n index_at low (row ∷ rows) are within p =
    elim (covers row p) as (λ b. covers row p ≡ b → IsCell (cond b (cell_by file row p) (cell_of file rows p))) [
      | true ↦ λ on. whole_by file row p index_at are.0.place.to within (covers-below row p on) (covers-from row p on)
      | false ↦ λ off. whole_cells file n index_at (row.offset + row.count) rows are.1 within p
    ]
    refl

-- where rows in two parts end
pub end_of-append : (low : ℕ) (xs ys : List Row) → end_of low (xs ++ ys) ≡ end_of (end_of low xs) ys
end_of-append low [] ys = refl
end_of-append low (row ∷ xs) ys = end_of-append (row.offset + row.count) xs ys

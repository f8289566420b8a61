-- Painting row after row.
use Rattle.std.proofs.Common.{◌≡◌, ℕ, ◌+◌, ◌-◌, ◌*◌, ◌/◌, ◌%◌, ◌<◌, ◌≤◌, max, min, Bool, true, false, cond, List, [], ◌∷◌, ◌++◌, length, take, drop, refl, sym, ap, ◌∙◌, arith}
use Rattle.std.proofs.Math.ListN.{replicate}
use Rattle.std.proofs.lemmas.List.{drop-drop, take_all}
use Rattle.std.proofs.lemmas.Bool.Decides.{nat_tests}
use Rattle.seg_mapping.specs.declared.Row.{Row}
use Rattle.flat_image.specs.Sheets.{Cell, Hole, Zero, Filled}
use Rattle.flat_image.specs.RowCells.{sector_at, covers, cell_by, cell_of}
use Rattle.flat_image.proofs.Runs.{run, bytes_of-paint, run-holes, run-zeros, run-filled, run-window}
use Rattle.flat_image.proofs.CellLaws.{covers-before, covers-behind, covers-within}
use Rattle.sealed_layer.specs.Painting.{IsRowPiece, Paints}

-- the bytes that painting gives
pub paints_run : (file : List ℕ) (rows : List Row) (at : ℕ) (old new : List ℕ) → new ≡ run (cell_of file rows) at (length old / 512) old → Paints file rows at old new
paints_run file rows at old new e = e ∙ sym (bytes_of-paint (cell_of file rows) at (length old / 512) old)

-- a row says nothing of a sector that it does not have
row_off : (file : List ℕ) (row : Row) (p : ℕ) → covers row p ≡ false → cell_of file (row ∷ []) p ≡ Hole
row_off file row p off = ap (λ (b : Bool). cond b (cell_by file row p) Hole) off

row_on : (file : List ℕ) (row : Row) (p : ℕ) → covers row p ≡ true → cell_of file (row ∷ []) p ≡ cell_by file row p
row_on file row p on = ap (λ (b : Bool). cond b (cell_by file row p) Hole) on

pub row_apart : (row : Row) (at n k : ℕ) → min (row.offset + row.count) (at + n) ≤ max row.offset at → at ≤ k → k < at + n → covers row k ≡ false
row_apart row at n k apart low high = grind (arith, nat_tests)

-- a row that has none of the sectors leaves them
pub row_beside : (file : List ℕ) (row : Row) (at : ℕ) (old : List ℕ) → length old % 512 ≡ 0
    → min (row.offset + row.count) (at + length old / 512) ≤ max row.offset at → Paints file (row ∷ []) at old old
row_beside file row at old whole apart =
    let n : ℕ = length old / 512 in
    let off : (k : ℕ) → at ≤ k → k < at + n → cell_of file (row ∷ []) k ≡ Hole =
    λ k low high. row_off file row k (row_apart row at n k apart low high) in
    let short : length old ≤ 512 * n = omega (arith, whole) in
    paints_run file (row ∷ []) at old old (sym (run-holes (cell_of file (row ∷ [])) at n old off ∙ take_all (512 * n) old short))

-- what a row says, by its kind
by_zero : (file : List ℕ) (row : Row) (p : ℕ) → row.zeroed ≡ true → cell_by file row p ≡ Zero
by_zero file row p e = ap (λ (b : Bool). cond b Zero (Filled (sector_at file (row.place + (p - row.offset))))) e

by_place : (file : List ℕ) (row : Row) (p : ℕ) → row.zeroed ≡ false → cell_by file row p ≡ Filled (sector_at file (row.place + (p - row.offset)))
by_place file row p e = ap (λ (b : Bool). cond b Zero (Filled (sector_at file (row.place + (p - row.offset))))) e

-- the bytes of some sectors of a row
row_run : (file : List ℕ) (row : Row) (from b : ℕ) (old piece : List ℕ) → row.offset ≤ from → from + b ≤ row.offset + row.count
    → IsRowPiece file row from (length piece) piece → length piece ≡ b * 512
    → run (cell_of file (row ∷ [])) from b old ≡ piece
row_run file row from b old piece low high is long =
    let size : 512 * b ≡ length piece = omega (arith, long) in
    let on : (k : ℕ) → from ≤ k → k < from + b → cell_of file (row ∷ []) k ≡ cell_by file row k =
    λ k above below. row_on file row k (covers-within row k (omega arith) (omega arith)) in
    elim row.zeroed as (λ z. row.zeroed ≡ z → run (cell_of file (row ∷ [])) from b old ≡ piece) [
      | true ↦ λ e.
          run-zeros (cell_of file (row ∷ [])) from b old (λ k above below. on k above below ∙ by_zero file row k e)
          ∙ ap (λ (k : ℕ). replicate {A = ℕ} k 0) size ∙ sym (is.zeroed e)
      | false ↦ λ e.
          run-filled (cell_of file (row ∷ [])) file from (row.place + (from - row.offset)) b old
          (λ k below. on (from + k) (omega arith) (omega arith) ∙ by_place file row (from + k) e
          ∙ ap (λ (j : ℕ). Filled (sector_at file j)) (let same : row.place + (from + k - row.offset) ≡ row.place + (from - row.offset) + k = omega arith in same))
          ∙ ap (λ (k : ℕ). take k (drop (512 * (row.place + (from - row.offset))) file)) size ∙ sym (is.filled e)
    ]
    refl

-- a row's part of the sectors
pub row_within : (file : List ℕ) (row : Row) (at from end : ℕ) (old front rest piece back : List ℕ) → length old % 512 ≡ 0
    → from ≡ max row.offset at → end ≡ min (row.offset + row.count) (at + length old / 512) → from < end
    → front ≡ take ((from - at) * 512) old → rest ≡ drop ((from - at) * 512) old → back ≡ drop ((end - from) * 512) rest
    → IsRowPiece file row from (length piece) piece → length piece ≡ (end - from) * 512
    → Paints file (row ∷ []) at old (front ++ (piece ++ back))
row_within file row at from end old front rest piece back whole from_is end_is some front_is rest_is back_is is long =
    let n : ℕ = length old / 512 in
    let a : ℕ = from - at in let b : ℕ = end - from in let d : ℕ = at + n - end in
    let low : row.offset ≤ from = omega arith in let lows : at ≤ from = omega arith in
    let high : from + b ≤ row.offset + row.count = omega arith in
    let sum : n ≡ a + (b + d) = omega arith in
    let size : length old ≡ 512 * (a + (b + d)) = omega (arith, whole) in
    let f : ℕ → Cell = cell_of file (row ∷ []) in
    let before : (k : ℕ) → at ≤ k → k < at + a → f k ≡ Hole = λ k above below. row_off file row k (covers-before row k (omega arith)) in
    let behind : (k : ℕ) → at + (a + b) ≤ k → k < at + (a + b) + d → f k ≡ Hole = λ k above below. row_off file row k (covers-behind row k (omega arith)) in
    let here : run f (at + a) b (drop (512 * a) old) ≡ piece =
    ap (λ (k : ℕ). run f k b (drop (512 * a) old)) (let e : at + a ≡ from = omega arith in e)
    ∙ row_run file row from b (drop (512 * a) old) piece low high is long in
    let tail : drop (512 * (a + b)) old ≡ back =
    ap (λ (k : ℕ). drop k old) (let e : 512 * (a + b) ≡ a * 512 + b * 512 = omega arith in e)
    ∙ sym (back_is ∙ ap (λ (bytes : List ℕ). drop (b * 512) bytes) rest_is ∙ drop-drop (b * 512) (a * 512) old) in
    let head : take (512 * a) old ≡ front = ap (λ (k : ℕ). take k old) (let e : 512 * a ≡ a * 512 = omega arith in e) ∙ sym front_is in
    paints_run file (row ∷ []) at old (front ++ (piece ++ back))
    (sym (ap (λ (k : ℕ). run f at k old) sum ∙ run-window f at a b d old size before behind
    ∙ ap (λ (bytes : List ℕ). bytes ++ (run f (at + a) b (drop (512 * a) old) ++ drop (512 * (a + b)) old)) head
    ∙ ap (λ (bytes : List ℕ). front ++ (bytes ++ drop (512 * (a + b)) old)) here
    ∙ ap (λ (bytes : List ℕ). front ++ (piece ++ bytes)) tail))

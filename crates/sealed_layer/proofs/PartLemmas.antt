-- Painting the rows of a layer one after another.
use Rattle.std.proofs.Common.{◌≡◌, ℕ, zero, suc, ◌+◌, ◌*◌, ◌/◌, ◌%◌, ◌^◌, ◌<◌, ◌≤◌, Bool, true, false, cond, List, [], ◌∷◌, ◌++◌, length, take, drop, refl, sym, ap, subst, ◌∙◌, arith}
use Rattle.std.proofs.Math.ListN.{get_or, drop_of_length-le}
use Rattle.std.proofs.lemmas.List.{take_all, take-append-drop, take_more}
use Rattle.seg_mapping.specs.declared.Row.{Row}
use Rattle.flat_image.specs.Sheets.{Cell, Hole, painted}
use Rattle.flat_image.specs.RowCells.{cell_by, cell_of, covers, IsInData, IsLayerRow, AreLayerRows, end_of}
use Rattle.flat_image.proofs.Runs.{run, bytes_of-paint, run-run, run-same, run-holes}
use Rattle.flat_image.proofs.CellLaws.{covers-before, covers-from, hole_before, hole_behind, rows_split, cell_of-behind, cell_of-before, whole_cells}
use Rattle.sealed_layer.specs.Painting.{Paints}

-- each row of a layer is one where the row before ends
pub row_at : (n index_at low : ℕ) (rows : List Row) (i : ℕ) (d : Row) → AreLayerRows n index_at low rows → i < length rows
    → IsLayerRow n index_at (end_of low (take i rows)) (get_or rows i d)
row_at n index_at low [] i d are below = absurd (omega arith)
row_at n index_at low (row ∷ rows) zero d are below = are.0
row_at n index_at low (row ∷ rows) (suc i) d are below = row_at n index_at (row.offset + row.count) rows i d are.1 (omega arith)

-- the rows up to a place are rows of a layer, and so are the others, from the end of those on
pub rows_up_to : (n index_at low : ℕ) (rows : List Row) (i : ℕ) → AreLayerRows n index_at low rows
    → AreLayerRows n index_at low (take i rows) × AreLayerRows n index_at (end_of low (take i rows)) (drop i rows)
rows_up_to n index_at low rows i are =
    rows_split n index_at low (take i rows) (drop i rows) (subst (AreLayerRows n index_at low) (sym (take-append-drop i rows)) are)

-- what some rows say, and then one more
both_ways : (file : List ℕ) (n index_at low : ℕ) (xs : List Row) (row : Row) (k : ℕ) (sector : List ℕ) → AreLayerRows n index_at low xs → end_of low xs ≤ row.offset
    → painted (painted sector (cell_of file xs k)) (cell_of file (row ∷ []) k) ≡ painted sector (cell_of file (xs ++ row ∷ []) k)
both_ways file n index_at low xs row k sector are order =
    elim (covers row k) as (λ b. covers row k ≡ b → painted (painted sector (cell_of file xs k)) (cell_of file (row ∷ []) k) ≡ painted sector (cell_of file (xs ++ row ∷ []) k)) [
      | true ↦ λ on.
          let from = covers-from row k on in
          let far : end_of low xs ≤ k = omega arith in
          ap (λ (cell : Cell). painted (painted sector cell) (cell_of file (row ∷ []) k)) (hole_behind file n index_at low xs k are far)
          ∙ ap (λ (cell : Cell). painted sector cell) (sym (cell_of-behind file n index_at low xs (row ∷ []) k are far))
      | false ↦ λ off.
          let hole : cell_of file (row ∷ []) k ≡ Hole = ap (λ (b : Bool). cond b (cell_by file row k) Hole) off in
          ap (λ (cell : Cell). painted (painted sector (cell_of file xs k)) cell) hole
          ∙ ap (λ (cell : Cell). painted sector cell) (sym (cell_of-before file xs (row ∷ []) k hole))
    ]
    refl

-- before the first row nothing is painted
pub none_painted : (file : List ℕ) (at : ℕ) (old : List ℕ) → length old % 512 ≡ 0 → old ≡ run (cell_of file []) at (length old / 512) old
none_painted file at old whole =
    let short : length old ≤ 512 * (length old / 512) = omega (arith, whole) in
    sym (run-holes (cell_of file []) at (length old / 512) old (λ k low high. refl) ∙ take_all (512 * (length old / 512)) old short)

-- one row more
pub one_painted : (file : List ℕ) (n index_at low : ℕ) (xs : List Row) (row : Row) (at : ℕ) (old mid new : List ℕ)
    → AreLayerRows n index_at low xs → index_at ≤ length file → end_of low xs ≤ row.offset
    → mid ≡ run (cell_of file xs) at (length old / 512) old → length mid ≡ length old → Paints file (row ∷ []) at mid new
    → new ≡ run (cell_of file (xs ++ row ∷ [])) at (length old / 512) old
one_painted file n index_at low xs row at old mid new are within order so_far size paints =
    let count : ℕ = length old / 512 in
    let long : 512 * count ≤ length old = omega arith in
    paints
    ∙ bytes_of-paint (cell_of file (row ∷ [])) at (length mid / 512) mid
    ∙ ap (λ (k : ℕ). run (cell_of file (row ∷ [])) at (k / 512) mid) size
    ∙ ap (λ (bytes : List ℕ). run (cell_of file (row ∷ [])) at count bytes) so_far
    ∙ run-run (cell_of file xs) (cell_of file (row ∷ [])) (cell_of file (xs ++ row ∷ [])) at count old
    (λ k sector. both_ways file n index_at low xs row k sector are order)
    (λ k. whole_cells file n index_at low xs are within k) long

-- the rows that end before the sectors and those that begin behind them say nothing
pub all_painted : (file : List ℕ) (n index_at : ℕ) (rows : List Row) (first i at : ℕ) (old new : List ℕ)
    → AreLayerRows n index_at 0 rows → end_of 0 (take first rows) ≤ at
    → ((k : ℕ) → k < at + length old / 512 → cell_of file (drop i (drop first rows)) k ≡ Hole)
    → new ≡ run (cell_of file (take i (drop first rows))) at (length old / 512) old
    → Paints file rows at old new
all_painted file n index_at rows first i at old new are before behind so_far =
    let rest : List Row = drop first rows in
    let parts = rows_up_to n index_at 0 rows first are in
    let same : (k : ℕ) → at ≤ k → k < at + length old / 512 → cell_of file (take i rest) k ≡ cell_of file rows k =
    λ k low high.
    sym (cell_of-before file (take i rest) (drop i rest) k (behind k high))
    ∙ ap (λ (rs : List Row). cell_of file rs k) (take-append-drop i rest)
    ∙ sym (cell_of-behind file n index_at 0 (take first rows) rest k parts.0 (omega arith))
    ∙ ap (λ (rs : List Row). cell_of file rs k) (take-append-drop first rows) in
    so_far ∙ run-same (cell_of file (take i rest)) (cell_of file rows) at (length old / 512) old same ∙ sym (bytes_of-paint (cell_of file rows) at (length old / 512) old)

-- rows of which the first begins behind a sector say nothing of it
pub none_behind : (file : List ℕ) (n index_at low : ℕ) (rows : List Row) (i : ℕ) (d : Row) (k : ℕ) → AreLayerRows n index_at low rows
    → i < length rows → k < (get_or rows i d).offset → cell_of file (drop i rows) k ≡ Hole
none_behind file n index_at low [] i d k are below before = absurd (omega arith)
none_behind file n index_at low (row ∷ rows) zero d k are below before =
    ap (λ (b : Bool). cond b (cell_by file row k) (cell_of file rows k)) (covers-before row k before)
    ∙ hole_before file n index_at (row.offset + row.count) rows k are.1 (omega arith)
none_behind file n index_at low (row ∷ rows) (suc i) d k are below before =
    none_behind file n index_at (row.offset + row.count) rows i d k are.1 (omega arith) before

-- a place in the data of a layer is one in a file of 2^50 bytes
pub in_data_of_any : (index_at : ℕ) (row : Row) → index_at ≤ 2 ^ 50 → IsInData index_at row → IsInData (2 ^ 50) row
in_data_of_any index_at row short place = record { from = place.from; to = λ filled. let to = place.to filled in omega (arith, to) }

-- the next row
pub next_painted : (file : List ℕ) (n index_at low : ℕ) (rows : List Row) (i : ℕ) (d : Row) (at : ℕ) (old mid new : List ℕ)
    → AreLayerRows n index_at low rows → i < length rows → index_at ≤ length file
    → mid ≡ run (cell_of file (take i rows)) at (length old / 512) old → length mid ≡ length old → Paints file (get_or rows i d ∷ []) at mid new
    → new ≡ run (cell_of file (take (i + 1) rows)) at (length old / 512) old
next_painted file n index_at low rows i d at old mid new are below within so_far size paints =
    let order = (row_at n index_at low rows i d are below).order in
    one_painted file n index_at low (take i rows) (get_or rows i d) at old mid new (rows_up_to n index_at low rows i are).0 within order so_far size paints
    ∙ ap (λ (rs : List Row). run (cell_of file rs) at (length old / 512) old) (sym (take_more rows i d below))

-- the rows that are left behind the first ones
pub rest_rows : (n index_at : ℕ) (rows rest : List Row) (first : ℕ) → AreLayerRows n index_at 0 rows → rest ≡ drop first rows → AreLayerRows n index_at (end_of 0 (take first rows)) rest
rest_rows n index_at rows rest first are e =
    subst (AreLayerRows n index_at (end_of 0 (take first rows))) (sym e) (rows_up_to n index_at 0 rows first are).1

pub rest_painted : (file : List ℕ) (n index_at : ℕ) (rows rest : List Row) (first i at : ℕ) (old new : List ℕ)
    → AreLayerRows n index_at 0 rows → rest ≡ drop first rows → end_of 0 (take first rows) ≤ at
    → ((k : ℕ) → k < at + length old / 512 → cell_of file (drop i rest) k ≡ Hole)
    → new ≡ run (cell_of file (take i rest)) at (length old / 512) old
    → Paints file rows at old new
rest_painted file n index_at rows rest first i at old new are e before =
    let P : List Row → Type 0 = λ rs. ((k : ℕ) → k < at + length old / 512 → cell_of file (drop i rs) k ≡ Hole)
    → new ≡ run (cell_of file (take i rs)) at (length old / 512) old → Paints file rows at old new in
    subst P (sym e) (λ holes so_far. all_painted file n index_at rows first i at old new are before holes so_far)

-- no row is left
pub none_left : (file : List ℕ) (rows : List Row) (i k : ℕ) → length rows ≤ i → cell_of file (drop i rows) k ≡ Hole
none_left file rows i k over = ap (λ (rs : List Row). cell_of file rs k) (drop_of_length-le rows over)

-- The cells that the rows of a sheet's stretches make of a file that has its sectors.
use Rattle.std.proofs.Common.{◌≡◌, ℕ, zero, suc, ◌+◌, ◌-◌, ◌*◌, ◌≤◌, ◌<◌, Bool, true, false, cond, List, [], ◌∷◌, ◌++◌, length, map, take, refl, sym, ap, ◌∙◌, subst, arith, append_assoc, length-append}
use Rattle.std.specs.List.{concat, range_with_len}
use Rattle.std.specs.Prelude.{All}
use Rattle.std.proofs.lemmas.List.{take_at, drop_at}
use Rattle.std.proofs.lemmas.List.Elements.{All-head, All-tail}
use Rattle.seg_mapping.specs.declared.Row.{Row}
use Rattle.flat_image.specs.Sheets.{Cell, Hole, Zero, Filled, IsSector}
use Rattle.flat_image.specs.RowCells.{sector_at, cell_by, cell_of, cells_from, AreLayerRows}
use Rattle.flat_image.specs.CanonicalFiles.{Stretch, rows_from, sectors_of}
use Rattle.flat_image.specs.Base.{holes}
use Rattle.flat_image.specs.Stretches.{IsOf, Begins, AreStretches}
use Rattle.flat_image.proofs.CellLaws.{covers-before, covers-behind, covers-within, hole_before}
use Rattle.flat_image.proofs.CanonicalRows.{begins-length, begins-sectors, row_by, next_place, length-kind}

-- the sectors stand in a file, from that place on
abbrev pub HasSectors : List ℕ → ℕ → List (List ℕ) → Type 0
HasSectors file place [] = Unit {0}
HasSectors file place (sector ∷ sectors) = (sector_at file place ≡ sector) × HasSectors file (place + 1) sectors

pub has-front : (file : List ℕ) (place : ℕ) (xs ys : List (List ℕ)) → HasSectors file place (xs ++ ys) → HasSectors file place xs
has-front file place [] ys has = tt
has-front file place (x ∷ xs) ys has = (has.0, has-front file (place + 1) xs ys has.1)

pub has-behind : (file : List ℕ) (place : ℕ) (xs ys : List (List ℕ)) → HasSectors file place (xs ++ ys) → HasSectors file (place + length xs) ys
has-behind file place [] ys has = subst (λ k. HasSectors file k ys) (let e : place ≡ place + 0 = omega arith in e) has
has-behind file place (x ∷ xs) ys has =
    subst (λ k. HasSectors file k ys) (let e : place + 1 + length xs ≡ place + suc (length xs) = omega arith in e) (has-behind file (place + 1) xs ys has.1)

-- sectors one after another, behind as many bytes
pub has-concat : (front rest : List ℕ) (place : ℕ) (sectors : List (List ℕ)) → length front ≡ 512 * place → All IsSector sectors
    → HasSectors (front ++ (concat sectors ++ rest)) place sectors
has-concat front rest place [] long whole = tt
has-concat front rest place (sector ∷ sectors) long whole =
    let size : length sector ≡ 512 = All-head IsSector sector sectors whole in
    let behind : List ℕ = concat sectors ++ rest in
    let joined : (sector ++ concat sectors) ++ rest ≡ sector ++ behind = append_assoc sector (concat sectors) rest in (
      ap (take 512) (drop_at front ((sector ++ concat sectors) ++ rest) (512 * place) long) ∙ (ap (take 512) joined ∙ take_at sector behind 512 size),
      subst (λ (file : List ℕ). HasSectors file (place + 1) sectors) (append_assoc front sector behind ∙ ap (λ (l : List ℕ). front ++ l) (sym joined))
          (has-concat (front ++ sector) rest (place + 1) sectors (length-append front sector ∙ (let e : length front + length sector ≡ 512 * (place + 1) = omega (arith, long, size) in e))
          (All-tail IsSector sector sectors whole)),
    )

-- a function over a range
pub map_range-same : (f g : ℕ → Cell) (at count : ℕ) → ((p : ℕ) → at ≤ p → p < at + count → f p ≡ g p) → map f (range_with_len at count) ≡ map g (range_with_len at count)
map_range-same f g at zero same = refl
map_range-same f g at (suc count) same =
    ap (λ (c : Cell). c ∷ map f (range_with_len (at + 1) count)) (same at (omega arith) (omega arith))
    ∙ ap (λ (l : List Cell). g at ∷ l) (map_range-same f g (at + 1) count (λ p low high. same p (omega arith) (omega arith)))

pub map_range-holes : (f : ℕ → Cell) (at count : ℕ) → ((p : ℕ) → at ≤ p → p < at + count → f p ≡ Hole) → map f (range_with_len at count) ≡ holes count
map_range-holes f at zero hole = refl
map_range-holes f at (suc count) hole =
    ap (λ (c : Cell). c ∷ map f (range_with_len (at + 1) count)) (hole at (omega arith) (omega arith))
    ∙ ap (λ (l : List Cell). Hole ∷ l) (map_range-holes f (at + 1) count (λ p low high. hole p (omega arith) (omega arith)))

pub map_range-split : (f : ℕ → Cell) (at m n : ℕ) → map f (range_with_len at (m + n)) ≡ map f (range_with_len at m) ++ map f (range_with_len (at + m) n)
map_range-split f at zero n =
    ap (λ (k : ℕ). map f (range_with_len at k)) (let e : 0 + n ≡ n = omega arith in e)
    ∙ ap (λ (k : ℕ). map f (range_with_len k n)) (let d : at ≡ at + 0 = omega arith in d)
map_range-split f at (suc m) n =
    ap (λ (k : ℕ). map f (range_with_len at k)) (let e : suc m + n ≡ suc (m + n) = omega arith in e)
    ∙ ap (λ (l : List Cell). f at ∷ l)
    (map_range-split f (at + 1) m n
    ∙ ap (λ (k : ℕ). map f (range_with_len (at + 1) m) ++ map f (range_with_len k n)) (let d : at + 1 + m ≡ at + suc m = omega arith in d))

-- what a row says of its sectors
zero_by : (file : List ℕ) (row : Row) (rows : List Row) (p : ℕ) → row.zeroed ≡ true → row.offset ≤ p → p < row.offset + row.count → cell_of file (row ∷ rows) p ≡ Zero
zero_by file row rows p is low high =
    ap (λ (b : Bool). cond b (cell_by file row p) (cell_of file rows p)) (covers-within row p low high)
    ∙ ap (λ (z : Bool). cond z Zero (Filled (sector_at file (row.place + (p - row.offset))))) is

filled_by : (file : List ℕ) (row : Row) (rows : List Row) (p : ℕ) → row.zeroed ≡ false → row.offset ≤ p → p < row.offset + row.count
    → cell_of file (row ∷ rows) p ≡ Filled (sector_at file (row.place + (p - row.offset)))
filled_by file row rows p is low high =
    ap (λ (b : Bool). cond b (cell_by file row p) (cell_of file rows p)) (covers-within row p low high)
    ∙ ap (λ (z : Bool). cond z Zero (Filled (sector_at file (row.place + (p - row.offset))))) is

zero_cells : (file : List ℕ) (row : Row) (rows : List Row) (p k : ℕ) (run : List Cell) → row.zeroed ≡ true → All (IsOf true) run → p ≡ row.offset + k → k + length run ≤ row.count
    → map (cell_of file (row ∷ rows)) (range_with_len p (length run)) ≡ run
zero_cells file row rows p k [] is are place within = refl
zero_cells file row rows p k (Hole ∷ run) is are place within = absurd (All-head (IsOf true) Hole run are)
zero_cells file row rows p k (Filled sector ∷ run) is are place within = absurd (let e : true ≡ false = All-head (IsOf true) (Filled sector) run are in cc)
zero_cells file row rows p k (Zero ∷ run) is are place within =
    ap (λ (c : Cell). c ∷ map (cell_of file (row ∷ rows)) (range_with_len (p + 1) (length run))) (zero_by file row rows p is (omega arith) (omega arith))
    ∙ ap (λ (l : List Cell). Zero ∷ l) (zero_cells file row rows (p + 1) (k + 1) run is (All-tail (IsOf true) Zero run are) (omega arith) (omega arith))

filled_cells : (file : List ℕ) (row : Row) (rows : List Row) (p k : ℕ) (run : List Cell) → row.zeroed ≡ false → All (IsOf false) run → p ≡ row.offset + k → k + length run ≤ row.count
    → HasSectors file (row.place + k) (sectors_of run) → map (cell_of file (row ∷ rows)) (range_with_len p (length run)) ≡ run
filled_cells file row rows p k [] is are place within has = refl
filled_cells file row rows p k (Hole ∷ run) is are place within has = absurd (All-head (IsOf false) Hole run are)
filled_cells file row rows p k (Zero ∷ run) is are place within has = absurd (let e : false ≡ true = All-head (IsOf false) Zero run are in cc)
filled_cells file row rows p k (Filled sector ∷ run) is are place within has =
    let here : Filled (sector_at file (row.place + (p - row.offset))) ≡ Filled sector =
    ap (λ (j : ℕ). Filled (sector_at file j)) (let e : row.place + (p - row.offset) ≡ row.place + k = omega (arith, place) in e) ∙ ap (λ (s : List ℕ). Filled s) has.0 in
    ap (λ (c : Cell). c ∷ map (cell_of file (row ∷ rows)) (range_with_len (p + 1) (length run))) (filled_by file row rows p is (omega arith) (omega arith) ∙ here)
    ∙ ap (λ (l : List Cell). Filled sector ∷ l)
    (filled_cells file row rows (p + 1) (k + 1) run is (All-tail (IsOf false) (Filled sector) run are) (omega arith) (omega arith)
    (subst (λ j. HasSectors file j (sectors_of run)) (let e : row.place + k + 1 ≡ row.place + (k + 1) = omega arith in e) has.1))

run_cells : (file : List ℕ) (at count place : ℕ) (zeroed : Bool) (rows : List Row) (run : List Cell) → All (IsOf zeroed) run → length run ≡ count → HasSectors file place (sectors_of run)
    → map (cell_of file (record { offset = at; count = count; place = cond zeroed 0 place; zeroed = zeroed; tag = 0 } ∷ rows)) (range_with_len at (length run)) ≡ run
run_cells file at count place true rows run are same has =
    zero_cells file (record { offset = at; count = count; place = 0; zeroed = true; tag = 0 }) rows at 0 run refl are (omega arith) (omega (arith, same))
run_cells file at count place false rows run are same has =
    filled_cells file (record { offset = at; count = count; place = place; zeroed = false; tag = 0 }) rows at 0 run refl are (omega arith) (omega (arith, same))
    (subst (λ j. HasSectors file j (sectors_of run)) (let e : place ≡ place + 0 = omega arith in e) has)

-- the rows of the stretches of cells, in a file that has their sectors, make those cells
pub cells-rows : (file : List ℕ) (n index_at at place : ℕ) (cells : List Cell) (list : List Stretch) → AreStretches at cells list → AreLayerRows n index_at at (rows_from place list)
    → HasSectors file place (sectors_of cells) → cells_from file (rows_from place list) at (length cells) ≡ cells
cells-rows file n index_at at place cells [] are rows has = map_range-holes (cell_of file []) at (length cells) (λ p low high. refl) ∙ sym are
cells-rows file n index_at at place cells (stretch ∷ rest) are rows has =
    let b : Begins at cells stretch = are.0 in
    let row : Row = row_by stretch place in
    let next : ℕ = cond stretch.zeroed place (place + stretch.count) in
    let more : List Row = rows_from next rest in
    let f : ℕ → Cell = cell_of file (row ∷ more) in
    let end : ℕ = stretch.at + stretch.count in
    let sectors : HasSectors file place (sectors_of b.run ++ sectors_of b.behind) = subst (HasSectors file place) (begins-sectors at cells stretch b) has in
    let there : place + length (sectors_of b.run) ≡ next =
    ap (λ (k : ℕ). place + k) (length-kind stretch.zeroed b.run b.kind ∙ ap (λ (k : ℕ). cond stretch.zeroed 0 k) b.count) ∙ sym (next_place stretch.zeroed place stretch.count) in
    let gap : map f (range_with_len at b.gap) ≡ holes b.gap =
    map_range-holes f at b.gap (λ p low high.
    ap (λ (on : Bool). cond on (cell_by file row p) (cell_of file more p)) (covers-before row p (omega (arith, b.place, high)))
    ∙ hole_before file n index_at end more p rows.1 (omega (arith, b.place, high))) in
    let run : map f (range_with_len (at + b.gap) stretch.count) ≡ b.run =
    ap (λ (k : ℕ). map f (range_with_len k stretch.count)) (sym b.place)
    ∙ (ap (λ (k : ℕ). map f (range_with_len stretch.at k)) (sym b.count)
    ∙ run_cells file stretch.at stretch.count place stretch.zeroed more b.run b.kind b.count (has-front file place (sectors_of b.run) (sectors_of b.behind) sectors)) in
    let behind : map f (range_with_len (at + b.gap + stretch.count) (length b.behind)) ≡ b.behind =
    ap (λ (k : ℕ). map f (range_with_len k (length b.behind))) (let e : at + b.gap + stretch.count ≡ end = omega (arith, b.place) in e)
    ∙ (map_range-same f (cell_of file more) end (length b.behind) (λ p low high.
    ap (λ (on : Bool). cond on (cell_by file row p) (cell_of file more p)) (covers-behind row p low))
    ∙ cells-rows file n index_at end next b.behind rest are.1 rows.1
    (subst (λ k. HasSectors file k (sectors_of b.behind)) there (has-behind file place (sectors_of b.run) (sectors_of b.behind) sectors))) in
    ap (λ (k : ℕ). map f (range_with_len at k)) (begins-length at cells stretch b)
    ∙ (map_range-split f at b.gap (stretch.count + length b.behind)
    ∙ (ap (λ (l : List Cell). map f (range_with_len at b.gap) ++ l) (map_range-split f (at + b.gap) stretch.count (length b.behind))
    ∙ (λ i. gap i ++ (run i ++ behind i))
    ∙ sym b.splits))

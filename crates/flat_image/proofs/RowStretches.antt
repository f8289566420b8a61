-- The sheet of rows has no more than two stretches for each row.
use Rattle.std.proofs.Common.{◌≡◌, ℕ, zero, suc, ◌+◌, ◌-◌, ◌*◌, ◌≤◌, Bool, true, false, cond, min, List, [], ◌∷◌, ◌++◌, length, map, drop, refl, sym, ap, ◌∙◌, subst, arith, append_assoc, length-append}
use Rattle.std.specs.List.{range_with_len}
use Rattle.std.specs.Prelude.{All}
use Rattle.std.proofs.lemmas.List.{take_at, drop_at, length-map}
use Rattle.std.proofs.lemmas.List.Elements.{All-nil, All-cons}
use Rattle.seg_mapping.specs.declared.Row.{Row}
use Rattle.flat_image.specs.Sheets.{Cell, Zero, Filled}
use Rattle.flat_image.specs.Sectors.{put_at}
use Rattle.flat_image.specs.RowCells.{sector_at, cell_by, cell_of, sheet_of}
use Rattle.flat_image.specs.CanonicalFiles.{stretches}
use Rattle.flat_image.specs.Stretches.{IsOf}
use Rattle.flat_image.specs.CanonicalLaws.{RowsMakeFew}
use Rattle.flat_image.proofs.CellLaws.{covers-before, covers-behind, covers-within}
use Rattle.flat_image.proofs.LayerLaws.{length-range}
use Rattle.flat_image.proofs.CanonicalCells.{map_range-same, map_range-holes, map_range-split}
use Rattle.flat_image.proofs.StretchCounts.{adds-two, stretches-holes}

-- a range in three parts
map_range-three : (f : ℕ → Cell) (a c d : ℕ) → map f (range_with_len 0 (a + (c + d))) ≡ map f (range_with_len 0 a) ++ (map f (range_with_len a c) ++ map f (range_with_len (a + c) d))
map_range-three f a c d =
    map_range-split f 0 a (c + d)
    ∙ (ap (λ (k : ℕ). map f (range_with_len 0 a) ++ map f (range_with_len k (c + d))) (let e : 0 + a ≡ a = omega arith in e)
    ∙ ap (λ (l : List Cell). map f (range_with_len 0 a) ++ l) (map_range-split f a c d))

length-cells : (f : ℕ → Cell) (at count : ℕ) → length (map f (range_with_len at count)) ≡ count
length-cells f at count = length-map (range_with_len at count) f ∙ length-range at count

-- what is put over the middle one of three parts
put_at-middle : (xs ys zs new : List Cell) (at : ℕ) → length xs ≡ at → length new ≡ length ys → put_at at new (xs ++ (ys ++ zs)) ≡ xs ++ (new ++ zs)
unfolding put_at
put_at-middle xs ys zs new at long same =
    let behind : drop (at + length new) (xs ++ (ys ++ zs)) ≡ zs =
    ap (drop (at + length new)) (sym (append_assoc xs ys zs))
    ∙ drop_at (xs ++ ys) zs (at + length new) (length-append xs ys ∙ (let e : length xs + length ys ≡ at + length new = omega (arith, long, same) in e)) in
    λ i. take_at xs (ys ++ zs) at long i ++ (new ++ behind i)

-- the cells that a row makes
abbrev row_cells : List ℕ → Row → ℕ → ℕ → List Cell
row_cells file row at count = map (cell_by file row) (range_with_len at count)

cell_kind : (file : List ℕ) (row : Row) (p : ℕ) (zeroed : Bool) → IsOf zeroed (cond zeroed Zero (Filled (sector_at file (row.place + (p - row.offset)))))
cell_kind file row p true = refl
cell_kind file row p false = refl

row_kind : (file : List ℕ) (row : Row) (at count : ℕ) → All (IsOf row.zeroed) (row_cells file row at count)
row_kind file row at zero = All-nil (IsOf row.zeroed)
row_kind file row at (suc count) =
    All-cons (IsOf row.zeroed) (cell_by file row at) (row_cells file row (at + 1) count) (cell_kind file row at row.zeroed) (row_kind file row (at + 1) count)

-- the sheet of rows with one before them is theirs with the cells of that row put in
pub sheet-row : (file : List ℕ) (n : ℕ) (row : Row) (rows : List Row)
    → sheet_of file n (row ∷ rows)
    ≡ put_at (min row.offset n) (row_cells file row (min row.offset n) (min (row.offset + row.count) n - min row.offset n)) (sheet_of file n rows)
sheet-row file n row rows =
    let a : ℕ = min row.offset n in
    let c : ℕ = min (row.offset + row.count) n - min row.offset n in
    let d : ℕ = n - (a + c) in
    let whole : n ≡ a + (c + d) = omega arith in
    let f : ℕ → Cell = cell_of file (row ∷ rows) in
    let g : ℕ → Cell = cell_of file rows in
    let new : List Cell = row_cells file row a c in
    let before : map f (range_with_len 0 a) ≡ map g (range_with_len 0 a) =
    map_range-same f g 0 a (λ p low high. ap (λ (on : Bool). cond on (cell_by file row p) (cell_of file rows p)) (covers-before row p (omega (arith, high)))) in
    let here : map f (range_with_len a c) ≡ new =
    map_range-same f (cell_by file row) a c (λ p low high.
    ap (λ (on : Bool). cond on (cell_by file row p) (cell_of file rows p)) (covers-within row p (omega (arith, low, high)) (omega (arith, low, high)))) in
    let behind : map f (range_with_len (a + c) d) ≡ map g (range_with_len (a + c) d) =
    map_range-same f g (a + c) d (λ p low high. ap (λ (on : Bool). cond on (cell_by file row p) (cell_of file rows p)) (covers-behind row p (omega (arith, low, high)))) in
    ap (λ (k : ℕ). map f (range_with_len 0 k)) whole
    ∙ (map_range-three f a c d
    ∙ ((λ i. before i ++ (here i ++ behind i))
    ∙ (sym (put_at-middle (map g (range_with_len 0 a)) (map g (range_with_len a c)) (map g (range_with_len (a + c) d)) new a (length-cells g 0 a) (length-cells (cell_by file row) a c ∙ sym (length-cells g a c)))
    ∙ ap (put_at a new) (sym (map_range-three g a c d) ∙ ap (λ (k : ℕ). map g (range_with_len 0 k)) (sym whole)))))

pub rows-make_few : (file : List ℕ) (n : ℕ) (rows : List Row) → RowsMakeFew file n rows
rows-make_few file n [] =
    let none : stretches 0 (sheet_of file n []) ≡ [] = ap (stretches 0) (map_range-holes (cell_of file []) 0 n (λ p low high. refl)) ∙ stretches-holes 0 n in
    subst (λ list. length list ≤ 2 * 0) (sym none) (omega arith)
rows-make_few file n (row ∷ rows) =
    let a : ℕ = min row.offset n in
    let c : ℕ = min (row.offset + row.count) n - min row.offset n in
    subst (λ (sheet : List Cell). length (stretches 0 sheet) ≤ 2 * length (row ∷ rows)) (sym (sheet-row file n row rows))
    (omega (arith, adds-two (sheet_of file n rows) a row.zeroed (row_cells file row a c) (row_kind file row a c), rows-make_few file n rows))

-- The rows of the stretches of a sheet: the sectors they stand for, and that they are a layer's.
use Rattle.std.proofs.Common.{◌≡◌, ℕ, zero, suc, ◌+◌, ◌/◌, ◌^◌, ◌≤◌, Bool, true, false, cond, List, [], ◌∷◌, ◌++◌, length, refl, ap, ◌∙◌, arith, length-append}
use Rattle.std.specs.Prelude.{All}
use Rattle.std.proofs.lemmas.List.{length-replicate}
use Rattle.std.proofs.lemmas.List.Elements.{All-nil, All-cons, All-head, All-tail}
use Rattle.seg_mapping.specs.declared.Row.{Row}
use Rattle.seg_mapping.specs.Rows.{spelling, RowOf}
use Rattle.flat_image.specs.Sheets.{Cell, Hole, Zero, Filled, IsSector, IsCell}
use Rattle.flat_image.specs.RowCells.{IsLayerRow, AreLayerRows}
use Rattle.flat_image.specs.CanonicalFiles.{Stretch, rows_from, sectors_of}
use Rattle.flat_image.specs.Base.{holes}
use Rattle.flat_image.specs.Stretches.{IsOf, Begins, AreStretches}
use Rattle.flat_image.proofs.StretchLaws.{IsShort}

-- the sectors of cells in two parts, of holes, and of cells of one kind
pub sectors_of-append : (xs ys : List Cell) → sectors_of (xs ++ ys) ≡ sectors_of xs ++ sectors_of ys
sectors_of-append [] ys = refl
sectors_of-append (Hole ∷ xs) ys = sectors_of-append xs ys
sectors_of-append (Zero ∷ xs) ys = sectors_of-append xs ys
sectors_of-append (Filled sector ∷ xs) ys = ap (λ (l : List (List ℕ)). sector ∷ l) (sectors_of-append xs ys)

pub sectors_of-holes : (n : ℕ) → sectors_of (holes n) ≡ []
sectors_of-holes zero = refl
sectors_of-holes (suc n) = sectors_of-holes n

pub length-kind : (zeroed : Bool) (run : List Cell) → All (IsOf zeroed) run → length (sectors_of run) ≡ cond zeroed 0 (length run)
length-kind true [] are = refl
length-kind false [] are = refl
length-kind zeroed (Hole ∷ run) are = absurd (All-head (IsOf zeroed) Hole run are)
length-kind true (Zero ∷ run) are = length-kind true run (All-tail (IsOf true) Zero run are)
length-kind false (Zero ∷ run) are = absurd (let e : false ≡ true = All-head (IsOf false) Zero run are in cc)
length-kind true (Filled sector ∷ run) are = absurd (let e : true ≡ false = All-head (IsOf true) (Filled sector) run are in cc)
length-kind false (Filled sector ∷ run) are = ap suc (length-kind false run (All-tail (IsOf false) (Filled sector) run are))

pub whole-sectors_of : (cells : List Cell) → All IsCell cells → All IsSector (sectors_of cells)
whole-sectors_of [] are = All-nil IsSector
whole-sectors_of (Hole ∷ cells) are = whole-sectors_of cells (All-tail IsCell Hole cells are)
whole-sectors_of (Zero ∷ cells) are = whole-sectors_of cells (All-tail IsCell Zero cells are)
whole-sectors_of (Filled sector ∷ cells) are =
    All-cons IsSector sector (sectors_of cells) (All-head IsCell (Filled sector) cells are) (whole-sectors_of cells (All-tail IsCell (Filled sector) cells are))

-- there are no more sectors than cells
pub length-sectors_of : (cells : List Cell) → length (sectors_of cells) ≤ length cells
length-sectors_of [] = omega arith
length-sectors_of (Hole ∷ cells) = omega (arith, length-sectors_of cells)
length-sectors_of (Zero ∷ cells) = omega (arith, length-sectors_of cells)
length-sectors_of (Filled sector ∷ cells) = omega (arith, length-sectors_of cells)

-- how many cells there are, and how many sectors, where the cells begin with a stretch
pub begins-length : (at : ℕ) (cells : List Cell) (stretch : Stretch) (b : Begins at cells stretch) → length cells ≡ b.gap + (stretch.count + length b.behind)
begins-length at cells stretch b =
    ap (length {A = Cell}) b.splits
    ∙ (length-append (holes b.gap) (b.run ++ b.behind)
    ∙ (let e : length (holes b.gap) + length (b.run ++ b.behind) ≡ b.gap + (stretch.count + length b.behind) =
    omega (arith, length-replicate b.gap Hole, length-append b.run b.behind, b.count) in e))

pub begins-sectors : (at : ℕ) (cells : List Cell) (stretch : Stretch) (b : Begins at cells stretch) → sectors_of cells ≡ sectors_of b.run ++ sectors_of b.behind
begins-sectors at cells stretch b =
    ap sectors_of b.splits
    ∙ (sectors_of-append (holes b.gap) (b.run ++ b.behind)
    ∙ (ap (λ (l : List (List ℕ)). l ++ sectors_of (b.run ++ b.behind)) (sectors_of-holes b.gap) ∙ sectors_of-append b.run b.behind))

pub begins-count : (at : ℕ) (cells : List Cell) (stretch : Stretch) (b : Begins at cells stretch)
    → length (sectors_of cells) ≡ cond stretch.zeroed 0 stretch.count + length (sectors_of b.behind)
begins-count at cells stretch b =
    ap (length {A = List ℕ}) (begins-sectors at cells stretch b)
    ∙ (length-append (sectors_of b.run) (sectors_of b.behind)
    ∙ ap (λ (n : ℕ). n + length (sectors_of b.behind)) (length-kind stretch.zeroed b.run b.kind ∙ ap (λ (n : ℕ). cond stretch.zeroed 0 n) b.count))

-- where the sectors of the next stretch stand
pub next_place : (zeroed : Bool) (place count : ℕ) → cond zeroed place (place + count) ≡ place + cond zeroed 0 count
next_place true place count = omega arith
next_place false place count = refl

pub cond_below : (zeroed : Bool) (count : ℕ) → cond zeroed 0 count ≤ count
cond_below true count = omega arith
cond_below false count = omega arith

-- the row of a stretch
abbrev pub row_by : Stretch → ℕ → Row
row_by stretch place = record { offset = stretch.at; count = stretch.count; place = cond stretch.zeroed 0 place; zeroed = stretch.zeroed; tag = 0 }

is_row : (n index_at low at count place : ℕ) (zeroed : Bool) → 1 ≤ count → count ≤ 16383 → low ≤ at → at + count ≤ n → n ≤ 2 ^ 31 → 8 ≤ place → place ≤ at + 8
    → place + cond zeroed 0 count ≤ index_at / 512 → IsLayerRow n index_at low (record { offset = at; count = count; place = cond zeroed 0 place; zeroed = zeroed; tag = 0 })
is_row n index_at low at count place true some short order range few from near to = record {
  fits = record { offset = omega arith; some = some; count = omega arith; place = omega arith };
  order = order;
  range = range;
  place = record { from = λ is. absurd (cc); to = λ is. absurd (cc) };
}
is_row n index_at low at count place false some short order range few from near to = record {
  fits = record { offset = omega arith; some = some; count = omega arith; place = omega arith };
  order = order;
  range = range;
  place = record { from = λ is. from; to = λ is. to };
}

-- the rows of the stretches of cells are rows of a layer
pub are-rows : (n index_at at place : ℕ) (cells : List Cell) (list : List Stretch) → AreStretches at cells list → All IsShort list → at + length cells ≤ n → n ≤ 2 ^ 31
    → 8 ≤ place → place ≤ at + 8 → place + length (sectors_of cells) ≤ index_at / 512 → AreLayerRows n index_at at (rows_from place list)
are-rows n index_at at place cells [] are short range few from near to = tt
are-rows n index_at at place cells (stretch ∷ rest) are short range few from near to =
    let b : Begins at cells stretch = are.0 in
    let long = begins-length at cells stretch b in
    let sectors = begins-count at cells stretch b in
    let next = next_place stretch.zeroed place stretch.count in
    let below = cond_below stretch.zeroed stretch.count in
    let within : place + cond stretch.zeroed 0 stretch.count ≤ index_at / 512 = omega (arith, to, sectors) in (
      is_row n index_at at stretch.at stretch.count place stretch.zeroed b.some (All-head IsShort stretch rest short) (omega (arith, b.place)) (omega (arith, b.place, long, range))
          few from (omega (arith, near, b.place)) within,
      are-rows n index_at (stretch.at + stretch.count) (cond stretch.zeroed place (place + stretch.count)) b.behind rest are.1 (All-tail IsShort stretch rest short)
          (omega (arith, b.place, long, range)) few (omega (arith, next, from)) (omega (arith, next, near, b.place, below)) (omega (arith, next, to, sectors)),
    )

-- each of them has a spelling
abbrev pub IsRow : Row → Type 0
IsRow row = RowOf (spelling row) row

pub spelled-rows : (n index_at low place : ℕ) (list : List Stretch) → AreLayerRows n index_at low (rows_from place list) → All IsRow (rows_from place list)
spelled-rows n index_at low place [] are = All-nil IsRow
spelled-rows n index_at low place (stretch ∷ rest) are =
    All-cons IsRow (row_by stretch place) (rows_from (cond stretch.zeroed place (place + stretch.count)) rest)
    (record { spelled = refl; fits = are.0.fits; tag = omega arith })
    (spelled-rows n index_at (stretch.at + stretch.count) (cond stretch.zeroed place (place + stretch.count)) rest are.1)

-- there is a row for each stretch
pub length-rows_from : (place : ℕ) (list : List Stretch) → length (rows_from place list) ≡ length list
length-rows_from place [] = refl
length-rows_from place (stretch ∷ rest) = ap suc (length-rows_from (cond stretch.zeroed place (place + stretch.count)) rest)

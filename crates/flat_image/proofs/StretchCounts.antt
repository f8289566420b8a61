-- How many stretches and how many rows a sheet has, and what a change adds.
use Rattle.std.proofs.Common.{◌≡◌, ◌≢◌, ℕ, zero, suc, ◌+◌, ◌*◌, ◌≤◌, ◌<◌, ◌==◌, ◌&&◌, Bool, true, false, cond, List, [], ◌∷◌, ◌++◌, length, take, drop, refl, sym, ap, ◌∙◌, subst, arith, length-append, eq-eqb}
use Rattle.std.specs.Bool.{beq}
use Rattle.std.specs.List.{flat_map, range_with_len}
use Rattle.std.specs.Prelude.{All}
use Rattle.std.proofs.lemmas.List.{take-append-drop, drop-drop, length-map}
use Rattle.std.proofs.lemmas.Bool.{eqb-true}
use Rattle.std.proofs.lemmas.List.Elements.{All-head, All-tail}
use Rattle.sector_extent.specs.Rows.{rows_for}
use Rattle.flat_image.specs.Sheets.{Cell, Hole, Zero, Filled}
use Rattle.flat_image.specs.Sectors.{put_at}
use Rattle.flat_image.specs.CanonicalFiles.{Stretch, with_stretch, stretches, part_of, parts_of}
use Rattle.flat_image.specs.Base.{holes}
use Rattle.flat_image.specs.Stretches.{IsOf, AreStretches, EndsBefore}
use Rattle.flat_image.specs.CanonicalLaws.{FewRows, AddsTwo}
use Rattle.flat_image.proofs.StretchLaws.{and_true, same_bool, are-stretches}
use Rattle.flat_image.proofs.CanonicalRows.{begins-length, length-rows_from}
use Rattle.flat_image.proofs.LayerLaws.{length-range}

-- whether the first of the stretches goes on the given one
abbrev pub goes_on : Stretch → Stretch → Bool
goes_on first next = (next.at == first.at + first.count) && beq next.zeroed first.zeroed

beq_self : (a : Bool) → beq a a ≡ true
beq_self true = refl
beq_self false = refl

pub goes_on-is : (first next : Stretch) → next.at ≡ first.at + first.count → next.zeroed ≡ first.zeroed → goes_on first next ≡ true
goes_on-is first next place same =
    ap (λ (b : Bool). b && beq next.zeroed first.zeroed) (eq-eqb next.at (first.at + first.count) place)
    ∙ (ap (λ (z : Bool). true && beq z first.zeroed) same ∙ ap (λ (b : Bool). true && b) (beq_self first.zeroed))

-- the stretches begin at that place, with that kind
abbrev pub StartsAs : ℕ → Bool → List Stretch → Type 0
StartsAs at zeroed [] = ⊥
StartsAs at zeroed (first ∷ rest) = (first.at ≡ at) × (first.zeroed ≡ zeroed)

pub starts-with : (first : Stretch) (list : List Stretch) → StartsAs first.at first.zeroed (with_stretch first list)
starts-with first [] = (refl, refl)
starts-with first (next ∷ rest) = by_cases (goes_on first next)
  where
    by_cases : (b : Bool) → StartsAs first.at first.zeroed (cond b (record first { count = first.count + next.count } ∷ rest) (first ∷ next ∷ rest))
    by_cases true = (refl, refl)
    by_cases false = (refl, refl)

-- a stretch that goes on is one with the next, and another stands by itself
pub with-joined : (first next : Stretch) (rest : List Stretch) → next.at ≡ first.at + first.count → next.zeroed ≡ first.zeroed
    → with_stretch first (next ∷ rest) ≡ record first { count = first.count + next.count } ∷ rest
with-joined first next rest place same =
    ap (λ (b : Bool). cond b (record first { count = first.count + next.count } ∷ rest) (first ∷ next ∷ rest)) (goes_on-is first next place same)

pub with-apart : (first : Stretch) (list : List Stretch) → EndsBefore first list → with_stretch first list ≡ first ∷ list
with-apart first [] ends = refl
with-apart first (next ∷ rest) ends = by_cases (goes_on first next) refl
  where
    by_cases : (b : Bool) → goes_on first next ≡ b → cond b (record first { count = first.count + next.count } ∷ rest) (first ∷ next ∷ rest) ≡ first ∷ next ∷ rest
    by_cases true is =
        let tests = and_true (next.at == first.at + first.count) (beq next.zeroed first.zeroed) is in
        absurd (ends (eqb-true next.at (first.at + first.count) tests.0) (same_bool next.zeroed first.zeroed tests.1))
    by_cases false is = refl

ends-kind : (first : Stretch) (list : List Stretch) (at : ℕ) (zeroed : Bool) → StartsAs at zeroed list → zeroed ≢ first.zeroed → EndsBefore first list
ends-kind first [] at zeroed starts other = tt
ends-kind first (next ∷ rest) at zeroed starts other = λ place same. other (sym starts.1 ∙ same)

ends-gap : (first : Stretch) (at : ℕ) (cells : List Cell) (list : List Stretch) → AreStretches at cells list → first.at + first.count < at → EndsBefore first list
ends-gap first at cells [] are gap = tt
ends-gap first at cells (next ∷ rest) are gap = λ place same. absurd (omega (arith, are.0.place, place, gap))

length-joined : (first : Stretch) (list : List Stretch) → StartsAs (first.at + first.count) first.zeroed list → length (with_stretch first list) ≡ length list
length-joined first [] starts = absurd starts
length-joined first (next ∷ rest) starts = ap (length {A = Stretch}) (with-joined first next rest starts.0 starts.1)

-- the stretches of cells are counted where they begin: 1 where the cell begins one, before those of the cells behind
abbrev opens : Cell → List Cell → ℕ
opens Hole cells = 0
opens Zero [] = 1
opens Zero (Hole ∷ cells) = 1
opens Zero (Zero ∷ cells) = 0
opens Zero (Filled next ∷ cells) = 1
opens (Filled sector) [] = 1
opens (Filled sector) (Hole ∷ cells) = 1
opens (Filled sector) (Zero ∷ cells) = 1
opens (Filled sector) (Filled next ∷ cells) = 0

abbrev runs : List Cell → ℕ
runs [] = 0
runs (cell ∷ cells) = opens cell cells + runs cells

not_same : true ≢ false
not_same e = cc

not_same' : false ≢ true
not_same' e = cc

length-zero : (at : ℕ) (cells : List Cell) → length (with_stretch (record { at = at; count = 1; zeroed = true }) (stretches (at + 1) cells)) ≡ opens Zero cells + length (stretches (at + 1) cells)
length-zero at [] = refl
length-zero at (Hole ∷ cells) =
    ap (length {A = Stretch}) (with-apart (record { at = at; count = 1; zeroed = true }) (stretches (at + 1 + 1) cells)
    (ends-gap (record { at = at; count = 1; zeroed = true }) (at + 1 + 1) cells (stretches (at + 1 + 1) cells) (are-stretches (at + 1 + 1) cells) (omega arith)))
    ∙ (let e : suc (length (stretches (at + 1 + 1) cells)) ≡ 1 + length (stretches (at + 1 + 1) cells) = omega arith in e)
length-zero at (Zero ∷ cells) =
    length-joined (record { at = at; count = 1; zeroed = true }) (stretches (at + 1) (Zero ∷ cells)) (starts-with (record { at = at + 1; count = 1; zeroed = true }) (stretches (at + 1 + 1) cells))
    ∙ (let e : length (stretches (at + 1) (Zero ∷ cells)) ≡ 0 + length (stretches (at + 1) (Zero ∷ cells)) = omega arith in e)
length-zero at (Filled sector ∷ cells) =
    ap (length {A = Stretch}) (with-apart (record { at = at; count = 1; zeroed = true }) (stretches (at + 1) (Filled sector ∷ cells))
    (ends-kind (record { at = at; count = 1; zeroed = true }) (stretches (at + 1) (Filled sector ∷ cells)) (at + 1) false
    (starts-with (record { at = at + 1; count = 1; zeroed = false }) (stretches (at + 1 + 1) cells)) not_same'))
    ∙ (let e : suc (length (stretches (at + 1) (Filled sector ∷ cells))) ≡ 1 + length (stretches (at + 1) (Filled sector ∷ cells)) = omega arith in e)

length-filled : (at : ℕ) (sector : List ℕ) (cells : List Cell)
    → length (with_stretch (record { at = at; count = 1; zeroed = false }) (stretches (at + 1) cells)) ≡ opens (Filled sector) cells + length (stretches (at + 1) cells)
length-filled at sector [] = refl
length-filled at sector (Hole ∷ cells) =
    ap (length {A = Stretch}) (with-apart (record { at = at; count = 1; zeroed = false }) (stretches (at + 1 + 1) cells)
    (ends-gap (record { at = at; count = 1; zeroed = false }) (at + 1 + 1) cells (stretches (at + 1 + 1) cells) (are-stretches (at + 1 + 1) cells) (omega arith)))
    ∙ (let e : suc (length (stretches (at + 1 + 1) cells)) ≡ 1 + length (stretches (at + 1 + 1) cells) = omega arith in e)
length-filled at sector (Filled next ∷ cells) =
    length-joined (record { at = at; count = 1; zeroed = false }) (stretches (at + 1) (Filled next ∷ cells)) (starts-with (record { at = at + 1; count = 1; zeroed = false }) (stretches (at + 1 + 1) cells))
    ∙ (let e : length (stretches (at + 1) (Filled next ∷ cells)) ≡ 0 + length (stretches (at + 1) (Filled next ∷ cells)) = omega arith in e)
length-filled at sector (Zero ∷ cells) =
    ap (length {A = Stretch}) (with-apart (record { at = at; count = 1; zeroed = false }) (stretches (at + 1) (Zero ∷ cells))
    (ends-kind (record { at = at; count = 1; zeroed = false }) (stretches (at + 1) (Zero ∷ cells)) (at + 1) true
    (starts-with (record { at = at + 1; count = 1; zeroed = true }) (stretches (at + 1 + 1) cells)) not_same))
    ∙ (let e : suc (length (stretches (at + 1) (Zero ∷ cells))) ≡ 1 + length (stretches (at + 1) (Zero ∷ cells)) = omega arith in e)

pub length-stretches : (at : ℕ) (cells : List Cell) → length (stretches at cells) ≡ runs cells
length-stretches at [] = refl
length-stretches at (Hole ∷ cells) = length-stretches (at + 1) cells ∙ (let e : runs cells ≡ 0 + runs cells = omega arith in e)
length-stretches at (Zero ∷ cells) = length-zero at cells ∙ ap (λ (n : ℕ). opens Zero cells + n) (length-stretches (at + 1) cells)
length-stretches at (Filled sector ∷ cells) = length-filled at sector cells ∙ ap (λ (n : ℕ). opens (Filled sector) cells + n) (length-stretches (at + 1) cells)

-- cells in two parts
opens-head : (c d : Cell) (xs ys : List Cell) → opens c (d ∷ xs) ≡ opens c (d ∷ ys)
opens-head Hole d xs ys = refl
opens-head Zero Hole xs ys = refl
opens-head Zero Zero xs ys = refl
opens-head Zero (Filled next) xs ys = refl
opens-head (Filled sector) Hole xs ys = refl
opens-head (Filled sector) Zero xs ys = refl
opens-head (Filled sector) (Filled next) xs ys = refl

opens-alone : (c : Cell) (xs : List Cell) → (opens c xs ≤ opens c []) × (opens c [] ≤ 1)
opens-alone Hole xs = (omega arith, omega arith)
opens-alone Zero [] = (omega arith, omega arith)
opens-alone Zero (Hole ∷ xs) = (omega arith, omega arith)
opens-alone Zero (Zero ∷ xs) = (omega arith, omega arith)
opens-alone Zero (Filled next ∷ xs) = (omega arith, omega arith)
opens-alone (Filled sector) [] = (omega arith, omega arith)
opens-alone (Filled sector) (Hole ∷ xs) = (omega arith, omega arith)
opens-alone (Filled sector) (Zero ∷ xs) = (omega arith, omega arith)
opens-alone (Filled sector) (Filled next ∷ xs) = (omega arith, omega arith)

runs-append : (xs ys : List Cell) → (runs (xs ++ ys) ≤ runs xs + runs ys) × (runs xs + runs ys ≤ runs (xs ++ ys) + 1)
runs-append [] ys = (omega arith, omega arith)
runs-append (c ∷ []) ys = let alone = opens-alone c ys in (omega (arith, alone.0), omega (arith, alone.1))
runs-append (c ∷ d ∷ xs) ys =
    let more = runs-append (d ∷ xs) ys in
    let same = opens-head c d (xs ++ ys) xs in (omega (arith, more.0, same), omega (arith, more.1, same))

runs-behind : (xs ys : List Cell) → runs ys ≤ runs (xs ++ ys)
runs-behind [] ys = omega arith
runs-behind (c ∷ xs) ys = omega (arith, runs-behind xs ys)

opens-kind : (zeroed : Bool) (c d : Cell) (xs : List Cell) → IsOf zeroed c → IsOf zeroed d → opens c (d ∷ xs) ≡ 0
opens-kind zeroed Hole d xs here next = absurd here
opens-kind zeroed Zero Hole xs here next = absurd next
opens-kind zeroed Zero Zero xs here next = refl
opens-kind zeroed Zero (Filled s) xs here next = absurd (let e : true ≡ false = sym here ∙ next in cc)
opens-kind zeroed (Filled s) Hole xs here next = absurd next
opens-kind zeroed (Filled s) Zero xs here next = absurd (let e : true ≡ false = sym next ∙ here in cc)
opens-kind zeroed (Filled s) (Filled t) xs here next = refl

runs-kind : (zeroed : Bool) (new : List Cell) → All (IsOf zeroed) new → runs new ≤ 1
runs-kind zeroed [] are = omega arith
runs-kind zeroed (c ∷ []) are = omega (arith, (opens-alone c []).1)
runs-kind zeroed (c ∷ d ∷ xs) are =
    let rest = All-tail (IsOf zeroed) c (d ∷ xs) are in
    omega (arith, opens-kind zeroed c d xs (All-head (IsOf zeroed) c (d ∷ xs) are) (All-head (IsOf zeroed) d xs rest), runs-kind zeroed (d ∷ xs) rest)

runs-put_at : (at : ℕ) (zeroed : Bool) (new old : List Cell) → All (IsOf zeroed) new → runs (put_at at new old) ≤ runs old + 2
unfolding put_at
runs-put_at at zeroed new old are =
    let front : List Cell = take at old in
    let back : List Cell = drop at old in
    let rest : List Cell = drop (at + length new) old in
    let one : runs (front ++ back) ≡ runs old = ap runs (take-append-drop at old) in
    let two : runs (take (length new) back ++ rest) ≡ runs back =
    ap (λ (l : List Cell). runs (take (length new) back ++ l)) (sym (drop-drop (length new) at old)) ∙ ap runs (take-append-drop (length new) back) in
    omega (arith, (runs-append front (new ++ rest)).0, (runs-append new rest).0, runs-kind zeroed new are, (runs-append front back).1, one, runs-behind (take (length new) back) rest, two)

pub adds-two : (sheet : List Cell) → AddsTwo sheet
adds-two sheet at zeroed new are =
    omega (arith, length-stretches 0 (put_at at new sheet), length-stretches 0 sheet, runs-put_at at zeroed new sheet are)

-- nothing put into a list
put_at-nil : (at : ℕ) (sheet : List Cell) → put_at at [] sheet ≡ sheet
unfolding put_at
put_at-nil at sheet = ap (λ (k : ℕ). take at sheet ++ drop k sheet) (let e : at + 0 ≡ at = omega arith in e) ∙ take-append-drop at sheet

-- two stretches more for each row that a change takes
pub stretches-change : (at : ℕ) (zeroed : Bool) (new sheet : List Cell) → All (IsOf zeroed) new
    → length (stretches 0 (put_at at new sheet)) ≤ length (stretches 0 sheet) + 2 * rows_for (length new)
stretches-change at zeroed [] sheet are =
    subst (λ (l : List Cell). length (stretches 0 l) ≤ length (stretches 0 sheet) + 2 * rows_for 0) (sym (put_at-nil at sheet)) (omega arith)
stretches-change at zeroed (c ∷ new) sheet are =
    let some : 1 ≤ rows_for (length (c ∷ new)) = omega arith in omega (arith, adds-two sheet at zeroed (c ∷ new) are, some)

-- holes have no stretch
pub stretches-holes : (at n : ℕ) → stretches at (holes n) ≡ []
stretches-holes at zero = refl
stretches-holes at (suc n) = stretches-holes (at + 1) n

-- and holes behind cells add none
pub stretches-more_holes : (at : ℕ) (cells : List Cell) (n : ℕ) → stretches at (cells ++ holes n) ≡ stretches at cells
stretches-more_holes at [] n = stretches-holes at n
stretches-more_holes at (Hole ∷ cells) n = stretches-more_holes (at + 1) cells n
stretches-more_holes at (Zero ∷ cells) n =
    ap (with_stretch (record { at = at; count = 1; zeroed = true })) (stretches-more_holes (at + 1) cells n)
stretches-more_holes at (Filled sector ∷ cells) n =
    ap (with_stretch (record { at = at; count = 1; zeroed = false })) (stretches-more_holes (at + 1) cells n)

-- the stretches have no more cells than there are
abbrev cells_in : List Stretch → ℕ
cells_in [] = 0
cells_in (stretch ∷ rest) = stretch.count + cells_in rest

cells_in-below : (at : ℕ) (cells : List Cell) (list : List Stretch) → AreStretches at cells list → cells_in list ≤ length cells
cells_in-below at cells [] are = omega arith
cells_in-below at cells (stretch ∷ rest) are =
    omega (arith, begins-length at cells stretch are.0, cells_in-below (stretch.at + stretch.count) are.0.behind rest are.1)

-- and their parts are not many more than they are
length-parts : (stretch : Stretch) → length (parts_of stretch) ≡ rows_for stretch.count
length-parts stretch = length-map (range_with_len 0 (rows_for stretch.count)) (part_of stretch) ∙ length-range 0 (rows_for stretch.count)

few_parts : (list : List Stretch) → 16383 * length (flat_map parts_of list) ≤ cells_in list + 16382 * length list
few_parts [] = omega arith
few_parts (stretch ∷ rest) =
    let one : 16383 * rows_for stretch.count ≤ stretch.count + 16382 = omega arith in
    omega (arith, one, few_parts rest, length-parts stretch, length-append (parts_of stretch) (flat_map parts_of rest))

pub few-rows : (sheet : List Cell) → FewRows sheet
few-rows sheet long few =
    omega (arith, length-rows_from 8 (flat_map parts_of (stretches 0 sheet)), few_parts (stretches 0 sheet), cells_in-below 0 sheet (stretches 0 sheet) (are-stretches 0 sheet), long, few)

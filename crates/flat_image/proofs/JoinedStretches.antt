-- Stretches that are joined one after another, and their rows: steps of a loop from the first to the last.
use Rattle.std.proofs.Common.{◌≡◌, ℕ, zero, suc, ◌+◌, ◌-◌, ◌*◌, ◌==◌, ◌&&◌, Bool, true, false, cond, min, List, [], ◌∷◌, ◌++◌, map, refl, sym, ap, ◌∙◌, subst, arith}
use Rattle.std.specs.Bool.{beq}
use Rattle.std.specs.List.{range_with_len}
use Rattle.sector_extent.specs.Rows.{rows_for}
use Rattle.seg_mapping.specs.declared.Row.{Row}
use Rattle.flat_image.specs.Sheets.{Cell}
use Rattle.flat_image.specs.CanonicalFiles.{Stretch, with_stretch, joined, stretches, part_of, parts_of, rows_from}
use Rattle.flat_image.specs.Stretches.{Begins, AreStretches, EndsBefore, AreLongest}
use Rattle.flat_image.specs.CanonicalLaws.{JoinedAreLongest}
use Rattle.flat_image.proofs.StretchLaws.{are-holes, are-with_stretch}
use Rattle.flat_image.proofs.StretchCounts.{goes_on, with-joined, with-apart, starts-with, StartsAs}
use Rattle.flat_image.proofs.StretchUnique.{longest-with, only-stretches}
use Rattle.flat_image.proofs.CanonicalRows.{row_by, next_place}

-- stretches of cells, joined, are the longest ones of the cells
are-joined : (at : ℕ) (cells : List Cell) (list : List Stretch) → AreStretches at cells list → AreStretches at cells (joined list)
are-joined at cells [] are = are
are-joined at cells (stretch ∷ rest) are =
    let b : Begins at cells stretch = are.0 in
    subst (λ (l : List Cell). AreStretches at l (with_stretch stretch (joined rest))) (sym b.splits)
    (are-holes at b.gap (b.run ++ b.behind) (with_stretch stretch (joined rest))
    (subst (λ k. AreStretches k (b.run ++ b.behind) (with_stretch stretch (joined rest))) b.place
    (are-with_stretch stretch b.run b.behind (joined rest) b.count b.some b.kind (are-joined (stretch.at + stretch.count) b.behind rest are.1))))

longest-joined : (list : List Stretch) → AreLongest (joined list)
longest-joined [] = tt
longest-joined (stretch ∷ rest) = longest-with stretch (joined rest) (longest-joined rest)

pub joined-longest : (at : ℕ) (cells : List Cell) (list : List Stretch) → AreStretches at cells list → joined list ≡ stretches at cells
joined-longest at cells list are = only-stretches at cells (joined list) (are-joined at cells list are) (longest-joined list)

pub joined-are_longest : (sheet : List Cell) → JoinedAreLongest sheet
joined-are_longest sheet = joined-longest 0 sheet

-- a stretch that goes on the one before is one with it, whatever comes behind
abbrev both : Stretch → Stretch → Stretch
both first next = record first { count = first.count + next.count }

with-both : (first next : Stretch) (list : List Stretch) → next.at ≡ first.at + first.count → next.zeroed ≡ first.zeroed
    → with_stretch first (with_stretch next list) ≡ with_stretch (both first next) list
with-both first next [] place same = with-joined first next [] place same
with-both first next (third ∷ rest) place same =
    by_cases (goes_on next third)
    ∙ ap (λ (b : Bool). cond b (record first { count = first.count + next.count + third.count } ∷ rest) (both first next ∷ third ∷ rest)) same_test
  where
    same_test : goes_on next third ≡ goes_on (both first next) third
    same_test =
        ap (λ (k : ℕ). (third.at == k) && beq third.zeroed next.zeroed) (let e : next.at + next.count ≡ first.at + (first.count + next.count) = omega (arith, place) in e)
        ∙ ap (λ (z : Bool). (third.at == first.at + (first.count + next.count)) && beq third.zeroed z) same

    by_cases : (b : Bool) → with_stretch first (cond b (record next { count = next.count + third.count } ∷ rest) (next ∷ third ∷ rest))
        ≡ cond b (record first { count = first.count + next.count + third.count } ∷ rest) (both first next ∷ third ∷ rest)
    by_cases true =
        with-joined first (record next { count = next.count + third.count }) rest place same
        ∙ ap (λ (k : ℕ). record first { count = k } ∷ rest) (let e : first.count + (next.count + third.count) ≡ first.count + next.count + third.count = omega arith in e)
    by_cases false = with-joined first next (third ∷ rest) place same

pub joined-on : (first next : Stretch) (more : List Stretch) → next.at ≡ first.at + first.count → next.zeroed ≡ first.zeroed
    → joined (first ∷ next ∷ more) ≡ joined (both first next ∷ more)
joined-on first next more place same = with-both first next (joined more) place same

-- and one that does not ends it
ends-as : (first next : Stretch) (list : List Stretch) → StartsAs next.at next.zeroed list → EndsBefore first (next ∷ []) → EndsBefore first list
ends-as first next [] starts ends = tt
ends-as first next (head ∷ rest) starts ends = λ place same. ends (sym starts.0 ∙ place) (sym starts.1 ∙ same)

pub joined-apart : (first next : Stretch) (more : List Stretch) → EndsBefore first (next ∷ []) → joined (first ∷ next ∷ more) ≡ first ∷ joined (next ∷ more)
joined-apart first next more ends =
    with-apart first (with_stretch next (joined more)) (ends-as first next (with_stretch next (joined more)) (starts-with next (joined more)) ends)

-- the sectors that stretches have
abbrev pub filled_in : List Stretch → ℕ
filled_in [] = 0
filled_in (stretch ∷ rest) = cond stretch.zeroed 0 stretch.count + filled_in rest

-- rows of parts in two lists
pub rows_from-append : (place : ℕ) (xs ys : List Stretch) → rows_from place (xs ++ ys) ≡ rows_from place xs ++ rows_from (place + filled_in xs) ys
rows_from-append place [] ys = ap (λ (k : ℕ). rows_from k ys) (let e : place ≡ place + 0 = omega arith in e)
rows_from-append place (part ∷ xs) ys =
    let next : ℕ = cond part.zeroed place (place + part.count) in
    let there : next + filled_in xs ≡ place + (cond part.zeroed 0 part.count + filled_in xs) = omega (arith, next_place part.zeroed place part.count) in
    ap (λ (rows : List Row). row_by part place ∷ rows)
    (rows_from-append next xs ys ∙ ap (λ (k : ℕ). rows_from next xs ++ rows_from k ys) there)

-- the parts of a stretch have its sectors
cond_split : (zeroed : Bool) (count : ℕ) → cond zeroed 0 (min 16383 count) + cond zeroed 0 (count - 16383) ≡ cond zeroed 0 count
cond_split true count = omega arith
cond_split false count = omega arith

cond_none : (zeroed : Bool) → cond {A = ℕ} zeroed 0 0 ≡ 0
cond_none true = refl
cond_none false = refl

filled_from : (stretch : Stretch) (number k : ℕ) → k ≡ rows_for (stretch.count - 16383 * number)
    → filled_in (map (part_of stretch) (range_with_len number k)) ≡ cond stretch.zeroed 0 (stretch.count - 16383 * number)
filled_from stretch number zero parts =
    let none : stretch.count - 16383 * number ≡ 0 = omega (arith, parts) in
    sym (ap (λ (c : ℕ). cond stretch.zeroed 0 c) none ∙ cond_none stretch.zeroed)
filled_from stretch number (suc k) parts =
    let left : ℕ = stretch.count - 16383 * number in
    let rest = filled_from stretch (number + 1) k (omega (arith, parts)) in
    ap (λ (c : ℕ). cond stretch.zeroed 0 (min 16383 left) + c) (rest ∙ ap (λ (c : ℕ). cond stretch.zeroed 0 c) (let e : stretch.count - 16383 * (number + 1) ≡ left - 16383 = omega arith in e))
    ∙ cond_split stretch.zeroed left

pub filled-parts : (stretch : Stretch) → filled_in (parts_of stretch) ≡ cond stretch.zeroed 0 stretch.count
filled-parts stretch =
    let whole : stretch.count ≡ stretch.count - 16383 * 0 = omega arith in
    filled_from stretch 0 (rows_for stretch.count) (ap rows_for whole) ∙ ap (λ (c : ℕ). cond stretch.zeroed 0 c) (sym whole)

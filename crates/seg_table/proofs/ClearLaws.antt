-- Leaves of which what is before a sector goes.
use Rattle.std.proofs.Common.{◌≡◌, ℕ, ◌+◌, ◌-◌, ◌<◌, ◌≤◌, inl, inr, All, List, [], ◌∷◌, ◌++◌, length, take, drop, get_or, None, refl, sym, ap, subst, ◌∙◌, arith}
use Rattle.std.specs.Option.{option_or}
use Rattle.std.proofs.lemmas.Bool.{cases_lt}
use Rattle.std.proofs.lemmas.List.{length-append, length-take, length-take-le, length-drop, take-append-le, take-take, drop-drop, take_at, drop_at, get_or-drop, take-append-drop}
use Rattle.std.proofs.lemmas.List.Elements.{All-head, All-get_or, All-drop}
use Rattle.seg_table.specs.declared.segment.Segment.{Segment}
use Rattle.seg_table.specs.Cells.{cell_in}
use Rattle.seg_table.specs.Segments.{AreCleared, AreLeaves, AreSegments, IsBeyond, IsLeaf, first_of, joined, segments_end}
use Rattle.seg_table.proofs.CellLaws.{option_or-none}
use Rattle.seg_table.proofs.SortedLaws.{are-append, are-front, are-behind, cell-append, cell-before, cell-past, rises, ends, edge-behind, edge-front, edge-cases, lowered}
use Rattle.seg_table.proofs.LeafLaws.{joined-append, joined-split, first-behind}

begins-at : (low from : ℕ) (xs ys : List Segment) → AreSegments low (xs ++ ys) → 0 < length xs → from ≤ first_of xs → AreSegments from (xs ++ ys)
begins-at low from [] ys are some order = absurd (omega arith)
begins-at low from (s ∷ xs) ys are some order = (record { order = order; put = are.0.put }, are.1)

-- leaves begin where the first one does
pub leaves-begin : (low from : ℕ) (ls : List (List Segment)) → All IsLeaf ls → AreSegments low (joined ls) → (0 < length ls → from ≤ first_of (get_or ls 0 [])) → AreSegments from (joined ls)
leaves-begin low from [] are sorted behind = tt
leaves-begin low from (x ∷ ls) are sorted behind = begins-at low from x (joined ls) sorted (All-head IsLeaf x ls are).0 (behind (omega arith))

pub drop-sorted : (ls : List (List Segment)) (n : ℕ) → AreLeaves ls → AreSegments (segments_end 0 (joined (take n ls))) (joined (drop n ls))
drop-sorted ls n are =
    are-behind 0 (joined (take n ls)) (joined (drop n ls))
    (subst (AreSegments 0) (sym (ap joined (take-append-drop n ls)) ∙ joined-append (take n ls) (drop n ls)) are.sorted)

pub beyond-same : (xs : List Segment) (end : ℕ) → AreSegments end xs → IsBeyond end xs xs
beyond-same xs end sorted = record { sorted = sorted; cells = λ p low. refl; edges = λ p edge. inl edge; few = omega arith }

-- what is before the sector goes from a list of three parts: the first one ends before it, and the last one begins at it or behind
pub beyond-parts : (front x m back : List Segment) (low end : ℕ) → AreSegments low (front ++ (x ++ back)) → segments_end low front ≤ end → AreSegments end back → IsBeyond end x m
    → IsBeyond end (front ++ (x ++ back)) (m ++ back)
beyond-parts front x m back low end sorted front_ends back_begins beyond =
    let behind : AreSegments (segments_end low front) (x ++ back) = are-behind low front (x ++ back) sorted in
    let x_sorted : AreSegments (segments_end low front) x = are-front (segments_end low front) x back behind in
    let back_sorted : AreSegments (segments_end (segments_end low front) x) back = are-behind (segments_end low front) x back behind in
    let none : (p : ℕ) → p < segments_end end m → cell_in back p ≡ None = λ p below. elim (cases_lt p end) [
      | inl before ↦ cell-before end back p back_begins before
      | inr above ↦ elim (cases_lt p (segments_end (segments_end low front) x)) [
        | inl within ↦ cell-before (segments_end (segments_end low front) x) back p back_sorted within
        | inr past ↦
            let last = ends end p m above beyond.sorted (λ q more. beyond.cells q (omega arith) ∙ cell-past (segments_end low front) x q x_sorted (omega arith)) in
            absurd (omega (arith, last))
      ]
    ] in
    let size = length-append front (x ++ back) in
    let size_x = length-append x back in
    let size_m = length-append m back in
    record {
      sorted = are-append end m back beyond.sorted (rises (segments_end end m) back (lowered end 0 back (omega arith) back_begins) none);
      cells = λ p above.
          cell-append m back p ∙ ap (λ o. option_or (cell_in back p) o) (beyond.cells p above) ∙ sym (cell-append x back p)
          ∙ option_or-none (cell_in (x ++ back) p)
          ∙ ap (λ o. option_or (cell_in (x ++ back) p) o) (sym (cell-past low front p (are-front low front (x ++ back) sorted) (omega arith)))
          ∙ sym (cell-append front (x ++ back) p);
      edges = λ p edge. elim (edge-cases m back p edge) [
        | inl new ↦ elim (beyond.edges p new) [
          | inl old ↦ inl (edge-behind front (x ++ back) p (edge-front x back p old))
          | inr at ↦ inr at
        ]
        | inr old ↦ inl (edge-behind front (x ++ back) p (edge-behind x back p old))
      ];
      few = omega (arith, size, size_x, size_m, beyond.few);
    }

-- of leaves, of which the one of that number is the last that begins before the sector
pub beyond-leaves : (low : ℕ) (ls : List (List Segment)) (k end : ℕ) (m : List Segment) → All IsLeaf ls → AreSegments low (joined ls) → k < length ls → first_of (get_or ls k []) ≤ end
    → (k + 1 < length ls → end ≤ first_of (get_or ls (k + 1) [])) → IsBeyond end (get_or ls k []) m → IsBeyond end (joined ls) (m ++ joined (drop (k + 1) ls))
beyond-leaves low ls k end m are sorted below before behind beyond =
    let front : List Segment = joined (take k ls) in
    let x : List Segment = get_or ls k [] in
    let back : List Segment = joined (drop (k + 1) ls) in
    let split : joined ls ≡ front ++ (x ++ back) = joined-split ls k below in
    let whole : AreSegments low (front ++ (x ++ back)) = subst (AreSegments low) split sorted in
    let after = are-behind low front (x ++ back) whole in
    let first = first-behind (segments_end low front) x back after (All-get_or IsLeaf ls k [] below are).0 in
    let zeroth : k + 1 + 0 ≡ k + 1 = omega arith in
    let begins : AreSegments end back = leaves-begin _ end (drop (k + 1) ls) (All-drop IsLeaf (k + 1) ls are) (are-behind (segments_end low front) x back after)
    (λ some. subst (λ (y : List Segment). end ≤ first_of y) (sym (get_or-drop (k + 1) ls 0 [] ∙ ap (λ n. get_or ls n []) zeroth)) (behind (omega (arith, length-drop (k + 1) ls)))) in
    subst (λ ys. IsBeyond end ys (m ++ back)) (sym split) (beyond-parts front x m back low end whole (omega (arith, first)) begins beyond)

pub cleared : (number end : ℕ) (ls new rest : List (List Segment)) → number ≤ length ls → new ≡ take number ls ++ rest → All IsLeaf rest
    → IsBeyond end (joined (drop number ls)) (joined rest) → AreCleared number end ls new
cleared number end ls new rest within is sizes beyond =
    let size : length (take number ls) ≡ number = omega (arith, length-take number ls) in
    let behind : drop number new ≡ rest = ap (λ ys. drop number ys) is ∙ drop_at (take number ls) rest number size in
    record {
      front = ap (λ ys. take number ys) is ∙ take_at (take number ls) rest number size;
      sizes = subst (All IsLeaf) (sym behind) sizes;
      beyond = subst (λ ys. IsBeyond end (joined (drop number ls)) (joined ys)) (sym behind) beyond;
    }

-- no leaf from that number on begins before the sector
pub clear-none : (ls part : List (List Segment)) (number b end : ℕ) → AreLeaves ls → number ≤ length ls → part ≡ drop number ls → b ≡ 0
    → (b < length part → end - 1 < first_of (get_or part b [])) → 0 < end → AreCleared number end ls ls
clear-none ls part number b end are within is none behind some =
    let first : 0 < length (drop number ls) → end ≤ first_of (get_or (drop number ls) 0 []) =
    λ more. let f = subst (λ n. n < length (drop number ls) → end - 1 < first_of (get_or (drop number ls) n [])) none
    (subst (λ (ys : List (List Segment)). b < length ys → end - 1 < first_of (get_or ys b [])) is behind) more in omega (arith, f) in
    let begins = leaves-begin _ end (drop number ls) (All-drop IsLeaf number ls are.sizes) (drop-sorted ls number are) first in
    cleared number end ls ls (drop number ls) within (sym (take-append-drop number ls)) (All-drop IsLeaf number ls are.sizes) (beyond-same (joined (drop number ls)) end begins)

-- the last one that does keeps what it has from the sector on
pub clear-last : (ls part : List (List Segment)) (number b last end : ℕ) (m : List Segment) → AreLeaves ls → number ≤ length ls → part ≡ drop number ls → 0 < b → b ≤ length part → last + 1 ≡ number + b
    → (0 < b → first_of (get_or part (b - 1) []) ≤ end - 1) → (b < length part → end - 1 < first_of (get_or part b [])) → IsBeyond end (get_or ls last []) m
    → IsBeyond end (joined (drop number ls)) (m ++ joined (drop (last + 1) ls))
clear-last ls part number b last end m are within is some few place before behind beyond =
    let B : List (List Segment) = drop number ls in
    let size = length-drop number ls in
    let few_b : b ≤ length B = subst (λ (ys : List (List Segment)). b ≤ length ys) is few in
    let before_b : first_of (get_or B (b - 1) []) ≤ end - 1 = subst (λ (ys : List (List Segment)). first_of (get_or ys (b - 1) []) ≤ end - 1) is (before some) in
    let behind_b : b < length B → end - 1 < first_of (get_or B b []) = subst (λ (ys : List (List Segment)). b < length ys → end - 1 < first_of (get_or ys b [])) is behind in
    let one : b - 1 + 1 ≡ b = omega arith in
    let at : number + (b - 1) ≡ last = omega arith in
    let x : get_or B (b - 1) [] ≡ get_or ls last [] = get_or-drop number ls (b - 1) [] ∙ ap (λ n. get_or ls n []) at in
    let next : number + (b - 1 + 1) ≡ last + 1 = omega arith in
    let rest : drop (b - 1 + 1) B ≡ drop (last + 1) ls = drop-drop (b - 1 + 1) number ls ∙ ap (λ n. drop n ls) next in
    subst (λ ys. IsBeyond end (joined B) (m ++ joined ys)) rest
    (beyond-leaves _ B (b - 1) end m (All-drop IsLeaf number ls are.sizes) (drop-sorted ls number are) (omega arith) (omega (arith, before_b))
    (λ more. subst (λ n. end ≤ first_of (get_or B n [])) (sym one) (let f = behind_b (omega (arith, more)) in omega (arith, f)))
    (subst (λ y. IsBeyond end y m) (sym x) beyond))

-- the leaf of a number may be taken alone
pub leaf-sorted : (ls : List (List Segment)) (i : ℕ) → AreLeaves ls → i < length ls → AreSegments (segments_end 0 (joined (take i ls))) (get_or ls i [])
leaf-sorted ls i are below =
    are-front (segments_end 0 (joined (take i ls))) (get_or ls i []) (joined (drop (i + 1) ls))
    (are-behind 0 (joined (take i ls)) (get_or ls i [] ++ joined (drop (i + 1) ls)) (subst (AreSegments 0) (joined-split ls i below) are.sorted))

pub exchanged : {X : Type 0} (xs ys new : List X) (number last : ℕ) (y : X) → number ≤ last → last < length xs → ys ≡ take last xs ++ y ∷ drop (last + 1) xs
    → new ≡ take number ys ++ drop last ys → new ≡ take number xs ++ y ∷ drop (last + 1) xs
exchanged xs ys new number last y order within is made =
    let size : length (take last xs) ≡ last = length-take-le last xs (omega arith) in
    made ∙ ap (λ zs. take number zs ++ drop last zs) is
    ∙ ap (λ zs. zs ++ drop last (take last xs ++ y ∷ drop (last + 1) xs)) (take-append-le number (take last xs) (y ∷ drop (last + 1) xs) (omega (arith, size)) ∙ take-take number last xs order)
    ∙ ap (λ zs. take number xs ++ zs) (drop_at (take last xs) (y ∷ drop (last + 1) xs) last size)

pub empty_of : (xs : List Segment) → length xs ≤ 0 → xs ≡ []
empty_of [] none = refl
empty_of (x ∷ xs) none = absurd (omega arith)

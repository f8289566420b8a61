-- Sorted segments, and what they say of a sector.
use Rattle.std.proofs.Common.{◌≡◌, ℕ, zero, suc, ◌+◌, ◌-◌, ◌^◌, ◌<◌, ◌≤◌, ◌⊎◌, inl, inr, List, [], ◌∷◌, ◌++◌, length, take, drop, get_or, Some, None, refl, sym, ap, subst, ◌∙◌, arith}
use Rattle.std.specs.Option.{option_or}
use Rattle.std.proofs.lemmas.Bool.{cases_lt}
use Rattle.std.proofs.Math.Seq.{split_at}
use Rattle.std.proofs.lemmas.List.{take-append-drop}
use Rattle.std.proofs.lemmas.Option.{none-some}
use Rattle.sector_extent.specs.Places.{IsIn}
use Rattle.seg_table.specs.declared.segment.Segment.{Segment}
use Rattle.seg_table.specs.Cells.{said_by, what_at, cell_in, IsEdge}
use Rattle.seg_table.specs.Pieces.{end_of}
use Rattle.seg_table.specs.Put.{IsPut}
use Rattle.seg_table.specs.Segments.{AreSegments, segments_end}
use Rattle.seg_table.proofs.CellLaws.{said_by_in, said_by_out, option_or-none, option_or-assoc}

pub lowered : (low less : ℕ) (xs : List Segment) → less ≤ low → AreSegments low xs → AreSegments less xs
lowered low less [] le are = tt
lowered low less (s ∷ xs) le are = (record { order = omega (arith, are.0.order); put = are.0.put }, are.1)

pub end-above : (low : ℕ) (xs : List Segment) → AreSegments low xs → low ≤ segments_end low xs
end-above low [] are = omega arith
end-above low (s ∷ xs) are = omega (arith, are.0.order, end-above (end_of s) xs are.1)

pub end-append : (low : ℕ) (xs ys : List Segment) → segments_end low (xs ++ ys) ≡ segments_end (segments_end low xs) ys
end-append low [] ys = refl
end-append low (s ∷ xs) ys = end-append (end_of s) xs ys

pub are-append : (low : ℕ) (xs ys : List Segment) → AreSegments low xs → AreSegments (segments_end low xs) ys → AreSegments low (xs ++ ys)
are-append low [] ys are more = more
are-append low (s ∷ xs) ys are more = (are.0, are-append (end_of s) xs ys are.1 more)

pub are-front : (low : ℕ) (xs ys : List Segment) → AreSegments low (xs ++ ys) → AreSegments low xs
are-front low [] ys are = tt
are-front low (s ∷ xs) ys are = (are.0, are-front (end_of s) xs ys are.1)

pub are-behind : (low : ℕ) (xs ys : List Segment) → AreSegments low (xs ++ ys) → AreSegments (segments_end low xs) ys
are-behind low [] ys are = are
are-behind low (s ∷ xs) ys are = are-behind (end_of s) xs ys are.1

-- what a list says with another behind it
pub cell-append : (xs ys : List Segment) (p : ℕ) → cell_in (xs ++ ys) p ≡ option_or (cell_in ys p) (cell_in xs p)
cell-append [] ys p = option_or-none (cell_in ys p)
cell-append (x ∷ xs) ys p = ap (λ o. option_or o (said_by x p)) (cell-append xs ys p) ∙ option_or-assoc (cell_in ys p) (cell_in xs p) (said_by x p)

-- segments say nothing of a sector before they begin
pub cell-before : (low : ℕ) (xs : List Segment) (p : ℕ) → AreSegments low xs → p < low → cell_in xs p ≡ None
cell-before low [] p are below = refl
cell-before low (s ∷ xs) p are below =
    let order = are.0.order in
    ap (λ o. option_or o (said_by s p)) (cell-before (end_of s) xs p are.1 (omega (arith, order))) ∙ said_by_out s p (λ i. let a = i.from in absurd (omega (arith, order)))

-- nor of one past their end
pub cell-past : (low : ℕ) (xs : List Segment) (p : ℕ) → AreSegments low xs → segments_end low xs ≤ p → cell_in xs p ≡ None
cell-past low [] p are above = refl
cell-past low (s ∷ xs) p are above =
    let end = end-above (end_of s) xs are.1 in
    ap (λ o. option_or o (said_by s p)) (cell-past (end_of s) xs p are.1 above) ∙ said_by_out s p (λ i. let b = i.below in absurd (omega (arith, end)))

-- of a sector of the first one they say what it says
pub cell-first : (low : ℕ) (s : Segment) (xs : List Segment) (p : ℕ) → AreSegments low (s ∷ xs) → IsIn s.extent p → cell_in (s ∷ xs) p ≡ Some (what_at s p)
cell-first low s xs p are i =
    let b = i.below in
    ap (λ o. option_or o (said_by s p)) (cell-before (end_of s) xs p are.1 b) ∙ said_by_in s p i

-- and past it what the others say
pub cell-next : (s : Segment) (xs : List Segment) (p : ℕ) → end_of s ≤ p → cell_in (s ∷ xs) p ≡ cell_in xs p
cell-next s xs p past = ap (λ o. option_or (cell_in xs p) o) (said_by_out s p (λ i. let b = i.below in absurd (omega arith))) ∙ sym (option_or-none (cell_in xs p))

pub first-set : (low : ℕ) (s : Segment) (xs : List Segment) → AreSegments low (s ∷ xs) → cell_in (s ∷ xs) s.extent.at ≡ None → ⊥
first-set low s xs are none =
    let some = are.0.put.some in
    none-some _ (sym none ∙ cell-first low s xs s.extent.at are (record { from = omega arith; below = omega (arith, some) }))

-- segments begin where their cells do
pub rises : (low : ℕ) (xs : List Segment) → AreSegments 0 xs → ((p : ℕ) → p < low → cell_in xs p ≡ None) → AreSegments low xs
rises low [] are none = tt
rises low (s ∷ xs) are none = elim (cases_lt s.extent.at low) [
  | inl below ↦ absurd (first-set 0 s xs are (none s.extent.at below))
  | inr order ↦ (record { order = order; put = are.0.put }, are.1)
]

-- and end where they do
pub ends : (low q : ℕ) (xs : List Segment) → low ≤ q → AreSegments low xs → ((p : ℕ) → q ≤ p → cell_in xs p ≡ None) → segments_end low xs ≤ q
ends low q [] order are none = order
ends low q (s ∷ xs) order are none =
    let some = are.0.put.some in
    let last : end_of s ≤ q = elim (cases_lt q (end_of s)) [
      | inl more ↦ absurd (none-some _ (sym (none (end_of s - 1) (omega arith)) ∙ cell-first low s xs (end_of s - 1) are (record { from = omega (arith, some); below = omega (arith, some) })))
      | inr le ↦ le
    ] in
    ends (end_of s) q xs last are.1 (λ p above. sym (cell-next s xs p (omega arith)) ∙ none p above)

pub edge-behind : (xs ys : List Segment) (p : ℕ) → IsEdge ys p → IsEdge (xs ++ ys) p
edge-behind [] ys p edge = edge
edge-behind (x ∷ xs) ys p edge = let e = edge-behind xs ys p edge in (suc e.0, e.1, omega (arith, e.2), e.3, e.4)

pub edge-front : (xs ys : List Segment) (p : ℕ) → IsEdge xs p → IsEdge (xs ++ ys) p
edge-front [] ys p (k, s, below, at, is) = absurd (omega arith)
edge-front (x ∷ xs) ys p (zero, s, below, at, is) = (0, s, omega arith, at, is)
edge-front (x ∷ xs) ys p (suc k, s, below, at, is) = let e = edge-front xs ys p (k, s, omega arith, at, is) in (suc e.0, e.1, omega (arith, e.2), e.3, e.4)

pub edge-cases : (xs ys : List Segment) (p : ℕ) → IsEdge (xs ++ ys) p → IsEdge xs p ⊎ IsEdge ys p
edge-cases [] ys p edge = inr edge
edge-cases (x ∷ xs) ys p (zero, s, below, at, is) = inl (0, s, omega arith, at, is)
edge-cases (x ∷ xs) ys p (suc k, s, below, at, is) = elim (edge-cases xs ys p (k, s, omega arith, at, is)) [
  | inl e ↦ inl (suc e.0, e.1, omega (arith, e.2), e.3, e.4)
  | inr e ↦ inr e
]

pub edge-one : (s : Segment) (p : ℕ) → IsEdge (s ∷ []) p → (s.extent.at ≡ p) ⊎ (end_of s ≡ p)
edge-one s p (zero, x, below, at, is) = subst (λ (t : Segment). (t.extent.at ≡ p) ⊎ (end_of t ≡ p)) (sym at) is
edge-one s p (suc k, x, below, at, is) = absurd (omega arith)

-- where the first segments end, the last of them ends
end-more : (low : ℕ) (xs : List Segment) (i : ℕ) (d : Segment) → i < length xs → segments_end low (take (suc i) xs) ≡ end_of (get_or xs i d)
end-more low [] i d below = absurd (omega arith)
end-more low (s ∷ xs) zero d below = refl
end-more low (s ∷ xs) (suc i) d below = end-more (end_of s) xs i d (omega arith)

pub end-next : (low : ℕ) (xs : List Segment) (i : ℕ) (d : Segment) → i < length xs → segments_end low (take (i + 1) xs) ≡ end_of (get_or xs i d)
end-next low xs i d below =
    let one : i + 1 ≡ suc i = omega arith in
    ap (λ n. segments_end low (take n xs)) one ∙ end-more low xs i d below

-- around the segment of that number
pub around : (xs : List Segment) (i : ℕ) (s : Segment) → i < length xs → s ≡ get_or xs i s → xs ≡ take i xs ++ s ∷ drop (i + 1) xs
around xs i s below is =
    let one : suc i ≡ i + 1 = omega arith in
    split_at xs i s below ∙ ap (λ t. take i xs ++ t ∷ drop (suc i) xs) (sym is) ∙ ap (λ n. take i xs ++ s ∷ drop n xs) one

pub segment-put : (xs : List Segment) (i : ℕ) (s : Segment) → AreSegments 0 xs → i < length xs → s ≡ get_or xs i s → IsPut s
segment-put xs i s sorted below is =
    (are-behind 0 (take i xs) (s ∷ drop (i + 1) xs) (subst (AreSegments 0) (around xs i s below is) sorted)).0.put

pub first-segments : (low : ℕ) (xs : List Segment) (i : ℕ) → AreSegments low xs → AreSegments low (take i xs)
first-segments low xs i are = are-front low (take i xs) (drop i xs) (subst (AreSegments low) (sym (take-append-drop i xs)) are)

-- the more segments, the later they end
pub ends-rise : (low : ℕ) (xs : List Segment) (i j : ℕ) → AreSegments low xs → i ≤ j → segments_end low (take i xs) ≤ segments_end low (take j xs)
ends-rise low [] zero zero are le = omega arith
ends-rise low [] zero (suc j) are le = omega arith
ends-rise low [] (suc i) zero are le = omega arith
ends-rise low [] (suc i) (suc j) are le = omega arith
ends-rise low (s ∷ xs) zero j are le = end-above low (take j (s ∷ xs)) (first-segments low (s ∷ xs) j are)
ends-rise low (s ∷ xs) (suc i) zero are le = absurd (omega arith)
ends-rise low (s ∷ xs) (suc i) (suc j) are le = ends-rise (end_of s) xs i j are.1 (omega arith)

-- of two numbers of segments, that which ends first is not the greater
pub number-order : (xs : List Segment) (i j from end : ℕ) → AreSegments 0 xs → i ≤ length xs → segments_end 0 (take i xs) ≤ from → from ≤ end
    → ((d : Segment) → j < length xs → end < end_of (get_or xs j d)) → (d : Segment) → i ≤ j
number-order xs i j from end are within below order past d = elim (cases_lt j i) [
  | inl less ↦
      let some : j < length xs = omega arith in
      let last = end-next 0 xs j d some in
      let rise = ends-rise 0 xs (j + 1) i are (omega arith) in
      absurd (omega (arith, last, rise, past d some))
  | inr le ↦ le
]

-- segments without overlap are not more than the sectors of the largest image
pub few-segments : (low : ℕ) (xs : List Segment) → low ≤ 2 ^ 31 → AreSegments low xs → low + length xs ≤ 2 ^ 31
few-segments low [] small are = omega (arith, small)
few-segments low (s ∷ xs) small are =
    let fits : end_of s ≤ 2 ^ 31 = s.extent.in_image in
    omega (arith, are.0.order, are.0.put.some, few-segments (end_of s) xs fits are.1)

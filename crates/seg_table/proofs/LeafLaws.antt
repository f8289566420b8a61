-- Leaves as one list, and what of it is behind a place.
use Rattle.std.proofs.Common.{set, ◌≡◌, ℕ, zero, suc, ◌+◌, ◌*◌, ◌^◌, ◌<◌, ◌≤◌, inl, inr, All, List, [], ◌∷◌, ◌++◌, length, take, drop, get_or, refl, sym, ap, subst, ◌∙◌, arith}
use Rattle.std.specs.Option.{option_or}
use Rattle.std.proofs.lemmas.Nat.{pow-add}
use Rattle.std.proofs.lemmas.Bool.{cases_lt}
use Rattle.std.proofs.lemmas.List.{drop_all, take_more, append-nil, append_assoc, length-append, length-drop, get_or-drop, take-append-drop}
use Rattle.std.proofs.Math.Nat.{mul-le-mul}
use Rattle.std.proofs.Math.Seq.{drop-cons, split_at}
use Rattle.std.proofs.lemmas.List.Elements.{All-head, All-tail, All-get_or, All-drop}
use Rattle.seg_table.specs.declared.segment.Segment.{Segment}
use Rattle.seg_table.specs.declared.segment.What.TheVariants.{Zero}
use Rattle.seg_table.specs.Cells.{cell_in, IsEdge}
use Rattle.seg_table.specs.Pieces.{end_of}
use Rattle.seg_table.specs.Segments.{AreLeaves, AreSegments, EndsPast, IsLeaf, IsPlace, IsRest, first_of, joined, left_at, segments_end}
use Rattle.seg_table.proofs.CellLaws.{option_or-none}
use Rattle.seg_table.proofs.SortedLaws.{lowered, are-front, are-behind, end-append, cell-append, cell-past, cell-next, edge-behind}

pub joined-append : (xs ys : List (List Segment)) → joined (xs ++ ys) ≡ joined xs ++ joined ys
joined-append [] ys = refl
joined-append (x ∷ xs) ys = ap (λ zs. x ++ zs) (joined-append xs ys) ∙ sym (append_assoc x (joined xs) (joined ys))

abbrev pub nothing : Segment
nothing = record { extent = record { at = 0; count = 0; in_image = omega arith }; what = Zero }

-- around the leaf of that number
pub joined-split : (ls : List (List Segment)) (i : ℕ) → i < length ls → joined ls ≡ joined (take i ls) ++ (get_or ls i [] ++ joined (drop (i + 1) ls))
joined-split ls i below =
    let one : suc i ≡ i + 1 = omega arith in
    ap joined (split_at ls i [] below) ∙ joined-append (take i ls) (get_or ls i [] ∷ drop (suc i) ls)
    ∙ ap (λ n. joined (take i ls) ++ (get_or ls i [] ++ joined (drop n ls))) one

pub left-all : (ls : List (List Segment)) → left_at ls 0 0 ≡ joined ls
left-all [] = refl
left-all (x ∷ ls) = refl

one_more : (n : ℕ) → suc n ≡ n + 1
one_more n = omega arith

leaf-left : (ls : List (List Segment)) (i n : ℕ) → i < length ls → left_at ls i n ≡ drop n (get_or ls i []) ++ joined (drop (suc i) ls)
leaf-left [] i n below = absurd (omega arith)
leaf-left (x ∷ ls) zero n below = refl
leaf-left (x ∷ ls) (suc i) n below = leaf-left ls i n (omega arith)

pub left-leaf : (ls : List (List Segment)) (i n : ℕ) → i < length ls → left_at ls i n ≡ drop n (get_or ls i []) ++ joined (drop (i + 1) ls)
left-leaf ls i n below = leaf-left ls i n below ∙ ap (λ k. drop n (get_or ls i []) ++ joined (drop k ls)) (one_more i)

next-left : (ls : List (List Segment)) (i n : ℕ) → i < length ls → n ≡ length (get_or ls i []) → left_at ls (suc i) 0 ≡ left_at ls i n
next-left [] i n below all = absurd (omega arith)
next-left (x ∷ ls) zero n below all = left-all ls ∙ ap (λ r. r ++ joined ls) (sym (drop_all n x (omega (arith, all))))
next-left (x ∷ ls) (suc i) n below all = next-left ls i n (omega arith) all

pub left-next : (ls : List (List Segment)) (i n : ℕ) → i < length ls → n ≡ length (get_or ls i []) → left_at ls (i + 1) 0 ≡ left_at ls i n
left-next ls i n below all = ap (λ k. left_at ls k 0) (sym (one_more i)) ∙ next-left ls i n below all

-- behind the last leaf nothing is left
pub left-none : (ls : List (List Segment)) (i n : ℕ) → length ls ≤ i → left_at ls i n ≡ []
left-none [] i n end = refl
left-none (x ∷ ls) zero n end = absurd (omega arith)
left-none (x ∷ ls) (suc i) n end = left-none ls i n (omega arith)

pub left-cons : (ls : List (List Segment)) (i n : ℕ) (d : Segment) → i < length ls → n < length (get_or ls i []) → left_at ls i n ≡ get_or (get_or ls i []) n d ∷ left_at ls i (n + 1)
left-cons [] i n d below some = absurd (omega arith)
left-cons (x ∷ ls) zero n d below some =
    let one : suc n ≡ n + 1 = omega arith in
    ap (λ r. r ++ joined ls) (drop-cons x n d some ∙ ap (λ k. get_or x n d ∷ drop k x) one)
left-cons (x ∷ ls) (suc i) n d below some = left-cons ls i n d (omega arith) some

pub place-leaf : (ls : List (List Segment)) (i n : ℕ) → i < length ls → n < length (get_or ls i []) → IsPlace ls i n
place-leaf [] i n below some = absurd (omega arith)
place-leaf (x ∷ ls) zero n below some = some
place-leaf (x ∷ ls) (suc i) n below some = place-leaf ls i n (omega arith) some

pub place-first : (ls : List (List Segment)) → All IsLeaf ls → IsPlace ls 0 0
place-first [] are = refl
place-first (x ∷ ls) are = (All-head IsLeaf x ls are).0

next-place : (ls : List (List Segment)) (i : ℕ) → All IsLeaf ls → i < length ls → IsPlace ls (suc i) 0
next-place [] i are below = absurd (omega arith)
next-place (x ∷ ls) zero are below = place-first ls (All-tail IsLeaf x ls are)
next-place (x ∷ ls) (suc i) are below = next-place ls i (All-tail IsLeaf x ls are) (omega arith)

pub place-next : (ls : List (List Segment)) (i : ℕ) → All IsLeaf ls → i < length ls → IsPlace ls (i + 1) 0
place-next ls i are below = subst (λ k. IsPlace ls k 0) (one_more i) (next-place ls i are below)

pub place-within : (ls : List (List Segment)) (i n : ℕ) → IsPlace ls i n → i ≤ length ls
place-within [] i n is = omega (arith, is)
place-within (x ∷ ls) zero n is = omega arith
place-within (x ∷ ls) (suc i) n is = omega (arith, place-within ls i n is)

pub place-number : (ls : List (List Segment)) (i n : ℕ) → IsPlace ls i n → i < length ls → n < length (get_or ls i [])
place-number [] i n is below = absurd (omega arith)
place-number (x ∷ ls) zero n is below = is
place-number (x ∷ ls) (suc i) n is below = place-number ls i n is (omega arith)

-- what follows segments that end before a sector, and begins with one that ends past it
pub rest : (xs done left : List Segment) (from : ℕ) → xs ≡ done ++ left → AreSegments 0 xs → segments_end 0 done ≤ from → EndsPast from left → IsRest xs from left
rest xs done left from is sorted end past =
    let whole : AreSegments 0 (done ++ left) = subst (AreSegments 0) is sorted in
    record {
      sorted = lowered (segments_end 0 done) 0 left (omega arith) (are-behind 0 done left whole);
      past = past;
      cells = λ p low.
          sym (ap (λ ys. cell_in ys p) is ∙ cell-append done left p
          ∙ ap (λ o. option_or (cell_in left p) o) (cell-past 0 done p (are-front 0 done left whole) (omega (arith, end)))
          ∙ sym (option_or-none (cell_in left p)));
      edges = λ p edge. subst (λ ys. IsEdge ys p) (sym is) (edge-behind done left p edge);
    }

-- and behind the first of it
pub rest-next : (xs : List Segment) (from : ℕ) (s : Segment) (left : List Segment) → IsRest xs from (s ∷ left) → IsRest xs (end_of s) left
rest-next xs from s left is =
    let past = is.past in
    record {
      sorted = lowered (end_of s) 0 left (omega arith) is.sorted.1;
      past = next_past left is.sorted.1;
      cells = λ p low. sym (cell-next s left p low) ∙ is.cells p (omega (arith, past));
      edges = λ p edge. is.edges p (edge-behind (s ∷ []) left p edge);
    }
  where
    next_past : (left : List Segment) → AreSegments (end_of s) left → EndsPast (end_of s) left
    next_past [] are = tt
    next_past (t ∷ left) are = omega (arith, are.0.order, are.0.put.some)

pub end-low : (low q : ℕ) (xs : List Segment) → low ≤ q → segments_end 0 xs ≤ q → segments_end low xs ≤ q
end-low low q [] order end = order
end-low low q (s ∷ xs) order end = end

pub first-behind : (low : ℕ) (xs ys : List Segment) → AreSegments low (xs ++ ys) → 0 < length xs → low ≤ first_of xs
first-behind low [] ys are some = absurd (omega arith)
first-behind low (s ∷ xs) ys are some = are.0.order

past-first : (low from : ℕ) (xs ys : List Segment) → AreSegments low (xs ++ ys) → 0 < length xs → from < first_of xs → EndsPast from (xs ++ ys)
past-first low from [] ys are some behind = absurd (omega arith)
past-first low from (s ∷ xs) ys are some behind = omega arith

past-leaves : (low from : ℕ) (ls : List (List Segment)) → All IsLeaf ls → AreSegments low (joined ls) → (0 < length ls → from < first_of (get_or ls 0 [])) → EndsPast from (joined ls)
past-leaves low from [] are sorted behind = tt
past-leaves low from (x ∷ ls) are sorted behind = past-first low from x (joined ls) sorted (All-head IsLeaf x ls are).0 (behind (omega arith))

-- a search that finds no leaf before the sector leaves all
pub rest-all : (ls : List (List Segment)) (from : ℕ) → AreLeaves ls → (0 < length ls → from < first_of (get_or ls 0 [])) → IsRest (joined ls) from (left_at ls 0 0)
rest-all ls from are behind =
    rest (joined ls) [] (left_at ls 0 0) from (sym (left-all ls)) are.sorted (omega arith)
    (subst (EndsPast from) (sym (left-all ls)) (past-leaves 0 from ls are.sizes are.sorted behind))

past-number : (from n : ℕ) (xs ys : List Segment) (d : Segment) → n < length xs → from < end_of (get_or xs n d) → EndsPast from (drop n xs ++ ys)
past-number from n [] ys d below past = absurd (omega arith)
past-number from zero (s ∷ xs) ys d below past = past
past-number from (suc n) (s ∷ xs) ys d below past = past-number from n xs ys d (omega arith) past

past-search : (ls : List (List Segment)) (i n from : ℕ) → AreLeaves ls → i < length ls → n ≤ length (get_or ls i [])
    → ((d : Segment) → n < length (get_or ls i []) → from < end_of (get_or (get_or ls i []) n d)) → (i + 1 < length ls → from < first_of (get_or ls (i + 1) []))
    → EndsPast from (drop n (get_or ls i []) ++ joined (drop (i + 1) ls))
past-search ls i n from are below within past behind = cases (get_or ls i []) within past
  where
    others : EndsPast from (joined (drop (i + 1) ls))
    others =
        let after : AreSegments (segments_end (segments_end 0 (joined (take i ls))) (get_or ls i [])) (joined (drop (i + 1) ls)) =
        are-behind (segments_end 0 (joined (take i ls))) (get_or ls i []) (joined (drop (i + 1) ls))
        (are-behind 0 (joined (take i ls)) (get_or ls i [] ++ joined (drop (i + 1) ls)) (subst (AreSegments 0) (joined-split ls i below) are.sorted)) in
        past-leaves _ from (drop (i + 1) ls) (All-drop IsLeaf (i + 1) ls are.sizes) after
        (λ some. subst (λ (x : List Segment). from < first_of x) (sym (get_or-drop (i + 1) ls 0 [] ∙ ap (λ k. get_or ls k []) (let e : i + 1 + 0 ≡ i + 1 = omega arith in e)))
        (behind (omega (arith, length-drop (i + 1) ls))))

    cases : (x : List Segment) → n ≤ length x → ((d : Segment) → n < length x → from < end_of (get_or x n d)) → EndsPast from (drop n x ++ joined (drop (i + 1) ls))
    cases x within past = elim (cases_lt n (length x)) [
      | inl some ↦ past-number from n x (joined (drop (i + 1) ls)) nothing some (past nothing some)
      | inr all ↦ subst (λ r. EndsPast from (r ++ joined (drop (i + 1) ls))) (sym (drop_all n x all)) others
    ]

-- and one that finds a leaf, and in it the segments that end before the sector, leaves what is behind these
pub rest-search : (ls : List (List Segment)) (i n from : ℕ) → AreLeaves ls → i < length ls → n ≤ length (get_or ls i [])
    → segments_end 0 (take n (get_or ls i [])) ≤ from → first_of (get_or ls i []) ≤ from
    → ((d : Segment) → n < length (get_or ls i []) → from < end_of (get_or (get_or ls i []) n d)) → (i + 1 < length ls → from < first_of (get_or ls (i + 1) []))
    → IsRest (joined ls) from (left_at ls i n)
rest-search ls i n from are below within end begins past behind =
    let x : List Segment = get_or ls i [] in
    let A : List Segment = joined (take i ls) in
    let B : List Segment = joined (drop (i + 1) ls) in
    let split : joined ls ≡ A ++ (x ++ B) = joined-split ls i below in
    let parts : joined ls ≡ (A ++ take n x) ++ (drop n x ++ B) =
    split ∙ ap (λ y. A ++ (y ++ B)) (sym (take-append-drop n x)) ∙ ap (λ y. A ++ y) (append_assoc (take n x) (drop n x) B) ∙ sym (append_assoc A (take n x) (drop n x ++ B)) in
    let after : AreSegments (segments_end 0 A) (x ++ B) = are-behind 0 A (x ++ B) (subst (AreSegments 0) split are.sorted) in
    let size = All-get_or IsLeaf ls i [] below are.sizes in
    let low = first-behind (segments_end 0 A) x B after size.0 in
    let done : segments_end 0 (A ++ take n x) ≤ from = subst (λ k. k ≤ from) (sym (end-append 0 A (take n x))) (end-low (segments_end 0 A) from (take n x) (omega (arith, low)) end) in
    subst (λ r. IsRest (joined ls) from r) (sym (left-leaf ls i n below))
    (rest (joined ls) (A ++ take n x) (drop n x ++ B) from parts are.sorted done (past-search ls i n from are below within past behind))

pub more-segments : (ls : List (List Segment)) → All IsLeaf ls → length ls ≤ length (joined ls)
more-segments [] are = omega arith
more-segments (x ∷ ls) are =
    let some = (All-head IsLeaf x ls are).0 in
    omega (arith, some, length-append x (joined ls), more-segments ls (All-tail IsLeaf x ls are))

-- looks among m leaves, and then in one of at most 255 segments
pub looks-bound : (looks d e m n : ℕ) → looks ≡ d + e → 2 ^ d ≤ 2 * m + 1 → 2 ^ e ≤ 511 → m ≤ n → 2 * 2 ^ looks ≤ 1024 * (2 * n + 1)
looks-bound looks d e m n both leaves segments some =
    let power : 2 ^ looks ≡ 2 ^ d * 2 ^ e = ap (λ k. 2 ^ k) both ∙ pow-add 2 d e in
    let product = mul-le-mul leaves segments in
    omega (arith, power, product)

pub count-more : (ls : List (List Segment)) (i : ℕ) (d : List Segment) → i < length ls → length (joined (take (i + 1) ls)) ≡ length (joined (take i ls)) + length (get_or ls i d)
count-more ls i d below =
    ap (λ ys. length (joined ys)) (take_more ls i d below)
    ∙ ap (λ (ys : List Segment). length ys) (joined-append (take i ls) (get_or ls i d ∷ []) ∙ ap (λ y. joined (take i ls) ++ y) (append-nil (get_or ls i d)))
    ∙ length-append (joined (take i ls)) (get_or ls i d)

pub count-within : (ls : List (List Segment)) (i : ℕ) → length (joined (take i ls)) ≤ length (joined ls)
count-within ls i =
    let whole = ap (λ ys. length (joined ys)) (sym (take-append-drop i ls)) ∙ ap (λ (ys : List Segment). length ys) (joined-append (take i ls) (drop i ls)) ∙ length-append (joined (take i ls)) (joined (drop i ls)) in
    omega (arith, whole)

parts-set : {X : Type 0} (xs : List X) (i : ℕ) (y : X) → i < length xs → set xs i y ≡ take i xs ++ y ∷ drop (suc i) xs
parts-set [] i y below = absurd (omega arith)
parts-set (x ∷ xs) zero y below = refl
parts-set (x ∷ xs) (suc i) y below = ap (λ zs. x ∷ zs) (parts-set xs i y (omega arith))

pub set-parts : {X : Type 0} (xs : List X) (i : ℕ) (y : X) → i < length xs → set xs i y ≡ take i xs ++ y ∷ drop (i + 1) xs
set-parts xs i y below = parts-set xs i y below ∙ ap (λ n. take i xs ++ y ∷ drop n xs) (one_more i)

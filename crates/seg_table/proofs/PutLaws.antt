-- A put into one leaf as a put into all of them.
use Rattle.std.proofs.Common.{set, ◌≡◌, ℕ, suc, ◌+◌, ◌<◌, ◌≤◌, inl, inr, All, List, [], ◌∷◌, ◌++◌, length, take, drop, get_or, None, sym, ap, subst, ◌∙◌, arith}
use Rattle.std.specs.Option.{option_or}
use Rattle.std.specs.Prelude.{insert}
use Rattle.std.proofs.lemmas.Bool.{cases_lt}
use Rattle.std.proofs.Math.Seq.{split_at}
use Rattle.std.proofs.lemmas.List.{length-append, length-take, length-take-le, length-drop, take_at, drop_at, get_or_at, get_or-take, get_or-drop, take-take, take-append-drop, append_assoc}
use Rattle.std.proofs.lemmas.List.Elements.{All-append, All-cons, All-get_or, All-drop}
use Rattle.sector_extent.specs.Places.{IsIn}
use Rattle.seg_table.specs.declared.segment.Segment.{Segment}
use Rattle.seg_table.specs.Cells.{cell_in}
use Rattle.seg_table.specs.Pieces.{end_of}
use Rattle.seg_table.specs.Put.{IsPut}
use Rattle.seg_table.specs.Segments.{AreAllBut, AreCleared, AreLeaves, AreSegments, IsBeyond, IsLeaf, IsPutInto, first_of, joined, segments_end}
use Rattle.seg_table.proofs.LeafLaws.{joined-append, joined-split, first-behind, set-parts}
use Rattle.seg_table.proofs.ClearLaws.{leaves-begin}
use Rattle.seg_table.proofs.SortedLaws.{end-above, are-append, are-front, are-behind, cell-append, cell-before, cell-past, rises, ends, edge-behind, edge-front, edge-cases, lowered}

pub put-parts : (front x y back left : List Segment) (s : Segment) → IsPut s → AreSegments 0 (front ++ (x ++ back)) → segments_end 0 front ≤ s.extent.at → AreSegments s.extent.at back
    → IsPutInto s x y → IsBeyond (end_of s) back left → IsPutInto s (front ++ (x ++ back)) (front ++ (y ++ left))
put-parts front x y back left s put sorted front_ends back_begins into beyond =
    let a : ℕ = segments_end 0 front in
    let some = put.some in
    let after : AreSegments a (x ++ back) = are-behind 0 front (x ++ back) sorted in
    let x_sorted : AreSegments a x = are-front a x back after in
    let back_sorted : AreSegments (segments_end a x) back = are-behind a x back after in
    let below : (p : ℕ) → p < s.extent.at → IsIn s.extent p → ⊥ = λ p low i. let f = i.from in absurd (omega arith) in
    let above : (p : ℕ) → end_of s ≤ p → IsIn s.extent p → ⊥ = λ p high i. let b = i.below in absurd (omega arith) in
    let y_sorted : AreSegments a y = rises a y into.sorted (λ p low. into.cells.outside p (below p (omega arith)) ∙ cell-before a x p x_sorted low) in
    let none : (p : ℕ) → p < segments_end a y → cell_in left p ≡ None = λ p less. elim (cases_lt p (end_of s)) [
      | inl before ↦ cell-before (end_of s) left p beyond.sorted before
      | inr past ↦ beyond.cells p past ∙ elim (cases_lt p (segments_end a x)) [
        | inl within ↦ cell-before (segments_end a x) back p back_sorted within
        | inr behind ↦
            let last = ends a p y (omega arith) y_sorted (λ q more. into.cells.outside q (above q (omega arith)) ∙ cell-past a x q x_sorted (omega arith)) in
            absurd (omega (arith, last))
      ]
    ] in
    let cell : (p : ℕ) → cell_in (front ++ (y ++ left)) p ≡ option_or (option_or (cell_in left p) (cell_in y p)) (cell_in front p) =
    λ p. cell-append front (y ++ left) p ∙ ap (λ o. option_or o (cell_in front p)) (cell-append y left p) in
    let cell_old : (p : ℕ) → cell_in (front ++ (x ++ back)) p ≡ option_or (option_or (cell_in back p) (cell_in x p)) (cell_in front p) =
    λ p. cell-append front (x ++ back) p ∙ ap (λ o. option_or o (cell_in front p)) (cell-append x back p) in
    let size_old = length-append front (x ++ back) in
    let size_new = length-append front (y ++ left) in
    let size_x = length-append x back in
    let size_y = length-append y left in
    record {
      sorted = are-append 0 front (y ++ left) (are-front 0 front (x ++ back) sorted)
          (are-append a y left y_sorted (rises (segments_end a y) left (lowered (end_of s) 0 left (omega arith) beyond.sorted) none));
      cells = record {
        inside = λ p i. let b = i.below in
            cell p ∙ ap (λ o. option_or (option_or o (cell_in y p)) (cell_in front p)) (cell-before (end_of s) left p beyond.sorted b)
            ∙ ap (λ o. option_or o (cell_in front p)) (into.cells.inside p i);
        outside = λ p out.
            let same : cell_in left p ≡ cell_in back p = elim (cases_lt p s.extent.at) [
              | inl low ↦ cell-before (end_of s) left p beyond.sorted (omega arith) ∙ sym (cell-before s.extent.at back p back_begins low)
              | inr high ↦ beyond.cells p (elim (cases_lt p (end_of s)) [ inl within ↦ absurd (out (record { from = high; below = within })) | inr le ↦ le ])
            ] in
            cell p ∙ ap (λ o. option_or (option_or o (cell_in y p)) (cell_in front p)) same
            ∙ ap (λ o. option_or (option_or (cell_in back p) o) (cell_in front p)) (into.cells.outside p out) ∙ sym (cell_old p);
      };
      edges = λ p edge. elim (edge-cases front (y ++ left) p edge) [
        | inl old ↦ inl (edge-front front (x ++ back) p old)
        | inr behind ↦ elim (edge-cases y left p behind) [
          | inl new ↦ elim (into.edges p new) [
            | inl old ↦ inl (edge-behind front (x ++ back) p (edge-front x back p old))
            | inr own ↦ inr own
          ]
          | inr old ↦ elim (beyond.edges p old) [
            | inl was ↦ inl (edge-behind front (x ++ back) p (edge-behind x back p was))
            | inr last ↦ inr (inr last)
          ]
        ]
      ];
      few = omega (arith, size_old, size_new, size_x, size_y, into.few, beyond.few);
    }

-- one list in the middle of others
pub all-but : (front back new : List (List Segment)) (y : List Segment) (i : ℕ) → new ≡ front ++ y ∷ back → length front ≡ i → All IsLeaf front → All IsLeaf back
    → 0 < length y → length y ≤ 257 → AreAllBut i new
all-but front back new y i is size below above some most =
    let parts : new ≡ (front ++ y ∷ []) ++ back = is ∙ sym (append_assoc front (y ∷ []) back) in
    let one : length (front ++ y ∷ []) ≡ i + 1 = omega (arith, size, length-append front (y ∷ [])) in
    let all = ap (λ (zs : List (List Segment)). length zs) is ∙ length-append front (y ∷ back) in
    let at : get_or new i [] ≡ y = ap (λ zs. get_or zs i []) is ∙ get_or_at front y back [] i size in
    record {
      within = omega (arith, all, size);
      below = subst (All IsLeaf) (sym (ap (λ zs. take i zs) is ∙ take_at front (y ∷ back) i size)) below;
      above = subst (All IsLeaf) (sym (ap (λ zs. drop (i + 1) zs) parts ∙ drop_at (front ++ y ∷ []) back (i + 1) one)) above;
      some = subst (λ (z : List Segment). 0 < length z) (sym at) some;
      most = subst (λ (z : List Segment). length z ≤ 257) (sym at) most;
    }

-- what stays of the leaves up to the one of that number
pub same-front : (ls now : List (List Segment)) (i end : ℕ) → AreCleared (i + 1) end ls now → take i now ≡ take i ls
same-front ls now i end is = sym (take-take i (i + 1) now (omega arith)) ∙ ap (λ ys. take i ys) is.front ∙ take-take i (i + 1) ls (omega arith)

pub same-leaf : (ls now : List (List Segment)) (i end : ℕ) → AreCleared (i + 1) end ls now → get_or now i [] ≡ get_or ls i []
same-leaf ls now i end is = sym (get_or-take (i + 1) now i [] (omega arith)) ∙ ap (λ ys. get_or ys i []) is.front ∙ get_or-take (i + 1) ls i [] (omega arith)

pub still-there : (ls now : List (List Segment)) (i end : ℕ) → AreCleared (i + 1) end ls now → i < length ls → i < length now
still-there ls now i end is below =
    let size = ap (λ (ys : List (List Segment)). length ys) is.front in
    omega (arith, size, length-take (i + 1) now, length-take (i + 1) ls)

pub put-leaves : (ls now new : List (List Segment)) (i : ℕ) (y : List Segment) (s : Segment) → IsPut s → AreLeaves ls → i < length ls → AreCleared (i + 1) (end_of s) ls now
    → new ≡ take i now ++ y ∷ drop (i + 1) now → (0 < i → first_of (get_or ls i []) ≤ s.extent.at) → (i + 1 < length ls → s.extent.at < first_of (get_or ls (i + 1) []))
    → IsPutInto s (get_or ls i []) y → IsPutInto s (joined ls) (joined new)
put-leaves ls now new i y s put are below cleared is before behind into =
    let front : List Segment = joined (take i ls) in
    let x : List Segment = get_or ls i [] in
    let back : List Segment = joined (drop (i + 1) ls) in
    let left : List Segment = joined (drop (i + 1) now) in
    let split : joined ls ≡ front ++ (x ++ back) = joined-split ls i below in
    let made : joined new ≡ front ++ (y ++ left) =
    ap joined is ∙ joined-append (take i now) (y ∷ drop (i + 1) now) ∙ ap (λ ys. joined ys ++ (y ++ left)) (same-front ls now i (end_of s) cleared) in
    let sorted : AreSegments 0 (front ++ (x ++ back)) = subst (AreSegments 0) split are.sorted in
    let after = are-behind 0 front (x ++ back) sorted in
    let first = first-behind (segments_end 0 front) x back after (All-get_or IsLeaf ls i [] below are.sizes).0 in
    let ends_first : segments_end 0 front ≤ s.extent.at = elim (cases_lt 0 i) [
      | inl some ↦ let b = before some in omega (arith, first, b)
      | inr none ↦ let zeroth : 0 ≡ i = omega arith in subst (λ k. segments_end 0 (joined (take k ls)) ≤ s.extent.at) zeroth (omega arith)
    ] in
    let zeroth : i + 1 + 0 ≡ i + 1 = omega arith in
    let begins : AreSegments s.extent.at back = leaves-begin _ s.extent.at (drop (i + 1) ls) (All-drop IsLeaf (i + 1) ls are.sizes) (are-behind (segments_end 0 front) x back after)
    (λ some. subst (λ (z : List Segment). s.extent.at ≤ first_of z) (sym (get_or-drop (i + 1) ls 0 [] ∙ ap (λ n. get_or ls n []) zeroth))
    (let b = behind (omega (arith, length-drop (i + 1) ls)) in omega (arith, b))) in
    subst (λ zs. IsPutInto s zs (joined new)) (sym split) (subst (λ zs. IsPutInto s (front ++ (x ++ back)) zs) (sym made)
    (put-parts front x y back left s put sorted ends_first begins into cleared.beyond))

-- a leaf that is parted in two
pub split-is : (ls new : List (List Segment)) (i : ℕ) (t m : List Segment) → i < length ls → new ≡ insert (set ls i t) (i + 1) m → new ≡ take i ls ++ t ∷ m ∷ drop (i + 1) ls
split-is ls new i t m below is =
    let front : List (List Segment) = take i ls ++ t ∷ [] in
    let back : List (List Segment) = drop (i + 1) ls in
    let size : length front ≡ i + 1 = omega (arith, length-append (take i ls) (t ∷ []), length-take-le i ls (omega arith)) in
    let parts : set ls i t ≡ front ++ back = set-parts ls i t below ∙ sym (append_assoc (take i ls) (t ∷ []) back) in
    is ∙ ap (λ zs. take (i + 1) zs ++ m ∷ drop (i + 1) zs) parts
    ∙ ap (λ zs. zs ++ m ∷ drop (i + 1) (front ++ back)) (take_at front back (i + 1) size)
    ∙ ap (λ zs. front ++ m ∷ zs) (drop_at front back (i + 1) size)
    ∙ append_assoc (take i ls) (t ∷ []) (m ∷ back)

pub split-sizes : (ls new : List (List Segment)) (i cut : ℕ) (t m : List Segment) → AreAllBut i ls → 255 < length (get_or ls i []) → 2 ≤ cut → cut ≤ 255
    → new ≡ insert (set ls i t) (i + 1) m → t ≡ take cut (get_or ls i []) → m ≡ drop cut (get_or ls i []) → All IsLeaf new
split-sizes ls new i cut t m are many some most is first second =
    let x : List Segment = get_or ls i [] in
    let size_t = ap (λ (z : List Segment). length z) first ∙ length-take cut x in
    let size_m = ap (λ (z : List Segment). length z) second ∙ length-drop cut x in
    let all = are.most in
    subst (All IsLeaf) (sym (split-is ls new i t m are.within is))
    (All-append IsLeaf (take i ls) (t ∷ m ∷ drop (i + 1) ls) are.below
    (All-cons IsLeaf t (m ∷ drop (i + 1) ls) (omega (arith, size_t, many), omega (arith, size_t, many))
    (All-cons IsLeaf m (drop (i + 1) ls) (omega (arith, size_m, many), omega (arith, size_m, all)) are.above)))

pub split-same : (ls new : List (List Segment)) (i cut : ℕ) (t m : List Segment) → i < length ls → new ≡ insert (set ls i t) (i + 1) m
    → t ≡ take cut (get_or ls i []) → m ≡ drop cut (get_or ls i []) → joined new ≡ joined ls
split-same ls new i cut t m below is first second =
    let x : List Segment = get_or ls i [] in
    let back : List Segment = joined (drop (i + 1) ls) in
    ap joined (split-is ls new i t m below is) ∙ joined-append (take i ls) (t ∷ m ∷ drop (i + 1) ls)
    ∙ ap (λ zs. joined (take i ls) ++ zs) (sym (append_assoc t m back) ∙ ap (λ z. (z ++ m) ++ back) first ∙ ap (λ z. (take cut x ++ z) ++ back) second ∙ ap (λ z. z ++ back) (take-append-drop cut x))
    ∙ sym (joined-split ls i below)

pub all-leaves : (ls : List (List Segment)) (i : ℕ) → AreAllBut i ls → length (get_or ls i []) ≤ 255 → All IsLeaf ls
all-leaves ls i are few =
    let one : suc i ≡ i + 1 = omega arith in
    subst (All IsLeaf) (sym (split_at ls i [] are.within ∙ ap (λ n. take i ls ++ get_or ls i [] ∷ drop n ls) one))
    (All-append IsLeaf (take i ls) (get_or ls i [] ∷ drop (i + 1) ls) are.below (All-cons IsLeaf (get_or ls i []) (drop (i + 1) ls) (are.some, few) are.above))

first_of-end : (low : ℕ) (xs : List Segment) → AreSegments low xs → 0 < length xs → first_of xs ≤ segments_end low xs
first_of-end low [] are some = absurd (omega arith)
first_of-end low (s ∷ xs) are some = omega (arith, end-above (end_of s) xs are.1)

-- the second leaf begins behind the first one
pub second-begins : (ls : List (List Segment)) → AreLeaves ls → 1 < length ls → first_of (get_or ls 0 []) ≤ first_of (get_or ls 1 [])
second-begins [] are more = absurd (omega arith)
second-begins (x ∷ []) are more = absurd (omega arith)
second-begins (x ∷ y ∷ ls) are more =
    let size_x = (All-get_or IsLeaf (x ∷ y ∷ ls) 0 [] (omega arith) are.sizes).0 in
    let size_y = (All-get_or IsLeaf (x ∷ y ∷ ls) 1 [] (omega arith) are.sizes).0 in
    let after = are-behind 0 x (y ++ joined ls) are.sorted in
    omega (arith, first_of-end 0 x (are-front 0 x (y ++ joined ls) are.sorted) size_x, first-behind (segments_end 0 x) y (joined ls) after size_y)

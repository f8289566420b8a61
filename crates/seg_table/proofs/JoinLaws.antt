-- Segments that go on into each other, made one.
use Rattle.std.proofs.Common.{◌≡◌, ℕ, zero, suc, ◌+◌, ◌-◌, ◌<◌, inl, inr, List, [], ◌∷◌, ◌++◌, length, take, drop, get_or, Some, refl, sym, ap, subst, ◌∙◌, arith}
use Rattle.std.specs.Option.{option_or}
use Rattle.std.proofs.lemmas.Bool.{cases_lt}
use Rattle.std.proofs.lemmas.List.{length-append, length-take-le, take-append-le, take-take, drop_at}
use Rattle.seg_table.specs.declared.segment.Segment.{Segment}
use Rattle.seg_table.specs.declared.segment.What.{What}
use Rattle.seg_table.specs.declared.segment.What.TheVariants.{Place, Zero}
use Rattle.seg_table.specs.Cells.{said_by, onward, cell_in}
use Rattle.seg_table.specs.Pieces.{end_of}
use Rattle.seg_table.specs.Put.{Fits}
use Rattle.seg_table.specs.Segments.{AreSegments, GoesOn, IsBoth, IsJoined, IsPutInto, segments_end}
use Rattle.seg_table.proofs.CellLaws.{said_by_in, said_by_out, option_or-assoc}
use Rattle.seg_table.proofs.SortedLaws.{are-append, are-front, are-behind, cell-append, edge-behind, edge-front, edge-cases, edge-one}

pub fits-both : (w : What) (a b : ℕ) → Fits (onward w a) b → Fits w (a + b)
fits-both (Place place) a b fits = omega (arith, fits)
fits-both Zero a b fits = tt

onward-more : (w : What) (a b c : ℕ) → a + b ≡ c → onward (onward w a) b ≡ onward w c
onward-more (Place place) a b c is = ap (λ n. Place n) (omega (arith, is))
onward-more Zero a b c is = refl

-- the one says what both say
both-says : (s t c : Segment) (p : ℕ) → GoesOn s t → IsBoth s t c → said_by c p ≡ option_or (said_by t p) (said_by s p)
both-says s t c p on both = elim (cases_lt p s.extent.at) [
  | inl below ↦
      said_by_out c p (λ i. let a = i.from in absurd (omega (arith, both.at)))
      ∙ sym (ap (λ o. option_or o (said_by s p)) (said_by_out t p (λ i. let a = i.from in absurd (omega (arith, on.touches)))) ∙ said_by_out s p (λ i. let a = i.from in absurd (omega arith)))
  | inr from ↦ elim (cases_lt p (end_of s)) [
    | inl within ↦
        said_by_in c p (record { from = omega (arith, both.at); below = omega (arith, both.end, on.touches) })
        ∙ (λ i. Some (onward (both.what i) (p - both.at i)))
        ∙ sym (ap (λ o. option_or o (said_by s p)) (said_by_out t p (λ i. let a = i.from in absurd (omega (arith, on.touches)))) ∙ said_by_in s p (record { from = from; below = within }))
    | inr past ↦ elim (cases_lt p (end_of t)) [
      | inl inside ↦
          said_by_in c p (record { from = omega (arith, both.at); below = omega (arith, both.end) })
          ∙ (λ i. Some (onward (both.what i) (p - both.at i)))
          ∙ ap (λ w. Some w) (sym (onward-more s.what s.extent.count (p - t.extent.at) (p - s.extent.at) (omega (arith, on.touches, past))))
          ∙ ap (λ w. Some (onward w (p - t.extent.at))) on.runs
          ∙ sym (ap (λ o. option_or o (said_by s p)) (said_by_in t p (record { from = omega (arith, on.touches); below = inside })))
      | inr above ↦
          said_by_out c p (λ i. let b = i.below in absurd (omega (arith, both.end)))
          ∙ sym (ap (λ o. option_or o (said_by s p)) (said_by_out t p (λ i. let b = i.below in absurd (omega arith))) ∙ said_by_out s p (λ i. let b = i.below in absurd (omega arith)))
    ]
  ]
]

pub joined-none : (xs : List Segment) → AreSegments 0 xs → IsJoined xs xs
joined-none xs sorted = record {
  sorted = sorted;
  cells = λ p. refl;
  edges = λ p edge. edge;
  few = omega arith;
  some = λ more. more;
}

pub joined-more : (xs ys zs : List Segment) → IsJoined xs ys → IsJoined ys zs → IsJoined xs zs
joined-more xs ys zs one two = record {
  sorted = two.sorted;
  cells = λ p. two.cells p ∙ one.cells p;
  edges = λ p edge. one.edges p (two.edges p edge);
  few = omega (arith, one.few, two.few);
  some = λ more. two.some (one.some more);
}

joined-parts : (front back : List Segment) (s t c : Segment) → AreSegments 0 (front ++ s ∷ t ∷ back) → GoesOn s t → IsBoth s t c
    → IsJoined (front ++ s ∷ t ∷ back) (front ++ c ∷ back)
joined-parts front back s t c sorted on both =
    let behind : AreSegments (segments_end 0 front) (s ∷ t ∷ back) = are-behind 0 front (s ∷ t ∷ back) sorted in
    let order = behind.0.order in
    let size_old = length-append front (s ∷ t ∷ back) in
    let size_new = length-append front (c ∷ back) in
    record {
      sorted = are-append 0 front (c ∷ back) (are-front 0 front (s ∷ t ∷ back) sorted)
          (record { order = omega (arith, order, both.at); put = both.put }, subst (λ q. AreSegments q back) (sym both.end) behind.1.1);
      cells = λ p.
          cell-append front (c ∷ back) p
          ∙ ap (λ o. option_or (option_or (cell_in back p) o) (cell_in front p)) (both-says s t c p on both)
          ∙ ap (λ o. option_or o (cell_in front p)) (sym (option_or-assoc (cell_in back p) (said_by t p) (said_by s p)))
          ∙ sym (cell-append front (s ∷ t ∷ back) p);
      edges = λ p edge. elim (edge-cases front (c ∷ back) p edge) [
        | inl old ↦ edge-front front (s ∷ t ∷ back) p old
        | inr new ↦ edge-behind front (s ∷ t ∷ back) p (elim (edge-cases (c ∷ []) back p new) [
          | inl one ↦ elim (edge-one c p one) [
            | inl at ↦ (0, s, omega arith, refl, inl (sym both.at ∙ at))
            | inr last ↦ (1, t, omega arith, refl, inr (sym both.end ∙ last))
          ]
          | inr old ↦ edge-behind (s ∷ t ∷ []) back p old
        ])
      ];
      few = omega (arith, size_old, size_new);
      some = λ more. omega (arith, size_new);
    }

-- a list without the segment behind the one of a number, and another one in that one's place
swapped : (xs : List Segment) (n : ℕ) (c : Segment) → n + 1 < length xs
    → take n (take (n + 1) xs ++ drop (n + 2) xs) ++ c ∷ drop (n + 1) (take (n + 1) xs ++ drop (n + 2) xs) ≡ take n xs ++ c ∷ drop (n + 2) xs
swapped xs n c below =
    let size : length (take (n + 1) xs) ≡ n + 1 = length-take-le (n + 1) xs (omega arith) in
    let front : take n (take (n + 1) xs ++ drop (n + 2) xs) ≡ take n xs =
    take-append-le n (take (n + 1) xs) (drop (n + 2) xs) (omega (arith, size)) ∙ take-take n (n + 1) xs (omega arith) in
    let back : drop (n + 1) (take (n + 1) xs ++ drop (n + 2) xs) ≡ drop (n + 2) xs = drop_at (take (n + 1) xs) (drop (n + 2) xs) (n + 1) size in
    λ i. front i ++ c ∷ back i

-- around two segments that stand one after the other
around-two : (xs : List Segment) (n : ℕ) (s t : Segment) → suc n < length xs → s ≡ get_or xs n s → t ≡ get_or xs (suc n) t → xs ≡ take n xs ++ s ∷ t ∷ drop (suc (suc n)) xs
around-two [] n s t below first second = absurd (omega arith)
around-two (x ∷ []) n s t below first second = absurd (omega arith)
around-two (x ∷ y ∷ xs) zero s t below first second = λ i. sym first i ∷ sym second i ∷ xs
around-two (x ∷ y ∷ xs) (suc n) s t below first second = ap (λ ys. x ∷ ys) (around-two (y ∷ xs) n s t (omega arith) first second)

pairs : (xs : List Segment) (n : ℕ) (s t : Segment) → n + 1 < length xs → s ≡ get_or xs n s → t ≡ get_or xs (n + 1) t → xs ≡ take n xs ++ s ∷ t ∷ drop (n + 2) xs
pairs xs n s t below first second =
    let one : n + 1 ≡ suc n = omega arith in
    let two : suc (suc n) ≡ n + 2 = omega arith in
    around-two xs n s t (omega arith) first (second ∙ ap (λ k. get_or xs k t) one) ∙ ap (λ k. take n xs ++ s ∷ t ∷ drop k xs) two

pub joined-two : (xs new : List Segment) (n : ℕ) (s t c : Segment) → AreSegments 0 xs → n + 1 < length xs → s ≡ get_or xs n s → t ≡ get_or xs (n + 1) t
    → GoesOn s t → IsBoth s t c → new ≡ take n (take (n + 1) xs ++ drop (n + 1 + 1) xs) ++ c ∷ drop (n + 1) (take (n + 1) xs ++ drop (n + 1 + 1) xs) → IsJoined xs new
joined-two xs new n s t c sorted below first second on both is =
    let two : n + 1 + 1 ≡ n + 2 = omega arith in
    let whole : xs ≡ take n xs ++ s ∷ t ∷ drop (n + 2) xs = pairs xs n s t below first second in
    let made : new ≡ take n xs ++ c ∷ drop (n + 2) xs =
    is ∙ ap (λ k. take n (take (n + 1) xs ++ drop k xs) ++ c ∷ drop (n + 1) (take (n + 1) xs ++ drop k xs)) two ∙ swapped xs n c below in
    subst (λ ys. IsJoined ys new) (sym whole)
    (subst (λ ys. IsJoined (take n xs ++ s ∷ t ∷ drop (n + 2) xs) ys) (sym made)
    (joined-parts (take n xs) (drop (n + 2) xs) s t c (subst (AreSegments 0) whole sorted) on both))

-- a put whose segments were joined is one still
pub put-joined : (s : Segment) (xs mid new : List Segment) → IsPutInto s xs mid → IsJoined mid new → IsPutInto s xs new
put-joined s xs mid new put joined = record {
  sorted = joined.sorted;
  cells = record {
    inside = λ p i. joined.cells p ∙ put.cells.inside p i;
    outside = λ p out. joined.cells p ∙ put.cells.outside p out;
  };
  edges = λ p edge. put.edges p (joined.edges p edge);
  few = omega (arith, put.few, joined.few);
}

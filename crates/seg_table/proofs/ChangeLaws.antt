-- What sorted segments have on one side of a sector.
use Rattle.std.proofs.Common.{◌≡◌, ℕ, ◌+◌, ◌<◌, ◌≤◌, inl, inr, List, [], ◌∷◌, ◌++◌, length, max, Some, None, refl, sym, ap, subst, ◌∙◌, arith}
use Rattle.std.specs.Option.{option_or}
use Rattle.std.proofs.lemmas.Bool.{cases_lt}
use Rattle.std.proofs.lemmas.List.{length-append}
use Rattle.sector_extent.specs.Places.{IsIn}
use Rattle.seg_table.specs.declared.segment.Segment.{Segment}
use Rattle.seg_table.specs.Cells.{said_by, what_at, cell_in, IsEdge}
use Rattle.seg_table.specs.Pieces.{end_of}
use Rattle.seg_table.specs.Put.{IsPut}
use Rattle.seg_table.specs.Segments.{AreSegments, IsBefore, IsBeyond, IsPutInto, segments_end}
use Rattle.seg_table.proofs.CellLaws.{said_by_in, said_by_out, option_or-none}
use Rattle.seg_table.proofs.SortedLaws.{are-append, are-front, are-behind, end-append, cell-append, cell-before, cell-past, ends, edge-behind, edge-front, edge-cases, edge-one}

-- a part of a segment says the same of the sectors that both have
same-said : (s c : Segment) (p : ℕ) → c.extent.at ≤ p → s.extent.at ≤ p → p < end_of c → p < end_of s → ((q : ℕ) → c.extent.at ≤ q → what_at c q ≡ what_at s q) → said_by c p ≡ said_by s p
same-said s c p low first high last says =
    said_by_in c p (record { from = low; below = high }) ∙ ap (λ w. Some w) (says p low) ∙ sym (said_by_in s p (record { from = first; below = last }))

both-silent : (s c : Segment) (p : ℕ) → (IsIn c.extent p → ⊥) → (IsIn s.extent p → ⊥) → said_by c p ≡ said_by s p
both-silent s c p not_c not_s = said_by_out c p not_c ∙ sym (said_by_out s p not_s)

pub before-whole : (xs front back : List Segment) (end : ℕ) → xs ≡ front ++ back → AreSegments 0 xs → segments_end 0 front ≤ end
    → ((p : ℕ) → p < end → cell_in back p ≡ None) → IsBefore end xs front
before-whole xs front back end is sorted ends none = record {
  sorted = are-front 0 front back (subst (AreSegments 0) is sorted);
  ends = ends;
  cells = λ p low. sym (ap (λ ys. cell_in ys p) is ∙ cell-append front back p ∙ ap (λ o. option_or o (cell_in front p)) (none p low));
  edges = λ p edge. inl (subst (λ ys. IsEdge ys p) (sym is) (edge-front front back p edge));
}

pub before-cut : (xs front back : List Segment) (s c : Segment) (end : ℕ) → xs ≡ front ++ s ∷ back → AreSegments 0 xs → segments_end 0 front ≤ end
    → c.extent.at ≡ s.extent.at → end_of c ≡ end → end < end_of s → s.extent.at < end → IsPut c → ((q : ℕ) → c.extent.at ≤ q → what_at c q ≡ what_at s q)
    → IsBefore end xs (front ++ c ∷ [])
before-cut xs front back s c end is sorted below begins stops more some put says =
    let whole : AreSegments 0 (front ++ s ∷ back) = subst (AreSegments 0) is sorted in
    let behind : AreSegments (segments_end 0 front) (s ∷ back) = are-behind 0 front (s ∷ back) whole in
    let order = behind.0.order in
    record {
      sorted = are-append 0 front (c ∷ []) (are-front 0 front (s ∷ back) whole) (record { order = omega (arith, order, begins); put = put }, tt);
      ends = subst (λ k. k ≤ end) (sym (end-append 0 front (c ∷ []))) (omega (arith, stops));
      cells = λ p low.
          let same : said_by c p ≡ said_by s p = elim (cases_lt p s.extent.at) [
            | inl before ↦ both-silent s c p (λ i. let a = i.from in absurd (omega (arith, begins))) (λ i. let a = i.from in absurd (omega arith))
            | inr within ↦ same-said s c p (omega (arith, begins)) within (omega (arith, stops)) (omega arith) says
          ] in
          cell-append front (c ∷ []) p ∙ ap (λ o. option_or o (cell_in front p)) (same ∙ sym (ap (λ o. option_or o (said_by s p)) (cell-before (end_of s) back p behind.1 (omega arith))))
          ∙ sym (ap (λ ys. cell_in ys p) is ∙ cell-append front (s ∷ back) p);
      edges = λ p edge. elim (edge-cases front (c ∷ []) p edge) [
        | inl old ↦ inl (subst (λ ys. IsEdge ys p) (sym is) (edge-front front (s ∷ back) p old))
        | inr new ↦ elim (edge-one c p new) [
          | inl at ↦ inl (subst (λ ys. IsEdge ys p) (sym is) (edge-behind front (s ∷ back) p (0, s, omega arith, refl, inl (sym begins ∙ at))))
          | inr last ↦ inr (sym last ∙ stops)
        ]
      ];
    }

pub beyond-none : (xs : List Segment) (from : ℕ) → AreSegments 0 xs → segments_end 0 xs ≤ from → IsBeyond from xs []
beyond-none xs from sorted below = record {
  sorted = tt;
  cells = λ p low. sym (cell-past 0 xs p sorted (omega arith));
  edges = λ p edge. absurd (no_edge p edge);
  few = omega arith;
}
  where
    no_edge : (p : ℕ) → IsEdge [] p → ⊥
    no_edge p (k, s, below, at, is) = omega arith

pub beyond-cut : (xs front back : List Segment) (s c : Segment) (from : ℕ) → xs ≡ front ++ s ∷ back → AreSegments 0 xs → segments_end 0 front ≤ from
    → c.extent.at ≡ max from s.extent.at → end_of c ≡ end_of s → from < end_of s → IsPut c → ((q : ℕ) → c.extent.at ≤ q → what_at c q ≡ what_at s q)
    → IsBeyond from xs (c ∷ back)
beyond-cut xs front back s c from is sorted below begins stops more put says =
    let whole : AreSegments 0 (front ++ s ∷ back) = subst (AreSegments 0) is sorted in
    let behind : AreSegments (segments_end 0 front) (s ∷ back) = are-behind 0 front (s ∷ back) whole in
    let size = ap (λ (ys : List Segment). length ys) is ∙ length-append front (s ∷ back) in
    record {
      sorted = (record { order = omega (arith, begins); put = put }, subst (λ q. AreSegments q back) (sym stops) behind.1);
      cells = λ p low.
          let same : said_by c p ≡ said_by s p = elim (cases_lt p s.extent.at) [
            | inl before ↦ both-silent s c p (λ i. let a = i.from in absurd (omega (arith, begins))) (λ i. let a = i.from in absurd (omega arith))
            | inr within ↦ elim (cases_lt p (end_of s)) [
              | inl inside ↦ same-said s c p (omega (arith, begins)) within (omega (arith, stops)) inside says
              | inr past ↦ both-silent s c p (λ i. let b = i.below in absurd (omega (arith, stops))) (λ i. let b = i.below in absurd (omega arith))
            ]
          ] in
          ap (λ o. option_or (cell_in back p) o) same
          ∙ sym (ap (λ ys. cell_in ys p) is ∙ cell-append front (s ∷ back) p
          ∙ ap (λ o. option_or (cell_in (s ∷ back) p) o) (cell-past 0 front p (are-front 0 front (s ∷ back) whole) (omega arith))
          ∙ sym (option_or-none (cell_in (s ∷ back) p)));
      edges = λ p edge. elim (edge-cases (c ∷ []) back p edge) [
        | inl new ↦ elim (edge-one c p new) [
          | inl at ↦ elim (cases_lt from s.extent.at) [
            | inl first ↦ inl (subst (λ ys. IsEdge ys p) (sym is) (edge-behind front (s ∷ back) p (0, s, omega arith, refl, inl (omega (arith, begins, at)))))
            | inr cut ↦ inr (omega (arith, begins, at))
          ]
          | inr last ↦ inl (subst (λ ys. IsEdge ys p) (sym is) (edge-behind front (s ∷ back) p (0, s, omega arith, refl, inr (sym stops ∙ last))))
        ]
        | inr old ↦ inl (subst (λ ys. IsEdge ys p) (sym is) (edge-behind front (s ∷ back) p (edge-behind (s ∷ []) back p old)))
      ];
      few = omega (arith, size);
    }

-- a segment between what there is before it and what there is behind it
pub put-between : (xs front back : List Segment) (s : Segment) → IsPut s → IsBefore s.extent.at xs front → IsBeyond (end_of s) xs back
    → length ((front ++ s ∷ []) ++ back) ≤ length xs + 2 → IsPutInto s xs ((front ++ s ∷ []) ++ back)
put-between xs front back s put before beyond few =
    let some = put.some in
    let sorted : AreSegments 0 (front ++ s ∷ []) = are-append 0 front (s ∷ []) before.sorted (record { order = before.ends; put = put }, tt) in
    let cell : (p : ℕ) → cell_in ((front ++ s ∷ []) ++ back) p ≡ option_or (cell_in back p) (option_or (said_by s p) (cell_in front p)) = λ p. cell-append (front ++ s ∷ []) back p ∙ ap (λ o. option_or (cell_in back p) o) (cell-append front (s ∷ []) p) in
    record {
      sorted = are-append 0 (front ++ s ∷ []) back sorted (subst (λ q. AreSegments q back) (sym (end-append 0 front (s ∷ []))) beyond.sorted);
      cells = record {
        inside = λ p i. let b = i.below in
            cell p ∙ ap (λ o. option_or o (option_or (said_by s p) (cell_in front p))) (cell-before (end_of s) back p beyond.sorted b)
            ∙ ap (λ o. option_or o (cell_in front p)) (said_by_in s p i);
        outside = λ p out. elim (cases_lt p s.extent.at) [
          | inl low ↦ cell p ∙ ap (λ o. option_or o (option_or (said_by s p) (cell_in front p))) (cell-before (end_of s) back p beyond.sorted (omega arith))
              ∙ ap (λ o. option_or o (cell_in front p)) (said_by_out s p out) ∙ before.cells p low
          | inr high ↦
              let past : end_of s ≤ p = elim (cases_lt p (end_of s)) [ inl within ↦ absurd (out (record { from = high; below = within })) | inr le ↦ le ] in
              cell p ∙ ap (λ o. option_or (cell_in back p) (option_or o (cell_in front p))) (said_by_out s p out)
              ∙ ap (λ o. option_or (cell_in back p) o) (cell-past 0 front p before.sorted (omega (arith, before.ends)))
              ∙ sym (option_or-none (cell_in back p)) ∙ beyond.cells p past
        ];
      };
      edges = λ p edge. elim (edge-cases (front ++ s ∷ []) back p edge) [
        | inl one ↦ elim (edge-cases front (s ∷ []) p one) [
          | inl old ↦ elim (before.edges p old) [ inl was ↦ inl was | inr at ↦ inr (inl at) ]
          | inr new ↦ elim (edge-one s p new) [ inl at ↦ inr (inl (sym at)) | inr last ↦ inr (inr (sym last)) ]
        ]
        | inr old ↦ elim (beyond.edges p old) [ inl was ↦ inl was | inr at ↦ inr (inr at) ]
      ];
      few = few;
    }

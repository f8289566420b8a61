-- The piece that the first of the segments that are left gives.
use Rattle.std.proofs.Common.{◌≡◌, ℕ, ◌<◌, ◌≤◌, inl, inr, List, [], ◌∷◌, max, min, Some, refl, sym, ap, subst, ◌∙◌, arith}
use Rattle.std.proofs.lemmas.Bool.{cases_lt}
use Rattle.seg_table.specs.declared.segment.Segment.{Segment}
use Rattle.seg_table.specs.Cells.{what_at, cell_in}
use Rattle.seg_table.specs.Pieces.{AreUnset, IsNext, IsUnparted, end_of}
use Rattle.seg_table.specs.Put.{IsPut}
use Rattle.seg_table.specs.Segments.{IsRest}
use Rattle.seg_table.proofs.SortedLaws.{cell-before, cell-first}
use Rattle.seg_table.proofs.LeafLaws.{rest-next}

pub unset-before : (xs : List Segment) (from end : ℕ) (s : Segment) (more left : List Segment) → left ≡ s ∷ more → IsRest xs from left → end ≤ s.extent.at → AreUnset (cell_in xs) from end
unset-before xs from end s more left at rest order p low high =
    let is : IsRest xs from (s ∷ more) = subst (IsRest xs from) at rest in
    sym (is.cells p low) ∙ cell-before s.extent.at (s ∷ more) p (record { order = omega arith; put = is.sorted.0.put }, is.sorted.1) (omega arith)

pub unset-left : (xs : List Segment) (from end : ℕ) (left : List Segment) → left ≡ [] → IsRest xs from left → AreUnset (cell_in xs) from end
unset-left xs from end left at rest p low high = let is : IsRest xs from [] = subst (IsRest xs from) at rest in sym (is.cells p low)

pub piece-next : (xs : List Segment) (from end : ℕ) (s t : Segment) (more left : List Segment) → left ≡ s ∷ more → IsRest xs from left
    → t.extent.at ≡ max from s.extent.at → end_of t ≡ min end (end_of s) → IsPut t → ((p : ℕ) → t.extent.at ≤ p → what_at t p ≡ what_at s p)
    → IsNext (cell_in xs) from t × (end_of t ≤ end)
piece-next xs from end s t more left at rest begins ends put says =
    let is : IsRest xs from (s ∷ more) = subst (IsRest xs from) at rest in (
      record {
        begins = omega (arith, begins);
        before = λ p low high. unset-before xs from s.extent.at s more left at rest (omega arith) p low (omega (arith, begins));
        says = λ p i.
            let low = i.from in
            let high = i.below in
            sym (is.cells p (omega (arith, begins))) ∙ cell-first 0 s more p is.sorted (record { from = omega (arith, begins); below = omega (arith, ends) })
            ∙ ap (λ w. Some w) (sym (says p low));
        sound = put;
      },
      omega (arith, ends),
    )

pub piece-unparted : (xs : List Segment) (from end : ℕ) (s t : Segment) (more left : List Segment) → left ≡ s ∷ more → IsRest xs from left
    → end_of t ≡ min end (end_of s) → IsUnparted xs end t
piece-unparted xs from end s t more left at rest ends =
    let is : IsRest xs from (s ∷ more) = subst (IsRest xs from) at rest in
    elim (cases_lt (end_of s) end) [
      | inl less ↦ inr (is.edges (end_of t) (0, s, omega arith, refl, inr (omega (arith, ends))))
      | inr more ↦ inl (omega (arith, ends))
    ]

pub piece-rest : (xs : List Segment) (from end : ℕ) (s t : Segment) (more left : List Segment) → left ≡ s ∷ more → IsRest xs from left
    → end_of t ≡ min end (end_of s) → end_of t < end → IsRest xs (end_of t) more
piece-rest xs from end s t more left at rest ends less =
    let is : IsRest xs from (s ∷ more) = subst (IsRest xs from) at rest in
    let same : end_of s ≡ end_of t = omega (arith, ends) in
    subst (λ q. IsRest xs q more) same (rest-next xs from s more is)

use Rattle.std.proofs.Common.{inl, inr, ◌-◌, sym, ap, subst, ◌∙◌}
use Rattle.merged_index.specs.Cells.{cell_at, IsSegmentEdge}
use Rattle.merged_index.proofs.segments.Segments.under.Goals as goal

pub returns-clause-edges : goal.returns-clause-edges
returns-clause-edges c p edge =
    elim (c.in_ok-items.ensures.edges p (subst (λ ss. IsSegmentEdge ss p) c.kept.ensures edge)) [
      | inl below ↦ inl (
        subst (λ ss. IsSegmentEdge ss p) (c.as_slice.ensures.value ∙ c.self.view_is) below.0,
        sym (c.in_ok-upper.ensures.cells (p - 1)) ∙ ap (λ ss. cell_at ss (p - 1)) (sym c.as_slice-2.ensures.value) ∙ below.1,
      )
      | inr own ↦ inr (c.in_ok-upper.ensures.edges p (subst (λ ss. IsSegmentEdge ss p) c.as_slice-2.ensures.value own))
    ]

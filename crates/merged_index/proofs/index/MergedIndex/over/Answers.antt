use Rattle.std.proofs.Common.{◌≡◌, inl, inr, ℕ, ◌-◌, length, sym, ap, subst, ◌∙◌}
use Rattle.merged_index.specs.Cells.{Index, cells_of, what_of, painted_what, IsEdge}
use Rattle.merged_index.proofs.IndexLaws.{index_of-over}
use Rattle.merged_index.proofs.index.MergedIndex.over.Goals as goal

pub returns-clause-painted : goal.returns-clause-painted
returns-clause-painted c layers is count =
    let rows = c.args.layer.now.rows in
    let up : (p : ℕ) → what_of c.args.tag rows p ≡ what_of (length layers) rows p = λ p. ap (λ n. what_of n rows p) (sym count) in
    let old = c.args.self.now in
    index_of-over old (record { segments = c.in_ok-segments.segments }) layers c.args.layer.now is c.in_ok-segments.ensures.layer
    (λ p. c.in_ok-segments.ensures.cells p ∙ ap (λ (index : Index). painted_what (cells_of index p) (what_of c.args.tag rows p)) c.self.view_is ∙ ap (painted_what (cells_of old p)) (up p))
    (λ p edge. elim (c.in_ok-segments.ensures.edges p edge) [
      | inl below ↦ inl (subst (λ (index : Index). IsEdge index p) c.self.view_is below.0, sym (up (p - 1)) ∙ below.1)
      | inr own ↦ inr own
    ])

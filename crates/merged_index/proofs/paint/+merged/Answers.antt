use Rattle.std.proofs.Common.{inl, inr, ℕ, ◌+◌, ◌-◌, ◌/◌, List, All, length, take, drop, sym, ap, subst, ◌∙◌, arith}
use Rattle.std.proofs.lemmas.List.{take-append-drop}
use Rattle.std.proofs.lemmas.List.Elements.{All-append}
use Rattle.sealed_layer.specs.Layers.{LayerIndex, IsLayerIndex}
use Rattle.merged_index.specs.Cells.{NumberedRows, painted_what, cell_at, cell_in, numbered, IsSegmentEdge, IsSeenEdge}
use Rattle.merged_index.proofs.HalvesLaws.{cell_in-halves, halved_layers, seen-below, seen-above, seen-one, rest_all}
use Rattle.merged_index.proofs.paint.+merged.Goals as goal

pub returns-then-layers-eq1-clause-edges : goal.returns-then-layers-eq1-clause-edges
returns-then-layers-eq1-clause-edges t c p edge =
    seen-one c.args.number c.args.layers.now c.index-layers-0.result p c.if-layers-eq1.true c.index-layers-0.is (c.in_ok-made.ensures.edges p edge)

pub returns-clause-cells : goal.returns-clause-cells
returns-clause-cells t c p =
    let ls = c.args.layers.now in
    let m : ℕ = length ls / 2 in
    let low : List NumberedRows = numbered c.args.number (take m ls) in
    let up : List NumberedRows = numbered (c.args.number + m) (drop m ls) in
    c.in_ok-made-2.ensures.cells p
    ∙ ap (λ ss. painted_what (cell_at ss p) (cell_at c.as_slice-2.result.now p)) c.as_slice.ensures.value
    ∙ ap (λ w. painted_what w (cell_at c.as_slice-2.result.now p)) (c.in_ok-lower.ensures.cells p)
    ∙ ap (painted_what (cell_in low p)) (ap (λ ss. cell_at ss p) c.as_slice-2.ensures.value ∙ c.in_ok-upper.ensures.cells p ∙ ap (λ xs. cell_in (numbered (c.args.number + m) xs) p) (rest_all m ls))
    ∙ sym (cell_in-halves low up p)
    ∙ ap (λ xs. cell_in xs p) (sym (halved_layers c.args.number m ls (omega arith)))

pub returns-clause-edges : goal.returns-clause-edges
returns-clause-edges t c p edge =
    let ls = c.args.layers.now in
    let m : ℕ = length ls / 2 in
    let low : List NumberedRows = numbered c.args.number (take m ls) in
    let up : List NumberedRows = numbered (c.args.number + m) (drop m ls) in
    subst (λ xs. IsSeenEdge xs p) (sym (halved_layers c.args.number m ls (omega arith))) (elim (c.in_ok-made-2.ensures.edges p edge) [
      | inl below ↦ seen-below low up p (c.in_ok-lower.ensures.edges p (subst (λ ss. IsSegmentEdge ss p) c.as_slice.ensures.value below.0))
          (sym (ap (λ xs. cell_in (numbered (c.args.number + m) xs) (p - 1)) (rest_all m ls)) ∙ sym (c.in_ok-upper.ensures.cells (p - 1)) ∙ ap (λ ss. cell_at ss (p - 1)) (sym c.as_slice-2.ensures.value) ∙ below.1)
      | inr above ↦ seen-above low up p (subst (λ xs. IsSeenEdge (numbered (c.args.number + m) xs) p) (rest_all m ls) (c.in_ok-upper.ensures.edges p (subst (λ ss. IsSegmentEdge ss p) c.as_slice-2.ensures.value above)))
    ])

pub returns-clause-layers : goal.returns-clause-layers
returns-clause-layers t c =
    let ls = c.args.layers.now in
    let m : ℕ = length ls / 2 in
    let P : LayerIndex → Type 0 = λ layer. IsLayerIndex layer.head layer.rows in
    subst (All P) (take-append-drop m ls) (All-append P (take m ls) (drop m ls) c.in_ok-lower.ensures.layers (subst (All P) (rest_all m ls) c.in_ok-upper.ensures.layers))

-- The cells of layers in two halves.
use Rattle.std.proofs.Common.{◌≡◌, inl, inr, ℕ, suc, ◌+◌, ◌-◌, ◌≤◌, List, [], ◌∷◌, ◌++◌, length, take, drop, refl, sym, ap, subst, ◌∙◌, arith}
use Rattle.std.specs.Prelude.{All}
use Rattle.std.proofs.Math.ListN.{get_or}
use Rattle.std.proofs.lemmas.List.{take-append-drop, length-take-le, take_all, length-drop}
use Rattle.std.proofs.lemmas.List.Elements.{All-append, All-nil}
use Rattle.std.proofs.lemmas.List.Sums.{fold-append}
use Rattle.sealed_layer.specs.Layers.{LayerIndex}
use Rattle.merged_index.specs.declared.piece.PieceWhat.{PieceWhat}
use Rattle.merged_index.specs.declared.piece.PieceWhat.TheVariants.{Hole, Zero, Filled}
use Rattle.merged_index.specs.Cells.{NumberedRows, what_of, painted_what, cell_in, numbered, IsRowEdge, IsSeenEdge}
use Rattle.merged_index.proofs.PaintLaws.{cell_over, cell_is_uppermost}

over_both : (a b c : PieceWhat) → painted_what (painted_what a b) c ≡ painted_what a (painted_what b c)
over_both a b Hole = refl
over_both a b Zero = refl
over_both a b (Filled layer place) = refl

-- painting over an old cell is painting over nothing, and that over the old cell
pub cell_over-in : (old : PieceWhat) (above : List NumberedRows) (p : ℕ) → cell_over old above p ≡ painted_what old (cell_in above p)
cell_over-in old [] p = refl
cell_over-in old (l ∷ above) p =
    let w : PieceWhat = what_of l.number l.rows p in
    cell_over-in (painted_what old w) above p ∙ over_both old w (cell_in above p)
    ∙ ap (painted_what old) (sym (cell_over-in (painted_what Hole w) above p ∙ ap (λ x. painted_what x (cell_in above p)) (over_none w)))
  where
    over_none : (x : PieceWhat) → painted_what Hole x ≡ x
    over_none Hole = refl
    over_none Zero = refl
    over_none (Filled layer place) = refl

pub cell_in-halves : (below above : List NumberedRows) (p : ℕ) → cell_in (below ++ above) p ≡ painted_what (cell_in below p) (cell_in above p)
cell_in-halves below above p =
    fold-append (λ old layer. painted_what old (what_of layer.number layer.rows p)) Hole below above ∙ cell_over-in (cell_in below p) above p

pub numbered-halves : (k : ℕ) (below above : List LayerIndex) → numbered k (below ++ above) ≡ numbered k below ++ numbered (k + length below) above
numbered-halves k [] above = ap (λ n. numbered n above) (omega arith)
numbered-halves k (l ∷ below) above =
    ap (λ ls. record { number = k; rows = l.rows } ∷ ls)
    (numbered-halves (suc k) below above ∙ ap (λ n. numbered (suc k) below ++ numbered n above) (omega arith))

-- an edge that is seen of the lower half is one of the whole where the upper half says nothing of the sector before
pub seen-below : (below above : List NumberedRows) (p : ℕ) → IsSeenEdge below p → cell_in above (p - 1) ≡ Hole → IsSeenEdge (below ++ above) p
seen-below below above p edge hole = add below edge
  where
    none : All (λ l. what_of l.number l.rows (p - 1) ≡ Hole) above
    none = elim (cell_is_uppermost above (p - 1)) [
      | inl some ↦ absurd (some.some hole)
      | inr all ↦ all.1
    ]

    add : (xs : List NumberedRows) → IsSeenEdge xs p → IsSeenEdge (xs ++ above) p
    add [] edge = absurd edge
    add (x ∷ xs) (inl here) = inl (here.0, All-append (λ l. what_of l.number l.rows (p - 1) ≡ Hole) xs above here.1 none)
    add (x ∷ xs) (inr rest) = inr (add xs rest)

pub seen-above : (below above : List NumberedRows) (p : ℕ) → IsSeenEdge above p → IsSeenEdge (below ++ above) p
seen-above [] above p edge = edge
seen-above (x ∷ below) above p edge = inr (seen-above below above p edge)

pub halved_layers : (k m : ℕ) (ls : List LayerIndex) → m ≤ length ls → numbered k ls ≡ numbered k (take m ls) ++ numbered (k + m) (drop m ls)
halved_layers k m ls few =
    ap (numbered k) (sym (take-append-drop m ls)) ∙ numbered-halves k (take m ls) (drop m ls)
    ∙ ap (λ n. numbered k (take m ls) ++ numbered (k + n) (drop m ls)) (length-take-le m ls few)

pub seen-one : (k : ℕ) (ls : List LayerIndex) (layer : LayerIndex) (p : ℕ) → length ls ≡ 1 → layer ≡ get_or ls 0 layer → IsRowEdge layer.rows p → IsSeenEdge (numbered k ls) p
seen-one k [] layer p one is edge = absurd (omega arith)
seen-one k (x ∷ []) layer p one is edge = inl (subst (λ (l : LayerIndex). IsRowEdge l.rows p) is edge, All-nil (λ l. what_of l.number l.rows (p - 1) ≡ Hole))
seen-one k (x ∷ y ∷ ls) layer p one is edge = absurd (omega arith)

pub rest_all : (m : ℕ) (ls : List LayerIndex) → take (length ls - m) (drop m ls) ≡ drop m ls
rest_all m ls = let d = length-drop m ls in take_all (length ls - m) (drop m ls) (omega (arith, d))

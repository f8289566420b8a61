-- Layers that are asked from the uppermost down.
use Rattle.std.proofs.Common.{◌≡◌, ℕ, ◌+◌, ◌<◌, ◌≤◌, List, [], ◌∷◌, ◌++◌, length, take, refl, ap, ◌∙◌, arith}
use Rattle.std.proofs.Math.ListN.{get_or}
use Rattle.std.proofs.lemmas.List.{take_more, length-take-le}
use Rattle.seg_mapping.specs.declared.Row.{Row}
use Rattle.flat_image.specs.RowCells.{AreLayerRows}
use Rattle.sealed_layer.specs.Layers.{LayerIndex}
use Rattle.merged_index.specs.declared.piece.PieceWhat.{PieceWhat}
use Rattle.merged_index.specs.declared.piece.PieceWhat.TheVariants.{Hole, Zero, Filled}
use Rattle.merged_index.specs.Cells.{what_of, painted_what, cell_in, numbered}
use Rattle.merged_index.proofs.CellLaws.{cell_in-push, numbered-last}

-- rows of a layer are those of a greater image, and of a longer file
pub rows_in_any : (n m index_at limit low : ℕ) (rows : List Row) → AreLayerRows n index_at low rows → n ≤ m → index_at ≤ limit → AreLayerRows m limit low rows
rows_in_any n m index_at limit low [] are few short = tt
rows_in_any n m index_at limit low (row ∷ rows) are few short = (
  record {
    fits = are.0.fits;
    order = are.0.order;
    range = omega (arith, are.0.range);
    place = record { from = are.0.place.from; to = λ filled. let to = are.0.place.to filled in omega (arith, to) };
  },
  rows_in_any n m index_at limit (row.offset + row.count) rows are.1 few short,
)

-- the cell of the first layers, with the next one painted over it
pub cell_more : (layers : List LayerIndex) (i n : ℕ) (layer : LayerIndex) (p : ℕ) → n ≡ i + 1 → i < length layers → get_or layers i layer ≡ layer
    → cell_in (numbered 0 (take n layers)) p ≡ painted_what (cell_in (numbered 0 (take i layers)) p) (what_of i layer.rows p)
cell_more layers i n layer p next below is =
    let more : take n layers ≡ take i layers ++ layer ∷ [] =
    ap (λ k. take k layers) next ∙ take_more layers i layer below ∙ ap (λ l. take i layers ++ l ∷ []) is in
    let count : length (take i layers) ≡ i = length-take-le i layers (omega arith) in
    ap (λ ls. cell_in (numbered 0 ls) p) more
    ∙ ap (λ ls. cell_in ls p) (numbered-last (take i layers) layer)
    ∙ cell_in-push (numbered 0 (take i layers)) (record { number = length (take i layers); rows = layer.rows }) p
    ∙ ap (λ k. painted_what (cell_in (numbered 0 (take i layers)) p) (what_of k layer.rows p)) count

-- a cell that is no hole hides what is below it
pub hides : (old what : PieceWhat) → (what ≡ Hole → ⊥) → painted_what old what ≡ what
hides old Hole some = absurd (some refl)
hides old Zero some = refl
hides old (Filled layer place) some = refl

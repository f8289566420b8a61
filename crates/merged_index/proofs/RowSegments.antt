-- The rows of a layer as segments.
use Rattle.std.proofs.Common.{◌≡◌, ◌⊎◌, ℕ, zero, suc, ◌+◌, ◌^◌, ◌<◌, ◌≤◌, cond, List, [], ◌∷◌, ◌++◌, length, map, take, refl, sym, ap, subst, ◌∙◌, arith}
use Rattle.std.proofs.Math.ListN.{get_or}
use Rattle.std.proofs.lemmas.List.{map-append, take_more}
use Rattle.seg_mapping.specs.declared.Row.{Row}
use Rattle.flat_image.specs.RowCells.{covers, AreLayerRows}
use Rattle.merged_index.specs.declared.segment.Segment.{Segment}
use Rattle.merged_index.specs.Cells.{what_by, what_of, cell_at, IsRowEdge, IsSegmentEdge}
use Rattle.merged_index.specs.Segments.{AreSegments}

abbrev pub as_segment : ℕ → Row → Segment
as_segment k row = record { at = row.offset; place = row.place; count = row.count; layer = k; zeroed = row.zeroed }

pub row_cells : (k : ℕ) (rows : List Row) (p : ℕ) → cell_at (map (as_segment k) rows) p ≡ what_of k rows p
row_cells k [] p = refl
row_cells k (row ∷ rows) p = ap (λ w. cond (covers row p) (what_by k row p) w) (row_cells k rows p)

pub row_segments : (k n index_at low : ℕ) (rows : List Row) → AreLayerRows n index_at low rows → n ≤ 2 ^ 31 → index_at ≤ 2 ^ 50 → AreSegments low (map (as_segment k) rows)
row_segments k n index_at low [] are few short = tt
row_segments k n index_at low (row ∷ rows) are few short = (
  record {
    order = are.0.order;
    some = are.0.fits.some;
    range = omega (arith, are.0.range);
    from = are.0.place.from;
    to = λ filled. let to = are.0.place.to filled in omega (arith, to);
  },
  row_segments k n index_at (row.offset + row.count) rows are.1 few short,
)

pub row_edges : (k : ℕ) (rows : List Row) (p : ℕ) → IsSegmentEdge (map (as_segment k) rows) p → IsRowEdge rows p
row_edges k [] p (i, x, below, at, h) = absurd (omega arith)
row_edges k (row ∷ rows) p (zero, x, below, at, h) = (0, row, omega arith, refl, subst (λ (t : Segment). (t.at ≡ p) ⊎ (t.at + t.count ≡ p)) (sym at) h)
row_edges k (row ∷ rows) p (suc i, x, below, at, h) =
    let r = row_edges k rows p (i, x, omega arith, at, h) in
    (suc r.0, r.1, omega (arith, r.2), r.3, r.4)

pub mapped_more : {X Y : Type 0} (f : X → Y) (xs : List X) (ys : List Y) (i : ℕ) (y : X) → i < length xs → ys ≡ map f (take i xs) → ys ++ f (get_or xs i y) ∷ [] ≡ map f (take (i + 1) xs)
mapped_more f xs ys i y below so_far =
    ap (λ zs. zs ++ f (get_or xs i y) ∷ []) so_far ∙ sym (map-append f (take i xs) (get_or xs i y ∷ [])) ∙ ap (map f) (sym (take_more xs i y below))

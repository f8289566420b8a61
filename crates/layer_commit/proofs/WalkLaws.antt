-- The stretches that a walk over a table finds are those of its sheet.
use Rattle.std.proofs.Common.{◌≡◌, ℕ, zero, suc, ◌+◌, ◌-◌, ◌<◌, ◌≤◌, List, [], ◌∷◌, ◌++◌, map, refl, sym, ap, subst, ◌∙◌, arith}
use Rattle.std.specs.Prelude.{All, Option, Some, None}
use Rattle.std.specs.List.{range_with_len}
use Rattle.std.proofs.lemmas.List.FromFn.{length-map-range_with_len}
use Rattle.std.proofs.lemmas.List.Elements.{All-nil, All-cons}
use Rattle.seg_table.specs.declared.segment.Segment.{Segment}
use Rattle.seg_table.specs.declared.segment.What.{What}
use Rattle.seg_table.specs.declared.segment.What.TheVariants as what
use Rattle.seg_table.specs.Cells.{what_at, onward}
use Rattle.seg_table.specs.Pieces.{IsNext, end_of}
use Rattle.flat_image.specs.Sheets.{Cell}
use Rattle.flat_image.specs.Base.{holes}
use Rattle.flat_image.specs.CanonicalFiles.{Stretch}
use Rattle.flat_image.specs.Stretches.{IsOf, AreStretches}
use Rattle.flat_image.proofs.CanonicalCells.{map_range-holes, map_range-split}
use Rattle.layer_commit.specs.Sources.{cell_at}
use Rattle.layer_commit.specs.Gathered.{cells_on}
use Rattle.layer_commit.specs.Segments.{is_zero, stretch_of}

kind_of : (stored : List ℕ) (w : What) (steps : ℕ) → IsOf (is_zero w) (cell_at stored (Some (onward w steps)))
kind_of stored what.Zero steps = refl
kind_of stored (what.Place place) steps = refl

pub run_kind : (stored : List ℕ) (cells : ℕ → Option What) (s : Segment) (at count : ℕ)
    → ((i : ℕ) → at ≤ i → i < at + count → cells i ≡ Some (what_at s i)) → All (IsOf (is_zero s.what)) (cells_on stored cells at count)
run_kind stored cells s at zero says = All-nil (IsOf (is_zero s.what))
run_kind stored cells s at (suc count) says =
    All-cons (IsOf (is_zero s.what)) (cell_at stored (cells at)) (cells_on stored cells (at + 1) count)
    (subst (λ (o : Option What). IsOf (is_zero s.what) (cell_at stored o)) (sym (says at (omega arith) (omega arith))) (kind_of stored s.what (at - s.extent.at)))
    (run_kind stored cells s (at + 1) count (λ i low high. says i (omega (arith, low)) (omega (arith, high))))

-- a segment more
pub walk_more : (stored : List ℕ) (cells : ℕ → Option What) (n from : ℕ) (s : Segment) (rest : List Stretch) → IsNext cells from s → end_of s ≤ n
    → AreStretches (end_of s) (cells_on stored cells (end_of s) (n - end_of s)) rest
    → AreStretches from (cells_on stored cells from (n - from)) (stretch_of s ∷ rest)
walk_more stored cells n from s rest next fits are =
    let at : ℕ = s.extent.at in
    let count : ℕ = s.extent.count in
    let gap : ℕ = at - from in
    let f : ℕ → Cell = λ i. cell_at stored (cells i) in
    let behind : List Cell = cells_on stored cells (end_of s) (n - end_of s) in
    let run : List Cell = cells_on stored cells at count in
    let splits : cells_on stored cells from (n - from) ≡ holes gap ++ (run ++ behind) =
    ap (λ (k : ℕ). map f (range_with_len from k)) (let e : n - from ≡ gap + (count + (n - end_of s)) = omega (arith, next.begins, fits) in e)
    ∙ map_range-split f from gap (count + (n - end_of s))
    ∙ ap (λ (k : ℕ). map f (range_with_len from gap) ++ map f (range_with_len k (count + (n - end_of s)))) (let e : from + gap ≡ at = omega (arith, next.begins) in e)
    ∙ ap (λ (l : List Cell). l ++ map f (range_with_len at (count + (n - end_of s))))
    (map_range-holes f from gap (λ p low high. ap (cell_at stored) (next.before p low (omega (arith, high)))))
    ∙ ap (λ (l : List Cell). holes gap ++ l) (map_range-split f at count (n - end_of s)) in (
      record {
        gap = gap;
        run = run;
        behind = behind;
        splits = splits;
        place = omega (arith, next.begins);
        count = length-map-range_with_len f at count;
        some = next.sound.some;
        kind = run_kind stored cells s at count (λ i low high. next.says i (record { from = low; below = high }));
      },
      are,
    )

-- no segment more
pub walk_none : (stored : List ℕ) (cells : ℕ → Option What) (n from : ℕ) → ((i : ℕ) → from ≤ i → cells i ≡ None)
    → AreStretches from (cells_on stored cells from (n - from)) []
walk_none stored cells n from unset =
    map_range-holes (λ i. cell_at stored (cells i)) from (n - from) (λ p low high. ap (cell_at stored) (unset p low))
    ∙ ap holes (sym (length-map-range_with_len (λ i. cell_at stored (cells i)) from (n - from)))

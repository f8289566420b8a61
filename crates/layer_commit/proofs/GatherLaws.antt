-- What is gathered of a table up to a sector, and of all of it.
use Rattle.std.proofs.Common.{◌≡◌, ℕ, zero, suc, ◌+◌, ◌-◌, ◌*◌, ◌<◌, ◌≤◌, cond, List, [], ◌∷◌, ◌++◌, length, map, refl, sym, ap, subst, ◌∙◌, arith, inl, inr, append-nil, append_assoc, length-append}
use Rattle.std.specs.Prelude.{Option, Some, None}
use Rattle.std.specs.List.{concat, flat_map, range_with_len}
use Rattle.std.proofs.lemmas.Bool.Decides.{leb_tells}
use Rattle.std.proofs.lemmas.List.Folds.{concat-append}
use Rattle.std.proofs.lemmas.List.Elements.{All-nil}
use Rattle.std.proofs.lemmas.List.FromFn.{length-map-range_with_len}
use Rattle.block_disk.specs.Changes.{piece}
use Rattle.seg_table.specs.declared.segment.Segment.{Segment}
use Rattle.seg_table.specs.declared.segment.What.{What}
use Rattle.seg_table.specs.declared.segment.What.TheVariants as what
use Rattle.seg_table.specs.Cells.{what_at, onward}
use Rattle.seg_table.specs.Pieces.{IsNext, end_of}
use Rattle.flat_image.specs.Sheets.{Cell}
use Rattle.flat_image.specs.Base.{holes}
use Rattle.flat_image.specs.RowCells.{sector_at}
use Rattle.flat_image.specs.CanonicalFiles.{Stretch, sectors_of, parts_of, rows_from}
use Rattle.flat_image.specs.Stretches.{AreStretches}
use Rattle.flat_image.proofs.CanonicalCells.{map_range-holes, map_range-split}
use Rattle.flat_image.proofs.CanonicalRows.{sectors_of-append, sectors_of-holes, length-kind}
use Rattle.flat_image.proofs.JoinedStretches.{joined-are_longest}
use Rattle.sealed_layer.specs.Canon.{CanonState, rows_ahead, rows_for_all, last_end}
use Rattle.layer_commit.specs.declared.source.Source.{Source}
use Rattle.layer_commit.specs.Gathered.{cells_on, EndBy, Reaches, IsGathered}
use Rattle.layer_commit.specs.Segments.{is_zero, stretch_of, bytes_by, HasRoom, Adds}
use Rattle.layer_commit.specs.Sources.{AreSources, AreWithin, cell_at, copied, counted}
use Rattle.layer_commit.proofs.FileLaws.{IsLong}
use Rattle.layer_commit.proofs.ExtendLaws.{piece_parts}
use Rattle.layer_commit.proofs.WalkLaws.{run_kind, walk_more, walk_none}

-- The stretches up to there: whatever stretches the rest of a sheet has, behind these they are those of the sheet, of
-- whatever data. The rows are theirs, and the sources have the sectors of the sheet up to there.
pub record Gathered (cells : ℕ → Option What) (from : ℕ) (rows : CanonState) (sources : List Source) : Type 0 where
  pub list : List Stretch
  pub ahead : (more : List Stretch) → rows_ahead rows more ≡ rows_for_all 8 (list ++ more)
  pub stretches : (n : ℕ) (stored : List ℕ) (rest : List Stretch) → from ≤ n → AreStretches from (cells_on stored cells from (n - from)) rest
      → AreStretches 0 (cells_on stored cells 0 n) (list ++ rest)
  pub bytes : (stored : List ℕ) → copied stored sources ≡ concat (sectors_of (cells_on stored cells 0 from))
  pub count : (stored : List ℕ) → counted sources ≡ length (sectors_of (cells_on stored cells 0 from))
  pub are : AreSources 8 sources
  pub end : last_end rows ≤ from
  pub ends : (n : ℕ) → EndBy n cells → from ≤ n
  pub within : (stored : List ℕ) → Reaches stored cells → AreWithin stored sources

-- the bytes of sectors that follow one another in the data file
piece_more : (place count : ℕ) (stored : List ℕ) → sector_at stored place ++ piece (512 * (place + 1)) (512 * count) stored ≡ piece (512 * place) (512 * suc count) stored
piece_more place count stored =
    ap (λ (k : ℕ). sector_at stored place ++ piece k (512 * count) stored) (let e : 512 * (place + 1) ≡ 512 * place + 512 = omega arith in e)
    ∙ sym (piece_parts (512 * place) 512 (512 * count) stored)
    ∙ ap (λ (k : ℕ). piece (512 * place) k stored) (let e : 512 + 512 * count ≡ 512 * suc count = omega arith in e)

place_bytes : (stored : List ℕ) (cells : ℕ → Option What) (place at count : ℕ) → ((i : ℕ) → i < count → cells (at + i) ≡ Some (what.Place (place + i)))
    → concat (sectors_of (cells_on stored cells at count)) ≡ piece (512 * place) (512 * count) stored
place_bytes stored cells place at zero says = refl
place_bytes stored cells place at (suc count) says =
    let here : cells at ≡ Some (what.Place place) =
    ap cells (let e : at ≡ at + 0 = omega arith in e) ∙ says 0 (omega arith) ∙ ap (λ (k : ℕ). Some (what.Place k)) (let e : place + 0 ≡ place = omega arith in e) in
    let behind : (i : ℕ) → i < count → cells (at + 1 + i) ≡ Some (what.Place (place + 1 + i)) =
    λ i below. ap cells (let e : at + 1 + i ≡ at + (i + 1) = omega arith in e) ∙ says (i + 1) (omega (arith, below)) ∙ ap (λ (k : ℕ). Some (what.Place k)) (let e : place + (i + 1) ≡ place + 1 + i = omega arith in e) in
    ap (λ (o : Option What). concat (sectors_of (cell_at stored o ∷ cells_on stored cells (at + 1) count))) here
    ∙ ap (λ (l : List ℕ). sector_at stored place ++ l) (place_bytes stored cells (place + 1) (at + 1) count behind)
    ∙ piece_more place count stored

zero_bytes : (stored : List ℕ) (cells : ℕ → Option What) (at count : ℕ) → ((i : ℕ) → i < count → cells (at + i) ≡ Some what.Zero)
    → concat (sectors_of (cells_on stored cells at count)) ≡ []
zero_bytes stored cells at zero says = refl
zero_bytes stored cells at (suc count) says =
    ap (λ (o : Option What). concat (sectors_of (cell_at stored o ∷ cells_on stored cells (at + 1) count))) (ap cells (let e : at ≡ at + 0 = omega arith in e) ∙ says 0 (omega arith))
    ∙ zero_bytes stored cells (at + 1) count (λ i below. ap cells (let e : at + 1 + i ≡ at + (i + 1) = omega arith in e) ∙ says (i + 1) (omega (arith, below)))

-- the bytes of a run, by what it has
run_bytes : (stored : List ℕ) (cells : ℕ → Option What) (w : What) (at count : ℕ) → ((i : ℕ) → i < count → cells (at + i) ≡ Some (onward w i))
    → concat (sectors_of (cells_on stored cells at count)) ≡ bytes_by stored w count
run_bytes stored cells what.Zero at count says = zero_bytes stored cells at count says
run_bytes stored cells (what.Place place) at count says = place_bytes stored cells place at count says

segment_says : (cells : ℕ → Option What) (from : ℕ) (s : Segment) → IsNext cells from s → (i : ℕ) → i < s.extent.count → cells (s.extent.at + i) ≡ Some (onward s.what i)
segment_says cells from s next i below =
    next.says (s.extent.at + i) (record { from = omega arith; below = omega (arith, below) })
    ∙ ap (λ (k : ℕ). Some (onward s.what k)) (let e : s.extent.at + i - s.extent.at ≡ i = omega arith in e)

-- a segment more: the sectors up to its end
sectors_more : (stored : List ℕ) (cells : ℕ → Option What) (from : ℕ) (s : Segment) → IsNext cells from s
    → sectors_of (cells_on stored cells 0 (end_of s)) ≡ sectors_of (cells_on stored cells 0 from) ++ sectors_of (cells_on stored cells s.extent.at s.extent.count)
sectors_more stored cells from s next =
    let at : ℕ = s.extent.at in
    let count : ℕ = s.extent.count in
    let gap : ℕ = at - from in
    let f : ℕ → Cell = λ i. cell_at stored (cells i) in
    let front : List Cell = cells_on stored cells 0 from in
    let run : List Cell = cells_on stored cells at count in
    ap (λ (k : ℕ). sectors_of (map f (range_with_len 0 k))) (let e : end_of s ≡ from + (gap + count) = omega (arith, next.begins) in e)
    ∙ ap sectors_of (map_range-split f 0 from (gap + count))
    ∙ ap (λ (k : ℕ). sectors_of (front ++ map f (range_with_len k (gap + count)))) (let e : 0 + from ≡ from = omega arith in e)
    ∙ sectors_of-append front (map f (range_with_len from (gap + count)))
    ∙ ap (λ (l : List Cell). sectors_of front ++ sectors_of l) (map_range-split f from gap count)
    ∙ ap (λ (l : List Cell). sectors_of front ++ sectors_of (l ++ map f (range_with_len (from + gap) count)))
    (map_range-holes f from gap (λ p low high. ap (cell_at stored) (next.before p low (omega (arith, high)))))
    ∙ ap (λ (l : List (List ℕ)). sectors_of front ++ l) (sectors_of-append (holes gap) (map f (range_with_len (from + gap) count)))
    ∙ ap (λ (l : List (List ℕ)). sectors_of front ++ (l ++ sectors_of (map f (range_with_len (from + gap) count)))) (sectors_of-holes gap)
    ∙ ap (λ (k : ℕ). sectors_of front ++ sectors_of (map f (range_with_len k count))) (let e : from + gap ≡ at = omega (arith, next.begins) in e)

-- a data file that is long enough for all places is so for a run of them
has_room : (stored : List ℕ) (cells : ℕ → Option What) (w : What) (at count : ℕ) → 0 < count → ((i : ℕ) → i < count → cells (at + i) ≡ Some (onward w i)) → Reaches stored cells
    → HasRoom stored w count
has_room stored cells what.Zero at count some says long = tt
has_room stored cells (what.Place place) at count some says long =
    let last : 512 * (place + (count - 1) + 1) ≤ length stored = long (at + (count - 1)) (place + (count - 1)) (says (count - 1) (omega (arith, some))) in
    omega (arith, some, last)

-- nothing is gathered
pub gather_started : (cells : ℕ → Option What) (rows : CanonState) (sources : List Source) → sources ≡ []
    → ((more : List Stretch) → rows_ahead rows more ≡ rows_for_all 8 more) → last_end rows ≡ 0 → Gathered cells 0 rows sources
gather_started cells rows sources none ahead end = record {
  list = [];
  ahead = ahead;
  stretches = λ n stored rest le are. subst (λ (k : ℕ). AreStretches 0 (cells_on stored cells 0 k) rest) (let e : n - 0 ≡ n = omega arith in e) are;
  bytes = λ stored. ap (copied stored) none;
  count = λ stored. ap counted none;
  are = subst (AreSources 8) (sym none) tt;
  end = omega (arith, end);
  ends = λ n ends. omega arith;
  within = λ stored long. subst (AreWithin stored) (sym none) (All-nil (IsLong stored));
}

-- one segment more
pub gather_more : (cells : ℕ → Option What) (from : ℕ) (old new : CanonState) (sources more_sources : List Source) (s : Segment)
    → Gathered cells from old sources → IsNext cells from s → Adds s old new sources more_sources → Gathered cells (end_of s) new more_sources
gather_more cells from old new sources more_sources s g next adds =
    let at : ℕ = s.extent.at in
    let count : ℕ = s.extent.count in
    record {
      list = g.list ++ stretch_of s ∷ [];
      ahead = λ more. adds.rows more ∙ g.ahead (stretch_of s ∷ more) ∙ ap (rows_for_all 8) (sym (append_assoc g.list (stretch_of s ∷ []) more));
      stretches = λ n stored rest le are. subst (AreStretches 0 (cells_on stored cells 0 n)) (sym (append_assoc g.list (stretch_of s ∷ []) rest))
          (g.stretches n stored (stretch_of s ∷ rest) (omega (arith, le, next.begins)) (walk_more stored cells n from s rest next le are));
      bytes = λ stored.
          adds.bytes stored
          ∙ ap (λ (l : List ℕ). l ++ bytes_by stored s.what count) (g.bytes stored)
          ∙ ap (λ (l : List ℕ). concat (sectors_of (cells_on stored cells 0 from)) ++ l) (sym (run_bytes stored cells s.what at count (segment_says cells from s next)))
          ∙ sym (concat-append (sectors_of (cells_on stored cells 0 from)) (sectors_of (cells_on stored cells at count)))
          ∙ ap concat (sym (sectors_more stored cells from s next));
      count = λ stored.
          let run : List Cell = cells_on stored cells at count in
          let size : length (sectors_of run) ≡ cond (is_zero s.what) 0 count =
          length-kind (is_zero s.what) run (run_kind stored cells s at count (λ i low high. next.says i (record { from = low; below = high })))
          ∙ ap (λ (k : ℕ). cond (is_zero s.what) 0 k) (length-map-range_with_len (λ i. cell_at stored (cells i)) at count) in
          adds.counted
          ∙ ap (λ (k : ℕ). k + cond (is_zero s.what) 0 count) (g.count stored)
          ∙ ap (λ (k : ℕ). length (sectors_of (cells_on stored cells 0 from)) + k) (sym size)
          ∙ sym (length-append (sectors_of (cells_on stored cells 0 from)) (sectors_of run))
          ∙ ap (length {A = List ℕ}) (sym (sectors_more stored cells from s next));
      are = adds.are;
      end = omega (arith, adds.end);
      ends = λ n ends. elim (leb_tells (end_of s) n) as (λ _. end_of s ≤ n) [
        | inl le ↦ le.1
        | inr past ↦ absurd (
            let last : cells (end_of s - 1) ≡ Some (what_at s (end_of s - 1)) = next.says (end_of s - 1) (record { from = omega (arith, next.sound.some); below = omega (arith, next.sound.some) }) in
            let unset : cells (end_of s - 1) ≡ None = ends (end_of s - 1) (omega (arith, past.1)) in
            cc)
      ];
      within = λ stored long. adds.within stored (g.within stored long) (has_room stored cells s.what at count next.sound.some (segment_says cells from s next) long);
    }

-- no segment is left
pub gather_all : (cells : ℕ → Option What) (from : ℕ) (rows : CanonState) (sources : List Source) → Gathered cells from rows sources
    → ((i : ℕ) → from ≤ i → cells i ≡ None) → IsGathered cells rows sources
gather_all cells from rows sources g unset =
    let sectors : (n : ℕ) (stored : List ℕ) → EndBy n cells → sectors_of (cells_on stored cells 0 n) ≡ sectors_of (cells_on stored cells 0 from) =
    λ n stored ends.
    let f : ℕ → Cell = λ i. cell_at stored (cells i) in
    ap (λ (k : ℕ). sectors_of (cells_on stored cells 0 k)) (let e : n ≡ from + (n - from) = omega (arith, g.ends n ends) in e)
    ∙ ap sectors_of (map_range-split f 0 from (n - from))
    ∙ ap (λ (k : ℕ). sectors_of (cells_on stored cells 0 from ++ map f (range_with_len k (n - from)))) (let e : 0 + from ≡ from = omega arith in e)
    ∙ sectors_of-append (cells_on stored cells 0 from) (cells_on stored cells from (n - from))
    ∙ ap (λ (l : List Cell). sectors_of (cells_on stored cells 0 from) ++ sectors_of l) (map_range-holes f from (n - from) (λ p low high. ap (cell_at stored) (unset p low)))
    ∙ ap (λ (l : List (List ℕ)). sectors_of (cells_on stored cells 0 from) ++ l) (sectors_of-holes (n - from))
    ∙ append-nil (sectors_of (cells_on stored cells 0 from)) in
    record {
      rows = λ n stored ends.
          let sheet : List Cell = cells_on stored cells 0 n in
          let are : AreStretches 0 sheet (g.list ++ []) = g.stretches n stored [] (g.ends n ends) (walk_none stored cells n from unset) in
          g.ahead [] ∙ ap (λ (l : List Stretch). rows_from 8 (flat_map parts_of l)) (joined-are_longest sheet (g.list ++ []) are);
      bytes = λ n stored ends. g.bytes stored ∙ ap concat (sym (sectors n stored ends));
      count = λ n stored ends. g.count stored ∙ ap (length {A = List ℕ}) (sym (sectors n stored ends));
      are = g.are;
      within = g.within;
    }

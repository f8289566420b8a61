-- A top over a frozen one: what a read of both gives, and their gaps.
use Rattle.std.proofs.Common.{◌≡◌, ℕ, zero, suc, ◌+◌, ◌-◌, ◌*◌, ◌<◌, ◌≤◌, inl, inr, List, [], ◌∷◌, ◌++◌, length, refl, sym, ap, ◌∙◌, subst, arith, append_assoc}
use Rattle.std.specs.Prelude.{All, slice_index_or}
use Rattle.std.proofs.lemmas.List.{append-nil}
use Rattle.std.proofs.lemmas.Bool.Decides.{leb_tells}
use Rattle.std.proofs.lemmas.List.Elements.{All-cons, All-head, All-tail}
use Rattle.sector_extent.specs.declared.extent.Extent.{Extent}
use Rattle.sector_extent.specs.Places.{IsIn}
use Rattle.flat_image.specs.Sheets.{Cell, Hole, Zero, Filled, IsCell, IsSheet, painted}
use Rattle.flat_image.specs.RowCells.{sector_at}
use Rattle.top_writer.specs.Gaps.{Paints, IsHole, IsNextGap, AreGaps, AddsGaps}
use Rattle.top_writer.proofs.GapLaws.{gaps_same}
use Rattle.image_core.specs.Upper.{cell_over, sheet_over, IsOverlaid, AreOverlaid, AreAdded}
use Rattle.image_core.proofs.Planned.{part-sector, sectors-paint}

-- a cell of a sheet over another
over-hole : (under : Cell) → cell_over Hole under ≡ under
over-hole Hole = refl
over-hole Zero = refl
over-hole (Filled sector) = refl

pub over-at : (under over : List Cell) (i : ℕ) → slice_index_or (sheet_over under over) i Hole ≡ cell_over (slice_index_or under i Hole) (slice_index_or over i Hole)
over-at [] over i = sym (over-hole (slice_index_or over i Hole))
over-at (cell ∷ under) [] i = refl
over-at (cell ∷ under) (above ∷ over) zero = refl
over-at (cell ∷ under) (above ∷ over) (suc i) = over-at under over i

over-cell : (under over : Cell) → IsCell under → IsCell over → IsCell (cell_over under over)
over-cell under Hole is other = is
over-cell under Zero is other = tt
over-cell under (Filled sector) is other = other

over-long : (under over : List Cell) → length under ≡ length over → length (sheet_over under over) ≡ length over
over-long [] over same = refl
over-long (cell ∷ under) [] same = same
over-long (cell ∷ under) (above ∷ over) same = ap suc (over-long under over (omega (arith, same)))

over-cells : (under over : List Cell) → All IsCell under → All IsCell over → All IsCell (sheet_over under over)
over-cells [] over are others = others
over-cells (cell ∷ under) [] are others = are
over-cells (cell ∷ under) (above ∷ over) are others =
    All-cons IsCell (cell_over cell above) (sheet_over under over) (over-cell cell above (All-head IsCell cell under are) (All-head IsCell above over others))
    (over-cells under over (All-tail IsCell cell under are) (All-tail IsCell above over others))

pub over-sheet : (n : ℕ) (under over : List Cell) → IsSheet n under → IsSheet n over → IsSheet n (sheet_over under over)
over-sheet n under over is other = record {
  some = other.some;
  few = other.few;
  count = over-long under over (is.count ∙ sym other.count) ∙ other.count;
  cells = over-cells under over is.cells other.cells;
}

-- a hole of both
hole-both : (under over : Cell) → cell_over under over ≡ Hole → (over ≡ Hole) × (under ≡ Hole)
hole-both under Hole is = (refl, is)
hole-both under Zero is = absurd (let no : ⊥ = cc in no)
hole-both under (Filled sector) is = absurd (let no : ⊥ = cc in no)

-- what extents of a part become that are gaps of the sheet over them
record Overlaid (hole : ℕ → Type 0) (cells : List Cell) (at from until : ℕ) (old new : List ℕ) : Type 0 where
  pub holes : (k : ℕ) → from ≤ at + k → at + k < until → hole (at + k) → sector_at new k ≡ painted (sector_at old k) (slice_index_or cells (at + k) Hole)
  pub others : (k : ℕ) → from ≤ at + k → at + k < until → ¬ hole (at + k) → sector_at new k ≡ sector_at old k
  pub before : (k : ℕ) → at + k < from → sector_at new k ≡ sector_at old k

overlaid : (hole : ℕ → Type 0) (cells : List Cell) (at from until : ℕ) (gaps : List Extent) (old new : List ℕ) → AreGaps hole from until gaps → AreOverlaid cells at gaps old new
    → Overlaid hole cells at from until old new
overlaid hole cells at from until [] old new are laid = record {
  holes = λ k low high is. absurd (are.1 (at + k) low high is);
  others = λ k low high is. ap (λ (bytes : List ℕ). sector_at bytes k) laid;
  before = λ k low. ap (λ (bytes : List ℕ). sector_at bytes k) laid;
}
overlaid hole cells at from until (gap ∷ gaps) old new are laid =
    let next = are.0 in
    let here = laid.1 in
    let rest : Overlaid hole cells at (gap.at + gap.count) until laid.0 new = overlaid hole cells at (gap.at + gap.count) until gaps laid.0 new are.1 laid.2 in
    let back : (k : ℕ) → at + k - at ≡ k = λ k. omega arith in
    record {
      holes = λ k low high is. elim (leb_tells (gap.at + gap.count) (at + k)) [
        | inl e ↦ rest.holes k e.1 high is ∙ ap (λ (s : List ℕ). painted s (slice_index_or cells (at + k) Hole)) (here.behind k e.1)
        | inr e ↦ elim (leb_tells gap.at (at + k)) [
          | inl f ↦ rest.before k e.1 ∙ here.inside k f.1 e.1 ∙ ap (λ (j : ℕ). painted (sector_at old j) (slice_index_or cells (at + k) Hole)) (back k)
          | inr f ↦ absurd (next.before (at + k) low f.1 is)
        ]
      ];
      others = λ k low high is. elim (leb_tells (gap.at + gap.count) (at + k)) [
        | inl e ↦ rest.others k e.1 high is ∙ here.behind k e.1
        | inr e ↦ elim (leb_tells gap.at (at + k)) [
          | inl f ↦ absurd (is (next.holes (at + k) (record { from = f.1; below = e.1 })))
          | inr f ↦ rest.before k e.1 ∙ here.before k f.1
        ]
      ];
      before = λ k low. rest.before k (omega (arith, low, next.begins)) ∙ here.before k (omega (arith, low, next.begins));
    }

-- so a read of the top, and of what is frozen in its gaps, is one of both
pub over-paints : (n : ℕ) (under over : List Cell) (at count : ℕ) (gaps : List Extent) (old mid new : List ℕ) → IsSheet n under → IsSheet n over → at + count ≤ n
    → length old ≡ 512 * count → length new ≡ 512 * count → Paints over at count old mid → AreGaps (IsHole over) at (at + count) gaps → AreOverlaid under at gaps mid new
    → Paints (sheet_over under over) at count old new
over-paints n under over at count gaps old mid new under_is over_is within size long paints are laid =
    sectors-paint (sheet_over under over) n (over-sheet n under over under_is over_is) at count old new size within long
    (λ k below. by-cell k below (slice_index_or over (at + k) Hole) refl ∙ ap (painted (sector_at old k)) (sym (over-at under over (at + k))))
  where
    all : Overlaid (IsHole over) under at at (at + count) mid new
    all = overlaid (IsHole over) under at at (at + count) gaps mid new are laid

    first : (k : ℕ) → k < count → sector_at mid k ≡ painted (sector_at old k) (slice_index_or over (at + k) Hole)
    first k below = part-sector over n over_is at count old mid size within paints k below

    by-cell : (k : ℕ) → k < count → (cell : Cell) → slice_index_or over (at + k) Hole ≡ cell
        → sector_at new k ≡ painted (sector_at old k) (cell_over (slice_index_or under (at + k) Hole) (slice_index_or over (at + k) Hole))
    by-cell k below Hole is =
        let same : sector_at mid k ≡ sector_at old k = first k below ∙ ap (painted (sector_at old k)) is in
        all.holes k (omega arith) (omega (arith, below)) is
        ∙ (ap (λ (s : List ℕ). painted s (slice_index_or under (at + k) Hole)) same
        ∙ ap (λ (c : Cell). painted (sector_at old k) (cell_over (slice_index_or under (at + k) Hole) c)) (sym is))
    by-cell k below Zero is =
        all.others k (omega arith) (omega (arith, below)) (λ hole. absurd (let e : Zero ≡ Hole = sym is ∙ hole in cc))
        ∙ (first k below ∙ (ap (painted (sector_at old k)) is ∙ ap (λ (c : Cell). painted (sector_at old k) (cell_over (slice_index_or under (at + k) Hole) c)) (sym is)))
    by-cell k below (Filled sector) is =
        all.others k (omega arith) (omega (arith, below)) (λ hole. absurd (let e : Filled sector ≡ Hole = sym is ∙ hole in cc))
        ∙ (first k below ∙ (ap (painted (sector_at old k)) is ∙ ap (λ (c : Cell). painted (sector_at old k) (cell_over (slice_index_or under (at + k) Hole) c)) (sym is)))

-- gaps that are looked for from earlier on
gaps-from : (hole : ℕ → Type 0) (from mid until : ℕ) (gaps : List Extent) → from ≤ mid → ((i : ℕ) → from ≤ i → i < mid → ¬ hole i) → AreGaps hole mid until gaps → AreGaps hole from until gaps
gaps-from hole from mid until [] le none are = (
  omega (arith, le, are.0),
  λ i low high. elim (leb_tells mid i) [
    | inl e ↦ are.1 i e.1 high
    | inr e ↦ none i low e.1
  ],
)
gaps-from hole from mid until (gap ∷ gaps) le none are =
    let next = are.0 in (
      record {
        begins = omega (arith, le, next.begins);
        before = λ i low high. elim (leb_tells mid i) [
          | inl e ↦ next.before i e.1 high
          | inr e ↦ none i low e.1
        ];
        some = next.some;
        holes = next.holes;
        ends = next.ends;
        whole = next.whole;
      },
      are.1,
    )

-- gaps up to a sector that is none, and those behind it
gaps-joined : (hole : ℕ → Type 0) (from mid until : ℕ) (gaps more : List Extent) → mid ≤ until → (mid < until → ¬ hole mid) → AreGaps hole from mid gaps → AreGaps hole mid until more
    → AreGaps hole from until (gaps ++ more)
gaps-joined hole from mid until [] more le apart are others = gaps-from hole from mid until more are.0 are.1 others
gaps-joined hole from mid until (gap ∷ gaps) more le apart are others =
    let next = are.0 in (
      record {
        begins = next.begins;
        before = next.before;
        some = next.some;
        holes = next.holes;
        ends = omega (arith, next.ends, le);
        whole = λ less. elim (leb_tells mid (gap.at + gap.count)) [
          | inl e ↦ let here : mid ≡ gap.at + gap.count = omega (arith, e.1, next.ends) in subst (λ (i : ℕ). ¬ hole i) here (apart (omega (arith, here, less)))
          | inr e ↦ next.whole e.1
        ];
      },
      gaps-joined hole (gap.at + gap.count) mid until gaps more le apart are.1 others,
    )

-- the gaps of what is frozen in the gaps of the top are those of both
gaps-under : (top frozen both : ℕ → Type 0) → ((i : ℕ) → both i → top i × frozen i) → ((i : ℕ) → top i → frozen i → both i) → (from until : ℕ) (gaps old new : List Extent)
    → AreGaps top from until gaps → AreAdded frozen gaps old new → (added : List Extent) × (new ≡ old ++ added) × AreGaps both from until added
gaps-under top frozen both split join from until [] old new are adds = ([], adds ∙ sym (append-nil old), (are.0, λ i low high is. are.1 i low high (split i is).0))
gaps-under top frozen both split join from until (gap ∷ gaps) old new are adds =
    let next = are.0 in
    let here = adds.1 in
    let end : ℕ = gap.at + gap.count in
    let rest = gaps-under top frozen both split join end until gaps adds.0 new are.1 adds.2 in
    let own : AreGaps both gap.at end here.added =
    gaps_same frozen both gap.at end here.added (λ i low high is. join i (next.holes i (record { from = low; below = high })) is) (λ i low high is. (split i is).1) here.gaps in
    let first : AreGaps both from end here.added = gaps-from both from gap.at end here.added next.begins (λ i low high is. next.before i low high (split i is).0) own in (
      here.added ++ rest.0,
      rest.1 ∙ (ap (λ (l : List Extent). l ++ rest.0) here.behind ∙ append_assoc old here.added rest.0),
      gaps-joined both from end until here.added rest.0 next.ends (λ less is. next.whole less (split end is).0) first rest.2,
    )

pub over-gaps : (under over : List Cell) (from until : ℕ) (gaps new : List Extent) → AreGaps (IsHole over) from until gaps → AreAdded (IsHole under) gaps [] new
    → AreGaps (IsHole (sheet_over under over)) from until new
over-gaps under over from until gaps new are adds =
    let found = gaps-under (IsHole over) (IsHole under) (IsHole (sheet_over under over))
    (λ i is. hole-both (slice_index_or under i Hole) (slice_index_or over i Hole) (sym (over-at under over i) ∙ is))
    (λ i top frozen. over-at under over i ∙ ((λ j. cell_over (frozen j) (top j)))) from until gaps [] new are adds in
    subst (AreGaps (IsHole (sheet_over under over)) from until) (sym found.1) found.2

-- one extent more
pub overlaid-more : (cells : List Cell) (at : ℕ) (extents : List Extent) (extent : Extent) (old mid new : List ℕ) → AreOverlaid cells at extents old mid
    → IsOverlaid cells at extent.at (extent.at + extent.count) mid new → AreOverlaid cells at (extents ++ extent ∷ []) old new
overlaid-more cells at [] extent old mid new are is = (new, subst (λ (bytes : List ℕ). IsOverlaid cells at extent.at (extent.at + extent.count) bytes new) are is, refl)
overlaid-more cells at (first ∷ extents) extent old mid new are is = (are.0, are.1, overlaid-more cells at extents extent are.0 mid new are.2 is)

pub added-more : (hole : ℕ → Type 0) (extents : List Extent) (extent : Extent) (old mid new : List Extent) → AreAdded hole extents old mid
    → AddsGaps hole extent.at (extent.at + extent.count) mid new → AreAdded hole (extents ++ extent ∷ []) old new
added-more hole [] extent old mid new are is = (new, subst (λ (gaps : List Extent). AddsGaps hole extent.at (extent.at + extent.count) gaps new) are is, refl)
added-more hole (first ∷ extents) extent old mid new are is = (are.0, are.1, added-more hole extents extent are.0 mid new are.2 is)

use Rattle.std.proofs.Common.{◌≡◌, ◌⊎◌, inl, inr, ℕ, ◌+◌, ◌^◌, ◌<◌, ◌≤◌, length, take, refl, sym, ap, subst, ◌∙◌, slice_index_or, arith}
use Rattle.std.proofs.lemmas.Bool.{cases_lt}
use Rattle.std.proofs.lemmas.List.{get_or_default}
use Rattle.merged_index.specs.declared.segment.Segment.{Segment}
use Rattle.merged_index.specs.declared.piece.PieceWhat.TheVariants.{Hole}
use Rattle.merged_index.specs.Cells.{cell_at, painted_what, IsSegmentEdge}
use Rattle.merged_index.specs.Segments.{AreSegments, segments_end}
use Rattle.merged_index.proofs.SegmentLaws.{segment_at, first-segments, nothing, end-next, end-push, end_within, from_lower, AreSegments-push, push-before, push-within, cell_at-between, cell_at-behind, cell_at-within, said_hides, after_all}
use Rattle.merged_index.proofs.EdgeLaws.{any-cases, under}
use Rattle.merged_index.proofs.paint.painted.Goals as goal

pub keep-requires-clause-order : goal.keep-requires-clause-order
keep-requires-clause-order c =
    let is = segment_at 0 c.args.upper.now c.loop-segment.segment-index nothing c.requires.upper (omega arith) in
    omega (arith, is.order, c.loop-segment.invariant.2)

pub overflow_add-from : goal.overflow_add-from
overflow_add-from c =
    let is = segment_at 0 c.args.upper.now c.loop-segment.segment-index nothing c.requires.upper (omega arith) in
    omega (arith, is.range)

pub keep-requires-2-clause-order : goal.keep-requires-2-clause-order
keep-requires-2-clause-order c =
    let upper = c.args.upper.now in
    let i = c.loop-segment.segment-index in
    let end = end_within 0 (take i upper) (first-segments 0 upper i c.requires.upper) (omega arith) in
    omega (arith, end, c.loop-segment.invariant.2)

pub loop-segment-preserved : goal.loop-segment-preserved
loop-segment-preserved c =
    let lower = c.args.lower.now in
    let upper = c.args.upper.now in
    let i = c.loop-segment.segment-index in
    let from = c.loop-segment.from in
    let below : i < length upper = omega arith in
    let s : Segment = slice_index_or upper i nothing in
    let is = segment_at 0 upper i nothing c.requires.upper below in
    let last : segments_end 0 (take (i + 1) upper) ≡ s.at + s.count = end-next 0 upper i nothing below in
    let ss = c.keep.new.made.items in
    let all = c.in_ok-push.ensures.items in
    let kept = c.in_ok-next.ensures in
    let here : slice_index_or upper i s ≡ s = get_or_default upper i s nothing below in
    let holes : (q : ℕ) → from ≤ q → q < s.at → cell_at upper q ≡ Hole =
    λ q low high. cell_at-between 0 upper i nothing q c.requires.upper below (omega (arith, c.loop-segment.invariant.2)) high in (
      kept.next.0,
      omega (arith, kept.next.1),
      sym last,
      subst (AreSegments 0) (sym all) (AreSegments-push 0 ss s kept.sound (from_lower _ (segments_end 0 ss) s kept.end is)),
      subst (λ xs. segments_end 0 xs ≤ s.at + s.count) (sym all) (let e = end-push 0 ss s in omega (arith, e)),
      λ p high. subst (λ xs. cell_at xs p ≡ painted_what (cell_at lower p) (cell_at upper p)) (sym all) (elim (cases_lt p s.at) [
        | inl before ↦ push-before ss s p before ∙ elim (cases_lt p from) [
          | inl old ↦ kept.before p old ∙ c.loop-segment.invariant.5 p old
          | inr new ↦ kept.cells p new before ∙ sym (ap (painted_what (cell_at lower p)) (holes p new before))
        ]
        | inr within ↦ push-within 0 ss s p kept.sound kept.end within high ∙ sym (said_hides s p (cell_at lower p))
            ∙ ap (painted_what (cell_at lower p)) (sym (cell_at-within 0 upper i nothing p c.requires.upper below within high))
      ]),
      λ p edge. elim (any-cases (λ (t : Segment). (t.at ≡ p) ⊎ (t.at + t.count ≡ p)) ss s (subst (λ xs. IsSegmentEdge xs p) all edge)) [
        | inl old ↦ elim (kept.edges p old) [
          | inl older ↦ c.loop-segment.invariant.6 p older
          | inr new ↦ under (cell_at upper) (IsSegmentEdge lower) (IsSegmentEdge upper) Hole from s.at p holes c.loop-segment.invariant.7 (inr (i, s, below, here, inl refl)) new
        ]
        | inr own ↦ inr (i, s, below, here, own)
      ],
      inr (i, s, below, here, inr refl),
    )

pub returns-clause-cells : goal.returns-clause-cells
returns-clause-cells c p =
    let lower = c.args.lower.now in
    let upper = c.args.upper.now in
    let i = c.loop-segment.segment-index in
    let from = c.loop-segment.from in
    let hole : from ≤ p → cell_at upper p ≡ Hole = λ low. after_all upper i p c.requires.upper (omega arith) (omega (arith, c.loop-segment.invariant.2)) in
    elim (cases_lt p from) [
      | inl old ↦ c.in_ok-keep.ensures.before p old ∙ c.loop-segment.invariant.5 p old
      | inr low ↦ elim (cases_lt p (2 ^ 31)) [
        | inl high ↦ c.in_ok-keep.ensures.cells p low high ∙ sym (ap (painted_what (cell_at lower p)) (hole low))
        | inr far ↦
            let end = end_within 0 lower c.requires.lower (omega arith) in
            cell_at-behind 0 c.keep-2.new.made.items p c.in_ok-keep.ensures.sound (omega (arith, c.in_ok-keep.ensures.end))
            ∙ sym (ap (λ w. painted_what w (cell_at upper p)) (cell_at-behind 0 lower p c.requires.lower (omega (arith, end))) ∙ ap (painted_what Hole) (hole low))
      ]
    ]

pub returns-clause-edges : goal.returns-clause-edges
returns-clause-edges c p edge =
    let lower = c.args.lower.now in
    let upper = c.args.upper.now in
    let i = c.loop-segment.segment-index in
    let from = c.loop-segment.from in
    elim (c.in_ok-keep.ensures.edges p edge) [
      | inl older ↦ c.loop-segment.invariant.6 p older
      | inr new ↦ under (cell_at upper) (IsSegmentEdge lower) (IsSegmentEdge upper) Hole from (2 ^ 31) p
          (λ q low high. after_all upper i q c.requires.upper (omega arith) (omega (arith, c.loop-segment.invariant.2))) c.loop-segment.invariant.7 (inl refl) new
    ]

use Rattle.std.proofs.Common.{◌≡◌, ◌⊎◌, inl, inr, ℕ, ◌+◌, ◌<◌, ◌≤◌, [], ◌∷◌, refl, sym, subst, ◌∙◌, arith}
use Rattle.std.proofs.lemmas.Bool.{cases_lt}
use Rattle.merged_index.specs.declared.segment.Segment.{Segment}
use Rattle.merged_index.specs.Cells.{said_by, cell_at, IsSegmentEdge}
use Rattle.merged_index.specs.Segments.{AreSegments, segments_end, IsKeptEdge}
use Rattle.merged_index.proofs.SegmentLaws.{AreSegments-push, end-push, push-before, push-within, from_lower}
use Rattle.merged_index.proofs.EdgeLaws.{any-cases}
use Rattle.merged_index.proofs.paint.add_part.Goals as goal

pub returns-in_ok-push-clause-sound : goal.returns-in_ok-push-clause-sound
returns-in_ok-push-clause-sound c =
    let ss = c.args.made.now.items in
    let s = c.part.result in
    let order : segments_end 0 ss ≤ s.at = c.requires.end s.at (omega (arith, c.max-at.ensures, c.part.ensures.at)) (omega (arith, c.max-at.ensures, c.part.ensures.at)) in
    subst (AreSegments 0) (sym c.in_ok-push.ensures.items) (AreSegments-push 0 ss s c.requires.made (from_lower _ (segments_end 0 ss) s order c.part.ensures.sound))

pub returns-in_ok-push-clause-end : goal.returns-in_ok-push-clause-end
returns-in_ok-push-clause-end c q low high =
    let ss = c.args.made.now.items in
    let s = c.part.result in
    let e = end-push 0 ss s in
    subst (λ xs. segments_end 0 xs ≤ q) (sym c.in_ok-push.ensures.items) (omega (arith, e, c.part.ensures.end, c.min-to.ensures))

pub returns-in_ok-push-clause-until : goal.returns-in_ok-push-clause-until
returns-in_ok-push-clause-until c below =
    let ss = c.args.made.now.items in
    let s = c.part.result in
    let e = end-push 0 ss s in
    subst (λ xs. segments_end 0 xs ≤ c.args.until) (sym c.in_ok-push.ensures.items) (omega (arith, e, c.part.ensures.end, c.min-to.ensures))

pub returns-in_ok-push-clause-before : goal.returns-in_ok-push-clause-before
returns-in_ok-push-clause-before c p before =
    let ss = c.args.made.now.items in
    let s = c.part.result in
    let below : p < s.at = elim before [
      | inl first ↦ omega (arith, c.max-at.ensures, c.part.ensures.at)
      | inr second ↦ omega (arith, c.max-at.ensures, c.part.ensures.at)
    ] in
    subst (λ xs. cell_at xs p ≡ cell_at ss p) (sym c.in_ok-push.ensures.items) (push-before ss s p below)

pub returns-in_ok-push-clause-cells : goal.returns-in_ok-push-clause-cells
returns-in_ok-push-clause-cells c p from until begins ends =
    let ss = c.args.made.now.items in
    let s = c.part.result in
    let order : segments_end 0 ss ≤ s.at = c.requires.end s.at (omega (arith, c.max-at.ensures, c.part.ensures.at)) (omega (arith, c.max-at.ensures, c.part.ensures.at)) in
    let low : s.at ≤ p = omega (arith, c.max-at.ensures, c.part.ensures.at) in
    let high : p < s.at + s.count = omega (arith, c.min-to.ensures, c.part.ensures.end) in
    subst (λ xs. cell_at xs p ≡ said_by c.args.segment.now p) (sym c.in_ok-push.ensures.items)
    (push-within 0 ss s p c.requires.made order low high ∙ c.part.ensures.says p (omega (arith, c.max-at.ensures)))

pub returns-in_ok-push-clause-edges : goal.returns-in_ok-push-clause-edges
returns-in_ok-push-clause-edges c p edge =
    let ss = c.args.made.now.items in
    let s = c.part.result in
    let seg = c.args.segment.now in
    let from : ℕ = c.args.from in
    let until : ℕ = c.args.until in
    let K : Type 0 = IsKeptEdge (IsSegmentEdge (seg ∷ [])) from until p in
    let at : s.at ≡ c.max-at.result = c.part.ensures.at in
    let end : s.at + s.count ≡ c.min-to.result = c.part.ensures.end in
    let begins : s.at ≡ p → K = λ e. elim (cases_lt seg.at from) [
      | inl cut ↦ record { after = omega (arith, c.max-at.ensures); before = omega (arith, c.min-to.ensures); some = omega (arith, c.max-at.ensures, c.min-to.ensures); is = inr (inl (omega (arith, c.max-at.ensures), omega arith)) }
      | inr whole ↦ record { after = omega (arith, c.max-at.ensures); before = omega (arith, c.min-to.ensures); some = omega (arith, c.max-at.ensures, c.min-to.ensures); is = inl (0, seg, omega arith, refl, inl (omega (arith, c.max-at.ensures))) }
    ] in
    let ends : s.at + s.count ≡ p → K = λ e. elim (cases_lt until (seg.at + seg.count)) [
      | inl cut ↦ record { after = omega (arith, c.max-at.ensures); before = omega (arith, c.min-to.ensures); some = omega (arith, c.max-at.ensures, c.min-to.ensures); is = inr (inr (omega (arith, c.min-to.ensures), omega (arith, c.requires.sound.range))) }
      | inr whole ↦ record { after = omega (arith, c.max-at.ensures); before = omega (arith, c.min-to.ensures); some = omega (arith, c.max-at.ensures, c.min-to.ensures); is = inl (0, seg, omega arith, refl, inr (omega (arith, c.min-to.ensures))) }
    ] in
    elim (any-cases (λ (t : Segment). (t.at ≡ p) ⊎ (t.at + t.count ≡ p)) ss s (subst (λ xs. IsSegmentEdge xs p) c.in_ok-push.ensures.items edge)) [
      | inl old ↦ inl old
      | inr new ↦ inr (elim new [
        | inl e ↦ begins e
        | inr e ↦ ends e
      ])
    ]

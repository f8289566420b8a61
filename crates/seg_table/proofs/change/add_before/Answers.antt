use Rattle.std.proofs.Common.{◌≡◌, ◌+◌, ◌<◌, [], ◌∷◌, ◌++◌, List, take, drop, sym, ap, subst, ◌∙◌, arith}
use Rattle.std.proofs.lemmas.List.{take-append-drop, drop_all}
use Rattle.seg_table.specs.declared.segment.Segment.{Segment}
use Rattle.seg_table.specs.Cells.{cell_in}
use Rattle.seg_table.specs.Pieces.{end_of}
use Rattle.seg_table.specs.Segments.{AreSegments, IsBefore}
use Rattle.seg_table.proofs.SortedLaws.{around, are-behind, cell-before, segment-put}
use Rattle.seg_table.proofs.ChangeLaws.{before-whole, before-cut}
use Rattle.seg_table.proofs.change.add_before.Goals as goal

pub part-requires-clause-put : goal.part-requires-clause-put
part-requires-clause-put c = segment-put c.args.segments.now c.args.passed c.index-segments-passed.result c.requires.sorted c.if-passed-segments.true c.index-segments-passed.is

pub returns-then-segment-end-clause-before : goal.returns-then-segment-end-clause-before
returns-then-segment-end-clause-before c =
    let xs = c.args.segments.now in
    let i = c.args.passed in
    let s = c.index-segments-passed.result in
    let t = c.part.result in
    let made : c.push.new.self ≡ take i xs ++ t ∷ [] = c.push.ensures ∙ ap (λ (ys : List Segment). ys ++ t ∷ []) (c.extend.ensures ∙ ap (λ (ys : List Segment). ys ++ take i xs) c.requires.made) in
    let past : c.args.end < end_of s = subst (λ (r : Segment). c.args.end < end_of r) (sym c.index-segments-passed.is) (c.requires.behind s c.if-passed-segments.true) in
    subst (IsBefore c.args.end xs) (sym made)
    (before-cut xs (take i xs) (drop (i + 1) xs) s t c.args.end (around xs i s c.if-passed-segments.true c.index-segments-passed.is) c.requires.sorted c.requires.before
    c.part.ensures.at c.part.ensures.end past c.if-segment-end.true c.part.ensures.put (λ q low. c.part.ensures.says q (omega (arith, c.part.ensures.at))))

pub returns-else-segment-end-clause-before : goal.returns-else-segment-end-clause-before
returns-else-segment-end-clause-before c =
    let xs = c.args.segments.now in
    let i = c.args.passed in
    let s = c.index-segments-passed.result in
    let is = around xs i s c.if-passed-segments.true c.index-segments-passed.is in
    let made : c.extend.new.self ≡ take i xs = c.extend.ensures ∙ ap (λ (ys : List Segment). ys ++ take i xs) c.requires.made in
    let behind = are-behind 0 (take i xs) (s ∷ drop (i + 1) xs) (subst (AreSegments 0) is c.requires.sorted) in
    subst (IsBefore c.args.end xs) (sym made)
    (before-whole xs (take i xs) (s ∷ drop (i + 1) xs) c.args.end is c.requires.sorted c.requires.before
    (λ p low. cell-before s.extent.at (s ∷ drop (i + 1) xs) p (record { order = omega arith; put = behind.0.put }, behind.1) (omega (arith, c.if-segment-end.false))))

pub returns-else-passed-segments-clause-before : goal.returns-else-passed-segments-clause-before
returns-else-passed-segments-clause-before c =
    let xs = c.args.segments.now in
    let i = c.args.passed in
    let made : c.extend.new.self ≡ take i xs = c.extend.ensures ∙ ap (λ (ys : List Segment). ys ++ take i xs) c.requires.made in
    let none : drop i xs ≡ [] = drop_all i xs (omega (arith, c.if-passed-segments.false)) in
    subst (IsBefore c.args.end xs) (sym made)
    (before-whole xs (take i xs) (drop i xs) c.args.end (sym (take-append-drop i xs)) c.requires.sorted c.requires.before
    (λ p low. ap (λ (ys : List Segment). cell_in ys p) none))

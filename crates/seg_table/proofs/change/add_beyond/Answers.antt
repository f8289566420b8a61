use Rattle.std.proofs.Common.{◌≡◌, ◌+◌, ◌<◌, ◌≤◌, [], ◌∷◌, ◌++◌, List, take, drop, sym, ap, subst, ◌∙◌, arith}
use Rattle.std.proofs.lemmas.List.{take_all, take_rest, append_assoc, append-nil}
use Rattle.seg_table.specs.declared.segment.Segment.{Segment}
use Rattle.seg_table.specs.Pieces.{end_of}
use Rattle.seg_table.specs.Segments.{segments_end}
use Rattle.seg_table.proofs.SortedLaws.{around, segment-put}
use Rattle.seg_table.proofs.ChangeLaws.{beyond-none, beyond-cut}
use Rattle.seg_table.proofs.change.add_beyond.Goals as goal

pub part-requires-clause-put : goal.part-requires-clause-put
part-requires-clause-put c = segment-put c.args.segments.now c.args.passed c.index-segments-passed.result c.requires.sorted c.if-passed-segments.true c.index-segments-passed.is

pub part-requires-clause-some : goal.part-requires-clause-some
part-requires-clause-some c =
    let s = c.index-segments-passed.result in
    let past : c.args.from < end_of s = subst (λ (r : Segment). c.args.from < end_of r) (sym c.index-segments-passed.is) (c.requires.behind s c.if-passed-segments.true) in
    let put = segment-put c.args.segments.now c.args.passed s c.requires.sorted c.if-passed-segments.true c.index-segments-passed.is in
    omega (arith, past, put.some, c.max-at.ensures, c.end.ensures)

pub returns-then-passed-segments-clause-beyond : goal.returns-then-passed-segments-clause-beyond
returns-then-passed-segments-clause-beyond c =
    let xs = c.args.segments.now in
    let i = c.args.passed in
    let s = c.index-segments-passed.result in
    let t = c.part.result in
    let back : List Segment = drop (i + 1) xs in
    let past : c.args.from < end_of s = subst (λ (r : Segment). c.args.from < end_of r) (sym c.index-segments-passed.is) (c.requires.behind s c.if-passed-segments.true) in (
      t ∷ back,
      c.extend.ensures ∙ ap (λ (ys : List Segment). c.push.new.self ++ ys) (take_rest xs (i + 1)) ∙ ap (λ (ys : List Segment). ys ++ back) c.push.ensures ∙ append_assoc c.args.made.now (t ∷ []) back,
      beyond-cut xs (take i xs) back s t c.args.from (around xs i s c.if-passed-segments.true c.index-segments-passed.is) c.requires.sorted c.requires.before
          (c.part.ensures.at ∙ c.max-at.ensures) (c.part.ensures.end ∙ c.end.ensures) past c.part.ensures.put (λ q low. c.part.ensures.says q (omega (arith, c.part.ensures.at))),
    )

pub returns-else-passed-segments-clause-beyond : goal.returns-else-passed-segments-clause-beyond
returns-else-passed-segments-clause-beyond c =
    let xs = c.args.segments.now in
    let all : take c.args.passed xs ≡ xs = take_all c.args.passed xs (omega (arith, c.if-passed-segments.false)) in
    ([], sym (append-nil c.args.made.now), beyond-none xs c.args.from c.requires.sorted (subst (λ (ys : List Segment). segments_end 0 ys ≤ c.args.from) all c.requires.before))

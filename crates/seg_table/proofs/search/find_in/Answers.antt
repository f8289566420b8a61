use Rattle.std.proofs.Common.{◌≡◌, ℕ, ◌<◌, ◌+◌, ◌-◌, ◌*◌, ◌∷◌, [], ◌++◌, All, List, length, take, sym, subst, ◌∙◌, arith}
use Rattle.std.proofs.lemmas.List.{take_more_set, drop-set-lt}
use Rattle.std.proofs.lemmas.List.Elements.{All-push}
use Rattle.std.proofs.lemmas.Grind.{drop_more_same}
use Rattle.seg_table.specs.declared.segment.Segment.{Segment}
use Rattle.seg_table.specs.Cells.{cell_in}
use Rattle.seg_table.specs.Pieces.{AreCells, IsUnparted, end_of}
use Rattle.seg_table.specs.Segments.{IsRest, joined, left_at}
use Rattle.seg_table.proofs.Halving.{once_more}
use Rattle.seg_table.proofs.PieceLaws.{AreCells-more, AreCells-push}
use Rattle.seg_table.proofs.search.find_in.Goals as goal

pub returns-then-until-end-clause-bound : goal.returns-then-until-end-clause-bound
returns-then-until-end-clause-bound g c =
    once_more (c.first_past-next.new.steps - c.args.steps.now) _ (1024 * (2 * length (joined c.args.leaves.now) + 1)) (omega (arith, c.loop-pieces.invariant.7)) c.first_past-next.ensures.bound

pub returns-in-None-clause-cells : goal.returns-in-None-clause-cells
returns-in-None-clause-cells g c =
    AreCells-more (cell_in (joined c.args.leaves.now)) c.args.from c.loop-pieces.until c.args.end (take c.loop-pieces.pieces c.loop-pieces.out)
    c.loop-pieces.invariant.0 c.loop-pieces.invariant.1 c.in-None.ensures.none

pub returns-in-None-clause-bound : goal.returns-in-None-clause-bound
returns-in-None-clause-bound g c =
    once_more (c.first_past-next.new.steps - c.args.steps.now) _ (1024 * (2 * length (joined c.args.leaves.now) + 1))
    (omega (arith, c.loop-pieces.invariant.7, c.in-None.ensures.once)) c.first_past-next.ensures.bound

pub loop-pieces-preserved : goal.loop-pieces-preserved
loop-pieces-preserved g c =
    let ls = c.args.leaves.now in
    let xs = c.loop-pieces.out in
    let i = c.loop-pieces.pieces in
    let s = c.in-Some.segment in
    let within : i < length xs = omega arith in
    let more = take_more_set xs i s within in
    let cells = cell_in (joined ls) in
    let pushed = AreCells-push cells c.args.from c.loop-pieces.until (take i xs) s c.loop-pieces.invariant.0 c.in-Some.ensures.next.0 in
    let Q : ℕ → List Segment → Type 0 = λ q ys. AreCells cells c.args.from q ys in
    let P : Segment → Type 0 = IsUnparted (joined ls) c.args.end in
    let end : c.end-until.result ≡ end_of s = c.end-until.ensures in (
      subst (λ ys. Q c.end-until.result ys) (sym more) (subst (λ q. Q q (take i xs ++ s ∷ [])) (sym end) pushed),
      omega (arith, c.in-Some.ensures.next.1, end),
      subst (λ ys. All P ys) (sym more) (All-push P (take i xs) s c.loop-pieces.invariant.2 c.in-Some.ensures.unparted),
      drop-set-lt (i + 1) xs i s (omega arith) ∙ drop_more_same xs c.args.out.now i c.loop-pieces.invariant.3,
      c.place_of-next.ensures.place,
      λ less. subst (λ q. IsRest (joined ls) q (left_at ls c.place_of-next.result.leaf c.place_of-next.result.number)) (sym end)
          (subst (λ r. IsRest (joined ls) (end_of s) r) (sym c.place_of-next.ensures.left) (c.in-Some.ensures.rest (omega (arith, end)))),
      omega (arith, c.in-Some.ensures.counted),
      omega (arith, c.in-Some.ensures.once, c.loop-pieces.invariant.7),
    )

pub returns-clause-unparted : goal.returns-clause-unparted
returns-clause-unparted g c =
    let P : Segment → Type 0 = IsUnparted (joined c.args.leaves.now) c.args.end in
    let all : c.loop-pieces.pieces ≡ length c.loop-pieces.out = omega arith in
    subst (λ n. All P (take n c.loop-pieces.out)) all c.loop-pieces.invariant.2

pub returns-clause-bound : goal.returns-clause-bound
returns-clause-bound g c =
    once_more (c.first_past-next.new.steps - c.args.steps.now) _ (1024 * (2 * length (joined c.args.leaves.now) + 1)) (omega (arith, c.loop-pieces.invariant.7)) c.first_past-next.ensures.bound

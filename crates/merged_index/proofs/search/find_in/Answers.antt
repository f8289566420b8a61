use Rattle.std.proofs.Common.{◌≡◌, ◌⊎◌, ℕ, ◌<◌, ◌+◌, ◌-◌, ◌*◌, ◌∷◌, [], ◌++◌, All, List, length, take, sym, subst, ◌∙◌, arith}
use Rattle.std.proofs.lemmas.List.{take_more_set, drop-set-lt}
use Rattle.std.proofs.lemmas.List.Elements.{All-push}
use Rattle.std.proofs.lemmas.Grind.{drop_more_same}
use Rattle.merged_index.specs.declared.piece.Piece.{Piece}
use Rattle.merged_index.specs.Cells.{Index, cell_at, IsEdge}
use Rattle.merged_index.specs.Pieces.{AreCells, IsUnparted}
use Rattle.merged_index.proofs.PieceLaws.{AreCells-push, IsPiece-run}
use Rattle.merged_index.proofs.Halving.{fewer}
use Rattle.merged_index.proofs.search.find_in.Goals as goal

pub loop-pieces-preserved : goal.loop-pieces-preserved
loop-pieces-preserved g c =
    let ss = c.args.segments.now in
    let index : Index = record { segments = ss } in
    let xs = c.loop-pieces.out in
    let i = c.loop-pieces.pieces in
    let s = c.between.result in
    let run = c.run_from-run.result in
    let within : i < length xs = omega arith in
    let more = take_more_set xs i s within in
    let cells = cell_at ss in
    let ends = c.between.ensures.end in
    let is = IsPiece-run cells c.loop-pieces.until run.until run.what s c.between.ensures.at ends c.between.ensures.what c.run_from-run.ensures.some c.run_from-run.ensures.same c.run_from-run.ensures.fits in
    let pushed = AreCells-push cells c.args.from c.loop-pieces.until (take i xs) s c.loop-pieces.invariant.0 is in
    let Q : ℕ → List Piece → Type 0 = λ q ys. AreCells cells c.args.from q ys in
    let P : Piece → Type 0 = IsUnparted index c.args.end in
    let unparted : P s = subst (λ q. (q ≡ c.args.end) ⊎ IsEdge index q) (sym ends) c.run_from-run.ensures.edge in (
      subst (λ ys. Q run.until ys) (sym more) (subst (λ q. Q q (take i xs ++ s ∷ [])) ends pushed),
      omega (arith, c.run_from-run.ensures.within),
      subst (λ ys. All P ys) (sym more) (All-push P (take i xs) s c.loop-pieces.invariant.2 unparted),
      drop-set-lt (i + 1) xs i s (omega arith) ∙ drop_more_same xs c.args.out.now i c.loop-pieces.invariant.3,
      c.run_from-run.ensures.next,
      c.run_from-run.ensures.before,
      c.run_from-run.ensures.behind,
      omega (arith, c.run_from-run.ensures.counted),
      omega (arith, c.run_from-run.ensures.bound, c.loop-pieces.invariant.8),
    )

pub returns-then-until-end-clause-bound : goal.returns-then-until-end-clause-bound
returns-then-until-end-clause-bound g c = fewer (c.segments_before-next.new.steps - c.args.steps.now) _ (2 * length c.args.segments.now + 1) (omega (arith, c.loop-pieces.invariant.8)) c.segments_before-next.ensures.bound

pub returns-clause-bound : goal.returns-clause-bound
returns-clause-bound g c = fewer (c.segments_before-next.new.steps - c.args.steps.now) _ (2 * length c.args.segments.now + 1) (omega (arith, c.loop-pieces.invariant.8)) c.segments_before-next.ensures.bound

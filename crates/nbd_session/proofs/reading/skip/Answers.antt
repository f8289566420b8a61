use Rattle.std.proofs.Common.{◌∙◌, ◌++◌, length, arith, length-append, length-take-le}
use Rattle.std.proofs.KnownBytes.{Consumes-trans}
use Rattle.std.proofs.lemmas.Result.{err_from_is_err_and}
use Rattle.nbd_session.proofs.Cuts.{cut_more}
use Rattle.nbd_session.proofs.reading.skip.Goals as goal

pub returns-in_err-fill : goal.returns-in_err-fill
returns-in_err-fill g c =
    let p = err_from_is_err_and c.from_residual.result c.from_residual.ensures.1 in
    let (bytes, whole, taken, calm) = c.loop-left.invariant in
    let full = length-take-le c.min-count.result c.loop-left.out (omega arith) in
    rw (p.1, p.2)
    (cut_more (g.A.Source.left c.args.source.now) (g.A.Source.left c.loop-left.source) (g.A.Source.left c.fill.new.source) _ _ _
    bytes c.loop-left.left (length c.fill.new.out) c.args.size _ whole (omega arith) taken calm c.in_err-fill.ensures)

pub loop-left-preserved : goal.loop-left-preserved
loop-left-preserved g c =
    let (bytes, whole, taken, calm) = c.loop-left.invariant in
    let full = length-take-le c.min-count.result c.loop-left.out (omega arith) in
    let long = length-append bytes c.fill.new.out in (
      bytes ++ c.fill.new.out,
      omega arith,
      Consumes-trans (g.A.Source.left c.args.source.now) (g.A.Source.left c.loop-left.source) (g.A.Source.left c.fill.new.source) bytes c.fill.new.out taken c.in_ok-fill.ensures.0,
      c.in_ok-fill.ensures.1 ∙ calm,
    )

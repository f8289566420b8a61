use Rattle.std.proofs.Common.{◌∙◌, arith}
use Rattle.seg_table.specs.Segments.{joined}
use Rattle.seg_table.proofs.RestLaws.{unset-before, piece-next, piece-unparted, piece-rest}
use Rattle.seg_table.proofs.search.piece_at.Goals as goal

pub returns-then-end-segment-clause-none : goal.returns-then-end-segment-clause-none
returns-then-end-segment-clause-none g c =
    unset-before (joined c.args.leaves.now) c.args.from c.args.end c.in_ok-segment.segment _ _ c.in_ok-segment.ensures.some c.requires.rest c.if-end-segment.true

pub returns-clause-next : goal.returns-clause-next
returns-clause-next g c =
    piece-next (joined c.args.leaves.now) c.args.from c.args.end c.in_ok-segment.segment c.part.result _ _ c.in_ok-segment.ensures.some c.requires.rest
    (c.part.ensures.at ∙ c.max-at.ensures) (omega (arith, c.part.ensures.end, c.min-until.ensures, c.end.ensures)) c.part.ensures.put
    (λ p low. c.part.ensures.says p (omega (arith, c.part.ensures.at)))

pub returns-clause-unparted : goal.returns-clause-unparted
returns-clause-unparted g c =
    piece-unparted (joined c.args.leaves.now) c.args.from c.args.end c.in_ok-segment.segment c.part.result _ _ c.in_ok-segment.ensures.some c.requires.rest
    (omega (arith, c.part.ensures.end, c.min-until.ensures, c.end.ensures))

pub returns-clause-rest : goal.returns-clause-rest
returns-clause-rest g c less =
    piece-rest (joined c.args.leaves.now) c.args.from c.args.end c.in_ok-segment.segment c.part.result _ _ c.in_ok-segment.ensures.some c.requires.rest
    (omega (arith, c.part.ensures.end, c.min-until.ensures, c.end.ensures)) less

use Rattle.std.proofs.Common.{◌+◌, ap, ◌∙◌}
use Rattle.shared_image.proofs.Turning.{worn_turn, told_turn}
use Rattle.shared_image.proofs.shared.SharedImage.status.Goals as goal

pub returns-in-Err-clause-status : goal.returns-in-Err-clause-status
returns-in-Err-clause-status g c tells shelf =
    rw (← c.self.view_is) (worn_turn tells c.self.inside.turn shelf c.args.seat.now c.hold.new.seat c.in-Err.ensures.later c.in-Err.ensures.worn.0 c.in-Err.ensures.worn.1)

pub returns-clause-status : goal.returns-clause-status
returns-clause-status g c tells shelf =
    let base = c.self.inside.turn.base in
    let seen = c.hold.new.seat.seen in
    let stood = c.in-Ok.ensures.ok.1 in
    let s = c.standing_law.ensures base seen stood in
    rw (← c.self.view_is) (told_turn tells c.self.inside.turn shelf c.args.seat.now c.hold.new.seat c.in-Ok.ensures.later c.give.new.seat c.status-status.result (c.self.inside.first + c.steps.result) c.steps.result
    c.give.ensures c.in-Ok.ensures.ok.2 (c.status-status.ensures.told base seen stood) (ap (λ k. k + c.steps.result) c.self.invariant.3) (c.steps.ensures ∙ s.steps))

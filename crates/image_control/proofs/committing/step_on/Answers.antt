use Rattle.std.proofs.Common.{false}
use Rattle.shared_image.specs.Turns.{seat_port}
use Rattle.image_control.proofs.Ending.{other-ended, copied-on, copy-failed, next-on}
use Rattle.image_control.proofs.committing.step_on.Goals as goal

pub seal_next-requires-clause-pending : goal.seal_next-requires-clause-pending
seal_next-requires-clause-pending g c = (c.in-Ok-Whole.ensures.copy false 0).1

pub returns-in-Ok-More-clause-next : goal.returns-in-Ok-More-clause-next
returns-in-Ok-More-clause-next g c tells shelf =
    copied-on (seat_port tells c.args.image.now c.args.seat.now shelf) (seat_port tells c.args.image.now c.copy.new.seat shelf) c.args.uuid (c.in-Ok-More.ensures.copy tells shelf)

pub returns-in-Ok-Whole-clause-next : goal.returns-in-Ok-Whole-clause-next
returns-in-Ok-Whole-clause-next g c tells shelf =
    next-on (seat_port tells c.args.image.now c.args.seat.now shelf) (seat_port tells c.args.image.now c.copy.new.seat shelf) (seat_port tells c.args.image.now c.seal_next.new.seat shelf) c.args.uuid c.seal_next.result
    (copied-on (seat_port tells c.args.image.now c.args.seat.now shelf) (seat_port tells c.args.image.now c.copy.new.seat shelf) c.args.uuid (c.in-Ok-Whole.ensures.copy tells shelf)) (c.seal_next.ensures.next tells shelf)

pub returns-in-Err-Worn-clause-next : goal.returns-in-Err-Worn-clause-next
returns-in-Err-Worn-clause-next g c tells shelf = rw c.in-Err-Worn.field-0-is at (c.in-Err-Worn.ensures.copy tells shelf)

pub returns-in-Err-NotPending-clause-next : goal.returns-in-Err-NotPending-clause-next
returns-in-Err-NotPending-clause-next g c tells shelf =
    let h = rw c.in-Err-NotPending.field-0-is at (c.in-Err-NotPending.ensures.copy tells shelf) in
    other-ended (seat_port tells c.args.image.now c.args.seat.now shelf) (seat_port tells c.args.image.now c.copy.new.seat shelf) c.args.uuid _ c.requires.pending h.0 h.1 h.2 h.3

pub returns-in-Err-Failed-clause-next : goal.returns-in-Err-Failed-clause-next
returns-in-Err-Failed-clause-next g c tells shelf =
    copy-failed (seat_port tells c.args.image.now c.args.seat.now shelf) (seat_port tells c.args.image.now c.copy.new.seat shelf) c.args.uuid (rw c.in-Err-Failed.field-0-is at (c.in-Err-Failed.ensures.copy tells shelf))

use Rattle.shared_image.specs.Turns.{seat_port}
use Rattle.image_control.proofs.Ending.{sealed-ended, other-ended, whole-on, seal-failed}
use Rattle.image_control.proofs.committing.seal_next.Goals as goal

pub returns-in-Ok-clause-next : goal.returns-in-Ok-clause-next
returns-in-Ok-clause-next g c tells shelf =
    sealed-ended (seat_port tells c.args.image.now c.args.seat.now shelf) (seat_port tells c.args.image.now c.seal.new.seat shelf) c.args.uuid _ (c.in-Ok.ensures.seal tells shelf)

pub returns-in-Err-Worn-clause-next : goal.returns-in-Err-Worn-clause-next
returns-in-Err-Worn-clause-next g c tells shelf = rw c.in-Err-Worn.field-0-is at (c.in-Err-Worn.ensures.seal tells shelf)

pub returns-in-Err-NotPending-clause-next : goal.returns-in-Err-NotPending-clause-next
returns-in-Err-NotPending-clause-next g c tells shelf =
    let h = rw c.in-Err-NotPending.field-0-is at (c.in-Err-NotPending.ensures.seal tells shelf) in
    other-ended (seat_port tells c.args.image.now c.args.seat.now shelf) (seat_port tells c.args.image.now c.seal.new.seat shelf) c.args.uuid _ c.requires.pending h.0 h.1 h.2 h.3

pub returns-in-Err-NotWhole-clause-next : goal.returns-in-Err-NotWhole-clause-next
returns-in-Err-NotWhole-clause-next g c tells shelf =
    whole-on (seat_port tells c.args.image.now c.args.seat.now shelf) (seat_port tells c.args.image.now c.seal.new.seat shelf) c.args.uuid _ _ (rw c.in-Err-NotWhole.field-0-is at (c.in-Err-NotWhole.ensures.seal tells shelf))

pub returns-in-Err-Failed-clause-next : goal.returns-in-Err-Failed-clause-next
returns-in-Err-Failed-clause-next g c tells shelf =
    seal-failed (seat_port tells c.args.image.now c.args.seat.now shelf) (seat_port tells c.args.image.now c.seal.new.seat shelf) c.args.uuid (rw c.in-Err-Failed.field-0-is at (c.in-Err-Failed.ensures.seal tells shelf))

use Rattle.std.proofs.Common.{Ok, refl}
use Rattle.flat_image.specs.declared.act.Act.TheVariants.{Flush}
use Rattle.shared_image.proofs.Turning.{worn_turn, flushed_last, fault_turn}
use Rattle.shared_image.proofs.Charged.{flush-charges}
use Rattle.shared_image.proofs.Kept.{kept-after}
use Rattle.shared_image.proofs.shared.SharedImage.flush.Goals as goal

pub returns-in-Err-clause-flush : goal.returns-in-Err-clause-flush
returns-in-Err-clause-flush g c tells shelf =
    rw (← c.self.view_is) (worn_turn tells c.self.inside.turn shelf c.args.seat.now c.hold.new.seat c.in-Err.ensures.later c.in-Err.ensures.worn.0 c.in-Err.ensures.worn.1)

pub returns-in-Ok-flush-clause-flush : goal.returns-in-Ok-flush-clause-flush
returns-in-Ok-flush-clause-flush g c tells shelf =
    rw (← c.self.view_is) (flushed_last tells c.self.inside.turn shelf c.args.seat.now c.hold.new.seat c.in-Ok.ensures.later c.note.new.seat c.note.ensures c.in-Ok.ensures.ok.2)

pub returns-in-Err-flush-clause-flush : goal.returns-in-Err-flush-clause-flush
returns-in-Err-flush-clause-flush g c tells shelf =
    rw (← c.self.view_is) (fault_turn tells c.self.inside.turn shelf c.args.seat.now c.hold.new.seat c.in-Ok.ensures.later c.note-in-Err-flush.new.seat c.note-in-Err-flush.ensures c.in-Ok.ensures.ok.2)

pub returns-in-Ok-flush-clause-cause : goal.returns-in-Ok-flush-clause-cause
returns-in-Ok-flush-clause-cause g c tells shelf =
    flush-charges tells c.args.self.now shelf c.args.seat.now c.note.new.seat (Ok tt) (returns-in-Ok-flush-clause-flush g c tells shelf)

pub returns-in-Ok-flush-clause-kept : goal.returns-in-Ok-flush-clause-kept
returns-in-Ok-flush-clause-kept g c =
    kept-after c.hold.new.seat c.note.new.seat Flush refl c.note.ensures

pub note-requires-clause-stands : goal.note-requires-clause-stands
note-requires-clause-stands g c = c.in-Ok-flush.ensures.goes.stands c.self.inside.turn.base c.hold.new.seat.seen c.hold.new.seat.number c.in-Ok.ensures.ok.1

pub note-requires-in-Err-flush-clause-stands : goal.note-requires-in-Err-flush-clause-stands
note-requires-in-Err-flush-clause-stands g c = c.in-Err-flush.ensures.goes.stands c.self.inside.turn.base c.hold.new.seat.seen c.hold.new.seat.number c.in-Ok.ensures.ok.1

use Rattle.std.proofs.Common.{Ok, Err, sym, subst}
use Rattle.flat_image.specs.declared.act.Act.TheVariants.{Seal}
use Rattle.flat_image.specs.declared.act.Asked.TheVariants.{Nothing}
use Rattle.flat_image.specs.History.{now}
use Rattle.shared_image.specs.declared.faults.SharedCopyFault.TheVariants as copy
use Rattle.shared_image.proofs.Turning.{worn_turn}
use Rattle.shared_image.proofs.Committing.{refused_turn, copied_turn, other_turn}
use Rattle.shared_image.proofs.CommitViews.{IsPending, copied-here, copy-pending, copy-other}
use Rattle.shared_image.proofs.CommitCharges.{copy-charges}
use Rattle.shared_image.proofs.shared.SharedImage.copy.Goals as goal

pub returns-in-Err-clause-copy : goal.returns-in-Err-clause-copy
returns-in-Err-clause-copy g c tells shelf =
    rw (← c.self.view_is) (worn_turn tells c.self.inside.turn shelf c.args.seat.now c.hold.new.seat c.in-Err.ensures.later c.in-Err.ensures.worn.0 c.in-Err.ensures.worn.1)

pub give-requires-in-Err-NotPending-clause-stands : goal.give-requires-in-Err-NotPending-clause-stands
give-requires-in-Err-NotPending-clause-stands g c =
    rw c.in-Err-NotPending.field-0-is at (c.in-Err-NotPending.ensures.goes.stands c.self.inside.turn.base c.hold.new.seat.seen c.hold.new.seat.number c.in-Ok.ensures.ok.1)

pub note-requires-clause-stands : goal.note-requires-clause-stands
note-requires-clause-stands g c =
    rw c.in-Err-Failed.field-0-is at (c.in-Err-Failed.ensures.goes.stands c.self.inside.turn.base c.hold.new.seat.seen c.hold.new.seat.number c.in-Ok.ensures.ok.1)

pub returns-in-Ok-copy-clause-copy : goal.returns-in-Ok-copy-clause-copy
returns-in-Ok-copy-clause-copy g c tells shelf =
    let s = c.standing_law.ensures c.self.inside.turn.base c.hold.new.seat.seen c.in-Ok.ensures.ok.1 in
    rw (← c.self.view_is) (copied_turn tells c.self.inside.turn shelf c.args.seat.now c.hold.new.seat c.in-Ok.ensures.later c.give.new.seat c.args.uuid c.give.ensures c.in-Ok.ensures.ok.2
    (copied-here (now c.self.inside.turn.base c.hold.new.seat.seen) _ c.args.uuid c.in-Ok-copy.state s.view c.in-Ok-copy.ensures.refused))

pub returns-in-Err-NotPending-clause-copy : goal.returns-in-Err-NotPending-clause-copy
returns-in-Err-NotPending-clause-copy g c tells shelf =
    let s = c.standing_law.ensures c.self.inside.turn.base c.hold.new.seat.seen c.in-Ok.ensures.ok.1 in
    let so = copy-other (now c.self.inside.turn.base c.hold.new.seat.seen) _ c.args.uuid c.in-Err-NotPending.other _ s.view c.in-Err-NotPending.ensures.refused c.in-Err-NotPending.field-0-is in
    rw (← c.self.view_is) (other_turn tells c.self.inside.turn shelf c.args.seat.now c.hold.new.seat c.in-Ok.ensures.later c.give-in-Err-NotPending.new.seat c.args.uuid c.in-Err-NotPending.other
    c.give-in-Err-NotPending.ensures c.in-Ok.ensures.ok.2 so.0 so.1 c.in-Ok.ensures.ok.1.proper).0

pub returns-in-Err-Failed-clause-copy : goal.returns-in-Err-Failed-clause-copy
returns-in-Err-Failed-clause-copy g c tells shelf =
    let s = c.standing_law.ensures c.self.inside.turn.base c.hold.new.seat.seen c.in-Ok.ensures.ok.1 in
    rw (← c.self.view_is) (refused_turn tells c.self.inside.turn shelf c.args.seat.now c.hold.new.seat c.in-Ok.ensures.later c.note.new.seat Nothing (Seal c.args.uuid)
    c.note.ensures c.in-Ok.ensures.ok.2
    (copy-pending (now c.self.inside.turn.base c.hold.new.seat.seen) _ c.args.uuid _ s.view c.in-Err-Failed.ensures.refused (subst IsPending (sym c.in-Err-Failed.field-0-is) tt)))

pub returns-in-Err-clause-cause : goal.returns-in-Err-clause-cause
returns-in-Err-clause-cause g c tells shelf =
    copy-charges tells c.args.self.now shelf c.args.seat.now c.hold.new.seat (Err copy.Worn) c.args.uuid (returns-in-Err-clause-copy g c tells shelf)

pub returns-in-Ok-copy-clause-cause : goal.returns-in-Ok-copy-clause-cause
returns-in-Ok-copy-clause-cause g c tells shelf =
    copy-charges tells c.args.self.now shelf c.args.seat.now c.give.new.seat (Ok c.in-Ok-copy.state) c.args.uuid (returns-in-Ok-copy-clause-copy g c tells shelf)

pub returns-in-Err-NotPending-clause-cause : goal.returns-in-Err-NotPending-clause-cause
returns-in-Err-NotPending-clause-cause g c tells shelf =
    copy-charges tells c.args.self.now shelf c.args.seat.now c.give-in-Err-NotPending.new.seat (Err (copy.NotPending c.in-Err-NotPending.other)) c.args.uuid (returns-in-Err-NotPending-clause-copy g c tells shelf)

pub returns-in-Err-Failed-clause-cause : goal.returns-in-Err-Failed-clause-cause
returns-in-Err-Failed-clause-cause g c tells shelf =
    copy-charges tells c.args.self.now shelf c.args.seat.now c.note.new.seat (Err copy.Failed) c.args.uuid (returns-in-Err-Failed-clause-copy g c tells shelf)

pub give-requires-clause-stands : goal.give-requires-clause-stands
give-requires-clause-stands g c = c.in-Ok-copy.ensures.goes.stands c.self.inside.turn.base c.hold.new.seat.seen c.hold.new.seat.number c.in-Ok.ensures.ok.1

use Rattle.std.proofs.Common.{◌∙◌, sym, subst}
use Rattle.flat_image.specs.declared.act.Act.TheVariants.{Seal}
use Rattle.flat_image.specs.declared.act.Asked.TheVariants.{Uuid}
use Rattle.flat_image.specs.History.{now, committed}
use Rattle.shared_image.proofs.Turning.{worn_turn}
use Rattle.shared_image.proofs.Committing.{refused_turn, other_turn, whole_turn, sealed_turn}
use Rattle.shared_image.proofs.CommitViews.{IsPendingSeal, sealed-here, seal-pending, seal-other, seal-left, layers-many}
use Rattle.shared_image.proofs.shared.SharedImage.seal_as.Goals as goal

pub returns-in-Err-clause-seal : goal.returns-in-Err-clause-seal
returns-in-Err-clause-seal g c tells shelf =
    rw (← c.self.view_is) (worn_turn tells c.self.inside.turn shelf c.args.seat.now c.hold.new.seat c.in-Err.ensures.later c.in-Err.ensures.worn.0 c.in-Err.ensures.worn.1)

pub note-requires-clause-stands : goal.note-requires-clause-stands
note-requires-clause-stands g c =
    rw c.requires.act (c.in-Ok-seal.ensures.goes.stands c.self.inside.turn.base c.hold.new.seat.seen c.hold.new.seat.number c.in-Ok.ensures.ok.1)

pub give-requires-clause-stands : goal.give-requires-clause-stands
give-requires-clause-stands g c =
    rw c.in-Err-NotPending.field-0-is at (c.in-Err-NotPending.ensures.goes.stands c.self.inside.turn.base c.hold.new.seat.seen c.hold.new.seat.number c.in-Ok.ensures.ok.1)

pub give-requires-in-Err-NotWhole-clause-stands : goal.give-requires-in-Err-NotWhole-clause-stands
give-requires-in-Err-NotWhole-clause-stands g c =
    rw c.in-Err-NotWhole.field-0-is at (c.in-Err-NotWhole.ensures.goes.stands c.self.inside.turn.base c.hold.new.seat.seen c.hold.new.seat.number c.in-Ok.ensures.ok.1)

pub note-requires-in-Err-Failed-clause-stands : goal.note-requires-in-Err-Failed-clause-stands
note-requires-in-Err-Failed-clause-stands g c =
    rw c.requires.fault (rw c.in-Err-Failed.field-0-is at (c.in-Err-Failed.ensures.goes.stands c.self.inside.turn.base c.hold.new.seat.seen c.hold.new.seat.number c.in-Ok.ensures.ok.1))

pub returns-in-Ok-seal-clause-seal : goal.returns-in-Ok-seal-clause-seal
returns-in-Ok-seal-clause-seal g c tells shelf =
    let s = c.standing_law.ensures c.self.inside.turn.base c.hold.new.seat.seen c.in-Ok.ensures.ok.1 in
    rw (← c.self.view_is) (sealed_turn tells c.self.inside.turn shelf c.args.seat.now c.hold.new.seat c.in-Ok.ensures.later c.note.new.seat c.args.uuid c.in-Ok-seal.epoch
    (rw c.requires.act at c.note.ensures) c.in-Ok.ensures.ok.2
    (sealed-here (now c.self.inside.turn.base c.hold.new.seat.seen) _ c.args.uuid _ _ c.in-Ok-seal.epoch s.view c.in-Ok-seal.ensures.refused)
    (c.in-Ok-seal.ensures.epoch ∙ layers-many (committed c.self.inside.turn.base c.hold.new.seat.seen) _ s.view.committed))

pub returns-in-Err-NotPending-clause-seal : goal.returns-in-Err-NotPending-clause-seal
returns-in-Err-NotPending-clause-seal g c tells shelf =
    let s = c.standing_law.ensures c.self.inside.turn.base c.hold.new.seat.seen c.in-Ok.ensures.ok.1 in
    let so = seal-other (now c.self.inside.turn.base c.hold.new.seat.seen) _ c.args.uuid _ _ c.in-Err-NotPending.other _ s.view c.in-Err-NotPending.ensures.refused c.in-Err-NotPending.field-0-is in
    rw (← c.self.view_is) (other_turn tells c.self.inside.turn shelf c.args.seat.now c.hold.new.seat c.in-Ok.ensures.later c.give.new.seat c.args.uuid c.in-Err-NotPending.other
    c.give.ensures c.in-Ok.ensures.ok.2 so.0 so.1 c.in-Ok.ensures.ok.1.proper).1

pub returns-in-Err-NotWhole-clause-seal : goal.returns-in-Err-NotWhole-clause-seal
returns-in-Err-NotWhole-clause-seal g c tells shelf =
    let s = c.standing_law.ensures c.self.inside.turn.base c.hold.new.seat.seen c.in-Ok.ensures.ok.1 in
    rw (← c.self.view_is) (whole_turn tells c.self.inside.turn shelf c.args.seat.now c.hold.new.seat c.in-Ok.ensures.later c.give-in-Err-NotWhole.new.seat c.args.uuid
    c.in-Err-NotWhole.done c.in-Err-NotWhole.total c.give-in-Err-NotWhole.ensures c.in-Ok.ensures.ok.2
    (seal-pending (now c.self.inside.turn.base c.hold.new.seat.seen) _ c.args.uuid _ _ _ s.view c.in-Err-NotWhole.ensures.refused (subst IsPendingSeal (sym c.in-Err-NotWhole.field-0-is) tt))
    (seal-left _ c.args.uuid _ _ c.in-Err-NotWhole.done c.in-Err-NotWhole.total _ c.in-Err-NotWhole.ensures.refused c.in-Err-NotWhole.field-0-is))

pub returns-in-Err-Failed-clause-seal : goal.returns-in-Err-Failed-clause-seal
returns-in-Err-Failed-clause-seal g c tells shelf =
    let s = c.standing_law.ensures c.self.inside.turn.base c.hold.new.seat.seen c.in-Ok.ensures.ok.1 in
    rw (← c.self.view_is) (refused_turn tells c.self.inside.turn shelf c.args.seat.now c.hold.new.seat c.in-Ok.ensures.later c.note-in-Err-Failed.new.seat (Uuid c.args.uuid) (Seal c.args.uuid)
    (rw c.requires.fault at c.note-in-Err-Failed.ensures) c.in-Ok.ensures.ok.2
    (seal-pending (now c.self.inside.turn.base c.hold.new.seat.seen) _ c.args.uuid _ _ _ s.view c.in-Err-Failed.ensures.refused (subst IsPendingSeal (sym c.in-Err-Failed.field-0-is) tt)))

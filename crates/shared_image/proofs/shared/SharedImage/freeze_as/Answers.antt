use Rattle.std.proofs.Common.{refl, rules, sym, subst}
use Rattle.flat_image.specs.declared.act.Act.TheVariants.{Freeze}
use Rattle.flat_image.specs.declared.act.Asked.TheVariants.{Uuid}
use Rattle.flat_image.specs.History.{now}
use Rattle.flat_image.proofs.HistoryLaws.{proper-last}
use Rattle.shared_image.proofs.Turning.{worn_turn}
use Rattle.shared_image.proofs.Committing.{allowed_turn, refused_turn, busy_turn, many_turn, twice_turn, forgetful_turn}
use Rattle.shared_image.proofs.CommitViews.{HasNoCause, may-freeze, busy-here, many-here, twice-here}
use Rattle.shared_image.proofs.Kept.{kept-after}
use Rattle.shared_image.proofs.shared.SharedImage.freeze_as.Goals as goal

pub returns-in-Err-clause-freeze : goal.returns-in-Err-clause-freeze
returns-in-Err-clause-freeze g c tells shelf =
    rw (← c.self.view_is) (worn_turn tells c.self.inside.turn shelf c.args.seat.now c.hold.new.seat c.in-Err.ensures.later c.in-Err.ensures.worn.0 c.in-Err.ensures.worn.1)

pub note-requires-clause-stands : goal.note-requires-clause-stands
note-requires-clause-stands g c =
    rw c.requires.act (c.in-Ok-freeze.ensures.goes.stands c.self.inside.turn.base c.hold.new.seat.seen c.hold.new.seat.number c.in-Ok.ensures.ok.1)

pub give-requires-clause-stands : goal.give-requires-clause-stands
give-requires-clause-stands g c =
    rw c.in-Err-Busy.field-0-is at (c.in-Err-Busy.ensures.goes.stands c.self.inside.turn.base c.hold.new.seat.seen c.hold.new.seat.number c.in-Ok.ensures.ok.1)

pub give-requires-in-Err-TooMany-clause-stands : goal.give-requires-in-Err-TooMany-clause-stands
give-requires-in-Err-TooMany-clause-stands g c =
    rw c.in-Err-TooMany.field-0-is at (c.in-Err-TooMany.ensures.goes.stands c.self.inside.turn.base c.hold.new.seat.seen c.hold.new.seat.number c.in-Ok.ensures.ok.1)

pub give-requires-in-Err-UuidTwice-clause-stands : goal.give-requires-in-Err-UuidTwice-clause-stands
give-requires-in-Err-UuidTwice-clause-stands g c =
    rw c.in-Err-UuidTwice.field-0-is at (c.in-Err-UuidTwice.ensures.goes.stands c.self.inside.turn.base c.hold.new.seat.seen c.hold.new.seat.number c.in-Ok.ensures.ok.1)

pub give-requires-in-Err-Memory-clause-stands : goal.give-requires-in-Err-Memory-clause-stands
give-requires-in-Err-Memory-clause-stands g c =
    rw c.in-Err-Memory.field-0-is at (c.in-Err-Memory.ensures.goes.stands c.self.inside.turn.base c.hold.new.seat.seen c.hold.new.seat.number c.in-Ok.ensures.ok.1)

pub note-requires-in-Err-Failed-clause-stands : goal.note-requires-in-Err-Failed-clause-stands
note-requires-in-Err-Failed-clause-stands g c =
    rw c.requires.fault (rw c.in-Err-Failed.field-0-is at (c.in-Err-Failed.ensures.goes.stands c.self.inside.turn.base c.hold.new.seat.seen c.hold.new.seat.number c.in-Ok.ensures.ok.1))

pub returns-in-Ok-freeze-clause-freeze : goal.returns-in-Ok-freeze-clause-freeze
returns-in-Ok-freeze-clause-freeze g c tells shelf =
    let base = c.self.inside.turn.base in
    let seen = c.hold.new.seat.seen in
    let s = c.in-Ok-freeze.ensures.goes.stands base seen c.hold.new.seat.number c.in-Ok.ensures.ok.1 in
    rw (← c.self.view_is) (allowed_turn tells c.self.inside.turn shelf c.args.seat.now c.hold.new.seat c.in-Ok.ensures.later c.note.new.seat (Freeze c.args.uuid) (Freeze c.args.uuid)
    (rw c.requires.act at c.note.ensures) c.in-Ok.ensures.ok.2 (proper-last base seen c.hold.new.seat.number (Freeze c.args.uuid) s.proper))

pub returns-in-Ok-freeze-clause-kept : goal.returns-in-Ok-freeze-clause-kept
returns-in-Ok-freeze-clause-kept g c =
    kept-after c.hold.new.seat c.note.new.seat (Freeze c.args.uuid) refl (rw c.requires.act at c.note.ensures)

pub returns-in-Err-Busy-clause-freeze : goal.returns-in-Err-Busy-clause-freeze
returns-in-Err-Busy-clause-freeze g c tells shelf =
    let s = c.standing_law.ensures c.self.inside.turn.base c.hold.new.seat.seen c.in-Ok.ensures.ok.1 in
    rw (← c.self.view_is) (busy_turn tells c.self.inside.turn shelf c.args.seat.now c.hold.new.seat c.in-Ok.ensures.later c.give.new.seat c.args.uuid c.in-Err-Busy.other
    c.give.ensures c.in-Ok.ensures.ok.2
    (busy-here (now c.self.inside.turn.base c.hold.new.seat.seen) _ c.args.uuid c.in-Err-Busy.other _ s.view c.in-Err-Busy.ensures.refused c.in-Err-Busy.field-0-is))

pub returns-in-Err-TooMany-clause-freeze : goal.returns-in-Err-TooMany-clause-freeze
returns-in-Err-TooMany-clause-freeze g c tells shelf =
    let s = c.standing_law.ensures c.self.inside.turn.base c.hold.new.seat.seen c.in-Ok.ensures.ok.1 in
    let stood = c.in-Ok.ensures.ok.1 in
    let many = many-here (now c.self.inside.turn.base c.hold.new.seat.seen) _ c.args.uuid _ s.view c.in-Err-TooMany.ensures.refused c.in-Err-TooMany.field-0-is stood.fits.sound.few in
    rw (← c.self.view_is) (many_turn tells c.self.inside.turn shelf c.args.seat.now c.hold.new.seat c.in-Ok.ensures.later c.give-in-Err-TooMany.new.seat c.args.uuid
    c.give-in-Err-TooMany.ensures c.in-Ok.ensures.ok.2 many.0 many.1)

pub returns-in-Err-UuidTwice-clause-freeze : goal.returns-in-Err-UuidTwice-clause-freeze
returns-in-Err-UuidTwice-clause-freeze g c tells shelf =
    let s = c.standing_law.ensures c.self.inside.turn.base c.hold.new.seat.seen c.in-Ok.ensures.ok.1 in
    let twice = twice-here (now c.self.inside.turn.base c.hold.new.seat.seen) _ c.args.uuid _ s.view c.in-Err-UuidTwice.ensures.refused c.in-Err-UuidTwice.field-0-is in
    rw (← c.self.view_is) (twice_turn tells c.self.inside.turn shelf c.args.seat.now c.hold.new.seat c.in-Ok.ensures.later c.give-in-Err-UuidTwice.new.seat c.args.uuid
    c.give-in-Err-UuidTwice.ensures c.in-Ok.ensures.ok.2 twice.0 twice.1 twice.2)

pub returns-in-Err-Memory-clause-freeze : goal.returns-in-Err-Memory-clause-freeze
returns-in-Err-Memory-clause-freeze g c tells shelf =
    let s = c.standing_law.ensures c.self.inside.turn.base c.hold.new.seat.seen c.in-Ok.ensures.ok.1 in
    rw (← c.self.view_is) (forgetful_turn tells c.self.inside.turn shelf c.args.seat.now c.hold.new.seat c.in-Ok.ensures.later c.give-in-Err-Memory.new.seat c.args.uuid
    c.give-in-Err-Memory.ensures c.in-Ok.ensures.ok.2
    (may-freeze (now c.self.inside.turn.base c.hold.new.seat.seen) _ c.args.uuid _ s.view c.in-Err-Memory.ensures.refused (search rules) c.requires.uuid
    (subst HasNoCause (sym c.in-Err-Memory.field-0-is) tt)))

pub returns-in-Err-Failed-clause-freeze : goal.returns-in-Err-Failed-clause-freeze
returns-in-Err-Failed-clause-freeze g c tells shelf =
    let s = c.standing_law.ensures c.self.inside.turn.base c.hold.new.seat.seen c.in-Ok.ensures.ok.1 in
    rw (← c.self.view_is) (refused_turn tells c.self.inside.turn shelf c.args.seat.now c.hold.new.seat c.in-Ok.ensures.later c.note-in-Err-Failed.new.seat (Uuid c.args.uuid) (Freeze c.args.uuid)
    (rw c.requires.fault at c.note-in-Err-Failed.ensures) c.in-Ok.ensures.ok.2
    (may-freeze (now c.self.inside.turn.base c.hold.new.seat.seen) _ c.args.uuid _ s.view c.in-Err-Failed.ensures.refused (search rules) c.requires.uuid
    (subst HasNoCause (sym c.in-Err-Failed.field-0-is) tt)))

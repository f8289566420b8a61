use Rattle.std.specs.Arc.{arc_value}
use Rattle.shared_image.proofs.Holding.{within_size}
use Rattle.shared_image.proofs.Turning.{worn_turn, planless_turn, fault_turn, planned_turn}
use Rattle.shared_image.proofs.shared.SharedImage.plan_as.Goals as goal

pub returns-in-Err-clause-plan : goal.returns-in-Err-clause-plan
returns-in-Err-clause-plan g c tells shelf =
    rw (← c.self.view_is) (worn_turn tells c.self.inside.turn shelf c.args.seat.now c.hold.new.seat c.in-Err.ensures.later c.in-Err.ensures.worn.0 c.in-Err.ensures.worn.1)

pub plan-requires-clause-within : goal.plan-requires-clause-within
plan-requires-clause-within g c =
    let s = c.standing_law.ensures c.self.inside.turn.base c.hold.new.seat.seen c.in-Ok.ensures.ok.1 in
    within_size c.self.inside.turn.base c.hold.new.seat.seen _ _ s.proper s.view.sectors (rw (← c.self.view_is) at c.requires.within)

pub note-requires-clause-stands : goal.note-requires-clause-stands
note-requires-clause-stands g c =
    rw c.requires.act (c.in-Ok-plan.ensures.goes.stands c.self.inside.turn.base c.hold.new.seat.seen c.hold.new.seat.number c.in-Ok.ensures.ok.1)

pub give-requires-clause-stands : goal.give-requires-clause-stands
give-requires-clause-stands g c =
    rw c.in-Err-Memory.field-0-is at (c.in-Err-Memory.ensures.goes.stands c.self.inside.turn.base c.hold.new.seat.seen c.hold.new.seat.number c.in-Ok.ensures.ok.1)

pub note-requires-in-Err-Failed-clause-stands : goal.note-requires-in-Err-Failed-clause-stands
note-requires-in-Err-Failed-clause-stands g c =
    rw c.in-Err-Failed.field-0-is at (c.in-Err-Failed.ensures.goes.stands c.self.inside.turn.base c.hold.new.seat.seen c.hold.new.seat.number c.in-Ok.ensures.ok.1)

pub returns-in-Ok-plan-clause-plan : goal.returns-in-Ok-plan-clause-plan
returns-in-Ok-plan-clause-plan g c tells shelf =
    let base = c.self.inside.turn.base in
    let seen = c.hold.new.seat.seen in
    let stood = c.in-Ok.ensures.ok.1 in
    let s = c.standing_law.ensures base seen stood in
    rw (← c.self.view_is) (planned_turn tells c.self.inside.turn shelf c.args.seat.now c.hold.new.seat c.in-Ok.ensures.later c.note.new.seat g.D.Disk.tells _ c.args.extent c.args.out.now c.plan.new.out c.plan.new.gaps
    (arc_value c.in-Ok-plan.snapshot) (rw c.requires.act at c.note.ensures) c.in-Ok.ensures.ok.2 s.view.sectors
    (within_size base seen _ _ s.proper s.view.sectors (rw (← c.self.view_is) at c.requires.within))
    (λ told. c.in-Ok-plan.ensures.image told base seen stood) (c.in-Ok-plan.ensures.gaps base seen stood)
    (c.below_law.ensures base seen (arc_value c.in-Ok-plan.snapshot) stood c.in-Ok-plan.ensures.snapshot))

pub returns-in-Err-Memory-clause-plan : goal.returns-in-Err-Memory-clause-plan
returns-in-Err-Memory-clause-plan g c tells shelf =
    rw (← c.self.view_is) (planless_turn tells c.self.inside.turn shelf c.args.seat.now c.hold.new.seat c.in-Ok.ensures.later c.give.new.seat c.give.ensures c.in-Ok.ensures.ok.2)

pub returns-in-Err-Failed-clause-plan : goal.returns-in-Err-Failed-clause-plan
returns-in-Err-Failed-clause-plan g c tells shelf =
    rw (← c.self.view_is) (fault_turn tells c.self.inside.turn shelf c.args.seat.now c.hold.new.seat c.in-Ok.ensures.later c.note-in-Err-Failed.new.seat c.note-in-Err-Failed.ensures c.in-Ok.ensures.ok.2)

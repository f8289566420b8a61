use Rattle.std.proofs.Common.{◌∙◌, ap}
use Rattle.std.specs.Prelude.{Err}
use Rattle.top_writer.specs.declared.fault.WriteFault.TheVariants.{Full}
use Rattle.shared_image.proofs.Turning.{worn_turn, noted_last, full_turn, memory_turn, failed_turn}
use Rattle.shared_image.proofs.Holding.{within_size, write_over, write_fits}
use Rattle.shared_image.proofs.shared.SharedImage.write_as.Goals as goal

pub returns-in-Err-clause-write : goal.returns-in-Err-clause-write
returns-in-Err-clause-write g c tells shelf =
    rw (← c.self.view_is) (worn_turn tells c.self.inside.turn shelf c.args.seat.now c.hold.new.seat c.in-Err.ensures.later c.in-Err.ensures.worn.0 c.in-Err.ensures.worn.1)

pub write-requires-clause-within : goal.write-requires-clause-within
write-requires-clause-within g c =
    let s = c.standing_law.ensures c.self.inside.turn.base c.hold.new.seat.seen c.in-Ok.ensures.ok.1 in
    within_size c.self.inside.turn.base c.hold.new.seat.seen _ _ s.proper s.view.sectors (rw (← c.self.view_is) at c.requires.within)

pub give-requires-clause-stands : goal.give-requires-clause-stands
give-requires-clause-stands g c =
    rw c.in-Err-Full.field-0-is at (c.in-Err-Full.ensures.goes.stands c.self.inside.turn.base c.hold.new.seat.seen c.hold.new.seat.number c.in-Ok.ensures.ok.1)

pub returns-in-Ok-write-clause-write : goal.returns-in-Ok-write-clause-write
returns-in-Ok-write-clause-write g c tells shelf =
    let s = c.standing_law.ensures c.self.inside.turn.base c.hold.new.seat.seen c.in-Ok.ensures.ok.1 in
    rw (← c.self.view_is) (noted_last tells c.self.inside.turn shelf c.args.seat.now c.hold.new.seat c.in-Ok.ensures.later c.note.new.seat g.N.Named.it g.N.Named.it c.note.ensures c.in-Ok.ensures.ok.2
    (rw c.requires.act (write_fits c.self.inside.turn.base c.hold.new.seat.seen _ _ c.args.extent.at c.args.extent.count c.args.bytes.now c.requires.size s.view.rows s.view.filled (λ over. absurd (let never = c.in-Ok-write.ensures.full.0 over in cc)))))

pub returns-in-Err-Full-clause-write : goal.returns-in-Err-Full-clause-write
returns-in-Err-Full-clause-write g c tells shelf =
    let s = c.standing_law.ensures c.self.inside.turn.base c.hold.new.seat.seen c.in-Ok.ensures.ok.1 in
    let same = c.in-Err-Full.ensures.only c.in-Err-Full.rows c.in-Err-Full.sectors (ap (λ e. Err e) c.in-Err-Full.field-0-is) in
    rw (← c.self.view_is) (full_turn tells c.self.inside.turn shelf c.args.seat.now c.hold.new.seat c.in-Ok.ensures.later c.give.new.seat g.N.Named.it c.in-Err-Full.rows c.in-Err-Full.sectors c.give.ensures c.in-Ok.ensures.ok.2
    (rw c.requires.act (write_over c.self.inside.turn.base c.hold.new.seat.seen _ _ c.args.extent.at c.args.extent.count c.args.bytes.now c.requires.size s.view.rows s.view.filled
    (c.in-Err-Full.ensures.full.1 (ap (λ e. Err e) c.in-Err-Full.field-0-is ∙ (λ i. Err (Full (same.0 i) (same.1 i))))))) (same.0 ∙ s.view.rows) (same.1 ∙ s.view.filled))

pub returns-in-Err-Memory-clause-write : goal.returns-in-Err-Memory-clause-write
returns-in-Err-Memory-clause-write g c tells shelf =
    let s = c.standing_law.ensures c.self.inside.turn.base c.hold.new.seat.seen c.in-Ok.ensures.ok.1 in
    rw (← c.self.view_is) (memory_turn tells c.self.inside.turn shelf c.args.seat.now c.hold.new.seat c.in-Ok.ensures.later c.give-in-Err-Memory.new.seat g.N.Named.it c.give-in-Err-Memory.ensures c.in-Ok.ensures.ok.2
    (rw c.requires.act (write_fits c.self.inside.turn.base c.hold.new.seat.seen _ _ c.args.extent.at c.args.extent.count c.args.bytes.now c.requires.size s.view.rows s.view.filled (λ over. absurd (let never = c.in-Err-Memory.ensures.full.0 over in cc)))))

pub give-requires-in-Err-Memory-clause-stands : goal.give-requires-in-Err-Memory-clause-stands
give-requires-in-Err-Memory-clause-stands g c =
    rw c.in-Err-Memory.field-0-is at (c.in-Err-Memory.ensures.goes.stands c.self.inside.turn.base c.hold.new.seat.seen c.hold.new.seat.number c.in-Ok.ensures.ok.1)

pub note-requires-in-Err-Failed-clause-stands : goal.note-requires-in-Err-Failed-clause-stands
note-requires-in-Err-Failed-clause-stands g c =
    rw c.in-Err-Failed.field-0-is at (c.in-Err-Failed.ensures.goes.stands c.self.inside.turn.base c.hold.new.seat.seen c.hold.new.seat.number c.in-Ok.ensures.ok.1)

pub returns-in-Err-Failed-clause-write : goal.returns-in-Err-Failed-clause-write
returns-in-Err-Failed-clause-write g c tells shelf =
    let s = c.standing_law.ensures c.self.inside.turn.base c.hold.new.seat.seen c.in-Ok.ensures.ok.1 in
    rw (← c.self.view_is) (failed_turn tells c.self.inside.turn shelf c.args.seat.now c.hold.new.seat c.in-Ok.ensures.later c.note-in-Err-Failed.new.seat g.N.Named.it c.note-in-Err-Failed.ensures c.in-Ok.ensures.ok.2
    (rw c.requires.act (write_fits c.self.inside.turn.base c.hold.new.seat.seen _ _ c.args.extent.at c.args.extent.count c.args.bytes.now c.requires.size s.view.rows s.view.filled (λ over. absurd (let never = c.in-Err-Failed.ensures.full.0 over in cc)))))

pub note-requires-clause-stands : goal.note-requires-clause-stands
note-requires-clause-stands g c = rw c.requires.act (c.in-Ok-write.ensures.goes.stands c.self.inside.turn.base c.hold.new.seat.seen c.hold.new.seat.number c.in-Ok.ensures.ok.1)

use Rattle.std.proofs.Common.{Ok, Err, ◌≡◌, ℕ, List, ◌*◌, ◌<◌, length, take, drop, ap, sym, ◌∙◌, subst, arith}
use Rattle.flat_image.specs.History.{now, committed}
use Rattle.flat_image.specs.declared.port_fault.PortFault.TheVariants as port
use Rattle.shared_image.proofs.Turning.{worn_turn, fault_turn}
use Rattle.shared_image.proofs.Committing.{none_turn}
use Rattle.shared_image.proofs.CommitCharges.{peek-charges}
use Rattle.shared_image.proofs.CommitViews.{layers-many}
use Rattle.shared_image.proofs.Staying.{below-later, file-later}
use Rattle.shared_image.proofs.shared.SharedImage.peek.Goals as goal

pub returns-in-Err-clause-peek : goal.returns-in-Err-clause-peek
returns-in-Err-clause-peek g c tells shelf =
    rw (← c.self.view_is) (worn_turn tells c.self.inside.turn shelf c.args.seat.now c.hold.new.seat c.in-Err.ensures.later c.in-Err.ensures.worn.0 c.in-Err.ensures.worn.1)

pub peek-requires-clause-epoch : goal.peek-requires-clause-epoch
peek-requires-clause-epoch g c =
    let s = c.standing_law.ensures c.self.inside.turn.base c.hold.new.seat.seen c.in-Ok.ensures.ok.1 in
    let many = layers-many (committed c.self.inside.turn.base c.hold.new.seat.seen) _ s.view.committed in
    subst (λ (n : ℕ). c.args.epoch < n) (sym many)
    (below-later c.self.inside.turn.base c.args.seat.now.seen c.hold.new.seat.seen c.args.epoch c.in-Ok.ensures.later.seen (rw (← c.self.view_is) at c.requires.committed))

pub returns-in-Ok-peek-clause-peek : goal.returns-in-Ok-peek-clause-peek
returns-in-Ok-peek-clause-peek g c tells shelf =
    rw (← c.self.view_is) (none_turn tells c.self.inside.turn shelf c.args.seat.now c.hold.new.seat c.in-Ok.ensures.later c.give.new.seat c.give.ensures c.in-Ok.ensures.ok.2)

pub returns-in-Ok-peek-clause-bytes : goal.returns-in-Ok-peek-clause-bytes
returns-in-Ok-peek-clause-bytes g c told =
    let base = c.self.inside.turn.base in
    let old = c.args.seat.now.seen in
    let seen = c.hold.new.seat.seen in
    rw (← c.self.view_is) (c.in-Ok-peek.ensures.bytes told base seen c.in-Ok.ensures.ok.1
    ∙ ap (λ (file : List ℕ). take (length c.args.out.now) (drop (512 * c.args.place) file))
    (file-later base old seen c.args.epoch c.in-Ok.ensures.later.seen (rw (← c.self.view_is) at c.requires.committed)))

pub returns-in-Err-peek-clause-peek : goal.returns-in-Err-peek-clause-peek
returns-in-Err-peek-clause-peek g c tells shelf =
    rw (← c.self.view_is) (fault_turn tells c.self.inside.turn shelf c.args.seat.now c.hold.new.seat c.in-Ok.ensures.later c.note.new.seat c.note.ensures c.in-Ok.ensures.ok.2)

pub returns-in-Err-clause-cause : goal.returns-in-Err-clause-cause
returns-in-Err-clause-cause g c tells shelf =
    peek-charges tells c.args.self.now shelf c.args.seat.now c.hold.new.seat (Err port.Worn) (returns-in-Err-clause-peek g c tells shelf)

pub returns-in-Ok-peek-clause-cause : goal.returns-in-Ok-peek-clause-cause
returns-in-Ok-peek-clause-cause g c tells shelf =
    peek-charges tells c.args.self.now shelf c.args.seat.now c.give.new.seat (Ok tt) (returns-in-Ok-peek-clause-peek g c tells shelf)

pub returns-in-Err-peek-clause-cause : goal.returns-in-Err-peek-clause-cause
returns-in-Err-peek-clause-cause g c tells shelf =
    peek-charges tells c.args.self.now shelf c.args.seat.now c.note.new.seat (Err port.Failed) (returns-in-Err-peek-clause-peek g c tells shelf)

pub note-requires-clause-stands : goal.note-requires-clause-stands
note-requires-clause-stands g c = c.in-Err-peek.ensures.goes.stands c.self.inside.turn.base c.hold.new.seat.seen c.hold.new.seat.number c.in-Ok.ensures.ok.1

pub give-requires-clause-stands : goal.give-requires-clause-stands
give-requires-clause-stands g c = c.in-Ok-peek.ensures.goes.stands c.self.inside.turn.base c.hold.new.seat.seen c.hold.new.seat.number c.in-Ok.ensures.ok.1

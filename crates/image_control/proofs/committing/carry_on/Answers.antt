use Rattle.std.proofs.Common.{false, refl, ◌∙◌}
use Rattle.flat_image.proofs.PortLaws.{Notes-none}
use Rattle.shared_image.specs.Turns.{seat_port}
use Rattle.image_control.proofs.Ending.{on-on, on-ends}
use Rattle.image_control.proofs.committing.carry_on.Goals as goal

pub loop-init : goal.loop-init
loop-init g c = record {
  next = tt;
  finite = tt;
  seat = c.requires.seat;
  same = record { lock = refl; number = refl; idle = c.requires.seat.idle };
  on = λ tells shelf. (c.requires.pending, Notes-none (seat_port tells c.args.image.now c.args.seat.now shelf));
}

pub step_on-requires-clause-pending : goal.step_on-requires-clause-pending
step_on-requires-clause-pending g c = (c.loop.invariant.on false 0).0

pub returns-in-Some-step_on-clause-ends : goal.returns-in-Some-step_on-clause-ends
returns-in-Some-step_on-clause-ends g c tells shelf =
    on-ends (seat_port tells c.args.image.now c.args.seat.now shelf) (seat_port tells c.args.image.now c.loop.seat shelf) (seat_port tells c.args.image.now c.step_on.new.seat shelf) c.args.uuid
    c.in-Some-step_on.answer (c.loop.invariant.on tells shelf) (c.in-Some-step_on.ensures.next tells shelf)

pub loop-preserved : goal.loop-preserved
loop-preserved g c =
    let s = c.in-None-step_on.ensures.same in
    let i = c.loop.invariant in
    record {
      next = tt;
      finite = tt;
      seat = record { lock_is = s.lock ∙ i.seat.lock_is; idle = s.idle };
      same = record { lock = s.lock ∙ i.same.lock; number = s.number ∙ i.same.number; idle = s.idle };
      on = λ tells shelf. on-on (seat_port tells c.args.image.now c.args.seat.now shelf) (seat_port tells c.args.image.now c.loop.seat shelf) (seat_port tells c.args.image.now c.step_on.new.seat shelf) c.args.uuid
          (i.on tells shelf) (c.in-None-step_on.ensures.next tells shelf);
    }

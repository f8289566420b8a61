use Rattle.std.proofs.Common.{rules, arith}
use Rattle.turn_lock.proofs.Gathering.{whole_rests, popped, popped_same, popped_idle, first_gathers, next_gathers}
use Rattle.turn_lock.proofs.turn.gather.Goals as goal

pub loop-seat-init : goal.loop-seat-init
loop-seat-init g c =
    let lock = c.args.desk.now.table.shared.table_id in
    let all = c.args.seats.items in
    let pass = c.into_pass-pass in
    let idle = popped_idle lock _ all all c.pop.new.self.items c.in-Some.last pass.result.table_id pass.result.me c.requires.seats (whole_rests all) c.in-Some.ensures.items pass.ensures.seat pass.ensures.same in
    record {
      lock = popped_same lock _ all all c.pop.new.self.items c.in-Some.last pass.result.table_id pass.result.me c.requires.seats (whole_rests all) c.in-Some.ensures.items pass.ensures.seat pass.ensures.same;
      idle = idle.0;
      rest = popped all all c.pop.new.self.items c.in-Some.last (whole_rests all) c.in-Some.ensures.items;
      gathered = first_gathers lock _ all c.pop.new.self.items c.in-Some.last pass.result.table_id pass.result.me c.requires.seats c.in-Some.ensures.items pass.ensures.seat pass.ensures.same;
    }

pub join-requires-clause-lock : goal.join-requires-clause-lock
join-requires-clause-lock g c = (
  c.loop-seat.invariant.lock,
  popped_same c.args.desk.now.table.shared.table_id _ c.args.seats.items c.loop-seat.seats.items c.pop-in-loop-seat.new.self.items c.in-Some-pop.seat c.into_pass.result.table_id c.into_pass.result.me
      c.requires.seats c.loop-seat.invariant.rest c.in-Some-pop.ensures.items c.into_pass.ensures.seat c.into_pass.ensures.same,
)

pub join-requires-clause-idle : goal.join-requires-clause-idle
join-requires-clause-idle g c =
    popped_idle c.args.desk.now.table.shared.table_id _ c.args.seats.items c.loop-seat.seats.items c.pop-in-loop-seat.new.self.items c.in-Some-pop.seat c.into_pass.result.table_id c.into_pass.result.me
    c.requires.seats c.loop-seat.invariant.rest c.in-Some-pop.ensures.items c.into_pass.ensures.seat c.into_pass.ensures.same

pub loop-seat-preserved : goal.loop-seat-preserved
loop-seat-preserved g c =
    let i = c.loop-seat.invariant in
    record {
      lock = search rules;
      idle = search rules;
      rest = popped c.args.seats.items c.loop-seat.seats.items c.pop-in-loop-seat.new.self.items c.in-Some-pop.seat i.rest c.in-Some-pop.ensures.items;
      gathered = next_gathers c.args.desk.now.table.shared.table_id _ c.args.seats.items c.loop-seat.seats.items c.pop-in-loop-seat.new.self.items c.in-Some-pop.seat c.into_pass.result.table_id c.loop-seat.pass.me c.into_pass.result.me c.join.new.pass.me
          c.requires.seats i.rest c.in-Some-pop.ensures.items c.into_pass.ensures.seat c.into_pass.ensures.same i.gathered c.join.ensures.joined;
    }

pub returns-clause-all : goal.returns-clause-all
returns-clause-all g c k s at = c.loop-seat.invariant.gathered.each k s (omega (arith, c.loop-seat.seats.ok, c.in_default-pop.ensures.cases)) at

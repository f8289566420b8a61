use Rattle.std.proofs.Common.{arith, rules}
use Rattle.turn_lock.proofs.Dealing.{new_more}
use Rattle.turn_lock.proofs.turn.deal.Goals as goal

pub loop-preserved : goal.loop-preserved
loop-preserved g c =
    let i = c.loop.invariant in
    let pass = c.next_seat-pass.result in
    let more = new_more c.args.maker.table_id pass.table_id c.loop.counter c.loop.list.items c.loop.maker.me.0 pass.me i.new (search rules) i.next c.next_seat-pass.ensures.seat in
    record {
      lock = search rules;
      next = omega (arith, c.next_seat-pass.ensures.next, i.next);
      new = rw (c.push_reserved.ensures.items, c.of.ensures) more;
      len = omega (arith, c.push_reserved.ensures.len, i.len);
      room = search rules;
    }

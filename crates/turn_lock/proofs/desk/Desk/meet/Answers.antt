use Rattle.std.proofs.Common.{arith}
use Rattle.turn_lock.proofs.Steps.{tell}
use Rattle.turn_lock.proofs.Takes.{looked_word, met}
use Rattle.turn_lock.proofs.desk.Desk.meet.Goals as goal

pub split_seat-note-requires : goal.split_seat-note-requires
split_seat-note-requires g c = let key = c.args.self.now.table.shared.key in
    (c.requires.lock.0, omega (arith, c.args.self.now.words), tell g.V.Stands.stands key.base.value key.first key.seats c.args.from.now.id c.args.from.now.me.0)

pub returns-clause-seen : goal.returns-clause-seen
returns-clause-seen g c =
    met c.args.from.now.me c.split_seat-note.result.me c.args.to.now.me c.join.new.pass.me c.look.new.pass.me c.args.self.now.table.shared.key.first c.look.result
    c.split_seat-note.ensures.4 c.join.ensures.joined c.look.ensures.looked

pub returns-clause-room : goal.returns-clause-room
returns-clause-room g c =
    let word = looked_word c.join.new.pass.me c.look.new.pass.me c.args.self.now.table.shared.key.first c.look.result c.look.ensures.looked in
    omega (arith, word.room)

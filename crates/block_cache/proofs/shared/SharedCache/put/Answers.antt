use Rattle.std.proofs.Common.{◌++◌, ◌∷◌, [], sym, subst}
use Rattle.flat_image.specs.Entries.{entry}
use Rattle.block_cache.specs.declared.history.CacheAct.TheVariants.{Put, Skip}
use Rattle.block_cache.specs.CacheHistory.{StandsFor}
use Rattle.block_cache.proofs.TurnLaws.{noted, copy_in}
use Rattle.block_cache.proofs.HistoryLaws.{stands-put, stands-skip}
use Rattle.block_cache.proofs.shared.SharedCache.put.Goals as goal

pub note_put-requires-clause-stands : goal.note_put-requires-clause-stands
note_put-requires-clause-stands g c =
    let base = c.self.inside.turn.base in
    let seat = c.hold.new.seat in
    subst (λ s. StandsFor s base (seat.seen ++ entry seat.number (Put c.args.key) ∷ []))
    (sym (copy_in c.in-Ok.held.value c.take_in.new.cache c.args.key c.args.bytes.now c.copy_of-block.result c.copy_of-block.ensures c.in-Ok-take_in.ensures.ok))
    (stands-put c.in-Ok.held.value base seat.seen c.in-Ok.ensures.ok.1 c.args.key seat.number c.args.bytes.now (rw c.self.view_is c.requires.file))

pub note_skip-requires-clause-stands : goal.note_skip-requires-clause-stands
note_skip-requires-clause-stands g c =
    let base = c.self.inside.turn.base in
    let seat = c.hold.new.seat in
    subst (λ s. StandsFor s base (seat.seen ++ entry seat.number (Skip c.args.key) ∷ []))
    (sym c.in-Err-take_in.ensures.err)
    (stands-skip c.in-Ok.held.value base seat.seen c.in-Ok.ensures.ok.1 c.args.key seat.number)

pub returns-in-Ok-take_in-clause-ok : goal.returns-in-Ok-take_in-clause-ok
returns-in-Ok-take_in-clause-ok g c = noted c.self.inside.turn c.args.seat.now c.hold.new.seat c.note_put.new.seat c.in-Ok.ensures.later (Put c.args.key) c.note_put.ensures

pub returns-in-Err-take_in-clause-err : goal.returns-in-Err-take_in-clause-err
returns-in-Err-take_in-clause-err g c = noted c.self.inside.turn c.args.seat.now c.hold.new.seat c.note_skip.new.seat c.in-Ok.ensures.later (Skip c.args.key) c.note_skip.ensures

use Rattle.std.proofs.Common.{[], ◌∷◌, ◌*◌, sym, subst}
use Rattle.atomic_table.specs.Table.{opening}
use Rattle.turn_lock.specs.Ruled.{Ruled, opener}
use Rattle.turn_lock.proofs.Steps.{opens}
use Rattle.turn_lock.proofs.desk.Desk.open.Goals as goal

pub new-requires : goal.new-requires
new-requires g c = let key = c.args.about.now in
    subst (λ slots. Ruled g.V.Stands.stands key.base.value key.first key.seats (opening (2 * key.first ∷ []) slots opener)) (sym c.in-Ok.ensures.ok)
    (opens g.V.Stands.stands key.base.value key.first key.seats c.args.value c.requires.first c.requires.stands)

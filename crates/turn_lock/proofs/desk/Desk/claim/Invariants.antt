use Rattle.turn_lock.specs.Plays.{Claimed}
use Rattle.turn_lock.proofs.desk.Desk.claim.Given as goal

abbrev pub ghosts-compare_exchange : goal.ghosts-compare_exchange
ghosts-compare_exchange g a = record { then = λ step before found after. Claimed g.V.Stands.stands a.self.now.key.base.value a.self.now.key.first step.first before found after }

use Rattle.turn_lock.specs.Plays.{Looked}
use Rattle.turn_lock.proofs.desk.Desk.look.Given as goal

abbrev pub ghosts-load : goal.ghosts-load
ghosts-load g a = record { then = λ _ before found after. Looked a.self.now.key.first before found after }

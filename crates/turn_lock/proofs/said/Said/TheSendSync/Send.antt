use denote.RattleType.{RattleType}
use denote.Param.Send.{IsSend, owning_send, sendable}
use Rattle.turn_lock.specs.contracts.said.Said.{the_row, the_type}

pub send : (A : RattleType) → IsSend (the_row A)
send A = owning_send (the_type A) (search sendable, tt) (λ d. tt) (λ k x w. tt)

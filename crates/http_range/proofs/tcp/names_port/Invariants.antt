-- Neither a colon nor a closing bracket was found yet.
use Rattle.http_range.proofs.HostLaws.{AreOthers}
use Rattle.http_range.proofs.tcp.names_port.Given as goal

abbrev pub invariant-loop-at : goal.invariant-loop-at
invariant-loop-at l = AreOthers l.host l.at

use Rattle.std.proofs.Common.{◌≢◌, All, take}
use Rattle.layer_stack.proofs.checking.number_with_uuid.Given as goal

abbrev pub invariant-loop-number : goal.invariant-loop-number
invariant-loop-number l = All (λ other. other.uuid ≢ l.head.uuid) (take l.number l.below)

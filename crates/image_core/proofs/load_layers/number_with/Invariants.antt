use Rattle.std.proofs.Common.{◌≢◌, All, take}
use Rattle.image_core.proofs.load_layers.number_with.Given as goal

abbrev pub invariant-loop-number : goal.invariant-loop-number
invariant-loop-number l = All (λ other. other.head.uuid ≢ l.uuid) (take l.number l.layers)

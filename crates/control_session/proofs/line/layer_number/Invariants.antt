-- The digits so far make the number, and the rest is still to come.
use Rattle.std.proofs.Common.{◌≡◌, ◌^◌, ◌<◌, drop}
use Rattle.control_session.specs.Lines.{layer_number}
use Rattle.control_session.proofs.Numbers.{number_on}
use Rattle.control_session.proofs.line.layer_number.Given as goal

abbrev pub invariant-loop-digit : goal.invariant-loop-digit
invariant-loop-digit l = record {
  small : l.value < 10 ^ l.digit-index;
  same : number_on l.value (drop l.digit-index l.digits) ≡ layer_number l.digits;
}

-- The digits so far make the number, and the rest is still to come.
use Rattle.std.proofs.Common.{◌≡◌, ◌^◌, ◌<◌, drop}
use Rattle.http_range.specs.Replies.{number}
use Rattle.http_range.proofs.Numbers.{number_on}
use Rattle.http_range.proofs.values.number_of.Given as goal

abbrev pub invariant-loop-digit : goal.invariant-loop-digit
invariant-loop-digit l = record {
  small : l.value < 2 ^ 63;
  same : number_on l.value (drop l.digit-index l.digits) ≡ number l.digits;
}

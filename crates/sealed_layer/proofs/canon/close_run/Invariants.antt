use Rattle.std.proofs.Common.{◌≡◌, ◌+◌, ◌++◌, vec_capacity}
use Rattle.flat_image.specs.CanonicalFiles.{rows_from}
use Rattle.flat_image.proofs.JoinedStretches.{filled_in}
use Rattle.sealed_layer.proofs.CanonLaws.{parts_to}
use Rattle.sealed_layer.proofs.canon.close_run.Given as goal

abbrev pub invariant-loop-number : goal.invariant-loop-number
invariant-loop-number l = record {
  rows : l.rows.items ≡ l.fn.rows.items ++ rows_from l.fn.place (parts_to (record { at = l.fn.run.at; count = l.fn.run.count; zeroed = l.fn.run.zeroed }) l.number);
  place : l.place ≡ l.fn.place + filled_in (parts_to (record { at = l.fn.run.at; count = l.fn.run.count; zeroed = l.fn.run.zeroed }) l.number);
  room : vec_capacity l.rows ≡ vec_capacity l.fn.rows;
}

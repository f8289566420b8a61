use Rattle.std.proofs.Common.{◌≡◌, ◌+◌, ◌-◌, ◌*◌, ◌≤◌, length, drop}
use Rattle.top_writer.specs.Loading.{Puts}
use Rattle.top_writer.proofs.load_rows.put_rows.Given as goal

-- the rows so far are put
abbrev pub invariant-loop-bytes : goal.invariant-loop-bytes
invariant-loop-bytes l = record {
  more : l.fn.number ≤ l.number;
  left : l.left ≡ drop (16 * (l.number - l.fn.number)) l.fn.piece;
  count : length l.left + 16 * (l.number - l.fn.number) ≡ length l.fn.piece;
  puts : Puts l.sectors l.filled l.fn.piece l.fn.table.segments l.table.segments (l.number - l.fn.number);
}

abbrev pub decreases-loop-bytes : goal.decreases-loop-bytes
decreases-loop-bytes l = length l.left

use Rattle.std.proofs.Common.{◌≡◌, ◌+◌, ◌-◌, ◌*◌, ◌≤◌, length, drop, vec_capacity}
use Rattle.flat_image.specs.RowCells.{end_of}
use Rattle.sealed_layer.specs.Growing.{Grows}
use Rattle.sealed_layer.proofs.rows.push_rows.Given as goal

-- the rows so far are those of the front of the piece
abbrev pub invariant-loop-bytes : goal.invariant-loop-bytes
invariant-loop-bytes l = record {
  left : l.left ≡ drop (16 * (length l.rows.items - length l.fn.rows.items)) l.fn.piece;
  count : length l.left + 16 * (length l.rows.items - length l.fn.rows.items) ≡ length l.fn.piece;
  more : length l.fn.rows.items ≤ length l.rows.items;
  grows : Grows l.head l.fn.piece l.fn.rows.items l.rows.items;
  low : l.low ≡ end_of 0 l.rows.items;
  room : vec_capacity l.rows ≡ vec_capacity l.fn.rows;
}

abbrev pub decreases-loop-bytes : goal.decreases-loop-bytes
decreases-loop-bytes l = length l.left

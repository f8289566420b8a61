-- What stands at the front is what was held and what was received.
use Rattle.std.proofs.Common.{◌≡◌, length, ◌-◌, ◌≤◌, take}
use Rattle.http_range.specs.Fetching.{ReceivesMore}
use Rattle.http_range.proofs.receiving.receive_head.Given as goal

abbrev pub invariant-loop-status : goal.invariant-loop-status
invariant-loop-status g l = record {
  inside : l.len ≤ 16384;
  room : length l.buffer ≡ 16384;
  more : ReceivesMore (g.L.Link.state l.initial.link) (g.L.Link.state l.link) (take l.initial.held l.initial.buffer) (take l.len l.buffer);
}

abbrev pub decreases-loop-status : goal.decreases-loop-status
decreases-loop-status g l = 16384 - l.len

-- What stands before the place is what stood there and what was received.
use Rattle.std.proofs.Common.{length, ◌-◌, ◌≤◌, take}
use Rattle.http_range.specs.Fetching.{ReceivesMore}
use Rattle.http_range.proofs.receiving.receive_body.Given as goal

abbrev pub invariant-loop-at : goal.invariant-loop-at
invariant-loop-at g l = record {
  inside : l.at ≤ length l.out;
  more : ReceivesMore (g.L.Link.state l.initial.link) (g.L.Link.state l.link) (take l.initial.at l.initial.out) (take l.at l.out);
}

abbrev pub decreases-loop-at : goal.decreases-loop-at
decreases-loop-at g l = length l.initial.out - l.at

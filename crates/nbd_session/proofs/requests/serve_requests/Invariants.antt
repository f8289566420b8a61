use Rattle.std.proofs.Common.{◌-◌, ◌^◌}
use Rattle.nbd_session.specs.Talks.{transmission}
use Rattle.nbd_session.specs.Sessions.{ends, Went}
use Rattle.nbd_session.proofs.requests.serve_requests.Given as goal

abbrev pub invariant-loop-number : goal.invariant-loop-number
invariant-loop-number g l =
    let A = g.A.Source in
    let B = g.B.Sink in
    let P = g.P.ImagePort in
    Went P.flush_takes_memory (transmission l.export (P.state l.initial.port).base.sectors (2 ^ 62)) (transmission l.export (P.state l.initial.port).base.sectors (2 ^ 62 - l.number))
    (ends (A.left l.initial.source) (A.faults l.initial.source) (B.written l.initial.sink) (B.faults l.initial.sink) (P.state l.initial.port))
    (ends (A.left l.source) (A.faults l.source) (B.written l.sink) (B.faults l.sink) (P.state l.port))

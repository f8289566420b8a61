use Rattle.std.proofs.Common.{◌^◌, subst}
use Rattle.nbd_session.specs.Talks.{talk, transmission}
use Rattle.nbd_session.specs.Sessions.{ends, Ended, Went}
use Rattle.nbd_session.proofs.Steps.{ended_after}
use Rattle.nbd_session.proofs.session.serve_with.Goals as goal

pub returns-in-Ok : goal.returns-in-Ok
returns-in-Ok g c =
    let A = g.A.Source in
    let B = g.B.Sink in
    let P = g.P.ImagePort in
    let port = P.state c.args.port.now in
    let export = c.args.export.now in
    let old = ends (A.left c.args.source.now) (A.faults c.args.source.now) (B.written c.args.sink.now) (B.faults c.args.sink.now) port in
    let mid = ends (A.left c.shake_hands.new.source) (A.faults c.shake_hands.new.source) (B.written c.shake_hands.new.sink) (B.faults c.shake_hands.new.sink) port in
    ended_after
    (subst (λ n. Went P.flush_takes_memory (talk export n) (transmission export n (2 ^ 62)) old mid) c.sectors.ensures.sectors (c.in-Ok.ensures P.flush_takes_memory port))
    c.serve_requests.ensures

pub returns : goal.returns
returns g c =
    let A = g.A.Source in
    let B = g.B.Sink in
    let P = g.P.ImagePort in
    let port = P.state c.args.port.now in
    subst (λ n. Ended P.flush_takes_memory (talk c.args.export.now n)
    (ends (A.left c.args.source.now) (A.faults c.args.source.now) (B.written c.args.sink.now) (B.faults c.args.sink.now) port)
    (ends (A.left c.shake_hands.new.source) (A.faults c.shake_hands.new.source) (B.written c.shake_hands.new.sink) (B.faults c.shake_hands.new.sink) port) c.in-Err.end)
    c.sectors.ensures.sectors (c.in-Err.ensures P.flush_takes_memory port)

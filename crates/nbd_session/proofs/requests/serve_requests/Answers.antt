use Rattle.std.proofs.Common.{◌-◌, ◌+◌, ◌^◌, subst}
use Rattle.nbd_session.specs.Talks.{one_request, transmission}
use Rattle.nbd_session.specs.Sessions.{ends, Ended, Went}
use Rattle.nbd_session.proofs.Bases.{Fits-base}
use Rattle.nbd_session.proofs.OneRequest.{transmission-idle}
use Rattle.nbd_session.proofs.Steps.{went_none}
use Rattle.nbd_session.proofs.WholeRequest.{requests_more, requests_end, requests_all}
use Rattle.nbd_session.proofs.requests.serve_requests.Goals as goal

pub loop-number-init : goal.loop-number-init
loop-number-init g c =
    let A = g.A.Source in
    let B = g.B.Sink in
    let P = g.P.ImagePort in
    went_none {takes = P.flush_takes_memory} (transmission c.args.export.now (P.state c.args.port.now).base.sectors (2 ^ 62))
    (ends (A.left c.args.source.now) (A.faults c.args.source.now) (B.written c.args.sink.now) (B.faults c.args.sink.now) (P.state c.args.port.now))

pub loop-number-preserved : goal.loop-number-preserved
loop-number-preserved g c =
    let A = g.A.Source in
    let B = g.B.Sink in
    let P = g.P.ImagePort in
    let export = c.args.export.now in
    let n = (P.state c.args.port.now).base.sectors in
    let old = ends (A.left c.args.source.now) (A.faults c.args.source.now) (B.written c.args.sink.now) (B.faults c.args.sink.now) (P.state c.args.port.now) in
    let mid = ends (A.left c.loop-number.source) (A.faults c.loop-number.source) (B.written c.loop-number.sink) (B.faults c.loop-number.sink) (P.state c.loop-number.port) in
    let new = ends (A.left c.serve_request.new.source) (A.faults c.serve_request.new.source) (B.written c.serve_request.new.sink) (B.faults c.serve_request.new.sink) (P.state c.serve_request.new.port) in
    let first = c.loop-number.invariant in
    let base = Fits-base P.flush_takes_memory (P.state c.args.port.now) (P.state c.loop-number.port) first.passed first.answers first.fits in
    let left = 2 ^ 62 - (c.loop-number.number + 1) in
    let go = transmission export n left in
    requests_more P.flush_takes_memory export n (2 ^ 62) c.loop-number.number old mid new c.loop-number-test.true first
    (subst (λ b. Went P.flush_takes_memory (one_request export b.sectors go) go mid new) base (c.in-Ok.ensures go (transmission-idle export n left)))

pub returns-in-Err : goal.returns-in-Err
returns-in-Err g c =
    let A = g.A.Source in
    let B = g.B.Sink in
    let P = g.P.ImagePort in
    let export = c.args.export.now in
    let n = (P.state c.args.port.now).base.sectors in
    let old = ends (A.left c.args.source.now) (A.faults c.args.source.now) (B.written c.args.sink.now) (B.faults c.args.sink.now) (P.state c.args.port.now) in
    let mid = ends (A.left c.loop-number.source) (A.faults c.loop-number.source) (B.written c.loop-number.sink) (B.faults c.loop-number.sink) (P.state c.loop-number.port) in
    let new = ends (A.left c.serve_request.new.source) (A.faults c.serve_request.new.source) (B.written c.serve_request.new.sink) (B.faults c.serve_request.new.sink) (P.state c.serve_request.new.port) in
    let first = c.loop-number.invariant in
    let base = Fits-base P.flush_takes_memory (P.state c.args.port.now) (P.state c.loop-number.port) first.passed first.answers first.fits in
    let left = 2 ^ 62 - (c.loop-number.number + 1) in
    let go = transmission export n left in
    requests_end P.flush_takes_memory export n (2 ^ 62) c.loop-number.number old mid new c.in-Err.end c.loop-number-test.true first
    (subst (λ b. Ended P.flush_takes_memory (one_request export b.sectors go) mid new c.in-Err.end) base (c.in-Err.ensures go (transmission-idle export n left)))

pub returns : goal.returns
returns g c =
    let A = g.A.Source in
    let B = g.B.Sink in
    let P = g.P.ImagePort in
    requests_all P.flush_takes_memory c.args.export.now (P.state c.args.port.now).base.sectors (2 ^ 62) c.loop-number.number
    (ends (A.left c.args.source.now) (A.faults c.args.source.now) (B.written c.args.sink.now) (B.faults c.args.sink.now) (P.state c.args.port.now))
    (A.left c.loop-number.source) (A.faults c.loop-number.source) (B.written c.loop-number.sink) (B.faults c.loop-number.sink) (P.state c.loop-number.port)
    c.loop-number-test.false c.loop-number.invariant

use Rattle.std.proofs.Common.{◌<◌, ◌≤◌, ◌∙◌, sym, ap, arith}
use Rattle.std.proofs.lemmas.Result.{err_from_is_err_and}
use Rattle.nbd_wire.specs.Requests.{data_length}
use Rattle.nbd_session.specs.Jobs.{job_of}
use Rattle.nbd_session.proofs.WholeRequest.{request_done, request_long, job_on, refusal_on}
use Rattle.nbd_session.proofs.requests.serve_request.Goals as goal

pub returns-in_err-request : goal.returns-in_err-request
returns-in_err-request g c = λ go idle.
    let p = err_from_is_err_and c.from_residual.result c.from_residual.ensures.1 in
    let port = g.P.ImagePort.state c.args.port.now in
    rw (p.1, p.2)
    (c.in_err-request.ensures g.P.ImagePort.flush_takes_memory c.args.export.now port.base.sectors go (g.B.Sink.written c.args.sink.now) (g.B.Sink.faults c.args.sink.now) port)

pub returns-then-request-eq-DISC : goal.returns-then-request-eq-DISC
returns-then-request-eq-DISC g c = λ go idle.
    let A = g.A.Source in
    let B = g.B.Sink in
    let port = g.P.ImagePort.state c.args.port.now in
    let first = c.in_ok-request.ensures g.P.ImagePort.flush_takes_memory c.args.export.now port.base.sectors go (B.written c.args.sink.now) (B.faults c.args.sink.now) port in
    request_done g.P.ImagePort.flush_takes_memory c.args.export.now port.base.sectors go c.in_ok-request.request _
    (A.left c.read_request.new.source) (A.faults c.read_request.new.source) (B.written c.args.sink.now) (B.faults c.args.sink.now) port first c.if-request-eq-DISC.true

pub returns-then-data_length-gt-MOST_BYTES : goal.returns-then-data_length-gt-MOST_BYTES
returns-then-data_length-gt-MOST_BYTES g c = λ go idle.
    let A = g.A.Source in
    let B = g.B.Sink in
    let port = g.P.ImagePort.state c.args.port.now in
    let first = c.in_ok-request.ensures g.P.ImagePort.flush_takes_memory c.args.export.now port.base.sectors go (B.written c.args.sink.now) (B.faults c.args.sink.now) port in
    let long : 33554432 < data_length c.in_ok-request.request = omega (arith, c.data_length.ensures) in
    request_long g.P.ImagePort.flush_takes_memory c.args.export.now port.base.sectors go c.in_ok-request.request _
    (A.left c.read_request.new.source) (A.faults c.read_request.new.source) (B.written c.args.sink.now) (B.faults c.args.sink.now) port first c.if-request-eq-DISC.false long

pub returns-in-Ok : goal.returns-in-Ok
returns-in-Ok g c = λ go idle.
    let B = g.B.Sink in
    let port = g.P.ImagePort.state c.args.port.now in
    let first = c.in_ok-request.ensures g.P.ImagePort.flush_takes_memory c.args.export.now port.base.sectors go (B.written c.args.sink.now) (B.faults c.args.sink.now) port in
    let short : data_length c.in_ok-request.request ≤ 33554432 = omega (arith, c.data_length.ensures) in
    job_on g.P.ImagePort.flush_takes_memory c.args.export.now port.base.sectors go c.in_ok-request.request (λ _. go) _ _ _ c.serve_job.result c.in-Ok.job
    first c.if-request-eq-DISC.false short
    (ap (λ n. job_of c.args.export.now n c.in_ok-request.request) (sym c.sectors.ensures.sectors) ∙ (sym c.job_of.ensures.table ∙ c.in-Ok.is))
    (c.serve_job.ensures go idle)

pub returns-in-Err : goal.returns-in-Err
returns-in-Err g c = λ go idle.
    let B = g.B.Sink in
    let port = g.P.ImagePort.state c.args.port.now in
    let first = c.in_ok-request.ensures g.P.ImagePort.flush_takes_memory c.args.export.now port.base.sectors go (B.written c.args.sink.now) (B.faults c.args.sink.now) port in
    let short : data_length c.in_ok-request.request ≤ 33554432 = omega (arith, c.data_length.ensures) in
    refusal_on g.P.ImagePort.flush_takes_memory c.args.export.now port.base.sectors go c.in_ok-request.request (λ _. go) _ _ _ c.refuse_request.result c.in-Err.errno
    first c.if-request-eq-DISC.false short
    (ap (λ n. job_of c.args.export.now n c.in_ok-request.request) (sym c.sectors.ensures.sectors) ∙ (sym c.job_of.ensures.table ∙ c.in-Err.is))
    (c.refuse_request.ensures g.P.ImagePort.flush_takes_memory go port idle)

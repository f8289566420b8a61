use Rattle.std.proofs.Common.{refl}
use Rattle.nbd_session.specs.Talks.{talk}
use Rattle.nbd_session.specs.Sessions.{ends}
use Rattle.nbd_session.proofs.Endings.{serves-ended}
use Rattle.nbd_session.proofs.session.serve_connection.Goals as goal

pub returns-in-Ok : goal.returns-in-Ok
returns-in-Ok g c =
    let A = g.A.Source in
    let B = g.B.Sink in
    let P = g.P.ImagePort in
    serves-ended P.flush_takes_memory (talk c.args.export.now (P.state c.args.port.now).base.sectors)
    (ends (A.left c.args.source.now) (A.faults c.args.source.now) (B.written c.args.sink.now) (B.faults c.args.sink.now) (P.state c.args.port.now))
    (ends (A.left c.serve_with.new.source) (A.faults c.serve_with.new.source) (B.written c.serve_with.new.sink) (B.faults c.serve_with.new.sink) (P.state c.serve_with.new.port))
    c.serve_with.result c.serve_with.ensures

pub returns-in-Err : goal.returns-in-Err
returns-in-Err g c = refl

use Rattle.std.proofs.Common.{refl}
use Rattle.control_session.specs.Controls.{control}
use Rattle.control_session.specs.Sessions.{ends}
use Rattle.control_session.proofs.Served.{serves-ended}
use Rattle.control_session.proofs.session.serve_control.Goals as goal

pub returns-in-Ok : goal.returns-in-Ok
returns-in-Ok g c =
    let A = g.A.Source in
    let B = g.B.Sink in
    let C = g.C.ControlPort in
    serves-ended control
    (ends (A.left c.args.source.now) (A.faults c.args.source.now) (B.written c.args.sink.now) (B.faults c.args.sink.now) (C.state c.args.port.now))
    (ends (A.left c.serve_lines.new.source) (A.faults c.serve_lines.new.source) (B.written c.serve_lines.new.sink) (B.faults c.serve_lines.new.sink) (C.state c.serve_lines.new.port))
    c.serve_lines.result c.serve_lines.ensures

pub returns-in-Err : goal.returns-in-Err
returns-in-Err g c = refl

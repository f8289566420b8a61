use Rattle.std.proofs.Common.{◌+◌, ◌-◌, ◌^◌, rules}
use Rattle.control_session.specs.Controls.{lines}
use Rattle.control_session.specs.Sessions.{ends}
use Rattle.control_session.proofs.LineLaws.{lines-idle}
use Rattle.control_session.proofs.Parts.{went_none}
use Rattle.control_session.proofs.Served.{lines_more, lines_end, lines_all}
use Rattle.control_session.proofs.session.serve_lines.Goals as goal

pub loop-number-init : goal.loop-number-init
loop-number-init g c =
    let A = g.A.Source in
    let B = g.B.Sink in
    let C = g.C.ControlPort in
    record {
      long = c.requires;
      went = went_none (lines (2 ^ 62)) (ends (A.left c.args.source.now) (A.faults c.args.source.now) (B.written c.args.sink.now) (B.faults c.args.sink.now) (C.state c.args.port.now));
    }

pub loop-number-preserved : goal.loop-number-preserved
loop-number-preserved g c =
    let A = g.A.Source in
    let B = g.B.Sink in
    let C = g.C.ControlPort in
    let left = 2 ^ 62 - (c.loop-number.number + 1) in
    record {
      long = search rules;
      went = lines_more (2 ^ 62) c.loop-number.number
          (ends (A.left c.args.source.now) (A.faults c.args.source.now) (B.written c.args.sink.now) (B.faults c.args.sink.now) (C.state c.args.port.now))
          (ends (A.left c.loop-number.source) (A.faults c.loop-number.source) (B.written c.loop-number.sink) (B.faults c.loop-number.sink) (C.state c.loop-number.port))
          (ends (A.left c.serve_line.new.source) (A.faults c.serve_line.new.source) (B.written c.serve_line.new.sink) (B.faults c.serve_line.new.sink) (C.state c.serve_line.new.port))
          c.loop-number-test.true c.loop-number.invariant.went (c.in-Ok.ensures (lines left) (lines-idle left));
    }

pub returns-in-Err : goal.returns-in-Err
returns-in-Err g c =
    let A = g.A.Source in
    let B = g.B.Sink in
    let C = g.C.ControlPort in
    let left = 2 ^ 62 - (c.loop-number.number + 1) in
    lines_end (2 ^ 62) c.loop-number.number
    (ends (A.left c.args.source.now) (A.faults c.args.source.now) (B.written c.args.sink.now) (B.faults c.args.sink.now) (C.state c.args.port.now))
    (ends (A.left c.loop-number.source) (A.faults c.loop-number.source) (B.written c.loop-number.sink) (B.faults c.loop-number.sink) (C.state c.loop-number.port))
    (ends (A.left c.serve_line.new.source) (A.faults c.serve_line.new.source) (B.written c.serve_line.new.sink) (B.faults c.serve_line.new.sink) (C.state c.serve_line.new.port))
    c.in-Err.end c.loop-number-test.true c.loop-number.invariant.went (c.in-Err.ensures (lines left) (lines-idle left))

pub returns : goal.returns
returns g c =
    let A = g.A.Source in
    let B = g.B.Sink in
    let C = g.C.ControlPort in
    lines_all (2 ^ 62) c.loop-number.number
    (ends (A.left c.args.source.now) (A.faults c.args.source.now) (B.written c.args.sink.now) (B.faults c.args.sink.now) (C.state c.args.port.now))
    (A.left c.loop-number.source) (A.faults c.loop-number.source) (B.written c.loop-number.sink) (B.faults c.loop-number.sink) (C.state c.loop-number.port)
    c.loop-number-test.false c.loop-number.invariant.went

use Rattle.std.proofs.Common.{◌≡◌, ◌-◌, ◌^◌, length}
use Rattle.control_session.specs.Controls.{lines}
use Rattle.control_session.specs.Sessions.{ends, Went}
use Rattle.control_session.proofs.session.serve_lines.Given as goal

abbrev pub invariant-loop-number : goal.invariant-loop-number
invariant-loop-number g l =
    let A = g.A.Source in
    let B = g.B.Sink in
    let C = g.C.ControlPort in
    record {
      long : length l.buffer ≡ 257;
      went : Went (lines (2 ^ 62)) (lines (2 ^ 62 - l.number))
          (ends (A.left l.initial.source) (A.faults l.initial.source) (B.written l.initial.sink) (B.faults l.initial.sink) (C.state l.initial.port))
          (ends (A.left l.source) (A.faults l.source) (B.written l.sink) (B.faults l.sink) (C.state l.port));
    }

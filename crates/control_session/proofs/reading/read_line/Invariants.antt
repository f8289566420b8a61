-- The bytes so far are the front of a line.
use Rattle.std.proofs.Common.{◌≡◌, take, length}
use Rattle.std.specs.Io.KnownBytes.{Consumes}
use Rattle.control_session.specs.Reading.{IsPlain}
use Rattle.control_session.proofs.reading.read_line.Given as goal

abbrev pub invariant-loop-count : goal.invariant-loop-count
invariant-loop-count g l = record {
  plain : IsPlain (take l.count l.line);
  taken : Consumes (g.A.Source.left l.initial.source) (g.A.Source.left l.source) (take l.count l.line);
  calm : g.A.Source.faults l.source ≡ g.A.Source.faults l.initial.source;
  long : length l.line ≡ 257;
}

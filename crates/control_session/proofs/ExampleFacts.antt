-- The definitions compute the lines that were worked out by hand.
use Rattle.std.proofs.Common.{refl}
use Rattle.std.specs.Fmt.{digits}
use Rattle.uuid.proofs.OnLiterals.{uuid_on_literals}
use Rattle.control_session.specs.Controls.{one_line, lines}
use Rattle.control_session.specs.Examples.{Words, FiveLines, LineEnds}

pub words : Words
unfolding uuid_on_literals
words = record {
  commits = refl;
  short = refl;
  no_uuid = refl;
  nil_uuid = refl;
  two_spaces = refl;
  warms = refl;
  past_all = refl;
  long_number = refl;
  signed = refl;
  spaced = refl;
}

pub five_lines : FiveLines
unfolding digits uuid_on_literals one_line lines
five_lines = record { talks = refl }

pub line_ends : LineEnds
unfolding digits uuid_on_literals one_line lines
line_ends = record { last = refl; part = refl; full = refl; long = refl }

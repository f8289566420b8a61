-- What was found of the headers so far.
use Rattle.std.proofs.Common.{take, map}
use Rattle.httparse.specs.Spans.{header_bytes}
use Rattle.http_range.specs.Fields.{FieldsAre}
use Rattle.http_range.specs.Replies.{values_of}
use Rattle.http_range.proofs.fields.fields_of.Given as goal

abbrev pub invariant-loop-at : goal.invariant-loop-at
invariant-loop-at l = FieldsAre (values_of l.name (map (header_bytes l.bytes) (take l.at l.headers))) l.bytes l.found

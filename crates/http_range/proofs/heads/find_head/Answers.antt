-- A whole head, good or refused.
use Rattle.std.proofs.Common.{◌≤◌, length, drop, sym, ◌∙◌, arith}
use Rattle.std.specs.Prelude.{Err}
use Rattle.http_range.proofs.HeadLaws.{has_head, judged_so, good_head}
use Rattle.http_range.proofs.heads.find_head.Goals as goal

pub returns-in-Ok : goal.returns-in-Ok
returns-in-Ok c =
    let within = rw c.in-Ok-Complete.field-0-is at c.in-Ok-Complete.ensures.within in
    let found = rw c.in-Ok-Complete.field-0-is at c.in-Ok-Complete.ensures.complete in
    let room : length c.parse_response.new.headers ≤ 64 = omega (arith, c.parse_response.auto.headers) in
    good_head c.args.bytes.now c.parse_response.new.headers c.in-Ok-Complete.head found.0 within found.1 c.requires.short room
    c.args.first c.args.last c.in-Ok.total (sym c.in-Ok.is ∙ c.judge_fields.ensures)

pub returns-in-Err-judge_fields : goal.returns-in-Err-judge_fields
returns-in-Err-judge_fields c =
    let bytes = c.args.bytes.now in
    let spans = c.in-Ok-Complete.head in
    let headers = c.parse_response.new.headers in
    let within = rw c.in-Ok-Complete.field-0-is at c.in-Ok-Complete.ensures.within in
    let found = rw c.in-Ok-Complete.field-0-is at c.in-Ok-Complete.ensures.complete in
    let room : length headers ≤ 64 = omega (arith, c.parse_response.auto.headers) in (
      found.0,
      drop spans.len bytes,
      has_head bytes headers spans found.0 within found.1 c.requires.short room,
      found.1.code,
      judged_so bytes headers spans found.0 within found.1 c.requires.short room c.args.first c.args.last
          (Err c.in-Err-judge_fields.reason) (sym c.in-Err-judge_fields.is ∙ c.judge_fields.ensures),
    )

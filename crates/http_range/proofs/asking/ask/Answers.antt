-- The reply comes after the text.
use Rattle.std.proofs.Common.{◌+◌, ◌-◌, length, take}
use Rattle.std.specs.Prelude.{Result, Ok, Err, IfOk}
use Rattle.http_range.specs.Requests.{request_text}
use Rattle.http_range.proofs.Answering.{well_after}
use Rattle.http_range.proofs.asking.ask.Goals as goal

if_ok : {T E : Type 0} (r : Result T E) (P Q : T → Type 0) → ((value : T) → P value → Q value) → IfOk r P → IfOk r Q
if_ok (Ok value) P Q so h = so value h
if_ok (Err e) P Q so h = tt

pub returns-in-Ok-clause-ok : goal.returns-in-Ok-clause-ok
returns-in-Ok-clause-ok g c =
    let last = c.args.first + (length c.args.out.now - 1) in
    if_ok c.receive_reply.result _ _
    (λ answer h. (
      h.0,
      well_after (request_text c.args.target.now c.args.first last) (take c.args.held c.args.buffer.now) c.args.first last
          (g.L.Link.state c.args.link.now) (g.L.Link.state c.send_request.new.link) (g.L.Link.state c.receive_reply.new.link)
          c.receive_reply.new.out (take answer.held c.receive_reply.new.buffer) answer.total c.in-Ok.ensures h.1,
    ))
    c.receive_reply.ensures.ok

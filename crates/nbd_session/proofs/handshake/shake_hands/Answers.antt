use Rattle.std.proofs.Common.{◌^◌, refl}
use Rattle.std.specs.Prelude.{Ok, Err}
use Rattle.std.proofs.lemmas.Result.{err_from_is_err_and}
use Rattle.nbd_session.specs.Talks.{greeted, transmission, talk}
use Rattle.nbd_session.proofs.Steps.{went_along, went_trans, ended_along, ended_after, goes_after, sends_on}
use Rattle.nbd_session.proofs.Greetings.{greeted-idle, talk-said}
use Rattle.nbd_session.proofs.handshake.shake_hands.Goals as goal

pub returns-in_err-send : goal.returns-in_err-send
returns-in_err-send g c = λ takes port.
    let p = err_from_is_err_and c.from_residual.result c.from_residual.ensures.1 in
    let e = c.args.export.now in
    let n = c.args.sectors in
    rw (p.1, p.2)
    (ended_along (talk e n) (talk-said e n c.hello_bytes.result c.hello_bytes.ensures)
    (sends_on {T = Unit} takes (λ value. greeted e n) (greeted e n) (g.A.Source.left c.args.source.now) (g.A.Source.faults c.args.source.now)
    (g.B.Sink.written c.args.sink.now) (g.B.Sink.written c.send.new.sink) (g.B.Sink.faults c.args.sink.now) (g.B.Sink.faults c.send.new.sink) port c.hello_bytes.result
    (Err c.in_err-send.field-0.0) (greeted-idle e n) (λ value. refl) c.in_err-send.ensures))

pub returns-in_err-hello : goal.returns-in_err-hello
returns-in_err-hello g c = λ takes port.
    let p = err_from_is_err_and c.from_residual-in_err-hello.result c.from_residual-in_err-hello.ensures.1 in
    let e = c.args.export.now in
    let n = c.args.sectors in
    rw (p.1, p.2)
    (ended_after (went_along (talk e n) (greeted e n) (talk-said e n c.hello_bytes.result c.hello_bytes.ensures) (λ bytes answers. refl)
    (sends_on {T = Unit} takes (λ value. greeted e n) (greeted e n) (g.A.Source.left c.args.source.now) (g.A.Source.faults c.args.source.now)
    (g.B.Sink.written c.args.sink.now) (g.B.Sink.written c.send.new.sink) (g.B.Sink.faults c.args.sink.now) (g.B.Sink.faults c.send.new.sink) port c.hello_bytes.result
    (Ok c.in_ok-send.field-0) (greeted-idle e n) (λ value. refl) c.in_ok-send.ensures))
    (c.in_err-hello.ensures takes e n (g.B.Sink.written c.send.new.sink) (g.B.Sink.faults c.send.new.sink) port))

pub returns : goal.returns
returns g c = λ takes port.
    let e = c.args.export.now in
    let n = c.args.sectors in
    goes_after (λ value. transmission e n (2 ^ 62)) _ c.serve_options.result
    (went_trans (went_along (talk e n) (greeted e n) (talk-said e n c.hello_bytes.result c.hello_bytes.ensures) (λ bytes answers. refl)
    (sends_on {T = Unit} takes (λ value. greeted e n) (greeted e n) (g.A.Source.left c.args.source.now) (g.A.Source.faults c.args.source.now)
    (g.B.Sink.written c.args.sink.now) (g.B.Sink.written c.send.new.sink) (g.B.Sink.faults c.args.sink.now) (g.B.Sink.faults c.send.new.sink) port c.hello_bytes.result
    (Ok c.in_ok-send.field-0) (greeted-idle e n) (λ value. refl) c.in_ok-send.ensures))
    (c.in_ok-hello.ensures takes e n (g.B.Sink.written c.send.new.sink) (g.B.Sink.faults c.send.new.sink) port))
    (c.serve_options.ensures takes port)

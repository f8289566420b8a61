use Rattle.nbd_session.specs.Talks.{after_option}
use Rattle.nbd_session.specs.Handshakes.{in_phase}
use Rattle.nbd_session.proofs.Steps.{goes_after}
use Rattle.nbd_session.proofs.handshake.serve_option.Goals as goal

pub returns : goal.returns
returns g c = λ takes more start port idle_more idle_start.
    goes_after (in_phase more start) _ c.answer_option.result
    (c.in_ok-head.ensures takes (after_option c.args.export.now c.args.sectors c.args.hello more start) (g.B.Sink.written c.args.sink.now) (g.B.Sink.faults c.args.sink.now) port)
    (c.answer_option.ensures takes more start port idle_more idle_start)

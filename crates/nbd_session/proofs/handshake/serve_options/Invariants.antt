use Rattle.std.proofs.Common.{◌-◌, Bool}
use Rattle.flat_image.specs.Ports.{PortState}
use Rattle.nbd_session.specs.Talks.{options}
use Rattle.nbd_session.specs.Sessions.{ends, Went}
use Rattle.nbd_session.proofs.handshake.serve_options.Given as goal

abbrev pub invariant-loop : goal.invariant-loop
invariant-loop g l = (takes : Bool) (port : PortState) → Went takes (options l.export l.sectors l.hello 64) (options l.export l.sectors l.hello (64 - l.counter))
    (ends (g.A.Source.left l.initial.source) (g.A.Source.faults l.initial.source) (g.B.Sink.written l.initial.sink) (g.B.Sink.faults l.initial.sink) port)
    (ends (g.A.Source.left l.source) (g.A.Source.faults l.source) (g.B.Sink.written l.sink) (g.B.Sink.faults l.sink) port)

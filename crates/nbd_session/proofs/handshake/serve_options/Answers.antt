use Rattle.std.proofs.Common.{◌^◌, [], refl, arith, true, false}
use Rattle.std.proofs.KnownBytes.{Consumes-nil}
use Rattle.std.proofs.lemmas.Result.{err_from_is_err_and}
use Rattle.nbd_session.specs.declared.option_answers.Phase.TheVariants as phase
use Rattle.nbd_session.specs.declared.served.Served.TheVariants.{Aborted, UnknownExport, TooManyOptions}
use Rattle.nbd_session.specs.Talks.{options, transmission, stop_at}
use Rattle.nbd_session.proofs.Steps.{went_none, went_trans, ended_after, ended_word}
use Rattle.nbd_session.proofs.Greetings.{too_many, left_options, left-idle, start-idle, at_option, at_last, went_option}
use Rattle.nbd_session.proofs.handshake.serve_options.Goals as goal

pub loop-init : goal.loop-init
loop-init g c = λ takes port. went_none (options c.args.export.now c.args.sectors c.args.hello 64) _

pub returns-in_err-serve_option : goal.returns-in_err-serve_option
returns-in_err-serve_option g c = λ takes port.
    let p = err_from_is_err_and c.from_residual.result c.from_residual.ensures.1 in
    let e = c.args.export.now in
    let n = c.args.sectors in
    let h = c.args.hello in
    rw (p.1, p.2)
    (ended_after (at_option e n h c.loop.counter (omega arith) (c.loop.invariant takes port))
    (c.in_err-serve_option.ensures takes (left_options e n h c.loop.counter) (transmission e n (2 ^ 62)) port (left-idle e n h c.loop.counter) (start-idle e n h c.loop.counter)))

pub returns-in-Transmission : goal.returns-in-Transmission
returns-in-Transmission g c = λ takes port.
    let e = c.args.export.now in
    let n = c.args.sectors in
    let h = c.args.hello in
    went_option e n h c.loop.counter c.in_ok-serve_option.field-0 phase.Transmission c.in-Transmission.is (omega arith) (c.loop.invariant takes port)
    (c.in_ok-serve_option.ensures takes (left_options e n h c.loop.counter) (transmission e n (2 ^ 62)) port (left-idle e n h c.loop.counter) (start-idle e n h c.loop.counter))

pub returns-in-Aborted : goal.returns-in-Aborted
returns-in-Aborted g c = λ takes port.
    let e = c.args.export.now in
    let n = c.args.sectors in
    let h = c.args.hello in
    ended_after (went_option e n h c.loop.counter c.in_ok-serve_option.field-0 phase.Aborted c.in-Aborted.is (omega arith) (c.loop.invariant takes port)
    (c.in_ok-serve_option.ensures takes (left_options e n h c.loop.counter) (transmission e n (2 ^ 62)) port (left-idle e n h c.loop.counter) (start-idle e n h c.loop.counter)))
    (ended_word (λ bytes answers. stop_at Aborted false bytes) (g.A.Source.left c.serve_option.new.source) (g.A.Source.left c.serve_option.new.source) _ _
    (g.B.Sink.written c.serve_option.new.sink) (g.B.Sink.faults c.serve_option.new.sink) port Aborted false [] (Consumes-nil _) refl refl (λ e. e) (λ e. cc) (λ e. cc))

pub returns-in-UnknownExport : goal.returns-in-UnknownExport
returns-in-UnknownExport g c = λ takes port.
    let e = c.args.export.now in
    let n = c.args.sectors in
    let h = c.args.hello in
    ended_after (went_option e n h c.loop.counter c.in_ok-serve_option.field-0 phase.UnknownExport c.in-UnknownExport.is (omega arith) (c.loop.invariant takes port)
    (c.in_ok-serve_option.ensures takes (left_options e n h c.loop.counter) (transmission e n (2 ^ 62)) port (left-idle e n h c.loop.counter) (start-idle e n h c.loop.counter)))
    (ended_word (λ bytes answers. stop_at UnknownExport false bytes) (g.A.Source.left c.serve_option.new.source) (g.A.Source.left c.serve_option.new.source) _ _
    (g.B.Sink.written c.serve_option.new.sink) (g.B.Sink.faults c.serve_option.new.sink) port UnknownExport false [] (Consumes-nil _) refl refl (λ e. e) (λ e. cc) (λ e. cc))

pub loop-preserved : goal.loop-preserved
loop-preserved g c = λ takes port.
    let e = c.args.export.now in
    let n = c.args.sectors in
    let h = c.args.hello in
    went_option e n h c.loop.counter c.in_ok-serve_option.field-0 phase.Options c.in-Options.is (omega arith) (c.loop.invariant takes port)
    (c.in_ok-serve_option.ensures takes (left_options e n h c.loop.counter) (transmission e n (2 ^ 62)) port (left-idle e n h c.loop.counter) (start-idle e n h c.loop.counter))

pub returns-in_err-read_head : goal.returns-in_err-read_head
returns-in_err-read_head g c = λ takes port.
    let p = err_from_is_err_and c.from_residual-in_err-read_head.result c.from_residual-in_err-read_head.ensures.1 in
    rw (p.1, p.2)
    (ended_after (at_last c.args.export.now c.args.sectors c.args.hello c.loop.counter (omega arith) (c.loop.invariant takes port))
    (c.in_err-read_head.ensures takes (λ head. too_many) (g.B.Sink.written c.loop.sink) (g.B.Sink.faults c.loop.sink) port))

pub returns : goal.returns
returns g c = λ takes port.
    ended_after (went_trans (at_last c.args.export.now c.args.sectors c.args.hello c.loop.counter (omega arith) (c.loop.invariant takes port))
    (c.in_ok-read_head.ensures takes (λ head. too_many) (g.B.Sink.written c.loop.sink) (g.B.Sink.faults c.loop.sink) port))
    (ended_word too_many (g.A.Source.left c.read_head.new.source) (g.A.Source.left c.read_head.new.source) _ _
    (g.B.Sink.written c.loop.sink) (g.B.Sink.faults c.loop.sink) port TooManyOptions true [] (Consumes-nil _) refl refl (λ e. e) (λ e. cc) (λ e. cc))

use Rattle.std.proofs.Common.{◌≡◌, [], length, drop, arith, subst, length-take-le, take_at, true}
use Rattle.std.proofs.lemmas.Result.{err_from_is_err_and}
use Rattle.nbd_session.specs.Options.{long_answer, short_answer}
use Rattle.nbd_session.specs.Talks.{after_option, answered}
use Rattle.nbd_session.specs.Handshakes.{in_phase, Says}
use Rattle.nbd_session.proofs.Steps.{went_read, ended_cut, goes_after}
use Rattle.nbd_session.proofs.Greetings.{after_option-cut, after_option-long, after_option-short, says_on}
use Rattle.nbd_session.proofs.handshake.answer_option.Goals as goal

pub returns-in_err-skip : goal.returns-in_err-skip
returns-in_err-skip g c = λ takes more start port idle_more idle_start.
    let p = err_from_is_err_and c.from_residual.result c.from_residual.ensures.1 in
    rw (p.1, p.2)
    (ended_cut (after_option c.args.export.now c.args.sectors c.args.hello more start c.args.head)
    (g.A.Source.left c.args.source.now) (g.A.Source.left c.skip.new.source) _ _ (g.B.Sink.written c.args.sink.now) (g.B.Sink.faults c.args.sink.now) port c.args.head.length _ (λ bytes. true)
    (λ bytes short. after_option-cut c.args.export.now c.args.sectors c.args.hello more start c.args.head bytes [] short) c.in_err-skip.ensures)

pub returns-then-count-gt-MOST_DATA : goal.returns-then-count-gt-MOST_DATA
returns-then-count-gt-MOST_DATA g c = λ takes more start port idle_more idle_start.
    let (bytes, whole, taken, calm) = c.in_ok-skip.ensures in
    goes_after (in_phase more start) _ c.answer_long.result
    (went_read (after_option c.args.export.now c.args.sectors c.args.hello more start c.args.head) (answered more start (long_answer c.args.head.option))
    (g.A.Source.left c.args.source.now) (g.A.Source.left c.skip.new.source) (g.A.Source.faults c.args.source.now) (g.A.Source.faults c.skip.new.source)
    (g.B.Sink.written c.args.sink.now) (g.B.Sink.faults c.args.sink.now) port bytes taken calm
    (λ behind others. after_option-long c.args.export.now c.args.sectors c.args.hello more start c.args.head bytes behind others whole (omega arith)))
    (says_on takes more start (g.A.Source.left c.skip.new.source) (g.A.Source.faults c.skip.new.source)
    (g.B.Sink.written c.args.sink.now) (g.B.Sink.written c.answer_long.new.sink) (g.B.Sink.faults c.args.sink.now) (g.B.Sink.faults c.answer_long.new.sink) port
    (long_answer c.args.head.option) c.answer_long.result idle_more idle_start c.answer_long.ensures)

pub returns-in_err-fill : goal.returns-in_err-fill
returns-in_err-fill g c = λ takes more start port idle_more idle_start.
    let p = err_from_is_err_and c.from_residual-in_err-fill.result c.from_residual-in_err-fill.ensures.1 in
    let full = length-take-le c.args.head.length c.args.buffer.now (omega arith) in
    let whole : length c.fill.new.out ≡ c.args.head.length = omega (arith, full) in
    rw (p.1, p.2)
    (ended_cut (after_option c.args.export.now c.args.sectors c.args.hello more start c.args.head)
    (g.A.Source.left c.args.source.now) (g.A.Source.left c.fill.new.source) _ _ (g.B.Sink.written c.args.sink.now) (g.B.Sink.faults c.args.sink.now) port (length c.fill.new.out) _ (λ bytes. true)
    (λ bytes short. after_option-cut c.args.export.now c.args.sectors c.args.hello more start c.args.head bytes [] (omega (arith, whole))) c.in_err-fill.ensures)

pub returns : goal.returns
returns g c = λ takes more start port idle_more idle_start.
    let full = length-take-le c.args.head.length c.args.buffer.now (omega arith) in
    let whole : length c.fill.new.out ≡ c.args.head.length = omega (arith, full) in
    let answer = short_answer c.args.export.now c.args.sectors c.args.hello c.args.head.option c.fill.new.out in
    goes_after (in_phase more start) _ c.answer_short.result
    (went_read (after_option c.args.export.now c.args.sectors c.args.hello more start c.args.head) (answered more start answer)
    (g.A.Source.left c.args.source.now) (g.A.Source.left c.fill.new.source) (g.A.Source.faults c.args.source.now) (g.A.Source.faults c.fill.new.source)
    (g.B.Sink.written c.args.sink.now) (g.B.Sink.faults c.args.sink.now) port c.fill.new.out c.in_ok-fill.ensures.0 c.in_ok-fill.ensures.1
    (λ behind others. after_option-short c.args.export.now c.args.sectors c.args.hello more start c.args.head c.fill.new.out behind others whole (omega arith)))
    (says_on takes more start (g.A.Source.left c.fill.new.source) (g.A.Source.faults c.fill.new.source)
    (g.B.Sink.written c.args.sink.now) (g.B.Sink.written c.answer_short.new.sink) (g.B.Sink.faults c.args.sink.now) (g.B.Sink.faults c.answer_short.new.sink) port
    answer c.answer_short.result idle_more idle_start
    (subst (λ bytes. Says (short_answer c.args.export.now c.args.sectors c.args.hello c.args.head.option bytes)
    (g.B.Sink.written c.args.sink.now) (g.B.Sink.written c.answer_short.new.sink) (g.B.Sink.faults c.args.sink.now) (g.B.Sink.faults c.answer_short.new.sink) c.answer_short.result)
    (take_at c.fill.new.out (drop c.args.head.length c.args.buffer.now) c.args.head.length whole) c.answer_short.ensures))

use Rattle.std.proofs.lemmas.Result.{err_from_is_err_and, on_ok_weaker, on_err_weaker}
use Rattle.layer_commands.proofs.RunLaws.{long_put, long_front, kept_front}
use Rattle.layer_commands.proofs.runs.put_run.Goals as goal

pub returns-in_err-write_kept-clause-front : goal.returns-in_err-write_kept-clause-front
returns-in_err-write_kept-clause-front g c =
    let p = err_from_is_err_and c.from_residual.result c.from_residual.ensures.1 in
    rw p.1 (kept_front (g.B.Sink.written c.args.out.now) (g.B.Sink.written c.write_kept.new.out) c.args.kept.now.items c.args.run.now c.in_err-write_kept.ensures.front)

pub returns-then-run-ge-LONG_RUN-clause-put : goal.returns-then-run-ge-LONG_RUN-clause-put
returns-then-run-ge-LONG_RUN-clause-put g c =
    on_ok_weaker c.write_text.result
    (long_put (g.B.Sink.written c.args.out.now) (g.B.Sink.written c.write_kept.new.out) (g.B.Sink.written c.write_text.new.out) c.args.kept.now.items c.write_kept.new.kept.items c.args.run.now
    c.in_ok-write_kept.ensures.none c.in_ok-write_kept.ensures.done)
    c.write_text.ensures.done

pub returns-then-run-ge-LONG_RUN-clause-front : goal.returns-then-run-ge-LONG_RUN-clause-front
returns-then-run-ge-LONG_RUN-clause-front g c =
    on_err_weaker c.write_text.result
    (long_front (g.B.Sink.written c.args.out.now) (g.B.Sink.written c.write_kept.new.out) (g.B.Sink.written c.write_text.new.out) c.args.kept.now.items c.args.run.now
    c.in_ok-write_kept.ensures.done)
    c.write_text.ensures.front

pub returns-in_err-write_kept-2-clause-front : goal.returns-in_err-write_kept-2-clause-front
returns-in_err-write_kept-2-clause-front g c =
    let p = err_from_is_err_and c.from_residual-in_err-write_kept-2.result c.from_residual-in_err-write_kept-2.ensures.1 in
    rw p.1 (kept_front (g.B.Sink.written c.args.out.now) (g.B.Sink.written c.write_kept-then-len-run.new.out) c.args.kept.now.items c.args.run.now c.in_err-write_kept-2.ensures.front)

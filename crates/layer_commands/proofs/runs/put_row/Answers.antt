use Rattle.std.proofs.Common.{List, ℕ, sym, subst, ap, ◌∙◌, take, drop, ◌≡◌, ◌*◌, arith}
use Rattle.std.proofs.lemmas.Result.{on_err_weaker}
use Rattle.layer_commands.specs.Runs.{PutsFront}
use Rattle.layer_commands.proofs.RunLaws.{zeroed_bytes, filled_bytes}
use Rattle.layer_commands.proofs.runs.put_row.Goals as goal

pub returns-then-row-clause-front : goal.returns-then-row-clause-front
returns-then-row-clause-front g c =
    on_err_weaker c.put_zeros.result
    (subst (PutsFront (g.B.Sink.written c.args.out.now) (g.B.Sink.written c.put_zeros.new.out) c.args.kept.now.items) (sym (zeroed_bytes c.args.file.now c.args.row.now c.if-row.true)))
    c.put_zeros.ensures.front

pub returns-clause-front : goal.returns-clause-front
returns-clause-front g c =
    on_err_weaker c.put_run.result
    (subst (PutsFront (g.B.Sink.written c.args.out.now) (g.B.Sink.written c.put_run.new.out) c.args.kept.now.items)
    (c.split_at-2.ensures.front ∙ ap (λ (bytes : List ℕ). take (c.args.row.now.count * 512) bytes) c.split_at.ensures.back
    ∙ (let count : c.args.row.now.count * 512 ≡ 512 * c.args.row.now.count = omega arith in
    let place : c.args.row.now.place * 512 ≡ 512 * c.args.row.now.place = omega arith in
    λ i. take (count i) (drop (place i) c.args.file.now))
    ∙ sym (filled_bytes c.args.file.now c.args.row.now c.if-row.false)))
    c.put_run.ensures.front

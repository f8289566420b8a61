use Rattle.std.proofs.Common.{◌∙◌, subst}
use Rattle.std.proofs.lemmas.Result.{err_from_is_err_and}
use Rattle.nbd_session.specs.Sessions.{IsCut}
use Rattle.nbd_session.proofs.Replied.{refusal_replied, refusal_cut}
use Rattle.nbd_session.proofs.one_request.refuse_request.Goals as goal

pub returns-in_err-skip_data : goal.returns-in_err-skip_data
returns-in_err-skip_data g c = λ takes go port idle.
    let p = err_from_is_err_and c.from_residual.result c.from_residual.ensures.1 in
    let A = g.A.Source in
    let B = g.B.Sink in
    rw (p.1, p.2)
    (refusal_cut takes go c.args.request.now (A.left c.args.source.now) (A.left c.skip_data.new.source) (A.faults c.args.source.now) (A.faults c.skip_data.new.source)
    (B.written c.args.sink.now) (B.faults c.args.sink.now) port c.in_err-skip_data.field-0.0 c.args.errno
    (subst (λ size. IsCut (A.left c.args.source.now) (A.left c.skip_data.new.source) (A.faults c.args.source.now) (A.faults c.skip_data.new.source) size c.in_err-skip_data.field-0.0)
    c.data_length-size.ensures c.in_err-skip_data.ensures))

pub returns : goal.returns
returns g c = λ takes go port idle.
    let A = g.A.Source in
    let B = g.B.Sink in
    let (bytes, whole, taken, calm) = c.in_ok-skip_data.ensures in
    refusal_replied takes go c.args.request.now (A.left c.args.source.now) (A.left c.skip_data.new.source) (A.faults c.args.source.now) (A.faults c.skip_data.new.source)
    (B.written c.args.sink.now) (B.written c.reply.new.sink) (B.faults c.args.sink.now) (B.faults c.reply.new.sink)
    c.args.errno bytes port c.reply.result idle (whole ∙ c.data_length-size.ensures) taken calm c.reply.ensures

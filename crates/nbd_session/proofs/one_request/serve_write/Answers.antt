use Rattle.std.proofs.Common.{◌≡◌, ◌∙◌, length, subst, sym, arith}
use Rattle.std.proofs.lemmas.Grind.{common_steps}
use Rattle.std.proofs.lemmas.Result.{err_from_is_err_and}
use Rattle.nbd_session.specs.declared.errno.Errno.TheVariants as errno
use Rattle.nbd_session.specs.declared.job.Job.TheVariants.{Write}
use Rattle.nbd_session.specs.Replies.{Bad, answer_of}
use Rattle.nbd_session.specs.Sessions.{IsCut}
use Rattle.nbd_session.proofs.Replied.{job_replied, job_cut, write-no_memory}
use Rattle.nbd_session.proofs.one_request.serve_write.Goals as goal

pub returns-in_err-skip_data : goal.returns-in_err-skip_data
returns-in_err-skip_data g c = λ go idle.
    let p = err_from_is_err_and c.from_residual.result c.from_residual.ensures.1 in
    let A = g.A.Source in
    let B = g.B.Sink in
    rw (p.1, p.2)
    (job_cut g.P.ImagePort.flush_takes_memory go c.args.request.now (A.left c.args.source.now) (A.left c.skip_data.new.source) (A.faults c.args.source.now) (A.faults c.skip_data.new.source)
    (B.written c.args.sink.now) (B.faults c.args.sink.now) (g.P.ImagePort.state c.args.port.now) c.in_err-skip_data.field-0.0 (Write c.args.change.at c.args.change.count c.args.change.fua)
    (subst (λ size. IsCut (A.left c.args.source.now) (A.left c.skip_data.new.source) (A.faults c.args.source.now) (A.faults c.skip_data.new.source) size c.in_err-skip_data.field-0.0)
    (sym c.requires.2) c.in_err-skip_data.ensures))

pub returns-then-is_err : goal.returns-then-is_err
returns-then-is_err g c = λ go idle.
    let A = g.A.Source in
    let B = g.B.Sink in
    let port = g.P.ImagePort.state c.args.port.now in
    let (bytes, whole, taken, calm) = c.in_ok-skip_data.ensures in
    job_replied g.P.ImagePort.flush_takes_memory go c.args.request.now (A.left c.args.source.now) (A.left c.skip_data.new.source) (A.faults c.args.source.now) (A.faults c.skip_data.new.source)
    (B.written c.args.sink.now) (B.written c.reply.new.sink) (B.faults c.args.sink.now) (B.faults c.reply.new.sink)
    (Write c.args.change.at c.args.change.count c.args.change.fua) bytes (Bad errno.Memory) port port c.reply.result idle (whole ∙ sym c.requires.2) taken calm
    (write-no_memory g.P.ImagePort.flush_takes_memory port c.args.change.at c.args.change.count c.args.change.fua bytes) c.reply.ensures

pub returns-in_err-fill : goal.returns-in_err-fill
returns-in_err-fill g c = λ go idle.
    let p = err_from_is_err_and c.from_residual-in_err-fill.result c.from_residual-in_err-fill.ensures.1 in
    let A = g.A.Source in
    let B = g.B.Sink in
    let long : length c.fill.new.out ≡ c.args.request.now.length = grind (arith, common_steps) in
    rw (p.1, p.2)
    (job_cut g.P.ImagePort.flush_takes_memory go c.args.request.now (A.left c.args.source.now) (A.left c.fill.new.source) (A.faults c.args.source.now) (A.faults c.fill.new.source)
    (B.written c.args.sink.now) (B.faults c.args.sink.now) (g.P.ImagePort.state c.args.port.now) c.in_err-fill.field-0.0 (Write c.args.change.at c.args.change.count c.args.change.fua)
    (subst (λ size. IsCut (A.left c.args.source.now) (A.left c.fill.new.source) (A.faults c.args.source.now) (A.faults c.fill.new.source) size c.in_err-fill.field-0.0)
    (long ∙ sym c.requires.2) c.in_err-fill.ensures))

pub returns : goal.returns
returns g c = λ go idle.
    let A = g.A.Source in
    let B = g.B.Sink in
    let long : length c.fill.new.out ≡ c.args.request.now.length = grind (arith, common_steps) in
    job_replied g.P.ImagePort.flush_takes_memory go c.args.request.now (A.left c.args.source.now) (A.left c.fill.new.source) (A.faults c.args.source.now) (A.faults c.fill.new.source)
    (B.written c.args.sink.now) (B.written c.reply-2.new.sink) (B.faults c.args.sink.now) (B.faults c.reply-2.new.sink)
    (Write c.args.change.at c.args.change.count c.args.change.fua) c.fill.new.out (answer_of c.write_sectors-answer.result) (g.P.ImagePort.state c.args.port.now) (g.P.ImagePort.state c.write_sectors-answer.new.port)
    c.reply-2.result idle (long ∙ sym c.requires.2) c.in_ok-fill.ensures.0 c.in_ok-fill.ensures.1 (record { does = c.write_sectors-answer.ensures.does; cause = c.write_sectors-answer.ensures.cause }) c.reply-2.ensures

use Rattle.std.proofs.Common.{[], subst, sym, refl}
use Rattle.std.proofs.KnownBytes.{Consumes-nil}
use Rattle.nbd_session.specs.declared.job.Job.TheVariants.{Zero, Flush}
use Rattle.nbd_session.specs.Replies.{answer_of}
use Rattle.nbd_session.specs.Jobs.{IsInside}
use Rattle.nbd_session.proofs.Replied.{job_replied}
use Rattle.nbd_session.proofs.one_request.serve_job.Goals as goal

pub returns-in-Read : goal.returns-in-Read
returns-in-Read g c = λ go idle.
    rw c.in-Read.is (c.serve_read.ensures go (g.A.Source.left c.args.source.now) (g.A.Source.faults c.args.source.now) idle)

pub returns-in-Write : goal.returns-in-Write
returns-in-Write g c = λ go idle. rw c.in-Write.is (c.serve_write.ensures go idle)

pub returns-in-Zero : goal.returns-in-Zero
returns-in-Zero g c = λ go idle.
    let A = g.A.Source in
    let B = g.B.Sink in
    let port = g.P.ImagePort.state c.args.port.now in
    let inside = subst (IsInside port.base.sectors c.args.request.now) c.in-Zero.is c.requires in
    rw c.in-Zero.is
    (job_replied g.P.ImagePort.flush_takes_memory go c.args.request.now (A.left c.args.source.now) (A.left c.args.source.now) (A.faults c.args.source.now) (A.faults c.args.source.now)
    (B.written c.args.sink.now) (B.written c.reply.new.sink) (B.faults c.args.sink.now) (B.faults c.reply.new.sink)
    (Zero c.in-Zero.at c.in-Zero.count c.in-Zero.fua) [] (answer_of c.zero_sectors-answer.result) port (g.P.ImagePort.state c.zero_sectors-answer.new.port)
    c.reply.result idle (sym inside.1) (Consumes-nil (A.left c.args.source.now)) refl (record { does = c.zero_sectors-answer.ensures.does; cause = c.zero_sectors-answer.ensures.cause }) c.reply.ensures)

pub returns-in-Flush : goal.returns-in-Flush
returns-in-Flush g c = λ go idle.
    let A = g.A.Source in
    let B = g.B.Sink in
    let port = g.P.ImagePort.state c.args.port.now in
    let inside = subst (IsInside port.base.sectors c.args.request.now) c.in-Flush.is c.requires in
    rw c.in-Flush.is
    (job_replied g.P.ImagePort.flush_takes_memory go c.args.request.now (A.left c.args.source.now) (A.left c.args.source.now) (A.faults c.args.source.now) (A.faults c.args.source.now)
    (B.written c.args.sink.now) (B.written c.reply-in-Flush.new.sink) (B.faults c.args.sink.now) (B.faults c.reply-in-Flush.new.sink)
    Flush [] (answer_of c.flush_all-answer.result) port (g.P.ImagePort.state c.flush_all-answer.new.port)
    c.reply-in-Flush.result idle (sym inside) (Consumes-nil (A.left c.args.source.now)) refl (record { does = c.flush_all-answer.ensures.does; cause = c.flush_all-answer.ensures.cause }) c.reply-in-Flush.ensures)

use Rattle.std.proofs.Common.{[], subst, sym, refl}
use Rattle.std.proofs.KnownBytes.{Consumes-nil}
use Rattle.nbd_session.specs.declared.errno.Errno.TheVariants as errno
use Rattle.nbd_session.specs.declared.job.Job.TheVariants.{Read}
use Rattle.nbd_session.specs.Replies.{Good, Bad}
use Rattle.nbd_session.specs.Sessions.{Sends}
use Rattle.nbd_session.proofs.Charged.{charges_data}
use Rattle.nbd_session.proofs.Replied.{job_replied, read-no_memory}
use Rattle.nbd_session.proofs.one_request.serve_read.Goals as goal

pub returns-then-is_err : goal.returns-then-is_err
returns-then-is_err g c = λ go left reads idle.
    let B = g.B.Sink in
    let port = g.P.ImagePort.state c.args.port.now in
    job_replied g.P.ImagePort.flush_takes_memory go c.args.request.now left left reads reads
    (B.written c.args.sink.now) (B.written c.reply.new.sink) (B.faults c.args.sink.now) (B.faults c.reply.new.sink)
    (Read c.args.at c.args.count) [] (Bad errno.Memory) port port c.reply.result idle (sym c.requires.2) (Consumes-nil left) refl
    (read-no_memory g.P.ImagePort.flush_takes_memory port c.args.at c.args.count []) c.reply.ensures

pub returns-in-Ok : goal.returns-in-Ok
returns-in-Ok g c = λ go left reads idle.
    let B = g.B.Sink in
    let (bytes, is, done) = c.in-Ok.ensures.does in
    let cause = charges_data (g.P.ImagePort.state c.args.port.now) (g.P.ImagePort.state c.read_reply.new.port) bytes c.in-Ok.ensures.cause in
    job_replied g.P.ImagePort.flush_takes_memory go c.args.request.now left left reads reads
    (B.written c.args.sink.now) (B.written c.send.new.sink) (B.faults c.args.sink.now) (B.faults c.send.new.sink)
    (Read c.args.at c.args.count) [] (Good bytes) (g.P.ImagePort.state c.args.port.now) (g.P.ImagePort.state c.read_reply.new.port) c.send.result idle
    (sym c.requires.2) (Consumes-nil left) refl (record { does = done; cause = cause })
    (subst (λ sent. Sends (B.written c.args.sink.now) (B.written c.send.new.sink) (B.faults c.args.sink.now) (B.faults c.send.new.sink) sent c.send.result) is c.send.ensures)

pub returns-in-Err : goal.returns-in-Err
returns-in-Err g c = λ go left reads idle.
    let B = g.B.Sink in
    job_replied g.P.ImagePort.flush_takes_memory go c.args.request.now left left reads reads
    (B.written c.args.sink.now) (B.written c.reply-in-Err.new.sink) (B.faults c.args.sink.now) (B.faults c.reply-in-Err.new.sink)
    (Read c.args.at c.args.count) [] (Bad c.in-Err.errno) (g.P.ImagePort.state c.args.port.now) (g.P.ImagePort.state c.read_reply.new.port) c.reply-in-Err.result idle
    (sym c.requires.2) (Consumes-nil left) refl (record { does = c.in-Err.ensures.does; cause = c.in-Err.ensures.cause }) c.reply-in-Err.ensures

-- A connection that ended was served.
use Rattle.std.proofs.Common.{Bool}
use Rattle.nbd_session.specs.declared.served.Served.{Served}
use Rattle.nbd_session.specs.declared.served.Served.TheVariants.{Done, Aborted, BadHello, BadMagic, Truncated, Oversized, TooManyOptions, UnknownExport, TooManyRequests, SourceFault, SinkFault, Memory}
use Rattle.nbd_session.specs.Talks.{Rest}
use Rattle.nbd_session.specs.Sessions.{Ends, Ended, Serves}

pub serves-ended : (takes : Bool) (talk : Rest) (old new : Ends) (end : Served) → Ended takes talk old new end → Serves takes talk old new end
serves-ended takes talk old new Done e = e
serves-ended takes talk old new Aborted e = e
serves-ended takes talk old new BadHello e = e
serves-ended takes talk old new BadMagic e = e
serves-ended takes talk old new Truncated e = e
serves-ended takes talk old new (Oversized n) e = e
serves-ended takes talk old new TooManyOptions e = e
serves-ended takes talk old new UnknownExport e = e
serves-ended takes talk old new TooManyRequests e = e
serves-ended takes talk old new SourceFault e = e
serves-ended takes talk old new SinkFault e = e
serves-ended takes talk old new Memory e = absurd e.why

-- The faults that the connections of a lane are told.
use Rattle.std.specs.Prelude.{ℕ, ◌+◌, Bool, List, [], ◌∷◌, count_by}
use Rattle.flat_image.specs.Ports.{PortState}
use Rattle.nbd_session.specs.declared.served.Served.{Served}
use Rattle.nbd_session.specs.declared.served.Served.TheVariants.{Done, Aborted, BadHello, BadMagic, Truncated, Oversized, TooManyOptions, UnknownExport, TooManyRequests, SourceFault, SinkFault, Memory}
use Rattle.nbd_session.specs.Replies.{Answer}
use Rattle.nbd_session.specs.Talks.{Rest, talk}
use Rattle.nbd_session.specs.Sessions.{Ends, ends, Serves}
use Rattle.nbd_session.specs.SessionLaws.{is_io}
use Rattle.lane_serve.specs.Lanes.{Ways, Connection, AreServed}

-- the answers in the replies of a connection that was served
abbrev pub answers_in : (takes : Bool) (talk : Rest) (old new : Ends) (end : Served) → Serves takes talk old new end → List Answer
answers_in takes talk old new Done served = served.answers
answers_in takes talk old new Aborted served = served.answers
answers_in takes talk old new BadHello served = served.answers
answers_in takes talk old new BadMagic served = served.answers
answers_in takes talk old new Truncated served = served.answers
answers_in takes talk old new (Oversized length) served = served.answers
answers_in takes talk old new TooManyOptions served = served.answers
answers_in takes talk old new UnknownExport served = served.answers
answers_in takes talk old new TooManyRequests served = served.answers
answers_in takes talk old new SourceFault served = served.answers
answers_in takes talk old new SinkFault served = served.answers
answers_in takes talk old new Memory served = []

-- how many EIO replies there are, of connections one after another
abbrev pub eio_count : {A B : Type 0} (w : Ways A B) (connections : List (Connection A B)) (old new : PortState) → AreServed w connections old new → ℕ
eio_count w [] old new served = 0
eio_count w (c ∷ connections) old new served =
    count_by is_io (answers_in w.takes (talk w.export old.base.sectors) (ends (w.left c.source) (w.reads c.source) (w.written c.sink) (w.writes c.sink) old)
    (ends (w.left c.source_after) (w.reads c.source_after) (w.written c.sink_after) (w.writes c.sink_after) served.0) c.end served.1)
    + eio_count w connections served.0 new served.2

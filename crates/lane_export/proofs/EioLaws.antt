-- Each EIO of a lane has raised its port's count of faults.
use Rattle.std.proofs.Common.{◌≡◌, ℕ, ◌+◌, ◌≤◌, Bool, List, [], ◌∷◌, count_by, Option, sym, ap, ◌∙◌, arith}
use Rattle.flat_image.specs.Entries.{calls_by}
use Rattle.flat_image.specs.History.{History, fault_count}
use Rattle.flat_image.specs.Ports.{PortState}
use Rattle.nbd_session.specs.declared.served.Served.{Served}
use Rattle.nbd_session.specs.declared.served.Served.TheVariants.{Done, Aborted, BadHello, BadMagic, Truncated, Oversized, TooManyOptions, UnknownExport, TooManyRequests, SourceFault, SinkFault, Memory}
use Rattle.nbd_session.specs.Talks.{Rest, talk}
use Rattle.nbd_session.specs.Sessions.{Ends, ends, Serves}
use Rattle.nbd_session.specs.SessionLaws.{is_io}
use Rattle.nbd_session.proofs.FitsLaws.{fits_faults}
use Rattle.lane_serve.specs.declared.lane.LaneEnd.{LaneEnd}
use Rattle.lane_serve.specs.Listeners.{Listening}
use Rattle.lane_serve.specs.Lanes.{Ways, Connection, AreServed}
use Rattle.lane_export.specs.Lanes.{Member, LaneIn}
use Rattle.lane_export.specs.Told.{answers_in, eio_count}

serves-faults : (takes : Bool) (talk : Rest) (old new : Ends) (end : Served) (h : Serves takes talk old new end) → old.port.faults + count_by is_io (answers_in takes talk old new end h) ≤ new.port.faults
serves-faults takes talk old new Done h = fits_faults takes old.port new.port (talk h.read h.answers).passed h.answers h.fits
serves-faults takes talk old new Aborted h = fits_faults takes old.port new.port (talk h.read h.answers).passed h.answers h.fits
serves-faults takes talk old new BadHello h = fits_faults takes old.port new.port (talk h.read h.answers).passed h.answers h.fits
serves-faults takes talk old new BadMagic h = fits_faults takes old.port new.port (talk h.read h.answers).passed h.answers h.fits
serves-faults takes talk old new Truncated h = fits_faults takes old.port new.port (talk h.read h.answers).passed h.answers h.fits
serves-faults takes talk old new (Oversized length) h = fits_faults takes old.port new.port (talk h.read h.answers).passed h.answers h.fits
serves-faults takes talk old new TooManyOptions h = fits_faults takes old.port new.port (talk h.read h.answers).passed h.answers h.fits
serves-faults takes talk old new UnknownExport h = fits_faults takes old.port new.port (talk h.read h.answers).passed h.answers h.fits
serves-faults takes talk old new TooManyRequests h = fits_faults takes old.port new.port (talk h.read h.answers).passed h.answers h.fits
serves-faults takes talk old new SourceFault h = fits_faults takes old.port new.port (talk h.read h.answers).passed h.answers h.fits
serves-faults takes talk old new SinkFault h = fits_faults takes old.port new.port (talk h.read h.answers).passed h.answers h.fits
serves-faults takes talk old new Memory h = (let same : new.port.faults ≡ old.port.faults = ap (λ (e : Ends). e.port.faults) h in omega (arith, same))

served-faults : {A B : Type 0} (w : Ways A B) (cs : List (Connection A B)) (p q : PortState) (h : AreServed w cs p q) → eio_count w cs p q h + p.faults ≤ q.faults
served-faults w [] p q h = (let same : q.faults ≡ p.faults = ap (λ (s : PortState). s.faults) h in omega (arith, same))
served-faults w (c ∷ cs) p q h =
    let one = serves-faults w.takes (talk w.export p.base.sectors) (ends (w.left c.source) (w.reads c.source) (w.written c.sink) (w.writes c.sink) p)
    (ends (w.left c.source_after) (w.reads c.source_after) (w.written c.sink_after) (w.writes c.sink_after) h.0) c.end h.1 in
    let more = served-faults w cs h.0 q h.2 in
    omega (arith, one, more)

-- they are at most the lane's own Fault entries and what its shelf has counted meanwhile
pub lane-eio : {A B : Type 0} (w : Ways A B) (history : History) (old : Member A B) (told : Option (Listening A B Served)) (faults shelf connections : ℕ) (end : LaneEnd)
    (lane : LaneIn w history old told faults shelf connections end)
    → eio_count w lane.ran.served old.port lane.port lane.ran.are + old.port.faults ≤ fault_count (calls_by old.port.number history) + shelf
lane-eio w history old told faults shelf connections end lane =
    let all = served-faults w lane.ran.served old.port lane.port lane.ran.are in
    let counted = lane.counted in
    let own : fault_count (calls_by old.port.number history) ≡ fault_count (calls_by old.port.number lane.port.seen) = ap (λ (l : History). fault_count l) lane.own in
    omega (arith, all, counted, own)

-- From the clause of a connection to the one history.
use Rattle.std.proofs.Common.{ℕ, false, List, [], ◌∷◌, ◌++◌, refl, ap, ◌∙◌}
use Rattle.flat_image.specs.declared.act.Act.{Act}
use Rattle.flat_image.specs.declared.act.Act.TheVariants as act
use Rattle.flat_image.specs.Entries.{entry, calls_by, StartsWith}
use Rattle.flat_image.specs.History.{History}
use Rattle.flat_image.specs.Ports.{PortState}
use Rattle.flat_image.proofs.Entries.{StartsWith-trans, calls_by-append}
use Rattle.nbd_session.specs.declared.export.Export.{Export}
use Rattle.nbd_session.specs.declared.job.Job.{Job}
use Rattle.nbd_session.specs.declared.job.Job.TheVariants.{Read, Write, Zero, Flush}
use Rattle.nbd_session.specs.declared.served.Served.{Served}
use Rattle.nbd_session.specs.declared.served.Served.TheVariants.{Done, Aborted, BadHello, BadMagic, Truncated, Oversized, TooManyOptions, UnknownExport, TooManyRequests, SourceFault, SinkFault, Memory}
use Rattle.nbd_session.specs.Replies.{Answer, Good, Bad}
use Rattle.nbd_session.specs.Talks.{Passed, talk}
use Rattle.nbd_session.specs.Sessions.{Ends, Ended, Serves}
use Rattle.nbd_session.specs.SessionLaws.{AreAnswered, Holds, FitsHistory}
use Rattle.nbd_session.specs.Fits.{Fits}
use Rattle.image_read.specs.Headline.{IsReadWell, AreReadWell, IsServedIn, Headline}

-- one request
read-well : (old new : PortState) (history : History) → StartsWith history new.seen → (before : List Act) (job : Job) (items : List ℕ) (noted : List Act) (answer : Answer)
    → Holds false old new before job items noted answer → IsReadWell old history job answer
read-well old new history begun before (Read at count) items noted (Good bytes) h =
    let r = h.0 in
    record {
      before = r.0;
      place = StartsWith-trans history new.seen (r.0 ++ entry old.number (act.Read at count) ∷ []) begun r.2;
      behind = record { rest = r.1.more; is = r.1.goes_on };
      flat = r.3;
    }
read-well old new history begun before (Read at count) items noted (Bad errno) h = tt
read-well old new history begun before (Write at count fua) items noted answer h = tt
read-well old new history begun before (Zero at count fua) items noted answer h = tt
read-well old new history begun before Flush items noted answer h = tt

-- and all of them
reads-well : (old new : PortState) (history : History) → StartsWith history new.seen → (before : List Act) (passed : List Passed) (answers : List Answer) (acts : List Act)
    → AreAnswered false old new before passed answers acts → AreReadWell old history passed answers
reads-well old new history begun before [] answers acts are = tt
reads-well old new history begun before (p ∷ passed) [] acts are = tt
reads-well old new history begun before (p ∷ passed) (answer ∷ answers) acts are = (
  read-well old new history begun before p.job p.bytes are.0 answer are.2,
  reads-well old new history begun (before ++ are.0) passed answers acts are.4,
)

served-in : (export : Export) (old new : Ends) (end : Served) (history : History)
    → ((passed : List Passed) (answers : List Answer) → Fits false old.port passed answers new.port → FitsHistory false old.port passed answers new.port)
    → Ended false (talk export old.port.base.sectors) old new end → StartsWith history new.port.seen → IsServedIn export old new end history
served-in export old new end history law e begun =
    let t = talk export old.port.base.sectors e.read e.answers in
    let f = law t.passed e.answers e.fits in
    record {
      read = e.read;
      answers = e.answers;
      taken = e.taken;
      replies = e.why;
      faults = e.faults;
      begins = StartsWith-trans history new.port.seen old.port.seen begun (record { rest = f.more; is = f.seen });
      acts = f.acts;
      own = ap (calls_by old.port.number) f.seen ∙ (calls_by-append old.port.number old.port.seen f.more
          ∙ ap (λ (l : History). calls_by old.port.number old.port.seen ++ l) f.own);
      answered = f.answered;
      reads = reads-well old.port new.port history begun [] t.passed e.answers f.acts f.answered;
    }

pub headline : (export : Export) (old new : Ends) (end : Served) (history : History)
    → ((passed : List Passed) (answers : List Answer) → Fits false old.port passed answers new.port → FitsHistory false old.port passed answers new.port)
    → Serves false (talk export old.port.base.sectors) old new end → Headline export old new end history
headline export old new Done history law s other begun = served-in export old new Done history law s begun
headline export old new Aborted history law s other begun = served-in export old new Aborted history law s begun
headline export old new BadHello history law s other begun = served-in export old new BadHello history law s begun
headline export old new BadMagic history law s other begun = served-in export old new BadMagic history law s begun
headline export old new Truncated history law s other begun = served-in export old new Truncated history law s begun
headline export old new (Oversized length) history law s other begun = served-in export old new (Oversized length) history law s begun
headline export old new TooManyOptions history law s other begun = served-in export old new TooManyOptions history law s begun
headline export old new UnknownExport history law s other begun = served-in export old new UnknownExport history law s begun
headline export old new TooManyRequests history law s other begun = served-in export old new TooManyRequests history law s begun
headline export old new SourceFault history law s other begun = served-in export old new SourceFault history law s begun
headline export old new SinkFault history law s other begun = served-in export old new SinkFault history law s begun
headline export old new Memory history law s other begun = absurd (other refl)

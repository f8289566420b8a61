-- How the parts of a connection follow one another.
use Rattle.std.proofs.Common.{◌≡◌, ℕ, ◌<◌, inl, inr, Bool, List, [], ◌∷◌, ◌++◌, length, refl, sym, ap, ◌∙◌, subst, arith, append_assoc, append-nil}
use Rattle.std.specs.Prelude.{Option, Result, Ok, Err}
use Rattle.std.specs.Io.KnownBytes.{Appends, Consumes, IsAtEnd}
use Rattle.std.specs.List.{concat}
use Rattle.std.proofs.lemmas.List.Folds.{concat-append}
use Rattle.std.proofs.KnownBytes.{Consumes-nil, Consumes-trans, Appends-nil, Appends-trans}
use Rattle.flat_image.specs.Ports.{PortState}
use Rattle.nbd_session.specs.declared.served.Served.{Served}
use Rattle.nbd_session.specs.declared.served.Served.TheVariants.{Done, Aborted, BadHello, BadMagic, Truncated, Oversized, TooManyOptions, UnknownExport, TooManyRequests, SourceFault, SinkFault, Memory}
use Rattle.nbd_session.specs.Replies.{Answer, reply_of}
use Rattle.nbd_session.specs.Talks.{Passed, Talk, Rest, front, stop, stop_at, asks}
use Rattle.nbd_session.specs.Fits.{Passes, Fits}
use Rattle.nbd_session.specs.Sessions.{Ends, ends, TellsFaults, Ending, Why, Ended, Went, GoesOn, IsIdle, said, IsCut, Sends}

-- ---- roomy answers

pub Fits-append : (takes : Bool) (p q r : PortState) (passed others : List Passed) (xs answers : List Answer)
    → Fits takes p passed xs q → Fits takes q others answers r → Fits takes p (passed ++ others) (xs ++ answers) r
Fits-append takes p q r [] others [] answers first second = subst (λ s. Fits takes s others answers r) first second
Fits-append takes p q r [] others (x ∷ xs) answers first second = absurd first
Fits-append takes p q r (y ∷ passed) others [] answers first second = absurd first
Fits-append takes p q r (y ∷ passed) others (x ∷ xs) answers (mid, does, fits) second =
    (mid, does, Fits-append takes mid q r passed others xs answers fits second)

-- ---- talks

-- a talk with other bytes sent and other requests passed
abbrev with_parts : Talk → List (List ℕ) → List Passed → Talk
with_parts t pieces passed = record { pieces = pieces; passed = passed; end = t.end; hungry = t.hungry; begun = t.begun; unread = t.unread }

pub front-front : (written more : List (List ℕ)) (passed others : List Passed) (t : Talk)
    → front written passed (front more others t) ≡ front (written ++ more) (passed ++ others) t
front-front written more passed others t =
    ap (λ l. with_parts t l (passed ++ (others ++ t.passed))) (sym (append_assoc written more t.pieces))
    ∙ ap (λ l. with_parts t ((written ++ more) ++ t.pieces) l) (sym (append_assoc passed others t.passed))

-- ---- one part after another

joined : (a b c : Option (List ℕ)) (xs ys : List (List ℕ)) → Appends a b (concat xs) → Appends b c (concat ys) → Appends a c (concat (xs ++ ys))
joined a b c xs ys first second = subst (Appends a c) (sym (concat-append xs ys)) (Appends-trans a b c (concat xs) (concat ys) first second)

-- no fault came, and none ended the connection
pub tells_none : {old new : Ends} {end : Served} → new.read_faults ≡ old.read_faults → new.write_faults ≡ old.write_faults
    → (end ≡ SourceFault → ⊥) → (end ≡ SinkFault → ⊥) → TellsFaults old new end
tells_none reads writes no_source no_sink = record {
  source = record { later = omega (arith, reads); failed = λ is. absurd (no_source is); only = λ rose. absurd (omega (arith, reads, rose)) };
  sink = record { later = omega (arith, writes); failed = λ is. absurd (no_sink is); only = λ rose. absurd (omega (arith, writes, rose)) };
}

pub tells_source : {old new : Ends} → old.read_faults < new.read_faults → new.write_faults ≡ old.write_faults → TellsFaults old new SourceFault
tells_source rose writes = record {
  source = record { later = omega (arith, rose); failed = λ is. rose; only = λ _. refl };
  sink = record { later = omega (arith, writes); failed = λ is. absurd cc; only = λ more. absurd (omega (arith, writes, more)) };
}

pub tells_sink : {old new : Ends} → new.read_faults ≡ old.read_faults → old.write_faults < new.write_faults → TellsFaults old new SinkFault
tells_sink reads rose = record {
  source = record { later = omega (arith, reads); failed = λ is. absurd cc; only = λ more. absurd (omega (arith, reads, more)) };
  sink = record { later = omega (arith, rose); failed = λ is. rose; only = λ _. refl };
}

-- nothing had failed before
tells_after : {old mid new : Ends} {end : Served} → mid.read_faults ≡ old.read_faults → mid.write_faults ≡ old.write_faults
    → TellsFaults mid new end → TellsFaults old new end
tells_after reads writes tells = record {
  source = record {
    later = omega (arith, reads, tells.source.later);
    failed = λ is. let rose = tells.source.failed is in omega (arith, reads, rose);
    only = λ rose. tells.source.only (omega (arith, reads, rose));
  };
  sink = record {
    later = omega (arith, writes, tells.sink.later);
    failed = λ is. let rose = tells.sink.failed is in omega (arith, writes, rose);
    only = λ rose. tells.sink.only (omega (arith, writes, rose));
  };
}

-- nothing was done
pub went_none : {takes : Bool} (talk : Rest) (old : Ends) → Went takes talk talk old old
went_none {takes} talk old = record {
  read = [];
  pieces = [];
  passed = [];
  answers = [];
  taken = Consumes-nil old.left;
  sent = Appends-nil old.written;
  fits = refl;
  reads_calm = refl;
  writes_calm = refl;
  goes = λ more others. refl;
}

pub went_trans : {takes : Bool} {a b c : Rest} {old mid new : Ends} → Went takes a b old mid → Went takes b c mid new → Went takes a c old new
went_trans {takes} {a} {b} {c} {old} {mid} {new} first second = record {
  read = first.read ++ second.read;
  pieces = first.pieces ++ second.pieces;
  passed = first.passed ++ second.passed;
  answers = first.answers ++ second.answers;
  taken = Consumes-trans old.left mid.left new.left first.read second.read first.taken second.taken;
  sent = joined old.written mid.written new.written first.pieces second.pieces first.sent second.sent;
  fits = Fits-append takes old.port mid.port new.port first.passed second.passed first.answers second.answers first.fits second.fits;
  reads_calm = second.reads_calm ∙ first.reads_calm;
  writes_calm = second.writes_calm ∙ first.writes_calm;
  goes = λ more others.
      ap (λ l. a l ((first.answers ++ second.answers) ++ others)) (append_assoc first.read second.read more)
      ∙ ap (λ l. a (first.read ++ (second.read ++ more)) l) (append_assoc first.answers second.answers others)
      ∙ first.goes (second.read ++ more) (second.answers ++ others)
      ∙ ap (front first.pieces first.passed) (second.goes more others)
      ∙ front-front first.pieces second.pieces first.passed second.passed (c more others);
}

-- the same parts under other names
pub went_along : {takes : Bool} {a b : Rest} {old new : Ends} (c d : Rest)
    → ((bytes : List ℕ) (answers : List Answer) → c bytes answers ≡ a bytes answers)
    → ((bytes : List ℕ) (answers : List Answer) → b bytes answers ≡ d bytes answers)
    → Went takes a b old new → Went takes c d old new
went_along c d before behind w = record {
  read = w.read;
  pieces = w.pieces;
  passed = w.passed;
  answers = w.answers;
  taken = w.taken;
  sent = w.sent;
  fits = w.fits;
  reads_calm = w.reads_calm;
  writes_calm = w.writes_calm;
  goes = λ more others. before _ _ ∙ w.goes more others ∙ ap (front w.pieces w.passed) (behind more others);
}

pub ended_along : {takes : Bool} {a : Rest} {old new : Ends} {end : Served} (c : Rest)
    → ((bytes : List ℕ) (answers : List Answer) → c bytes answers ≡ a bytes answers) → Ended takes a old new end → Ended takes c old new end
ended_along {takes} {a} {old} {new} {end} c same e = record {
  read = e.read;
  answers = e.answers;
  taken = e.taken;
  fits = subst (λ t. Fits takes old.port t.passed e.answers new.port) (sym (same e.read e.answers)) e.fits;
  why = subst (λ t. Why old new t end) (sym (same e.read e.answers)) e.why;
  faults = e.faults;
}

ending_after : (old mid new : Ends) (pieces : List (List ℕ)) (passed : List Passed) (t : Talk) (end : Served)
    → Appends old.written mid.written (concat pieces) → Ending mid new t end → Ending old new (front pieces passed t) end
ending_after old mid new pieces passed t end sent e =
    (e.0, joined old.written mid.written new.written pieces t.pieces sent e.1, e.2, e.3)

why_after : (old mid new : Ends) (pieces : List (List ℕ)) (passed : List Passed) (t : Talk)
    → Appends old.written mid.written (concat pieces) → (end : Served) → Why mid new t end → Why old new (front pieces passed t) end
why_after old mid new pieces passed t sent Done e = ending_after old mid new pieces passed t Done sent e
why_after old mid new pieces passed t sent Aborted e = ending_after old mid new pieces passed t Aborted sent e
why_after old mid new pieces passed t sent BadHello e = ending_after old mid new pieces passed t BadHello sent e
why_after old mid new pieces passed t sent BadMagic e = ending_after old mid new pieces passed t BadMagic sent e
why_after old mid new pieces passed t sent Truncated e = ending_after old mid new pieces passed t Truncated sent e
why_after old mid new pieces passed t sent (Oversized n) e = ending_after old mid new pieces passed t (Oversized n) sent e
why_after old mid new pieces passed t sent TooManyOptions e = ending_after old mid new pieces passed t TooManyOptions sent e
why_after old mid new pieces passed t sent UnknownExport e = ending_after old mid new pieces passed t UnknownExport sent e
why_after old mid new pieces passed t sent TooManyRequests e = ending_after old mid new pieces passed t TooManyRequests sent e
why_after old mid new pieces passed t sent SourceFault (last, hungry, unread) =
    (joined old.written mid.written new.written pieces t.pieces sent last, hungry, unread)
why_after old mid new pieces passed t sent SinkFault (part, begun, unread) = (
  record {
    before = pieces ++ part.before;
    last = part.last;
    are = ap (λ l. pieces ++ l) part.are ∙ sym (append_assoc pieces part.before (part.last ∷ []));
    mid = part.mid;
    sent = joined old.written mid.written part.mid pieces part.before sent part.sent;
    part = part.part;
  },
  begun,
  unread,
)
why_after old mid new pieces passed t sent Memory e = absurd e

-- a part is behind, and then the connection ended
pub ended_after : {takes : Bool} {a b : Rest} {old mid new : Ends} {end : Served} → Went takes a b old mid → Ended takes b mid new end → Ended takes a old new end
ended_after {takes} {a} {b} {old} {mid} {new} {end} first second =
    let same = first.goes second.read second.answers in
    record {
      read = first.read ++ second.read;
      answers = first.answers ++ second.answers;
      taken = Consumes-trans old.left mid.left new.left first.read second.read first.taken second.taken;
      fits = subst (λ t. Fits takes old.port t.passed (first.answers ++ second.answers) new.port) (sym same)
          (Fits-append takes old.port mid.port new.port first.passed (b second.read second.answers).passed first.answers second.answers first.fits second.fits);
      why = subst (λ t. Why old new t end) (sym same)
          (why_after old mid new first.pieces first.passed (b second.read second.answers) first.sent end second.why);
      faults = tells_after first.reads_calm first.writes_calm second.faults;
    }

-- a part is behind, and then the connection goes on or ended
pub goes_after : {T : Type 0} {takes : Bool} {a b : Rest} {old mid : Ends} (rest : T → Rest) (new : Ends) (result : Result T Served)
    → Went takes a b old mid → GoesOn takes b rest mid new result → GoesOn takes a rest old new result
goes_after rest new (Ok value) first second = went_trans first second
goes_after rest new (Err end) first second = ended_after first second

-- ---- reading

-- just these bytes were taken
pub went_read : {takes : Bool} (talk rest : Rest) (left left_now : Option (List ℕ)) (reads reads_now : ℕ) (written : Option (List ℕ)) (writes : ℕ) (port : PortState) (bytes : List ℕ)
    → Consumes left left_now bytes → reads_now ≡ reads
    → ((more : List ℕ) (others : List Answer) → talk (bytes ++ more) others ≡ rest more others)
    → Went takes talk rest (ends left reads written writes port) (ends left_now reads_now written writes port)
went_read talk rest left left_now reads reads_now written writes port bytes taken calm goes = record {
  read = bytes;
  pieces = [];
  passed = [];
  answers = [];
  taken = taken;
  sent = Appends-nil written;
  fits = refl;
  reads_calm = calm;
  writes_calm = refl;
  goes = goes;
}

-- just these bytes were taken, and they are answered by none
pub went_unanswered : {takes : Bool} (talk rest : Rest) (left left_now : Option (List ℕ)) (reads reads_now : ℕ) (written : Option (List ℕ)) (writes : ℕ) (port : PortState) (bytes : List ℕ)
    → Consumes left left_now bytes → reads_now ≡ reads
    → ((more : List ℕ) (others : List Answer) → talk (bytes ++ more) others ≡ front ([] ∷ []) [] (rest more others))
    → Went takes talk rest (ends left reads written writes port) (ends left_now reads_now written writes port)
went_unanswered talk rest left left_now reads reads_now written writes port bytes taken calm goes = record {
  read = bytes;
  pieces = [] ∷ [];
  passed = [];
  answers = [];
  taken = taken;
  sent = Appends-nil written;
  fits = refl;
  reads_calm = calm;
  writes_calm = refl;
  goes = goes;
}

-- a word ended the connection, and nothing behind it was read. The end is no fault
pub ended_word : {takes : Bool} (talk : Rest) (left left_now : Option (List ℕ)) (reads reads_now : ℕ) (written : Option (List ℕ)) (writes : ℕ) (port : PortState) (end : Served) (begun : Bool) (bytes : List ℕ)
    → Consumes left left_now bytes → reads_now ≡ reads → talk bytes [] ≡ stop_at end begun []
    → (Ending (ends left reads written writes port) (ends left_now reads_now written writes port) (stop_at end begun []) end
    → Why (ends left reads written writes port) (ends left_now reads_now written writes port) (stop_at end begun []) end)
    → (end ≡ SourceFault → ⊥) → (end ≡ SinkFault → ⊥)
    → Ended takes talk (ends left reads written writes port) (ends left_now reads_now written writes port) end
ended_word {takes} talk left left_now reads reads_now written writes port end begun bytes taken calm same plain no_source no_sink = record {
  read = bytes;
  answers = [];
  taken = taken;
  fits = subst (λ t. Fits takes port t.passed [] port) (sym same) refl;
  why = subst (λ t. Why (ends left reads written writes port) (ends left_now reads_now written writes port) t end) (sym same)
      (plain (refl, Appends-nil written, (λ e. cc), refl));
  faults = tells_none calm refl no_source no_sink;
}

-- the bytes ended before a word that ends the connection. The end is no fault
pub ended_bytes : {takes : Bool} (talk : Rest) (left left_now : Option (List ℕ)) (reads reads_now : ℕ) (written : Option (List ℕ)) (writes : ℕ) (port : PortState) (end : Served) (begun : Bool) (bytes : List ℕ)
    → Consumes left left_now bytes → IsAtEnd left_now → reads_now ≡ reads → talk bytes [] ≡ stop end begun
    → (Ending (ends left reads written writes port) (ends left_now reads_now written writes port) (stop end begun) end
    → Why (ends left reads written writes port) (ends left_now reads_now written writes port) (stop end begun) end)
    → (end ≡ SourceFault → ⊥) → (end ≡ SinkFault → ⊥)
    → Ended takes talk (ends left reads written writes port) (ends left_now reads_now written writes port) end
ended_bytes {takes} talk left left_now reads reads_now written writes port end begun bytes taken at_end calm same plain no_source no_sink = record {
  read = bytes;
  answers = [];
  taken = taken;
  fits = subst (λ t. Fits takes port t.passed [] port) (sym same) refl;
  why = subst (λ t. Why (ends left reads written writes port) (ends left_now reads_now written writes port) t end) (sym same)
      (plain (refl, Appends-nil written, (λ e. at_end), refl));
  faults = tells_none calm refl no_source no_sink;
}

-- the source failed where more bytes were wanted
pub ended_fault : {takes : Bool} (talk : Rest) (left left_now : Option (List ℕ)) (reads reads_now : ℕ) (written : Option (List ℕ)) (writes : ℕ) (port : PortState) (end : Served) (begun : Bool) (bytes : List ℕ)
    → Consumes left left_now bytes → reads < reads_now → talk bytes [] ≡ stop end begun
    → Ended takes talk (ends left reads written writes port) (ends left_now reads_now written writes port) SourceFault
ended_fault {takes} talk left left_now reads reads_now written writes port end begun bytes taken rose same = record {
  read = bytes;
  answers = [];
  taken = taken;
  fits = subst (λ t. Fits takes port t.passed [] port) (sym same) refl;
  why = subst (λ t. Why (ends left reads written writes port) (ends left_now reads_now written writes port) t SourceFault) (sym same)
      (Appends-nil written, refl, refl);
  faults = tells_source rose refl;
}

-- fewer bytes than were wanted: the bytes ended there, or the source failed
pub ended_cut : {takes : Bool} (talk : Rest) (left left_now : Option (List ℕ)) (reads reads_now : ℕ) (written : Option (List ℕ)) (writes : ℕ) (port : PortState) (size : ℕ) (end : Served) (begun : List ℕ → Bool)
    → ((bytes : List ℕ) → length bytes < size → talk bytes [] ≡ stop Truncated (begun bytes))
    → IsCut left left_now reads reads_now size end
    → Ended takes talk (ends left reads written writes port) (ends left_now reads_now written writes port) end
ended_cut {takes} talk left left_now reads reads_now written writes port size end begun short cut =
    elim cut.cause [
      | inl (same, at_end, calm) ↦ subst (λ s. Ended takes talk (ends left reads written writes port) (ends left_now reads_now written writes port) s) (sym same)
          (ended_bytes talk left left_now reads reads_now written writes port Truncated (begun cut.bytes) cut.bytes cut.taken at_end calm (short cut.bytes cut.short) (λ e. e) (λ e. cc) (λ e. cc))
      | inr (same, rose) ↦ subst (λ s. Ended takes talk (ends left reads written writes port) (ends left_now reads_now written writes port) s) (sym same)
          (ended_fault talk left left_now reads reads_now written writes port Truncated (begun cut.bytes) cut.bytes cut.taken rose (short cut.bytes cut.short))
    ]

-- ---- answering and sending

-- a request was put to the port and answered; its reply is still to be sent
pub went_asked : {takes : Bool} (go : Rest) (cookie : ℕ) (passed : Passed) (answer : Answer) (left : Option (List ℕ)) (reads : ℕ) (written : Option (List ℕ)) (writes : ℕ) (port port_now : PortState)
    → Passes takes port port_now passed answer
    → Went takes (asks go cookie passed) (said (reply_of cookie answer) go) (ends left reads written writes port) (ends left reads written writes port_now)
went_asked go cookie passed answer left reads written writes port port_now does = record {
  read = [];
  pieces = [];
  passed = passed ∷ [];
  answers = answer ∷ [];
  taken = Consumes-nil left;
  sent = Appends-nil written;
  fits = (port_now, does, refl);
  reads_calm = refl;
  writes_calm = refl;
  goes = λ more others. refl;
}

-- bytes were sent, or the sink failed
pub sends_on : {T : Type 0} (takes : Bool) (rest : T → Rest) (go : Rest) (left : Option (List ℕ)) (reads : ℕ) (written written_now : Option (List ℕ)) (writes writes_now : ℕ) (port : PortState) (bytes : List ℕ) (result : Result T Served)
    → IsIdle go → ((value : T) → rest value ≡ go)
    → Sends written written_now writes writes_now bytes result
    → GoesOn takes (said bytes go) rest (ends left reads written writes port) (ends left reads written_now writes_now port) result
sends_on {T} takes rest go left reads written written_now writes writes_now port bytes (Ok value) idle same sent =
    subst (λ r. Went takes (said bytes go) r (ends left reads written writes port) (ends left reads written_now writes_now port)) (sym (same value)) (record {
      read = [];
      pieces = bytes ∷ [];
      passed = [];
      answers = [];
      taken = Consumes-nil left;
      sent = subst (Appends written written_now) (sym (append-nil bytes)) sent.0;
      fits = refl;
      reads_calm = refl;
      writes_calm = sent.1;
      goes = λ more others. refl;
    })
sends_on {T} takes rest go left reads written written_now writes writes_now port bytes (Err end) idle same (is, part, rose) =
    subst (λ s. Ended takes (said bytes go) (ends left reads written writes port) (ends left reads written_now writes_now port) s) (sym is) (record {
      read = [];
      answers = [];
      taken = Consumes-nil left;
      fits = subst (λ l. Fits takes port l [] port) (sym idle.1) refl;
      why = (
        record {
          before = [];
          last = bytes;
          are = ap (λ l. bytes ∷ l) idle.0;
          mid = written;
          sent = Appends-nil written;
          part = part;
        },
        idle.2,
        idle.3,
      );
      faults = tells_sink refl rose;
    })

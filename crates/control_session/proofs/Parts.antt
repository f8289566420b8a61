-- How the parts of a control follow one another.
use Rattle.std.proofs.Common.{◌≡◌, ℕ, ◌<◌, Bool, List, [], ◌∷◌, ◌++◌, refl, sym, ap, ◌∙◌, subst, arith, append_assoc}
use Rattle.std.specs.Prelude.{Option}
use Rattle.std.specs.Io.KnownBytes.{Appends}
use Rattle.std.specs.List.{concat}
use Rattle.std.proofs.lemmas.List.Folds.{concat-append}
use Rattle.std.proofs.KnownBytes.{Consumes-nil, Consumes-trans, Appends-nil, Appends-trans}
use Rattle.flat_image.specs.Ports.{PortState}
use Rattle.control_session.specs.declared.control_end.ControlEnd.{ControlEnd}
use Rattle.control_session.specs.declared.control_end.ControlEnd.TheVariants.{Quit, Ended as AtEnd, LongLine, TooManyLines, SourceFault, SinkFault, Memory}
use Rattle.control_session.specs.declared.line.Call.{Call}
use Rattle.control_session.specs.Controls.{Answer, Talk, Rest, front}
use Rattle.control_session.specs.Sessions.{Fits, Ends, TellsFaults, Ending, Why, Ended, Went}

pub Fits-append : (p q r : PortState) (calls others : List Call) (xs answers : List Answer) → Fits p calls xs q → Fits q others answers r → Fits p (calls ++ others) (xs ++ answers) r
Fits-append p q r [] others [] answers first second = subst (λ s. Fits s others answers r) first second
Fits-append p q r [] others (x ∷ xs) answers first second = absurd first
Fits-append p q r (y ∷ calls) others [] answers first second = absurd first
Fits-append p q r (y ∷ calls) others (x ∷ xs) answers (mid, does, fits) second = (mid, does, Fits-append mid q r calls others xs answers fits second)

-- a talk with other bytes sent and other calls asked
abbrev with_parts : Talk → List (List ℕ) → List Call → Talk
with_parts t pieces asked = record { pieces = pieces; asked = asked; end = t.end; hungry = t.hungry; begun = t.begun; unread = t.unread }

front-front : (written more : List (List ℕ)) (asked others : List Call) (t : Talk) → front written asked (front more others t) ≡ front (written ++ more) (asked ++ others) t
front-front written more asked others t =
    ap (λ l. with_parts t l (asked ++ (others ++ t.asked))) (sym (append_assoc written more t.pieces))
    ∙ ap (λ l. with_parts t ((written ++ more) ++ t.pieces) l) (sym (append_assoc asked others t.asked))

joined : (a b c : Option (List ℕ)) (xs ys : List (List ℕ)) → Appends a b (concat xs) → Appends b c (concat ys) → Appends a c (concat (xs ++ ys))
joined a b c xs ys first second = subst (Appends a c) (sym (concat-append xs ys)) (Appends-trans a b c (concat xs) (concat ys) first second)

-- no fault came, and none ended the control
pub tells_none : {old new : Ends} {end : ControlEnd} → new.read_faults ≡ old.read_faults → new.write_faults ≡ old.write_faults
    → (end ≡ SourceFault → ⊥) → (end ≡ SinkFault → ⊥) → TellsFaults old new end
tells_none reads writes no_source no_sink = record {
  source = record { later = omega (arith, reads); failed = λ is. absurd (no_source is); only = λ rose. absurd (omega (arith, reads, rose)) };
  sink = record { later = omega (arith, writes); failed = λ is. absurd (no_sink is); only = λ rose. absurd (omega (arith, writes, rose)) };
}

pub tells_source : {old new : Ends} → old.read_faults < new.read_faults → new.write_faults ≡ old.write_faults → TellsFaults old new SourceFault
tells_source rose writes = record {
  source = record { later = omega (arith, rose); failed = λ is. rose; only = λ _. refl };
  sink = record { later = omega (arith, writes); failed = λ is. absurd cc; only = λ more. absurd (omega (arith, writes, more)) };
}

pub tells_sink : {old new : Ends} → new.read_faults ≡ old.read_faults → old.write_faults < new.write_faults → TellsFaults old new SinkFault
tells_sink reads rose = record {
  source = record { later = omega (arith, reads); failed = λ is. absurd cc; only = λ more. absurd (omega (arith, reads, more)) };
  sink = record { later = omega (arith, rose); failed = λ is. rose; only = λ _. refl };
}

-- nothing had failed before
tells_after : {old mid new : Ends} {end : ControlEnd} → mid.read_faults ≡ old.read_faults → mid.write_faults ≡ old.write_faults
    → TellsFaults mid new end → TellsFaults old new end
tells_after reads writes tells = record {
  source = record {
    later = omega (arith, reads, tells.source.later);
    failed = λ is. let rose = tells.source.failed is in omega (arith, reads, rose);
    only = λ rose. tells.source.only (omega (arith, reads, rose));
  };
  sink = record {
    later = omega (arith, writes, tells.sink.later);
    failed = λ is. let rose = tells.sink.failed is in omega (arith, writes, rose);
    only = λ rose. tells.sink.only (omega (arith, writes, rose));
  };
}

-- nothing was done
pub went_none : (control : Rest) (old : Ends) → Went control control old old
went_none control old = record {
  read = [];
  pieces = [];
  asked = [];
  answers = [];
  taken = Consumes-nil old.left;
  sent = Appends-nil old.written;
  fits = refl;
  reads_calm = refl;
  writes_calm = refl;
  goes = λ closed more others. refl;
}

pub went_trans : {a b c : Rest} {old mid new : Ends} → Went a b old mid → Went b c mid new → Went a c old new
went_trans {a} {b} {c} {old} {mid} {new} first second = record {
  read = first.read ++ second.read;
  pieces = first.pieces ++ second.pieces;
  asked = first.asked ++ second.asked;
  answers = first.answers ++ second.answers;
  taken = Consumes-trans old.left mid.left new.left first.read second.read first.taken second.taken;
  sent = joined old.written mid.written new.written first.pieces second.pieces first.sent second.sent;
  fits = Fits-append old.port mid.port new.port first.asked second.asked first.answers second.answers first.fits second.fits;
  reads_calm = second.reads_calm ∙ first.reads_calm;
  writes_calm = second.writes_calm ∙ first.writes_calm;
  goes = λ closed more others.
      ap (λ l. a closed l ((first.answers ++ second.answers) ++ others)) (append_assoc first.read second.read more)
      ∙ ap (λ l. a closed (first.read ++ (second.read ++ more)) l) (append_assoc first.answers second.answers others)
      ∙ first.goes closed (second.read ++ more) (second.answers ++ others)
      ∙ ap (front first.pieces first.asked) (second.goes closed more others)
      ∙ front-front first.pieces second.pieces first.asked second.asked (c closed more others);
}

-- the same part under another name
pub went_along : {a b : Rest} {old new : Ends} (c : Rest) → ((closed : Bool) (bytes : List ℕ) (answers : List Answer) → c closed bytes answers ≡ a closed bytes answers)
    → Went a b old new → Went c b old new
went_along c same w = record {
  read = w.read;
  pieces = w.pieces;
  asked = w.asked;
  answers = w.answers;
  taken = w.taken;
  sent = w.sent;
  fits = w.fits;
  reads_calm = w.reads_calm;
  writes_calm = w.writes_calm;
  goes = λ closed more others. same closed _ _ ∙ w.goes closed more others;
}

pub ended_along : {a : Rest} {old new : Ends} {end : ControlEnd} (c : Rest)
    → ((closed : Bool) (bytes : List ℕ) (answers : List Answer) → c closed bytes answers ≡ a closed bytes answers) → Ended a old new end → Ended c old new end
ended_along {a} {old} {new} {end} c same e = record {
  read = e.read;
  closed = e.closed;
  answers = e.answers;
  taken = e.taken;
  shut = e.shut;
  fits = subst (λ t. Fits old.port t.asked e.answers new.port) (sym (same e.closed e.read e.answers)) e.fits;
  why = subst (λ t. Why old new e.closed t end) (sym (same e.closed e.read e.answers)) e.why;
  faults = e.faults;
}

ending_after : (old mid new : Ends) (closed : Bool) (pieces : List (List ℕ)) (asked : List Call) (t : Talk) (end : ControlEnd)
    → Appends old.written mid.written (concat pieces) → Ending mid new closed t end → Ending old new closed (front pieces asked t) end
ending_after old mid new closed pieces asked t end sent e = (e.0, joined old.written mid.written new.written pieces t.pieces sent e.1, e.2, e.3)

why_after : (old mid new : Ends) (closed : Bool) (pieces : List (List ℕ)) (asked : List Call) (t : Talk)
    → Appends old.written mid.written (concat pieces) → (end : ControlEnd) → Why mid new closed t end → Why old new closed (front pieces asked t) end
why_after old mid new closed pieces asked t sent Quit e = ending_after old mid new closed pieces asked t Quit sent e
why_after old mid new closed pieces asked t sent AtEnd e = ending_after old mid new closed pieces asked t AtEnd sent e
why_after old mid new closed pieces asked t sent LongLine e = ending_after old mid new closed pieces asked t LongLine sent e
why_after old mid new closed pieces asked t sent TooManyLines e = ending_after old mid new closed pieces asked t TooManyLines sent e
why_after old mid new closed pieces asked t sent SourceFault (last, hungry, not_closed, unread) =
    (joined old.written mid.written new.written pieces t.pieces sent last, hungry, not_closed, unread)
why_after old mid new closed pieces asked t sent SinkFault (part, begun, unread) = (
  record {
    before = pieces ++ part.before;
    last = part.last;
    are = ap (λ l. pieces ++ l) part.are ∙ sym (append_assoc pieces part.before (part.last ∷ []));
    mid = part.mid;
    sent = joined old.written mid.written part.mid pieces part.before sent part.sent;
    part = part.part;
  },
  begun,
  unread,
)
why_after old mid new closed pieces asked t sent Memory e = absurd e

-- a part is behind, and then the control ended
pub ended_after : {a b : Rest} {old mid new : Ends} {end : ControlEnd} → Went a b old mid → Ended b mid new end → Ended a old new end
ended_after {a} {b} {old} {mid} {new} {end} first second =
    let same = first.goes second.closed second.read second.answers in
    let rest = b second.closed second.read second.answers in
    record {
      read = first.read ++ second.read;
      closed = second.closed;
      answers = first.answers ++ second.answers;
      taken = Consumes-trans old.left mid.left new.left first.read second.read first.taken second.taken;
      shut = second.shut;
      fits = subst (λ t. Fits old.port t.asked (first.answers ++ second.answers) new.port) (sym same)
          (Fits-append old.port mid.port new.port first.asked rest.asked first.answers second.answers first.fits second.fits);
      why = subst (λ t. Why old new second.closed t end) (sym same)
          (why_after old mid new second.closed first.pieces first.asked rest first.sent end second.why);
      faults = tells_after first.reads_calm first.writes_calm second.faults;
    }

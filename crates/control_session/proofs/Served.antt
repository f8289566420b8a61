-- One line from its first byte to its answer, and one line after another.
use Rattle.std.proofs.Common.{◌≡◌, ℕ, ◌+◌, ◌-◌, ◌<◌, ◌≤◌, inl, inr, Bool, true, false, List, [], ◌∷◌, ◌++◌, length, take, refl, sym, ap, ◌∙◌, subst, arith, append_assoc, append-nil, length-take-le}
use Rattle.std.specs.Prelude.{Option}
use Rattle.std.specs.Io.KnownBytes.{Appends, Consumes, IsAtEnd}
use Rattle.std.proofs.KnownBytes.{Consumes-nil, Appends-nil}
use Rattle.byte_ports.specs.Ports.{AppendsFront}
use Rattle.flat_image.specs.Ports.{PortState}
use Rattle.control_session.specs.declared.control_end.ControlEnd.{ControlEnd}
use Rattle.control_session.specs.declared.control_end.ControlEnd.TheVariants as end
use Rattle.control_session.specs.declared.line.Line.{Line}
use Rattle.control_session.specs.declared.line.Line.TheVariants as line_is
use Rattle.control_session.specs.declared.reading.Found.{Found}
use Rattle.control_session.specs.Lines.{line_said}
use Rattle.control_session.specs.Reading.{ReadsLine, StopsReading}
use Rattle.control_session.specs.Controls.{Answer, Talk, Rest, front, stop, stop_at, past, answered, at_end, one_line, lines}
use Rattle.control_session.specs.Sessions.{Fits, Ends, ends, TellsFaults, Why, Ended, Serves, Went, IsIdle, Answers}
use Rattle.control_session.proofs.LineLaws.{line-whole, line-last, line-long, line-part, line-none, past-on, past-idle, end-idle, lines-suc, lines-zero}
use Rattle.control_session.proofs.Parts.{tells_none, tells_source, tells_sink, went_trans, went_along, ended_after, ended_along}

false_true : false ≡ true → ⊥
false_true e = cc

-- ---- reading a line

-- a line was taken, behind which the input ended or not
pub record Taken (go : Rest) (old new : Option (List ℕ)) (line : Line) (closed : Bool) : Type 0 where
  pub read : List ℕ
  pub rest : Rest
  pub idle : IsIdle rest
  pub over : closed ≡ true → rest ≡ at_end
  pub taken : Consumes old new read
  pub shut : closed ≡ true → IsAtEnd new
  pub goes : (others : List Answer) → one_line go closed read others ≡ answered rest line closed [] others

taken_by : (go : Rest) (old new : Option (List ℕ)) (out : List ℕ) (found : Found) (line : Line) (last : Bool) → found.last ≡ last
    → IsIdle go → length out ≡ 257 → ReadsLine old new out found → line ≡ line_said (take found.count out) → Taken go old new line last
taken_by go old new out found line true is idle long reads said =
    let got = reads.last is in
    let size : length (take found.count out) ≡ found.count = length-take-le found.count out (omega (arith, reads.within)) in
    record {
      read = take found.count out;
      rest = at_end;
      idle = end-idle;
      over = λ e. refl;
      taken = got.1;
      shut = λ e. got.2;
      goes = λ others. line-last go (take found.count out) others reads.plain (omega (arith, size, got.0)) (omega (arith, size, reads.within))
          ∙ ap (λ l. answered at_end l true [] others) (sym said);
    }
taken_by go old new out found line false is idle long reads said =
    let size : length (take found.count out) ≡ found.count = length-take-le found.count out (omega (arith, reads.within)) in
    record {
      read = take found.count out ++ 10 ∷ [];
      rest = go;
      idle = idle;
      over = λ e. absurd (false_true e);
      taken = reads.whole is;
      shut = λ e. absurd (false_true e);
      goes = λ others. line-whole go false (take found.count out) [] others reads.plain (omega (arith, size, reads.within))
          ∙ ap (λ l. answered go l false [] others) (sym said);
    }

module _ (go : Rest) (idle : IsIdle go) (left left_now : Option (List ℕ)) (reads reads_now : ℕ) (written : Option (List ℕ)) (writes : ℕ) (p : PortState) where
  -- no line was taken
  pub stopped : (why : ControlEnd) → StopsReading left left_now reads reads_now why
      → Ended (one_line go) (ends left reads written writes p) (ends left_now reads_now written writes p) why
  stopped why s = elim s.cause [
    | inl (is, none, at_its_end, calm) ↦
        let same = ap (λ l. one_line go true l []) none ∙ line-none go true [] in
        subst (Ended (one_line go) (ends left reads written writes p) (ends left_now reads_now written writes p)) (sym is) (record {
          read = s.bytes;
          closed = true;
          answers = [];
          taken = s.taken;
          shut = λ e. at_its_end;
          fits = subst (λ t. Fits p t.asked [] p) (sym same) refl;
          why = subst (λ t. Why (ends left reads written writes p) (ends left_now reads_now written writes p) true t end.Ended) (sym same)
              (refl, Appends-nil written, (λ e. refl), refl);
          faults = tells_none calm refl (λ e. cc) (λ e. cc);
        })
    | inr (inl (is, long, calm)) ↦
        let same = line-long go s.bytes [] s.plain long in
        subst (Ended (one_line go) (ends left reads written writes p) (ends left_now reads_now written writes p)) (sym is) (record {
          read = s.bytes;
          closed = false;
          answers = [];
          taken = s.taken;
          shut = λ e. absurd (false_true e);
          fits = subst (λ t. Fits p t.asked [] p) (sym same) refl;
          why = subst (λ t. Why (ends left reads written writes p) (ends left_now reads_now written writes p) false t end.LongLine) (sym same)
              (refl, Appends-nil written, (λ e. e), refl);
          faults = tells_none calm refl (λ e. cc) (λ e. cc);
        })
    | inr (inr (is, short, rose)) ↦
        let part = line-part go s.bytes [] s.plain short in
        subst (Ended (one_line go) (ends left reads written writes p) (ends left_now reads_now written writes p)) (sym is) (record {
          read = s.bytes;
          closed = false;
          answers = [];
          taken = s.taken;
          shut = λ e. absurd (false_true e);
          fits = subst (λ t. Fits p t.asked [] p) (sym part.1) refl;
          why = subst (λ t. Why (ends left reads written writes p) (ends left_now reads_now written writes p) false t end.SourceFault) (sym part.1)
              (Appends-nil written, refl, refl, refl);
          faults = tells_source rose refl;
        })
  ]

-- ---- answering it

module _ (go : Rest) (left left_now : Option (List ℕ)) (reads reads_now : ℕ) (written written_now : Option (List ℕ)) (writes writes_now : ℕ) (p q : PortState) (line : Line) (text : List ℕ) (closed : Bool) where
  -- what the line and its answer make of the control
  made : (t : Taken go left left_now line closed) (a : Answers line p q text)
      → one_line go closed t.read a.answers ≡ front (text ∷ []) a.asked (past t.rest line closed [] [])
  made t a = t.goes a.answers ∙ ap (answered t.rest line closed []) (sym (append-nil a.answers)) ∙ a.goes t.rest closed [] []

  fits_made : (t : Taken go left left_now line closed) (a : Answers line p q text) → Fits p (one_line go closed t.read a.answers).asked a.answers q
  fits_made t a =
      subst (λ s. Fits p s.asked a.answers q) (sym (made t a))
      (subst (λ l. Fits p l a.answers q) (sym (ap (λ l. a.asked ++ l) (past-idle t.rest line t.idle closed).1 ∙ append-nil a.asked)) a.fits)

  -- the answer was not sent whole
  pub unsent : Taken go left left_now line closed → Answers line p q text → AppendsFront written written_now text → reads_now ≡ reads → writes < writes_now
      → Ended (one_line go) (ends left reads written writes p) (ends left_now reads_now written_now writes_now q) end.SinkFault
  unsent t a part calm rose =
      let idle = past-idle t.rest line t.idle closed in
      record {
        read = t.read;
        closed = closed;
        answers = a.answers;
        taken = t.taken;
        shut = t.shut;
        fits = fits_made t a;
        why = subst (λ s. Why (ends left reads written writes p) (ends left_now reads_now written_now writes_now q) closed s end.SinkFault) (sym (made t a)) (
          record { before = []; last = text; are = ap (λ l. text ∷ l) idle.0; mid = written; sent = Appends-nil written; part = part },
          idle.2,
          idle.3,
        );
        faults = tells_sink calm rose;
      }

  ended_so : (t : Taken go left left_now line closed) (a : Answers line p q text) (rest : Talk) (why : ControlEnd) → past t.rest line closed [] [] ≡ rest
      → Why (ends left reads written writes p) (ends left_now reads_now written_now writes_now q) closed (front (text ∷ []) a.asked rest) why
      → TellsFaults (ends left reads written writes p) (ends left_now reads_now written_now writes_now q) why
      → Ended (one_line go) (ends left reads written writes p) (ends left_now reads_now written_now writes_now q) why
  ended_so t a rest why is holds tells = record {
    read = t.read;
    closed = closed;
    answers = a.answers;
    taken = t.taken;
    shut = t.shut;
    fits = fits_made t a;
    why = subst (λ s. Why (ends left reads written writes p) (ends left_now reads_now written_now writes_now q) closed s why)
        (sym (made t a ∙ ap (front (text ∷ []) a.asked) is)) holds;
    faults = tells;
  }

  -- the line was the last one by its word
  pub quits : Taken go left left_now line closed → Answers line p q text → line ≡ line_is.Quit → Appends written written_now text → reads_now ≡ reads → writes_now ≡ writes
      → Ended (one_line go) (ends left reads written writes p) (ends left_now reads_now written_now writes_now q) end.Quit
  quits t a is sent calm no_fault =
      ended_so t a (stop_at end.Quit false []) end.Quit (ap (λ l. past t.rest l closed [] []) is)
      (refl, subst (Appends written written_now) (sym (append-nil text)) sent, (λ e. absurd (false_true e)), refl)
      (tells_none calm no_fault (λ e. cc) (λ e. cc))

  -- the input ended behind the line
  pub ends_there : Taken go left left_now line closed → Answers line p q text → (line ≡ line_is.Quit → ⊥) → closed ≡ true → Appends written written_now text
      → reads_now ≡ reads → writes_now ≡ writes → Ended (one_line go) (ends left reads written writes p) (ends left_now reads_now written_now writes_now q) end.Ended
  ends_there t a other is sent calm no_fault =
      ended_so t a (stop false) end.Ended
      (past-on t.rest line closed [] [] other ∙ ap (λ r. r closed [] []) (t.over is))
      (refl, subst (Appends written written_now) (sym (append-nil text)) sent, (λ e. is), refl)
      (tells_none calm no_fault (λ e. cc) (λ e. cc))

-- the line was answered, and more may come
pub goes_on : (go : Rest) (left left_now : Option (List ℕ)) (reads reads_now : ℕ) (written written_now : Option (List ℕ)) (writes writes_now : ℕ) (p q : PortState) (line : Line) (text : List ℕ) (out : List ℕ) (found : Found)
    → length out ≡ 257 → ReadsLine left left_now out found → found.last ≡ false → line ≡ line_said (take found.count out) → Answers line p q text → (line ≡ line_is.Quit → ⊥)
    → Appends written written_now text → reads_now ≡ reads → writes_now ≡ writes
    → Went (one_line go) go (ends left reads written writes p) (ends left_now reads_now written_now writes_now q)
goes_on go left left_now reads reads_now written written_now writes writes_now p q line text out found long got is said a other sent reads_calm writes_calm =
    let bytes = take found.count out in
    let size : length bytes ≡ found.count = length-take-le found.count out (omega (arith, got.within)) in
    record {
      read = bytes ++ 10 ∷ [];
      pieces = text ∷ [];
      asked = a.asked;
      answers = a.answers;
      taken = got.whole is;
      sent = subst (Appends written written_now) (sym (append-nil text)) sent;
      fits = a.fits;
      reads_calm = reads_calm;
      writes_calm = writes_calm;
      goes = λ closed more others.
          ap (λ l. one_line go closed l (a.answers ++ others)) (append_assoc bytes (10 ∷ []) more)
          ∙ line-whole go closed bytes more (a.answers ++ others) got.plain (omega (arith, size, got.within))
          ∙ ap (λ l. answered go l closed more (a.answers ++ others)) (sym said)
          ∙ a.goes go closed more others
          ∙ ap (front (text ∷ []) a.asked) (past-on go line closed more others other);
    }

pub was_taken : (go : Rest) (old new : Option (List ℕ)) (out : List ℕ) (found : Found) (line : Line)
    → IsIdle go → length out ≡ 257 → ReadsLine old new out found → line ≡ line_said (take found.count out) → Taken go old new line found.last
was_taken go old new out found line = taken_by go old new out found line found.last refl

-- ---- one line after another

module _ (total done : ℕ) (old mid new : Ends) where
  -- a line more
  pub lines_more : done < total → Went (lines total) (lines (total - done)) old mid
      → Went (one_line (lines (total - (done + 1)))) (lines (total - (done + 1))) mid new → Went (lines total) (lines (total - (done + 1))) old new
  lines_more few first second =
      went_trans first (went_along (lines (total - done)) (λ closed bytes answers. lines-suc (total - done) (total - (done + 1)) closed bytes answers (omega arith)) second)

  -- a line at which the control ended
  pub lines_end : (why : ControlEnd) → done < total → Went (lines total) (lines (total - done)) old mid
      → Ended (one_line (lines (total - (done + 1)))) mid new why → Ended (lines total) old new why
  lines_end why few first second =
      ended_after first (ended_along (lines (total - done)) (λ closed bytes answers. lines-suc (total - done) (total - (done + 1)) closed bytes answers (omega arith)) second)

-- as many as there may be
pub lines_all : (total done : ℕ) (old : Ends) (left : Option (List ℕ)) (reads : ℕ) (written : Option (List ℕ)) (writes : ℕ) (p : PortState) → total ≤ done
    → Went (lines total) (lines (total - done)) old (ends left reads written writes p) → Ended (lines total) old (ends left reads written writes p) end.TooManyLines
lines_all total done old left reads written writes p all first =
    let none : total - done ≡ 0 = omega arith in
    let same = ap (λ k. lines k false [] []) none ∙ lines-zero false [] [] in
    ended_after first (record {
      read = [];
      closed = false;
      answers = [];
      taken = Consumes-nil left;
      shut = λ e. absurd (false_true e);
      fits = subst (λ t. Fits p t.asked [] p) (sym same) refl;
      why = subst (λ t. Why (ends left reads written writes p) (ends left reads written writes p) false t end.TooManyLines) (sym same)
          (refl, Appends-nil written, (λ e. absurd (false_true e)), refl);
      faults = tells_none refl refl (λ e. cc) (λ e. cc);
    })

-- a control that ended was served
pub serves-ended : (control : Rest) (old new : Ends) (why : ControlEnd) → Ended control old new why → Serves control old new why
serves-ended control old new end.Quit e = e
serves-ended control old new end.Ended e = e
serves-ended control old new end.LongLine e = e
serves-ended control old new end.TooManyLines e = e
serves-ended control old new end.SourceFault e = e
serves-ended control old new end.SinkFault e = e
serves-ended control old new end.Memory e = absurd e.why

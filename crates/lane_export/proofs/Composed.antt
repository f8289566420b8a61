-- What the lanes come to once the lock is closed.
use Rattle.std.proofs.Common.{map, Bool, true, ◌≡◌, ℕ, ◌+◌, ◌<◌, ◌≤◌, ◌^◌, Option, List, [], ◌∷◌, ◌++◌, length, get_or, All, false, Result, Ok, Err, MatchResult, refl, sym, ap, ◌∙◌, subst, inl, inr, arith, length-append}
use Rattle.std.proofs.lemmas.List.{get_or_append_left}
use Rattle.std.proofs.lemmas.Bool.Decides.{leb_tells}
use Rattle.atomic_table.specs.Seated.{TableId}
use Rattle.flat_image.specs.declared.act.Act.{Act}
use Rattle.flat_image.specs.declared.act.Act.TheVariants.{Flush, Fault}
use Rattle.flat_image.specs.declared.act.Asked.TheVariants.{Nothing}
use Rattle.flat_image.specs.declared.port_fault.PortFault.TheVariants as fault
use Rattle.flat_image.specs.declared.port_fault.PortFault.{PortFault}
use Rattle.flat_image.specs.Entries.{entry, calls_by, StartsWith}
use Rattle.flat_image.specs.History.{History, fault_count}
use Rattle.flat_image.specs.Ports.{PortState, Notes, Flushes, FlushFails}
use Rattle.flat_image.proofs.Entries.{StartsWith-self, StartsWith-trans, calls_by-append}
use Rattle.turn_lock.specs.Locks.{Place, place, AreSeats, IsHistory}
use Rattle.nbd_session.specs.declared.served.Served.{Served}
use Rattle.shared_image.specs.Turns.{home_of}
use Rattle.lane_serve.specs.declared.lane.LaneEnd.{LaneEnd}
use Rattle.lane_serve.specs.Listeners.{Listening}
use Rattle.lane_serve.specs.Lanes.{Ways}
use Rattle.control_session.specs.declared.control_end.ControlEnd.{ControlEnd}
use Rattle.control_session.specs.Sessions.{Ends}
use Rattle.lane_export.specs.Lanes.{Member, LaneDone, LaneIn, AreFirst, any_failed, end_by, EndsWith, WhyEnded, HasServed, Exports, ControlAt, ControlDone, ControlIn, IsLast}
use Rattle.flat_image.specs.declared.base.Base.{Base}
use Rattle.image_core.specs.Seen.{Seen}
use Rattle.lane_export.specs.declared.export_end.ExportEnd.{ExportEnd}
use Rattle.lane_export.specs.declared.export_end.ExportEnd.TheVariants as export_end
use Rattle.lane_export.proofs.Histories.{whole_history, only_own, none_more}
use Rattle.lane_export.proofs.Rows.{last_is, one-home}
use Rattle.lane_export.proofs.Served.{lane-notes}

-- what a port is known by stays while a lane runs
ran-number : {A B : Type 0} (w : Ways A B) (old : Member A B) (told : Option (Listening A B Served)) (faults shelf : ℕ) (seat : Place Act) (connections : ℕ) (end : LaneEnd) (d : LaneDone w old told faults shelf seat connections end) → d.port.number ≡ old.port.number
ran-number w old told faults shelf seat connections end d = ap (λ (s : PortState). s.number) (lane-notes w d.ran.served old.port d.port d.ran.are).1.is

ran-home : {A B : Type 0} (w : Ways A B) (old : Member A B) (told : Option (Listening A B Served)) (faults shelf : ℕ) (seat : Place Act) (connections : ℕ) (end : LaneEnd) (d : LaneDone w old told faults shelf seat connections end) → d.port.home ≡ old.port.home
ran-home w old told faults shelf seat connections end d = ap (λ (s : PortState). s.home) (lane-notes w d.ran.served old.port d.port d.ran.are).1.is

-- the seat that a lane gave back is the one with its number, of its lock
pub seat-back : {A B : Type 0} (id : TableId) (k : ℕ) (w : Ways A B) (old : Member A B) (told : Option (Listening A B Served)) (faults shelf : ℕ) (seat : Place Act) (connections : ℕ) (end : LaneEnd)
    → old.port.home ≡ home_of id → old.port.number ≡ k → LaneDone w old told faults shelf seat connections end → (seat.lock ≡ id) × (seat.number ≡ k) × (seat.holds ≡ false)
seat-back id k w old told faults shelf seat connections end home number d = (
  one-home seat.lock id (sym d.seat_is.home ∙ (ran-home w old told faults shelf seat connections end d ∙ home)),
  sym d.seat_is.number ∙ (ran-number w old told faults shelf seat connections end d ∙ number),
  d.seat_is.idle,
)

-- seats of a lock by number, each with what was just said
pub seats-back : (id : TableId) (seats : List (Place Act)) → ((k : ℕ) (d : Place Act) → k < length seats → ((get_or seats k d).lock ≡ id) × ((get_or seats k d).number ≡ k) × ((get_or seats k d).holds ≡ false))
    → AreSeats id (length seats) seats
seats-back id seats each = record {
  all = refl;
  lock_is = λ k d lt. (each k d lt).0;
  numbered = λ k d lt. (each k d lt).1;
  idle = λ k d lt. (each k d lt).2;
}

-- new seats are first seats
pub first-of : (id : TableId) (n : ℕ) (seats : List (Place Act)) → AreSeats id n seats → All (λ s. s.seen ≡ []) seats → AreFirst id seats
first-of id n seats are new k d lt =
    λ i. place (are.lock_is k d lt i) (are.numbered k d lt i) (new k d lt i) (are.idle k d lt i)

module _ (seats : List (Place Act)) (control : Place Act) (history : History) (h : IsHistory (seats ++ control ∷ []) history) where
  long : length (seats ++ control ∷ []) ≡ length seats + 1
  long = length-append seats (control ∷ [])

  -- the history begins with what a seat has seen, and all entries of its number are there
  pub seat-in : (k : ℕ) (d : Place Act) → k < length seats → (get_or seats k d).number ≡ k → StartsWith history (get_or seats k d).seen × (calls_by k history ≡ calls_by k (get_or seats k d).seen)
  seat-in k d lt number =
      let at : get_or (seats ++ control ∷ []) k d ≡ get_or seats k d = get_or_append_left seats (control ∷ []) d k lt in
      let inside : k < length (seats ++ control ∷ []) = omega (arith, lt, long) in (
        subst (λ (s : Place Act). StartsWith history s.seen) at (h.begins k d inside),
        subst (λ (m : ℕ). calls_by m history ≡ calls_by m (get_or seats k d).seen) number
            (subst (λ (s : Place Act). calls_by s.number history ≡ calls_by s.number s.seen) at (h.own k d inside)),
      )

  pub control-in : control.number ≡ length seats → StartsWith history control.seen × (calls_by (length seats) history ≡ calls_by (length seats) control.seen)
  control-in number =
      let at : get_or (seats ++ control ∷ []) (length seats) control ≡ control = last_is seats control control in
      let inside : length seats < length (seats ++ control ∷ []) = omega (arith, long) in (
        subst (λ (s : Place Act). StartsWith history s.seen) at (h.begins (length seats) control inside),
        subst (λ (m : ℕ). calls_by m history ≡ calls_by m control.seen) number
            (subst (λ (s : Place Act). calls_by s.number history ≡ calls_by s.number s.seen) at (h.own (length seats) control inside)),
      )

  -- where the control has met every seat, what it has seen last is the whole history
  pub closes-with : control.number ≡ length seats → ((k : ℕ) (d : Place Act) → k < length seats → (get_or seats k d).number ≡ k) → All (λ s. StartsWith control.seen s.seen) seats → history ≡ control.seen
  closes-with number numbered met =
      let mine = control-in number in
      whole_history history control.seen mine.0.rest (length seats + 1) mine.0.is
      (λ k more. h.no_others k (omega (arith, more, long)))
      (λ k less. elim (leb_tells (length seats) k) [
        | inl at ↦
            let same : length seats ≡ k = omega (arith, at.1, less) in
            record { seen = control.seen; begun = StartsWith-self control.seen; own = subst (λ (m : ℕ). calls_by m history ≡ calls_by m control.seen) same mine.1 }
        | inr below ↦
            record { seen = (get_or seats k control).seen; begun = met k control below.1; own = (seat-in k control below.1 (numbered k control below.1)).1 }
      ])

  -- a lane that is done is a lane of the history
  pub lane-in : {A B : Type 0} (k : ℕ) (d : Place Act) (w : Ways A B) (old : Member A B) (told : Option (Listening A B Served)) (faults shelf connections : ℕ) (end : LaneEnd) → k < length seats → old.port.number ≡ k
      → LaneDone w old told faults shelf (get_or seats k d) connections end → LaneIn w history old told faults shelf connections end
  lane-in k d w old told faults shelf connections end lt number done =
      let at : (get_or seats k d).number ≡ k = sym done.seat_is.number ∙ (ran-number w old told faults shelf (get_or seats k d) connections end done ∙ number) in
      let mine = seat-in k d lt at in
      record {
        port = done.port;
        ran = done.ran;
        begun = subst (λ (l : History). StartsWith history l) (sym done.seat_is.seen) mine.0;
        own = subst (λ (m : ℕ). calls_by m history ≡ calls_by m done.port.seen) (sym number) (subst (λ (l : History). calls_by k history ≡ calls_by k l) (sym done.seat_is.seen) mine.1);
        counted = done.seat_is.faults ∙ (λ i. fault_count (calls_by ((at ∙ sym number) i) (sym done.seat_is.seen i)) + shelf);
      }

at_least_more : (n k : ℕ) → n ≤ k → (k ≡ n → ⊥) → (m : ℕ) → m ≡ n + 1 → m ≤ k
at_least_more n k le other m is = elim (leb_tells (n + 1) k) [ inl more ↦ omega (arith, more.1, is) | inr less ↦ absurd (other (omega (arith, le, less.1))) ]

pub seats-from : {P A B : Type 0} (id : TableId) (w : Ways A B) (pairs pairs_after : List P) (old : ℕ → P → Member A B) (told : P → Option (Listening A B Served)) (faults shelf : P → ℕ) (seats : List (Place Act)) (connections : ℕ) (end : ℕ → LaneEnd)
    → length seats ≡ length pairs → ((k : ℕ) (e : P) → (old k e).port.home ≡ home_of id) → ((k : ℕ) (e : P) → (old k e).port.number ≡ k)
    → ((k : ℕ) (e f : P) (s : Place Act) → k < length pairs → LaneDone w (old k (get_or pairs k e)) (told (get_or pairs_after k f)) (faults (get_or pairs_after k f)) (shelf (get_or pairs_after k f)) (get_or seats k s) connections (end k))
    → AreSeats id (length seats) seats
seats-from id w [] pairs_after old told faults shelf seats connections end same home number done = seats-back id seats (λ k d lt. absurd (omega (arith, lt, same)))
seats-from id w (p ∷ ps) pairs_after old told faults shelf seats connections end same home number done =
    seats-back id seats (λ k d lt.
    let e = get_or (p ∷ ps) k p in
    seat-back id k w (old k e) (told (get_or pairs_after k p)) (faults (get_or pairs_after k p)) (shelf (get_or pairs_after k p)) (get_or seats k d) connections (end k) (home k e) (number k e) (done k p p d (omega (arith, lt, same))))

-- what the control noted behind what it had met stands at the end of the history
pub last-act : (seats : List (Place Act)) (before control : Place Act) (history : History) (p q : PortState) (n : ℕ) (acts : List Act) → IsHistory (seats ++ control ∷ []) history → control.number ≡ n → before.number ≡ n → length seats ≡ n
    → ((k : ℕ) (d : Place Act) → k < length seats → (get_or seats k d).number ≡ k) → All (λ s. StartsWith before.seen s.seen) seats
    → p.seen ≡ before.seen → p.number ≡ before.number → q.seen ≡ control.seen → Notes p q acts → (history ≡ q.seen) × (history ≡ before.seen ++ map (entry n) acts)
last-act seats before control history p q n acts h number old_number count numbered met ps pn qs notes =
    let grown : control.seen ≡ before.seen ++ notes.more = sym qs ∙ (ap (λ (s : PortState). s.seen) notes.is ∙ ap (λ (l : History). l ++ notes.more) ps) in
    let more : StartsWith control.seen before.seen = record { rest = notes.more; is = grown } in
    let whole = closes-with seats control history h (number ∙ sym count) numbered (λ k d lt. StartsWith-trans control.seen before.seen (get_or seats k d).seen more (met k d lt)) in
    let split : history ≡ before.seen ++ notes.more = whole ∙ grown in
    let long : length (seats ++ control ∷ []) ≡ length seats + 1 = length-append seats (control ∷ []) in
    let none : (k : ℕ) → (k ≡ n → ⊥) → calls_by k notes.more ≡ [] = λ k other. elim (leb_tells n k) [
      | inl at_least ↦
          let above : length (seats ++ control ∷ []) ≤ k = at_least_more n k at_least.1 other (length (seats ++ control ∷ [])) (omega (arith, long, count)) in
          none_more history before.seen notes.more k split (record { seen = []; begun = record { rest = before.seen; is = refl }; own = h.no_others k above })
      | inr below ↦
          let lt : k < length seats = omega (arith, below.1, count) in
          none_more history before.seen notes.more k split
          (record { seen = (get_or seats k control).seen; begun = met k control lt; own = (seat-in seats control history h k control lt (numbered k control lt)).1 })
    ] in
    let own : calls_by n notes.more ≡ map (entry n) acts = ap (λ (m : ℕ). calls_by m notes.more) (sym (pn ∙ old_number)) ∙ (notes.own ∙ ap (λ (m : ℕ). map (entry m) acts) (pn ∙ old_number)) in
    (whole ∙ sym qs, split ∙ ap (λ (l : History). before.seen ++ l) (sym (only_own n notes.more none) ∙ own))

-- what the last flush came to: its entry is the last one, or the history is full
abbrev EndsBy : {T : Type 0} → Result T PortFault → History → ℕ → Type 0
EndsBy (Ok done) history number = EndsWith history number Flush
EndsBy (Err fault.Worn) history number = length history ≡ 2 ^ 62
EndsBy (Err (fault.Full rows sectors)) history number = ⊥
EndsBy (Err fault.Memory) history number = ⊥
EndsBy (Err fault.Failed) history number = EndsWith history number (Fault Nothing)

last-ends : {T : Type 0} (last : Result T PortFault) (seats : List (Place Act)) (before control : Place Act) (history : History) (p q : PortState) (n : ℕ)
    → MatchResult last (λ _. Flushes p q) (FlushFails false p q) → q.first ≡ 0
    → IsHistory (seats ++ control ∷ []) history → control.number ≡ n → before.number ≡ n → length seats ≡ n
    → ((k : ℕ) (d : Place Act) → k < length seats → (get_or seats k d).number ≡ k) → All (λ s. StartsWith before.seen s.seen) seats
    → p.seen ≡ before.seen → p.number ≡ before.number → q.seen ≡ control.seen → EndsBy last history n
last-ends (Ok done) seats before control history p q n answer at_zero h number old_number count numbered met ps pn qs =
    (before.seen, (last-act seats before control history p q n (Flush ∷ []) h number old_number count numbered met ps pn qs answer.notes).1)
last-ends (Err fault.Worn) seats before control history p q n answer at_zero h number old_number count numbered met ps pn qs =
    let same = (last-act seats before control history p q n [] h number old_number count numbered met ps pn qs answer.1).0 in
    let worn = answer.0 in let long : length history ≡ length q.seen = ap (λ (l : History). length l) same in omega (arith, worn, long, at_zero)
last-ends (Err (fault.Full rows sectors)) seats before control history p q n answer at_zero h number old_number count numbered met ps pn qs = absurd answer
last-ends (Err fault.Memory) seats before control history p q n answer at_zero h number old_number count numbered met ps pn qs = absurd (let takes : false ≡ true = answer.1 in cc)
last-ends (Err fault.Failed) seats before control history p q n answer at_zero h number old_number count numbered met ps pn qs =
    (before.seen, (last-act seats before control history p q n (Fault Nothing ∷ []) h number old_number count numbered met ps pn qs answer.1).1)

why-by : {T : Type 0} (ends : List LaneEnd) (failed : Bool) (last : Result T PortFault) (history : History) (n : ℕ) → failed ≡ any_failed ends → EndsBy last history n → WhyEnded ends history n (end_by failed last)
why-by ends true (Ok done) history n is flushed = (sym is, inl flushed)
why-by ends true (Err fault.Worn) history n is worn = (sym is, inr (inr worn))
why-by ends true (Err (fault.Full rows sectors)) history n is none = absurd none
why-by ends true (Err fault.Memory) history n is none = absurd none
why-by ends true (Err fault.Failed) history n is failed = (sym is, inr (inl failed))
why-by ends false (Ok done) history n is flushed = (sym is, flushed)
why-by ends false (Err fault.Worn) history n is worn = (sym is, worn)
why-by ends false (Err (fault.Full rows sectors)) history n is none = absurd none
why-by ends false (Err fault.Memory) history n is none = absurd none
why-by ends false (Err fault.Failed) history n is failed = (sym is, failed)

-- why the export ended so, by the last flush
pub why-ended : {T : Type 0} (ends : List LaneEnd) (failed : Bool) (last : Result T PortFault) (seats : List (Place Act)) (before control : Place Act) (history : History) (p q : PortState) (n : ℕ)
    → failed ≡ any_failed ends → MatchResult last (λ _. Flushes p q) (FlushFails false p q) → q.first ≡ 0
    → IsHistory (seats ++ control ∷ []) history → control.number ≡ n → before.number ≡ n → length seats ≡ n
    → ((k : ℕ) (d : Place Act) → k < length seats → (get_or seats k d).number ≡ k) → All (λ s. StartsWith before.seen s.seen) seats
    → p.seen ≡ before.seen → p.number ≡ before.number → q.seen ≡ control.seen → WhyEnded ends history n (end_by failed last)
why-ended ends failed last seats before control history p q n is answer at_zero h number old_number count numbered met ps pn qs =
    why-by ends failed last history n is (last-ends last seats before control history p q n answer at_zero h number old_number count numbered met ps pn qs)

-- a history of seats that have seen nothing is empty
pub closed-empty : (id : TableId) (n : ℕ) (seats : List (Place Act)) (history : History) → AreSeats id n seats → All (λ s. s.seen ≡ []) seats → IsHistory seats history → history ≡ []
closed-empty id n [] history are new h = whole_history history [] history 0 refl (λ k more. h.no_others k more) (λ k less. absurd (omega (arith, less)))
closed-empty id n (s ∷ seats) history are new h =
    whole_history history [] history (length (s ∷ seats)) refl (λ k more. h.no_others k more)
    (λ k less. record {
      seen = [];
      begun = record { rest = []; is = refl };
      own = subst (λ (m : ℕ). calls_by m history ≡ calls_by m []) (are.numbered k s less)
          (subst (λ (l : History). calls_by (get_or (s ∷ seats) k s).number history ≡ calls_by (get_or (s ∷ seats) k s).number l) (new k s less) (h.own k s less));
    })

-- the control is done, and noted what its last flush did: it is the control of the history
control-noted : (seats : List (Place Act)) (before final : Place Act) (history : History) (p q : PortState) (acts : List Act) (old : Ends) (now : ControlAt) (end : ControlEnd) → IsHistory (seats ++ final ∷ []) history
    → final.number ≡ length seats → old.port.number ≡ length seats → IsLast acts → Notes p q acts → p.seen ≡ before.seen → p.number ≡ length seats → q.seen ≡ final.seen
    → ControlDone old now before end → ControlIn history old now end
control-noted seats before final history p q acts old now end h number old_number what notes ps pn qs done =
    let m = old.port.number in
    let grown : final.seen ≡ before.seen ++ notes.more = sym qs ∙ (ap (λ (s : PortState). s.seen) notes.is ∙ ap (λ (l : History). l ++ notes.more) ps) in
    let mine = control-in seats final history h number in
    let whole : calls_by m history ≡ calls_by m final.seen = subst (λ (k : ℕ). calls_by k history ≡ calls_by k final.seen) (sym old_number) mine.1 in
    let own_more : calls_by m notes.more ≡ map (entry m) acts = subst (λ (k : ℕ). calls_by k notes.more ≡ map (entry k) acts) (pn ∙ sym old_number) notes.own in
    let longer : StartsWith final.seen before.seen = record { rest = notes.more; is = grown } in
    record {
      port = done.port;
      serves = done.serves;
      begun = StartsWith-trans history final.seen done.port.seen mine.0 (StartsWith-trans final.seen before.seen done.port.seen longer done.seen);
      last = acts;
      last_is = what;
      own = whole ∙ (ap (calls_by m) grown ∙ (calls_by-append m before.seen notes.more ∙ (λ i. done.own i ++ own_more i)));
      counted = done.counted;
    }

pub control-served : {T : Type 0} (last : Result T PortFault) (seats : List (Place Act)) (before final : Place Act) (history : History) (p q : PortState) (old : Ends) (now : ControlAt) (end : ControlEnd)
    → MatchResult last (λ _. Flushes p q) (FlushFails false p q) → IsHistory (seats ++ final ∷ []) history
    → final.number ≡ length seats → old.port.number ≡ length seats → p.seen ≡ before.seen → p.number ≡ length seats → q.seen ≡ final.seen
    → ControlDone old now before end → ControlIn history old now end
control-served (Ok x) seats before final history p q old now end answer h number old_number ps pn qs done =
    control-noted seats before final history p q (Flush ∷ []) old now end h number old_number (inl refl) answer.notes ps pn qs done
control-served (Err fault.Worn) seats before final history p q old now end answer h number old_number ps pn qs done =
    control-noted seats before final history p q [] old now end h number old_number (inr (inr refl)) answer.1 ps pn qs done
control-served (Err (fault.Full rows sectors)) seats before final history p q old now end answer h number old_number ps pn qs done = absurd answer
control-served (Err fault.Memory) seats before final history p q old now end answer h number old_number ps pn qs done = absurd (let takes : false ≡ true = answer.1 in cc)
control-served (Err fault.Failed) seats before final history p q old now end answer h number old_number ps pn qs done =
    control-noted seats before final history p q (Fault Nothing ∷ []) old now end h number old_number (inr (inl refl)) answer.1 ps pn qs done

pub exports-served : {P A B : Type 0} (w : Ways A B) (base : Base) (tells : P → Bool) (shelf : P → ℕ) (told : P → Option (Listening A B Served)) (faults : P → ℕ) (old new : List P) (connections : ℕ)
    (start later : ControlAt) (ended : Option ControlEnd) (image : Seen) (end : ExportEnd)
    → HasServed w base tells shelf told faults old new connections start later ended image end → Exports w base tells shelf told faults old new connections start later ended image end
exports-served w base tells shelf told faults old new connections start later ended image export_end.Flushed h = h
exports-served w base tells shelf told faults old new connections start later ended image export_end.ListenerFailed h = h
exports-served w base tells shelf told faults old new connections start later ended image export_end.FlushFailed h = h
exports-served w base tells shelf told faults old new connections start later ended image export_end.Worn h = h
exports-served w base tells shelf told faults old new connections start later ended image export_end.Memory h = absurd h.why

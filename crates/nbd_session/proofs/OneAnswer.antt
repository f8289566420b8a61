-- What one request noted, and what is so where it is answered.
use Rattle.std.proofs.Common.{◌≡◌, ℕ, suc, ◌+◌, ◌≤◌, ◌^◌, ◌⊎◌, inl, inr, Bool, IsTrue, true, false, List, [], ◌∷◌, ◌++◌, length, drop, map, cond, refl, sym, ap, ◌∙◌, subst, arith, append_assoc, append-nil, length-append, eq-eqb}
use Rattle.std.proofs.lemmas.List.{drop_at}
use Rattle.flat_image.specs.declared.act.Act.{Act}
use Rattle.flat_image.specs.declared.act.Act.TheVariants as act
use Rattle.flat_image.specs.declared.act.Asked.TheVariants.{Nothing}
use Rattle.flat_image.specs.declared.stands.Entry.{Entry}
use Rattle.flat_image.specs.Entries.{entry, calls_by, StartsWith}
use Rattle.flat_image.specs.History.{History, reply}
use Rattle.flat_image.specs.Ports.{PortState, IsWorn, Notes, NotesLast, HasRoomFor, IsOverFor, Reads, Makes}
use Rattle.flat_image.proofs.Entries.{StartsWith-trans, calls_by-append}
use Rattle.flat_image.proofs.PortLaws.{Notes-none, Notes-trans}
use Rattle.nbd_session.specs.declared.errno.Errno.{Errno}
use Rattle.nbd_session.specs.declared.errno.Errno.TheVariants.{Permission, InputOutput, Memory, Invalid, Space, Shutdown}
use Rattle.nbd_session.specs.declared.job.Job.{Job}
use Rattle.nbd_session.specs.declared.job.Job.TheVariants.{Read, Write, Zero, Flush}
use Rattle.nbd_session.specs.Replies.{Answer, Good, Bad}
use Rattle.nbd_session.specs.Fits.{ReadRefused, ChangeRefused, FlushRefused, Flushed, Changes, Does}
use Rattle.nbd_session.specs.SessionLaws.{ChangeNotes, JobNotes, IsUpTo, IsReply, Holds}

-- ---- a port later

pub later_base : (p q : PortState) (acts : List Act) → Notes p q acts → q.base ≡ p.base
later_base p q acts n = ap (λ s. s.base) n.is

pub later_number : (p q : PortState) (acts : List Act) → Notes p q acts → q.number ≡ p.number
later_number p q acts n = ap (λ s. s.number) n.is

pub later_seen : (p q : PortState) (acts : List Act) → Notes p q acts → StartsWith q.seen p.seen
later_seen p q acts n = record { rest = n.more; is = ap (λ s. s.seen) n.is }

-- a history that is full stays so
pub later_worn : (p q : PortState) (acts : List Act) → Notes p q acts → IsWorn p → IsWorn q
later_worn p q acts n worn =
    let first : q.first ≡ p.first = ap (λ s. s.first) n.is in
    let long : length q.seen ≡ length p.seen + length n.more = ap (λ s. length s.seen) n.is ∙ length-append p.seen n.more in
    let within : q.first + length q.seen ≤ 2 ^ 62 = n.limit (omega (arith, worn)) in
    omega (arith, first, long, within, worn)

-- ---- places in the history

none : {A : Type 0} (xs : List A) → length xs ≡ 0 → xs ≡ []
none [] e = refl
none (x ∷ xs) e = let never : ⊥ = omega (arith, e) in absurd never

-- before an act that is the only one of its caller, the caller has none
none_before : (k : ℕ) (act : Act) (seen before behind more : History) → seen ++ more ≡ (seen ++ before) ++ entry k act ∷ behind
    → calls_by k more ≡ entry k act ∷ [] → calls_by k before ≡ []
none_before k act seen before behind more is own =
    let same : more ≡ before ++ entry k act ∷ behind =
    sym (drop_at seen more (length seen) refl) ∙ (ap (drop (length seen)) (is ∙ append_assoc seen before (entry k act ∷ behind)) ∙ drop_at seen (before ++ entry k act ∷ behind) (length seen) refl) in
    let split : calls_by k before ++ entry k act ∷ calls_by k behind ≡ entry k act ∷ [] =
    ap (λ b. calls_by k before ++ cond b (entry k act ∷ calls_by k behind) (calls_by k behind)) (sym (eq-eqb k k refl))
    ∙ (sym (calls_by-append k before (entry k act ∷ behind)) ∙ (ap (calls_by k) (sym same) ∙ own)) in
    let long : length (calls_by k before) + suc (length (calls_by k behind)) ≡ 1 =
    sym (length-append (calls_by k before) (entry k act ∷ calls_by k behind)) ∙ ap (length {A = Entry Act}) split in
    none (calls_by k before) (omega (arith, long))

-- the place of an act that is the only one
up_to : (old p q new : PortState) (acts : List Act) (act : Act) (before behind : History) → Notes old p acts → Notes p q (act ∷ [])
    → q.seen ≡ (p.seen ++ before) ++ entry p.number act ∷ behind → StartsWith new.seen q.seen → IsUpTo old new acts (p.seen ++ before)
up_to old p q new acts act before behind n m seen more =
    let number : p.number ≡ old.number = later_number old p acts n in
    let first : calls_by p.number before ≡ [] = none_before p.number act p.seen before behind m.more (sym (ap (λ s. s.seen) m.is) ∙ seen) m.own in
    record {
      more = n.more ++ before;
      goes_on = ap (λ s. s.seen ++ before) n.is ∙ append_assoc old.seen n.more before;
      within = StartsWith-trans new.seen q.seen (p.seen ++ before) more (record { rest = entry p.number act ∷ behind; is = seen });
      own = calls_by-append old.number n.more before
          ∙ (ap (λ l. l ++ calls_by old.number before) n.own
          ∙ (ap (λ l. map (entry old.number) acts ++ l) (ap (λ k. calls_by k before) (sym number) ∙ first)
          ∙ append-nil (map (entry old.number) acts)));
    }

-- the place of a read
reply_at : (old p q new : PortState) (before others : List Act) (at count : ℕ) (bytes : List ℕ)
    → Notes old p before → Reads p q at count bytes → Notes q new others → IsReply old new before (Read at count) bytes
reply_at old p q new before others at count bytes n r rest =
    let more : StartsWith new.seen q.seen = later_seen q new others rest in (
      p.seen ++ r.before,
      up_to old p q new before (act.Read at count) r.before r.behind n r.notes r.seen more,
      subst (λ k. StartsWith new.seen ((p.seen ++ r.before) ++ entry k (act.Read at count) ∷ [])) (later_number old p before n)
          (StartsWith-trans new.seen q.seen ((p.seen ++ r.before) ++ entry p.number (act.Read at count) ∷ []) more
          (record { rest = r.behind; is = r.seen ∙ sym (append_assoc (p.seen ++ r.before) (entry p.number (act.Read at count) ∷ []) r.behind) })),
      λ told. r.sectors (subst IsTrue (sym (ap (λ s. s.tells) n.is)) told) ∙ ap (λ b. reply b (p.seen ++ r.before) at count) (later_base old p before n),
    )

-- the place where a change had room
abbrev Room : PortState → PortState → List Act → Act → Type 0
Room old new before change = (front : History) × IsUpTo old new before front × HasRoomFor old.base front change

room_at : (old p q new : PortState) (before : List Act) (noted change : Act) → Notes old p before → NotesLast p q noted change → StartsWith new.seen q.seen → Room old new before change
room_at old p q new before noted change n last more = (
  p.seen ++ last.before,
  up_to old p q new before noted last.before [] n last.notes last.seen more,
  subst (λ b. HasRoomFor b (p.seen ++ last.before) change) (later_base old p before n) last.room,
)

-- the place where a change found no room
over_at : (old p q new : PortState) (before others : List Act) (change : Act) → Notes old p before → Notes p q [] → Notes q new others
    → IsOverFor q.base q.seen change → (front : History) × IsUpTo old new before front × IsOverFor old.base front change
over_at old p q new before others change n m rest over =
    let whole = Notes-trans old p q before [] n m in (
      q.seen,
      record {
        more = whole.more;
        goes_on = ap (λ s. s.seen) whole.is;
        within = later_seen q new others rest;
        own = whole.own ∙ ap (map (entry old.number)) (append-nil before);
      },
      subst (λ b. IsOverFor b q.seen change) (later_base old q (before ++ []) whole) over,
    )

-- ---- one request

-- what is so where a change is answered
abbrev Said : Bool → PortState → PortState → List Act → Act → List Act → Answer → Type 0
Said takes old new before change noted (Good bytes) = (bytes ≡ []) × Room old new before change
Said takes old new before change noted (Bad Permission) = ⊥
Said takes old new before change noted (Bad InputOutput) = Room old new before change
Said takes old new before change noted (Bad Memory) = (noted ≡ []) ⊎ (takes ≡ true)
Said takes old new before change noted (Bad Invalid) = ⊥
Said takes old new before change noted (Bad Space) = (front : History) × IsUpTo old new before front × IsOverFor old.base front change
Said takes old new before change noted (Bad Shutdown) = IsWorn new

record ChangeStep (takes : Bool) (p q : PortState) (change : Act) (fua : Bool) (answer : Answer) : Type 0 where
  noted : List Act
  notes : Notes p q noted
  row : ChangeNotes change fua answer noted
  holds : (old new : PortState) (before others : List Act) → Notes old p before → Notes q new others → Said takes old new before change noted answer

pub record Step (takes : Bool) (p q : PortState) (job : Job) (items : List ℕ) (answer : Answer) : Type 0 where
  pub noted : List Act
  pub notes : Notes p q noted
  pub row : JobNotes job items answer noted
  pub holds : (old new : PortState) (before others : List Act) → Notes old p before → Notes q new others → Holds takes old new before job items noted answer

-- nothing was put to the port
nothing_put : (p q : PortState) → q ≡ p → Notes p q []
nothing_put p q same = subst (λ s. Notes p s []) (sym same) (Notes-none p)

read_refused : (takes : Bool) (p q : PortState) (at count : ℕ) (items : List ℕ) (errno : Errno) → ReadRefused p q at count errno → Step takes p q (Read at count) items (Bad errno)
read_refused takes p q at count items Permission h = absurd h
read_refused takes p q at count items InputOutput (rose, how) = elim how [
  | inl n ↦ record { noted = act.Fault Nothing ∷ []; notes = n; row = inl refl; holds = λ old new before others n rest. tt }
  | inr more ↦ elim more [
    | inl n ↦ record { noted = act.Read at count ∷ []; notes = n; row = inr (inl refl); holds = λ old new before others n rest. tt }
    | inr n ↦ record { noted = act.Read at count ∷ act.Fault Nothing ∷ []; notes = n; row = inr (inr refl); holds = λ old new before others n rest. tt }
  ]
]
read_refused takes p q at count items Memory how = elim how [
  | inl same ↦ record { noted = []; notes = nothing_put p q same; row = inl refl; holds = λ old new before others n rest. tt }
  | inr (open_still, said) ↦ elim said [
    | inl n ↦ record { noted = []; notes = n; row = inl refl; holds = λ old new before others n rest. tt }
    | inr n ↦ record { noted = act.Read at count ∷ []; notes = n; row = inr refl; holds = λ old new before others n rest. tt }
  ]
]
read_refused takes p q at count items Invalid h = absurd h
read_refused takes p q at count items Space h = absurd h
read_refused takes p q at count items Shutdown (worn, how) = elim how [
  | inl n ↦ record { noted = []; notes = n; row = inl refl; holds = λ old new before others n rest. later_worn q new others rest worn }
  | inr n ↦ record { noted = act.Read at count ∷ []; notes = n; row = inr refl; holds = λ old new before others n rest. later_worn q new others rest worn }
]

-- a change that was refused itself
change_refused : (takes : Bool) (p q : PortState) (change : Act) (errno : Errno) → ChangeRefused p q change errno → ChangeStep takes p q change false (Bad errno)
change_refused takes p q change Permission h = absurd h
change_refused takes p q change InputOutput h =
    record {
      noted = act.Fault Nothing ∷ [];
      notes = h.1.notes;
      row = refl;
      holds = λ old new before others n rest. room_at old p q new before (act.Fault Nothing) change n h.1 (later_seen q new others rest);
    }
change_refused takes p q change Memory h = elim h [
  | inl same ↦ record { noted = []; notes = nothing_put p q same; row = refl; holds = λ old new before others n rest. inl refl }
  | inr said ↦ record { noted = []; notes = said.2; row = refl; holds = λ old new before others n rest. inl refl }
]
change_refused takes p q change Invalid h = absurd h
change_refused takes p q change Space h =
    record { noted = []; notes = h.2; row = refl; holds = λ old new before others n rest. over_at old p q new before others change n h.2 rest h.1 }
change_refused takes p q change Shutdown h =
    record { noted = []; notes = h.1; row = refl; holds = λ old new before others n rest. later_worn q new others rest h.0 }

-- a change that was made, and then a flush that was refused
flush_refused : (takes : Bool) (p mid q : PortState) (change : Act) (errno : Errno) → Makes p mid change → FlushRefused takes mid q errno
    → ChangeStep takes p q change true (Bad errno)
flush_refused takes p mid q change Permission made h = absurd h
flush_refused takes p mid q change InputOutput made h = record {
  noted = change ∷ act.Fault Nothing ∷ [];
  notes = Notes-trans p mid q (change ∷ []) (act.Fault Nothing ∷ []) made.notes h.1;
  row = inr (act.Fault Nothing ∷ [], refl, refl);
  holds = λ old new before others n rest. room_at old p mid new before change change n made
      (StartsWith-trans new.seen q.seen mid.seen (later_seen q new others rest) (later_seen mid q (act.Fault Nothing ∷ []) h.1));
}
flush_refused takes p mid q change Memory made h = record {
  noted = change ∷ [];
  notes = Notes-trans p mid q (change ∷ []) [] made.notes h.2;
  row = inr ([], refl, refl);
  holds = λ old new before others n rest. inr h.1;
}
flush_refused takes p mid q change Invalid made h = absurd h
flush_refused takes p mid q change Space made h = absurd h
flush_refused takes p mid q change Shutdown made h = record {
  noted = change ∷ [];
  notes = Notes-trans p mid q (change ∷ []) [] made.notes h.1;
  row = inr ([], refl, refl);
  holds = λ old new before others n rest. later_worn q new others rest h.0;
}

with_flush : (takes : Bool) (p q : PortState) (change : Act) (errno : Errno) → ChangeStep takes p q change false (Bad errno) → ChangeStep takes p q change true (Bad errno)
with_flush takes p q change errno s = record { noted = s.noted; notes = s.notes; row = inl s.row; holds = s.holds }

change_step : (takes : Bool) (p q : PortState) (change : Act) (fua : Bool) (answer : Answer) → Changes takes p q change fua answer → ChangeStep takes p q change fua answer
change_step takes p q change false (Good bytes) (is, made) =
    record {
      noted = change ∷ [];
      notes = made.notes;
      row = refl;
      holds = λ old new before others n rest. (is, room_at old p q new before change change n made (later_seen q new others rest));
    }
change_step takes p q change false (Bad errno) h = change_refused takes p q change errno h
change_step takes p q change true (Good bytes) (mid, made, (is, flushed)) = record {
  noted = change ∷ act.Flush ∷ [];
  notes = Notes-trans p mid q (change ∷ []) (act.Flush ∷ []) made.notes flushed.notes;
  row = refl;
  holds = λ old new before others n rest. (
    is,
    room_at old p mid new before change change n made
        (StartsWith-trans new.seen q.seen mid.seen (later_seen q new others rest) (later_seen mid q (act.Flush ∷ []) flushed.notes)),
  );
}
change_step takes p q change true (Bad errno) h = elim h [
  | inl refused ↦ with_flush takes p q change errno (change_refused takes p q change errno refused)
  | inr (mid, made, refused) ↦ flush_refused takes p mid q change errno made refused
]

-- what is so of a change is so of a WRITE and of a TRIM or WRITE_ZEROES
write_said : (takes : Bool) (old new : PortState) (before : List Act) (at count : ℕ) (fua : Bool) (items : List ℕ) (noted : List Act) (answer : Answer)
    → Said takes old new before (act.Write at items) noted answer → Holds takes old new before (Write at count fua) items noted answer
write_said takes old new before at count fua items noted (Good bytes) h = h
write_said takes old new before at count fua items noted (Bad Permission) h = absurd h
write_said takes old new before at count fua items noted (Bad InputOutput) h = h
write_said takes old new before at count fua items noted (Bad Memory) h = h
write_said takes old new before at count fua items noted (Bad Invalid) h = absurd h
write_said takes old new before at count fua items noted (Bad Space) h = h
write_said takes old new before at count fua items noted (Bad Shutdown) h = h

zero_said : (takes : Bool) (old new : PortState) (before : List Act) (at count : ℕ) (fua : Bool) (items : List ℕ) (noted : List Act) (answer : Answer)
    → Said takes old new before (act.Zero at count) noted answer → Holds takes old new before (Zero at count fua) items noted answer
zero_said takes old new before at count fua items noted (Good bytes) h = h
zero_said takes old new before at count fua items noted (Bad Permission) h = absurd h
zero_said takes old new before at count fua items noted (Bad InputOutput) h = h
zero_said takes old new before at count fua items noted (Bad Memory) h = h
zero_said takes old new before at count fua items noted (Bad Invalid) h = absurd h
zero_said takes old new before at count fua items noted (Bad Space) h = h
zero_said takes old new before at count fua items noted (Bad Shutdown) h = h

flush_step : (takes : Bool) (p q : PortState) (items : List ℕ) (answer : Answer) → Flushed takes p q answer → Step takes p q Flush items answer
flush_step takes p q items (Good bytes) (is, flushed) =
    record { noted = act.Flush ∷ []; notes = flushed.notes; row = refl; holds = λ old new before others n rest. (is, tt) }
flush_step takes p q items (Bad Permission) h = absurd h
flush_step takes p q items (Bad InputOutput) h =
    record { noted = act.Fault Nothing ∷ []; notes = h.1; row = refl; holds = λ old new before others n rest. tt }
flush_step takes p q items (Bad Memory) h = record { noted = []; notes = h.2; row = refl; holds = λ old new before others n rest. h.1 }
flush_step takes p q items (Bad Invalid) h = absurd h
flush_step takes p q items (Bad Space) h = absurd h
flush_step takes p q items (Bad Shutdown) h =
    record { noted = []; notes = h.1; row = refl; holds = λ old new before others n rest. later_worn q new others rest h.0 }

pub step : (takes : Bool) (p q : PortState) (job : Job) (items : List ℕ) (answer : Answer) → Does takes p q job items answer → Step takes p q job items answer
step takes p q (Read at count) items (Good bytes) h = record {
  noted = act.Read at count ∷ [];
  notes = h.notes;
  row = refl;
  holds = λ old new before others n rest. (reply_at old p q new before others at count bytes n h rest, tt);
}
step takes p q (Read at count) items (Bad errno) h = read_refused takes p q at count items errno h
step takes p q (Write at count fua) items answer h =
    let s = change_step takes p q (act.Write at items) fua answer h in
    record {
      noted = s.noted;
      notes = s.notes;
      row = s.row;
      holds = λ old new before others n rest. write_said takes old new before at count fua items s.noted answer (s.holds old new before others n rest);
    }
step takes p q (Zero at count fua) items answer h =
    let s = change_step takes p q (act.Zero at count) fua answer h in
    record {
      noted = s.noted;
      notes = s.notes;
      row = s.row;
      holds = λ old new before others n rest. zero_said takes old new before at count fua items s.noted answer (s.holds old new before others n rest);
    }
step takes p q Flush items answer h = flush_step takes p q items answer h

pub does_notes : (takes : Bool) (p q : PortState) (job : Job) (items : List ℕ) (answer : Answer) → Does takes p q job items answer → (noted : List Act) × Notes p q noted
does_notes takes p q job items answer h = let s = step takes p q job items answer h in (s.noted, s.notes)

-- what is so of the first request
pub does_holds : (takes : Bool) (p q new : PortState) (others : List Act) (job : Job) (items : List ℕ) (answer : Answer) → Does takes p q job items answer → Notes q new others
    → (noted : List Act) × Holds takes p new [] job items noted answer
does_holds takes p q new others job items answer h rest =
    let s = step takes p q job items answer h in (s.noted, s.holds p new [] others (Notes-none p) rest)

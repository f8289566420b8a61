-- What answers that fit come to.
use Rattle.std.proofs.Common.{◌≡◌, ◌≢◌, ℕ, suc, ◌+◌, ◌<◌, ◌≤◌, ◌^◌, ◌⊎◌, inl, inr, Bool, true, false, List, [], ◌∷◌, ◌++◌, length, map, count_by, cond, refl, sym, ap, ◌∙◌, subst, arith, length-append}
use Rattle.std.proofs.lemmas.List.Sums.{sum_by-cons}
use Rattle.sector_extent.specs.CauseLaws.{calm}
use Rattle.flat_image.specs.declared.act.Act.{Act}
use Rattle.flat_image.specs.declared.act.Act.TheVariants as act
use Rattle.flat_image.specs.declared.act.Asked.TheVariants.{Nothing}
use Rattle.flat_image.specs.declared.stands.Entry.{Entry}
use Rattle.flat_image.specs.Entries.{entry, calls_by}
use Rattle.flat_image.specs.History.{History}
use Rattle.flat_image.specs.Ports.{PortState, IsWorn, fault_count, Notes}
use Rattle.flat_image.proofs.PortLaws.{Notes-none, Notes-trans}
use Rattle.nbd_session.specs.declared.errno.Errno.TheVariants.{Permission, InputOutput, Memory, Invalid, Space, Shutdown}
use Rattle.nbd_session.specs.declared.job.Job.{Job}
use Rattle.nbd_session.specs.declared.job.Job.TheVariants.{Read, Write, Zero, Flush}
use Rattle.nbd_session.specs.Replies.{Answer, Good, Bad}
use Rattle.nbd_session.specs.Talks.{Passed}
use Rattle.nbd_session.specs.Fits.{Changes, Does, Fits}
use Rattle.nbd_session.proofs.OneAnswer.{later_base, later_number, later_seen, later_worn, step}
use Rattle.nbd_session.specs.SessionLaws.{ChangeNotes, JobNotes, IsInTime, AreAnswered, is_io, FitsHistory}

-- ---- a history that is not full yet

-- where something is noted there was room for an entry
some_more : (k : ℕ) (more : History) (noted : List Act) → calls_by k more ≡ map (entry k) noted → 0 < length noted → 0 < length more
some_more k [] [] own some = some
some_more k [] (act ∷ noted) own some = let long : 0 ≡ suc (length (map (entry k) noted)) = ap (length {A = Entry Act}) own in absurd (omega (arith, long))
some_more k (e ∷ more) noted own some = omega arith

noted_going : (p q : PortState) (noted : List Act) → Notes p q noted → 0 < length noted → p.first + length p.seen ≤ 2 ^ 62 → p.first + length p.seen < 2 ^ 62
noted_going p q noted n some within =
    let first : q.first ≡ p.first = ap (λ s. s.first) n.is in
    let long : length q.seen ≡ length p.seen + length n.more = ap (λ s. length s.seen) n.is ∙ length-append p.seen n.more in
    omega (arith, first, long, n.limit within, some_more p.number n.more noted n.own some)

length_is : (noted acts : List Act) → noted ≡ acts → 0 < length acts → 0 < length noted
length_is noted acts is some = subst (λ l. 0 < length l) (sym is) some

change_some : (change : Act) (fua : Bool) (bytes : List ℕ) (noted : List Act) → ChangeNotes change fua (Good bytes) noted → 0 < length noted
change_some change false bytes noted row = length_is noted (change ∷ []) row (omega arith)
change_some change true bytes noted row = length_is noted (change ∷ act.Flush ∷ []) row (omega arith)

failed_some : (change : Act) (fua : Bool) (noted : List Act) → ChangeNotes change fua (Bad InputOutput) noted → 0 < length noted
failed_some change false noted row = length_is noted (act.Fault Nothing ∷ []) row (omega arith)
failed_some change true noted row = elim row [
  | inl refused ↦ length_is noted (act.Fault Nothing ∷ []) refused (omega arith)
  | inr (others, is, rest) ↦ length_is noted (change ∷ others) is (omega arith)
]

good_some : (job : Job) (items bytes : List ℕ) (noted : List Act) → JobNotes job items (Good bytes) noted → 0 < length noted
good_some (Read at count) items bytes noted row = length_is noted (act.Read at count ∷ []) row (omega arith)
good_some (Write at count fua) items bytes noted row = change_some (act.Write at items) fua bytes noted row
good_some (Zero at count fua) items bytes noted row = change_some (act.Zero at count) fua bytes noted row
good_some Flush items bytes noted row = length_is noted (act.Flush ∷ []) row (omega arith)

io_some : (job : Job) (items : List ℕ) (noted : List Act) → JobNotes job items (Bad InputOutput) noted → 0 < length noted
io_some (Read at count) items noted row = elim row [
  | inl fault ↦ length_is noted (act.Fault Nothing ∷ []) fault (omega arith)
  | inr more ↦ elim more [
    | inl read ↦ length_is noted (act.Read at count ∷ []) read (omega arith)
    | inr both ↦ length_is noted (act.Read at count ∷ act.Fault Nothing ∷ []) both (omega arith)
  ]
]
io_some (Write at count fua) items noted row = failed_some (act.Write at items) fua noted row
io_some (Zero at count fua) items noted row = failed_some (act.Zero at count) fua noted row
io_some Flush items noted row = length_is noted (act.Fault Nothing ∷ []) row (omega arith)

space_going : (takes : Bool) (p q : PortState) (change : Act) (fua : Bool) → Changes takes p q change fua (Bad Space) → IsWorn p → ⊥
space_going takes p q change false h = λ worn. h.0 (later_worn p q [] h.2 worn)
space_going takes p q change true h = elim h [
  | inl refused ↦ λ worn. refused.0 (later_worn p q [] refused.2 worn)
  | inr (mid, made, refused) ↦ absurd refused
]

job_going : (takes : Bool) (p q : PortState) (job : Job) (items : List ℕ) → Does takes p q job items (Bad Space) → IsWorn p → ⊥
job_going takes p q (Read at count) items h = absurd h
job_going takes p q (Write at count fua) items h = space_going takes p q (act.Write at items) fua h
job_going takes p q (Zero at count fua) items h = space_going takes p q (act.Zero at count) fua h
job_going takes p q Flush items h = absurd h

going : (takes : Bool) (p q : PortState) (job : Job) (items : List ℕ) (answer : Answer) → Does takes p q job items answer → p.first + length p.seen ≤ 2 ^ 62
    → (answer ≡ Bad Memory) ⊎ ((answer ≡ Bad Shutdown) ⊎ (p.first + length p.seen < 2 ^ 62))
going takes p q job items (Good bytes) h within =
    let s = step takes p q job items (Good bytes) h in inr (inr (noted_going p q s.noted s.notes (good_some job items bytes s.noted s.row) within))
going takes p q job items (Bad Permission) h within =
    absurd ((step takes p q job items (Bad Permission) h).holds p q [] [] (Notes-none p) (Notes-none q))
going takes p q job items (Bad InputOutput) h within =
    let s = step takes p q job items (Bad InputOutput) h in inr (inr (noted_going p q s.noted s.notes (io_some job items s.noted s.row) within))
going takes p q job items (Bad Memory) h within = inl refl
going takes p q job items (Bad Invalid) h within = absurd ((step takes p q job items (Bad Invalid) h).holds p q [] [] (Notes-none p) (Notes-none q))
going takes p q job items (Bad Space) h within =
    let open_still : p.first + length p.seen ≢ 2 ^ 62 = job_going takes p q job items h in inr (inr (omega (arith, within, open_still)))
going takes p q job items (Bad Shutdown) h within = inr (inl refl)

in_time : (takes : Bool) (old p q new : PortState) (before others : List Act) (job : Job) (items : List ℕ) (answer : Answer) → Notes old p before → Notes p new others
    → Does takes p q job items answer → IsInTime old new before answer
in_time takes old p q new before others job items answer n rest h within = elim (going takes p q job items answer h (n.limit within)) [
  | inl memory ↦ inl memory
  | inr more ↦ elim more [
    | inl shutdown ↦ inr (inl shutdown)
    | inr less ↦ inr (inr (
      p.seen,
      record { more = n.more; goes_on = ap (λ s. s.seen) n.is; within = later_seen p new others rest; own = n.own },
      subst (λ k. k + length p.seen < 2 ^ 62) (ap (λ s. s.first) n.is) less,
    ))
  ]
]

-- ---- all requests

pub fits_notes : (takes : Bool) (p q : PortState) (passed : List Passed) (answers : List Answer) → Fits takes p passed answers q → (acts : List Act) × Notes p q acts
fits_notes takes p q [] [] same = ([], subst (λ s. Notes p s []) (sym same) (Notes-none p))
fits_notes takes p q [] (answer ∷ answers) h = absurd h
fits_notes takes p q (x ∷ passed) [] h = absurd h
fits_notes takes p q (x ∷ passed) (answer ∷ answers) (mid, does, rest) =
    let s = step takes p mid x.job x.bytes answer does.does in
    let (acts, notes) = fits_notes takes mid q passed answers rest in
    (s.noted ++ acts, Notes-trans p mid q s.noted acts s.notes notes)

answered : (takes : Bool) (old p new : PortState) (before : List Act) (passed : List Passed) (answers : List Answer) → Notes old p before → Fits takes p passed answers new
    → (acts : List Act) × Notes old new acts × AreAnswered takes old new before passed answers acts
answered takes old p new before [] [] n same = (before, subst (λ s. Notes old s before) (sym same) n, refl)
answered takes old p new before [] (answer ∷ answers) n h = absurd h
answered takes old p new before (x ∷ passed) [] n h = absurd h
answered takes old p new before (x ∷ passed) (answer ∷ answers) n (mid, does, rest) =
    let s = step takes p mid x.job x.bytes answer does.does in
    let (others, notes) = fits_notes takes mid new passed answers rest in
    let (acts, whole, each) = answered takes old mid new (before ++ s.noted) passed answers (Notes-trans old p mid before s.noted n s.notes) rest in (
      acts,
      whole,
      (
        s.noted,
        s.row,
        s.holds old new before others n notes,
        in_time takes old p mid new before (s.noted ++ others) x.job x.bytes answer n (Notes-trans p mid new s.noted others s.notes notes) does.does,
        each,
      ),
    )

-- ---- faults

change_io : (takes : Bool) (p q : PortState) (change : Act) (fua : Bool) → Changes takes p q change fua (Bad InputOutput) → p.faults < q.faults
change_io takes p q change false h = h.0
change_io takes p q change true h = elim h [
  | inl refused ↦ refused.0
  | inr (mid, made, refused) ↦ omega (arith, made.notes.later, refused.0)
]

pub does_io : (takes : Bool) (p q : PortState) (job : Job) (items : List ℕ) → Does takes p q job items (Bad InputOutput) → p.faults < q.faults
does_io takes p q (Read at count) items h = h.0
does_io takes p q (Write at count fua) items h = change_io takes p q (act.Write at items) fua h
does_io takes p q (Zero at count fua) items h = change_io takes p q (act.Zero at count) fua h
does_io takes p q Flush items h = h.0

does_faults : (takes : Bool) (p q : PortState) (job : Job) (items : List ℕ) (answer : Answer) → Does takes p q job items answer → p.faults + cond (is_io answer) 1 0 ≤ q.faults
does_faults takes p q job items (Good bytes) h = omega (arith, (step takes p q job items (Good bytes) h).notes.later)
does_faults takes p q job items (Bad Permission) h = omega (arith, (step takes p q job items (Bad Permission) h).notes.later)
does_faults takes p q job items (Bad InputOutput) h = omega (arith, does_io takes p q job items h)
does_faults takes p q job items (Bad Memory) h = omega (arith, (step takes p q job items (Bad Memory) h).notes.later)
does_faults takes p q job items (Bad Invalid) h = omega (arith, (step takes p q job items (Bad Invalid) h).notes.later)
does_faults takes p q job items (Bad Space) h = omega (arith, (step takes p q job items (Bad Space) h).notes.later)
does_faults takes p q job items (Bad Shutdown) h = omega (arith, (step takes p q job items (Bad Shutdown) h).notes.later)

pub fits_faults : (takes : Bool) (p q : PortState) (passed : List Passed) (answers : List Answer) → Fits takes p passed answers q → p.faults + count_by is_io answers ≤ q.faults
fits_faults takes p q [] [] same = omega (arith, ap (λ s. s.faults) same)
fits_faults takes p q [] (answer ∷ answers) h = absurd h
fits_faults takes p q (x ∷ passed) [] h = absurd h
fits_faults takes p q (x ∷ passed) (answer ∷ answers) (mid, does, rest) =
    let more : count_by is_io (answer ∷ answers) ≡ cond (is_io answer) 1 0 + count_by is_io answers = sum_by-cons (λ x. cond (is_io x) 1 0) answer answers in
    omega (arith, more, does_faults takes p mid x.job x.bytes answer does.does, fits_faults takes mid q passed answers rest)

-- an answer that is not EIO
other_answer : (answer : Answer) → cond {A = ℕ} (is_io answer) 1 0 ≡ 0 → answer ≡ Bad InputOutput → ⊥
other_answer answer none is = let number : Answer → ℕ = λ a. cond (is_io a) 1 0 in let one : number answer ≡ 1 = ap number is in omega (arith, none, one)

fits_spared : (takes : Bool) (p q : PortState) (passed : List Passed) (answers : List Answer) → Fits takes p passed answers q → count_by is_io answers ≡ 0 → q.faults ≡ p.faults
fits_spared takes p q [] [] same none = ap (λ s. s.faults) same
fits_spared takes p q [] (answer ∷ answers) h none = absurd h
fits_spared takes p q (x ∷ passed) [] h none = absurd h
fits_spared takes p q (x ∷ passed) (answer ∷ answers) (mid, does, rest) none =
    let more : count_by is_io (answer ∷ answers) ≡ cond (is_io answer) 1 0 + count_by is_io answers = sum_by-cons (λ x. cond (is_io x) 1 0) answer answers in
    let other = other_answer answer (omega (arith, more, none)) in
    fits_spared takes mid q passed answers rest (omega (arith, more, none)) ∙ calm fault_count p mid (answer ≡ Bad InputOutput) does.cause other

pub fits_history : (takes : Bool) (old new : PortState) (passed : List Passed) (answers : List Answer) → Fits takes old passed answers new → FitsHistory takes old passed answers new
fits_history takes old new passed answers h =
    let (acts, notes, each) = answered takes old old new [] passed answers (Notes-none old) h in
    record {
      base = later_base old new acts notes;
      first = ap (λ s. s.first) notes.is;
      number = later_number old new acts notes;
      more = notes.more;
      seen = ap (λ s. s.seen) notes.is;
      acts = acts;
      own = notes.own;
      answered = each;
      faults = fits_faults takes old new passed answers h;
      spared = fits_spared takes old new passed answers h;
    }

-- The steps of a set and of a format, and what a crash leaves after each.
use Rattle.std.proofs.Common.{◌≡◌, ℕ, ◌+◌, ◌<◌, List, [], ◌∷◌, refl, sym, ap, ◌∙◌, subst, inl, inr, arith}
use Rattle.std.specs.Prelude.{◌^◌, replicate}
use Rattle.block_disk.specs.Changes.{put, Torn}
use Rattle.block_disk.specs.DiskState.{DiskState, Files}
use Rattle.block_disk.specs.Claims.{FileRun, FileRunBy}
use Rattle.block_disk.proofs.Moments.{by_weakened, by_joined, run_weakened, run_joined}
use Rattle.gate_mark.specs.declared.mark.Mark.{Mark}
use Rattle.gate_mark.specs.declared.mark.Rest.{Rest}
use Rattle.gate_mark.specs.declared.mark.Rest.TheVariants.{Closed, Stale, Attempted}
use Rattle.gate_mark.specs.declared.mark.Slot.TheVariants.{First}
use Rattle.gate_mark.specs.MarkFile.{base_of, other_of}
use Rattle.gate_mark.specs.Mark.{Fits, MarkFits, IsKept, IsFilled, Attempts, ShowsEither, MarkShows}
use Rattle.gate_mark.specs.Shown.{shown}
use Rattle.gate_mark.specs.Through.{IsTorn, IsPut}
use Rattle.gate_mark.proofs.SlotWrites.{torn_gate, torn_fill, closed_now, filled_now, attempt_fits, opened_now, formatted_now, put_nil, IsAttempt}

-- a run of which all that a crash leaves is an old outcome with a write torn, where each such outcome has P
pub torn_run : (file at n : ℕ) (old new : DiskState) (P : List ℕ → Type 0)
    → ((d c : List ℕ) → old.may_leave file d → Torn at n d c → P c)
    → FileRun file old new (IsTorn old file at n) → FileRun file old new P
torn_run file at n old new P lasts run =
    run_weakened (λ f. f ≡ file) old new (λ (u : Unit {0}) (files : Files). IsTorn old file at n (files file)) (λ (files : Files). P (files file)) run
    (λ u files beside. lasts beside.has.0 (files file) beside.has.1 beside.has.2)

-- a close
pub shut_lasts : (mark : Mark) (at : ℕ) (old : DiskState) → at ≡ base_of (other_of mark.current) → (mark.rest ≡ Closed → ⊥) → IsKept old mark
    → (d c : List ℕ) → old.may_leave mark.file d → Torn at 1 d c → MarkFits mark c
shut_lasts mark at old is not_closed kept d c left torn =
    torn_gate mark.current mark.sequence mark.body mark.rest d c not_closed (subst (λ a. Torn a 1 d c) is torn) (kept d left)

pub shut_done : (mark : Mark) (at : ℕ) (old new : DiskState) → at ≡ base_of (other_of mark.current) → IsKept old mark
    → ((c : List ℕ) → new.may_leave mark.file c → IsPut old mark.file at (0 ∷ []) c)
    → IsKept new (record mark { rest = Closed })
shut_done mark at old new is kept done c left =
    let put_now = done c left in
    let same : c ≡ put put_now.0 (base_of (other_of mark.current)) (0 ∷ []) = put_now.2 ∙ ap (λ a. put put_now.0 a (0 ∷ [])) is in
    subst (Fits mark.current mark.sequence mark.body Closed) (sym same)
    (closed_now mark.current mark.sequence mark.body mark.rest put_now.0 (kept put_now.0 put_now.1))

-- a fill
pub fill_lasts : (mark : Mark) (at n : ℕ) (old : DiskState) → at ≡ base_of (other_of mark.current) + 8 → n ≡ 56 → mark.rest ≡ Closed → IsKept old mark
    → (d c : List ℕ) → old.may_leave mark.file d → Torn at n d c → MarkFits mark c
fill_lasts mark at n old is size closed kept d c left torn =
    let fits = subst (λ rest. Fits mark.current mark.sequence mark.body rest d) closed (kept d left) in
    subst (λ rest. Fits mark.current mark.sequence mark.body rest c) (sym closed)
    (torn_fill mark.current mark.sequence mark.body d c (subst (λ a. Torn a 56 d c) is (subst (λ k. Torn at k d c) size torn)) fits)

pub fill_done : (mark : Mark) (at : ℕ) (body bytes : List ℕ) (old new : DiskState) → at ≡ base_of (other_of mark.current) + 8
    → mark.sequence < 2 ^ 63 → IsAttempt (mark.sequence + 1) body bytes
    → ((c : List ℕ) → new.may_leave mark.file c → IsPut old mark.file at bytes c)
    → IsFilled new mark body
fill_done mark at body bytes old new is below attempt done c left =
    let put_now = done c left in
    let same : c ≡ put put_now.0 (base_of (other_of mark.current) + 8) bytes = put_now.2 ∙ ap (λ a. put put_now.0 a bytes) is in
    let filled = filled_now (other_of mark.current) (mark.sequence + 1) body bytes put_now.0 (omega arith) attempt in
    rw same filled

-- an open
pub open_lasts : (mark : Mark) (at : ℕ) (body : List ℕ) (old : DiskState) → at ≡ base_of (other_of mark.current) → IsKept old mark → IsFilled old mark body
    → (d c : List ℕ) → old.may_leave mark.file d → Torn at 1 d c → Fits mark.current mark.sequence mark.body (Attempted body) c
open_lasts mark at body old is kept filled d c left torn =
    torn_gate mark.current mark.sequence mark.body (Attempted body) d c (λ e. cc) (subst (λ a. Torn a 1 d c) is torn)
    (attempt_fits mark.current mark.sequence mark.body body mark.rest d (filled d left) (kept d left))

pub open_done : (mark : Mark) (at : ℕ) (body : List ℕ) (old new : DiskState) → at ≡ base_of (other_of mark.current) → IsKept old mark → IsFilled old mark body
    → ((c : List ℕ) → new.may_leave mark.file c → IsPut old mark.file at (165 ∷ []) c)
    → IsKept new (record mark { sequence = mark.sequence + 1; body = body; current = other_of mark.current; rest = Stale })
open_done mark at body old new is kept filled done c left =
    let put_now = done c left in
    let same : c ≡ put put_now.0 (base_of (other_of mark.current)) (165 ∷ []) = put_now.2 ∙ ap (λ a. put put_now.0 a (165 ∷ [])) is in
    subst (Fits (other_of mark.current) (mark.sequence + 1) body Stale) (sym same)
    (opened_now mark.current mark.sequence mark.body body put_now.0
    (attempt_fits mark.current mark.sequence mark.body body mark.rest put_now.0 (filled put_now.0 put_now.1) (kept put_now.0 put_now.1)))

-- a step during which one attempt may show
as_attempt : (mark : Mark) (body : List ℕ) (attempt : Rest) (old new : DiskState)
    → FileRun mark.file old new (Fits mark.current mark.sequence mark.body attempt)
    → Attempts body mark.rest attempt
    → FileRunBy mark.file old new (λ (i : Rest) c. Attempts body mark.rest i × ShowsEither mark i c)
as_attempt mark body attempt old new run attempts =
    by_weakened (λ f. f ≡ mark.file) old new (λ (u : Unit {0}) (files : Files). Fits mark.current mark.sequence mark.body attempt (files mark.file))
    (λ (i : Rest) (files : Files). Attempts body mark.rest i × ShowsEither mark i (files mark.file)) (λ (u : Unit {0}). attempt) run
    (λ u files beside. (attempts, shown mark.current mark.sequence mark.body attempt (files mark.file) beside.has))

-- a set as far as its close
pub set_closed : (mark : Mark) (body : List ℕ) (old new : DiskState) → FileRun mark.file old new (MarkFits mark)
    → FileRunBy mark.file old new (λ (i : Rest) c. Attempts body mark.rest i × ShowsEither mark i c)
set_closed mark body old new run = as_attempt mark body mark.rest old new run (inl refl)

-- as far as its fill
pub set_filled : (mark closed : Mark) (body : List ℕ) (old mid new : DiskState) → closed ≡ record mark { rest = Closed }
    → FileRun mark.file old mid (MarkFits mark) → FileRun closed.file mid new (MarkFits closed)
    → FileRunBy mark.file old new (λ (i : Rest) c. Attempts body mark.rest i × ShowsEither mark i c)
set_filled mark closed body old mid new same first second =
    by_joined (λ f. f ≡ mark.file) old mid new (λ (i : Rest) (files : Files). Attempts body mark.rest i × ShowsEither mark i (files mark.file))
    (set_closed mark body old mid first)
    (as_attempt mark body Closed mid new (subst (λ (m : Mark). FileRun m.file mid new (MarkFits m)) same second) (inr (inl refl)))

-- the whole
pub set_opened : (mark closed : Mark) (body : List ℕ) (old mid filled new : DiskState) → closed ≡ record mark { rest = Closed }
    → FileRun mark.file old mid (MarkFits mark) → FileRun closed.file mid filled (MarkFits closed)
    → FileRun closed.file filled new (Fits closed.current closed.sequence closed.body (Attempted body))
    → FileRunBy mark.file old new (λ (i : Rest) c. Attempts body mark.rest i × ShowsEither mark i c)
set_opened mark closed body old mid filled new same first second third =
    by_joined (λ f. f ≡ mark.file) old filled new (λ (i : Rest) (files : Files). Attempts body mark.rest i × ShowsEither mark i (files mark.file))
    (set_filled mark closed body old mid filled same first second)
    (as_attempt mark body (Attempted body) filled new
    (subst (λ (m : Mark). FileRun m.file filled new (Fits m.current m.sequence m.body (Attempted body))) same third) (inr (inr refl)))

-- what a kept mark shows
pub kept_shows : (now : DiskState) (mark : Mark) (file : ℕ) → mark.file ≡ file → IsKept now mark
    → (c : List ℕ) → now.may_leave file c → MarkShows mark c
kept_shows now mark file same kept c left =
    shown mark.current mark.sequence mark.body mark.rest c (kept c (subst (λ f. now.may_leave f c) (sym same) left))

-- a run of which nothing is claimed
pub any_run : (file : ℕ) (old new : DiskState) (P : List ℕ → Type 0) → FileRun file old new P → FileRun file old new (λ c. Unit {0})
any_run file old new P run =
    run_weakened (λ f. f ≡ file) old new (λ (u : Unit {0}) (files : Files). P (files file)) (λ (files : Files). Unit {0}) run (λ u files beside. tt)

pub any_joined : (file : ℕ) (old mid new : DiskState) → FileRun file old mid (λ c. Unit {0}) → FileRun file mid new (λ c. Unit {0}) → FileRun file old new (λ c. Unit {0})
any_joined file old mid new first second = run_joined (λ f. f ≡ file) old mid new (λ (files : Files). Unit {0}) first second

-- a format that was done
pub format_done : (file : ℕ) (body bytes blank : List ℕ) (cleared closed new : DiskState)
    → ((c : List ℕ) → cleared.may_leave file c → c ≡ [])
    → ((c : List ℕ) → closed.may_leave file c → IsPut cleared file 0 blank c)
    → ((c : List ℕ) → new.may_leave file c → IsPut closed file 0 (165 ∷ []) c)
    → blank ≡ put (replicate 1024 0) 8 bytes → IsAttempt 1 body bytes
    → (c : List ℕ) → new.may_leave file c → Fits First 1 body Closed c
format_done file body bytes blank cleared closed new empty blanked opened is attempt c left =
    let last = opened c left in
    let first = blanked last.0 last.1 in
    let whole : last.0 ≡ put (replicate 1024 0) 8 bytes = first.2 ∙ ap (λ f. put f 0 blank) (empty first.0 first.1) ∙ put_nil blank ∙ is in
    subst (Fits First 1 body Closed) (sym (last.2 ∙ ap (λ f. put f 0 (165 ∷ [])) whole)) (formatted_now body bytes attempt)

-- The answers of a port, said of the history that it saw and of its count of faults.
use Rattle.std.proofs.Common.{◌≡◌, ℕ, ◌+◌, ◌<◌, ◌≤◌, ◌⊎◌, inl, inr, Bool, true, false, List, [], ◌∷◌, ◌++◌, count_by, cond, refl, sym, ap, ◌∙◌, subst, arith}
use Rattle.std.proofs.lemmas.List.Sums.{sum_by-cons}
use Rattle.sector_extent.specs.Causes.{Charges}
use Rattle.sector_extent.specs.CauseLaws.{calm}
use Rattle.flat_image.specs.declared.act.Act.{Act}
use Rattle.flat_image.specs.declared.act.Act.TheVariants.{Freeze, Seal, Fault}
use Rattle.flat_image.specs.Ports.{PortState, Notes, fault_count}
use Rattle.flat_image.proofs.PortLaws.{Notes-none, Notes-trans}
use Rattle.control_session.specs.declared.answer.CommitAnswer.{CommitAnswer}
use Rattle.control_session.specs.declared.answer.CommitAnswer.TheVariants as commit
use Rattle.control_session.specs.declared.answer.WarmAnswer.{WarmAnswer}
use Rattle.control_session.specs.declared.answer.WarmAnswer.TheVariants as warm
use Rattle.control_session.specs.declared.answer.StatusAnswer.TheVariants as status
use Rattle.control_session.specs.declared.line.Call.{Call}
use Rattle.control_session.specs.declared.line.Call.TheVariants.{Commit, Warm, Status}
use Rattle.control_session.specs.ControlTable.{CommitFits, WarmFits}
use Rattle.control_session.specs.Controls.{Answer, Committed, Warmed, Told}
use Rattle.control_session.specs.Sessions.{Does, Fits}
use Rattle.control_session.specs.ControlLaws.{is_fault, FitsHistory}

-- what was noted, whatever it is
abbrev NotesSome : PortState → PortState → Type 0
NotesSome p q = (acts : List Act) × Notes p q acts

either : (p q : PortState) (first second : List Act) → Notes p q first ⊎ Notes p q second → NotesSome p q
either p q first second notes = elim notes [ inl n ↦ (first, n) | inr n ↦ (second, n) ]

commit_notes : (p q : PortState) (uuid : List ℕ) (answer : CommitAnswer) → CommitFits p q uuid answer → NotesSome p q
commit_notes p q uuid commit.Done (since, notes) = elim notes [
  | inl n ↦ (Freeze uuid ∷ Seal uuid ∷ [], n)
  | inr (inl n) ↦ (Seal uuid ∷ [], n)
  | inr (inr (inl n)) ↦ (Freeze uuid ∷ [], n)
  | inr (inr (inr n)) ↦ ([], n)
]
commit_notes p q uuid (commit.Busy other) h = ([], h.0)
commit_notes p q uuid commit.TooMany h = ([], h.0)
commit_notes p q uuid commit.UuidTwice h = ([], h.0)
commit_notes p q uuid commit.Failed (rose, (asked, is, notes)) = either p q (Fault asked ∷ []) (Freeze uuid ∷ Fault asked ∷ []) notes
commit_notes p q uuid commit.Worn (worn, notes) = either p q [] (Freeze uuid ∷ []) notes
commit_notes p q uuid commit.Memory h = ([], h.1)

warm_notes : (p q : PortState) (layer : ℕ) (answer : WarmAnswer) → WarmFits p q layer answer → Notes p q []
warm_notes p q layer (warm.Done blocks) h = h.0
warm_notes p q layer warm.NoLayer h = h.0
warm_notes p q layer warm.Failed h = h.0

does_notes : (p q : PortState) (call : Call) (answer : Answer) → Does p q call answer → NotesSome p q
does_notes p q (Commit uuid) (Committed answer) h = commit_notes p q uuid answer h.0
does_notes p q (Commit uuid) (Warmed answer) h = absurd h
does_notes p q (Commit uuid) (Told answer) h = absurd h
does_notes p q (Warm layer) (Committed answer) h = absurd h
does_notes p q (Warm layer) (Warmed answer) h = ([], warm_notes p q layer answer h.0)
does_notes p q (Warm layer) (Told answer) h = absurd h
does_notes p q Status (Committed answer) h = absurd h
does_notes p q Status (Warmed answer) h = absurd h
does_notes p q Status (Told (status.Now sectors layers entries pending)) h = ([], h.0)
does_notes p q Status (Told status.Worn) h = ([], h.1)

-- ---- faults

-- the count as it goes by one answer
abbrev Counts : PortState → PortState → Answer → Type 0
Counts p q answer = (p.faults + cond (is_fault answer) 1 0 ≤ q.faults) × (is_fault answer ≡ false → q.faults ≡ p.faults)

calm_counts : (p q : PortState) (answer : Answer) (fault : Type 0) → is_fault answer ≡ false → Charges fault_count p q fault → (fault → ⊥) → Counts p q answer
calm_counts p q answer fault none cause other =
    let same = calm fault_count p q fault cause other in
    (rw none (omega (arith, same)), λ e. same)

rise_counts : (p q : PortState) (answer : Answer) → is_fault answer ≡ true → p.faults < q.faults → Counts p q answer
rise_counts p q answer is rose = (rw is (omega (arith, rose)), λ e. absurd (let both : true ≡ false = sym is ∙ e in cc))

commit_counts : (p q : PortState) (answer : CommitAnswer) → Charges fault_count p q (answer ≡ commit.Failed) → Counts p q (Committed answer)
commit_counts p q commit.Done cause = calm_counts p q (Committed commit.Done) _ refl cause (λ e. cc)
commit_counts p q (commit.Busy other) cause = calm_counts p q (Committed (commit.Busy other)) _ refl cause (λ e. cc)
commit_counts p q commit.TooMany cause = calm_counts p q (Committed commit.TooMany) _ refl cause (λ e. cc)
commit_counts p q commit.UuidTwice cause = calm_counts p q (Committed commit.UuidTwice) _ refl cause (λ e. cc)
commit_counts p q commit.Failed cause = rise_counts p q (Committed commit.Failed) refl (cause.failed refl)
commit_counts p q commit.Worn cause = calm_counts p q (Committed commit.Worn) _ refl cause (λ e. cc)
commit_counts p q commit.Memory cause = calm_counts p q (Committed commit.Memory) _ refl cause (λ e. cc)

warm_counts : (p q : PortState) (answer : WarmAnswer) → Charges fault_count p q (answer ≡ warm.Failed) → Counts p q (Warmed answer)
warm_counts p q (warm.Done blocks) cause = calm_counts p q (Warmed (warm.Done blocks)) _ refl cause (λ e. cc)
warm_counts p q warm.NoLayer cause = calm_counts p q (Warmed warm.NoLayer) _ refl cause (λ e. cc)
warm_counts p q warm.Failed cause = rise_counts p q (Warmed warm.Failed) refl (cause.failed refl)

does_counts : (p q : PortState) (call : Call) (answer : Answer) → Does p q call answer → Counts p q answer
does_counts p q (Commit uuid) (Committed answer) h = commit_counts p q answer h.1
does_counts p q (Commit uuid) (Warmed answer) h = absurd h
does_counts p q (Commit uuid) (Told answer) h = absurd h
does_counts p q (Warm layer) (Committed answer) h = absurd h
does_counts p q (Warm layer) (Warmed answer) h = warm_counts p q answer h.1
does_counts p q (Warm layer) (Told answer) h = absurd h
does_counts p q Status (Committed answer) h = absurd h
does_counts p q Status (Warmed answer) h = absurd h
does_counts p q Status (Told (status.Now sectors layers entries pending)) h = let same : q.faults ≡ p.faults = h.1 in (omega (arith, same), λ e. same)
does_counts p q Status (Told status.Worn) h = let same : q.faults ≡ p.faults = h.2 in (omega (arith, same), λ e. same)

fits_notes : (p q : PortState) (calls : List Call) (answers : List Answer) → Fits p calls answers q → NotesSome p q
fits_notes p q [] [] same = ([], subst (λ s. Notes p s []) (sym same) (Notes-none p))
fits_notes p q [] (answer ∷ answers) h = absurd h
fits_notes p q (call ∷ calls) [] h = absurd h
fits_notes p q (call ∷ calls) (answer ∷ answers) (mid, does, rest) =
    let first = does_notes p mid call answer does in
    let second = fits_notes mid q calls answers rest in
    (first.0 ++ second.0, Notes-trans p mid q first.0 second.0 first.1 second.1)

counted : (answer : Answer) (answers : List Answer) → count_by is_fault (answer ∷ answers) ≡ cond (is_fault answer) 1 0 + count_by is_fault answers
counted answer answers = sum_by-cons (λ x. cond (is_fault x) 1 0) answer answers

fits_faults : (p q : PortState) (calls : List Call) (answers : List Answer) → Fits p calls answers q → p.faults + count_by is_fault answers ≤ q.faults
fits_faults p q [] [] same = omega (arith, ap (λ s. s.faults) same)
fits_faults p q [] (answer ∷ answers) h = absurd h
fits_faults p q (call ∷ calls) [] h = absurd h
fits_faults p q (call ∷ calls) (answer ∷ answers) (mid, does, rest) =
    omega (arith, counted answer answers, (does_counts p mid call answer does).0, fits_faults mid q calls answers rest)

no_fault : (b : Bool) → cond {A = ℕ} b 1 0 ≡ 0 → b ≡ false
no_fault true none = absurd (omega (arith, none))
no_fault false none = refl

fits_spared : (p q : PortState) (calls : List Call) (answers : List Answer) → Fits p calls answers q → count_by is_fault answers ≡ 0 → q.faults ≡ p.faults
fits_spared p q [] [] same none = ap (λ s. s.faults) same
fits_spared p q [] (answer ∷ answers) h none = absurd h
fits_spared p q (call ∷ calls) [] h none = absurd h
fits_spared p q (call ∷ calls) (answer ∷ answers) (mid, does, rest) none =
    let this = no_fault (is_fault answer) (omega (arith, counted answer answers, none)) in
    fits_spared mid q calls answers rest (omega (arith, counted answer answers, none)) ∙ (does_counts p mid call answer does).1 this

pub fits_history : (old new : PortState) (calls : List Call) (answers : List Answer) → Fits old calls answers new → FitsHistory old answers new
fits_history old new calls answers h =
    let notes = (fits_notes old new calls answers h).1 in
    record { more = notes.more; is = notes.is; faults = fits_faults old new calls answers h; spared = fits_spared old new calls answers h }

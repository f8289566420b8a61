-- One set more.
use Rattle.std.proofs.Common.{◌≡◌, ℕ, ◌+◌, ◌<◌, ◌≤◌, List, [], ◌∷◌, ◌++◌, refl, sym, ap, ◌∙◌, subst, inl, inr, ⊎_elim, arith, Bool, true, false}
use Rattle.std.specs.Prelude.{◌⊎◌, Result, Ok, Err, OnOk, OnErr, IsErr}
use Rattle.std.proofs.lemmas.List.{reverse-append}
use Rattle.sector_extent.specs.Causes.{Charges}
use Rattle.sector_extent.specs.CauseLaws.{calm_ok}
use Rattle.block_disk.specs.DiskState.{DiskState, Files, Leaves}
use Rattle.block_disk.specs.Claims.{FileRunBy}
use Rattle.block_disk.proofs.Moments.{by_started, by_joined, by_weakened}
use Rattle.gate_mark.specs.declared.mark.Mark.{Mark}
use Rattle.gate_mark.specs.declared.mark.Rest.{Rest}
use Rattle.gate_mark.specs.declared.mark.Rest.TheVariants.{Attempted}
use Rattle.gate_mark.specs.Mark.{IsKept, IsSet, IsSameBut, Attempts, MayHold, MarkShows, ShowsEither}
use Rattle.gate_mark.specs.Sets.{Act, LastOrSince, IsOnTheWay, successes, SetInTurn}
use Rattle.gate_mark.proofs.Runs.{kept_shows}

-- no set
pub in_turn_none : (now : DiskState) (mark : Mark) → ((files : Files) → now.left_at now.moment files → Leaves now files) → IsKept now mark
    → SetInTurn mark.file now now mark mark [] []
in_turn_none now mark now_at kept = record {
  in_turn = refl;
  any_moment = by_started (λ f. f ≡ mark.file) now (λ (m : Mark) (files : Files). MarkShows m (files mark.file) × IsOnTheWay mark [] m) mark now_at
      (λ files leaves. (kept_shows now mark mark.file refl kept (files mark.file) (leaves mark.file), λ b holds. holds));
  last = λ b holds. holds;
  number = omega arith;
  same = refl;
}

-- a body that may be held while this one is attempted
held_during : (start before : Mark) (body : List ℕ) (attempt : Rest) (acts : List Act) → Attempts body before.rest attempt
    → ((b : List ℕ) → MayHold before b → LastOrSince start acts b)
    → (b : List ℕ) → (b ≡ before.body) ⊎ (attempt ≡ Attempted b) → (b ≡ body) ⊎ LastOrSince start acts b
held_during start before body attempt acts attempts last b (inl is_body) = inr (last b (inl is_body))
held_during start before body attempt acts (inl same) last b (inr held) = inr (last b (inr (sym same ∙ held)))
held_during start before body attempt acts (inr (inl closed)) last b (inr held) = cc
held_during start before body attempt acts (inr (inr this)) last b (inr held) = inl cc

abbrev pub went : {T E : Type 0} → Result T E → Bool
went (Ok value) = true
went (Err error) = false

more_last : {T E : Type 0} (result : Result T E) (start before after : Mark) (body : List ℕ) (acts : List Act)
    → OnOk result ((b : List ℕ) → MayHold after b → b ≡ body)
    → OnErr result ((b : List ℕ) → MayHold after b → MayHold before b ⊎ (b ≡ body))
    → ((b : List ℕ) → MayHold before b → LastOrSince start acts b)
    → (b : List ℕ) → MayHold after b → LastOrSince start ((body, went result) ∷ acts) b
more_last (Ok value) start before after body acts ok err last b holds = ok b holds
more_last (Err error) start before after body acts ok err last b holds = ⊎_elim (λ old. inr (last b old)) (λ this. inl this) (err b holds)

more_number : {T E : Type 0} (result : Result T E) (start before after : Mark) (body : List ℕ) (acts : List Act)
    → OnOk result (IsSet before body after) → OnErr result (IsSameBut before after × Attempts body before.rest after.rest)
    → before.sequence ≡ start.sequence + successes acts → after.sequence ≡ start.sequence + successes ((body, went result) ∷ acts)
more_number (Ok value) start before after body acts ok err so_far = ap (λ (m : Mark). m.sequence) ok ∙ omega (arith, so_far)
more_number (Err error) start before after body acts ok err so_far = ap (λ (m : Mark). m.sequence) err.0 ∙ omega (arith, so_far)

more_same : {T E : Type 0} (result : Result T E) (before after : Mark) (body : List ℕ)
    → OnOk result (IsSet before body after) → OnErr result (IsSameBut before after × Attempts body before.rest after.rest) → after.file ≡ before.file
more_same (Ok value) before after body ok err = ap (λ (m : Mark). m.file) ok
more_same (Err error) before after body ok err = ap (λ (m : Mark). m.file) err.0

-- one set more
pub in_turn_more : {T E : Type 0} (result : Result T E) (file : ℕ) (old mid new : DiskState) (start before after : Mark) (bodies : List (List ℕ)) (body : List ℕ) (acts : List Act)
    → SetInTurn file old mid start before bodies acts
    → OnOk result (IsSet before body after) → OnErr result (IsSameBut before after × Attempts body before.rest after.rest)
    → OnOk result ((b : List ℕ) → MayHold after b → b ≡ body)
    → OnErr result ((b : List ℕ) → MayHold after b → MayHold before b ⊎ (b ≡ body))
    → FileRunBy before.file mid new (λ (attempt : Rest) c. Attempts body before.rest attempt × ShowsEither before attempt c)
    → SetInTurn file old new start after (bodies ++ body ∷ []) ((body, went result) ∷ acts)
in_turn_more result file old mid new start before after bodies body acts so_far ok err ok_bodies err_bodies run =
    let here : FileRunBy file mid new (λ (attempt : Rest) c. Attempts body before.rest attempt × ShowsEither before attempt c) =
    subst (λ f. FileRunBy f mid new (λ (attempt : Rest) c. Attempts body before.rest attempt × ShowsEither before attempt c)) so_far.same run in
    record {
      in_turn = ap (λ bs. body ∷ bs) so_far.in_turn ∙ sym (reverse-append bodies (body ∷ []));
      any_moment = by_joined (λ f. f ≡ file) old mid new (λ (m : Mark) (files : Files). MarkShows m (files file) × IsOnTheWay start ((body, went result) ∷ acts) m)
          (by_weakened (λ f. f ≡ file) old mid (λ (m : Mark) (files : Files). MarkShows m (files file) × IsOnTheWay start acts m)
          (λ (m : Mark) (files : Files). MarkShows m (files file) × IsOnTheWay start ((body, went result) ∷ acts) m) (λ (m : Mark). m) so_far.any_moment
          (λ m files beside. (beside.has.0, inl beside.has.1)))
          (by_weakened (λ f. f ≡ file) mid new (λ (attempt : Rest) (files : Files). Attempts body before.rest attempt × ShowsEither before attempt (files file))
          (λ (m : Mark) (files : Files). MarkShows m (files file) × IsOnTheWay start ((body, went result) ∷ acts) m) (λ (attempt : Rest). record before { rest = attempt }) here
          (λ attempt files beside. (beside.has.1, inr (held_during start before body attempt acts beside.has.0 so_far.last))));
      last = more_last result start before after body acts ok_bodies err_bodies so_far.last;
      number = more_number result start before after body acts ok err so_far.number;
      same = more_same result before after body ok err ∙ so_far.same;
    }

-- how far a list of sets has come: each set that failed raised the count of faults, and nothing else did
pub record IsCounted (first_sequence first_count sets sequence count : ℕ) : Type 0 where
  pub low : first_sequence ≤ sequence
  pub high : sequence ≤ first_sequence + sets
  pub each : first_count + (first_sequence + sets) ≤ count + sequence
  pub only : (count ≡ first_count) ⊎ (sequence < first_sequence + sets)

-- what a set makes of the sequence and of the count of faults
abbrev GoesOrFails : ℕ → ℕ → ℕ → ℕ → Type 0
GoesOrFails sequence count new_sequence new_count =
    ((new_sequence ≡ sequence + 1) × (new_count ≡ count)) ⊎ ((new_sequence ≡ sequence) × (count < new_count))

goes_or_fails : {T E S : Type 0} (result : Result T E) (faults : S → ℕ) (old new : S) (before after : Mark) (body : List ℕ)
    → OnOk result (IsSet before body after) → OnErr result (IsSameBut before after × Attempts body before.rest after.rest)
    → Charges faults old new (IsErr result) → GoesOrFails before.sequence (faults old) after.sequence (faults new)
goes_or_fails (Ok value) faults old new before after body ok err charges = inl (ap (λ (m : Mark). m.sequence) ok, calm_ok faults old new charges)
goes_or_fails (Err error) faults old new before after body ok err charges = inr (ap (λ (m : Mark). m.sequence) err.0, charges.failed refl)

more_counted : (s f sets sequence count new_sequence new_count : ℕ) → IsCounted s f sets sequence count
    → GoesOrFails sequence count new_sequence new_count → IsCounted s f (sets + 1) new_sequence new_count
more_counted s f sets sequence count new_sequence new_count so_far (inl went) = record {
  low = omega (arith, so_far.low, went.0);
  high = omega (arith, so_far.high, went.0);
  each = omega (arith, so_far.each, went.0, went.1);
  only = ⊎_elim (λ same. inl (went.1 ∙ same)) (λ below. inr (omega (arith, below, went.0))) so_far.only;
}
more_counted s f sets sequence count new_sequence new_count so_far (inr failed) = record {
  low = omega (arith, so_far.low, failed.0);
  high = omega (arith, so_far.high, failed.0);
  each = omega (arith, so_far.each, failed.0, failed.1);
  only = inr (omega (arith, so_far.high, failed.0));
}

-- one set more
pub set_counted : {T E S : Type 0} (result : Result T E) (faults : S → ℕ) (old new : S) (before after : Mark) (body : List ℕ) (s f sets : ℕ)
    → IsCounted s f sets before.sequence (faults old)
    → OnOk result (IsSet before body after) → OnErr result (IsSameBut before after × Attempts body before.rest after.rest)
    → Charges faults old new (IsErr result) → IsCounted s f (sets + 1) after.sequence (faults new)
set_counted result faults old new before after body s f sets so_far ok err charges =
    more_counted s f sets before.sequence (faults old) after.sequence (faults new) so_far (goes_or_fails result faults old new before after body ok err charges)

-- all of them
pub sets_charge : {S : Type 0} (faults : S → ℕ) (old new : S) (s sets sequence failed : ℕ) → IsCounted s (faults old) sets sequence (faults new)
    → failed + sequence ≡ s + sets → Charges faults old new (0 < failed)
sets_charge faults old new s sets sequence failed counted is = record {
  later = omega (arith, counted.each, counted.high);
  failed = λ some. omega (arith, some, counted.each, is);
  only = λ rose. ⊎_elim (λ same. absurd (omega (arith, rose, same))) (λ below. omega (arith, below, is)) counted.only;
}

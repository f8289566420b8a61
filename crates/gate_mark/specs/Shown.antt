-- What the file of a mark holds.
use Rattle.std.specs.Prelude.{◌≡◌, ◌≢◌, ℕ, ◌+◌, ◌<◌, ◌≤◌, ◌⊎◌, List, length, Bool, true, false, None, Some, if◌then◌else◌, ◌==◌, nat_lt}
use Rattle.std.proofs.Common.{refl, ap, suc, ◌∙◌, arith, inl, inr}
use Rattle.std.proofs.lemmas.Bool.Decides.{leb_tells, eqb_tells}
use Rattle.std.specs.Option.{option_map}
use Rattle.gate_mark.specs.declared.mark.Rest.{Rest}
use Rattle.gate_mark.specs.declared.mark.Rest.TheVariants.{Closed, Stale, Attempted}
use Rattle.gate_mark.specs.declared.mark.Slot.{Slot}
use Rattle.gate_mark.specs.declared.mark.Slot.TheVariants.{First, Second}
use Rattle.gate_mark.specs.MarkFile.{gate_of, sequence_of, body_of, counting, Shows}
use Rattle.gate_mark.specs.Mark.{Fits, ShowsAttempt}

pub is_open : (gate : ℕ) → gate ≡ 165 → (gate == 165) ≡ true
is_open gate same = rw same refl

pub is_closed : (gate : ℕ) → gate ≢ 165 → (gate == 165) ≡ false
is_closed gate apart = elim (eqb_tells gate 165) [ inl e ↦ absurd (apart e.1) | inr e ↦ e.0 ]

pub is_less : (a b : ℕ) → a < b → nat_lt a b ≡ true
is_less a b lt = elim (leb_tells (suc a) b) [ inl e ↦ e.0 | inr e ↦ absurd (omega (arith, e.1)) ]

pub not_less : (a b : ℕ) → b ≤ a → nat_lt a b ≡ false
not_less a b le = elim (leb_tells (suc a) b) [ inl e ↦ absurd (omega (arith, e.1)) | inr e ↦ e.0 ]

gate_from : {gate : ℕ} → (gate == 165) ≡ true → gate ≡ 165
gate_from {gate} is_true = elim (eqb_tells gate 165) [ inl e ↦ e.1 | inr e ↦ cc ]

either : (b : Bool) → (b ≡ true) ⊎ (b ≡ false)
either true = inl refl
either false = inr refl

-- a file of both slots whose counting slot is this one holds what stands in it
pub held_in : (slot : Slot) (file : List ℕ) → 1024 ≤ length file → counting file ≡ Some slot → Shows (sequence_of slot file) (body_of slot file) file
held_in slot file long counts =
    let enough : nat_lt (length file) 1024 ≡ false = not_less (length file) 1024 long in
    ap (λ b. if b then None else option_map (λ (s : Slot). (sequence_of s file, body_of s file)) (counting file)) enough
    ∙ ap (option_map (λ (s : Slot). (sequence_of s file, body_of s file))) counts

-- which slot counts
pub first_alone : (file : List ℕ) → (gate_of First file == 165) ≡ true → (gate_of Second file == 165) ≡ false → counting file ≡ Some First
first_alone file first second = rw (first, second) refl

pub second_alone : (file : List ℕ) → (gate_of First file == 165) ≡ false → (gate_of Second file == 165) ≡ true → counting file ≡ Some Second
second_alone file first second = rw (first, second) refl

pub first_of_two : (file : List ℕ) → (gate_of First file == 165) ≡ true → (gate_of Second file == 165) ≡ true
    → sequence_of Second file ≤ sequence_of First file → counting file ≡ Some First
first_of_two file first second order = rw (first, second, not_less (sequence_of First file) (sequence_of Second file) order) refl

pub second_of_two : (file : List ℕ) → (gate_of First file == 165) ≡ true → (gate_of Second file == 165) ≡ true
    → sequence_of First file < sequence_of Second file → counting file ≡ Some Second
second_of_two file first second order = rw (first, second, is_less (sequence_of First file) (sequence_of Second file) order) refl

-- the slot counts, and holds this
holds : (slot : Slot) (sequence : ℕ) (body file : List ℕ) → 1024 ≤ length file → counting file ≡ Some slot
    → sequence_of slot file ≡ sequence → body_of slot file ≡ body → Shows sequence body file
holds slot sequence body file long counts number content =
    held_in slot file long counts ∙ ap (λ n. Some (n, body_of slot file)) number ∙ ap (λ b. Some (sequence, b)) content

shown_first : (sequence : ℕ) (body : List ℕ) (rest : Rest) (file : List ℕ) → Fits First sequence body rest file
    → ((gate_of Second file == 165) ≡ true) ⊎ ((gate_of Second file == 165) ≡ false)
    → Shows sequence body file ⊎ ShowsAttempt rest (sequence + 1) file
shown_first sequence body rest file fits (inr closed) =
    inl (holds First sequence body file fits.long (first_alone file (is_open (gate_of First file) fits.gate) closed) fits.number fits.content)
shown_first sequence body Closed file fits (inl is_true) = absurd (fits.others (gate_from is_true))
shown_first sequence body Stale file fits (inl is_true) =
    inl (holds First sequence body file fits.long (first_of_two file (is_open (gate_of First file) fits.gate) is_true (omega (arith, fits.others, fits.number))) fits.number fits.content)
shown_first sequence body (Attempted new_body) file fits (inl is_true) =
    inr (holds Second (sequence + 1) new_body file fits.long (second_of_two file (is_open (gate_of First file) fits.gate) is_true (omega (arith, fits.others.0, fits.number))) fits.others.0 fits.others.1)

shown_second : (sequence : ℕ) (body : List ℕ) (rest : Rest) (file : List ℕ) → Fits Second sequence body rest file
    → ((gate_of First file == 165) ≡ true) ⊎ ((gate_of First file == 165) ≡ false)
    → Shows sequence body file ⊎ ShowsAttempt rest (sequence + 1) file
shown_second sequence body rest file fits (inr closed) =
    inl (holds Second sequence body file fits.long (second_alone file closed (is_open (gate_of Second file) fits.gate)) fits.number fits.content)
shown_second sequence body Closed file fits (inl is_true) = absurd (fits.others (gate_from is_true))
shown_second sequence body Stale file fits (inl is_true) =
    inl (holds Second sequence body file fits.long (second_of_two file is_true (is_open (gate_of Second file) fits.gate) (omega (arith, fits.others, fits.number))) fits.number fits.content)
shown_second sequence body (Attempted new_body) file fits (inl is_true) =
    inr (holds First (sequence + 1) new_body file fits.long (first_of_two file is_true (is_open (gate_of Second file) fits.gate) (omega (arith, fits.others.0, fits.number))) fits.others.0 fits.others.1)

-- whatever fits a mark holds its body, or the attempted one
pub shown : (slot : Slot) (sequence : ℕ) (body : List ℕ) (rest : Rest) (file : List ℕ) → Fits slot sequence body rest file
    → Shows sequence body file ⊎ ShowsAttempt rest (sequence + 1) file
shown First sequence body rest file fits = shown_first sequence body rest file fits (either (gate_of Second file == 165))
shown Second sequence body rest file fits = shown_second sequence body rest file fits (either (gate_of First file == 165))

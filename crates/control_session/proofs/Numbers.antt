-- Numbers of layers, digit by digit.
use Rattle.std.proofs.Common.{◌≡◌, ℕ, ◌+◌, ◌*◌, ◌<◌, ◌≤◌, true, false, ◌&&◌, List, ◌∷◌, length, drop, get_or, refl, sym, ap, ◌∙◌, drop-cons, add-one}
use Rattle.std.specs.Prelude.{Option, Some, None, if◌then◌else◌, nat_lt, Result, Ok, Err, IsOk, ◌↔◌}
use Rattle.std.specs.List.{list_all}
use Rattle.std.specs.Char.{is_ascii_digit, digit_value}
use Rattle.std.specs.Str.Parse.{digits_value_after}
use Rattle.std.proofs.lemmas.List.{drop_all}
use Rattle.std.proofs.lemmas.Bool.{lt-ltb}
use Rattle.control_session.specs.declared.line.Line.TheVariants.{Other}
use Rattle.control_session.specs.Lines.{layer_number, commit_line}

-- the number that these digits make behind that one
abbrev pub number_on : ℕ → List ℕ → Option ℕ
number_on n digits = if list_all is_ascii_digit digits then Some (digits_value_after 10 n digits) else None

pub first_digit : (digits : List ℕ) → 0 < length digits → length digits < 11 → number_on 0 digits ≡ layer_number digits
first_digit digits some few =
    sym (ap (λ b. if b && nat_lt (length digits) 11 && list_all is_ascii_digit digits then Some (digits_value_after 10 0 digits) else None) (lt-ltb 0 (length digits) some)
    ∙ ap (λ b. if b && list_all is_ascii_digit digits then Some (digits_value_after 10 0 digits) else None) (lt-ltb (length digits) 11 few))

pub all_digits : (digits : List ℕ) (i n : ℕ) → length digits ≤ i → number_on n (drop i digits) ≡ Some n
all_digits digits i n end = ap (number_on n) (drop_all i digits end)

pub next_digit : (digits : List ℕ) (i n next : ℕ) → i < length digits → is_ascii_digit (get_or digits i 0) ≡ true
    → next ≡ n * 10 + digit_value (get_or digits i 0) → number_on next (drop (i + 1) digits) ≡ number_on n (drop i digits)
next_digit digits i n next within is value =
    let rest = drop (i + 1) digits in
    let d = get_or digits i 0 in
    let apart : drop i digits ≡ d ∷ rest = rw add-one (drop-cons digits i 0 within) in
    ap (λ m. number_on m rest) value ∙ sym (ap (λ b. if b && list_all is_ascii_digit rest then Some (digits_value_after 10 (n * 10 + digit_value d) rest) else None) is)
    ∙ ap (number_on n) (sym apart)

pub no_number : (digits : List ℕ) (i n : ℕ) → i < length digits → is_ascii_digit (get_or digits i 0) ≡ false → number_on n (drop i digits) ≡ None
no_number digits i n within other =
    let rest = drop (i + 1) digits in
    let d = get_or digits i 0 in
    let apart : drop i digits ≡ d ∷ rest = rw add-one (drop-cons digits i 0 within) in
    ap (number_on n) apart ∙ ap (λ b. if b && list_all is_ascii_digit rest then Some (digits_value_after 10 (n * 10 + digit_value d) rest) else None) other

is_not : {T E : Type 0} (result : Result T E) (error : E) → result ≡ Err error → IsOk result → ⊥
is_not (Ok value) error is good = cc
is_not (Err other) error is good = cc

-- a text that is no uuid
pub no_uuid : {E : Type 0} (text : Option (List ℕ)) (result : Result (List ℕ) E) (error : E) → IsOk result ↔ ((uuid : List ℕ) × (text ≡ Some uuid)) → result ≡ Err error
    → Other ≡ commit_line text
no_uuid None result error same is = refl
no_uuid (Some uuid) result error same is = absurd (is_not result error is (same.1 (uuid, refl)))

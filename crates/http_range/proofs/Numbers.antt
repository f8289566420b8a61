-- Numbers and cuts, digit by digit and byte by byte.
use Rattle.std.proofs.Common.{◌≡◌, ℕ, zero, suc, ◌+◌, ◌*◌, ◌^◌, ◌<◌, ◌≤◌, ◌⊎◌, inl, inr, Bool, true, false, ◌&&◌, List, [], ◌∷◌, length, take, drop, get_or, refl, sym, ap, ◌∙◌, arith, drop-cons, add-one}
use Rattle.std.specs.Prelude.{Option, Some, None, if◌then◌else◌, nat_lt, option_map}
use Rattle.std.specs.List.{list_all}
use Rattle.std.specs.Char.{is_ascii_digit, digit_value}
use Rattle.std.specs.Str.Parse.{digits_value_after}
use Rattle.std.proofs.lemmas.List.{drop_all}
use Rattle.std.proofs.lemmas.Bool.{le-ltb, lt-ltb, eq-eqb, ne_eqb}
use Rattle.http_range.specs.Replies.{number, cut}

abbrev number_if : Bool → ℕ → Option ℕ
number_if all value = if all && nat_lt value (2 ^ 63) then Some value else None

-- the number that these digits make behind that one
abbrev pub number_on : ℕ → List ℕ → Option ℕ
number_on n digits = number_if (list_all is_ascii_digit digits) (digits_value_after 10 n digits)

grows : (digits : List ℕ) (n : ℕ) → n ≤ digits_value_after 10 n digits
grows [] n = omega arith
grows (d ∷ digits) n = let more : n * 10 + digit_value d ≤ digits_value_after 10 (n * 10 + digit_value d) digits = grows digits (n * 10 + digit_value d) in omega arith

too_large : (all : Bool) (value : ℕ) → 2 ^ 63 ≤ value → number_if all value ≡ None
too_large true value large = ap (λ b. if b then Some value else None) (le-ltb value (2 ^ 63) large)
too_large false value large = refl

pub first_digit : (digits : List ℕ) → 0 < length digits → number_on 0 digits ≡ number digits
first_digit [] some = absurd (omega arith)
first_digit (d ∷ digits) some =
    ap (λ full. if full && list_all is_ascii_digit (d ∷ digits) && nat_lt (digits_value_after 10 0 (d ∷ digits)) (2 ^ 63) then Some (digits_value_after 10 0 (d ∷ digits)) else None)
    (sym (lt-ltb 0 (length (d ∷ digits)) some))

pub all_digits : (digits : List ℕ) (i n : ℕ) → length digits ≤ i → n < 2 ^ 63 → number_on n (drop i digits) ≡ Some n
all_digits digits i n end small =
    ap (number_on n) (drop_all i digits end) ∙ ap (λ b. if b then Some n else None) (lt-ltb n (2 ^ 63) small)

pub next_digit : (digits : List ℕ) (i n next : ℕ) → i < length digits → is_ascii_digit (get_or digits i 0) ≡ true
    → next ≡ n * 10 + digit_value (get_or digits i 0) → number_on next (drop (i + 1) digits) ≡ number_on n (drop i digits)
next_digit digits i n next within is value =
    let rest = drop (i + 1) digits in
    let d = get_or digits i 0 in
    let apart : drop i digits ≡ d ∷ rest = rw add-one (drop-cons digits i 0 within) in
    ap (λ m. number_on m rest) value ∙ sym (ap (λ b. number_if (b && list_all is_ascii_digit rest) (digits_value_after 10 (n * 10 + digit_value d) rest)) is)
    ∙ ap (number_on n) (sym apart)

pub no_number : (digits : List ℕ) (i n : ℕ) → i < length digits
    → (is_ascii_digit (get_or digits i 0) ≡ false) ⊎ (2 ^ 63 ≤ n * 10 + digit_value (get_or digits i 0))
    → number_on n (drop i digits) ≡ None
no_number digits i n within why =
    let rest = drop (i + 1) digits in
    let d = get_or digits i 0 in
    let apart : drop i digits ≡ d ∷ rest = rw add-one (drop-cons digits i 0 within) in
    let more : n * 10 + digit_value d ≤ digits_value_after 10 (n * 10 + digit_value d) rest = grows rest (n * 10 + digit_value d) in
    ap (number_on n) apart ∙ elim why [
      | inl other ↦ ap (λ b. number_if (b && list_all is_ascii_digit rest) (digits_value_after 10 (n * 10 + digit_value d) rest)) other
      | inr large ↦ too_large (list_all is_ascii_digit (d ∷ rest)) _ (omega arith)
    ]

-- ---- cuts

abbrev with_front : ℕ → Option (List ℕ × List ℕ) → Option (List ℕ × List ℕ)
with_front b there = option_map (λ p. (b ∷ p.0, p.1)) there

pub cut_found : (bytes : List ℕ) (byte i : ℕ) → i < length bytes → ((k : ℕ) → k < i → get_or bytes k 0 ≡ byte → ⊥)
    → get_or bytes i 0 ≡ byte → cut byte bytes ≡ Some (take i bytes, drop (suc i) bytes)
cut_found [] byte i within before is = absurd (omega arith)
cut_found (b ∷ bytes) byte zero within before is =
    ap (λ same. if same then Some ([], bytes) else with_front b (cut byte bytes)) (eq-eqb b byte is)
cut_found (b ∷ bytes) byte (suc i) within before is =
    ap (λ same. if same then Some ([], bytes) else with_front b (cut byte bytes)) (ne_eqb b byte (before 0 (omega arith)))
    ∙ ap (with_front b) (cut_found bytes byte i (omega arith) (λ k h. before (suc k) (omega arith)) is)

pub cut_nowhere : (bytes : List ℕ) (byte : ℕ) → ((k : ℕ) → k < length bytes → get_or bytes k 0 ≡ byte → ⊥) → cut byte bytes ≡ None
cut_nowhere [] byte none = refl
cut_nowhere (b ∷ bytes) byte none =
    ap (λ same. if same then Some ([], bytes) else with_front b (cut byte bytes)) (ne_eqb b byte (none 0 (omega arith)))
    ∙ ap (with_front b) (cut_nowhere bytes byte (λ k h. none (suc k) (omega arith)))

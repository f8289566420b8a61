-- Decimal digits, one after another.
use Rattle.std.proofs.Common.{◌≡◌, ℕ, ◌+◌, ◌-◌, ◌*◌, ◌^◌, ◌<◌, ◌≤◌, true, List, length, take, get_or, ap, ◌∙◌, arith, lit<}
use Rattle.std.specs.Char.{is_ascii_digit, digit_value}
use Rattle.std.specs.Str.Parse.{digits_value}
use Rattle.std.proofs.Math.Nat.{pow-le-pow_right}
use Rattle.std.proofs.lemmas.Bool.Decides.{nat_tests}
use Rattle.std.proofs.lemmas.Grind.{pow_more}
use Rattle.std.proofs.lemmas.Int.Digits.{digits_value_more}

pub digit_value-ascii : (c : ℕ) → is_ascii_digit c ≡ true → digit_value c ≡ c - 48
digit_value-ascii c h = grind (arith, nat_tests)

pub digit_below : (c : ℕ) → is_ascii_digit c ≡ true → (48 ≤ c) × (c < 58)
digit_below c h = (grind (arith, nat_tests), grind (arith, nat_tests))

-- a number of fewer than 20 digits has room for one more
pub room_for_digit : (n i : ℕ) → n < 10 ^ i → i < 20 → n < 10 ^ 20
room_for_digit n i below few =
    let most : 10 ^ i ≤ 10 ^ 20 = pow-le-pow_right {n = 10} (lit< tt) {i = i} {j = 20} (let le : i ≤ 20 = omega arith in le) in omega (arith, most)

pub bound_more : (n d i : ℕ) → n < 10 ^ i → d < 10 → n * 10 + d < 10 ^ (i + 1)
bound_more n d i below small = let e = pow_more 10 i in omega (arith, e)

pub value_more : (word : List ℕ) (i : ℕ) → i < length word → is_ascii_digit (get_or word i 0) ≡ true
    → digits_value 10 (take (i + 1) word) ≡ digits_value 10 (take i word) * 10 + (get_or word i 0 - 48)
value_more word i within digit =
    digits_value_more 10 word i within ∙ ap (λ d. digits_value 10 (take i word) * 10 + d) (digit_value-ascii (get_or word i 0) digit)

use Rattle.std.proofs.Common.{◌≡◌, ℕ, ◌+◌, ◌-◌, ◌*◌, ◌<◌, ◌∙◌, ap, sym, refl, List, true, length, get_or, arith}
use Rattle.std.specs.Char.{is_ascii_digit}
use Rattle.std.proofs.lemmas.List.Folds.{list_all_more}
use Rattle.tool_setup.proofs.Numbers.{room_for_digit, digit_below, bound_more, value_more}
use Rattle.tool_setup.proofs.values.read_number.Goals as goal

pub overflow_mul-number : goal.overflow_mul-number
overflow_mul-number c =
    let few : c.loop-digit.digit-index < 20 = omega arith in
    let room = room_for_digit c.loop-digit.number c.loop-digit.digit-index c.loop-digit.invariant.bound few in
    omega (arith, room)

pub loop-digit-preserved : goal.loop-digit-preserved
loop-digit-preserved c =
    let word : List ℕ = c.args.word.now in
    let i = c.loop-digit.digit-index in
    let within : i < length word = c.loop-digit-test.true in
    let digit : is_ascii_digit (get_or word i 0) ≡ true = sym c.is_ascii_digit.ensures.value ∙ c.if-not-is_ascii_digit.false in
    let range = digit_below (get_or word i 0) digit in
    let small : get_or word i 0 - 48 < 10 = omega (arith, range.0, range.1) in
    record {
      digits = list_all_more is_ascii_digit word i 0 within ∙ (rw (c.loop-digit.invariant.digits, digit) refl);
      value = ap (λ n. n * 10 + (get_or word i 0 - 48)) c.loop-digit.invariant.value ∙ sym (value_more word i within digit);
      bound = bound_more c.loop-digit.number (get_or word i 0 - 48) i c.loop-digit.invariant.bound small;
    }

-- Each digit is one step, and what stops the loop is not a number.
use Rattle.std.proofs.Common.{◌<◌, length, sym, ◌∙◌, arith}
use Rattle.std.proofs.lemmas.Bool.{eqb-false}
use Rattle.http_range.proofs.Numbers.{first_digit, all_digits, next_digit, no_number}
use Rattle.http_range.proofs.values.number_of.Goals as goal

pub returns-in-None : goal.returns-in-None
returns-in-None c =
    sym (no_number c.args.digits.now c.loop-digit.digit-index c.loop-digit.value c.loop-digit-test.true c.in-None.ensures)
    ∙ c.loop-digit.invariant.same

pub loop-digit-init : goal.loop-digit-init
loop-digit-init c =
    let other = eqb-false (length c.args.digits.now) 0 (sym c.if-is_empty.ensures) in
    let some : 0 < length c.args.digits.now = omega arith in
    record { small = omega arith; same = first_digit c.args.digits.now some }

pub loop-digit-preserved : goal.loop-digit-preserved
loop-digit-preserved c =
    let h = c.in-Some.ensures in
    record {
      small = h.1;
      same = next_digit c.args.digits.now c.loop-digit.digit-index c.loop-digit.value c.in-Some.next c.loop-digit-test.true h.0 h.2
          ∙ c.loop-digit.invariant.same;
    }

pub returns : goal.returns
returns c =
    sym (all_digits c.args.digits.now c.loop-digit.digit-index c.loop-digit.value c.loop-digit-test.false c.loop-digit.invariant.small)
    ∙ c.loop-digit.invariant.same

use Rattle.std.proofs.Common.{◌+◌, ◌-◌, ◌≤◌, inl, inr, arith}
use Rattle.std.proofs.Math.Nat.{pow-le-pow_right}
use Rattle.std.proofs.lemmas.Bool.{cases_lt}
use Rattle.table_tests.proofs.leaf_tests.find_one.Goals as goal

pub returns : goal.returns
returns g c = elim (cases_lt (c.args.steps.now + 28) c.find.new.steps) [
  | inl more ↦
      let few : 28 ≤ c.find.new.steps - c.args.steps.now - c.find.result.pieces = omega (arith, c.find.ensures.room, c.find.auto.out, c.requires.one) in
      let grown = pow-le-pow_right {n = 2} (omega arith) few in
      absurd (omega (arith, grown, c.find.ensures.bound, c.requires.len))
  | inr le ↦ le
]

use Rattle.std.proofs.Common.{ℕ, inl, inr, ◌+◌, ◌-◌, ◌*◌, ◌^◌, ◌≤◌, length, arith}
use Rattle.std.proofs.lemmas.Bool.{cases_lt}
use Rattle.merged_index.proofs.Halving.{fewer}
use Rattle.layer_tests.proofs.merged_index_tests.find_in_two.Goals as goal

two : (looks n : ℕ) → 2 ^ looks ≤ 2 * n + 1 → n ≤ 2 → looks ≤ 2
two looks n bound few = elim (cases_lt 2 looks) [
  | inl more ↦ let p : 2 ^ 3 ≤ 2 * n + 1 = fewer looks 3 (2 * n + 1) (omega arith) bound in absurd (omega (arith, p, few))
  | inr within ↦ within
]

pub returns : goal.returns
returns g c =
    let n = length c.args.index.now.segments in
    let looks = two (c.find.new.steps - c.args.steps.now - c.find.result.pieces) n c.find.ensures.bound c.requires.two in
    record { few = omega (arith, looks) }

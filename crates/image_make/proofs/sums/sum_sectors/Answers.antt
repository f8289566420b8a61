use Rattle.std.proofs.Common.{ℕ, ◌%◌, List, sum, cond, ltb, ap, ◌∙◌, arith}
use Rattle.image_make.proofs.SumLaws.{none-summed, one-summed, all-summed}
use Rattle.image_make.proofs.sums.sum_sectors.Goals as goal

abbrev some : List ℕ → ℕ
some sector = cond (ltb 0 (sum sector)) 1 0

pub loop-left-init : goal.loop-left-init
loop-left-init c = record {
  filled = none-summed some c.args.bytes.now;
  total = none-summed sum c.args.bytes.now;
  long = omega (arith, c.requires.whole);
  filled_most = omega (arith, c.requires.few);
  total_most = omega (arith, c.requires.few);
}

pub split_at-requires : goal.split_at-requires
split_at-requires c = omega (arith, c.loop-left.invariant.long, c.loop-left-test.true)

pub overflow_add-filled : goal.overflow_add-filled
overflow_add-filled c = omega (arith, c.loop-left.invariant.filled_most, c.is_some_sum-filled.ensures.most)

pub overflow_add-total : goal.overflow_add-total
overflow_add-total c = omega (arith, c.loop-left.invariant.total_most, c.sector_sum-own.ensures.most)

pub loop-left-preserved : goal.loop-left-preserved
loop-left-preserved c =
    let front = c.split_at.ensures.front in
    let back = c.split_at.ensures.back in record {
      filled = one-summed some c.loop-left.left c.loop-left.rest.now c.split_at.result.0.now c.split_at.result.1.now c.loop-left.filled c.is_some_sum-filled.result _
          c.loop-left-test.true front back (c.is_some_sum-filled.ensures.is ∙ ap (λ (n : ℕ). cond (ltb 0 n) 1 0) c.sector_sum-own.ensures.is) c.loop-left.invariant.filled;
      total = one-summed sum c.loop-left.left c.loop-left.rest.now c.split_at.result.0.now c.split_at.result.1.now c.loop-left.total c.sector_sum-own.result _
          c.loop-left-test.true front back c.sector_sum-own.ensures.is c.loop-left.invariant.total;
      long = omega (arith, c.loop-left.invariant.long, c.loop-left-test.true, c.split_at.ensures.back_len);
      filled_most = omega (arith, c.loop-left.invariant.filled_most, c.is_some_sum-filled.ensures.most, c.loop-left-test.true);
      total_most = omega (arith, c.loop-left.invariant.total_most, c.sector_sum-own.ensures.most, c.loop-left-test.true);
    }

pub returns-clause-filled : goal.returns-clause-filled
returns-clause-filled c =
    all-summed some c.loop-left.left c.loop-left.rest.now c.loop-left.filled _ c.loop-left-test.false c.loop-left.invariant.filled

pub returns-clause-sum : goal.returns-clause-sum
returns-clause-sum c =
    ap (λ (n : ℕ). n % 4294967296) (all-summed sum c.loop-left.left c.loop-left.rest.now c.loop-left.total _ c.loop-left-test.false c.loop-left.invariant.total)

use Rattle.std.proofs.Common.{◌≡◌, ◌+◌, ◌-◌, ◌<◌, ◌≤◌, length, sym, refl, inl, inr, arith}
use Rattle.seg_table.proofs.RunSteps.{AreOpen, passed, hit, edge_min}
use Rattle.seg_table.proofs.plain_search.run_from.Goals as goal

pub loop-number-preserved-then-from-put : goal.loop-number-preserved-then-from-put
loop-number-preserved-then-from-put g c =
    let xs = c.args.puts.now in
    let n = c.loop-number.number in
    let s = c.probe-put.result.now in
    let is = sym c.probe-put.ensures.put in
    let one : n ≡ (n - 1) + 1 = omega arith in
    let within : n - 1 < length xs = omega arith in
    let hidden : AreOpen xs c.args.from c.loop-number.until n = c.loop-number.invariant.2 in
    let near : c.min-until.result ≤ c.loop-number.until = omega arith in (
      omega arith,
      omega arith,
      passed xs (n - 1) n c.args.from c.loop-number.until c.min-until.result s one within is hidden near (λ p low high i. let f = i.from in absurd (omega arith)),
      edge_min xs (n - 1) c.args.end c.loop-number.until s.extent.at c.min-until.result s within is (inl refl) c.loop-number.invariant.3 c.min-until.ensures,
      omega arith,
    )

pub loop-number-preserved : goal.loop-number-preserved
loop-number-preserved g c =
    let xs = c.args.puts.now in
    let n = c.loop-number.number in
    let s = c.probe-put.result.now in
    let is = sym c.probe-put.ensures.put in
    let one : n ≡ (n - 1) + 1 = omega arith in
    let within : n - 1 < length xs = omega arith in
    let hidden : AreOpen xs c.args.from c.loop-number.until n = c.loop-number.invariant.2 in
    let near : c.loop-number.until ≤ c.loop-number.until = omega arith in (
      omega arith,
      omega arith,
      passed xs (n - 1) n c.args.from c.loop-number.until c.loop-number.until s one within is hidden near (λ p low high i. let f = i.below in absurd (omega arith)),
      c.loop-number.invariant.3,
      omega arith,
    )

pub returns-then-from-end-clause-same : goal.returns-then-from-end-clause-same
returns-then-from-end-clause-same g c =
    let xs = c.args.puts.now in
    let n = c.loop-number.number in
    let s = c.probe-put.result.now in
    let is = sym c.probe-put.ensures.put in
    let one : n ≡ (n - 1) + 1 = omega arith in
    let within : n - 1 < length xs = omega arith in
    let hidden : AreOpen xs c.args.from c.loop-number.until n = c.loop-number.invariant.2 in
    let near : c.min.result ≤ c.loop-number.until = omega arith in
    rw c.onward-what.ensures (hit xs (n - 1) n c.args.from c.loop-number.until c.min.result s one within is hidden near (omega arith) (omega arith))

pub returns-then-from-end-clause-edge : goal.returns-then-from-end-clause-edge
returns-then-from-end-clause-edge g c =
    let xs = c.args.puts.now in
    let n = c.loop-number.number in
    let s = c.probe-put.result.now in
    let is = sym c.probe-put.ensures.put in
    let within : n - 1 < length xs = omega arith in
    let ends : s.extent.at + s.extent.count ≡ c.end-then-from-end.result = omega (arith, c.end-then-from-end.ensures) in
    edge_min xs (n - 1) c.args.end c.loop-number.until c.end-then-from-end.result c.min.result s within is (inr ends) c.loop-number.invariant.3 c.min.ensures

use Rattle.std.proofs.Common.{◌≡◌, ℕ, ◌+◌, ◌-◌, ◌<◌, ◌≤◌, [], List, inl, inr, length, get_or, subst, ◌∙◌, arith}
use Rattle.std.proofs.lemmas.Bool.{cases_lt}
use Rattle.std.proofs.lemmas.List.{get_or_default}
use Rattle.seg_table.specs.declared.segment.Segment.{Segment}
use Rattle.seg_table.specs.Segments.{first_of}
use Rattle.seg_table.proofs.PutLaws.{all-leaves, second-begins}
use Rattle.seg_table.proofs.change.put_into.Goals as goal

pub put_at-requires-clause-behind : goal.put_at-requires-clause-behind
put_at-requires-clause-behind g c more =
    let ls = c.args.leaves.now.items in
    let b = c.leaves_before-before.result in
    let n : ℕ = c.max-number.result - 1 + 1 in
    let at = c.args.segment.extent.at in
    let size = c.args.leaves.now.ok.0 in
    let behind : b < length ls → at < first_of (get_or ls b []) =
    subst (λ ys. b < length ys → at < first_of (get_or ys b [])) c.as_slice.ensures.value c.leaves_before-before.ensures.behind in
    elim (cases_lt 0 b) [
      | inl some ↦
          let same : b ≡ n = omega (arith, c.max-number.ensures, some) in
          subst (λ k. k < length ls → at < first_of (get_or ls k [])) same behind (omega (arith, more, size))
      | inr none ↦
          let zeroth : b ≡ 0 = omega arith in
          let one : 1 ≡ n = omega (arith, c.max-number.ensures, none) in
          let first : 0 < length ls → at < first_of (get_or ls 0 []) = subst (λ k. k < length ls → at < first_of (get_or ls k [])) zeroth behind in
          let two : 1 < length ls = omega (arith, more, size, one) in
          let f = first (omega (arith, two)) in
          subst (λ k. at < first_of (get_or ls k [])) one (omega (arith, f, second-begins ls c.requires.leaves two))
    ]

pub returns-else-len-gt-MOST-clause-sizes : goal.returns-else-len-gt-MOST-clause-sizes
returns-else-len-gt-MOST-clause-sizes g c =
    let ls = c.put_at.new.leaves.items in
    let i : ℕ = c.max-number.result - 1 in
    let is = c.index.ensures ∙ get_or_default ls i _ [] c.put_at.ensures.leaves.within in
    all-leaves ls i c.put_at.ensures.leaves (subst (λ (z : List Segment). length z ≤ 255) is (omega (arith, c.if-len-gt-MOST.false, c.len.ensures)))

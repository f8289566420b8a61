use Rattle.std.proofs.Common.{◌≡◌, ℕ, ◌+◌, ◌-◌, ◌<◌, ◌≤◌, [], List, length, take, get_or, sym, subst, ◌∙◌, arith}
use Rattle.std.proofs.lemmas.List.{get_or_default}
use Rattle.std.proofs.lemmas.List.Elements.{All-get_or}
use Rattle.seg_table.specs.declared.segment.Segment.{Segment}
use Rattle.seg_table.specs.Pieces.{end_of}
use Rattle.seg_table.specs.Segments.{IsLeaf, IsRest, first_of, joined, segments_end}
use Rattle.seg_table.proofs.LeafLaws.{rest-all, rest-search, more-segments, looks-bound}
use Rattle.seg_table.proofs.search.first_past.Goals as goal

pub returns-then-before-eq0-clause-rest : goal.returns-then-before-eq0-clause-rest
returns-then-before-eq0-clause-rest g c =
    let ls = c.args.leaves.now in
    let none = c.if-before-eq0.true in
    let all : 0 < length ls → c.args.sector < first_of (get_or ls 0 []) =
    subst (λ n. n < length ls → c.args.sector < first_of (get_or ls n [])) none c.leaves_before-before.ensures.behind in
    rest-all ls c.args.sector c.requires.leaves all

pub returns-then-before-eq0-clause-bound : goal.returns-then-before-eq0-clause-bound
returns-then-before-eq0-clause-bound g c =
    let ls = c.args.leaves.now in
    let looks : ℕ = c.leaves_before-before.new.steps - c.args.steps.now in
    looks-bound looks looks 0 (length ls) (length (joined ls)) (omega arith) c.leaves_before-before.ensures.bound (omega arith) (more-segments ls c.requires.leaves.sizes)

pub returns-clause-rest : goal.returns-clause-rest
returns-clause-rest g c =
    let ls = c.args.leaves.now in
    let before = c.leaves_before-before.result in
    let i : ℕ = before - 1 in
    let n = c.segments_before-number.result in
    let from = c.args.sector in
    let some : 0 < before = omega (arith, c.if-before-eq0.false) in
    let below : i < length ls = omega (arith, c.leaves_before-before.ensures.within) in
    let is : c.as_slice.result.now ≡ get_or ls i [] = c.as_slice.ensures ∙ c.index-leaves-leaf.is ∙ get_or_default ls i _ [] below in
    let within : n ≤ length (get_or ls i []) = subst (λ (x : List Segment). n ≤ length x) is c.segments_before-number.ensures.within in
    let end : segments_end 0 (take n (get_or ls i [])) ≤ from = subst (λ (x : List Segment). segments_end 0 (take n x) ≤ from) is c.segments_before-number.ensures.before in
    let past : (d : Segment) → n < length (get_or ls i []) → from < end_of (get_or (get_or ls i []) n d) =
    subst (λ (x : List Segment). (d : Segment) → n < length x → from < end_of (get_or x n d)) is c.segments_before-number.ensures.behind in
    let next : i + 1 ≡ before = omega arith in
    let behind : i + 1 < length ls → from < first_of (get_or ls (i + 1) []) =
    subst (λ k. k < length ls → from < first_of (get_or ls k [])) (sym next) c.leaves_before-before.ensures.behind in
    subst (IsRest (joined ls) from) (sym c.place_of.ensures.left)
    (rest-search ls i n from c.requires.leaves below within end (c.leaves_before-before.ensures.before some) past behind)

pub returns-clause-bound : goal.returns-clause-bound
returns-clause-bound g c =
    let ls = c.args.leaves.now in
    let before = c.leaves_before-before.result in
    let i : ℕ = before - 1 in
    let below : i < length ls = omega (arith, c.leaves_before-before.ensures.within, c.if-before-eq0.false) in
    let is : c.as_slice.result.now ≡ get_or ls i [] = c.as_slice.ensures ∙ c.index-leaves-leaf.is ∙ get_or_default ls i _ [] below in
    let size = All-get_or IsLeaf ls i [] below c.requires.leaves.sizes in
    let few : length c.as_slice.result.now ≤ 255 = subst (λ (x : List Segment). length x ≤ 255) (sym is) size.1 in
    looks-bound (c.segments_before-number.new.steps - c.args.steps.now) (c.leaves_before-before.new.steps - c.args.steps.now) (c.segments_before-number.new.steps - c.leaves_before-before.new.steps)
    (length ls) (length (joined ls)) (omega (arith, c.leaves_before-before.ensures.counted, c.segments_before-number.ensures.counted))
    c.leaves_before-before.ensures.bound (omega (arith, few, c.segments_before-number.ensures.bound)) (more-segments ls c.requires.leaves.sizes)

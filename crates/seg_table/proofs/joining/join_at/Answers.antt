use Rattle.std.proofs.Common.{◌≡◌, ℕ, ◌+◌, ◌∷◌, ◌++◌, List, take, drop, get_or, refl, ap, ◌∙◌, arith}
use Rattle.seg_table.specs.declared.segment.Segment.{Segment}
use Rattle.seg_table.proofs.SortedLaws.{segment-put}
use Rattle.seg_table.proofs.JoinLaws.{joined-two}
use Rattle.seg_table.proofs.joining.join_at.Goals as goal

pub goes_on-requires : goal.goes_on-requires
goes_on-requires c =
    let xs : List Segment = c.args.leaf.now in
    let n : ℕ = c.args.number in
    let s : Segment = c.index-as_slice-number.result in
    let first : s ≡ get_or xs n s = c.index-as_slice-number.is ∙ ap (λ (ys : List Segment). get_or ys n s) c.as_slice.ensures in
    segment-put xs n s c.requires (omega (arith, c.if-len-lt2.false, c.if-number-len.false, c.len.ensures)) first

pub both-requires-clause-first : goal.both-requires-clause-first
both-requires-clause-first c =
    let xs : List Segment = c.args.leaf.now in
    let n : ℕ = c.args.number in
    let s : Segment = c.index-as_slice-number.result in
    let first : s ≡ get_or xs n s = c.index-as_slice-number.is ∙ ap (λ (ys : List Segment). get_or ys n s) c.as_slice.ensures in
    segment-put xs n s c.requires (omega (arith, c.if-len-lt2.false, c.if-number-len.false, c.len.ensures)) first

pub both-requires-clause-second : goal.both-requires-clause-second
both-requires-clause-second c =
    let xs : List Segment = c.args.leaf.now in
    let n : ℕ = c.args.number in
    let t : Segment = c.index-as_slice-number-2.result in
    let second : t ≡ get_or xs (n + 1) t = c.index-as_slice-number-2.is ∙ ap (λ (ys : List Segment). get_or ys (n + 1) t) c.as_slice-2.ensures in
    segment-put xs (n + 1) t c.requires (omega (arith, c.if-len-lt2.false, c.if-number-len.false, c.len.ensures)) second

pub returns-then-goes_on : goal.returns-then-goes_on
returns-then-goes_on c =
    let xs : List Segment = c.args.leaf.now in
    let n : ℕ = c.args.number in
    let s : Segment = c.index-as_slice-number.result in
    let t : Segment = c.index-as_slice-number-2.result in
    let both : Segment = c.both.result in
    let first : s ≡ get_or xs n s = c.index-as_slice-number.is ∙ ap (λ (ys : List Segment). get_or ys n s) c.as_slice.ensures in
    let second : t ≡ get_or xs (n + 1) t = c.index-as_slice-number-2.is ∙ ap (λ (ys : List Segment). get_or ys (n + 1) t) c.as_slice-2.ensures in
    joined-two xs c.set.new.self n s t both c.requires (omega (arith, c.if-len-lt2.false, c.if-number-len.false, c.len.ensures)) first second (c.if-goes_on.ensures.0 refl) c.both.ensures
    (c.set.ensures ∙ ap (λ (ys : List Segment). take n ys ++ both ∷ drop (n + 1) ys) c.remove.ensures)

use Rattle.std.proofs.Common.{◌≡◌, ℕ, ◌+◌, ◌-◌, ◌<◌, ◌≤◌, [], ◌∷◌, ◌++◌, List, length, take, drop, get_or, sym, ap, subst, ◌∙◌, arith}
use Rattle.std.proofs.lemmas.List.{take_rest, get_or_default, length-drop}
use Rattle.std.proofs.lemmas.List.Elements.{All-cons, All-drop, All-get_or}
use Rattle.seg_table.specs.declared.segment.Segment.{Segment}
use Rattle.seg_table.specs.Segments.{AreSegments, IsBeyond, IsLeaf, joined}
use Rattle.seg_table.proofs.SortedLaws.{lowered}
use Rattle.seg_table.proofs.ClearLaws.{empty_of, clear-none, clear-last, cleared, leaf-sorted, exchanged}
use Rattle.seg_table.proofs.change.clear_behind.Goals as goal

pub returns-then-behind-eq0-clause-leaves : goal.returns-then-behind-eq0-clause-leaves
returns-then-behind-eq0-clause-leaves g c =
    let ls = c.args.leaves.now.items in
    let n = c.args.number in
    let part = take_rest c.as_slice.result.now n ∙ ap (λ ys. drop n ys) c.as_slice.ensures.value in
    clear-none ls _ n c.leaves_before-behind.result c.args.end c.requires.leaves (omega (arith, c.requires.number, c.args.leaves.now.ok.0)) part c.if-behind-eq0.true
    c.leaves_before-behind.ensures.behind c.requires.some

pub add_beyond-requires-clause-sorted : goal.add_beyond-requires-clause-sorted
add_beyond-requires-clause-sorted g c =
    let ls = c.args.leaves.now.items in
    let n = c.args.number in
    let b = c.leaves_before-behind.result in
    let last : ℕ = n + b - 1 in
    let part = take_rest c.as_slice.result.now n ∙ ap (λ ys. drop n ys) c.as_slice.ensures.value in
    let some : 0 < b = omega (arith, c.if-behind-eq0.false) in
    let few : b ≤ length (drop n ls) = subst (λ ys. b ≤ length ys) part c.leaves_before-behind.ensures.within in
    let below : last < length ls = omega (arith, few, length-drop n ls) in
    let is = c.as_slice-segments.ensures ∙ c.index.ensures ∙ get_or_default ls last _ [] below in
    subst (AreSegments 0) (sym is) (lowered _ 0 (get_or ls last []) (omega arith) (leaf-sorted ls last c.requires.leaves below))

pub returns-then-len-eq0-clause-leaves : goal.returns-then-len-eq0-clause-leaves
returns-then-len-eq0-clause-leaves g c =
    let ls = c.args.leaves.now.items in
    let n = c.args.number in
    let b = c.leaves_before-behind.result in
    let end = c.args.end in
    let last : ℕ = n + b - 1 in
    let part = take_rest c.as_slice.result.now n ∙ ap (λ ys. drop n ys) c.as_slice.ensures.value in
    let some : 0 < b = omega (arith, c.if-behind-eq0.false) in
    let few : b ≤ length (drop n ls) = subst (λ ys. b ≤ length ys) part c.leaves_before-behind.ensures.within in
    let below : last < length ls = omega (arith, few, length-drop n ls) in
    let is = c.as_slice-segments.ensures ∙ c.index.ensures ∙ get_or_default ls last _ [] below in
    let x : List Segment = c.add_beyond.ensures.beyond.0 in
    let made : c.add_beyond.new.made ≡ x = c.add_beyond.ensures.beyond.1 ∙ ap (λ (ys : List Segment). ys ++ x) c.clear.ensures in
    let none : length x ≤ 0 = subst (λ (ys : List Segment). length ys ≤ 0) made (omega (arith, c.if-len-eq0.true, c.len.ensures)) in
    let empty : x ≡ [] = empty_of x none in
    let beyond : IsBeyond end (get_or ls last []) x = subst (λ (y : List Segment). IsBeyond end y x) is c.add_beyond.ensures.beyond.2 in
    let within : n ≤ length ls = omega (arith, c.requires.number, c.args.leaves.now.ok.0) in
    let kept = clear-last ls _ n b last end x c.requires.leaves within part some c.leaves_before-behind.ensures.within (omega arith)
    c.leaves_before-behind.ensures.before c.leaves_before-behind.ensures.behind beyond in
    let nothing_left : IsBeyond end (joined (drop n ls)) (joined (drop (last + 1) ls)) = subst (λ (ys : List Segment). IsBeyond end (joined (drop n ls)) (ys ++ joined (drop (last + 1) ls))) empty kept in
    cleared n end ls c.remove_leaves.new.leaves.items (drop (last + 1) ls) within c.remove_leaves.ensures.leaves (All-drop IsLeaf (last + 1) ls c.requires.leaves.sizes) nothing_left

pub returns-clause-leaves : goal.returns-clause-leaves
returns-clause-leaves g c =
    let ls = c.args.leaves.now.items in
    let n = c.args.number in
    let b = c.leaves_before-behind.result in
    let end = c.args.end in
    let last : ℕ = n + b - 1 in
    let part = take_rest c.as_slice.result.now n ∙ ap (λ ys. drop n ys) c.as_slice.ensures.value in
    let some : 0 < b = omega (arith, c.if-behind-eq0.false) in
    let few : b ≤ length (drop n ls) = subst (λ ys. b ≤ length ys) part c.leaves_before-behind.ensures.within in
    let below : last < length ls = omega (arith, few, length-drop n ls) in
    let is = c.as_slice-segments.ensures ∙ c.index.ensures ∙ get_or_default ls last _ [] below in
    let x : List Segment = c.add_beyond.ensures.beyond.0 in
    let made : c.add_beyond.new.made ≡ x = c.add_beyond.ensures.beyond.1 ∙ ap (λ (ys : List Segment). ys ++ x) c.clear.ensures in
    let beyond : IsBeyond end (get_or ls last []) x = subst (λ (y : List Segment). IsBeyond end y x) is c.add_beyond.ensures.beyond.2 in
    let within : n ≤ length ls = omega (arith, c.requires.number, c.args.leaves.now.ok.0) in
    let kept = clear-last ls _ n b last end x c.requires.leaves within part some c.leaves_before-behind.ensures.within (omega arith)
    c.leaves_before-behind.ensures.before c.leaves_before-behind.ensures.behind beyond in
    let some_made : 0 < length c.add_beyond.new.made = omega (arith, c.if-len-eq0.false, c.len.ensures) in
    let some_x : 0 < length x = subst (λ (ys : List Segment). 0 < length ys) made some_made in
    let size = All-get_or IsLeaf ls last [] below c.requires.leaves.sizes in
    let few_x : length x ≤ 255 = omega (arith, beyond.few, size.1) in
    let new : c.remove_leaves-2.new.leaves.items ≡ take n ls ++ x ∷ drop (last + 1) ls =
    exchanged ls c.exchange.new.leaves.items c.remove_leaves-2.new.leaves.items n last x (omega arith) below
    (c.exchange.ensures.leaves ∙ ap (λ (y : List Segment). take last ls ++ y ∷ drop (last + 1) ls) made) c.remove_leaves-2.ensures.leaves in
    cleared n end ls c.remove_leaves-2.new.leaves.items (x ∷ drop (last + 1) ls) within new
    (All-cons IsLeaf x (drop (last + 1) ls) (some_x, few_x) (All-drop IsLeaf (last + 1) ls c.requires.leaves.sizes)) kept

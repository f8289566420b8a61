use Rattle.std.proofs.Common.{◌+◌, ◌<◌, ◌≤◌, [], List, All, length, take, drop, get_or, sym, subst, ◌∙◌, arith}
use Rattle.std.proofs.lemmas.List.{get_or_default, length-take-le}
use Rattle.std.proofs.lemmas.List.Elements.{All-get_or, All-take}
use Rattle.seg_table.specs.declared.segment.Segment.{Segment}
use Rattle.seg_table.specs.Pieces.{end_of}
use Rattle.seg_table.specs.Segments.{AreCleared, AreSegments, IsLeaf, IsPutInto}
use Rattle.seg_table.proofs.SortedLaws.{lowered}
use Rattle.seg_table.proofs.ClearLaws.{leaf-sorted}
use Rattle.seg_table.proofs.PutLaws.{all-but, same-front, same-leaf, still-there, put-leaves}
use Rattle.seg_table.proofs.change.put_at.Goals as goal

pub put_among-requires-clause-sorted : goal.put_among-requires-clause-sorted
put_among-requires-clause-sorted g c =
    let ls = c.args.leaves.now.items in
    let now = c.clear_behind.new.leaves.items in
    let i = c.args.number in
    let below : i < length ls = omega (arith, c.requires.number, c.args.leaves.now.ok.0) in
    let there = still-there ls now i c.end.result c.clear_behind.ensures.leaves below in
    let is = c.as_slice.ensures ∙ c.index.ensures ∙ get_or_default now i _ [] there ∙ same-leaf ls now i c.end.result c.clear_behind.ensures.leaves in
    subst (AreSegments 0) (sym is) (lowered _ 0 (get_or ls i []) (omega arith) (leaf-sorted ls i c.requires.leaves below))

pub put_among-requires-clause-room : goal.put_among-requires-clause-room
put_among-requires-clause-room g c =
    let ls = c.args.leaves.now.items in
    let now = c.clear_behind.new.leaves.items in
    let i = c.args.number in
    let below : i < length ls = omega (arith, c.requires.number, c.args.leaves.now.ok.0) in
    let there = still-there ls now i c.end.result c.clear_behind.ensures.leaves below in
    let is = c.as_slice.ensures ∙ c.index.ensures ∙ get_or_default now i _ [] there ∙ same-leaf ls now i c.end.result c.clear_behind.ensures.leaves in
    subst (λ (z : List Segment). length z ≤ 255) (sym is) (All-get_or IsLeaf ls i [] below c.requires.leaves.sizes).1

pub returns-clause-leaves : goal.returns-clause-leaves
returns-clause-leaves g c =
    let ls = c.args.leaves.now.items in
    let now = c.clear_behind.new.leaves.items in
    let i = c.args.number in
    let below : i < length ls = omega (arith, c.requires.number, c.args.leaves.now.ok.0) in
    let there = still-there ls now i c.end.result c.clear_behind.ensures.leaves below in
    let is = c.as_slice.ensures ∙ c.index.ensures ∙ get_or_default now i _ [] there ∙ same-leaf ls now i c.end.result c.clear_behind.ensures.leaves in
    let few : length c.as_slice.result.now ≤ 255 = subst (λ (z : List Segment). length z ≤ 255) (sym is) (All-get_or IsLeaf ls i [] below c.requires.leaves.sizes).1 in
    let front : All IsLeaf (take i now) = subst (All IsLeaf) (sym (same-front ls now i c.end.result c.clear_behind.ensures.leaves)) (All-take IsLeaf i ls c.requires.leaves.sizes) in
    all-but (take i now) (drop (i + 1) now) c.exchange.new.leaves.items c.put_among.new.made i c.exchange.ensures.leaves (length-take-le i now (omega arith)) front
    c.clear_behind.ensures.leaves.sizes c.put_among.ensures.some (omega (arith, few, c.put_among.ensures.put.few))

pub returns-clause-put : goal.returns-clause-put
returns-clause-put g c =
    let ls = c.args.leaves.now.items in
    let now = c.clear_behind.new.leaves.items in
    let i = c.args.number in
    let s = c.args.segment in
    let below : i < length ls = omega (arith, c.requires.number, c.args.leaves.now.ok.0) in
    let there = still-there ls now i c.end.result c.clear_behind.ensures.leaves below in
    let is = c.as_slice.ensures ∙ c.index.ensures ∙ get_or_default now i _ [] there ∙ same-leaf ls now i c.end.result c.clear_behind.ensures.leaves in
    let cleared : AreCleared (i + 1) (end_of s) ls now = subst (λ q. AreCleared (i + 1) q ls now) c.end.ensures c.clear_behind.ensures.leaves in
    put-leaves ls now c.exchange.new.leaves.items i c.put_among.new.made s c.requires.put c.requires.leaves below cleared c.exchange.ensures.leaves c.requires.before
    (λ more. c.requires.behind (omega (arith, more, c.args.leaves.now.ok.0)))
    (subst (λ z. IsPutInto s z c.put_among.new.made) is c.put_among.ensures.put)

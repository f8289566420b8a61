-- Bytes that are copied from a place of a list into the front of a buffer.
use Rattle.std.proofs.Common.{◌≡◌, ℕ, ◌+◌, ◌-◌, ◌<◌, ◌≤◌, min, List, [], ◌++◌, length, take, drop, sym, ap, ◌∙◌, subst, arith, length-take-le, take_at}
use Rattle.std.proofs.lemmas.List.{take-append-drop, take-append-le, drop-drop, drop_all, length-drop}
use Rattle.std.proofs.Math.Seq.{take-append-add}
use Rattle.std.specs.Prelude.{Option}
use Rattle.std.specs.Io.KnownBytes.{Consumes}
use Rattle.std.proofs.KnownBytes.{Consumes-trans}
use borrow.Rule.Slice.PartMut.{put_mid, post_of}

-- what was copied is what is missing from there on
pub took : (all : List ℕ) (at n : ℕ) (copied rest : List ℕ) → copied ≡ take n (drop at all) → n ≤ length (drop at all)
    → drop at all ≡ take n (copied ++ rest) ++ drop (at + n) all
took all at n copied rest same within =
    let long : length copied ≡ n = ap length same ∙ length-take-le n (drop at all) within in
    let front : take n (copied ++ rest) ≡ take n (drop at all) = take_at copied rest n long ∙ same in
    sym (take-append-drop n (drop at all)) ∙ ap (λ l. l ++ drop n (drop at all)) (sym front)
    ∙ ap (λ l. take n (copied ++ rest) ++ l) (drop-drop n at all)

-- nothing was copied although there is room: nothing is left
pub ended : (all : List ℕ) (at n room : ℕ) → n ≡ min (length (drop at all)) room → n ≡ 0 → 0 < room → drop (at + n) all ≡ []
ended all at n room least none some = drop_all (at + n) all (omega (arith, length-drop at all))

-- a read into the place behind what was taken before
pub filled_more : (a b c : Option (List ℕ)) (old got : List ℕ) (at n : ℕ) → at ≤ length old → n ≤ length got
    → Consumes a b (take at old) → Consumes b c (take n got) → Consumes a c (take (at + n) (put_mid at (length old - at) old got))
filled_more a b c old got at n low high p q =
    let after = post_of at (length old - at) old in
    let long : length (take at old) ≡ at = length-take-le at old low in
    let joined : take (at + n) (put_mid at (length old - at) old got) ≡ take at old ++ take n got =
    ap (λ m. take (m + n) (put_mid at (length old - at) old got)) (sym long) ∙ take-append-add (take at old) (got ++ after) n
    ∙ ap (λ l. take at old ++ l) (take-append-le n got after high) in
    subst (Consumes a c) (sym joined) (Consumes-trans a b c _ _ p q)

-- What a flush has seen is kept.
use Rattle.std.proofs.Common.{◌≡◌, ℕ, false, zero, suc, ◌≤◌, Bool, true, [], ◌∷◌, ◌++◌, length, refl, sym, ap, ◌∙◌, subst, arith, length-append}
use Rattle.flat_image.specs.declared.act.Act.{Act}
use Rattle.flat_image.specs.declared.act.Act.TheVariants.{Flush}
use Rattle.flat_image.specs.declared.stands.Entry.{Entry}
use Rattle.flat_image.specs.Entries.{entry, StartsWith}
use Rattle.flat_image.specs.History.{History, keeps, kept_from, kept}
use Rattle.flat_image.proofs.HistoryLaws.{kept-entry, kept-reaches}
use Rattle.turn_lock.specs.Locks.{Place, place}
use Rattle.shared_image.specs.Closed.{AreKept}

kept_more : (a b : ℕ) (k : Bool) → a ≤ b → kept_from a k ≤ kept_from b k
kept_more zero zero k le = omega arith
kept_more zero (suc b) true le = omega arith
kept_more zero (suc b) false le = omega arith
kept_more (suc a) zero k le = absurd (omega (arith, le))
kept_more (suc a) (suc b) k le = omega (arith, le)

kept-grows : (h more : History) → kept h ≤ kept (h ++ more)
kept-grows [] more = omega arith
kept-grows (e ∷ h) more = kept_more (kept h) (kept (h ++ more)) (keeps e.act) (kept-grows h more)

-- of two beginnings of a list the longer one begins with the other
longer-begins : (h long short : History) → StartsWith h long → StartsWith h short → length short ≤ length long → StartsWith long short
longer-begins h long [] p q le = record { rest = long; is = refl }
longer-begins h [] (y ∷ short) p q le = absurd (omega (arith, le))
longer-begins h (x ∷ long) (y ∷ short) p q le =
    let both : x ∷ (long ++ p.rest) ≡ y ∷ (short ++ q.rest) = sym p.is ∙ q.is in
    let tails : long ++ p.rest ≡ short ++ q.rest = ap tail_of both in
    let heads : x ≡ y = ap (head_of x) both in
    let rest = longer-begins (long ++ p.rest) long short (record { rest = p.rest; is = refl }) (record { rest = q.rest; is = tails }) (omega (arith, le)) in
    record { rest = rest.rest; is = λ i. heads i ∷ rest.is i }
  where
    tail_of : History → History
    tail_of [] = []
    tail_of (e ∷ es) = es

    head_of : Entry Act → History → Entry Act
    head_of d [] = d
    head_of d (e ∷ es) = e

-- all before a place that keeps is kept in whatever comes
reached-kept : (seen : History) → length seen ≤ kept seen → AreKept seen
reached-kept seen whole history front begun is =
    let reaches = (kept-reaches history front).0 is in
    let grows = kept-grows seen begun.rest in
    let same = ap kept begun.is in
    longer-begins history front seen reaches.0 begun (let far = reaches.1 in omega (arith, whole, grows, same, far))

act-kept : (before : History) (number : ℕ) (act : Act) → keeps act ≡ true → AreKept (before ++ entry number act ∷ [])
act-kept before number act is =
    let place = kept-entry before number act is in
    let long = length-append before (entry number act ∷ []) in
    reached-kept (before ++ entry number act ∷ []) (omega (arith, place, long))

pub flush-kept : (before : History) (number : ℕ) → AreKept (before ++ entry number Flush ∷ [])
flush-kept before number = act-kept before number Flush refl

-- what a seat has seen that noted such an act last
pub kept-after : (mid new : Place Act) (act : Act) → keeps act ≡ true → new ≡ place mid.lock mid.number (mid.seen ++ entry mid.number act ∷ []) false → AreKept new.seen
kept-after mid new act keeping is = subst (λ (s : Place Act). AreKept s.seen) (sym is) (act-kept mid.seen mid.number act keeping)

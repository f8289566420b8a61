-- How the calls of a link follow one another.
use Rattle.std.proofs.Common.{◌≡◌, ℕ, ◌+◌, ◌<◌, Bool, true, false, ◌||◌, List, [], ◌++◌, length, take, refl, sym, ap, ◌∙◌, subst, arith, append_assoc, length-append}
use Rattle.std.specs.Prelude.{Option, Some, None, Result, Ok, Err}
use Rattle.std.proofs.lemmas.List.{append-nil, take-append-le}
use Rattle.std.proofs.Math.Seq.{take-append-add}
use Rattle.http_range.specs.Links.{Dial, Dials, LinkState, dial_on, dials_on, Went, SendsFront}
use Rattle.std.specs.Result.{IsErrAnd}
use Rattle.http_range.specs.Fetching.{Carried, SendsAll}

or_assoc : (a b c : Bool) → (a || (b || c)) ≡ ((a || b) || c)
or_assoc true b c = refl
or_assoc false b c = refl

or_false : (a : Bool) → (a || false) ≡ a
or_false true = refl
or_false false = refl

dial_then : (s t g h : List ℕ) (e f : Bool) (d : Dial) → dial_on t h f (dial_on s g e d) ≡ dial_on (s ++ t) (g ++ h) (e || f) d
dial_then s t g h e f d i = record {
  began = d.began;
  sent = append_assoc d.sent s t i;
  received = append_assoc d.received g h i;
  ended = sym (or_assoc d.ended e f) i;
}

dials_then : (s t g h : List ℕ) (e f : Bool) (o : Option Dials)
    → dials_on t h f (dials_on s g e o) ≡ dials_on (s ++ t) (g ++ h) (e || f) o
dials_then s t g h e f None = refl
dials_then s t g h e f (Some d) = λ i. Some (record { now = dial_then s t g h e f d.now i; past = d.past })

dial_same : (d : Dial) → dial_on [] [] false d ≡ d
dial_same d i = record { began = d.began; sent = append-nil d.sent i; received = append-nil d.received i; ended = or_false d.ended i }

dials_same : (o : Option Dials) → dials_on [] [] false o ≡ o
dials_same None = refl
dials_same (Some d) = λ i. Some (record { now = dial_same d.now i; past = d.past })

pub went_none : (a : LinkState) → Went [] [] false a a
went_none a = record { dials = sym (dials_same a.dials); blobs = refl }

pub went_then : (s t g h : List ℕ) (e f : Bool) (a b c : LinkState) → Went s g e a b → Went t h f b c → Went (s ++ t) (g ++ h) (e || f) a c
went_then s t g h e f a b c p q = record {
  dials = q.dials ∙ ap (dials_on t h f) p.dials ∙ dials_then s t g h e f a.dials;
  blobs = q.blobs ∙ p.blobs;
}

pub carried_none : (a : LinkState) → Carried [] [] false a a
carried_none a = record { went = went_none a; calm = refl }

pub carried_then : (s t g h : List ℕ) (e f : Bool) (a b c : LinkState) → Carried s g e a b → Carried t h f b c → Carried (s ++ t) (g ++ h) (e || f) a c
carried_then s t g h e f a b c p q = record { went = went_then s t g h e f a b c p.went q.went; calm = q.calm ∙ p.calm }

-- what was received after a text was sent
pub went_after : (s g : List ℕ) (e : Bool) (a b c : LinkState) → Went s [] false a b → Went [] g e b c → Went s g e a c
went_after s g e a b c p q = subst (λ (t : List ℕ). Went t g e a c) (append-nil s) (went_then s [] [] g false e a b c p q)

pub carried_after : (s g : List ℕ) (e : Bool) (a b c : LinkState) → Carried s [] false a b → Carried [] g e b c → Carried s g e a c
carried_after s g e a b c p q = record { went = went_after s g e a b c p.went q.went; calm = q.calm ∙ p.calm }

-- ---- what was sent

-- pieces so far were all sent, and a front of the next one
pub front_after : (s t : List ℕ) (a b c : LinkState) → Went s [] false a b → SendsFront b c t → SendsFront a c (s ++ t)
front_after s t a b c p (count, within, q) = (
  length s + count,
  omega (arith, length-append s t),
  subst (λ (l : List ℕ). Went l [] false a c) (sym (take-append-add s t count)) (went_then s (take count t) [] [] false false a b c p q),
)

-- a front of the pieces, and no more
pub front_more : (s t : List ℕ) (a b : LinkState) → SendsFront a b s → SendsFront a b (s ++ t)
front_more s t a b (count, within, q) =
    (count, omega (arith, length-append s t), subst (λ (l : List ℕ). Went l [] false a b) (sym (take-append-le count s t within)) q)

-- one piece more
pub sends_next : {T E : Type 0} (s t : List ℕ) (a b c : LinkState) (r : Result T E) → Carried s [] false a b → SendsAll t b c r → SendsAll (s ++ t) a c r
sends_next s t a b c (Ok done) p q = carried_then s t [] [] false false a b c p q
sends_next s t a b c (Err failed) p (front, rose) = (front_after s t a b c p.went front, omega (arith, p.calm))

-- the link failed, and no piece more was sent
pub sends_cut : {T E : Type 0} (Q : E → Type 0) (s t : List ℕ) (a b : LinkState) (r : Result T E) → IsErrAnd r Q
    → SendsFront a b s × (a.faults < b.faults) → SendsAll (s ++ t) a b r
sends_cut Q s t a b (Ok done) none p = absurd none
sends_cut Q s t a b (Err e) is (front, rose) = (front_more s t a b front, rose)

-- What was received, piece by piece.
use Rattle.std.proofs.Common.{◌≡◌, ℕ, ◌+◌, ◌-◌, ◌<◌, ◌≤◌, ◌⊎◌, ◌↔◌, inr, Bool, true, false, ◌&&◌, List, [], ◌++◌, length, take, sym, ap, ◌∙◌, subst, arith, append_assoc, length-append, length-take-le}
use Rattle.std.specs.Prelude.{IsTrue, nat_eq, nat_lt}
use Rattle.std.proofs.lemmas.Bool.{eq-eqb, ne_eqb, lt-ltb, eqb-true}
use Rattle.std.proofs.lemmas.List.{append-nil, take-append-le, nil_from_length}
use Rattle.std.proofs.Math.Seq.{take-append-add}
use borrow.Rule.Slice.PartMut.{put_mid, post_of}
use Rattle.http_range.specs.declared.receiving.Stop.{Stop}
use Rattle.http_range.specs.declared.reason.ReplyReason.{ReplyReason}
use Rattle.http_range.specs.declared.reason.ReplyReason.TheVariants.{ShortBody}
use Rattle.http_range.specs.declared.reason.FetchFault.{FetchFault}
use Rattle.http_range.specs.declared.reason.FetchFault.TheVariants.{Failed, BadReply}
use Rattle.http_range.specs.Links.{LinkState, Went, is_end}
use Rattle.http_range.specs.Replies.{Refuses, AwaitsHead, AwaitsBody}
use Rattle.http_range.specs.Fetching.{Carried, Misses, AsksBadly, FailsReceiving, ReceivesMore, LacksBytes, is_ended, HasStopped}
use Rattle.http_range.specs.declared.receiving.BodyStop.{BodyStop}
use Rattle.http_range.proofs.Carrying.{carried_none, carried_then, went_then}

-- ---- bytes behind those that were there

-- a read into the place behind what was there
pub filled : (old got : List ℕ) (at n : ℕ) → at ≤ length old → n ≤ length got
    → take (at + n) (put_mid at (length old - at) old got) ≡ take at old ++ take n got
filled old got at n low high =
    let after = post_of at (length old - at) old in
    let long : length (take at old) ≡ at = length-take-le at old low in
    ap (λ m. take (m + n) (put_mid at (length old - at) old got)) (sym long) ∙ take-append-add (take at old) (got ++ after) n
    ∙ ap (λ l. take at old ++ l) (take-append-le n got after high)

pub empty_iff : (bytes : List ℕ) (len : ℕ) → length bytes ≡ len → IsTrue (nat_eq len 0) ↔ (bytes ≡ [])
empty_iff bytes len long = (
  λ is. nil_from_length bytes (long ∙ eqb-true len 0 is),
  λ none. eq-eqb len 0 (sym long ∙ ap length none),
)

-- a receive that found the end
pub found_end : (out : List ℕ) (n : ℕ) (a b : LinkState) → n ≡ 0 → 0 < length out → Went [] (take n out) (is_end n out) a b → Went [] [] true a b
found_end out n a b none some went =
    let at_none : Went [] [] (is_end 0 out) a b = subst (λ (m : ℕ). Went [] (take m out) (is_end m out) a b) none went in
    subst (λ (e : Bool). Went [] [] e a b) (lt-ltb 0 (length out) some) at_none

-- a receive that took some bytes
pub found_some : (out : List ℕ) (n : ℕ) (a b : LinkState) → (n ≡ 0 → ⊥) → Went [] (take n out) (is_end n out) a b → Went [] (take n out) false a b
found_some out n a b some went =
    subst (λ (e : Bool). Went [] (take n out) e a b) (ap (λ (zero : Bool). zero && nat_lt 0 (length out)) (ne_eqb n 0 some)) went

pub more_none : (a : LinkState) (xs : List ℕ) → ReceivesMore a a xs xs
more_none a xs = record { got = []; carried = carried_none a; after_are = sym (append-nil xs) }

pub more_then : (a b c : LinkState) (xs ys zs : List ℕ) → ReceivesMore a b xs ys → ReceivesMore b c ys zs → ReceivesMore a c xs zs
more_then a b c xs ys zs p q = record {
  got = p.got ++ q.got;
  carried = carried_then [] [] p.got q.got false false a b c p.carried q.carried;
  after_are = q.after_are ∙ ap (λ l. l ++ q.got) p.after_are ∙ append_assoc xs p.got q.got;
}

-- one receive that took some bytes, into the place behind those that were there
pub more_filled : (old out : List ℕ) (at n : ℕ) (a b : LinkState) → at ≤ length old → n ≤ length out → (n ≡ 0 → ⊥) → b.faults ≡ a.faults
    → Went [] (take n out) (is_end n out) a b → ReceivesMore a b (take at old) (take (at + n) (put_mid at (length old - at) old out))
more_filled old out at n a b low high some calm went = record {
  got = take n out;
  carried = record { went = found_some out n a b some went; calm = calm };
  after_are = filled old out at n low high;
}

-- the body is short
pub lacks : (before after : List ℕ) (start at : ℕ) (a b c : LinkState) (stop : BodyStop) → ReceivesMore a b (take start before) (take at after)
    → start ≤ length before → at < length after → length after ≡ length before → Went [] [] (is_ended stop) b c → HasStopped stop b.faults c.faults
    → LacksBytes (length before - start) a c stop
lacks before after start at a b c stop more low high same went cause =
    let got = more.got in
    let long : length (take at after) ≡ length (take start before) + length got = ap length more.after_are ∙ length-append (take start before) got in
    let there : length (take at after) ≡ at = length-take-le at after (omega arith) in
    let first : length (take start before) ≡ start = length-take-le start before low in
    record {
      got = got;
      short = omega arith;
      went = subst (λ (l : List ℕ). Went [] l (is_ended stop) a c) (append-nil got) (went_then [] [] got [] false (is_ended stop) a b c more.carried.went went);
      cause = subst (λ (n : ℕ). HasStopped stop n c.faults) more.carried.calm cause;
    }

-- ---- what stops an asking

pub stops_bad : (held got bytes : List ℕ) (e : Bool) (first last len : ℕ) (a b : LinkState) (stop : Stop) (status : ℕ) (reason : ReplyReason)
    → stop ≡ record { fault = BadReply status reason; early = nat_eq len 0 } → Carried [] got e a b → held ++ got ≡ bytes → length bytes ≡ len
    → len ≤ 16384 → Refuses bytes e first last status reason → Misses [] held first last a b stop.early stop.fault
stops_bad held got bytes e first last len a b stop status reason is carried same long few why =
    let P : Stop → Type 0 = λ s. Misses [] held first last a b s.early s.fault in
    let bad : AsksBadly [] held first last a b (nat_eq len 0) status reason = record {
      got = got;
      ended = e;
      carried = carried;
      why = subst (λ (l : List ℕ). Refuses l e first last status reason) (sym same) why;
      bounded = inr (omega (arith, ap length same));
      early_is = empty_iff (held ++ got) len (ap length same ∙ long);
    } in
    subst P (sym is) bad

pub stops_failed : (held got bytes : List ℕ) (first last len : ℕ) (a b : LinkState) (stop : Stop)
    → stop ≡ record { fault = Failed; early = nat_eq len 0 } → Went [] got false a b → a.faults < b.faults → held ++ got ≡ bytes → length bytes ≡ len
    → AwaitsHead bytes ⊎ AwaitsBody bytes first last → Misses [] held first last a b stop.early stop.fault
stops_failed held got bytes first last len a b stop is went rose same long why =
    let P : Stop → Type 0 = λ s. Misses [] held first last a b s.early s.fault in
    let failed : FailsReceiving [] held first last a b (nat_eq len 0) = record {
      got = got;
      went = went;
      rose = rose;
      wanted = subst (λ (l : List ℕ). AwaitsHead l ⊎ AwaitsBody l first last) (sym same) why;
      early_is = empty_iff (held ++ got) len (ap length same ∙ long);
    } in
    subst P (sym is) failed

-- what stops it later, after the text was sent and these bytes were received
pub misses_then : (text held g bytes : List ℕ) (first last : ℕ) (a b c : LinkState) (early : Bool) (fault : FetchFault)
    → Carried text g false a b → bytes ≡ held ++ g → Misses [] bytes first last b c early fault → Misses text held first last a c early fault
misses_then text held g bytes first last a b c early Failed carried is misses =
    let more = misses.got in
    let same : bytes ++ more ≡ held ++ (g ++ more) = ap (λ l. l ++ more) is ∙ append_assoc held g more in
    record {
      got = g ++ more;
      went = subst (λ (t : List ℕ). Went t (g ++ more) false a c) (append-nil text) (went_then text [] g more false false a b c carried.went misses.went);
      rose = let rose = misses.rose in let calm = carried.calm in omega arith;
      wanted = subst (λ (l : List ℕ). AwaitsHead l ⊎ AwaitsBody l first last) same misses.wanted;
      early_is = subst (λ (l : List ℕ). IsTrue early ↔ (l ≡ [])) same misses.early_is;
    }
misses_then text held g bytes first last a b c early (BadReply status reason) carried is misses =
    let more = misses.got in
    let same : bytes ++ more ≡ held ++ (g ++ more) = ap (λ l. l ++ more) is ∙ append_assoc held g more in
    record {
      got = g ++ more;
      ended = misses.ended;
      carried = subst (λ (t : List ℕ). Carried t (g ++ more) misses.ended a c) (append-nil text)
          (carried_then text [] g more false misses.ended a b c carried misses.carried);
      why = subst (λ (l : List ℕ). Refuses l misses.ended first last status reason) same misses.why;
      bounded = subst (λ (l : List ℕ). (reason ≡ ShortBody) ⊎ (length l ≤ 16384)) same misses.bounded;
      early_is = subst (λ (l : List ℕ). IsTrue early ↔ (l ≡ [])) same misses.early_is;
    }

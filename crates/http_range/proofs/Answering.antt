-- A whole asking, from its head and its body.
use Rattle.std.proofs.Common.{◌≡◌, ℕ, ◌+◌, ◌-◌, ◌<◌, ◌≤◌, ◌↔◌, inl, inr, true, false, List, [], ◌∷◌, ◌++◌, length, drop, refl, sym, ap, ◌∙◌, subst, arith, append_assoc, length-append}
use Rattle.std.specs.Prelude.{IsTrue}
use Rattle.std.proofs.lemmas.List.{append-nil}
use Rattle.httparse.specs.Ascii.{space}
use Rattle.httparse.specs.Grammar.{ResponseHead, print_response, print_blank, print_version, print_reason, print_end, print_section}
use Rattle.http_range.specs.declared.receiving.Stop.{Stop}
use Rattle.http_range.specs.declared.receiving.BodyStop.TheVariants.{Ended, Broken}
use Rattle.http_range.specs.declared.reason.ReplyReason.TheVariants.{ShortBody}
use Rattle.http_range.specs.declared.reason.FetchFault.TheVariants.{Failed, BadReply}
use Rattle.http_range.specs.Links.{LinkState}
use Rattle.http_range.specs.Replies.{HasHead}
use Rattle.http_range.specs.Fetching.{Carried, AsksWell, AsksBadly, FailsReceiving, Misses, FindsHead, TakesBody, LacksBody}
use Rattle.http_range.proofs.Carrying.{carried_then, carried_after, went_then}

some_more : (front back : List ℕ) → 0 < length back → 0 < length (front ++ back)
some_more front back some = omega (arith, length-append front back)

some_front : (front back : List ℕ) → 0 < length front → 0 < length (front ++ back)
some_front front back some = omega (arith, length-append front back)

-- a head has some bytes
pub head_some : (head : ResponseHead) → 0 < length (print_response head)
unfolding print_response
head_some head =
    some_front _ (print_section head.fields head.last) (some_front _ (print_end head.line_end) (some_front _ (print_reason head.reason)
    (some_more (print_blank head.blank ++ print_version head.minor) (space ∷ head.digits) (omega arith))))

-- bytes that begin with a head, and more of them
has_more : (bytes rest more all : List ℕ) (head : ResponseHead) → HasHead bytes head rest → all ≡ bytes ++ more → HasHead all head (rest ++ more)
has_more bytes rest more all head has is = record {
  reads = (has.reads.0, is ∙ ap (λ l. l ++ more) has.reads.1 ∙ append_assoc (print_response head) rest more);
  short = has.short;
  few = has.few;
}

module _ (held : List ℕ) (first last : ℕ) (a b c : LinkState) (bytes : List ℕ) (status total body : ℕ)
    (found : FindsHead held first last a b bytes status total body) where
  all_of : (got : List ℕ) → held ++ (found.got ++ got) ≡ bytes ++ got
  all_of got = sym (append_assoc held found.got got) ∙ ap (λ l. l ++ got) (sym found.bytes_are)

  pub well : (out more : List ℕ) → TakesBody (drop body bytes) b c out more → length out ≡ last + 1 - first → length bytes ≤ 16384
      → AsksWell [] held first last a c out more total
  well out more taken size few =
      let head = found.good.head in
      let has = found.good.has in
      let same : bytes ++ taken.got ≡ (print_response head ++ out) ++ more =
      ap (λ l. l ++ taken.got) has.reads.1 ∙ append_assoc (print_response head) (drop body bytes) taken.got
      ∙ ap (λ l. print_response head ++ l) taken.all ∙ sym (append_assoc (print_response head) out more) in
      record {
        got = found.got ++ taken.got;
        reply = print_response head ++ out;
        carried = carried_then [] [] found.got taken.got false false a b c found.carried taken.carried;
        received = all_of taken.got ∙ same;
        good = record {
          head = head;
          has = record { reads = (has.reads.0, refl); short = has.short; few = has.few };
          good = found.good.good;
          whole = size;
        };
        bounded = elim taken.bounded [
          | inl none ↦ inl none
          | inr none ↦ inr (let long = ap length (sym same ∙ ap (λ l. bytes ++ l) none ∙ append-nil bytes) in omega arith)
        ];
      }

  not_early : (got : List ℕ) → IsTrue false ↔ (held ++ (found.got ++ got) ≡ [])
  not_early got =
      let head = found.good.head in
      let is : held ++ (found.got ++ got) ≡ print_response head ++ (drop body bytes ++ got) =
      all_of got ∙ (has_more bytes (drop body bytes) got (bytes ++ got) head found.good.has refl).reads.1 in (
        λ (h : false ≡ true). absurd (let e = h in cc),
        λ none. absurd (let some = some_front (print_response head) (drop body bytes ++ got) (head_some head) in let no = ap length (sym is ∙ none) in omega arith),
      )

  pub ended : (size : ℕ) (stop : Stop) → stop ≡ record { fault = BadReply status ShortBody; early = false }
      → LacksBody (drop body bytes) size b c Ended → size ≡ last + 1 - first → Misses [] held first last a c stop.early stop.fault
  ended size stop is lacks sized =
      let P : Stop → Type 0 = λ s. Misses [] held first last a c s.early s.fault in
      let head = found.good.head in
      let rest = drop body bytes ++ lacks.got in
      let short = lacks.short in
      let bad : AsksBadly [] held first last a c false status ShortBody = record {
        got = found.got ++ lacks.got;
        ended = true;
        carried = carried_then [] [] found.got lacks.got false true a b c found.carried (record { went = lacks.went; calm = lacks.cause });
        why = inr (inr (
          refl,
          (
            head,
            rest,
            total,
            has_more bytes (drop body bytes) lacks.got (held ++ (found.got ++ lacks.got)) head found.good.has (all_of lacks.got),
            found.good.status_is,
            found.good.good,
            omega arith,
            refl,
          ),
        ));
        bounded = inl refl;
        early_is = not_early lacks.got;
      } in
      subst P (sym is) bad

  pub broken : (size : ℕ) (stop : Stop) → stop ≡ record { fault = Failed; early = false }
      → LacksBody (drop body bytes) size b c Broken → size ≡ last + 1 - first → Misses [] held first last a c stop.early stop.fault
  broken size stop is lacks sized =
      let P : Stop → Type 0 = λ s. Misses [] held first last a c s.early s.fault in
      let head = found.good.head in
      let short = lacks.short in
      let rose = lacks.cause in
      let calm = found.carried.calm in
      let failed : FailsReceiving [] held first last a c false = record {
        got = found.got ++ lacks.got;
        went = went_then [] [] found.got lacks.got false false a b c found.carried.went lacks.went;
        rose = omega arith;
        wanted = inr (
          head,
          drop body bytes ++ lacks.got,
          total,
          has_more bytes (drop body bytes) lacks.got (held ++ (found.got ++ lacks.got)) head found.good.has (all_of lacks.got),
          found.good.good,
          omega arith,
        );
        early_is = not_early lacks.got;
      } in
      subst P (sym is) failed

-- a good reply to a text that was sent
pub well_after : (text held : List ℕ) (first last : ℕ) (a b c : LinkState) (out more : List ℕ) (total : ℕ) → Carried text [] false a b
    → AsksWell [] held first last b c out more total → AsksWell text held first last a c out more total
well_after text held first last a b c out more total sent well = record {
  got = well.got;
  reply = well.reply;
  carried = carried_after text well.got false a b c sent well.carried;
  received = well.received;
  good = well.good;
  bounded = well.bounded;
}

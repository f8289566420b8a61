-- What was received decides the answer.
use Rattle.std.proofs.Common.{◌≡◌, ℕ, ◌+◌, ◌-◌, ◌<◌, inl, inr, Bool, List, ◌++◌, length, take, refl, sym, ap, subst, ◌∙◌, arith, length-append}
use Rattle.std.specs.Prelude.{Ok, Err}
use Rattle.std.proofs.lemmas.List.{take_at}
use Rattle.httparse.specs.Grammar.{ResponseHead, ReadsResponse, status_code}
use Rattle.httparse.proofs.GrammarLemmas.{ReadsResponse-append, response_unique}
use Rattle.http_range.specs.declared.reason.ReplyReason.{ReplyReason}
use Rattle.http_range.specs.Replies.{GoodReply, HasHead, Refuses, judged_head}

-- the bytes begin with one head at most
one_head : (bytes : List ℕ) (h k : ResponseHead) (r q : List ℕ) → HasHead bytes h r → HasHead bytes k q → (h ≡ k) × (r ≡ q)
one_head bytes h k r q a b = response_unique bytes h k r q a.reads b.reads

-- the head of a good reply, in front of whatever came behind it
at_front : (got reply more : List ℕ) (first last total : ℕ) (body : List ℕ) (good : GoodReply reply first last total body)
    → got ≡ reply ++ more → HasHead got good.head (body ++ more)
at_front got reply more first last total body good is = record {
  reads = subst (λ bytes. ReadsResponse bytes good.head (body ++ more)) (sym is) (ReadsResponse-append reply good.head body more good.has.reads);
  short = good.has.short;
  few = good.has.few;
}

-- all good replies at one place have one total and one body
pub one_reply : (got left right more other : List ℕ) (first last total number : ℕ) (body part : List ℕ)
    → GoodReply left first last total body → GoodReply right first last number part
    → got ≡ left ++ more → got ≡ right ++ other → (total ≡ number) × (body ≡ part)
one_reply got left right more other first last total number body part one two is same =
    let a = at_front got left more first last total body one is in
    let b = at_front got right other first last number part two same in
    let heads = one_head got one.head two.head (body ++ more) (part ++ other) a b in
    let totals : Ok total ≡ Ok number = sym one.good ∙ ap (λ k. judged_head k first last) heads.0 ∙ two.good in
    let size : length body ≡ length part = one.whole ∙ sym two.whole in
    (cc totals, sym (take_at body more (length body) refl) ∙ ap (take (length body)) heads.1 ∙ take_at part other (length body) (sym size))

-- a head is not both good and refused
not_both : (h k : ResponseHead) (first last total : ℕ) (reason : ReplyReason)
    → h ≡ k → judged_head h first last ≡ Ok total → judged_head k first last ≡ Err reason → ⊥
not_both h k first last total reason same good bad =
    let clash : Ok total ≡ Err reason = sym good ∙ ap (λ x. judged_head x first last) same ∙ bad in cc

-- a good reply is refused for no reason
pub reply_apart : (got reply more : List ℕ) (ended : Bool) (first last total status : ℕ) (body : List ℕ) (reason : ReplyReason)
    → GoodReply reply first last total body → got ≡ reply ++ more → ¬ (Refuses got ended first last status reason)
reply_apart got reply more ended first last total status body reason good is refuses =
    let a = at_front got reply more first last total body good is in
    elim refuses [
      | inl start ↦ start.1.1 good.head (body ++ more) a
      | inr other ↦ elim other [
        | inl bad ↦ not_both good.head bad.0 first last total reason (one_head got good.head bad.0 (body ++ more) bad.1 a bad.2).0 good.good bad.4
        | inr late ↦
            let rest = (one_head got good.head late.1.0 (body ++ more) late.1.1 a late.1.3).1 in
            let less : length late.1.1 < last + 1 - first = late.1.6 in
            absurd (omega (arith, less, ap length rest, length-append body more, good.whole))
      ]
    ]

-- there is one status and one reason
pub one_reason : (got : List ℕ) (one other : Bool) (first last status number : ℕ) (reason cause : ReplyReason)
    → Refuses got one first last status reason → Refuses got other first last number cause → (status ≡ number) × (reason ≡ cause)
one_reason got one other first last status number reason cause left right =
    elim left [
      | inl a ↦ elim right [
        | inl b ↦ (a.1.0 ∙ sym b.1.0, a.0 ∙ sym b.0)
        | inr rest ↦ elim rest [
          | inl b ↦ absurd (a.1.1 b.0 b.1 b.2)
          | inr b ↦ absurd (a.1.1 b.1.0 b.1.1 b.1.3)
        ]
      ]
      | inr part ↦ elim part [
        | inl a ↦ elim right [
          | inl b ↦ absurd (b.1.1 a.0 a.1 a.2)
          | inr rest ↦ elim rest [
            | inl b ↦
                let same = (one_head got a.0 b.0 a.1 b.1 a.2 b.2).0 in
                let reasons : Err reason ≡ Err cause = sym a.4 ∙ ap (λ x. judged_head x first last) same ∙ b.4 in
                (a.3 ∙ ap status_code same ∙ sym b.3, cc reasons)
            | inr b ↦ absurd (not_both b.1.0 a.0 first last b.1.2 reason (sym (one_head got a.0 b.1.0 a.1 b.1.1 a.2 b.1.3).0) b.1.5 a.4)
          ]
        ]
        | inr a ↦ elim right [
          | inl b ↦ absurd (b.1.1 a.1.0 a.1.1 a.1.3)
          | inr rest ↦ elim rest [
            | inl b ↦ absurd (not_both a.1.0 b.0 first last a.1.2 cause (one_head got a.1.0 b.0 a.1.1 b.1 a.1.3 b.2).0 a.1.5 b.4)
            | inr b ↦ (a.1.4 ∙ ap status_code (one_head got a.1.0 b.1.0 a.1.1 b.1.1 a.1.3 b.1.3).0 ∙ sym b.1.4, a.0 ∙ sym b.0)
          ]
        ]
      ]
    ]

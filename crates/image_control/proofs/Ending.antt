-- How the turns of a commit come to its answer.
use Rattle.std.proofs.Common.{◌≡◌, ◌≢◌, ℕ, ◌<◌, ◌≤◌, ◌⊎◌, inl, inr, List, [], ◌∷◌, ◌++◌, length, map, Contains, Option, Some, Result, Ok, Err, OnOk, IfErr, IsErrOf, MatchOption, None, refl, sym, ap, ◌∙◌, subst, arith, append_assoc}
use Rattle.flat_image.specs.declared.act.Act.{Act}
use Rattle.flat_image.specs.declared.act.Act.TheVariants.{Freeze, Seal, Fault}
use Rattle.flat_image.specs.declared.act.Asked.TheVariants.{Nothing, Uuid}
use Rattle.flat_image.specs.declared.base.Base.{Base}
use Rattle.flat_image.specs.Base.{pending_of}
use Rattle.flat_image.specs.Entries.{entry}
use Rattle.flat_image.specs.History.{History, now, pending, Proper}
use Rattle.flat_image.specs.LayerReading.{uuid_in}
use Rattle.flat_image.specs.Ports.{PortState, Notes}
use Rattle.flat_image.proofs.HistoryLaws.{now-append, now-entry, now-lowers, proper-rest}
use Rattle.flat_image.proofs.PortLaws.{Notes-trans}
use Rattle.shared_image.specs.declared.faults.SharedFreezeFault.{SharedFreezeFault}
use Rattle.shared_image.specs.declared.faults.SharedFreezeFault.TheVariants as freeze
use Rattle.shared_image.specs.declared.faults.SharedCopyFault.TheVariants as copy
use Rattle.shared_image.specs.declared.faults.SharedSealFault.TheVariants as seal
use Rattle.shared_image.specs.Commits.{NotesNone, NotesAllowed, FreezeFails, Copies, CopyFails, Seals, SealFails}
use Rattle.control_session.specs.declared.answer.CommitAnswer.{CommitAnswer}
use Rattle.control_session.specs.declared.answer.CommitAnswer.TheVariants as commit
use Rattle.control_session.specs.ControlTable.{HasSince, CommitFits, pending_in, layers_in}
use Rattle.image_control.specs.Committing.{Begins, GoesOn, Ends, IsAnswerTo}
use Rattle.image_control.proofs.Sealing.{sealed-since}

pub ok-then : {T E : Type 0} (r : Result T E) (A B : Type 0) → OnOk r A → (A → B) → OnOk r B
ok-then (Ok x) A B a go = go a
ok-then (Err e) A B a go = a

pub err-then : {T E : Type 0} (r : Result T E) (P Q : E → Type 0) → IfErr r P → ((e : E) → P e → Q e) → IfErr r Q
err-then (Ok x) P Q p go = p
err-then (Err e) P Q p go = go e p

-- a freeze that found the history full is answered so
pub worn-answer : {T : Type 0} (r : Result T CommitAnswer) (uuid : List ℕ) (fault : SharedFreezeFault) → fault ≡ freeze.Worn → OnOk r (fault ≡ freeze.Busy uuid) → IfErr r (IsAnswerTo uuid fault)
    → IsErrOf r commit.Worn
worn-answer (Ok x) uuid fault is own refused = absurd (let both : freeze.Worn ≡ freeze.Busy uuid = sym is ∙ own in cc both)
worn-answer (Err answer) uuid fault is own refused = ap Err (subst (λ (f : SharedFreezeFault). IsAnswerTo uuid f answer) is refused)

-- what stands since a later moment stands since an earlier one
since-before : (old mid new : PortState) (act : Act) (acts : List Act) → Notes old mid acts → HasSince mid new act → HasSince old new act
since-before old mid new act acts notes h = record {
  before = notes.more ++ h.before;
  number = h.number;
  behind = h.behind;
  seen = h.seen ∙ ap (λ (l : History). l ++ (entry h.number act ∷ h.behind))
      (ap (λ (p : PortState). p.seen ++ h.before) notes.is ∙ append_assoc old.seen notes.more h.before);
}

-- a commit that was in progress and is no longer was sealed since
pub other-ended : (old new : PortState) (uuid : List ℕ) (other : Option (List ℕ)) → pending_in old ≡ Some uuid → NotesNone old new → pending_in new ≡ other → other ≢ Some uuid
    → Proper new.base new.seen → Ends old new uuid commit.Done
other-ended old new uuid other is none now_is not proper =
    let n = none.1 in
    let moved : Proper old.base (old.seen ++ n.more) = subst (λ (p : PortState). Proper p.base p.seen) n.is proper in
    let then : pending_of (now (now old.base old.seen) n.more).frozen ≡ other =
    ap (λ (b : Base). pending_of b.frozen) (sym (now-append old.base old.seen n.more)) ∙ (sym (ap (λ (p : PortState). pending p.base p.seen) n.is) ∙ now_is) in
    let h = sealed-since uuid n.more (now old.base old.seen) is (λ at. not (sym then ∙ at)) (proper-rest old.base old.seen n.more moved) in (
      record {
        before = h.before;
        number = h.number;
        behind = h.behind;
        seen = ap (λ (p : PortState). p.seen) n.is ∙ (ap (λ (l : History). old.seen ++ l) h.is ∙ sym (append_assoc old.seen h.before (entry h.number (Seal uuid) ∷ h.behind)));
      },
      inr n,
    )

pub sealed-ended : (old new : PortState) (uuid : List ℕ) (epoch : ℕ) → Seals old new uuid epoch → Ends old new uuid commit.Done
sealed-ended old new uuid epoch s = (record { before = s.sealed.before; number = old.number; behind = []; seen = s.sealed.seen }, inl s.sealed.notes)

pub copy-failed : (old new : PortState) (uuid : List ℕ) → CopyFails old new uuid copy.Failed → Ends old new uuid commit.Failed
copy-failed old new uuid h = (h.0, (Nothing, inl refl, h.1.notes))

pub seal-failed : (old new : PortState) (uuid : List ℕ) → SealFails old new uuid seal.Failed → Ends old new uuid commit.Failed
seal-failed old new uuid h = (h.0, (Uuid uuid, inr refl, h.1.notes))

pub copied-on : (old new : PortState) (uuid : List ℕ) → Copies old new uuid → GoesOn old new uuid
copied-on old new uuid h = (h.1, h.0.1)

pub whole-on : (old new : PortState) (uuid : List ℕ) (done total : ℕ) → SealFails old new uuid (seal.NotWhole done total) → GoesOn old new uuid
whole-on old new uuid done total h = (h.1, h.0.1)

-- a turn in which the commit went on, and what came behind
pub on-on : (old mid new : PortState) (uuid : List ℕ) → GoesOn old mid uuid → GoesOn mid new uuid → GoesOn old new uuid
on-on old mid new uuid first second = (second.0, Notes-trans old mid new [] [] first.1 second.1)

pub on-ends : (old mid new : PortState) (uuid : List ℕ) (answer : CommitAnswer) → GoesOn old mid uuid → Ends mid new uuid answer → Ends old new uuid answer
on-ends old mid new uuid commit.Done on h = (
  since-before old mid new (Seal uuid) [] on.1 h.0,
  elim h.1 [
    | inl own ↦ inl (Notes-trans old mid new [] (Seal uuid ∷ []) on.1 own)
    | inr none ↦ inr (Notes-trans old mid new [] [] on.1 none)
  ],
)
on-ends old mid new uuid (commit.Busy other) on h = absurd h
on-ends old mid new uuid commit.TooMany on h = absurd h
on-ends old mid new uuid commit.UuidTwice on h = absurd h
on-ends old mid new uuid commit.Failed on h =
    let first = on.1.later in let rose = h.0 in
    (omega (arith, first, rose), (h.1.0, h.1.1, Notes-trans old mid new [] (Fault h.1.0 ∷ []) on.1 h.1.2))
on-ends old mid new uuid commit.Worn on h = (h.0, Notes-trans old mid new [] [] on.1 h.1)
on-ends old mid new uuid commit.Memory on h = absurd h

pub next-on : (old mid new : PortState) (uuid : List ℕ) (result : Option CommitAnswer) → GoesOn old mid uuid → MatchOption result (GoesOn mid new uuid) (Ends mid new uuid)
    → MatchOption result (GoesOn old new uuid) (Ends old new uuid)
next-on old mid new uuid None on next = on-on old mid new uuid on next
next-on old mid new uuid (Some answer) on next = on-ends old mid new uuid answer on next

-- ---- the freeze

pub frozen-begins : (old new : PortState) (uuid : List ℕ) → NotesAllowed old new (Freeze uuid) (Freeze uuid) → Begins old new uuid
frozen-begins old new uuid h =
    let after : pending_in new ≡ pending old.base ((old.seen ++ h.before) ++ entry old.number (Freeze uuid) ∷ []) =
    ap (λ (p : PortState). pending p.base new.seen) h.notes.is ∙ ap (λ (l : History). pending old.base l) h.seen in
    (after ∙ ap (λ (b : Base). pending_of b.frozen) (now-entry old.base (old.seen ++ h.before) old.number (Freeze uuid)), inl h.notes)

pub busy-begins : (old new : PortState) (uuid : List ℕ) → FreezeFails old new uuid (freeze.Busy uuid) → Begins old new uuid
busy-begins old new uuid h = (h.1, inr h.0.1)

layers-here : (p : PortState) → (now p.base p.seen).lowers ++ (now p.base p.seen).done ≡ layers_in p
layers-here p = ap (λ (l : List (List ℕ)). l ++ (now p.base p.seen).done) (now-lowers p.base p.seen)

pub freeze-refused : (old new : PortState) (uuid : List ℕ) (fault : SharedFreezeFault) (answer : CommitAnswer) → FreezeFails old new uuid fault → IsAnswerTo uuid fault answer → CommitFits old new uuid answer
freeze-refused old new uuid freeze.Worn answer h is = subst (CommitFits old new uuid) (sym is) (h.0, inl h.1)
freeze-refused old new uuid (freeze.Busy other) answer h is = subst (CommitFits old new uuid) (sym is.0) (h.0.1, h.1, is.1)
freeze-refused old new uuid freeze.TooMany answer h is = subst (CommitFits old new uuid) (sym is) (h.0.1, h.1, h.2)
freeze-refused old new uuid freeze.UuidTwice answer h is = subst (CommitFits old new uuid) (sym is) (h.0.1, h.1, h.3)
freeze-refused old new uuid freeze.Memory answer h is =
    let c = h.1 in
    subst (CommitFits old new uuid) (sym is) (
      record {
        going = h.0.0;
        idle = ap pending_of c.free;
        few = subst (λ (l : List (List ℕ)). length l < 255) (layers-here new) c.few;
        unlike = subst (λ (l : List (List ℕ)). Contains (map uuid_in l) uuid → ⊥) (layers-here new) c.unlike;
      },
      h.0.1,
    )
freeze-refused old new uuid freeze.Failed answer h is = subst (CommitFits old new uuid) (sym is) (h.0, (Uuid uuid, inr refl, inl h.1.notes))

-- ---- the whole

begun-notes : (old mid new : PortState) (uuid : List ℕ) (acts : List Act) → Notes old mid (Freeze uuid ∷ []) ⊎ Notes old mid [] → Notes mid new acts
    → Notes old new (Freeze uuid ∷ acts) ⊎ Notes old new acts
begun-notes old mid new uuid acts begun on = elim begun [
  | inl froze ↦ inl (Notes-trans old mid new (Freeze uuid ∷ []) acts froze on)
  | inr none ↦ inr (Notes-trans old mid new [] acts none on)
]

begun-since : (old mid new : PortState) (uuid : List ℕ) (act : Act) → Notes old mid (Freeze uuid ∷ []) ⊎ Notes old mid [] → HasSince mid new act → HasSince old new act
begun-since old mid new uuid act begun h = elim begun [
  | inl froze ↦ since-before old mid new act (Freeze uuid ∷ []) froze h
  | inr none ↦ since-before old mid new act [] none h
]

begun-later : (old mid : PortState) (uuid : List ℕ) → Notes old mid (Freeze uuid ∷ []) ⊎ Notes old mid [] → old.faults ≤ mid.faults
begun-later old mid uuid begun = elim begun [ inl froze ↦ froze.later | inr none ↦ none.later ]

pub begun-ends : (old mid new : PortState) (uuid : List ℕ) (answer : CommitAnswer) → Begins old mid uuid → Ends mid new uuid answer → CommitFits old new uuid answer
begun-ends old mid new uuid commit.Done begun h = (
  begun-since old mid new uuid (Seal uuid) begun.1 h.0,
  elim h.1 [
    | inl own ↦ elim (begun-notes old mid new uuid (Seal uuid ∷ []) begun.1 own) [ inl both ↦ inl both | inr one ↦ inr (inl one) ]
    | inr none ↦ elim (begun-notes old mid new uuid [] begun.1 none) [ inl one ↦ inr (inr (inl one)) | inr nothing ↦ inr (inr (inr nothing)) ]
  ],
)
begun-ends old mid new uuid (commit.Busy other) begun h = absurd h
begun-ends old mid new uuid commit.TooMany begun h = absurd h
begun-ends old mid new uuid commit.UuidTwice begun h = absurd h
begun-ends old mid new uuid commit.Failed begun h =
    let first = begun-later old mid uuid begun.1 in let rose = h.0 in
    (omega (arith, first, rose), (h.1.0, h.1.1, elim (begun-notes old mid new uuid (Fault h.1.0 ∷ []) begun.1 h.1.2) [ inl both ↦ inr both | inr one ↦ inl one ]))
begun-ends old mid new uuid commit.Worn begun h = (h.0, elim (begun-notes old mid new uuid [] begun.1 h.1) [ inl one ↦ inr one | inr none ↦ inl none ])
begun-ends old mid new uuid commit.Memory begun h = absurd h

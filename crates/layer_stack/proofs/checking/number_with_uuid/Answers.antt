use Rattle.std.proofs.Common.{◌≢◌, ◌<◌, length, refl, List, sym, ◌∙◌, subst, arith}
use Rattle.std.proofs.lemmas.Option.{slice_get_read}
use Rattle.std.proofs.lemmas.List.{take_all}
use Rattle.std.proofs.lemmas.List.Elements.{All-more, All-same}
use Rattle.std.proofs.lemmas.Slice.Eq.{bytes_eq-Decides}
use Rattle.std.proofs.lemmas.Bool.{false≢true}
use Rattle.lsmt_header.specs.declared.head.Head.{Head}
use Rattle.layer_stack.proofs.checking.number_with_uuid.Goals as goal

pub returns-then-eq-clause-found : goal.returns-then-eq-clause-found
returns-then-eq-clause-found c =
    let other = c.index-below-number.result in
    let at : c.loop-number.number < length c.args.below.now = c.loop-number-test.true in
    let same = (bytes_eq-Decides other.uuid c.args.head.now.uuid).0 (sym c.eq.ensures ∙ c.if-eq.true) in
    (other, slice_get_read c.args.below.now (length c.args.below.now) c.loop-number.number other refl at c.index-below-number.is, same)

pub loop-number-preserved : goal.loop-number-preserved
loop-number-preserved c =
    let other = c.index-below-number.result in
    let heads : List Head = c.args.below.now in
    let at : c.loop-number.number < length heads = c.loop-number-test.true in
    let unlike : other.uuid ≢ c.args.head.now.uuid =
    λ same. false≢true (sym c.if-eq.false ∙ c.eq.ensures ∙ (bytes_eq-Decides other.uuid c.args.head.now.uuid).1 same) in
    let P : Head → Type 0 = λ other. other.uuid ≢ c.args.head.now.uuid in
    All-more P heads c.loop-number.number other at c.loop-number.invariant (subst P c.index-below-number.is unlike)

pub returns-clause-none : goal.returns-clause-none
returns-clause-none c =
    All-same (λ other. other.uuid ≢ c.args.head.now.uuid) c.args.below.now _ (sym (take_all c.loop-number.number c.args.below.now (omega arith))) c.loop-number.invariant

use Rattle.std.proofs.Common.{◌≡◌, List, ℕ, slice_set, subst, arith}
use Rattle.std.proofs.lemmas.Result.{err_from_is_err_and}
use Rattle.sealed_layer.specs.LayerFaults.{IsNoHead}
use Rattle.sealed_layer.proofs.ReadLemmas.{no_head, framed_by, not_framed_by}
use Rattle.sealed_layer.proofs.in_memory.framed_head.Goals as goal

pub returns-in_err-head-clause-fault : goal.returns-in_err-head-clause-fault
returns-in_err-head-clause-fault c =
    let p = err_from_is_err_and c.from_residual.result c.from_residual.ensures.1 in
    rw (p.1, p.2) (no_head c.args.file.now c.in_err-head.field-0.0 (omega arith)
    (subst (λ (block : List ℕ). IsNoHead block c.in_err-head.field-0.0) c.in-Some-Some.ensures.cases.same c.in_err-head.ensures.fault))

pub returns-then-not-is_trailer-clause-fault : goal.returns-then-not-is_trailer-clause-fault
returns-then-not-is_trailer-clause-fault c =
    let front : List ℕ = c.in-Some-Some.front.now in let end : List ℕ = c.in-Some-Some.end.now in
    let differs : (end ≡ slice_set front 12 6 → ⊥) = λ same. grind (arith, c.is_trailer.ensures, c.if-not-is_trailer.true, same) in
    not_framed_by c.args.file.now front end c.in_ok-head.head (omega arith) c.in-Some-Some.ensures.cases.same c.in_ok-head.ensures.found.0 c.in_ok-head.ensures.found.1
    c.in-Some-Some.ensures'.cases.1.same differs

pub returns-clause-found : goal.returns-clause-found
returns-clause-found c =
    let front : List ℕ = c.in-Some-Some.front.now in let end : List ℕ = c.in-Some-Some.end.now in
    let same : end ≡ slice_set front 12 6 = c.is_trailer.ensures.0 c.if-not-is_trailer.false in
    framed_by c.args.file.now front end c.in_ok-head.head (omega arith) c.in-Some-Some.ensures.cases.same c.in_ok-head.ensures.found.0 c.in_ok-head.ensures.found.1
    c.in-Some-Some.ensures'.cases.1.same same

use Rattle.std.proofs.Common.{◌+◌, ◌<◌, ◌≤◌, length, List, take, drop, refl, sym, ap, ◌∙◌, subst, arith}
use Rattle.std.proofs.lemmas.Result.{err_from_is_err_and}
use Rattle.lsmt_header.specs.declared.head.Head.{Head}
use Rattle.lsmt_header.specs.Blocks.{nil}
use Rattle.layer_stack.specs.Faults.{AreFree, top_uuid, top_sectors}
use Rattle.layer_stack.proofs.StackLemmas.{AreFree-none, AreFree-push, uppermost-push, fault_not_legal, fault_from_over, split_at, take_one_more}
use Rattle.layer_stack.proofs.checking.check.Goals as goal

pub loop-number-init : goal.loop-number-init
loop-number-init c = record { free = AreFree-none; lower_is = refl; parent_is = refl }

pub loop-number-preserved : goal.loop-number-preserved
loop-number-preserved c =
    let heads : List Head = c.args.heads.now in
    let number = c.loop-number.number in
    let head = c.index-heads-number.result in
    let within : number < length heads = c.loop-number-test.true in
    let more = take_one_more heads number head within c.index-heads-number.is in
    let over = c.in_ok-check_over.ensures.free in
    record {
      free = subst AreFree (sym more) (AreFree-push (take number heads) head c.loop-number.invariant.free over);
      lower_is = sym (ap (top_sectors 0) more ∙ uppermost-push (λ (h : Head). h.sectors) 0 (take number heads) head);
      parent_is = sym (ap (top_uuid nil) more ∙ uppermost-push (λ (h : Head). h.uuid) nil (take number heads) head);
    }

pub returns-in_err-check_over-clause-legal : goal.returns-in_err-check_over-clause-legal
returns-in_err-check_over-clause-legal c =
    let heads : List Head = c.args.heads.now in
    let number = c.loop-number.number in
    let head = c.index-heads-number.result in
    let within : number < length heads = c.loop-number-test.true in
    let few : length heads ≤ 255 = omega arith in
    let split = split_at heads number head within c.index-heads-number.is in
    let is_fault = fault_from_over heads (take number heads) (drop (number + 1) heads) head _ few split c.loop-number.invariant.free c.in_err-check_over.ensures.fault in
    let p = err_from_is_err_and c.from_residual.result c.from_residual.ensures.1 in
    rw p.1 ((λ ok. cc), (λ legal. absurd (fault_not_legal heads _ is_fault legal)))

pub returns-in_err-check_over-clause-fault : goal.returns-in_err-check_over-clause-fault
returns-in_err-check_over-clause-fault c =
    let heads : List Head = c.args.heads.now in
    let number = c.loop-number.number in
    let head = c.index-heads-number.result in
    let within : number < length heads = c.loop-number-test.true in
    let few : length heads ≤ 255 = omega arith in
    let split = split_at heads number head within c.index-heads-number.is in
    let is_fault = fault_from_over heads (take number heads) (drop (number + 1) heads) head _ few split c.loop-number.invariant.free c.in_err-check_over.ensures.fault in
    let p = err_from_is_err_and c.from_residual.result c.from_residual.ensures.1 in
    rw (p.1, p.2) is_fault

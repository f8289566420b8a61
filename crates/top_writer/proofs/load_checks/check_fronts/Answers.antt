use Rattle.std.proofs.Common.{arith}
use Rattle.top_writer.specs.declared.fault.TopReason.{TopReason}
use Rattle.top_writer.specs.Files.{Stored, IsParent, asked_of}
use Rattle.top_writer.specs.Loading.{AreFronts}
use Rattle.top_writer.specs.Reasons.{IsReason}
use Rattle.top_writer.proofs.ErrLaws.{if_err_is}
use Rattle.top_writer.proofs.FrontChecks.{bytes_fault, rows_fault, bytes_size, rows_size, other_parent, has_parent}
use Rattle.top_writer.proofs.load_checks.check_fronts.Goals as goal

pub returns-in_err-head-clause-reason : goal.returns-in_err-head-clause-reason
returns-in_err-head-clause-reason c =
    if_err_is c.from_residual.result c.in_err-head.field-0.0 (λ (reason : TopReason). (t : Stored) → AreFronts t c.args.bytes.now c.args.index.now → IsReason c.args.sectors (asked_of c.args.exact c.args.parent) t reason)
    c.from_residual.ensures.1
    (λ t fronts. bytes_fault c.args.sectors (asked_of c.args.exact c.args.parent) t c.args.bytes.now c.args.index.now c.in_err-head.field-0.0 c.in_err-head.ensures.reason fronts)

pub returns-in_err-rows-clause-reason : goal.returns-in_err-rows-clause-reason
returns-in_err-rows-clause-reason c =
    if_err_is c.from_residual-in_err-rows.result c.in_err-rows.field-0.0 (λ (reason : TopReason). (t : Stored) → AreFronts t c.args.bytes.now c.args.index.now → IsReason c.args.sectors (asked_of c.args.exact c.args.parent) t reason)
    c.from_residual-in_err-rows.ensures.1
    (λ t fronts. rows_fault c.args.sectors (asked_of c.args.exact c.args.parent) t c.args.bytes.now c.args.index.now c.in_ok-head.head c.in_err-rows.field-0.0 c.in_ok-head.ensures.found c.in_err-rows.ensures.reason fronts)

pub returns-then-not-bytes_fit-clause-reason : goal.returns-then-not-bytes_fit-clause-reason
returns-then-not-bytes_fit-clause-reason c = λ t fronts.
    bytes_size c.args.sectors (asked_of c.args.exact c.args.parent) t c.args.bytes.now c.args.index.now c.in_ok-head.head c.in_ok-rows.rows c.in_ok-head.ensures.found c.in_ok-rows.ensures.found (λ fit. grind (arith, c.is_size-bytes_fit.ensures, c.if-not-bytes_fit.true, fit)) fronts

pub returns-then-not-rows_fit-clause-reason : goal.returns-then-not-rows_fit-clause-reason
returns-then-not-rows_fit-clause-reason c = λ t fronts.
    rows_size c.args.sectors (asked_of c.args.exact c.args.parent) t c.args.bytes.now c.args.index.now c.in_ok-head.head c.in_ok-rows.rows c.in_ok-head.ensures.found c.in_ok-rows.ensures.found (c.is_size-bytes_fit.ensures.0 c.if-not-bytes_fit.false) (λ fit. grind (arith, c.is_size-rows_fit.ensures, c.if-not-rows_fit.true, fit)) fronts

pub returns-then-not-is_parent-clause-reason : goal.returns-then-not-is_parent-clause-reason
returns-then-not-is_parent-clause-reason c = λ t fronts.
    let differs : (IsParent c.args.parent c.in_ok-head.head.parent → ⊥) = λ asked. grind (arith, c.is_parent.ensures, c.if-not-is_parent.true, asked) in
    other_parent c.args.sectors (asked_of c.args.exact c.args.parent) t c.args.bytes.now c.args.index.now c.in_ok-head.head c.in_ok-rows.rows c.in_ok-head.ensures.found c.in_ok-rows.ensures.found
    (c.is_size-bytes_fit.ensures.0 c.if-not-bytes_fit.false) (c.is_size-rows_fit.ensures.0 c.if-not-rows_fit.false) differs fronts

pub returns-clause-ok : goal.returns-clause-ok
returns-clause-ok c = λ t fronts.
    has_parent c.args.sectors (asked_of c.args.exact c.args.parent) t c.args.bytes.now c.args.index.now c.in_ok-head.head c.in_ok-rows.rows c.in_ok-head.ensures.found c.in_ok-rows.ensures.found
    (c.is_size-bytes_fit.ensures.0 c.if-not-bytes_fit.false) (c.is_size-rows_fit.ensures.0 c.if-not-rows_fit.false) (c.is_parent.ensures.0 c.if-not-is_parent.false) fronts

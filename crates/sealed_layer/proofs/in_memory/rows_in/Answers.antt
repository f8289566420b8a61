use Rattle.std.proofs.Common.{ℕ, ◌*◌, List, take, ap, ◌∙◌}
use Rattle.std.proofs.lemmas.Result.{err_from_is_err_and}
use Rattle.sealed_layer.proofs.ReadLemmas.{read_first, stopped_first}
use Rattle.sealed_layer.proofs.Pushing.{tags-first}
use Rattle.sealed_layer.proofs.in_memory.rows_in.Goals as goal

pub returns-in_err-push_rows-clause-fault : goal.returns-in_err-push_rows-clause-fault
returns-in_err-push_rows-clause-fault c =
    let p = err_from_is_err_and c.from_residual-in_err-push_rows.result c.from_residual-in_err-push_rows.ensures.1 in
    let none = c.in_ok-rows.ensures.items in
    let some = c.in_err-push_rows.ensures.some in
    rw (p.1, p.2) (stopped_first c.args.file.now c.split_at-2.result.0.now c.args.head.now c.in_ok-rows.rows.items c.push_rows.new.rows.items c.in_err-push_rows.field-0.0
    none (c.split_at-2.ensures.front ∙ ap (λ (bytes : List ℕ). take (16 * c.args.head.now.rows) bytes) c.split_at.ensures.back) c.requires.place some
    c.in_err-push_rows.ensures.grows c.in_err-push_rows.ensures.fault)

pub returns-clause-tags : goal.returns-clause-tags
returns-clause-tags c = tags-first c.args.head.now c.split_at-2.result.0.now c.in_ok-rows.rows.items c.push_rows.new.rows.items c.in_ok-rows.ensures.items c.in_ok-push_rows.ensures.grows

pub returns-clause-found : goal.returns-clause-found
returns-clause-found c =
    read_first c.args.file.now c.split_at-2.result.0.now c.args.head.now c.in_ok-rows.rows.items c.push_rows.new.rows.items c.in_ok-rows.ensures.items
    (c.split_at-2.ensures.front ∙ ap (λ (bytes : List ℕ). take (16 * c.args.head.now.rows) bytes) c.split_at.ensures.back) c.requires.place c.in_ok-push_rows.ensures.all c.in_ok-push_rows.ensures.grows

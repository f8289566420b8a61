use Rattle.std.proofs.Common.{arith}
use Rattle.std.proofs.lemmas.Result.{err_from_is_err_and}
use Rattle.sealed_layer.proofs.ReadLemmas.{stop_is_fault, all_fit}
use Rattle.sealed_layer.proofs.in_memory.layer_in.Goals as goal

pub returns-in_err-rows-clause-fault : goal.returns-in_err-rows-clause-fault
returns-in_err-rows-clause-fault c =
    let p = err_from_is_err_and c.from_residual-in_err-rows.result c.from_residual-in_err-rows.ensures.1 in
    let ok = c.in_ok-check_index.ensures.ok in
    rw (p.1, p.2) (stop_is_fault c.args.file.now c.in_ok-head.head c.in_err-rows.field-0.0 c.in_ok-head.ensures.found ok.0 ok.1 c.in_err-rows.ensures.fault)

pub new-requires : goal.new-requires
new-requires c =
    let ok = c.in_ok-check_index.ensures.ok in let end = ok.1.end in
    record {
      kind = c.in_ok-head.ensures.valid.0;
      valid = c.in_ok-head.ensures.valid.1;
      sized = c.in_ok-head.ensures.sized;
      from = ok.1.from;
      whole = ok.1.whole;
      index_at = omega (arith, end, c.requires);
      few = ok.0;
      count = c.in_ok-rows.ensures.count;
      fits = all_fit _ _ _ _ c.in_ok-rows.ensures.sound;
      tags = c.in_ok-rows.ensures.tags;
      sound = c.in_ok-rows.ensures.sound;
    }

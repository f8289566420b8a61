use Rattle.std.proofs.lemmas.Result.{err_from_is_err_and}
use Rattle.image_core.proofs.loading.open_manifest.Goals as goal

pub returns-in_err-mark-clause-reason : goal.returns-in_err-mark-clause-reason
returns-in_err-mark-clause-reason g c =
    let p = err_from_is_err_and c.from_residual.result c.from_residual.ensures.1 in
    rw (p.1, p.2) (λ told. c.in_err-mark.ensures.reason told c.args.lowers.now)

use Rattle.std.proofs.Common.{[]}
use Rattle.std.proofs.lemmas.Result.{err_from_is_err_and}
use Rattle.image_core.specs.Seen.{Seen, seen}
use Rattle.image_commands.proofs.ImageAdds.{adds-nothing}
use Rattle.image_make.specs.Steps.{AsksNothing}
use Rattle.image_make.proofs.StepLaws.{stops-short}
use Rattle.image_make.proofs.making.sum_image.Goals as goal

pub returns-in_err-bytes-clause-refused : goal.returns-in_err-bytes-clause-refused
returns-in_err-bytes-clause-refused g c =
    let old : Seen = seen g.D.Disk c.args.image.now in
    let p = err_from_is_err_and c.from_residual.result c.from_residual.ensures.1 in
    rw (p.1, p.2) (stops-short [] AsksNothing old old (adds-nothing old))

use Rattle.std.proofs.Common.{◌∙◌}
use Rattle.std.proofs.lemmas.Result.{err_from_is_err_and}
use Rattle.sector_extent.specs.CauseLaws.{calm_value}
use Rattle.image_core.specs.Seen.{Seen, seen, faults_in}
use Rattle.layer_commands.specs.declared.refusal.Refusal.TheVariants as refused
use Rattle.layer_commands.proofs.Charged.{charges_err, stays_ok}
use Rattle.image_commands.proofs.ImageAdds.{adds-nothing}
use Rattle.image_make.specs.Making.{AsksOf, all_entries}
use Rattle.image_make.proofs.StepLaws.{stops-short}
use Rattle.image_make.proofs.ToldLaws.{adds-flushed, stops-acting, stops-flushing}
use Rattle.image_make.proofs.acting.make_all.Goals as goal

pub returns-in_err-block-clause-refused : goal.returns-in_err-block-clause-refused
returns-in_err-block-clause-refused g c =
    let old : Seen = seen g.D.Disk c.args.image.now in
    let p = err_from_is_err_and c.from_residual.result c.from_residual.ensures.1 in
    rw (p.1, p.2) (stops-short (all_entries c.args.seed c.args.count) (AsksOf c.args.seed c.args.count) old old (adds-nothing old))

pub returns-in_err-tally-clause-refused : goal.returns-in_err-tally-clause-refused
returns-in_err-tally-clause-refused g c =
    let old : Seen = seen g.D.Disk c.args.image.now in
    let new : Seen = seen g.D.Disk c.do_acts.new.image in
    let p = err_from_is_err_and c.from_residual-in_err-tally.result c.from_residual-in_err-tally.ensures.1 in
    rw (p.1, p.2) (stops-acting c.args.seed c.args.count old new c.in_err-tally.field-0.0 c.in_err-tally.ensures.refused)

pub returns-in_err-flush_once-clause-refused : goal.returns-in_err-flush_once-clause-refused
returns-in_err-flush_once-clause-refused g c =
    let old : Seen = seen g.D.Disk c.args.image.now in
    let mid : Seen = seen g.D.Disk c.do_acts.new.image in
    let new : Seen = seen g.D.Disk c.flush_once.new.image in
    let p = err_from_is_err_and c.from_residual-in_err-flush_once.result c.from_residual-in_err-flush_once.ensures.1 in
    rw (p.1, p.2) (stops-flushing c.args.seed c.args.count old mid new c.in_err-flush_once.field-0.0 c.in_ok-tally.ensures.adds
    (calm_value (faults_in g.D.Disk) c.args.image.now c.do_acts.new.image c.in_ok-tally.tally refused.DiskFault c.in_ok-tally.ensures.cause) c.in_err-flush_once.ensures.refused)

pub returns-in_err-flush_once-clause-cause : goal.returns-in_err-flush_once-clause-cause
returns-in_err-flush_once-clause-cause g c =
    let p = err_from_is_err_and c.from_residual-in_err-flush_once.result c.from_residual-in_err-flush_once.ensures.1 in
    rw (p.1, p.2) (charges_err (faults_in g.D.Disk) c.args.image.now c.do_acts.new.image c.flush_once.new.image c.in_err-flush_once.field-0.0 refused.DiskFault
    (calm_value (faults_in g.D.Disk) c.args.image.now c.do_acts.new.image c.in_ok-tally.tally refused.DiskFault c.in_ok-tally.ensures.cause) c.in_err-flush_once.ensures.cause)

pub returns-clause-adds : goal.returns-clause-adds
returns-clause-adds g c =
    adds-flushed c.args.seed c.args.count (seen g.D.Disk c.args.image.now) (seen g.D.Disk c.do_acts.new.image) (seen g.D.Disk c.flush_once.new.image)
    c.in_ok-tally.ensures.adds c.in_ok-flush_once.ensures.adds

pub returns-clause-cause : goal.returns-clause-cause
returns-clause-cause g c =
    let calm = calm_value (faults_in g.D.Disk) c.args.image.now c.do_acts.new.image c.in_ok-tally.tally refused.DiskFault c.in_ok-tally.ensures.cause in
    let still = calm_value (faults_in g.D.Disk) c.do_acts.new.image c.flush_once.new.image c.in_ok-flush_once.field-0 refused.DiskFault c.in_ok-flush_once.ensures.cause in
    stays_ok (faults_in g.D.Disk) c.args.image.now c.flush_once.new.image c.in_ok-tally.tally refused.DiskFault (still ∙ calm)

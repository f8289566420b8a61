use Rattle.std.proofs.Common.{◌≡◌, ℕ, List, ap, ◌∙◌}
use Rattle.std.specs.Result.{IsErrOf}
use Rattle.std.proofs.lemmas.Result.{err_from_is_err_and}
use Rattle.sector_extent.specs.CauseLaws.{calm_value}
use Rattle.image_core.specs.Seen.{Seen, seen, faults_in}
use Rattle.layer_commands.specs.declared.refusal.Refusal.TheVariants as refused
use Rattle.layer_commands.proofs.Charged.{charges_err, stays}
use Rattle.image_commands.specs.ImageSteps.{Adds}
use Rattle.image_commands.proofs.Answered.{ok-from}
use Rattle.image_make.specs.declared.tally.Tally.{Tally}
use Rattle.image_make.specs.Acts.{tally_of}
use Rattle.image_make.specs.Lines.{made_lines}
use Rattle.image_make.specs.Making.{IsTold, all_entries}
use Rattle.image_make.specs.Steps.{Tells}
use Rattle.image_make.proofs.ToldLaws.{adds-last, lowers-now, no-disk, sectors-now, starts-all, stops-reading, stops-untold, sums-told, told-cut}
use Rattle.image_make.proofs.making.make_told.Goals as goal

pub sum_image-requires-clause-sectors : goal.sum_image-requires-clause-sectors
sum_image-requires-clause-sectors g c =
    sectors-now c.args.seed c.args.acts (seen g.D.Disk c.args.image.now) (seen g.D.Disk c.make_all.new.image) c.requires.fresh c.in_ok-tally.ensures.adds

pub sum_image-requires-clause-bare : goal.sum_image-requires-clause-bare
sum_image-requires-clause-bare g c =
    lowers-now c.args.seed c.args.acts (seen g.D.Disk c.args.image.now) (seen g.D.Disk c.make_all.new.image) c.requires.fresh c.in_ok-tally.ensures.adds

pub returns-in_err-tally-clause-refused : goal.returns-in_err-tally-clause-refused
returns-in_err-tally-clause-refused g c =
    let old : Seen = seen g.D.Disk c.args.image.now in
    let new : Seen = seen g.D.Disk c.make_all.new.image in
    let p = err_from_is_err_and c.from_residual.result c.from_residual.ensures.1 in
    rw (p.1, p.2) (stops-untold c.args.seed c.args.acts old new (g.B.Sink.faults c.args.out.now) (g.B.Sink.written c.args.out.now) c.in_err-tally.field-0.0 c.in_err-tally.ensures.refused)

pub returns-in_err-sums-clause-refused : goal.returns-in_err-sums-clause-refused
returns-in_err-sums-clause-refused g c =
    let old : Seen = seen g.D.Disk c.args.image.now in
    let mid : Seen = seen g.D.Disk c.make_all.new.image in
    let new : Seen = seen g.D.Disk c.sum_image.new.image in
    let calm = calm_value (faults_in g.D.Disk) c.args.image.now c.make_all.new.image c.in_ok-tally.tally refused.DiskFault c.in_ok-tally.ensures.cause in
    let p = err_from_is_err_and c.from_residual-in_err-sums.result c.from_residual-in_err-sums.ensures.1 in
    rw (p.1, p.2) (stops-untold c.args.seed c.args.acts old new (g.B.Sink.faults c.args.out.now) (g.B.Sink.written c.args.out.now) c.in_err-sums.field-0.0
    (stops-reading c.args.seed c.args.acts old mid new c.in_err-sums.field-0.0 c.in_ok-tally.ensures.adds calm c.in_err-sums.ensures.refused))

pub returns-in_err-text-clause-refused : goal.returns-in_err-text-clause-refused
returns-in_err-text-clause-refused g c =
    let old : Seen = seen g.D.Disk c.args.image.now in
    let mid : Seen = seen g.D.Disk c.make_all.new.image in
    let new : Seen = seen g.D.Disk c.sum_image.new.image in
    let all = all_entries c.args.seed c.args.acts in
    let p = err_from_is_err_and c.from_residual-in_err-text.result c.from_residual-in_err-text.ensures.1 in
    rw (p.1, p.2) (stops-untold c.args.seed c.args.acts old new (g.B.Sink.faults c.args.out.now) (g.B.Sink.written c.args.out.now) refused.Memory
    (all, starts-all all, adds-last all old mid new c.in_ok-tally.ensures.adds c.in_ok-sums.ensures.adds))

pub returns-in_err-sums-clause-cause : goal.returns-in_err-sums-clause-cause
returns-in_err-sums-clause-cause g c =
    let calm = calm_value (faults_in g.D.Disk) c.args.image.now c.make_all.new.image c.in_ok-tally.tally refused.DiskFault c.in_ok-tally.ensures.cause in
    let p = err_from_is_err_and c.from_residual-in_err-sums.result c.from_residual-in_err-sums.ensures.1 in
    rw (p.1, p.2) (charges_err (faults_in g.D.Disk) c.args.image.now c.make_all.new.image c.sum_image.new.image c.in_err-sums.field-0.0 refused.DiskFault calm c.in_err-sums.ensures.cause)

pub returns-clause-adds : goal.returns-clause-adds
returns-clause-adds g c =
    let old : Seen = seen g.D.Disk c.args.image.now in
    let mid : Seen = seen g.D.Disk c.make_all.new.image in
    let new : Seen = seen g.D.Disk c.sum_image.new.image in
    let all = all_entries c.args.seed c.args.acts in
    ok-from c.write_text.result _ (Adds all old new) (λ sent. adds-last all old mid new c.in_ok-tally.ensures.adds c.in_ok-sums.ensures.adds) c.write_text.ensures.done

pub returns-clause-told : goal.returns-clause-told
returns-clause-told g c =
    let old : Seen = seen g.D.Disk c.args.image.now in
    let mid : Seen = seen g.D.Disk c.make_all.new.image in
    let text : List ℕ = c.as_bytes.result.now in
    let is : text ≡ made_lines c.args.acts (tally_of c.args.seed c.args.acts) c.in_ok-sums.sums.filled c.in_ok-sums.sums.sum =
    c.as_bytes.ensures.value ∙ c.in_ok-text.ensures ∙ ap (λ (t : Tally). made_lines c.args.acts t c.in_ok-sums.sums.filled c.in_ok-sums.sums.sum) c.in_ok-tally.ensures.tally in
    let told : IsTold c.args.seed c.args.acts g.D.Disk.tells text =
    sums-told c.args.seed c.args.acts old mid c.requires.fresh c.in_ok-tally.ensures.adds g.D.Disk.tells c.in_ok-sums.sums text (λ t. t) c.in_ok-sums.ensures.sums is in
    ok-from c.write_text.result _ (Tells c.args.seed c.args.acts g.D.Disk.tells (g.B.Sink.written c.args.out.now) (g.B.Sink.written c.write_text.new.out)) (λ sent. (text, told, sent)) c.write_text.ensures.done

pub returns-clause-refused : goal.returns-clause-refused
returns-clause-refused g c =
    let old : Seen = seen g.D.Disk c.args.image.now in
    let mid : Seen = seen g.D.Disk c.make_all.new.image in
    let new : Seen = seen g.D.Disk c.sum_image.new.image in
    let all = all_entries c.args.seed c.args.acts in
    let text : List ℕ = c.as_bytes.result.now in
    let is : text ≡ made_lines c.args.acts (tally_of c.args.seed c.args.acts) c.in_ok-sums.sums.filled c.in_ok-sums.sums.sum =
    c.as_bytes.ensures.value ∙ c.in_ok-text.ensures ∙ ap (λ (t : Tally). made_lines c.args.acts t c.in_ok-sums.sums.filled c.in_ok-sums.sums.sum) c.in_ok-tally.ensures.tally in
    let told : IsTold c.args.seed c.args.acts g.D.Disk.tells text =
    sums-told c.args.seed c.args.acts old mid c.requires.fresh c.in_ok-tally.ensures.adds g.D.Disk.tells c.in_ok-sums.sums text (λ t. t) c.in_ok-sums.ensures.sums is in
    let sent = c.write_text.ensures in
    told-cut c.write_text.result c.args.seed c.args.acts text old new (g.B.Sink.faults c.args.out.now) (g.B.Sink.faults c.write_text.new.out) (g.B.Sink.written c.args.out.now) (g.B.Sink.written c.write_text.new.out)
    (adds-last all old mid new c.in_ok-tally.ensures.adds c.in_ok-sums.ensures.adds) told sent.refused sent.cause.failed sent.front

pub returns-clause-cause : goal.returns-clause-cause
returns-clause-cause g c =
    let calm = calm_value (faults_in g.D.Disk) c.args.image.now c.make_all.new.image c.in_ok-tally.tally refused.DiskFault c.in_ok-tally.ensures.cause in
    let still = calm_value (faults_in g.D.Disk) c.make_all.new.image c.sum_image.new.image c.in_ok-sums.sums refused.DiskFault c.in_ok-sums.ensures.cause in
    stays (faults_in g.D.Disk) c.args.image.now c.sum_image.new.image (IsErrOf c.write_text.result refused.DiskFault) (still ∙ calm) (no-disk c.write_text.result c.write_text.ensures.refused)

pub returns-in_err-text-clause-cause : goal.returns-in_err-text-clause-cause
returns-in_err-text-clause-cause g c =
    let calm = calm_value (faults_in g.D.Disk) c.args.image.now c.make_all.new.image c.in_ok-tally.tally refused.DiskFault c.in_ok-tally.ensures.cause in
    let still = calm_value (faults_in g.D.Disk) c.make_all.new.image c.sum_image.new.image c.in_ok-sums.sums refused.DiskFault c.in_ok-sums.ensures.cause in
    let p = err_from_is_err_and c.from_residual-in_err-text.result c.from_residual-in_err-text.ensures.1 in
    rw (p.1, p.2) (stays (faults_in g.D.Disk) c.args.image.now c.sum_image.new.image _ (still ∙ calm) (λ is. cc))

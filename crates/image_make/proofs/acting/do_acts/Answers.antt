use Rattle.std.proofs.Common.{◌≡◌, ℕ, suc, ◌+◌, [], refl, sym, ap, ◌∙◌, subst, arith}
use Rattle.std.proofs.lemmas.Result.{err_from_is_err_and}
use Rattle.sector_extent.specs.CauseLaws.{calm_value}
use Rattle.image_core.specs.Parts.{parts_view}
use Rattle.image_core.specs.Seen.{Seen, seen, faults_in}
use Rattle.layer_commands.specs.declared.refusal.Refusal.TheVariants as refused
use Rattle.layer_commands.proofs.Charged.{charges_err}
use Rattle.image_commands.specs.Images.{entries}
use Rattle.image_commands.specs.ImageSteps.{Adds}
use Rattle.image_commands.proofs.ImageAdds.{adds-nothing}
use Rattle.image_make.specs.declared.draws.Drawn.{Drawn}
use Rattle.image_make.specs.declared.tally.Tally.{Tally}
use Rattle.image_make.specs.Draws.{drawn, drawn_from, next}
use Rattle.image_make.specs.Acts.{is_made, made_acts, tally_of, with_act, IsSmall}
use Rattle.image_make.specs.Making.{new_image}
use Rattle.image_make.specs.Steps.{MayAct}
use Rattle.image_make.proofs.DrawLaws.{no-draws, no-tally, small-below, tally-small, three-more}
use Rattle.image_make.proofs.MadeLaws.{adds-next, layers-are, may-act, no-acts, stops-next, tally-more}
use Rattle.image_make.proofs.acting.do_acts.Goals as goal

pub loop-number-init : goal.loop-number-init
loop-number-init g c =
    let old : Seen = seen g.D.Disk c.args.image.now in
    record {
      state = no-draws c.args.seed;
      below = c.requires.seed;
      tally = c.no_tally-tally.ensures ∙ no-tally c.args.seed;
      adds = subst (λ l. Adds (entries l) old old) (sym (no-acts c.args.seed)) (adds-nothing old);
      standing = (new_image old.faults, [], c.requires.fresh);
      stepped = let e = c.requires.fresh.steps in omega (arith, e);
      faults = refl;
    }

pub act_on-requires-clause-may : goal.act_on-requires-clause-may
act_on-requires-clause-may g c =
    let old : Seen = seen g.D.Disk c.args.image.now in
    let mid : Seen = seen g.D.Disk c.loop-number.image in
    let is : c.draw_act-drawn.result.0 ≡ drawn c.args.seed c.loop-number.number =
    c.draw_act-drawn.ensures.act ∙ ap (λ (s : ℕ). drawn_from c.loop-number.number s) c.loop-number.invariant.state in
    subst (λ (d : Drawn). MayAct (parts_view mid.parts) d) (sym is)
    (may-act c.args.seed c.loop-number.number old mid c.requires.fresh c.loop-number.invariant.adds (omega (arith, c.loop-number-test.true, c.requires.few)))

pub returns-in_err-done-clause-refused : goal.returns-in_err-done-clause-refused
returns-in_err-done-clause-refused g c =
    let old : Seen = seen g.D.Disk c.args.image.now in
    let mid : Seen = seen g.D.Disk c.loop-number.image in
    let new : Seen = seen g.D.Disk c.act_on.new.image in
    let is : c.draw_act-drawn.result.0 ≡ drawn c.args.seed c.loop-number.number =
    c.draw_act-drawn.ensures.act ∙ ap (λ (s : ℕ). drawn_from c.loop-number.number s) c.loop-number.invariant.state in
    let p = err_from_is_err_and c.from_residual.result c.from_residual.ensures.1 in
    rw (p.1, p.2) (stops-next c.args.seed c.loop-number.number old mid c.requires.fresh c.loop-number.invariant.adds c.draw_act-drawn.result.0 is new
    c.args.count c.loop-number-test.true c.loop-number.invariant.faults c.in_err-done.field-0.0 c.in_err-done.ensures.refused)

pub returns-in_err-done-clause-cause : goal.returns-in_err-done-clause-cause
returns-in_err-done-clause-cause g c =
    let p = err_from_is_err_and c.from_residual.result c.from_residual.ensures.1 in
    rw (p.1, p.2) (charges_err (faults_in g.D.Disk) c.args.image.now c.loop-number.image c.act_on.new.image c.in_err-done.field-0.0 refused.DiskFault c.loop-number.invariant.faults c.in_err-done.ensures.cause)

pub with_one-tally-requires-clause-small : goal.with_one-tally-requires-clause-small
with_one-tally-requires-clause-small g c =
    subst (λ (t : Tally). IsSmall t 2147483648) (sym c.loop-number.invariant.tally)
    (small-below c.loop-number.number 2147483648 (tally_of c.args.seed c.loop-number.number) (omega (arith, c.loop-number-test.true, c.requires.few)) (tally-small c.args.seed c.loop-number.number))

pub with_one-tally-requires-clause-done : goal.with_one-tally-requires-clause-done
with_one-tally-requires-clause-done g c =
    let old : Seen = seen g.D.Disk c.args.image.now in
    let mid : Seen = seen g.D.Disk c.loop-number.image in
    c.in_ok-done.ensures.done
    ∙ ap (λ (k : ℕ). is_made k c.draw_act-drawn.result.0) (layers-are c.args.seed c.loop-number.number old mid c.requires.fresh c.loop-number.invariant.adds
    ∙ ap (λ (t : Tally). t.commits) (sym c.loop-number.invariant.tally))

pub loop-number-preserved : goal.loop-number-preserved
loop-number-preserved g c =
    let old : Seen = seen g.D.Disk c.args.image.now in
    let mid : Seen = seen g.D.Disk c.loop-number.image in
    let new : Seen = seen g.D.Disk c.act_on.new.image in
    let seed : ℕ = c.args.seed in
    let n : ℕ = c.loop-number.number in
    let one : n + 1 ≡ suc n = omega arith in
    let is : c.draw_act-drawn.result.0 ≡ drawn seed n = c.draw_act-drawn.ensures.act ∙ ap (λ (s : ℕ). drawn_from n s) c.loop-number.invariant.state in
    record {
      state = c.draw_act-drawn.ensures.state ∙ ap (λ (s : ℕ). next (next (next s))) c.loop-number.invariant.state ∙ sym (three-more seed n);
      below = c.draw_act-drawn.ensures.below;
      tally =
          c.with_one-tally.ensures
          ∙ ap (λ (t : Tally). with_act t c.draw_act-drawn.result.0) c.loop-number.invariant.tally
          ∙ ap (λ (d : Drawn). with_act (tally_of seed n) d) is
          ∙ sym (tally-more seed n)
          ∙ ap (λ (k : ℕ). tally_of seed k) (sym one);
      adds = subst (λ (k : ℕ). Adds (entries (made_acts seed k)) old new) (sym one)
          (adds-next seed n old mid c.requires.fresh c.loop-number.invariant.adds c.draw_act-drawn.result.0 is new c.in_ok-done.ensures.adds);
      standing = c.in_ok-done.ensures.standing;
      stepped = let a = c.in_ok-done.ensures.stepped in let b = c.loop-number.invariant.stepped in omega (arith, a, b);
      faults = calm_value (faults_in g.D.Disk) c.loop-number.image c.act_on.new.image c.in_ok-done.done refused.DiskFault c.in_ok-done.ensures.cause ∙ c.loop-number.invariant.faults;
    }

pub returns-clause-adds : goal.returns-clause-adds
returns-clause-adds g c =
    let old : Seen = seen g.D.Disk c.args.image.now in
    let mid : Seen = seen g.D.Disk c.loop-number.image in
    let all : c.loop-number.number ≡ c.args.count = omega (arith, c.loop-number-test.false, c.loop-number.auto.number-end) in
    subst (λ (k : ℕ). Adds (entries (made_acts c.args.seed k)) old mid) all c.loop-number.invariant.adds

pub returns-clause-tally : goal.returns-clause-tally
returns-clause-tally g c =
    let all : c.loop-number.number ≡ c.args.count = omega (arith, c.loop-number-test.false, c.loop-number.auto.number-end) in
    c.loop-number.invariant.tally ∙ ap (λ (k : ℕ). tally_of c.args.seed k) all

use Rattle.std.proofs.Common.{◌≡◌, ℕ, ◌*◌, List, length, sym, ap, ◌∙◌, subst}
use Rattle.std.proofs.Math.ListN.{replicate}
use Rattle.std.specs.Prelude.{Result, Ok, Err, IfOk}
use Rattle.std.proofs.lemmas.List.{with_items_is, length-replicate}
use Rattle.sector_extent.specs.declared.memory.Memory.{Memory}
use Rattle.flat_image.specs.declared.base.Base.{Base}
use Rattle.flat_image.specs.History.{History, now}
use Rattle.image_core.specs.declared.steps.Reply.{Reply}
use Rattle.image_core.specs.declared.steps.Step.TheVariants.{Plan}
use Rattle.image_core.specs.declared.steps.Reply.TheVariants.{Planned}
use Rattle.image_core.specs.Seen.{seen, StandsFor}
use Rattle.image_core.specs.Steps.{IsReply}
use Rattle.image_core.proofs.steps.plan_step.Goals as goal
use Rattle.image_core.proofs.steps.plan_step.Goals.{in-Ok, in-Err}
use Rattle.image_core.proofs.StepReplies.{plan-replied, plan-failed}

pub returns-clause-reply : goal.returns-clause-reply
returns-clause-reply g c =
    let image = c.args.image.now in
    let tells = g.D.Disk.tells in
    let e = c.args.extent in
    let out : List ℕ = c.plan.new.out in
    let same = with_items_is c.in_ok-bytes.bytes out (c.plan.auto.out ∙ c.as_mut_slice.ensures.len) in
    let zeros : c.as_mut_slice.result.now ≡ replicate {A = ℕ} (512 * e.count) 0 =
    c.as_mut_slice.ensures.value ∙ c.in_ok-bytes.ensures.items_if_clones_equal (λ y h. h) in
    let size : length out ≡ 512 * e.count = c.plan.auto.out ∙ (ap (length {A = ℕ}) zeros ∙ length-replicate {A = ℕ} (512 * e.count) 0) in
    let P : Result Reply Memory → Type 0 =
    λ result. IfOk result (λ reply. (base : Base) (history : History) → StandsFor (seen g.D.Disk image) base history → IsReply tells (now base history) (Plan e) reply) in
    elim c.match-plan.branch [
      | in-Ok w ↦
          subst P (sym (w.result-is ∙ ap Ok (w.planned.ensures ∙ ap (λ (l : List ℕ). Planned (Ok tt) l c.plan.new.gaps) same)))
          (plan-replied (seen g.D.Disk image) e c.as_mut_slice.result.now out c.plan.new.gaps zeros size w.in-Ok.ensures.bytes w.in-Ok.ensures.gaps)
      | in-Err w ↦
          subst P (sym (w.result-is ∙ ap Ok (w.planned-in-Err.ensures ∙ ap (λ (l : List ℕ). Planned (Err w.in-Err.fault) l c.plan.new.gaps) same)))
          (λ base history stands. plan-failed tells (now base history) e w.in-Err.fault out c.plan.new.gaps size)
    ]

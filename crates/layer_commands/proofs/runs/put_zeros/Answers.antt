use Rattle.std.proofs.Common.{◌≡◌, ℕ, ◌-◌, ◌*◌, ◌≤◌, ◌∙◌, length, subst, refl, ap, arith}
use Rattle.std.specs.Prelude.{replicate}
use Rattle.std.proofs.lemmas.Result.{err_from_is_err_and}
use Rattle.sector_extent.specs.CauseLaws.{calm_value}
use Rattle.layer_commands.specs.declared.refusal.Refusal.TheVariants.{SinkFault}
use Rattle.layer_commands.specs.Runs.{Puts, PutsFront}
use Rattle.layer_commands.proofs.RunLaws.{puts_none, puts_more, puts_front, front_more, blank_front, zeros_more, zeros_rest}
use Rattle.layer_commands.proofs.runs.put_zeros.Goals as goal

pub loop-left-init : goal.loop-left-init
loop-left-init g c = record {
  puts = puts_none (g.B.Sink.written c.args.out.now) c.args.kept.now.items _ (ap (λ (k : ℕ). replicate {A = ℕ} k 0) (let e : 512 * c.args.count - c.args.count * 512 ≡ 0 = omega arith in e));
  within = omega arith;
  room = omega arith;
  faults = refl;
}

pub loop-left-preserved : goal.loop-left-preserved
loop-left-preserved g c =
    let a = g.B.Sink.written c.args.out.now in
    let b = g.B.Sink.written c.loop-left.out in
    let d = g.B.Sink.written c.put_run.new.out in
    let left : ℕ = c.loop-left.left in
    let size : ℕ = c.min-size.result in
    let total : ℕ = 512 * c.args.count in
    let within = c.loop-left.invariant.within in
    let fits : size ≤ left = omega (arith, c.min-size.ensures) in
    let small : size ≤ length c.args.blank.now = omega (arith, c.min-size.ensures) in
    let room = c.put_run.ensures.room in
    let piece : Puts b d c.loop-left.kept.items c.put_run.new.kept.items (replicate {A = ℕ} size 0) =
    subst (Puts b d c.loop-left.kept.items c.put_run.new.kept.items) (blank_front c.args.blank.now size c.requires.blank small) c.in_ok-put_run.ensures.put in
    record {
      puts = subst (Puts a d c.args.kept.now.items c.put_run.new.kept.items) (zeros_more total left size fits within)
          (puts_more a b d c.args.kept.now.items c.loop-left.kept.items c.put_run.new.kept.items _ _ c.loop-left.invariant.puts piece);
      within = omega (arith, within);
      room = omega (arith, c.loop-left.invariant.room, room);
      faults = calm_value g.B.Sink.faults c.loop-left.out c.put_run.new.out c.in_ok-put_run.field-0 SinkFault c.in_ok-put_run.ensures.cause ∙ c.loop-left.invariant.faults;
    }

pub returns-in_err-put_run-clause-front : goal.returns-in_err-put_run-clause-front
returns-in_err-put_run-clause-front g c =
    let p = err_from_is_err_and c.from_residual.result c.from_residual.ensures.1 in
    let a = g.B.Sink.written c.args.out.now in
    let b = g.B.Sink.written c.loop-left.out in
    let d = g.B.Sink.written c.put_run.new.out in
    let left : ℕ = c.loop-left.left in
    let size : ℕ = c.min-size.result in
    let total : ℕ = 512 * c.args.count in
    let within = c.loop-left.invariant.within in
    let fits : size ≤ left = omega (arith, c.min-size.ensures) in
    let small : size ≤ length c.args.blank.now = omega (arith, c.min-size.ensures) in
    let piece : PutsFront b d c.loop-left.kept.items (replicate {A = ℕ} size 0) =
    subst (PutsFront b d c.loop-left.kept.items) (blank_front c.args.blank.now size c.requires.blank small) c.in_err-put_run.ensures.front in
    let more : PutsFront a d c.args.kept.now.items (replicate {A = ℕ} (total - (left - size)) 0) =
    subst (PutsFront a d c.args.kept.now.items) (zeros_more total left size fits within)
    (puts_front a b d c.args.kept.now.items c.loop-left.kept.items _ _ c.loop-left.invariant.puts piece) in
    rw p.1 (subst (PutsFront a d c.args.kept.now.items) (zeros_rest total (left - size) (omega (arith, within)))
    (front_more a d c.args.kept.now.items _ (replicate {A = ℕ} (left - size) 0) more))

use Rattle.std.proofs.Common.{◌≡◌, ℕ, ◌+◌, ◌-◌, List, length, [], ◌∷◌, ◌++◌, take, get_or, sym, subst, arith, inl, refl}
use Rattle.std.proofs.lemmas.List.{take_more}
use Rattle.gate_mark.specs.Sets.{SetInTurn}
use Rattle.gate_mark.proofs.InTurn.{went, in_turn_none, in_turn_more, set_counted, sets_charge}
use Rattle.gate_mark.proofs.mark.Mark.set_each.Goals as goal

pub loop-body-init : goal.loop-body-init
loop-body-init g c = (
  record { low = omega arith; high = omega arith; each = omega arith; only = inl refl },
  c.requires.kept,
  ([], in_turn_none (g.D.Disk.state c.args.disk.now) c.args.self.now (g.met.D.Disk.now_at c.args.disk.now) c.requires.kept),
)

pub loop-body-preserved : goal.loop-body-preserved
loop-body-preserved g c =
    let so_far = c.loop-body.invariant in
    let body = get_or c.args.bodies.now c.loop-body.body-index [] in
    let more : take (c.loop-body.body-index + 1) c.args.bodies.now ≡ take c.loop-body.body-index c.args.bodies.now ++ body ∷ [] =
    take_more c.args.bodies.now c.loop-body.body-index [] c.loop-body-test.true in
    let in_turn = in_turn_more c.set.result c.args.self.now.file (g.D.Disk.state c.args.disk.now) (g.D.Disk.state c.loop-body.disk) (g.D.Disk.state c.set.new.disk)
    c.args.self.now c.loop-body.self c.set.new.self (take c.loop-body.body-index c.args.bodies.now) body so_far.2.0
    so_far.2.1 c.set.ensures.ok c.set.ensures.err c.set.ensures.ok_bodies c.set.ensures.err_bodies c.set.ensures.any_moment in (
      set_counted c.set.result g.D.Disk.faults c.loop-body.disk c.set.new.disk c.loop-body.self c.set.new.self body c.args.self.now.sequence (g.D.Disk.faults c.args.disk.now) c.loop-body.body-index so_far.0
          c.set.ensures.ok c.set.ensures.err c.set.ensures.cause,
      c.set.ensures.kept,
      (
        (body, went c.set.result) ∷ so_far.2.0,
        subst (λ (bodies : List (List ℕ)). SetInTurn c.args.self.now.file (g.D.Disk.state c.args.disk.now) (g.D.Disk.state c.set.new.disk) c.args.self.now c.set.new.self bodies ((body, went c.set.result) ∷ so_far.2.0))
            (sym more) in_turn,
      ),
    )

pub returns-clause-each : goal.returns-clause-each
returns-clause-each g c =
    let counted = c.loop-body.invariant.0 in
    omega (arith, counted.each, counted.high, c.sequence.ensures, c.sequence-before.ensures, c.loop-body-test.false)

pub returns-clause-cause : goal.returns-clause-cause
returns-clause-cause g c =
    let counted = c.loop-body.invariant.0 in
    let all : c.loop-body.body-index ≡ length c.args.bodies.now = omega (arith, c.loop-body-test.false, c.loop-body.auto.body-index-end) in
    sets_charge g.D.Disk.faults c.args.disk.now c.loop-body.disk c.args.self.now.sequence c.loop-body.body-index c.loop-body.self.sequence
    (c.sequence-before.result + length c.args.bodies.now - c.sequence.result) counted
    (omega (arith, counted.high, all, c.sequence.ensures, c.sequence-before.ensures))

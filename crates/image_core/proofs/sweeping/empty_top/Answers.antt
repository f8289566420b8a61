use Rattle.std.proofs.Common.{◌+◌, ◌*◌, inl, inr, refl}
use Rattle.image_core.proofs.Sweeps.{top-run, top-then, emptied-three}
use Rattle.image_core.proofs.sweeping.empty_top.Goals as goal

pub returns-in_err-empty-clause-run : goal.returns-in_err-empty-clause-run
returns-in_err-empty-clause-run g c =
    top-run c.args.epoch (4 * c.args.epoch + 1) (4 * c.args.epoch + 1) (g.D.Disk.state c.args.disk.now) (g.D.Disk.state c.empty.new.disk) refl (inl refl) c.empty.ensures.run

pub returns-in_err-empty-2-clause-run : goal.returns-in_err-empty-2-clause-run
returns-in_err-empty-2-clause-run g c =
    top-then c.args.epoch (4 * c.args.epoch + 2) (4 * c.args.epoch + 2) (g.D.Disk.state c.args.disk.now) (g.D.Disk.state c.empty.new.disk) (g.D.Disk.state c.empty-2.new.disk) refl (inr (inl refl))
    (top-run c.args.epoch (4 * c.args.epoch + 1) (4 * c.args.epoch + 1) (g.D.Disk.state c.args.disk.now) (g.D.Disk.state c.empty.new.disk) refl (inl refl) c.empty.ensures.run) c.empty-2.ensures.run

pub returns-in_err-empty-3-clause-run : goal.returns-in_err-empty-3-clause-run
returns-in_err-empty-3-clause-run g c =
    top-then c.args.epoch (4 * c.args.epoch + 3) (4 * c.args.epoch + 3) (g.D.Disk.state c.args.disk.now) (g.D.Disk.state c.empty-2.new.disk) (g.D.Disk.state c.empty-3.new.disk) refl (inr (inr refl))
    (top-then c.args.epoch (4 * c.args.epoch + 2) (4 * c.args.epoch + 2) (g.D.Disk.state c.args.disk.now) (g.D.Disk.state c.empty.new.disk) (g.D.Disk.state c.empty-2.new.disk) refl (inr (inl refl))
    (top-run c.args.epoch (4 * c.args.epoch + 1) (4 * c.args.epoch + 1) (g.D.Disk.state c.args.disk.now) (g.D.Disk.state c.empty.new.disk) refl (inl refl) c.empty.ensures.run) c.empty-2.ensures.run)
    c.empty-3.ensures.run

pub returns-clause-run : goal.returns-clause-run
returns-clause-run g c =
    top-then c.args.epoch (4 * c.args.epoch + 3) (4 * c.args.epoch + 3) (g.D.Disk.state c.args.disk.now) (g.D.Disk.state c.empty-2.new.disk) (g.D.Disk.state c.empty-3.new.disk) refl (inr (inr refl))
    (top-then c.args.epoch (4 * c.args.epoch + 2) (4 * c.args.epoch + 2) (g.D.Disk.state c.args.disk.now) (g.D.Disk.state c.empty.new.disk) (g.D.Disk.state c.empty-2.new.disk) refl (inr (inl refl))
    (top-run c.args.epoch (4 * c.args.epoch + 1) (4 * c.args.epoch + 1) (g.D.Disk.state c.args.disk.now) (g.D.Disk.state c.empty.new.disk) refl (inl refl) c.empty.ensures.run) c.empty-2.ensures.run)
    c.empty-3.ensures.run

pub returns-clause-emptied : goal.returns-clause-emptied
returns-clause-emptied g c told =
    emptied-three c.args.epoch (4 * c.args.epoch + 1) (4 * c.args.epoch + 2) (4 * c.args.epoch + 3) (g.D.Disk.state c.empty.new.disk) (g.D.Disk.state c.empty-2.new.disk) (g.D.Disk.state c.empty-3.new.disk)
    refl refl refl (c.in_ok-empty.ensures.emptied told) c.empty-2.ensures.run (c.in_ok-empty-2.ensures.emptied told) c.empty-3.ensures.run (c.in_ok-empty-3.ensures.emptied told)

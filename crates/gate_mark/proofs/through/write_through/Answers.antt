use Rattle.std.proofs.Common.{◌≡◌, ℕ, List, length, refl}
use Rattle.block_disk.specs.Changes.{put, Torn}
use Rattle.block_disk.specs.ChangeLaws.{torn_same}
use Rattle.block_disk.specs.DiskState.{DiskState, Files, Leaves, Steps}
use Rattle.block_disk.proofs.Moments.{run_started, run_on, Held, held_same, settled}
use Rattle.gate_mark.specs.Through.{IsTorn, IsPut}
use Rattle.gate_mark.proofs.through.write_through.Goals as goal

-- the write alone
written : (file at n : ℕ) (old new : DiskState) → ((files : Files) → old.left_at old.moment files → Leaves old files)
    → Steps file (Torn at n) old new → Held file old new (IsTorn old file at n)
written file at n old new now_at steps = record {
  run = run_on (λ f. f ≡ file) old old new (λ (files : Files). IsTorn old file at n (files file)) file (Torn at n)
      (run_started (λ f. f ≡ file) old (λ (files : Files). IsTorn old file at n (files file)) now_at (λ files leaves. (files file, leaves file, torn_same at n (files file))))
      refl steps (λ files leaves. steps.left (files file) (leaves file));
  now = steps.left;
}

pub returns-in_err-write_at-clause-run : goal.returns-in_err-write_at-clause-run
returns-in_err-write_at-clause-run g c =
    (written c.args.file c.args.at (length c.args.bytes.now) (g.D.Disk.state c.args.disk.now) (g.D.Disk.state c.write_at.new.self) (g.met.D.Disk.now_at c.args.disk.now) c.write_at.ensures.steps).run

pub returns-in_err-sync-clause-run : goal.returns-in_err-sync-clause-run
returns-in_err-sync-clause-run g c =
    let first = written c.args.file c.args.at (length c.args.bytes.now) (g.D.Disk.state c.args.disk.now) (g.D.Disk.state c.write_at.new.self) (g.met.D.Disk.now_at c.args.disk.now) c.write_at.ensures.steps in
    (held_same c.args.file (g.D.Disk.state c.args.disk.now) (g.D.Disk.state c.write_at.new.self) (g.D.Disk.state c.sync.new.self) (IsTorn (g.D.Disk.state c.args.disk.now) c.args.file c.args.at (length c.args.bytes.now)) first c.sync.ensures.steps).run

pub returns-clause-run : goal.returns-clause-run
returns-clause-run g c =
    let first = written c.args.file c.args.at (length c.args.bytes.now) (g.D.Disk.state c.args.disk.now) (g.D.Disk.state c.write_at.new.self) (g.met.D.Disk.now_at c.args.disk.now) c.write_at.ensures.steps in
    (held_same c.args.file (g.D.Disk.state c.args.disk.now) (g.D.Disk.state c.write_at.new.self) (g.D.Disk.state c.sync.new.self) (IsTorn (g.D.Disk.state c.args.disk.now) c.args.file c.args.at (length c.args.bytes.now)) first c.sync.ensures.steps).run

pub returns-clause-done : goal.returns-clause-done
returns-clause-done g c =
    settled g.D.Disk.tells c.args.file (λ (f : List ℕ). put f c.args.at c.args.bytes.now) ((g.D.Disk.state c.args.disk.now).may_leave c.args.file)
    (IsPut (g.D.Disk.state c.args.disk.now) c.args.file c.args.at c.args.bytes.now)
    (g.D.Disk.state c.args.disk.now) (g.D.Disk.state c.write_at.new.self) (g.D.Disk.state c.sync.new.self)
    (g.met.D.Disk.told c.sync.new.self c.args.file) (g.met.D.Disk.seen_may_stay c.args.disk.now c.args.file)
    (λ d left. left) c.in_ok-write_at.ensures.written c.sync.ensures.steps c.in_ok-sync.ensures.durable (λ d left. (d, left, refl))

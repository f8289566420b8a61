use Rattle.std.proofs.Common.{ℕ, refl}
use Rattle.tool_setup.specs.declared.command.Command.TheVariants.{Commit, Create, Grow, Read, Sweep, Zero}
use Rattle.layer_commands.specs.Ports.{Ports, ports_of}
use Rattle.layer_commands.proofs.Charged.{charges_at, stays}
use Rattle.image_commands.proofs.Answered.{unfed}
use Rattle.image_commands.specs.Images.{DiskPort, disk_port}
use Rattle.layer_commands.specs.declared.refusal.Refusal.TheVariants as refused
use Rattle.image_commands.specs.declared.refusal.ImageRefusal.{ImageRefusal}
use Rattle.image_commands.specs.declared.refusal.ImageRefusal.TheVariants.{Other}
use Rattle.tool_run.specs.Runs.{MakeRefused}
use Rattle.tool_run.proofs.Tools.{not-told}
use Rattle.tool_run.proofs.tool.run_command.Goals as goal

pub returns-in-Create-clause-refused : goal.returns-in-Create-clause-refused
returns-in-Create-clause-refused g c =
    rw c.in-Create.is (c.create_image.ensures.refused (g.A.Source.left c.args.source.now) (g.A.Source.left c.args.source.now) (g.A.Source.faults c.args.source.now) (g.A.Source.faults c.args.source.now))

pub returns-in-Create-clause-charged : goal.returns-in-Create-clause-charged
returns-in-Create-clause-charged g c =
    let before : Ports = ports_of g.A.Source g.B.Sink g.S.Shelf c.args.source.now c.args.out.now c.args.shelf.now in
    let now : Ports = ports_of g.A.Source g.B.Sink g.S.Shelf c.args.source.now c.create_image.new.out c.create_image.new.shelf in
    let disk : DiskPort = disk_port g.D.Disk c.args.disk in
    let disk_now : DiskPort = disk_port g.D.Disk c.create_image.result.1 in
    let left = g.A.Source.left c.args.source.now in
    let count = g.A.Source.faults c.args.source.now in
    record {
      ports = record {
        source = stays (λ (p : Ports). p.source_faults) before now _ refl
            (unfed (Create c.in-Create.asked) before now disk disk_now c.create_image.result.0 refl (c.create_image.ensures.refused left left count count));
        sink = charges_at g.B.Sink.faults c.args.out.now c.create_image.new.out (λ (p : Ports). p.sink_faults) before now _ refl refl c.create_image.ensures.sink_cause;
        shelf = charges_at g.S.Shelf.faults c.args.shelf.now c.create_image.new.shelf (λ (p : Ports). p.shelf_faults) before now _ refl refl c.create_image.ensures.shelf_cause;
      };
      disk_cause = charges_at g.D.Disk.faults c.args.disk c.create_image.result.1 (λ (n : ℕ). n) (g.D.Disk.faults c.args.disk) (g.D.Disk.faults c.create_image.result.1) _ refl refl c.create_image.ensures.disk_cause;
    }

pub returns-in-Read-clause-refused : goal.returns-in-Read-clause-refused
returns-in-Read-clause-refused g c =
    rw c.in-Read.is (c.read_image.ensures.refused (g.A.Source.left c.args.source.now) (g.A.Source.left c.args.source.now) (g.A.Source.faults c.args.source.now) (g.A.Source.faults c.args.source.now))

pub returns-in-Read-clause-charged : goal.returns-in-Read-clause-charged
returns-in-Read-clause-charged g c =
    let before : Ports = ports_of g.A.Source g.B.Sink g.S.Shelf c.args.source.now c.args.out.now c.args.shelf.now in
    let now : Ports = ports_of g.A.Source g.B.Sink g.S.Shelf c.args.source.now c.read_image.new.out c.read_image.new.shelf in
    let disk : DiskPort = disk_port g.D.Disk c.args.disk in
    let disk_now : DiskPort = disk_port g.D.Disk c.read_image.result.1 in
    let left = g.A.Source.left c.args.source.now in
    let count = g.A.Source.faults c.args.source.now in
    record {
      ports = record {
        source = stays (λ (p : Ports). p.source_faults) before now _ refl
            (unfed (Read c.in-Read.at c.in-Read.count) before now disk disk_now c.read_image.result.0 refl (c.read_image.ensures.refused left left count count));
        sink = charges_at g.B.Sink.faults c.args.out.now c.read_image.new.out (λ (p : Ports). p.sink_faults) before now _ refl refl c.read_image.ensures.sink_cause;
        shelf = charges_at g.S.Shelf.faults c.args.shelf.now c.read_image.new.shelf (λ (p : Ports). p.shelf_faults) before now _ refl refl c.read_image.ensures.shelf_cause;
      };
      disk_cause = charges_at g.D.Disk.faults c.args.disk c.read_image.result.1 (λ (n : ℕ). n) (g.D.Disk.faults c.args.disk) (g.D.Disk.faults c.read_image.result.1) _ refl refl c.read_image.ensures.disk_cause;
    }

pub returns-in-Zero-clause-refused : goal.returns-in-Zero-clause-refused
returns-in-Zero-clause-refused g c =
    rw c.in-Zero.is (c.zero_image.ensures.refused (g.A.Source.left c.args.source.now) (g.A.Source.left c.args.source.now) (g.A.Source.faults c.args.source.now) (g.A.Source.faults c.args.source.now))

pub returns-in-Zero-clause-charged : goal.returns-in-Zero-clause-charged
returns-in-Zero-clause-charged g c =
    let before : Ports = ports_of g.A.Source g.B.Sink g.S.Shelf c.args.source.now c.args.out.now c.args.shelf.now in
    let now : Ports = ports_of g.A.Source g.B.Sink g.S.Shelf c.args.source.now c.zero_image.new.out c.zero_image.new.shelf in
    let disk : DiskPort = disk_port g.D.Disk c.args.disk in
    let disk_now : DiskPort = disk_port g.D.Disk c.zero_image.result.1 in
    let left = g.A.Source.left c.args.source.now in
    let count = g.A.Source.faults c.args.source.now in
    record {
      ports = record {
        source = stays (λ (p : Ports). p.source_faults) before now _ refl
            (unfed (Zero c.in-Zero.at c.in-Zero.count) before now disk disk_now c.zero_image.result.0 refl (c.zero_image.ensures.refused left left count count));
        sink = charges_at g.B.Sink.faults c.args.out.now c.zero_image.new.out (λ (p : Ports). p.sink_faults) before now _ refl refl c.zero_image.ensures.sink_cause;
        shelf = charges_at g.S.Shelf.faults c.args.shelf.now c.zero_image.new.shelf (λ (p : Ports). p.shelf_faults) before now _ refl refl c.zero_image.ensures.shelf_cause;
      };
      disk_cause = charges_at g.D.Disk.faults c.args.disk c.zero_image.result.1 (λ (n : ℕ). n) (g.D.Disk.faults c.args.disk) (g.D.Disk.faults c.zero_image.result.1) _ refl refl c.zero_image.ensures.disk_cause;
    }

pub returns-in-Grow-clause-refused : goal.returns-in-Grow-clause-refused
returns-in-Grow-clause-refused g c =
    rw c.in-Grow.is (c.grow_image.ensures.refused (g.A.Source.left c.args.source.now) (g.A.Source.left c.args.source.now) (g.A.Source.faults c.args.source.now) (g.A.Source.faults c.args.source.now))

pub returns-in-Grow-clause-charged : goal.returns-in-Grow-clause-charged
returns-in-Grow-clause-charged g c =
    let before : Ports = ports_of g.A.Source g.B.Sink g.S.Shelf c.args.source.now c.args.out.now c.args.shelf.now in
    let now : Ports = ports_of g.A.Source g.B.Sink g.S.Shelf c.args.source.now c.grow_image.new.out c.grow_image.new.shelf in
    let disk : DiskPort = disk_port g.D.Disk c.args.disk in
    let disk_now : DiskPort = disk_port g.D.Disk c.grow_image.result.1 in
    let left = g.A.Source.left c.args.source.now in
    let count = g.A.Source.faults c.args.source.now in
    record {
      ports = record {
        source = stays (λ (p : Ports). p.source_faults) before now _ refl
            (unfed (Grow c.in-Grow.sectors) before now disk disk_now c.grow_image.result.0 refl (c.grow_image.ensures.refused left left count count));
        sink = charges_at g.B.Sink.faults c.args.out.now c.grow_image.new.out (λ (p : Ports). p.sink_faults) before now _ refl refl c.grow_image.ensures.sink_cause;
        shelf = charges_at g.S.Shelf.faults c.args.shelf.now c.grow_image.new.shelf (λ (p : Ports). p.shelf_faults) before now _ refl refl c.grow_image.ensures.shelf_cause;
      };
      disk_cause = charges_at g.D.Disk.faults c.args.disk c.grow_image.result.1 (λ (n : ℕ). n) (g.D.Disk.faults c.args.disk) (g.D.Disk.faults c.grow_image.result.1) _ refl refl c.grow_image.ensures.disk_cause;
    }

pub returns-in-Commit-clause-refused : goal.returns-in-Commit-clause-refused
returns-in-Commit-clause-refused g c =
    rw c.in-Commit.is (c.commit_image.ensures.refused (g.A.Source.left c.args.source.now) (g.A.Source.left c.args.source.now) (g.A.Source.faults c.args.source.now) (g.A.Source.faults c.args.source.now))

pub returns-in-Commit-clause-charged : goal.returns-in-Commit-clause-charged
returns-in-Commit-clause-charged g c =
    let before : Ports = ports_of g.A.Source g.B.Sink g.S.Shelf c.args.source.now c.args.out.now c.args.shelf.now in
    let now : Ports = ports_of g.A.Source g.B.Sink g.S.Shelf c.args.source.now c.commit_image.new.out c.commit_image.new.shelf in
    let disk : DiskPort = disk_port g.D.Disk c.args.disk in
    let disk_now : DiskPort = disk_port g.D.Disk c.commit_image.result.1 in
    let left = g.A.Source.left c.args.source.now in
    let count = g.A.Source.faults c.args.source.now in
    record {
      ports = record {
        source = stays (λ (p : Ports). p.source_faults) before now _ refl
            (unfed (Commit c.in-Commit.uuid) before now disk disk_now c.commit_image.result.0 refl (c.commit_image.ensures.refused left left count count));
        sink = charges_at g.B.Sink.faults c.args.out.now c.commit_image.new.out (λ (p : Ports). p.sink_faults) before now _ refl refl c.commit_image.ensures.sink_cause;
        shelf = charges_at g.S.Shelf.faults c.args.shelf.now c.commit_image.new.shelf (λ (p : Ports). p.shelf_faults) before now _ refl refl c.commit_image.ensures.shelf_cause;
      };
      disk_cause = charges_at g.D.Disk.faults c.args.disk c.commit_image.result.1 (λ (n : ℕ). n) (g.D.Disk.faults c.args.disk) (g.D.Disk.faults c.commit_image.result.1) _ refl refl c.commit_image.ensures.disk_cause;
    }

pub returns-in-Sweep-clause-refused : goal.returns-in-Sweep-clause-refused
returns-in-Sweep-clause-refused g c =
    rw c.in-Sweep.is (c.sweep_image.ensures.refused (g.A.Source.left c.args.source.now) (g.A.Source.left c.args.source.now) (g.A.Source.faults c.args.source.now) (g.A.Source.faults c.args.source.now))

pub returns-in-Sweep-clause-charged : goal.returns-in-Sweep-clause-charged
returns-in-Sweep-clause-charged g c =
    let before : Ports = ports_of g.A.Source g.B.Sink g.S.Shelf c.args.source.now c.args.out.now c.args.shelf.now in
    let now : Ports = ports_of g.A.Source g.B.Sink g.S.Shelf c.args.source.now c.sweep_image.new.out c.sweep_image.new.shelf in
    let disk : DiskPort = disk_port g.D.Disk c.args.disk in
    let disk_now : DiskPort = disk_port g.D.Disk c.sweep_image.result.1 in
    let left = g.A.Source.left c.args.source.now in
    let count = g.A.Source.faults c.args.source.now in
    record {
      ports = record {
        source = stays (λ (p : Ports). p.source_faults) before now _ refl
            (unfed Sweep before now disk disk_now c.sweep_image.result.0 refl (c.sweep_image.ensures.refused left left count count));
        sink = charges_at g.B.Sink.faults c.args.out.now c.sweep_image.new.out (λ (p : Ports). p.sink_faults) before now _ refl refl c.sweep_image.ensures.sink_cause;
        shelf = charges_at g.S.Shelf.faults c.args.shelf.now c.sweep_image.new.shelf (λ (p : Ports). p.shelf_faults) before now _ refl refl c.sweep_image.ensures.shelf_cause;
      };
      disk_cause = charges_at g.D.Disk.faults c.args.disk c.sweep_image.result.1 (λ (n : ℕ). n) (g.D.Disk.faults c.args.disk) (g.D.Disk.faults c.sweep_image.result.1) _ refl refl c.sweep_image.ensures.disk_cause;
    }

pub returns-in-Make-clause-done : goal.returns-in-Make-clause-done
returns-in-Make-clause-done g c = rw c.in-Make.is c.make_image.ensures.done

pub returns-in-Make-clause-refused : goal.returns-in-Make-clause-refused
returns-in-Make-clause-refused g c = rw c.in-Make.is c.make_image.ensures.refused

pub returns-in-Make-clause-charged : goal.returns-in-Make-clause-charged
returns-in-Make-clause-charged g c =
    let before : Ports = ports_of g.A.Source g.B.Sink g.S.Shelf c.args.source.now c.args.out.now c.args.shelf.now in
    let now : Ports = ports_of g.A.Source g.B.Sink g.S.Shelf c.args.source.now c.make_image.new.out c.args.shelf.now in
    let disk : DiskPort = disk_port g.D.Disk c.args.disk in
    let disk_now : DiskPort = disk_port g.D.Disk c.make_image.result.1 in
    let cause : ImageRefusal → Type 0 =
    λ refusal. MakeRefused c.in-Make.seed c.in-Make.acts before.sink_faults now.sink_faults before.written now.written disk disk_now refusal in
    record {
      ports = record {
        source = stays (λ (p : Ports). p.source_faults) before now _ refl (not-told c.make_image.result.0 cause (Other refused.SourceFault) c.make_image.ensures.refused (λ none. none));
        sink = charges_at g.B.Sink.faults c.args.out.now c.make_image.new.out (λ (p : Ports). p.sink_faults) before now _ refl refl c.make_image.ensures.sink_cause;
        shelf = stays (λ (p : Ports). p.shelf_faults) before now _ refl (not-told c.make_image.result.0 cause (Other refused.ShelfFault) c.make_image.ensures.refused (λ none. none));
      };
      disk_cause = charges_at g.D.Disk.faults c.args.disk c.make_image.result.1 (λ (n : ℕ). n) (g.D.Disk.faults c.args.disk) (g.D.Disk.faults c.make_image.result.1) _ refl refl c.make_image.ensures.disk_cause;
    }

use Rattle.std.proofs.Common.{◌≡◌, ℕ, ◌+◌, ◌≤◌, ◌<◌, List, [], refl, ◌∙◌, subst, arith}
use Rattle.std.specs.Prelude.{Option, OnOk, OnErr}
use Rattle.std.proofs.KnownBytes.{Keeps-refl}
use Rattle.tool_setup.specs.declared.command.Command.TheVariants.{Read}
use Rattle.layer_commands.specs.Ports.{Ports}
use Rattle.image_core.specs.Seen.{Seen}
use Rattle.image_commands.specs.Images.{DiskPort, Opens}
use Rattle.image_commands.specs.ImageSteps.{WritesSectors, WritesFront}
use Rattle.image_commands.proofs.ImageAdds.{adds-nothing}
use Rattle.image_commands.proofs.OpenLaws.{open-failed}
use Rattle.image_commands.proofs.ImageLaws.{lowers-count, size-is, not-within, leaves-acts}
use Rattle.image_commands.proofs.ReadLaws.{read-done, read-failed}
use Rattle.image_commands.specs.ImageSteps.{port_of}
use Rattle.image_commands.specs.ImageCauses.{CommandCause}
use Rattle.image_commands.proofs.Answered.{ok-told, err-told}
use Rattle.image_commands.proofs.images.read_image.Goals as goal

pub copy_sectors-result-requires-clause-count : goal.copy_sectors-result-requires-clause-count
copy_sectors-result-requires-clause-count g c =
    let image : Seen = record { tells = g.D.Disk.tells; state = g.D.Disk.state c.in-Ok.image.disk; faults = g.D.Disk.faults c.in-Ok.image.disk; parts = c.in-Ok.image.parts } in
    let opened = c.in-Ok.ensures.opened in
    c.in-Ok.ensures.same.count ∙ lowers-count image opened.0 opened.1.3 (g.S.Shelf.files c.args.shelf.now) (g.S.Shelf.count c.args.shelf.now) opened.1.0

pub returns-clause-done : goal.returns-clause-done
returns-clause-done g c =
    let image : Seen = record { tells = g.D.Disk.tells; state = g.D.Disk.state c.in-Ok.image.disk; faults = g.D.Disk.faults c.in-Ok.image.disk; parts = c.in-Ok.image.parts } in
    let new : Seen = record { tells = g.D.Disk.tells; state = g.D.Disk.state c.copy_sectors-result.new.image.disk; faults = g.D.Disk.faults c.copy_sectors-result.new.image.disk; parts = c.copy_sectors-result.new.image.parts } in
    let disk : DiskPort = record { tells = g.D.Disk.tells; state = g.D.Disk.state c.args.disk; faults = g.D.Disk.faults c.args.disk } in
    let opened = c.in-Ok.ensures.opened in
    let told = g.S.Shelf.files c.args.shelf.now in
    let told' = g.S.Shelf.files c.open_image.new.shelf in
    let same : told' ≡ told = c.in-Ok.ensures.same.files in
    let inside : c.args.at + c.args.count ≤ opened.0.sectors = (let in_size = c.is_within.ensures.0 c.if-not-is_within.false in let size = size-is image opened.0 opened.1.3 in let is = c.sectors.ensures in omega (arith, in_size, size, is)) in
    λ left left_now source source_now.
    let before : Ports = record { left = left; source_faults = source; written = g.B.Sink.written c.args.out.now; sink_faults = g.B.Sink.faults c.args.out.now; files = told; count = g.S.Shelf.count c.args.shelf.now; shelf_faults = g.S.Shelf.faults c.args.shelf.now } in
    let now : Ports = record { left = left_now; source_faults = source_now; written = g.B.Sink.written c.copy_sectors-result.new.out; sink_faults = g.B.Sink.faults c.copy_sectors-result.new.out; files = g.S.Shelf.files c.copy_sectors-result.new.shelf; count = g.S.Shelf.count c.copy_sectors-result.new.shelf; shelf_faults = g.S.Shelf.faults c.copy_sectors-result.new.shelf } in
    let opens : Opens (Read c.args.at c.args.count) before disk [] opened.0 = record { takes = refl; over = opened.1.0; starts = opened.1.1 } in
    rw (c.as_command.ensures, c.into_disk-2.ensures) (ok-told c.copy_sectors-result.result _ (read-done c.args.at c.args.count before now disk image new opened.0 (λ t. t) opens inside opened.1.3 c.copy_sectors-result.result
    (λ tells f. g.met.D.Disk.seen_may_stay c.copy_sectors-result.new.image.disk f tells) c.copy_sectors-result.ensures.adds
    (subst (λ (o : Option (List (List ℕ))). OnOk c.copy_sectors-result.result (WritesSectors image o c.args.at c.args.count before.written now.written)) same c.copy_sectors-result.ensures.done)))

pub returns-clause-refused : goal.returns-clause-refused
returns-clause-refused g c =
    let image : Seen = record { tells = g.D.Disk.tells; state = g.D.Disk.state c.in-Ok.image.disk; faults = g.D.Disk.faults c.in-Ok.image.disk; parts = c.in-Ok.image.parts } in
    let new : Seen = record { tells = g.D.Disk.tells; state = g.D.Disk.state c.copy_sectors-result.new.image.disk; faults = g.D.Disk.faults c.copy_sectors-result.new.image.disk; parts = c.copy_sectors-result.new.image.parts } in
    let disk : DiskPort = record { tells = g.D.Disk.tells; state = g.D.Disk.state c.args.disk; faults = g.D.Disk.faults c.args.disk } in
    let opened = c.in-Ok.ensures.opened in
    let told = g.S.Shelf.files c.args.shelf.now in
    let told' = g.S.Shelf.files c.open_image.new.shelf in
    let same : told' ≡ told = c.in-Ok.ensures.same.files in
    let inside : c.args.at + c.args.count ≤ opened.0.sectors = (let in_size = c.is_within.ensures.0 c.if-not-is_within.false in let size = size-is image opened.0 opened.1.3 in let is = c.sectors.ensures in omega (arith, in_size, size, is)) in
    λ left left_now source source_now.
    let before : Ports = record { left = left; source_faults = source; written = g.B.Sink.written c.args.out.now; sink_faults = g.B.Sink.faults c.args.out.now; files = told; count = g.S.Shelf.count c.args.shelf.now; shelf_faults = g.S.Shelf.faults c.args.shelf.now } in
    let now : Ports = record { left = left_now; source_faults = source_now; written = g.B.Sink.written c.copy_sectors-result.new.out; sink_faults = g.B.Sink.faults c.copy_sectors-result.new.out; files = g.S.Shelf.files c.copy_sectors-result.new.shelf; count = g.S.Shelf.count c.copy_sectors-result.new.shelf; shelf_faults = g.S.Shelf.faults c.copy_sectors-result.new.shelf } in
    let opens : Opens (Read c.args.at c.args.count) before disk [] opened.0 = record { takes = refl; over = opened.1.0; starts = opened.1.1 } in
    rw (c.as_command.ensures, c.into_disk-2.ensures) (err-told c.copy_sectors-result.result (CommandCause (Read c.args.at c.args.count) before now disk (port_of new)) (read-failed c.args.at c.args.count before now disk image new opened.0 (λ t. t) opens inside opened.1.3 c.copy_sectors-result.result
    (g.S.Shelf.faults c.open_image.new.shelf) (g.B.Sink.faults c.args.out.now) (let e = c.in-Ok.ensures.cause in omega (arith, e)) (let e = c.in-Ok.ensures.shelf_cause in omega (arith, e)) (omega arith)
    (subst (λ (o : Option (List (List ℕ))). OnErr c.copy_sectors-result.result (WritesFront image o c.args.at c.args.count before.written now.written)) same c.copy_sectors-result.ensures.front)
    c.copy_sectors-result.ensures.refused))

pub returns-then-not-is_within-clause-refused : goal.returns-then-not-is_within-clause-refused
returns-then-not-is_within-clause-refused g c =
    let old : Seen = record { tells = g.D.Disk.tells; state = g.D.Disk.state c.in-Ok.image.disk; faults = g.D.Disk.faults c.in-Ok.image.disk; parts = c.in-Ok.image.parts } in
    let opened = c.in-Ok.ensures.opened in
    let size = size-is old opened.0 opened.1.3 in
    let is = c.sectors.ensures in
    let past : c.sectors.result < c.args.at + c.args.count = not-within c.is_within.result (c.args.at + c.args.count) c.sectors.result c.if-not-is_within.true c.is_within.ensures.1 in
    λ left left_now source source_now.
    rw c.into_disk.ensures (
      record {
        bytes = [];
        base = opened.0;
        opens = record { takes = refl; over = opened.1.0; starts = opened.1.1 };
        past = omega (arith, past, size, is);
        crash = leaves-acts old opened.0 opened.1.3 old [] (adds-nothing old);
      },
      record { sink = Keeps-refl (g.B.Sink.written c.args.out.now); same = c.in-Ok.ensures.quiet },
    )

pub returns-in-Err-clause-refused : goal.returns-in-Err-clause-refused
returns-in-Err-clause-refused g c =
    let disk : DiskPort = record { tells = g.D.Disk.tells; state = g.D.Disk.state c.args.disk; faults = g.D.Disk.faults c.args.disk } in
    let disk_now : DiskPort = record { tells = g.D.Disk.tells; state = g.D.Disk.state c.in-Err.disk; faults = g.D.Disk.faults c.in-Err.disk } in
    λ left left_now source source_now.
    let before : Ports = record { left = left; source_faults = source; written = g.B.Sink.written c.args.out.now; sink_faults = g.B.Sink.faults c.args.out.now; files = g.S.Shelf.files c.args.shelf.now; count = g.S.Shelf.count c.args.shelf.now; shelf_faults = g.S.Shelf.faults c.args.shelf.now } in
    let now : Ports = record { left = left_now; source_faults = source_now; written = g.B.Sink.written c.args.out.now; sink_faults = g.B.Sink.faults c.args.out.now; files = g.S.Shelf.files c.open_image.new.shelf; count = g.S.Shelf.count c.open_image.new.shelf; shelf_faults = g.S.Shelf.faults c.open_image.new.shelf } in
    open-failed (Read c.args.at c.args.count) ([]) before now disk disk_now (λ (asked, is). cc) refl tt (record { sink = Keeps-refl before.written; same = c.in-Err.ensures.quiet }) c.in-Err.refusal c.in-Err.ensures.refused

use Rattle.std.proofs.Common.{[], refl, arith}
use Rattle.std.proofs.KnownBytes.{Keeps-refl}
use Rattle.tool_setup.specs.declared.command.Command.TheVariants.{Sweep}
use Rattle.image_core.specs.Seen.{Seen}
use Rattle.layer_commands.specs.Ports.{Ports}
use Rattle.image_commands.specs.Images.{DiskPort, Opens}
use Rattle.image_commands.specs.ImageSteps.{port_of}
use Rattle.image_commands.specs.ImageCauses.{CommandCause}
use Rattle.image_commands.proofs.OpenLaws.{open-failed}
use Rattle.image_commands.proofs.CommitLaws.{sweep-done, sweep-failed}
use Rattle.image_commands.proofs.Answered.{ok-told, err-told}
use Rattle.image_commands.proofs.images.sweep_image.Goals as goal

pub returns-clause-done : goal.returns-clause-done
returns-clause-done g c =
    let old : Seen = record { tells = g.D.Disk.tells; state = g.D.Disk.state c.in-Ok.image.disk; faults = g.D.Disk.faults c.in-Ok.image.disk; parts = c.in-Ok.image.parts } in
    let new : Seen = record { tells = g.D.Disk.tells; state = g.D.Disk.state c.sweep_told-result.new.image.disk; faults = g.D.Disk.faults c.sweep_told-result.new.image.disk; parts = c.sweep_told-result.new.image.parts } in
    let disk : DiskPort = record { tells = g.D.Disk.tells; state = g.D.Disk.state c.args.disk; faults = g.D.Disk.faults c.args.disk } in
    let opened = c.in-Ok.ensures.opened in
    λ left left_now source source_now.
    let before : Ports = record { left = left; source_faults = source; written = g.B.Sink.written c.args.out.now; sink_faults = g.B.Sink.faults c.args.out.now; files = g.S.Shelf.files c.args.shelf.now; count = g.S.Shelf.count c.args.shelf.now; shelf_faults = g.S.Shelf.faults c.args.shelf.now } in
    let now : Ports = record { left = left_now; source_faults = source_now; written = g.B.Sink.written c.sweep_told-result.new.out; sink_faults = g.B.Sink.faults c.sweep_told-result.new.out; files = g.S.Shelf.files c.open_image.new.shelf; count = g.S.Shelf.count c.open_image.new.shelf; shelf_faults = g.S.Shelf.faults c.open_image.new.shelf } in
    let opens : Opens Sweep before disk [] opened.0 = record { takes = refl; over = opened.1.0; starts = opened.1.1 } in
    rw (c.as_command.ensures, c.into_disk.ensures) (ok-told c.sweep_told-result.result _ (sweep-done before now disk old new opened.0 opens opened.1.3 c.sweep_told-result.result
    (λ tells f. g.met.D.Disk.seen_may_stay c.sweep_told-result.new.image.disk f tells) c.sweep_told-result.ensures.adds c.sweep_told-result.ensures.emptied c.sweep_told-result.ensures.told))

pub returns-clause-refused : goal.returns-clause-refused
returns-clause-refused g c =
    let old : Seen = record { tells = g.D.Disk.tells; state = g.D.Disk.state c.in-Ok.image.disk; faults = g.D.Disk.faults c.in-Ok.image.disk; parts = c.in-Ok.image.parts } in
    let new : Seen = record { tells = g.D.Disk.tells; state = g.D.Disk.state c.sweep_told-result.new.image.disk; faults = g.D.Disk.faults c.sweep_told-result.new.image.disk; parts = c.sweep_told-result.new.image.parts } in
    let disk : DiskPort = record { tells = g.D.Disk.tells; state = g.D.Disk.state c.args.disk; faults = g.D.Disk.faults c.args.disk } in
    let opened = c.in-Ok.ensures.opened in
    λ left left_now source source_now.
    let before : Ports = record { left = left; source_faults = source; written = g.B.Sink.written c.args.out.now; sink_faults = g.B.Sink.faults c.args.out.now; files = g.S.Shelf.files c.args.shelf.now; count = g.S.Shelf.count c.args.shelf.now; shelf_faults = g.S.Shelf.faults c.args.shelf.now } in
    let now : Ports = record { left = left_now; source_faults = source_now; written = g.B.Sink.written c.sweep_told-result.new.out; sink_faults = g.B.Sink.faults c.sweep_told-result.new.out; files = g.S.Shelf.files c.open_image.new.shelf; count = g.S.Shelf.count c.open_image.new.shelf; shelf_faults = g.S.Shelf.faults c.open_image.new.shelf } in
    let opens : Opens Sweep before disk [] opened.0 = record { takes = refl; over = opened.1.0; starts = opened.1.1 } in
    rw (c.as_command.ensures, c.into_disk.ensures) (err-told c.sweep_told-result.result (CommandCause Sweep before now disk (port_of new)) (sweep-failed before now disk old new opened.0 opens opened.1.3 c.sweep_told-result.result
    before.sink_faults (let e = c.in-Ok.ensures.cause in omega (arith, e)) (omega arith) c.sweep_told-result.ensures.refused))

pub returns-in-Err-clause-refused : goal.returns-in-Err-clause-refused
returns-in-Err-clause-refused g c =
    let disk : DiskPort = record { tells = g.D.Disk.tells; state = g.D.Disk.state c.args.disk; faults = g.D.Disk.faults c.args.disk } in
    let disk_now : DiskPort = record { tells = g.D.Disk.tells; state = g.D.Disk.state c.in-Err.disk; faults = g.D.Disk.faults c.in-Err.disk } in
    λ left left_now source source_now.
    let before : Ports = record { left = left; source_faults = source; written = g.B.Sink.written c.args.out.now; sink_faults = g.B.Sink.faults c.args.out.now; files = g.S.Shelf.files c.args.shelf.now; count = g.S.Shelf.count c.args.shelf.now; shelf_faults = g.S.Shelf.faults c.args.shelf.now } in
    let now : Ports = record { left = left_now; source_faults = source_now; written = g.B.Sink.written c.args.out.now; sink_faults = g.B.Sink.faults c.args.out.now; files = g.S.Shelf.files c.open_image.new.shelf; count = g.S.Shelf.count c.open_image.new.shelf; shelf_faults = g.S.Shelf.faults c.open_image.new.shelf } in
    open-failed Sweep ([]) before now disk disk_now (λ (asked, is). cc) refl tt (record { sink = Keeps-refl before.written; same = c.in-Err.ensures.quiet }) c.in-Err.refusal c.in-Err.ensures.refused

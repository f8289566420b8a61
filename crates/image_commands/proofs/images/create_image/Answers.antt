use Rattle.std.proofs.Common.{◌≡◌, ℕ, List, [], refl, ◌∙◌, subst}
use Rattle.std.specs.Prelude.{OnOk, OnErr}
use Rattle.std.specs.Io.KnownBytes.{Appends}
use Rattle.byte_ports.specs.Ports.{AppendsFront}
use Rattle.image_core.specs.Parts.{parts_view}
use Rattle.tool_setup.specs.declared.command.Command.TheVariants.{Create}
use Rattle.image_core.specs.Seen.{Seen}
use Rattle.image_commands.specs.ImageReports.{created_line}
use Rattle.layer_commands.specs.Ports.{Ports}
use Rattle.image_commands.specs.Images.{DiskPort, Opens}
use Rattle.image_commands.proofs.ImageLaws.{size-is}
use Rattle.image_commands.proofs.MakeLaws.{create-done, create-failed, make-failed}
use Rattle.image_commands.specs.ImageSteps.{port_of}
use Rattle.image_commands.specs.ImageCauses.{CommandCause}
use Rattle.image_commands.proofs.Answered.{ok-told, err-told, told-charges, told-none}
use Rattle.layer_commands.proofs.Charged.{stays}
use Rattle.layer_commands.specs.declared.refusal.Refusal.TheVariants as refused
use Rattle.image_commands.proofs.images.create_image.Goals as goal

pub returns-in-Ok-clause-done : goal.returns-in-Ok-clause-done
returns-in-Ok-clause-done g c =
    let new : Seen = record { tells = g.D.Disk.tells; state = g.D.Disk.state c.in-Ok.image.disk; faults = g.D.Disk.faults c.in-Ok.image.disk; parts = c.in-Ok.image.parts } in
    let disk : DiskPort = record { tells = g.D.Disk.tells; state = g.D.Disk.state c.args.disk; faults = g.D.Disk.faults c.args.disk } in
    let made = c.in-Ok.ensures.made in
    let size : (parts_view c.in-Ok.image.parts).sectors ≡ made.0.sectors = size-is new made.0 made.3 in
    let line : List ℕ = created_line (parts_view c.in-Ok.image.parts).sectors (g.S.Shelf.count c.args.shelf.now) in
    let is : c.as_bytes.result.now ≡ line = c.as_bytes.ensures.value ∙ c.in-Ok.ensures.told in
    let sent = c.write_text-result.ensures in
    λ left left_now source source_now.
    let before : Ports = record { left = left; source_faults = source; written = g.B.Sink.written c.args.out.now; sink_faults = g.B.Sink.faults c.args.out.now; files = g.S.Shelf.files c.args.shelf.now; count = g.S.Shelf.count c.args.shelf.now; shelf_faults = g.S.Shelf.faults c.args.shelf.now } in
    let now : Ports = record { left = left_now; source_faults = source_now; written = g.B.Sink.written c.write_text-result.new.out; sink_faults = g.B.Sink.faults c.write_text-result.new.out; files = g.S.Shelf.files c.make_image.new.shelf; count = g.S.Shelf.count c.make_image.new.shelf; shelf_faults = g.S.Shelf.faults c.make_image.new.shelf } in
    let opens : Opens (Create c.args.asked) before disk [] made.0 = record { takes = refl; over = made.1; starts = made.2 } in
    rw (c.as_command.ensures, c.into_disk.ensures) (ok-told c.write_text-result.result _ (create-done c.args.asked before now disk new made.0 opens made.3 (parts_view c.in-Ok.image.parts).sectors size c.write_text-result.result
    (λ tells f. g.met.D.Disk.seen_may_stay c.in-Ok.image.disk f tells)
    (subst (λ (text : List ℕ). OnOk c.write_text-result.result (Appends before.written now.written text)) is sent.done)))

pub returns-in-Ok-clause-refused : goal.returns-in-Ok-clause-refused
returns-in-Ok-clause-refused g c =
    let new : Seen = record { tells = g.D.Disk.tells; state = g.D.Disk.state c.in-Ok.image.disk; faults = g.D.Disk.faults c.in-Ok.image.disk; parts = c.in-Ok.image.parts } in
    let disk : DiskPort = record { tells = g.D.Disk.tells; state = g.D.Disk.state c.args.disk; faults = g.D.Disk.faults c.args.disk } in
    let made = c.in-Ok.ensures.made in
    let size : (parts_view c.in-Ok.image.parts).sectors ≡ made.0.sectors = size-is new made.0 made.3 in
    let line : List ℕ = created_line (parts_view c.in-Ok.image.parts).sectors (g.S.Shelf.count c.args.shelf.now) in
    let is : c.as_bytes.result.now ≡ line = c.as_bytes.ensures.value ∙ c.in-Ok.ensures.told in
    let sent = c.write_text-result.ensures in
    λ left left_now source source_now.
    let before : Ports = record { left = left; source_faults = source; written = g.B.Sink.written c.args.out.now; sink_faults = g.B.Sink.faults c.args.out.now; files = g.S.Shelf.files c.args.shelf.now; count = g.S.Shelf.count c.args.shelf.now; shelf_faults = g.S.Shelf.faults c.args.shelf.now } in
    let now : Ports = record { left = left_now; source_faults = source_now; written = g.B.Sink.written c.write_text-result.new.out; sink_faults = g.B.Sink.faults c.write_text-result.new.out; files = g.S.Shelf.files c.make_image.new.shelf; count = g.S.Shelf.count c.make_image.new.shelf; shelf_faults = g.S.Shelf.faults c.make_image.new.shelf } in
    let opens : Opens (Create c.args.asked) before disk [] made.0 = record { takes = refl; over = made.1; starts = made.2 } in
    rw (c.as_command.ensures, c.into_disk.ensures) (err-told c.write_text-result.result (CommandCause (Create c.args.asked) before now disk (port_of new)) (create-failed c.args.asked before now disk new made.0 opens made.3 (parts_view c.in-Ok.image.parts).sectors size c.write_text-result.result sent.refused sent.cause.failed
    (subst (λ (text : List ℕ). OnErr c.write_text-result.result (AppendsFront before.written now.written text)) is sent.front)))

pub returns-in-Err-clause-refused : goal.returns-in-Err-clause-refused
returns-in-Err-clause-refused g c =
    let disk : DiskPort = record { tells = g.D.Disk.tells; state = g.D.Disk.state c.args.disk; faults = g.D.Disk.faults c.args.disk } in
    let disk_now : DiskPort = record { tells = g.D.Disk.tells; state = g.D.Disk.state c.in-Err.disk; faults = g.D.Disk.faults c.in-Err.disk } in
    λ left left_now source source_now.
    let before : Ports = record { left = left; source_faults = source; written = g.B.Sink.written c.args.out.now; sink_faults = g.B.Sink.faults c.args.out.now; files = g.S.Shelf.files c.args.shelf.now; count = g.S.Shelf.count c.args.shelf.now; shelf_faults = g.S.Shelf.faults c.args.shelf.now } in
    let now : Ports = record { left = left_now; source_faults = source_now; written = g.B.Sink.written c.args.out.now; sink_faults = g.B.Sink.faults c.args.out.now; files = g.S.Shelf.files c.make_image.new.shelf; count = g.S.Shelf.count c.make_image.new.shelf; shelf_faults = g.S.Shelf.faults c.make_image.new.shelf } in
    make-failed c.args.asked before now disk disk_now refl c.in-Err.refusal c.in-Err.ensures.refused

pub returns-in-Ok-clause-sink_cause : goal.returns-in-Ok-clause-sink_cause
returns-in-Ok-clause-sink_cause g c =
    rw c.as_command.ensures (told-charges g.B.Sink.faults c.args.out.now c.write_text-result.new.out c.write_text-result.result refused.SinkFault c.write_text-result.ensures.cause)

pub returns-in-Ok-clause-shelf_cause : goal.returns-in-Ok-clause-shelf_cause
returns-in-Ok-clause-shelf_cause g c =
    rw c.as_command.ensures (stays g.S.Shelf.faults c.args.shelf.now c.make_image.new.shelf _ c.in-Ok.ensures.shelf_cause
    (told-none c.write_text-result.result refused.SinkFault refused.ShelfFault c.write_text-result.ensures.refused (λ e. cc)))

pub returns-in-Ok-clause-disk_cause : goal.returns-in-Ok-clause-disk_cause
returns-in-Ok-clause-disk_cause g c =
    rw (c.as_command.ensures, c.into_disk.ensures) (stays g.D.Disk.faults c.args.disk c.in-Ok.image.disk _ c.in-Ok.ensures.cause
    (told-none c.write_text-result.result refused.SinkFault refused.DiskFault c.write_text-result.ensures.refused (λ e. cc)))

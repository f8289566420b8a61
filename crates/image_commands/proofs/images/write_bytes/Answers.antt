use Rattle.std.proofs.Common.{◌≡◌, ℕ, ◌+◌, ◌<◌, ◌≤◌, [], refl, subst, arith}
use Rattle.std.specs.Prelude.{OnOk, IfErr}
use Rattle.std.specs.Io.KnownBytes.{Appends}
use Rattle.std.proofs.KnownBytes.{Keeps-refl}
use Rattle.flat_image.specs.declared.act.Act.TheVariants as act
use Rattle.flat_image.specs.Sectors.{sector_count}
use Rattle.tool_setup.specs.declared.command.Command.TheVariants.{Write}
use Rattle.image_core.specs.Seen.{Seen}
use Rattle.image_commands.specs.ImageReports.{wrote_line}
use Rattle.layer_commands.specs.Ports.{Ports}
use Rattle.image_commands.specs.Images.{DiskPort, Opens, kept_change, entries}
use Rattle.image_commands.specs.ImageSteps.{Adds, TellCause}
use Rattle.image_commands.proofs.ImageAdds.{adds-nothing}
use Rattle.image_commands.proofs.OpenLaws.{open-failed}
use Rattle.image_commands.proofs.ImageLaws.{size-is, not-within, leaves-acts}
use Rattle.image_commands.proofs.TellLaws.{change-done, change-failed}
use Rattle.image_commands.specs.ImageSteps.{port_of}
use Rattle.image_commands.specs.ImageCauses.{CommandCause}
use Rattle.image_commands.proofs.Answered.{ok-told, err-told}
use Rattle.image_commands.proofs.images.write_bytes.Goals as goal

pub returns-clause-done : goal.returns-clause-done
returns-clause-done g c =
    let old : Seen = record { tells = g.D.Disk.tells; state = g.D.Disk.state c.in-Ok.image.disk; faults = g.D.Disk.faults c.in-Ok.image.disk; parts = c.in-Ok.image.parts } in
    let new : Seen = record { tells = g.D.Disk.tells; state = g.D.Disk.state c.write_told-result.new.image.disk; faults = g.D.Disk.faults c.write_told-result.new.image.disk; parts = c.write_told-result.new.image.parts } in
    let disk : DiskPort = record { tells = g.D.Disk.tells; state = g.D.Disk.state c.args.disk; faults = g.D.Disk.faults c.args.disk } in
    let opened = c.in-Ok.ensures.opened in
    let place : c.extent_of.result.at ≡ c.args.at = c.extent_of.ensures.place in
    let many : c.extent_of.result.count ≡ sector_count c.args.bytes.now = c.extent_of.ensures.count in
    let inside : c.args.at + sector_count c.args.bytes.now ≤ opened.0.sectors = (let in_size = c.is_within.ensures.0 c.if-not-is_within.false in let size = size-is old opened.0 opened.1.3 in let is = c.sectors.ensures in omega (arith, in_size, size, is)) in
    λ left left_now source source_now whole part.
    let before : Ports = record { left = left; source_faults = source; written = g.B.Sink.written c.args.out.now; sink_faults = g.B.Sink.faults c.args.out.now; files = g.S.Shelf.files c.args.shelf.now; count = g.S.Shelf.count c.args.shelf.now; shelf_faults = g.S.Shelf.faults c.args.shelf.now } in
    let now : Ports = record { left = left_now; source_faults = source_now; written = g.B.Sink.written c.write_told-result.new.out; sink_faults = g.B.Sink.faults c.write_told-result.new.out; files = g.S.Shelf.files c.open_image.new.shelf; count = g.S.Shelf.count c.open_image.new.shelf; shelf_faults = g.S.Shelf.faults c.open_image.new.shelf } in
    let opens : Opens (Write c.args.at) before disk (c.args.bytes.now) opened.0 = record { takes = (whole, c.requires); over = opened.1.0; starts = opened.1.1 } in
    let adds = subst (λ (n : ℕ). OnOk c.write_told-result.result (Adds (entries (kept_change (act.Write c.args.at c.args.bytes.now))) old new)) many
    (subst (λ (a : ℕ). OnOk c.write_told-result.result (Adds (entries (kept_change (act.Write a c.args.bytes.now))) old new)) place c.write_told-result.ensures.adds) in
    let told = subst (λ (n : ℕ). OnOk c.write_told-result.result (Appends before.written now.written (wrote_line c.args.at n))) many
    (subst (λ (a : ℕ). OnOk c.write_told-result.result (Appends before.written now.written (wrote_line a c.extent_of.result.count))) place c.write_told-result.ensures.told) in
    rw (c.as_command.ensures, c.into_disk-2.ensures) (ok-told c.write_told-result.result _ (change-done (Write c.args.at) (c.args.bytes.now) (wrote_line c.args.at (sector_count c.args.bytes.now)) (act.Write c.args.at c.args.bytes.now) before now disk old new opened.0 refl tt refl refl tt opens inside opened.1.3 refl part c.write_told-result.result
    (λ tells f. g.met.D.Disk.seen_may_stay c.write_told-result.new.image.disk f tells) adds told))

pub returns-clause-refused : goal.returns-clause-refused
returns-clause-refused g c =
    let old : Seen = record { tells = g.D.Disk.tells; state = g.D.Disk.state c.in-Ok.image.disk; faults = g.D.Disk.faults c.in-Ok.image.disk; parts = c.in-Ok.image.parts } in
    let new : Seen = record { tells = g.D.Disk.tells; state = g.D.Disk.state c.write_told-result.new.image.disk; faults = g.D.Disk.faults c.write_told-result.new.image.disk; parts = c.write_told-result.new.image.parts } in
    let disk : DiskPort = record { tells = g.D.Disk.tells; state = g.D.Disk.state c.args.disk; faults = g.D.Disk.faults c.args.disk } in
    let opened = c.in-Ok.ensures.opened in
    let place : c.extent_of.result.at ≡ c.args.at = c.extent_of.ensures.place in
    let many : c.extent_of.result.count ≡ sector_count c.args.bytes.now = c.extent_of.ensures.count in
    let inside : c.args.at + sector_count c.args.bytes.now ≤ opened.0.sectors = (let in_size = c.is_within.ensures.0 c.if-not-is_within.false in let size = size-is old opened.0 opened.1.3 in let is = c.sectors.ensures in omega (arith, in_size, size, is)) in
    λ left left_now source source_now whole part.
    let before : Ports = record { left = left; source_faults = source; written = g.B.Sink.written c.args.out.now; sink_faults = g.B.Sink.faults c.args.out.now; files = g.S.Shelf.files c.args.shelf.now; count = g.S.Shelf.count c.args.shelf.now; shelf_faults = g.S.Shelf.faults c.args.shelf.now } in
    let now : Ports = record { left = left_now; source_faults = source_now; written = g.B.Sink.written c.write_told-result.new.out; sink_faults = g.B.Sink.faults c.write_told-result.new.out; files = g.S.Shelf.files c.open_image.new.shelf; count = g.S.Shelf.count c.open_image.new.shelf; shelf_faults = g.S.Shelf.faults c.open_image.new.shelf } in
    let opens : Opens (Write c.args.at) before disk (c.args.bytes.now) opened.0 = record { takes = (whole, c.requires); over = opened.1.0; starts = opened.1.1 } in
    let cause = subst (λ (n : ℕ). IfErr c.write_told-result.result (TellCause (act.Write c.args.at c.args.bytes.now) (wrote_line c.args.at n) old new before.sink_faults now.sink_faults before.written now.written)) many
    (subst (λ (a : ℕ). IfErr c.write_told-result.result (TellCause (act.Write a c.args.bytes.now) (wrote_line a c.extent_of.result.count) old new before.sink_faults now.sink_faults before.written now.written)) place c.write_told-result.ensures.refused) in
    rw (c.as_command.ensures, c.into_disk-2.ensures) (err-told c.write_told-result.result (CommandCause (Write c.args.at) before now disk (port_of new)) (change-failed (Write c.args.at) (c.args.bytes.now) (wrote_line c.args.at (sector_count c.args.bytes.now)) (act.Write c.args.at c.args.bytes.now) before now disk old new opened.0 refl tt refl refl tt opens inside opened.1.3 refl part c.write_told-result.result
    before.sink_faults (let e = c.in-Ok.ensures.cause in omega (arith, e)) (omega arith) cause))

pub returns-then-not-is_within-clause-refused : goal.returns-then-not-is_within-clause-refused
returns-then-not-is_within-clause-refused g c =
    let old : Seen = record { tells = g.D.Disk.tells; state = g.D.Disk.state c.in-Ok.image.disk; faults = g.D.Disk.faults c.in-Ok.image.disk; parts = c.in-Ok.image.parts } in
    let opened = c.in-Ok.ensures.opened in
    let size = size-is old opened.0 opened.1.3 in
    let is = c.sectors.ensures in
    let past : c.sectors.result < c.args.at + sector_count c.args.bytes.now = not-within c.is_within.result (c.args.at + sector_count c.args.bytes.now) c.sectors.result c.if-not-is_within.true c.is_within.ensures.1 in
    λ left left_now source source_now whole part.
    rw c.into_disk.ensures (
      record {
        bytes = c.args.bytes.now;
        base = opened.0;
        opens = record { takes = (whole, c.requires); over = opened.1.0; starts = opened.1.1 };
        past = omega (arith, past, size, is);
        crash = leaves-acts old opened.0 opened.1.3 old [] (adds-nothing old);
      },
      record { sink = Keeps-refl (g.B.Sink.written c.args.out.now); same = c.in-Ok.ensures.quiet },
    )

pub returns-in-Err-clause-refused : goal.returns-in-Err-clause-refused
returns-in-Err-clause-refused g c =
    let disk : DiskPort = record { tells = g.D.Disk.tells; state = g.D.Disk.state c.args.disk; faults = g.D.Disk.faults c.args.disk } in
    let disk_now : DiskPort = record { tells = g.D.Disk.tells; state = g.D.Disk.state c.in-Err.disk; faults = g.D.Disk.faults c.in-Err.disk } in
    λ left left_now source source_now whole part.
    let before : Ports = record { left = left; source_faults = source; written = g.B.Sink.written c.args.out.now; sink_faults = g.B.Sink.faults c.args.out.now; files = g.S.Shelf.files c.args.shelf.now; count = g.S.Shelf.count c.args.shelf.now; shelf_faults = g.S.Shelf.faults c.args.shelf.now } in
    let now : Ports = record { left = left_now; source_faults = source_now; written = g.B.Sink.written c.args.out.now; sink_faults = g.B.Sink.faults c.args.out.now; files = g.S.Shelf.files c.open_image.new.shelf; count = g.S.Shelf.count c.open_image.new.shelf; shelf_faults = g.S.Shelf.faults c.open_image.new.shelf } in
    open-failed (Write c.args.at) (c.args.bytes.now) before now disk disk_now (λ (asked, is). cc) (whole, c.requires) part (record { sink = Keeps-refl before.written; same = c.in-Err.ensures.quiet }) c.in-Err.refusal c.in-Err.ensures.refused

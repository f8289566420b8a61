use Rattle.std.proofs.Common.{◌≡◌, ℕ, List, subst, rules}
use Rattle.std.specs.Prelude.{length, OnOk, OnErr}
use Rattle.std.specs.Io.KnownBytes.{Appends}
use Rattle.byte_ports.specs.Ports.{AppendsFront}
use Rattle.image_core.specs.Parts.{parts_view}
use Rattle.image_core.specs.Seen.{Seen}
use Rattle.image_commands.specs.ImageReports.{swept_line}
use Rattle.image_commands.proofs.CommitLaws.{sweep-cut}
use Rattle.image_commands.proofs.sweeping.sweep_told.Goals as goal

pub returns-clause-told : goal.returns-clause-told
returns-clause-told g c =
    let old : Seen = record { tells = g.D.Disk.tells; state = g.D.Disk.state c.args.image.now.disk; faults = g.D.Disk.faults c.args.image.now.disk; parts = c.args.image.now.parts } in
    let text : List ℕ = swept_line (length (parts_view old.parts).committed) in
    let is : c.as_bytes.result.now ≡ text = search rules in
    subst (λ (t : List ℕ). OnOk c.write_text.result (Appends (g.B.Sink.written c.args.out.now) (g.B.Sink.written c.write_text.new.out) t)) is c.write_text.ensures.done

pub returns-clause-refused : goal.returns-clause-refused
returns-clause-refused g c =
    let old : Seen = record { tells = g.D.Disk.tells; state = g.D.Disk.state c.args.image.now.disk; faults = g.D.Disk.faults c.args.image.now.disk; parts = c.args.image.now.parts } in
    let new : Seen = record { tells = g.D.Disk.tells; state = g.D.Disk.state c.sweep_kept.new.image.disk; faults = g.D.Disk.faults c.sweep_kept.new.image.disk; parts = c.sweep_kept.new.image.parts } in
    let text : List ℕ = swept_line (length (parts_view old.parts).committed) in
    let is : c.as_bytes.result.now ≡ text = search rules in
    let sent = c.write_text.ensures in
    sweep-cut c.write_text.result old new (g.B.Sink.faults c.args.out.now) (g.B.Sink.faults c.write_text.new.out) (g.B.Sink.written c.args.out.now) (g.B.Sink.written c.write_text.new.out) c.in_ok-count.ensures.adds sent.refused sent.cause.failed
    (subst (λ (t : List ℕ). OnErr c.write_text.result (AppendsFront (g.B.Sink.written c.args.out.now) (g.B.Sink.written c.write_text.new.out) t)) is sent.front)

use Rattle.std.proofs.Common.{◌≡◌, ℕ, List, ◌∙◌, subst}
use Rattle.std.specs.Prelude.{OnErr}
use Rattle.std.proofs.KnownBytes.{Keeps-refl}
use Rattle.std.proofs.lemmas.Result.{err_from_is_err_and}
use Rattle.byte_ports.specs.Ports.{AppendsFront}
use Rattle.image_core.specs.Seen.{Seen}
use Rattle.image_commands.specs.ImageReports.{grown_line}
use Rattle.image_commands.proofs.ImageAdds.{adds-nothing}
use Rattle.image_commands.proofs.GrowLaws.{tell-refused, tell-cut}
use Rattle.image_commands.proofs.growing.grow_told.Goals as goal

pub returns-in_err-grow_kept-clause-refused : goal.returns-in_err-grow_kept-clause-refused
returns-in_err-grow_kept-clause-refused g c =
    let old : Seen = record { tells = g.D.Disk.tells; state = g.D.Disk.state c.args.image.now.disk; faults = g.D.Disk.faults c.args.image.now.disk; parts = c.args.image.now.parts } in
    let new : Seen = record { tells = g.D.Disk.tells; state = g.D.Disk.state c.grow_kept.new.image.disk; faults = g.D.Disk.faults c.grow_kept.new.image.disk; parts = c.grow_kept.new.image.parts } in
    let p = err_from_is_err_and c.from_residual-in_err-grow_kept.result c.from_residual-in_err-grow_kept.ensures.1 in
    rw (p.1, p.2) (tell-refused c.args.sectors (grown_line c.args.sectors) old new (g.B.Sink.faults c.args.out.now) (g.B.Sink.written c.args.out.now) c.in_err-grow_kept.field-0.0 c.in_err-grow_kept.ensures.refused)

pub returns-in_err-line-clause-refused : goal.returns-in_err-line-clause-refused
returns-in_err-line-clause-refused g c =
    let old : Seen = record { tells = g.D.Disk.tells; state = g.D.Disk.state c.args.image.now.disk; faults = g.D.Disk.faults c.args.image.now.disk; parts = c.args.image.now.parts } in
    let p = err_from_is_err_and c.from_residual.result c.from_residual.ensures.1 in
    rw (p.1, p.2) (adds-nothing old, Keeps-refl (g.B.Sink.written c.args.out.now))

pub returns-clause-refused : goal.returns-clause-refused
returns-clause-refused g c =
    let old : Seen = record { tells = g.D.Disk.tells; state = g.D.Disk.state c.args.image.now.disk; faults = g.D.Disk.faults c.args.image.now.disk; parts = c.args.image.now.parts } in
    let new : Seen = record { tells = g.D.Disk.tells; state = g.D.Disk.state c.grow_kept.new.image.disk; faults = g.D.Disk.faults c.grow_kept.new.image.disk; parts = c.grow_kept.new.image.parts } in
    let line : List ℕ = grown_line c.args.sectors in
    let is : c.as_bytes.result.now ≡ line = c.as_bytes.ensures.value ∙ c.in_ok-line.ensures in
    let sent = c.write_text.ensures in
    tell-cut c.write_text.result c.args.sectors line old new (g.B.Sink.faults c.args.out.now) (g.B.Sink.faults c.write_text.new.out) (g.B.Sink.written c.args.out.now) (g.B.Sink.written c.write_text.new.out)
    c.in_ok-grow_kept.ensures.adds sent.refused sent.cause.failed
    (subst (λ (text : List ℕ). OnErr c.write_text.result (AppendsFront (g.B.Sink.written c.args.out.now) (g.B.Sink.written c.write_text.new.out) text)) is sent.front)

use Rattle.std.proofs.Common.{◌≡◌, ℕ, List, ◌∙◌, subst}
use Rattle.std.specs.Prelude.{OnErr}
use Rattle.std.proofs.KnownBytes.{Keeps-refl}
use Rattle.std.proofs.lemmas.Result.{err_from_is_err_and}
use Rattle.byte_ports.specs.Ports.{AppendsFront}
use Rattle.flat_image.specs.declared.act.Act.TheVariants as act
use Rattle.image_core.specs.Seen.{Seen}
use Rattle.image_commands.specs.ImageReports.{zeroed_line}
use Rattle.image_commands.proofs.ImageAdds.{adds-nothing}
use Rattle.image_commands.proofs.TellLaws.{tell-changed, tell-failed}
use Rattle.image_commands.proofs.changing.zero_told.Goals as goal

pub returns-in_err-zero_kept-clause-refused : goal.returns-in_err-zero_kept-clause-refused
returns-in_err-zero_kept-clause-refused g c =
    let old : Seen = record { tells = g.D.Disk.tells; state = g.D.Disk.state c.args.image.now.disk; faults = g.D.Disk.faults c.args.image.now.disk; parts = c.args.image.now.parts } in
    let new : Seen = record { tells = g.D.Disk.tells; state = g.D.Disk.state c.zero_kept.new.image.disk; faults = g.D.Disk.faults c.zero_kept.new.image.disk; parts = c.zero_kept.new.image.parts } in
    let p = err_from_is_err_and c.from_residual-in_err-zero_kept.result c.from_residual-in_err-zero_kept.ensures.1 in
    rw (p.1, p.2) (tell-changed (act.Zero c.args.extent.at c.args.extent.count) (zeroed_line c.args.extent.at c.args.extent.count) old new (g.B.Sink.faults c.args.out.now) (g.B.Sink.written c.args.out.now) c.in_err-zero_kept.field-0.0 c.in_err-zero_kept.ensures.refused)

pub returns-in_err-line-clause-refused : goal.returns-in_err-line-clause-refused
returns-in_err-line-clause-refused g c =
    let old : Seen = record { tells = g.D.Disk.tells; state = g.D.Disk.state c.args.image.now.disk; faults = g.D.Disk.faults c.args.image.now.disk; parts = c.args.image.now.parts } in
    let p = err_from_is_err_and c.from_residual.result c.from_residual.ensures.1 in
    rw (p.1, p.2) (adds-nothing old, Keeps-refl (g.B.Sink.written c.args.out.now))

pub returns-clause-refused : goal.returns-clause-refused
returns-clause-refused g c =
    let old : Seen = record { tells = g.D.Disk.tells; state = g.D.Disk.state c.args.image.now.disk; faults = g.D.Disk.faults c.args.image.now.disk; parts = c.args.image.now.parts } in
    let new : Seen = record { tells = g.D.Disk.tells; state = g.D.Disk.state c.zero_kept.new.image.disk; faults = g.D.Disk.faults c.zero_kept.new.image.disk; parts = c.zero_kept.new.image.parts } in
    let line : List ℕ = zeroed_line c.args.extent.at c.args.extent.count in
    let is : c.as_bytes.result.now ≡ line = c.as_bytes.ensures.value ∙ c.in_ok-line.ensures in
    let sent = c.write_text.ensures in
    tell-failed c.write_text.result (act.Zero c.args.extent.at c.args.extent.count) line old new (g.B.Sink.faults c.args.out.now) (g.B.Sink.faults c.write_text.new.out) (g.B.Sink.written c.args.out.now) (g.B.Sink.written c.write_text.new.out)
    c.in_ok-zero_kept.ensures.adds sent.refused sent.cause.failed
    (subst (λ (text : List ℕ). OnErr c.write_text.result (AppendsFront (g.B.Sink.written c.args.out.now) (g.B.Sink.written c.write_text.new.out) text)) is sent.front)

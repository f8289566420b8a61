use Rattle.std.proofs.Common.{◌≡◌, ℕ, List, ap, subst, rules}
use Rattle.std.specs.Prelude.{OnOk, OnErr}
use Rattle.std.specs.Io.KnownBytes.{Appends}
use Rattle.std.proofs.lemmas.Result.{err_from_is_err_and}
use Rattle.byte_ports.specs.Ports.{AppendsFront}
use Rattle.image_core.specs.Seen.{Seen}
use Rattle.image_commands.specs.ImageReports.{committed_line}
use Rattle.image_commands.specs.ImageSteps.{SaysCommit}
use Rattle.image_commands.proofs.CommitLaws.{commit-refused, commit-cut, commit-said}
use Rattle.image_commands.proofs.committing.commit_told.Goals as goal

pub returns-in_err-layer-clause-refused : goal.returns-in_err-layer-clause-refused
returns-in_err-layer-clause-refused g c =
    let old : Seen = record { tells = g.D.Disk.tells; state = g.D.Disk.state c.args.image.now.disk; faults = g.D.Disk.faults c.args.image.now.disk; parts = c.args.image.now.parts } in
    let new : Seen = record { tells = g.D.Disk.tells; state = g.D.Disk.state c.commit_kept.new.image.disk; faults = g.D.Disk.faults c.commit_kept.new.image.disk; parts = c.commit_kept.new.image.parts } in
    let p = err_from_is_err_and c.from_residual.result c.from_residual.ensures.1 in
    rw (p.1, p.2) (commit-refused c.args.uuid old new (g.B.Sink.faults c.args.out.now) (g.B.Sink.written c.args.out.now) c.in_err-layer.field-0.0 c.in_err-layer.ensures.refused)

pub returns-clause-told : goal.returns-clause-told
returns-clause-told g c =
    let old : Seen = record { tells = g.D.Disk.tells; state = g.D.Disk.state c.args.image.now.disk; faults = g.D.Disk.faults c.args.image.now.disk; parts = c.args.image.now.parts } in
    let text : List ℕ = committed_line c.args.uuid c.in_ok-layer.layer.epoch c.in_ok-layer.layer.size in
    let is : c.as_bytes.result.now ≡ text = search rules in
    let says : SaysCommit c.args.uuid old text = (c.in_ok-layer.layer.size, ap (λ (n : ℕ). committed_line c.args.uuid n c.in_ok-layer.layer.size) c.in_ok-layer.ensures.epoch, c.in_ok-layer.ensures.size) in
    commit-said c.write_text.result c.args.uuid text old (g.B.Sink.written c.args.out.now) (g.B.Sink.written c.write_text.new.out) says
    (subst (λ (t : List ℕ). OnOk c.write_text.result (Appends (g.B.Sink.written c.args.out.now) (g.B.Sink.written c.write_text.new.out) t)) is c.write_text.ensures.done)

pub returns-clause-refused : goal.returns-clause-refused
returns-clause-refused g c =
    let old : Seen = record { tells = g.D.Disk.tells; state = g.D.Disk.state c.args.image.now.disk; faults = g.D.Disk.faults c.args.image.now.disk; parts = c.args.image.now.parts } in
    let new : Seen = record { tells = g.D.Disk.tells; state = g.D.Disk.state c.commit_kept.new.image.disk; faults = g.D.Disk.faults c.commit_kept.new.image.disk; parts = c.commit_kept.new.image.parts } in
    let text : List ℕ = committed_line c.args.uuid c.in_ok-layer.layer.epoch c.in_ok-layer.layer.size in
    let is : c.as_bytes.result.now ≡ text = search rules in
    let says : SaysCommit c.args.uuid old text = (c.in_ok-layer.layer.size, ap (λ (n : ℕ). committed_line c.args.uuid n c.in_ok-layer.layer.size) c.in_ok-layer.ensures.epoch, c.in_ok-layer.ensures.size) in
    let sent = c.write_text.ensures in
    commit-cut c.write_text.result c.args.uuid text old new (g.B.Sink.faults c.args.out.now) (g.B.Sink.faults c.write_text.new.out) (g.B.Sink.written c.args.out.now) (g.B.Sink.written c.write_text.new.out) c.in_ok-layer.ensures.free c.in_ok-layer.ensures.adds says sent.refused sent.cause.failed
    (subst (λ (t : List ℕ). OnErr c.write_text.result (AppendsFront (g.B.Sink.written c.args.out.now) (g.B.Sink.written c.write_text.new.out) t)) is sent.front)

use Rattle.std.proofs.Common.{◌≡◌, ◌+◌, length, sym, subst, rules}
use Rattle.gate_mark.specs.MarkFile.{base_of, other_of}
use Rattle.gate_mark.specs.Mark.{MarkFits}
use Rattle.gate_mark.proofs.Runs.{torn_run, fill_lasts, fill_done}
use Rattle.gate_mark.proofs.SlotWrites.{IsAttempt, attempt_bytes_hold}
use Rattle.gate_mark.proofs.mark.Mark.fill.Goals as goal

pub returns-in_err-write_through-clause-run : goal.returns-in_err-write_through-clause-run
returns-in_err-write_through-clause-run g c =
    let at : c.base.result + 8 ≡ base_of (other_of c.args.self.now.current) + 8 = search rules in
    let size : length c.attempt_bytes-bytes.result ≡ 56 = search rules in
    torn_run c.args.self.now.file (c.base.result + 8) (length c.attempt_bytes-bytes.result) (g.D.Disk.state c.args.disk.now) (g.D.Disk.state c.write_through.new.disk) (MarkFits c.args.self.now)
    (fill_lasts c.args.self.now (c.base.result + 8) (length c.attempt_bytes-bytes.result) (g.D.Disk.state c.args.disk.now) at size c.requires.rest c.requires.kept) c.write_through.ensures.run

pub returns-in_err-write_through-clause-kept : goal.returns-in_err-write_through-clause-kept
returns-in_err-write_through-clause-kept g c = λ file left.
    let at : c.base.result + 8 ≡ base_of (other_of c.args.self.now.current) + 8 = search rules in
    let size : length c.attempt_bytes-bytes.result ≡ 56 = search rules in
    let torn = c.write_through.ensures.torn file left in
    fill_lasts c.args.self.now (c.base.result + 8) (length c.attempt_bytes-bytes.result) (g.D.Disk.state c.args.disk.now) at size c.requires.rest c.requires.kept torn.0 file torn.1 torn.2

pub returns-clause-run : goal.returns-clause-run
returns-clause-run g c =
    let at : c.base.result + 8 ≡ base_of (other_of c.args.self.now.current) + 8 = search rules in
    let size : length c.attempt_bytes-bytes.result ≡ 56 = search rules in
    torn_run c.args.self.now.file (c.base.result + 8) (length c.attempt_bytes-bytes.result) (g.D.Disk.state c.args.disk.now) (g.D.Disk.state c.write_through.new.disk) (MarkFits c.args.self.now)
    (fill_lasts c.args.self.now (c.base.result + 8) (length c.attempt_bytes-bytes.result) (g.D.Disk.state c.args.disk.now) at size c.requires.rest c.requires.kept) c.write_through.ensures.run

pub returns-clause-kept : goal.returns-clause-kept
returns-clause-kept g c = λ file left.
    let at : c.base.result + 8 ≡ base_of (other_of c.args.self.now.current) + 8 = search rules in
    let size : length c.attempt_bytes-bytes.result ≡ 56 = search rules in
    let torn = c.write_through.ensures.torn file left in
    fill_lasts c.args.self.now (c.base.result + 8) (length c.attempt_bytes-bytes.result) (g.D.Disk.state c.args.disk.now) at size c.requires.rest c.requires.kept torn.0 file torn.1 torn.2

pub returns-clause-filled : goal.returns-clause-filled
returns-clause-filled g c =
    let at : c.base.result + 8 ≡ base_of (other_of c.args.self.now.current) + 8 = search rules in
    let len : length c.args.body.now ≡ 48 = search rules in
    let attempt = subst (IsAttempt (c.args.self.now.sequence + 1) c.args.body.now) (sym c.attempt_bytes-bytes.ensures) (attempt_bytes_hold (c.args.self.now.sequence + 1) c.args.body.now len) in
    fill_done c.args.self.now (c.base.result + 8) c.args.body.now c.attempt_bytes-bytes.result (g.D.Disk.state c.args.disk.now) (g.D.Disk.state c.write_through.new.disk) at c.requires.sequence attempt c.in_ok-write_through.ensures.done

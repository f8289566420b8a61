use Rattle.std.proofs.Common.{◌≡◌, rules}
use Rattle.gate_mark.specs.MarkFile.{base_of, other_of}
use Rattle.gate_mark.specs.Mark.{MarkFits}
use Rattle.gate_mark.proofs.Runs.{torn_run, shut_lasts, shut_done}
use Rattle.gate_mark.proofs.mark.Mark.shut.Goals as goal

pub returns-in_err-write_through-clause-run : goal.returns-in_err-write_through-clause-run
returns-in_err-write_through-clause-run g c =
    let at : c.base.result ≡ base_of (other_of c.args.self.now.current) = search rules in
    torn_run c.args.self.now.file c.base.result 1 (g.D.Disk.state c.args.disk.now) (g.D.Disk.state c.write_through.new.disk) (MarkFits c.args.self.now)
    (shut_lasts c.args.self.now c.base.result (g.D.Disk.state c.args.disk.now) at c.requires.rest c.requires.kept) c.write_through.ensures.run

pub returns-in_err-write_through-clause-kept : goal.returns-in_err-write_through-clause-kept
returns-in_err-write_through-clause-kept g c = λ file left.
    let at : c.base.result ≡ base_of (other_of c.args.self.now.current) = search rules in
    let torn = c.write_through.ensures.torn file left in
    shut_lasts c.args.self.now c.base.result (g.D.Disk.state c.args.disk.now) at c.requires.rest c.requires.kept torn.0 file torn.1 torn.2

pub returns-clause-run : goal.returns-clause-run
returns-clause-run g c =
    let at : c.base.result ≡ base_of (other_of c.args.self.now.current) = search rules in
    torn_run c.args.self.now.file c.base.result 1 (g.D.Disk.state c.args.disk.now) (g.D.Disk.state c.write_through.new.disk) (MarkFits c.args.self.now)
    (shut_lasts c.args.self.now c.base.result (g.D.Disk.state c.args.disk.now) at c.requires.rest c.requires.kept) c.write_through.ensures.run

pub returns-clause-kept : goal.returns-clause-kept
returns-clause-kept g c =
    let at : c.base.result ≡ base_of (other_of c.args.self.now.current) = search rules in
    shut_done c.args.self.now c.base.result (g.D.Disk.state c.args.disk.now) (g.D.Disk.state c.write_through.new.disk) at c.requires.kept c.in_ok-write_through.ensures.done

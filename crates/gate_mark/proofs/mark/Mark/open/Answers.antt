use Rattle.std.proofs.Common.{◌≡◌, rules}
use Rattle.gate_mark.specs.declared.mark.Rest.TheVariants.{Attempted}
use Rattle.gate_mark.specs.MarkFile.{base_of, other_of}
use Rattle.gate_mark.specs.Mark.{Fits}
use Rattle.gate_mark.proofs.Runs.{torn_run, open_lasts, open_done}
use Rattle.gate_mark.proofs.mark.Mark.open.Goals as goal

pub returns-in_err-write_through-clause-run : goal.returns-in_err-write_through-clause-run
returns-in_err-write_through-clause-run g c =
    let at : c.base.result ≡ base_of (other_of c.args.self.now.current) = search rules in
    torn_run c.args.self.now.file c.base.result 1 (g.D.Disk.state c.args.disk.now) (g.D.Disk.state c.write_through.new.disk)
    (Fits c.args.self.now.current c.args.self.now.sequence c.args.self.now.body (Attempted c.args.body.now))
    (open_lasts c.args.self.now c.base.result c.args.body.now (g.D.Disk.state c.args.disk.now) at c.requires.kept c.requires.filled) c.write_through.ensures.run

pub returns-in_err-write_through-clause-kept : goal.returns-in_err-write_through-clause-kept
returns-in_err-write_through-clause-kept g c = λ file left.
    let at : c.base.result ≡ base_of (other_of c.args.self.now.current) = search rules in
    let torn = c.write_through.ensures.torn file left in
    open_lasts c.args.self.now c.base.result c.args.body.now (g.D.Disk.state c.args.disk.now) at c.requires.kept c.requires.filled torn.0 file torn.1 torn.2

pub returns-clause-run : goal.returns-clause-run
returns-clause-run g c =
    let at : c.base.result ≡ base_of (other_of c.args.self.now.current) = search rules in
    torn_run c.args.self.now.file c.base.result 1 (g.D.Disk.state c.args.disk.now) (g.D.Disk.state c.write_through.new.disk)
    (Fits c.args.self.now.current c.args.self.now.sequence c.args.self.now.body (Attempted c.args.body.now))
    (open_lasts c.args.self.now c.base.result c.args.body.now (g.D.Disk.state c.args.disk.now) at c.requires.kept c.requires.filled) c.write_through.ensures.run

pub returns-clause-kept : goal.returns-clause-kept
returns-clause-kept g c =
    let at : c.base.result ≡ base_of (other_of c.args.self.now.current) = search rules in
    let current : c.other-other.result ≡ other_of c.args.self.now.current = search rules in
    rw current (open_done c.args.self.now c.base.result c.args.body.now (g.D.Disk.state c.args.disk.now) (g.D.Disk.state c.write_through.new.disk) at c.requires.kept c.requires.filled c.in_ok-write_through.ensures.done)

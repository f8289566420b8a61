use Rattle.top_writer.proofs.ReadLaws.{quiet_on}
use Rattle.top_writer.proofs.top.Top.read_piece.Goals as goal

pub returns-in_err-run-2-clause-quiet : goal.returns-in_err-run-2-clause-quiet
returns-in_err-run-2-clause-quiet g c =
    quiet_on (g.D.Disk.state c.args.disk.now) (g.D.Disk.state c.go_on.new.disk) (g.D.Disk.state c.go_on-2.new.disk) c.go_on.ensures.quiet c.go_on-2.ensures.quiet

pub returns-clause-quiet : goal.returns-clause-quiet
returns-clause-quiet g c =
    quiet_on (g.D.Disk.state c.args.disk.now) (g.D.Disk.state c.go_on.new.disk) (g.D.Disk.state c.go_on-2.new.disk) c.go_on.ensures.quiet c.go_on-2.ensures.quiet

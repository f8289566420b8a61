use Rattle.image_core.proofs.Lifts.{keeps-stands}
use Rattle.image_core.proofs.StandLaws.{history-reads, image-reads, history-tells}
use Rattle.image_core.proofs.laws.standing_laws.Goals as goal

pub returns : goal.returns
returns g c = record {
  keeps = λ v base history. keeps-stands g.D.Disk.tells (g.D.Disk.state c.args.disk.now) (g.D.Disk.faults c.args.disk.now) v base history;
  history = λ v base history. history-reads g.D.Disk.tells (g.D.Disk.state c.args.disk.now) (g.D.Disk.faults c.args.disk.now) v base history;
  image = λ v base history. image-reads g.D.Disk.tells (g.D.Disk.state c.args.disk.now) (g.D.Disk.faults c.args.disk.now) v base history;
  told = λ v w. history-tells g.D.Disk.tells (g.D.Disk.state c.args.disk.now) (g.D.Disk.faults c.args.disk.now) v (g.D.Disk.state c.args.other.now) (g.D.Disk.faults c.args.other.now) w;
}

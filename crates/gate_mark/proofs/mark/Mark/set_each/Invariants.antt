use Rattle.std.proofs.Common.{take}
use Rattle.std.specs.Prelude.{List}
use Rattle.gate_mark.specs.Mark.{IsKept}
use Rattle.gate_mark.specs.Sets.{Act, SetInTurn}
use Rattle.gate_mark.proofs.InTurn.{IsCounted}
use Rattle.gate_mark.proofs.mark.Mark.set_each.Given as goal

abbrev pub invariant-loop-body : goal.invariant-loop-body
invariant-loop-body g l =
    IsCounted l.fn.self.sequence (g.D.Disk.faults l.fn.disk) l.body-index l.self.sequence (g.D.Disk.faults l.disk)
    × IsKept (g.D.Disk.state l.disk) l.self
    × ((acts : List Act) × SetInTurn l.fn.self.file (g.D.Disk.state l.fn.disk) (g.D.Disk.state l.disk) l.fn.self l.self (take l.body-index l.bodies) acts)

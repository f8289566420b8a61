use Rattle.byte_fields.proofs.Fronts.{filled_whole}
use Rattle.byte_fields.proofs.writer.FieldWriter.finish.Goals as goal

pub returns : goal.returns
returns g c = rw (← c.self.view_is) (filled_whole c.self.inside.block c.self.inside.at g.row.N c.self.invariant)

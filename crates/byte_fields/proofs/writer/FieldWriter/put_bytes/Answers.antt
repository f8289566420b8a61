use Rattle.std.proofs.Common.{ap, length, arith}
use Rattle.byte_fields.proofs.Fronts.{filled_more, length-filled}
use Rattle.byte_fields.proofs.writer.FieldWriter.put_bytes.Goals as goal

pub invariant_of-self : goal.invariant_of-self
invariant_of-self g c =
    (filled_more c.self.inside.block c.args.bytes.now c.put_at.new.block c.self.inside.at g.row.N c.self.invariant
    (omega (arith, c.requires, ap length c.self.view_is, length-filled c.self.inside.block c.self.inside.at g.row.N c.self.invariant)) c.put_at.ensures).0

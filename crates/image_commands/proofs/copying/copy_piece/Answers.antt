use Rattle.std.proofs.Common.{refl, arith, rules}
use Rattle.std.proofs.KnownBytes.{Keeps-refl}
use Rattle.flat_image.specs.declared.act.Act.TheVariants.{Read}
use Rattle.image_core.specs.Seen.{Seen}
use Rattle.image_commands.proofs.ImageAdds.{adds-read, none-written}
use Rattle.image_commands.proofs.CopyLaws.{whole-refused, are-sectors}
use Rattle.image_commands.proofs.copying.copy_piece.Goals as goal

pub returns-in-Err-clause-front : goal.returns-in-Err-clause-front
returns-in-Err-clause-front g c = none-written _ (g.S.Shelf.files c.args.shelf.now) c.args.at c.args.count _ _ (Keeps-refl (g.B.Sink.written c.args.out.now))

pub returns-in-Err-clause-refused : goal.returns-in-Err-clause-refused
returns-in-Err-clause-refused g c =
    rw c.whole_refusal.ensures (whole-refused g.D.Disk.tells (g.D.Disk.state c.args.image.now.disk) (g.D.Disk.state c.read_whole.new.self.disk) (g.D.Disk.faults c.args.image.now.disk)
    (g.D.Disk.faults c.read_whole.new.self.disk) c.args.image.now.parts c.read_whole.new.self.parts (Read c.extent_of.result.at c.extent_of.result.count)
    (g.S.Shelf.faults c.args.shelf.now) (g.S.Shelf.faults c.read_whole.new.shelf) (g.B.Sink.faults c.args.out.now) c.in-Err.fault
    c.in-Err.ensures.goes c.in-Err.ensures.cause.failed c.in-Err.ensures.shelf_cause.failed)

pub returns-in-Ok-write_all-clause-adds : goal.returns-in-Ok-write_all-clause-adds
returns-in-Ok-write_all-clause-adds g c =
    adds-read g.D.Disk.tells (g.D.Disk.state c.args.image.now.disk) (g.D.Disk.state c.read_whole.new.self.disk) (g.D.Disk.faults c.args.image.now.disk) (g.D.Disk.faults c.read_whole.new.self.disk)
    c.args.image.now.parts c.read_whole.new.self.parts c.extent_of.result.at c.extent_of.result.count c.in-Ok.ensures.goes

pub returns-in-Err-write_all-clause-front : goal.returns-in-Err-write_all-clause-front
returns-in-Err-write_all-clause-front g c =
    let image : Seen = record { tells = g.D.Disk.tells; state = g.D.Disk.state c.args.image.now.disk; faults = g.D.Disk.faults c.args.image.now.disk; parts = c.args.image.now.parts } in
    record {
      part = c.args.count;
      within = omega arith;
      bytes = c.read_whole.new.out;
      sectors = are-sectors image (g.S.Shelf.files c.args.shelf.now) c.extent_of.result.at c.extent_of.result.count c.args.at c.args.count c.read_whole.new.out (search rules)
          c.extent_of.ensures.place c.extent_of.ensures.count c.in-Ok.ensures.bytes;
      front = c.in-Err-write_all.ensures.bytes;
    }

pub returns-in-Err-write_all-clause-refused : goal.returns-in-Err-write_all-clause-refused
returns-in-Err-write_all-clause-refused g c = (
  c.in-Err-write_all.ensures.cause.failed refl,
  adds-read g.D.Disk.tells (g.D.Disk.state c.args.image.now.disk) (g.D.Disk.state c.read_whole.new.self.disk) (g.D.Disk.faults c.args.image.now.disk) (g.D.Disk.faults c.read_whole.new.self.disk)
      c.args.image.now.parts c.read_whole.new.self.parts c.extent_of.result.at c.extent_of.result.count c.in-Ok.ensures.goes,
)

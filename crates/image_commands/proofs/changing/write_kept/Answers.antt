use Rattle.std.proofs.Common.{◌≡◌, ℕ, ◌+◌, ◌≤◌, [], ◌∷◌, refl, ap, arith}
use Rattle.sector_extent.specs.Rows.{rows_for}
use Rattle.flat_image.specs.declared.act.Act.{Act}
use Rattle.flat_image.specs.declared.act.Act.TheVariants as act
use Rattle.flat_image.specs.Entries.{entry}
use Rattle.flat_image.specs.Sectors.{sector_count}
use Rattle.image_core.specs.Parts.{parts_view}
use Rattle.image_commands.proofs.ChangeLaws.{standing-then, steps-then, change-refused, change-kept, flush-refused}
use Rattle.image_commands.proofs.changing.write_kept.Goals as goal

pub returns-in-Err-clause-refused : goal.returns-in-Err-clause-refused
returns-in-Err-clause-refused g c =
    let change : Act = act.Write c.args.extent.at c.args.bytes.now in
    let size = c.requires.size in
    let e : c.args.extent.count ≡ sector_count c.args.bytes.now = omega (arith, size) in
    rw c.change_refusal.ensures (change-refused g.D.Disk.tells (g.D.Disk.state c.args.image.now.disk) (g.D.Disk.state c.write.new.self.disk) (g.D.Disk.faults c.args.image.now.disk) (g.D.Disk.faults c.write.new.self.disk)
    c.args.image.now.parts c.write.new.self.parts change ((parts_view c.args.image.now.parts).rows + rows_for c.args.extent.count) ((parts_view c.args.image.now.parts).filled + c.args.extent.count) c.in-Err.fault
    (ap (λ (n : ℕ). (parts_view c.args.image.now.parts).rows + rows_for n) e) (ap (λ (n : ℕ). (parts_view c.args.image.now.parts).filled + n) e)
    c.in-Err.ensures.goes c.in-Err.ensures.full c.in-Err.ensures.only c.in-Err.ensures.cause.failed)

pub flush-requires-clause-standing : goal.flush-requires-clause-standing
flush-requires-clause-standing g c =
    standing-then g.D.Disk.tells (g.D.Disk.state c.args.image.now.disk) (g.D.Disk.state c.write.new.self.disk) (g.D.Disk.faults c.args.image.now.disk) (g.D.Disk.faults c.write.new.self.disk)
    c.args.image.now.parts c.write.new.self.parts (act.Write c.args.extent.at c.args.bytes.now) c.in-Ok.ensures.goes c.requires.standing

pub flush-requires-clause-steps : goal.flush-requires-clause-steps
flush-requires-clause-steps g c =
    let more = steps-then g.D.Disk.tells (g.D.Disk.state c.args.image.now.disk) (g.D.Disk.state c.write.new.self.disk) (g.D.Disk.faults c.args.image.now.disk) (g.D.Disk.faults c.write.new.self.disk)
    c.args.image.now.parts c.write.new.self.parts (act.Write c.args.extent.at c.args.bytes.now) c.in-Ok.ensures.goes c.requires.standing in
    let few = c.requires.steps in
    omega (arith, more, few)

pub returns-in-Ok-flush-clause-adds : goal.returns-in-Ok-flush-clause-adds
returns-in-Ok-flush-clause-adds g c =
    change-kept g.D.Disk.tells (g.D.Disk.state c.args.image.now.disk) (g.D.Disk.state c.write.new.self.disk) (g.D.Disk.state c.flush.new.self.disk)
    (g.D.Disk.faults c.args.image.now.disk) (g.D.Disk.faults c.write.new.self.disk) (g.D.Disk.faults c.flush.new.self.disk)
    c.args.image.now.parts c.write.new.self.parts c.flush.new.self.parts (act.Write c.args.extent.at c.args.bytes.now) refl c.in-Ok.ensures.goes c.in-Ok-flush.ensures.goes

pub returns-in-Err-flush-clause-refused : goal.returns-in-Err-flush-clause-refused
returns-in-Err-flush-clause-refused g c =
    let later : g.D.Disk.faults c.args.image.now.disk ≤ g.D.Disk.faults c.write.new.self.disk = c.write.ensures.cause.later in
    let rose = c.in-Err-flush.ensures.cause.failed refl in (
      omega (arith, later, rose),
      (
        entry 0 (act.Write c.args.extent.at c.args.bytes.now) ∷ [],
        record { rest = entry 0 act.Flush ∷ []; is = refl },
        flush-refused g.D.Disk.tells (g.D.Disk.state c.args.image.now.disk) (g.D.Disk.state c.write.new.self.disk) (g.D.Disk.state c.flush.new.self.disk)
            (g.D.Disk.faults c.args.image.now.disk) (g.D.Disk.faults c.write.new.self.disk) (g.D.Disk.faults c.flush.new.self.disk)
            c.args.image.now.parts c.write.new.self.parts c.flush.new.self.parts (act.Write c.args.extent.at c.args.bytes.now) refl c.in-Ok.ensures.goes c.in-Err-flush.ensures.goes,
      ),
    )

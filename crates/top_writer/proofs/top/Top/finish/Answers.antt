use Rattle.std.proofs.Common.{◌≡◌, subst, arith, Some, None}
use Rattle.seg_table.specs.declared.segment.What.{What}
use Rattle.seg_table.specs.Cells.{cells_of}
use Rattle.top_writer.specs.Files.{data_file}
use Rattle.top_writer.specs.Reading.{Says}
use Rattle.top_writer.proofs.ReadLaws.{read_gap, read_filled}
use Rattle.top_writer.proofs.top.Top.finish.Goals as goal

pub returns-in_ok-push-in-None-clause-read : goal.returns-in_ok-push-in-None-clause-read
returns-in_ok-push-in-None-clause-read g c = λ start gaps_then read.
    let pending = c.requires.pending in
    let extent = c.args.extent.now in
    let run = c.args.run.now in
    let none : run.what ≡ None = c.in-None.is in
    read_gap g.D.Disk.tells ((g.D.Disk.state c.args.disk.now).seen (data_file c.args.self.now.epoch)) (cells_of c.args.self.now.table) extent.at run.at run.count start c.args.out.now
    gaps_then c.args.gaps.now c.push.new.self c.extent.result
    pending.from (omega (arith, c.if-run-eq0.false)) (omega (arith, pending.from, pending.to, c.requires.size))
    (subst (Says (cells_of c.args.self.now.table) run.at run.count) none pending.says)
    (pending.fresh none) c.extent.ensures.at c.extent.ensures.count c.in_ok-push-in-None.ensures.ok read

pub returns-in_ok-fill_stretch-in-Some-clause-read : goal.returns-in_ok-fill_stretch-in-Some-clause-read
returns-in_ok-fill_stretch-in-Some-clause-read g c = λ start gaps_then read.
    let pending = c.requires.pending in
    let extent = c.args.extent.now in
    let run = c.args.run.now in
    let w : What = c.in-Some.what in
    let some : run.what ≡ Some w = c.in-Some.is in
    let fills = c.in_ok-fill_stretch-in-Some.ensures.filled in
    read_filled g.D.Disk.tells ((g.D.Disk.state c.args.disk.now).seen (data_file c.args.self.now.epoch)) (cells_of c.args.self.now.table) extent.at run.at run.count w start c.args.out.now
    c.fill_stretch.new.out fills.piece gaps_then c.args.gaps.now
    pending.from (omega (arith, c.if-run-eq0.false)) (subst (Says (cells_of c.args.self.now.table) run.at run.count) some pending.says)
    fills.size fills.is fills.filled read

use Rattle.std.proofs.Common.{◌∙◌}
use Rattle.top_writer.proofs.MakeGoes.{made_seen}
use Rattle.top_writer.proofs.making.make_file.Goals as goal

pub returns-clause-left : goal.returns-clause-left
returns-clause-left g c = λ x left.
    let told = g.met.D.Disk.told c.sync.new.self c.args.file x left in
    c.in_ok-sync.ensures.durable x left ∙ c.sync.ensures.steps.seen
    ∙ made_seen c.args.block.now ((g.D.Disk.state c.args.disk.now).seen c.args.file) ((g.D.Disk.state c.cut.new.self).seen c.args.file) ((g.D.Disk.state c.write_at.new.self).seen c.args.file)
    (c.in_ok-cut.ensures.cut told) (c.in_ok-write_at.ensures.written told)

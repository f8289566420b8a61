use Rattle.std.proofs.Common.{refl}
use Rattle.top_writer.specs.View.{view_of}
use Rattle.top_writer.proofs.MakeGoes.{made_fits}
use Rattle.top_writer.proofs.top.Top.create.Goals as goal

pub returns-in-Ok-clause-fits : goal.returns-in-Ok-clause-fits
returns-in-Ok-clause-fits g c = λ exact.
    made_fits g.D.Disk.tells (g.D.Disk.state c.make_files.new.disk) c.args.sectors exact c.args.parent
    (view_of (record { epoch = c.args.epoch; sectors = c.args.sectors; mark = c.in-Ok.mark; table = c.new.result; synced = 0; rows = 0; filled = 0; waiting = c.new-in-Ok.result })) c.in-Ok.mark
    c.requires.epoch refl refl refl refl refl c.new-in-Ok.ensures.items c.new.ensures.cells
    c.in-Ok.ensures.bytes c.in-Ok.ensures.index c.in-Ok.ensures.mark

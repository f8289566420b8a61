use Rattle.top_writer.proofs.WriteGoes.{fitted_zeroed}
use Rattle.top_tests.proofs.top_writer_tests.zero.Goals as goal

pub returns-clause-fits : goal.returns-clause-fits
returns-clause-fits g c =
    fitted_zeroed g.D.Disk.tells (g.D.Disk.state c.args.disk.now) c.args.top.now c.zero.new.self _ c.requires.within c.in_ok-zero.ensures.ok c.requires.fits

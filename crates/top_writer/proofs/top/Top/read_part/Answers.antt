use Rattle.top_writer.specs.Files.{data_file}
use Rattle.top_writer.specs.View.{view_of}
use Rattle.top_writer.proofs.WriteGoes.{fitted_quiet}
use Rattle.top_writer.proofs.ReadSheet.{read_paints, read_gaps, low_places}
use Rattle.top_writer.proofs.top.Top.read_part.Goals as goal

pub read_all-requires-clause-low : goal.read_all-requires-clause-low
read_all-requires-clause-low g c =
    let fit = c.requires.fits in
    low_places g.D.Disk.tells (g.D.Disk.state c.args.disk.now) fit.n fit.asked (view_of c.args.self.now) fit.stand fit.may fit.fits

pub returns-clause-bytes : goal.returns-clause-bytes
returns-clause-bytes g c = λ told n asked s may fits.
    read_paints g.D.Disk.tells (g.D.Disk.state c.args.disk.now) n asked (view_of c.args.self.now) s may c.args.extent c.args.out.now c.read_all.new.out c.args.gaps.now c.read_all.new.gaps
    c.requires.within c.requires.size c.in_ok-read_all.ensures.read told fits

pub returns-clause-gaps : goal.returns-clause-gaps
returns-clause-gaps g c = λ n asked s may fits.
    read_gaps g.D.Disk.tells (g.D.Disk.state c.args.disk.now) n asked (view_of c.args.self.now) s may ((g.D.Disk.state c.args.disk.now).seen (data_file c.args.self.now.epoch))
    c.args.extent c.args.out.now c.read_all.new.out c.args.gaps.now c.read_all.new.gaps c.requires.within c.in_ok-read_all.ensures.read fits

pub returns-in_err-read_all-clause-fitted : goal.returns-in_err-read_all-clause-fitted
returns-in_err-read_all-clause-fitted g c =
    fitted_quiet g.D.Disk.tells (g.D.Disk.state c.args.disk.now) (g.D.Disk.state c.read_all.new.disk) c.args.self.now c.read_all.ensures.quiet c.requires.fits

pub returns-clause-fitted : goal.returns-clause-fitted
returns-clause-fitted g c =
    fitted_quiet g.D.Disk.tells (g.D.Disk.state c.args.disk.now) (g.D.Disk.state c.read_all.new.disk) c.args.self.now c.read_all.ensures.quiet c.requires.fits

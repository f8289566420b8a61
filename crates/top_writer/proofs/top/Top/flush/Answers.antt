use Rattle.top_writer.specs.Stands.{unchanged, as_before, just_this, this_too}
use Rattle.top_writer.specs.View.{view_of}
use Rattle.top_writer.proofs.WriteGoes.{fitted_goes}
use Rattle.top_writer.proofs.Exits.{on_err}
use Rattle.top_writer.proofs.FlushGoes.{goes_attempted, goes_flushed, goes_still, goes_this_too, stored_mark}
use Rattle.top_writer.proofs.top.Top.flush.Goals as goal

pub returns-then-is_flushed-clause-ok : goal.returns-then-is_flushed-clause-ok
returns-then-is_flushed-clause-ok g c =
    goes_still g.D.Disk.tells (g.D.Disk.state c.args.disk.now) c.args.self.now (g.met.D.Disk.now_at c.args.disk.now) (c.is_flushed.ensures.0 c.if-is_flushed.true)

pub returns-in_err-store-clause-err : goal.returns-in_err-store-clause-err
returns-in_err-store-clause-err g c =
    on_err c.from_residual.result
    (goes_this_too g.D.Disk.tells (g.D.Disk.state c.args.disk.now) (g.D.Disk.state c.store.new.disk) c.args.self.now c.store.new.self c.store.ensures.goes)

pub set-requires-clause-kept : goal.set-requires-clause-kept
set-requires-clause-kept g c =
    let fit = c.requires.fits in
    stored_mark g.D.Disk.tells (g.D.Disk.state c.store.new.disk) fit.n fit.asked (view_of c.store.new.self) fit.stand fit.may
    (c.in_ok-store.ensures.stored fit.n fit.asked fit.stand fit.may fit.fits)

pub returns-in_err-set-clause-err : goal.returns-in_err-set-clause-err
returns-in_err-set-clause-err g c =
    on_err c.from_residual-in_err-set.result
    (goes_attempted g.D.Disk.tells (g.D.Disk.state c.args.disk.now) (g.D.Disk.state c.store.new.disk) (g.D.Disk.state c.set.new.disk) c.args.self.now c.store.new.self c.set.new.self
    c.body_of-body.result c.store.ensures.goes c.in_ok-store.ensures.stored c.body_of-body.ensures.rows c.body_of-body.ensures.sectors
    c.set.ensures.any_moment c.in_err-set.ensures.err.0 c.set.ensures.kept c.in_err-set.ensures.err_bodies)

pub returns-clause-ok : goal.returns-clause-ok
returns-clause-ok g c =
    goes_flushed g.D.Disk.tells (g.D.Disk.state c.args.disk.now) (g.D.Disk.state c.store.new.disk) (g.D.Disk.state c.set.new.disk) c.args.self.now c.store.new.self c.set.new.self
    c.body_of-body.result c.store.ensures.goes c.store.ensures.mark c.in_ok-store.ensures.stored c.body_of-body.ensures.rows c.body_of-body.ensures.sectors
    c.set.ensures.any_moment c.in_ok-set.ensures.ok c.set.ensures.kept c.in_ok-set.ensures.ok_bodies

pub returns-in_err-store-clause-fitted : goal.returns-in_err-store-clause-fitted
returns-in_err-store-clause-fitted g c =
    fitted_goes g.D.Disk.tells (g.D.Disk.state c.args.disk.now) (g.D.Disk.state c.store.new.disk) c.args.self.now c.store.new.self unchanged as_before c.requires.fits c.store.ensures.goes

pub returns-in_err-set-clause-fitted : goal.returns-in_err-set-clause-fitted
returns-in_err-set-clause-fitted g c =
    fitted_goes g.D.Disk.tells (g.D.Disk.state c.args.disk.now) (g.D.Disk.state c.set.new.disk) c.args.self.now (record c.store.new.self { mark = c.set.new.self }) unchanged this_too c.requires.fits
    (goes_attempted g.D.Disk.tells (g.D.Disk.state c.args.disk.now) (g.D.Disk.state c.store.new.disk) (g.D.Disk.state c.set.new.disk) c.args.self.now c.store.new.self c.set.new.self
    c.body_of-body.result c.store.ensures.goes c.in_ok-store.ensures.stored c.body_of-body.ensures.rows c.body_of-body.ensures.sectors
    c.set.ensures.any_moment c.in_err-set.ensures.err.0 c.set.ensures.kept c.in_err-set.ensures.err_bodies)

pub returns-clause-fitted : goal.returns-clause-fitted
returns-clause-fitted g c =
    fitted_goes g.D.Disk.tells (g.D.Disk.state c.args.disk.now) (g.D.Disk.state c.set.new.disk) c.args.self.now (record c.store.new.self { mark = c.set.new.self }) unchanged just_this c.requires.fits
    (goes_flushed g.D.Disk.tells (g.D.Disk.state c.args.disk.now) (g.D.Disk.state c.store.new.disk) (g.D.Disk.state c.set.new.disk) c.args.self.now c.store.new.self c.set.new.self
    c.body_of-body.result c.store.ensures.goes c.store.ensures.mark c.in_ok-store.ensures.stored c.body_of-body.ensures.rows c.body_of-body.ensures.sectors
    c.set.ensures.any_moment c.in_ok-set.ensures.ok c.set.ensures.kept c.in_ok-set.ensures.ok_bodies)

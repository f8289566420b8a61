use Rattle.std.proofs.Common.{ap, ◌∙◌}
use Rattle.gate_mark.specs.declared.mark.Mark.{Mark}
use Rattle.gate_mark.proofs.Runs.{set_closed, set_filled, set_opened, kept_shows}
use Rattle.gate_mark.proofs.mark.Mark.set.Goals as goal

pub returns-in_err-close-clause-any_moment : goal.returns-in_err-close-clause-any_moment
returns-in_err-close-clause-any_moment g c =
    set_closed c.args.self.now c.args.body.now (g.D.Disk.state c.args.disk.now) (g.D.Disk.state c.close.new.disk) c.close.ensures.run

pub returns-in_err-close-clause-now : goal.returns-in_err-close-clause-now
returns-in_err-close-clause-now g c =
    kept_shows (g.D.Disk.state c.close.new.disk) c.close.new.self c.args.self.now.file (ap (λ (m : Mark). m.file) c.in_err-close.ensures.err) c.close.ensures.kept

pub returns-in_err-fill-clause-any_moment : goal.returns-in_err-fill-clause-any_moment
returns-in_err-fill-clause-any_moment g c =
    set_filled c.args.self.now c.close.new.self c.args.body.now (g.D.Disk.state c.args.disk.now) (g.D.Disk.state c.close.new.disk) (g.D.Disk.state c.fill.new.disk)
    c.in_ok-close.ensures.ok c.close.ensures.run c.fill.ensures.run

pub returns-in_err-fill-clause-now : goal.returns-in_err-fill-clause-now
returns-in_err-fill-clause-now g c =
    kept_shows (g.D.Disk.state c.fill.new.disk) c.close.new.self c.args.self.now.file (ap (λ (m : Mark). m.file) c.in_ok-close.ensures.ok) c.fill.ensures.kept

pub returns-in_err-open-clause-any_moment : goal.returns-in_err-open-clause-any_moment
returns-in_err-open-clause-any_moment g c =
    set_opened c.args.self.now c.close.new.self c.args.body.now (g.D.Disk.state c.args.disk.now) (g.D.Disk.state c.close.new.disk) (g.D.Disk.state c.fill.new.disk) (g.D.Disk.state c.open.new.disk)
    c.in_ok-close.ensures.ok c.close.ensures.run c.fill.ensures.run c.open.ensures.run

pub returns-in_err-open-clause-now : goal.returns-in_err-open-clause-now
returns-in_err-open-clause-now g c =
    kept_shows (g.D.Disk.state c.open.new.disk) c.open.new.self c.args.self.now.file (ap (λ (m : Mark). m.file) c.in_err-open.ensures.err ∙ ap (λ (m : Mark). m.file) c.in_ok-close.ensures.ok) c.open.ensures.kept

pub returns-clause-any_moment : goal.returns-clause-any_moment
returns-clause-any_moment g c =
    set_opened c.args.self.now c.close.new.self c.args.body.now (g.D.Disk.state c.args.disk.now) (g.D.Disk.state c.close.new.disk) (g.D.Disk.state c.fill.new.disk) (g.D.Disk.state c.open.new.disk)
    c.in_ok-close.ensures.ok c.close.ensures.run c.fill.ensures.run c.open.ensures.run

pub returns-clause-now : goal.returns-clause-now
returns-clause-now g c =
    kept_shows (g.D.Disk.state c.open.new.disk) c.open.new.self c.args.self.now.file (ap (λ (m : Mark). m.file) c.in_ok-open.ensures.ok ∙ ap (λ (m : Mark). m.file) c.in_ok-close.ensures.ok) c.open.ensures.kept

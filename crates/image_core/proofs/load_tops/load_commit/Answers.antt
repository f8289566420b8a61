use Rattle.std.proofs.Common.{sym, subst}
use Rattle.std.specs.Prelude.{Some}
use Rattle.image_core.specs.Found.{IsCommitRead}
use Rattle.image_core.proofs.BegunAnew.{commit-read}
use Rattle.image_core.proofs.load_tops.load_commit.Goals as goal

pub returns-clause-read : goal.returns-clause-read
returns-clause-read g c =
    let old = g.D.Disk.state c.args.disk.now in
    let new = g.D.Disk.state c.begin_commit.new.disk in
    let begun = c.in_ok-commit.ensures.begun in (
      Some begun.0,
      subst (λ t. IsCommitRead g.D.Disk.tells old new c.args.named.now c.args.stack t (Some begun.0)) (sym c.with_commit.ensures)
          (commit-read g.D.Disk.tells old new c.args.named.now c.args.stack c.begin_commit.new.stack c.in_ok-commit.commit begun.0 c.in-Some.uuid c.in-Some.is begun.1
          c.in_ok-commit.ensures.uuid c.requires.snapshot begun.2),
    )

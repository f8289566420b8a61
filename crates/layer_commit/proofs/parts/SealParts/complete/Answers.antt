use Rattle.std.proofs.Common.{arith}
use Rattle.layer_commit.specs.View.{view_of}
use Rattle.layer_commit.proofs.FileLaws.{length-sealed}
use Rattle.layer_commit.proofs.SealLaws.{whole_synced}
use Rattle.layer_commit.proofs.parts.SealParts.complete.Goals as goal

pub returns-clause-whole : goal.returns-clause-whole
returns-clause-whole g c = λ stored fits.
    let v = view_of c.args.self.now in
    whole_synced g.D.Disk.tells (g.D.Disk.state c.args.disk.now) (g.D.Disk.state c.sync.new.self) v stored fits c.requires.done (omega (arith, c.requires.done))
    (length-sealed v stored fits.sound fits.within)
    (λ x left. g.met.D.Disk.told c.sync.new.self v.to_file x left) c.sync.ensures.steps c.in_ok-sync.ensures.durable

use Rattle.image_core.specs.Seen.{seen}
use Rattle.image_core.proofs.Reopening.{reopens, reopens-as}
use Rattle.image_core.proofs.laws.loading_laws.Goals as goal

pub returns : goal.returns
returns g c = record {
  reopens = reopens;
  stands = λ base. reopens-as (g.D.Disk.state c.args.old.now) (seen g.D.Disk c.args.image.now) base;
}

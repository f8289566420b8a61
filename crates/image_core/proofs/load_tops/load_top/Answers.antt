use Rattle.image_core.proofs.BegunAnew.{top-read}
use Rattle.image_core.proofs.load_tops.load_top.Goals as goal

pub returns-in-Ok-clause-top : goal.returns-in-Ok-clause-top
returns-in-Ok-clause-top g c =
    let shows = c.in-Ok.ensures.shows in
    let is = c.in-Ok.ensures.is in (
      shows.0,
      top-read g.D.Disk.tells (g.D.Disk.state c.args.disk.now) (g.D.Disk.state c.load.new.disk) c.args.epoch c.args.named.now c.args.lowers.now c.parent_for-parent.result c.in-Ok.top
          shows.0 c.parent_for-parent.ensures shows.1 shows.2 shows.3 is.0 is.1 is.2,
    )

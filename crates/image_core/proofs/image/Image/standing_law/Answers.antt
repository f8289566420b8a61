use Rattle.image_core.proofs.Lifts.{keeps-stands}
use Rattle.image_core.specs.Parts.{parts_view}
use Rattle.image_core.specs.Seen.{seen}
use Rattle.image_core.proofs.PartsHold.{parts-keep}
use Rattle.image_core.proofs.image.Image.standing_law.Goals as goal

pub returns : goal.returns
returns g c base history stands =
    let x = seen g.D.Disk c.args.self.now in
    keeps-stands x.tells x.state x.faults (parts_view x.parts) base history (parts-keep x base history stands)

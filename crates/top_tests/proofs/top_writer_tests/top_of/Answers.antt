use Rattle.std.proofs.Common.{ℕ, Bool, true, List}
use Rattle.block_disk.specs.DiskState.{DiskState}
use Rattle.flat_image.specs.Left.{Stand}
use Rattle.top_writer.specs.declared.top.Top.{Top}
use Rattle.top_writer.specs.Files.{HeadsAsked}
use Rattle.top_writer.specs.Fitting.{TopFits, IsFitted}
use Rattle.top_tests.proofs.top_writer_tests.top_of.Goals as goal

fitted : {tells : Bool} {now : DiskState} {n : ℕ} {asked : HeadsAsked} {top : Top} {stand : Stand} {may : List Stand}
    → TopFits tells now n asked top stand may → IsFitted tells now top
fitted {tells} {now} {n} {asked} {top} {stand} {may} fits = record { n = n; asked = asked; stand = stand; may = may; fits = fits }

pub returns-in-Ok-clause-fits : goal.returns-in-Ok-clause-fits
returns-in-Ok-clause-fits g c = fitted (c.in-Ok.ensures.fits true)

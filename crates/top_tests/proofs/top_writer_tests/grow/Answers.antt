use Rattle.std.proofs.Common.{ℕ, Bool, ◌≤◌, false, map}
use Rattle.block_disk.specs.DiskState.{DiskState}
use Rattle.top_writer.specs.declared.top.Top.{Top}
use Rattle.top_writer.specs.Files.{asked_of}
use Rattle.top_writer.specs.Fitting.{IsFitted}
use Rattle.top_writer.specs.Changes.{IsGrown}
use Rattle.top_writer.specs.Stands.{with_grow}
use Rattle.top_writer.specs.View.{view_of, sectors_of}
use Rattle.top_writer.proofs.GrowLaws.{fits_grown}
use Rattle.top_tests.proofs.top_writer_tests.grow.Goals as goal

fitted_grown : (tells : Bool) (now : DiskState) (sectors : ℕ) (p q : Top) → sectors_of p ≤ sectors → IsGrown (view_of p) sectors (view_of q)
    → IsFitted tells now p → IsFitted tells now q
fitted_grown tells now sectors p q more grown fitted = record {
  n = sectors;
  asked = asked_of false fitted.asked.parent;
  stand = with_grow sectors fitted.stand;
  may = map (with_grow sectors) fitted.may;
  fits = fits_grown tells now fitted.n sectors fitted.asked p q fitted.stand fitted.may more grown fitted.fits;
}

pub returns-clause-fits : goal.returns-clause-fits
returns-clause-fits g c =
    fitted_grown g.D.Disk.tells (g.D.Disk.state c.args.disk.now) c.args.sectors c.args.top.now c.grow.new.self c.requires.more c.grow.ensures c.requires.fits

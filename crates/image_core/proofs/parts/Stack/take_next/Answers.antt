use Rattle.std.proofs.Common.{◌+◌, ◌^◌, ap, ◌∙◌, arith, [], ◌∷◌}
use Rattle.std.specs.Prelude.{false, Some, None}
use Rattle.lsmt_header.specs.Blocks.{nil}
use Rattle.flat_image.specs.Left.{fresh_stand}
use Rattle.top_writer.specs.Files.{asked_of}
use Rattle.top_writer.specs.View.{view_of}
use Rattle.image_core.proofs.FrozenTops.{fits-less}
use Rattle.image_core.proofs.parts.Stack.take_next.Goals as goal

pub returns-in-Ok-clause-fits : goal.returns-in-Ok-clause-fits
returns-in-Ok-clause-fits g c frozen none fit = record {
  free = none;
  epoch = c.in-Ok.ensures.is.0 ∙ ap (λ k. k + 1) c.count.ensures;
  sequence = omega (arith, c.in-Ok.ensures.is.2);
  top = fits-less g.D.Disk.tells (g.D.Disk.state c.create.new.disk) c.args.sectors (asked_of false (Some nil)) (asked_of false None)
      (λ e. e) (λ parent asked. tt) (view_of c.in-Ok.next) (fresh_stand c.args.sectors) (fresh_stand c.args.sectors ∷ []) (c.in-Ok.ensures.fits false);
}

use Rattle.std.proofs.Common.{◌≡◌, false, true, List, refl, sym, subst, arith}
use Rattle.std.proofs.lemmas.List.{take_all}
use Rattle.sealed_layer.specs.Layers.{LayerIndex}
use Rattle.top_writer.specs.Files.{IsSizeFor}
use Rattle.image_core.specs.Shows.{HaveSize}
use Rattle.image_core.specs.Loading.{heads_in}
use Rattle.image_core.proofs.SealedReads.{size-more, size-at}
use Rattle.image_core.proofs.load_layers.have_size.Goals as goal

pub loop-layer-preserved : goal.loop-layer-preserved
loop-layer-preserved c =
    size-more c.args.named.now.exact c.args.named.now.sectors c.args.layers.now c.loop-layer.layer-index c.layer-item.result c.head.result.now c.loop-layer-test.true
    (sym c.layer-item.is) c.head.ensures c.loop-layer.invariant (c.is_size-fits.ensures.0 c.if-not-fits.false)

pub returns-then-not-fits : goal.returns-then-not-fits
returns-then-not-fits c = (
  λ is. absurd (let no : false ≡ true = is in cc),
  λ sizes.
      let at = size-at c.args.named.now.exact c.args.named.now.sectors c.args.layers.now c.loop-layer.layer-index c.layer-item.result c.loop-layer-test.true (sym c.layer-item.is) sizes in
      let yes = c.is_size-fits.ensures.1 (subst (λ h. IsSizeFor c.args.named.now.exact c.args.named.now.sectors h.sectors) (sym c.head.ensures) at) in
      absurd (let no = c.if-not-fits.true in cc),
)

pub returns : goal.returns
returns c = (
  λ is. subst (λ (l : List LayerIndex). HaveSize c.args.named.now.exact c.args.named.now.sectors (heads_in l))
      (take_all c.loop-layer.layer-index c.args.layers.now (omega (arith, c.loop-layer-test.false))) c.loop-layer.invariant,
  λ sizes. refl,
)

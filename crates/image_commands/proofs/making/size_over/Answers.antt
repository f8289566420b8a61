use Rattle.std.proofs.Common.{◌≡◌, ℕ, ◌-◌, ◌∙◌, List, length, sym, subst, arith}
use Rattle.std.specs.Prelude.{Option}
use Rattle.sealed_layer.specs.Layers.{LayerIndex}
use Rattle.image_commands.specs.Images.{IsSizeFor}
use Rattle.layer_commands.specs.Flattening.{upper_sectors}
use Rattle.layer_commands.proofs.Pieces.{last_sectors}
use Rattle.image_commands.proofs.MakeLaws.{legal-size, some-layer}
use Rattle.image_commands.proofs.making.size_over.Goals as goal

pub returns-then-sectors-own-clause-refused : goal.returns-then-sectors-own-clause-refused
returns-then-sectors-own-clause-refused c =
    let own : c.in-Some.upper.now.head.sectors ≡ upper_sectors c.args.layers.now = last_sectors c.args.layers.now c.in-Some.upper.now (sym c.in-Some.ensures.value) in
    (c.in-Some-asked-2.sectors, c.in-Some-asked-2.is, omega (arith, own, c.layer_size-own.ensures.is, c.if-sectors-own.true))

pub returns-else-sectors-own-clause-legal : goal.returns-else-sectors-own-clause-legal
returns-else-sectors-own-clause-legal c =
    legal-size c.args.layers.now c.in-Some.upper.now c.in-Some-asked-2.sectors c.requires.sound (sym c.in-Some.ensures.value)
    (omega (arith, c.layer_size-own.ensures.is, c.if-sectors-own.false)) c.requires.stack

pub returns-in-None-asked-clause-legal : goal.returns-in-None-asked-clause-legal
returns-in-None-asked-clause-legal c =
    legal-size c.args.layers.now c.in-Some.upper.now c.layer_size-own.result c.requires.sound (sym c.in-Some.ensures.value)
    (omega (arith, c.layer_size-own.ensures.is)) c.requires.stack

pub returns-in-None-asked-clause-asked : goal.returns-in-None-asked-clause-asked
returns-in-None-asked-clause-asked c =
    let layers : List LayerIndex = c.args.layers.now in
    let there = sym c.in-Some.ensures.value in
    subst (λ (o : Option ℕ). IsSizeFor o (length layers) (upper_sectors layers) c.layer_size-own.result) (sym c.in-None-asked.is)
    (some-layer layers c.in-Some.upper.now (length layers - 1) there, c.layer_size-own.ensures.is ∙ last_sectors layers c.in-Some.upper.now there)

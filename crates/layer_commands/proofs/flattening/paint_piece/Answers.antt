use Rattle.std.proofs.Common.{◌≡◌, ℕ, ◌*◌, ◌/◌, ◌≤◌, List, length, drop, refl, sym, ap, ◌∙◌, arith}
use Rattle.std.proofs.lemmas.List.{length-replicate}
use Rattle.layer_shelf.specs.Shelves.{file_at}
use Rattle.sealed_layer.specs.Layers.{LayerIndex}
use Rattle.sealed_layer.specs.Painting.{Paints}
use Rattle.layer_commands.specs.Flattening.{overlaid, layer_over, flat_part}
use Rattle.sector_extent.specs.CauseLaws.{calm_ok}
use Rattle.layer_commands.proofs.Pieces.{IfSome-at, IfSome-each, told_at, overlaid-step, overlaid-end}
use Rattle.layer_commands.proofs.flattening.paint_piece.Goals as goal

pub paint_part-requires-clause-whole : goal.paint_part-requires-clause-whole
paint_part-requires-clause-whole g c = let size = c.loop-k.invariant.size in omega (arith, size)

pub paint_part-requires-clause-within : goal.paint_part-requires-clause-within
paint_part-requires-clause-within g c =
    let size = c.loop-k.invariant.size in
    let within = c.requires.within in
    omega (arith, size, within)

pub paint_part-requires-clause-told : goal.paint_part-requires-clause-told
paint_part-requires-clause-told g c =
    λ files e. told_at files c.args.layers.now c.loop-k.k c.index-layers-k.result (c.requires.told files (sym c.loop-k.invariant.files ∙ e)) c.loop-k-test.true c.index-layers-k.is

pub loop-k-init : goal.loop-k-init
loop-k-init g c = record {
  files = refl;
  count = refl;
  faults = refl;
  painted = IfSome-each (g.S.Shelf.files c.args.shelf.now) (λ files e.
      ap (λ (old : List ℕ). overlaid files c.args.layers.now c.args.at c.args.count old) c.requires.blank);
  size = ap length c.requires.blank ∙ length-replicate {A = ℕ} (512 * c.args.count) 0;
}

pub loop-k-preserved : goal.loop-k-preserved
loop-k-preserved g c =
    let layer : LayerIndex = c.index-layers-k.result in
    let old : List ℕ = c.loop-k.piece in
    let new : List ℕ = c.paint_part.new.out in
    let told : List (List ℕ) → Type 0 = λ files. overlaid (drop c.loop-k.k files) (drop c.loop-k.k c.args.layers.now) c.args.at c.args.count old ≡ flat_part files c.args.layers.now c.args.at c.args.count in
    let by : List (List ℕ) → Type 0 = λ files. Paints (file_at files c.loop-k.k) layer.rows c.args.at old new in
    let size : length old ≡ 512 * c.args.count = c.loop-k.invariant.size in
    let sectors : length old / 512 ≡ c.args.count = omega (arith, size) in
    record {
      files = c.paint_part.ensures.same.files ∙ c.loop-k.invariant.files;
      count = c.paint_part.ensures.same.count ∙ c.loop-k.invariant.count;
      faults = calm_ok g.S.Shelf.faults c.loop-k.shelf c.paint_part.new.shelf c.in_ok-paint_part.ensures.cause ∙ c.loop-k.invariant.faults;
      painted = IfSome-each (g.S.Shelf.files c.args.shelf.now) (λ files e.
          let so_far : told files = IfSome-at (g.S.Shelf.files c.args.shelf.now) told files e c.loop-k.invariant.painted in
          let paints : by files = IfSome-at (g.S.Shelf.files c.loop-k.shelf) by files (c.loop-k.invariant.files ∙ e) c.in_ok-paint_part.ensures.painted in
          overlaid-step files c.args.layers.now c.loop-k.k c.args.at c.args.count layer old new (c.requires.told files e) c.loop-k-test.true c.index-layers-k.is
          (paints ∙ ap (λ (k : ℕ). layer_over (file_at files c.loop-k.k) layer.rows c.args.at k old) sectors)
          ∙ so_far);
      size = omega arith;
    }

pub returns-clause-painted : goal.returns-clause-painted
returns-clause-painted g c =
    let told : List (List ℕ) → Type 0 = λ files. overlaid (drop c.loop-k.k files) (drop c.loop-k.k c.args.layers.now) c.args.at c.args.count c.loop-k.piece ≡ flat_part files c.args.layers.now c.args.at c.args.count in
    IfSome-each (g.S.Shelf.files c.args.shelf.now) (λ files e.
    let so_far : told files = IfSome-at (g.S.Shelf.files c.args.shelf.now) told files e c.loop-k.invariant.painted in
    let past : length c.args.layers.now ≤ c.loop-k.k = c.loop-k-test.false in
    sym (overlaid-end files c.args.layers.now c.loop-k.k c.args.at c.args.count c.loop-k.piece (c.requires.told files e) past) ∙ so_far)

use Rattle.std.proofs.Common.{◌≡◌, ℕ, ◌+◌, ◌<◌, List, [], ◌∷◌, ◌++◌, length, take, sym, ap, ◌∙◌, subst, arith, length-append}
use Rattle.std.specs.Prelude.{Option}
use Rattle.std.proofs.lemmas.Result.{err_from_is_err_and}
use Rattle.layer_shelf.specs.Shelves.{file_at}
use Rattle.flat_image.specs.LayerFiles.{LayerOf}
use Rattle.std.specs.List.{All}
use Rattle.std.proofs.lemmas.List.Elements.{All-push}
use Rattle.sealed_layer.specs.Layers.{LayerIndex, IsLayerIndex}
use Rattle.layer_commands.specs.Flattening.{AreTold}
use Rattle.layer_commands.specs.Reading.{IsFileRefusal}
use Rattle.sector_extent.specs.CauseLaws.{calm_value}
use Rattle.layer_commands.specs.declared.refusal.Refusal.TheVariants.{ShelfFault}
use Rattle.layer_commands.proofs.Charged.{charges_err}
use Rattle.layer_commands.proofs.Pieces.{IfSome-at, IfSome-each}
use Rattle.layer_commands.proofs.Readings.{files_refusal, told_more}
use Rattle.layer_commands.proofs.stacks.read_layers.Goals as goal

pub returns-in_err-layer-clause-refused : goal.returns-in_err-layer-clause-refused
returns-in_err-layer-clause-refused g c =
    let files = g.S.Shelf.files c.args.shelf.now in
    let k : ℕ = c.loop-k.k in
    let within : k < g.S.Shelf.count c.args.shelf.now = omega arith in
    let p = err_from_is_err_and c.from_residual.result c.from_residual.ensures.1 in
    rw (p.1, p.2) (files_refusal files c.loop-k.layers.items (g.S.Shelf.count c.args.shelf.now) k (g.met.S.Shelf.counted c.args.shelf.now) within
    c.loop-k.invariant.told c.in_err-layer.field-0.0
    (let F : Option (List (List ℕ)) → Type 0 = λ o. IsFileRefusal o k c.in_err-layer.field-0.0 in subst F c.loop-k.invariant.files c.in_err-layer.ensures.refused))

pub returns-in_err-layer-clause-cause : goal.returns-in_err-layer-clause-cause
returns-in_err-layer-clause-cause g c =
    let p = err_from_is_err_and c.from_residual.result c.from_residual.ensures.1 in
    rw (p.1, p.2) (charges_err g.S.Shelf.faults c.args.shelf.now c.loop-k.shelf c.read_one.new.shelf c.in_err-layer.field-0.0 ShelfFault c.loop-k.invariant.faults c.in_err-layer.ensures.cause)

pub loop-k-preserved : goal.loop-k-preserved
loop-k-preserved g c =
    let files = g.S.Shelf.files c.args.shelf.now in
    let count = g.S.Shelf.count c.args.shelf.now in
    let k : ℕ = c.loop-k.k in
    let layer : LayerIndex = c.in_ok-layer.layer in
    let layers : List LayerIndex = c.loop-k.layers.items in
    let pushed : c.push.new.self.items ≡ layers ++ layer ∷ [] = c.in_ok-push.ensures.items in
    let within : k < count = omega arith in
    let Sound : LayerIndex → Type 0 = λ one. IsLayerIndex one.head one.rows in
    record {
      told = IfSome-each files (λ list e.
          let whole : length list ≡ count = IfSome-at files (λ list. length list ≡ count) list e (g.met.S.Shelf.counted c.args.shelf.now) in
          let before : AreTold (take k list) layers = IfSome-at files (λ list. AreTold (take k list) layers) list e c.loop-k.invariant.told in
          let one : LayerOf (file_at list k) layer.head layer.rows = IfSome-at (g.S.Shelf.files c.loop-k.shelf) (λ list. LayerOf (file_at list k) layer.head layer.rows) list (c.loop-k.invariant.files ∙ e) c.in_ok-layer.ensures.found in
          let here : k < length list = omega (arith, whole, within) in
          subst (λ items. AreTold (take (k + 1) list) items) (sym pushed) (told_more list layers k layer here before one));
      sound = subst (λ (items : List LayerIndex). All Sound items) (sym pushed)
          (All-push Sound layers layer c.loop-k.invariant.sound c.in_ok-layer.ensures.sound);
      size = let long = length-append layers (layer ∷ []) in let size = c.loop-k.invariant.size in ap length pushed ∙ omega (arith, long, size);
      files = c.read_one.ensures.same.files ∙ c.loop-k.invariant.files;
      count = c.read_one.ensures.same.count ∙ c.loop-k.invariant.count;
      faults = calm_value g.S.Shelf.faults c.loop-k.shelf c.read_one.new.shelf c.in_ok-layer.layer ShelfFault c.in_ok-layer.ensures.cause ∙ c.loop-k.invariant.faults;
    }

use Rattle.std.proofs.Common.{◌∙◌, ℕ, List, IfSome, map, subst, sym, false}
use Rattle.std.specs.Prelude.{Option}
use Rattle.std.proofs.lemmas.Result.{on_ok_weaker}
use Rattle.tool_setup.specs.declared.command.Command.TheVariants.{Flatten}
use Rattle.layer_commands.specs.Ports.{shelf_ports}
use Rattle.layer_commands.specs.Causes.{Cause}
use Rattle.layer_commands.proofs.OneLayers.{err_both}
use Rattle.std.specs.Io.KnownBytes.{Appends}
use Rattle.byte_ports.specs.Ports.{AppendsFront}
use Rattle.flat_image.specs.Stacks.{Legal}
use Rattle.sealed_layer.specs.Layers.{LayerIndex}
use Rattle.layer_commands.specs.Flattening.{AreTold, FitIn, told_flat, upper_sectors}
use Rattle.layer_commands.proofs.Pieces.{IfSome-at}
use Rattle.layer_commands.proofs.ToldLayers.{stack_fits}
use Rattle.layer_commands.proofs.ShelfCommands.{flatten_told, flat_refused}
use Rattle.layer_commands.proofs.commands.flatten_shelf.Goals as goal

pub returns-clause-done : goal.returns-clause-done
returns-clause-done g c =
    let files = g.S.Shelf.files c.args.shelf.now in
    let old = g.B.Sink.written c.args.out.now in
    let new = g.B.Sink.written c.write_flat.new.out in
    let stack : List LayerIndex = c.as_slice-stack.result.now in
    let back = sym c.as_slice-stack.ensures.value in
    let told = subst (λ (layers : List LayerIndex). IfSome files (λ list. AreTold list layers)) back c.in_ok-layers.ensures.told in
    let legal = subst (λ (layers : List LayerIndex). Legal (map (λ layer. layer.head) layers)) back c.in_ok-layers.ensures.legal in
    let F : Option (List (List ℕ)) → Type 0 = λ o. IfSome o (λ list. Appends old new (told_flat c.stack_sectors-sectors.result list stack)) in
    on_ok_weaker c.write_flat.result
    (λ (written : F (g.S.Shelf.files c.read_stack.new.shelf)).
    flatten_told (Appends old new) files stack c.stack_sectors-sectors.result told legal c.stack_sectors-sectors.ensures.value (subst F c.read_stack.ensures.same.files written))
    c.write_flat.ensures.done

pub returns-clause-refused : goal.returns-clause-refused
returns-clause-refused g c =
    let files = g.S.Shelf.files c.args.shelf.now in
    let old = g.B.Sink.written c.args.out.now in
    let new = g.B.Sink.written c.write_flat.new.out in
    let stack : List LayerIndex = c.as_slice-stack.result.now in
    let back = sym c.as_slice-stack.ensures.value in
    let told = subst (λ (layers : List LayerIndex). IfSome files (λ list. AreTold list layers)) back c.in_ok-layers.ensures.told in
    let legal = subst (λ (layers : List LayerIndex). Legal (map (λ layer. layer.head) layers)) back c.in_ok-layers.ensures.legal in
    let F : Option (List (List ℕ)) → Type 0 = λ o. IfSome o (λ list. AppendsFront old new (told_flat c.stack_sectors-sectors.result list stack)) in
    err_both c.write_flat.result (F (g.S.Shelf.files c.read_stack.new.shelf)) _
    (Cause (Flatten false) (shelf_ports files (g.S.Shelf.count c.args.shelf.now) (g.S.Shelf.faults c.args.shelf.now) old (g.B.Sink.faults c.args.out.now))
    (shelf_ports (g.S.Shelf.files c.write_flat.new.shelf) (g.S.Shelf.count c.write_flat.new.shelf) (g.S.Shelf.faults c.write_flat.new.shelf) new (g.B.Sink.faults c.write_flat.new.out)))
    (λ refusal is written only.
    let front = flatten_told (AppendsFront old new) files stack c.stack_sectors-sectors.result told legal c.stack_sectors-sectors.ensures.value (subst F c.read_stack.ensures.same.files written) in
    flat_refused files (g.S.Shelf.files c.write_flat.new.shelf) (g.S.Shelf.count c.args.shelf.now) (g.S.Shelf.count c.write_flat.new.shelf)
    (g.S.Shelf.faults c.args.shelf.now) (g.S.Shelf.faults c.write_flat.new.shelf) old new (g.B.Sink.faults c.args.out.now) (g.B.Sink.faults c.write_flat.new.out) _ refusal front only)
    c.write_flat.ensures.front c.write_flat.ensures.only

pub write_flat-requires-clause-told : goal.write_flat-requires-clause-told
write_flat-requires-clause-told g c =
    λ list e.
    let told : AreTold list c.in_ok-layers.layers.items =
    IfSome-at (g.S.Shelf.files c.args.shelf.now) (λ list. AreTold list c.in_ok-layers.layers.items) list (sym c.read_stack.ensures.same.files ∙ e) c.in_ok-layers.ensures.told in
    subst (λ (layers : List LayerIndex). AreTold list layers) (sym c.as_slice-stack.ensures.value) told

pub write_flat-requires-clause-sizes : goal.write_flat-requires-clause-sizes
write_flat-requires-clause-sizes g c =
    λ list e.
    let layers = c.in_ok-layers.layers.items in
    let told : AreTold list layers =
    IfSome-at (g.S.Shelf.files c.args.shelf.now) (λ list. AreTold list layers) list (sym c.read_stack.ensures.same.files ∙ e) c.in_ok-layers.ensures.told in
    let fits : FitIn (upper_sectors layers) layers = stack_fits list layers told c.in_ok-layers.ensures.legal.sizes in
    subst (λ (n : ℕ). FitIn n c.as_slice-stack.result.now) (sym c.stack_sectors-sectors.ensures.value)
    (subst (λ (l : List LayerIndex). FitIn (upper_sectors l) l) (sym c.as_slice-stack.ensures.value) fits)

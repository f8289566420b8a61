use Rattle.std.proofs.Common.{◌∙◌, List, map, ap}
use Rattle.std.proofs.lemmas.Result.{on_ok_weaker}
use Rattle.std.specs.Io.KnownBytes.{Appends}
use Rattle.byte_ports.specs.Ports.{AppendsFront}
use Rattle.sealed_layer.specs.Layers.{LayerIndex}
use Rattle.tool_setup.specs.declared.command.Command.TheVariants.{Stack}
use Rattle.layer_commands.specs.Reports.{stack_lines}
use Rattle.layer_commands.specs.Ports.{shelf_ports}
use Rattle.layer_commands.proofs.ShelfCommands.{stack_told, sink_refused}
use Rattle.layer_commands.proofs.commands.print_stack.Goals as goal

pub returns-clause-done : goal.returns-clause-done
returns-clause-done g c =
    let is = c.as_bytes.ensures.value ∙ c.in_ok-text.ensures ∙ ap (λ (layers : List LayerIndex). stack_lines 0 (map (λ layer. layer.head) layers)) c.as_slice.ensures.value in
    on_ok_weaker c.write_text.result
    (stack_told (Appends (g.B.Sink.written c.args.out.now) (g.B.Sink.written c.write_text.new.out)) (g.S.Shelf.files c.args.shelf.now) c.in_ok-layers.layers.items
    c.as_bytes.result.now c.in_ok-layers.ensures.told c.in_ok-layers.ensures.legal is)
    c.write_text.ensures.done

pub returns-clause-refused : goal.returns-clause-refused
returns-clause-refused g c =
    let old = g.B.Sink.written c.args.out.now in
    let new = g.B.Sink.written c.write_text.new.out in
    let is = c.as_bytes.ensures.value ∙ c.in_ok-text.ensures ∙ ap (λ (layers : List LayerIndex). stack_lines 0 (map (λ layer. layer.head) layers)) c.as_slice.ensures.value in
    let before = shelf_ports (g.S.Shelf.files c.args.shelf.now) (g.S.Shelf.count c.args.shelf.now) (g.S.Shelf.faults c.args.shelf.now) old (g.B.Sink.faults c.args.out.now) in
    let now = shelf_ports (g.S.Shelf.files c.read_stack.new.shelf) (g.S.Shelf.count c.read_stack.new.shelf) (g.S.Shelf.faults c.read_stack.new.shelf) new (g.B.Sink.faults c.write_text.new.out) in
    sink_refused c.write_text.result Stack before now old new c.as_bytes.result.now c.write_text.ensures.refused c.write_text.ensures.front
    (stack_told (AppendsFront old new) (g.S.Shelf.files c.args.shelf.now) c.in_ok-layers.layers.items c.as_bytes.result.now c.in_ok-layers.ensures.told c.in_ok-layers.ensures.legal is)

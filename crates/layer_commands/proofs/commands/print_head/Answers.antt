use Rattle.std.proofs.Common.{◌∙◌, ◌<◌, ap, arith, inl}
use Rattle.std.specs.Prelude.{None}
use Rattle.std.specs.Io.KnownBytes.{Appends}
use Rattle.byte_ports.specs.Ports.{AppendsFront}
use Rattle.std.proofs.KnownBytes.{Keeps-refl}
use Rattle.std.proofs.lemmas.Result.{err_from_is_err_and, on_ok_weaker}
use Rattle.tool_setup.specs.declared.command.Command.TheVariants.{Info}
use Rattle.layer_commands.specs.Reports.{info_lines}
use Rattle.layer_commands.specs.Ports.{shelf_ports}
use Rattle.layer_commands.proofs.AllPorts.{none_taken}
use Rattle.layer_commands.proofs.ShelfCommands.{info_told, info_refused, sink_refused}
use Rattle.layer_commands.proofs.commands.print_head.Goals as goal

pub returns-clause-done : goal.returns-clause-done
returns-clause-done g c =
    let k = c.args.number in
    let layer = c.in_ok-layer.layer in
    let within : k < g.S.Shelf.count c.args.shelf.now = omega arith in
    let is = c.as_bytes.ensures.value ∙ c.in_ok-text.ensures ∙ ap (λ head. info_lines k head) c.head.ensures in
    on_ok_weaker c.write_text.result
    (info_told (Appends (g.B.Sink.written c.args.out.now) (g.B.Sink.written c.write_text.new.out)) (g.S.Shelf.files c.args.shelf.now) layer k (g.S.Shelf.count c.args.shelf.now)
    c.as_bytes.result.now (g.met.S.Shelf.counted c.args.shelf.now) within c.in_ok-layer.ensures.found is)
    c.write_text.ensures.done

pub returns-clause-refused : goal.returns-clause-refused
returns-clause-refused g c =
    let k = c.args.number in
    let layer = c.in_ok-layer.layer in
    let old = g.B.Sink.written c.args.out.now in
    let new = g.B.Sink.written c.write_text.new.out in
    let within : k < g.S.Shelf.count c.args.shelf.now = omega arith in
    let is = c.as_bytes.ensures.value ∙ c.in_ok-text.ensures ∙ ap (λ head. info_lines k head) c.head.ensures in
    let before = shelf_ports (g.S.Shelf.files c.args.shelf.now) (g.S.Shelf.count c.args.shelf.now) (g.S.Shelf.faults c.args.shelf.now) old (g.B.Sink.faults c.args.out.now) in
    let now = shelf_ports (g.S.Shelf.files c.read_one.new.shelf) (g.S.Shelf.count c.read_one.new.shelf) (g.S.Shelf.faults c.read_one.new.shelf) new (g.B.Sink.faults c.write_text.new.out) in
    sink_refused c.write_text.result (Info k) before now old new c.as_bytes.result.now c.write_text.ensures.refused c.write_text.ensures.front
    (info_told (AppendsFront old new) (g.S.Shelf.files c.args.shelf.now) layer k (g.S.Shelf.count c.args.shelf.now) c.as_bytes.result.now (g.met.S.Shelf.counted c.args.shelf.now) within
    c.in_ok-layer.ensures.found is)

pub returns-in_err-layer-clause-refused : goal.returns-in_err-layer-clause-refused
returns-in_err-layer-clause-refused g c =
    let k = c.args.number in
    let within : k < g.S.Shelf.count c.args.shelf.now = omega arith in
    let p = err_from_is_err_and c.from_residual.result c.from_residual.ensures.1 in
    rw (p.1, p.2) (info_refused (g.S.Shelf.files c.args.shelf.now) (g.S.Shelf.files c.read_one.new.shelf) k (g.S.Shelf.count c.args.shelf.now) (g.S.Shelf.count c.read_one.new.shelf)
    (g.S.Shelf.faults c.args.shelf.now) (g.S.Shelf.faults c.read_one.new.shelf) (g.B.Sink.written c.args.out.now) (g.B.Sink.faults c.args.out.now) (g.B.Sink.faults c.args.out.now)
    (g.met.S.Shelf.counted c.args.shelf.now) within c.in_err-layer.field-0.0 c.in_err-layer.ensures.refused)

pub returns-in_err-text-clause-refused : goal.returns-in_err-text-clause-refused
returns-in_err-text-clause-refused g c =
    let p = err_from_is_err_and c.from_residual-in_err-text.result c.from_residual-in_err-text.ensures.1 in
    rw (p.1, p.2) (none_taken None, inl (Keeps-refl (g.B.Sink.written c.args.out.now)))

use Rattle.std.proofs.Common.{ℕ, ◌^◌, ◌≤◌, List, length, subst, arith}
use Rattle.std.proofs.lemmas.Result.{on_ok_weaker}
use Rattle.tool_setup.specs.declared.command.Command.TheVariants.{Flatten}
use Rattle.std.specs.Prelude.{true}
use Rattle.layer_commands.specs.Causes.{Cause}
use Rattle.layer_commands.specs.Ports.{source_ports}
use Rattle.layer_commands.specs.OneLayer.{IsImageCause, WritesImage}
use Rattle.layer_commands.proofs.OneLayers.{err_each, source_done, source_cause}
use Rattle.layer_commands.proofs.one_layer.flatten_source.Goals as goal

pub returns-in-Ok-clause-done : goal.returns-in-Ok-clause-done
returns-in-Ok-clause-done g c =
    let few : length c.in-Ok.bytes.items ≤ 2 ^ 30 = let short = c.in-Ok.ensures.short in omega (arith, short) in
    on_ok_weaker c.flatten_file.result
    (λ writes. source_done (g.A.Source.left c.args.source.now) (g.A.Source.left c.read_input.new.source) c.in-Ok.bytes.items (g.B.Sink.written c.args.out.now) (g.B.Sink.written c.flatten_file.new.out)
    (g.A.Source.faults c.args.source.now) (g.A.Source.faults c.read_input.new.source) (g.B.Sink.faults c.args.out.now) (g.B.Sink.faults c.flatten_file.new.out) c.in-Ok.ensures.whole few
    (subst (λ (file : List ℕ). WritesImage file (g.B.Sink.written c.args.out.now) (g.B.Sink.written c.flatten_file.new.out)) c.as_slice.ensures.value writes))
    c.flatten_file.ensures.done

pub returns-in-Ok-clause-refused : goal.returns-in-Ok-clause-refused
returns-in-Ok-clause-refused g c =
    let few : length c.in-Ok.bytes.items ≤ 2 ^ 30 = let short = c.in-Ok.ensures.short in omega (arith, short) in
    let left = g.A.Source.left c.args.source.now in
    let left' = g.A.Source.left c.read_input.new.source in
    let old = g.B.Sink.written c.args.out.now in
    let new = g.B.Sink.written c.flatten_file.new.out in
    let a = g.A.Source.faults c.args.source.now in
    let a' = g.A.Source.faults c.read_input.new.source in
    let s = g.B.Sink.faults c.args.out.now in
    let s' = g.B.Sink.faults c.flatten_file.new.out in
    let file = c.in-Ok.bytes.items in
    err_each c.flatten_file.result (IsImageCause c.as_slice.result.now old new) (Cause (Flatten true) (source_ports left a old s) (source_ports left' a' new s'))
    (λ refusal is cause. source_cause left left' file old new a a' s s' c.in-Ok.ensures.whole few (c.in-Ok.bytes.items, c.in-Ok.ensures.taken, few) refusal
    (subst (λ (bytes : List ℕ). IsImageCause bytes old new refusal) c.as_slice.ensures.value cause))
    c.flatten_file.ensures.refused

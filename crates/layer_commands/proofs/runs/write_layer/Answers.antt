use Rattle.std.proofs.Common.{[], ◌∷◌}
use Rattle.std.proofs.KnownBytes.{Keeps-refl}
use Rattle.std.proofs.lemmas.Result.{err_from_is_err_and, on_ok_weaker, on_err_weaker}
use Rattle.byte_ports.proofs.Chains.{AppendsFront-none}
use Rattle.layer_commands.specs.Flattening.{told_flat}
use Rattle.layer_commands.proofs.RunLaws.{all_put, all_front, front_put}
use Rattle.layer_commands.proofs.runs.write_layer.Goals as goal

pub returns-in_err-blank-clause-front : goal.returns-in_err-blank-clause-front
returns-in_err-blank-clause-front g c =
    let p = err_from_is_err_and c.from_residual.result c.from_residual.ensures.1 in
    let a = g.B.Sink.written c.args.out.now in
    rw p.1 (AppendsFront-none a a _ (Keeps-refl a))

pub returns-in_err-kept-clause-front : goal.returns-in_err-kept-clause-front
returns-in_err-kept-clause-front g c =
    let p = err_from_is_err_and c.from_residual-in_err-kept.result c.from_residual-in_err-kept.ensures.1 in
    let a = g.B.Sink.written c.args.out.now in
    rw p.1 (AppendsFront-none a a _ (Keeps-refl a))

pub returns-in_err-put_layer-clause-front : goal.returns-in_err-put_layer-clause-front
returns-in_err-put_layer-clause-front g c =
    let p = err_from_is_err_and c.from_residual-in_err-put_layer.result c.from_residual-in_err-put_layer.ensures.1 in
    rw p.1 (front_put (g.B.Sink.written c.args.out.now) (g.B.Sink.written c.put_layer.new.out) c.in_ok-kept.kept.items
    (told_flat c.args.layer.now.head.sectors (c.args.file.now ∷ []) (c.args.layer.now ∷ [])) c.in_ok-kept.ensures.items c.in_err-put_layer.ensures.front)

pub returns-clause-done : goal.returns-clause-done
returns-clause-done g c =
    on_ok_weaker c.write_kept.result
    (all_put (g.B.Sink.written c.args.out.now) (g.B.Sink.written c.put_layer.new.out) (g.B.Sink.written c.write_kept.new.out) c.in_ok-kept.kept.items c.put_layer.new.kept.items
    (told_flat c.args.layer.now.head.sectors (c.args.file.now ∷ []) (c.args.layer.now ∷ [])) c.in_ok-kept.ensures.items c.in_ok-put_layer.ensures.put)
    c.write_kept.ensures.done

pub returns-clause-front : goal.returns-clause-front
returns-clause-front g c =
    on_err_weaker c.write_kept.result
    (all_front (g.B.Sink.written c.args.out.now) (g.B.Sink.written c.put_layer.new.out) (g.B.Sink.written c.write_kept.new.out) c.in_ok-kept.kept.items c.put_layer.new.kept.items
    (told_flat c.args.layer.now.head.sectors (c.args.file.now ∷ []) (c.args.layer.now ∷ [])) c.in_ok-kept.ensures.items c.in_ok-put_layer.ensures.put)
    c.write_kept.ensures.front

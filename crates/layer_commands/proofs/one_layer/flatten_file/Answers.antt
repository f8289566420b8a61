use Rattle.std.proofs.Common.{[], ◌∷◌, ap, sym, subst, ◌∙◌, inl, inr}
use Rattle.std.specs.Prelude.{Err}
use Rattle.std.proofs.lemmas.Result.{on_ok_weaker}
use Rattle.byte_ports.specs.Ports.{AppendsFront}
use Rattle.layer_commands.specs.Flattening.{told_flat}
use Rattle.layer_commands.specs.OneLayer.{IsImageCause}
use Rattle.layer_commands.proofs.OneLayers.{err_both, kept_by, one_image, flat_caused, file_refused}
use Rattle.layer_commands.proofs.one_layer.flatten_file.Goals as goal

pub returns-in-Ok-clause-done : goal.returns-in-Ok-clause-done
returns-in-Ok-clause-done g c =
    on_ok_weaker c.write_layer.result
    (one_image c.args.file.now c.in-Ok.layer (g.B.Sink.written c.args.out.now) (g.B.Sink.written c.write_layer.new.out) c.in-Ok.ensures.found)
    c.write_layer.ensures.done

pub returns-in-Ok-clause-refused : goal.returns-in-Ok-clause-refused
returns-in-Ok-clause-refused g c =
    let old = g.B.Sink.written c.args.out.now in
    let new = g.B.Sink.written c.write_layer.new.out in
    let layer = c.in-Ok.layer in
    err_both c.write_layer.result (AppendsFront old new (told_flat layer.head.sectors (c.args.file.now ∷ []) (layer ∷ []))) _ (IsImageCause c.args.file.now old new)
    (λ refusal is front only. elim only [
      | inl sink ↦ flat_caused c.args.file.now layer old new refusal c.in-Ok.ensures.found front (inl sink)
      | inr memory ↦ flat_caused c.args.file.now layer old new refusal c.in-Ok.ensures.found front (inr (memory.0, kept_by g.B.Sink.written c.args.out.now c.write_layer.new.out memory.1))
    ])
    c.write_layer.ensures.front c.write_layer.ensures.only

pub returns-in-Err-clause-refused : goal.returns-in-Err-clause-refused
returns-in-Err-clause-refused g c =
    let old = g.B.Sink.written c.args.out.now in
    subst (IsImageCause c.args.file.now old old) (sym c.layer_refusal.ensures)
    (file_refused c.args.file.now old c.in-Err.fault c.in-Err.ensures.fault (λ e. c.layer_in.ensures.sure (c.in-Err.is ∙ ap Err e)))

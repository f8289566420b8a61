use Rattle.std.proofs.Common.{◌≡◌, ℕ, length, IfSome, subst, ◌∙◌, arith}
use Rattle.std.proofs.lemmas.Result.{err_from_is_err_and}
use Rattle.layer_shelf.specs.Shelves.{file_at}
use Rattle.flat_image.specs.LayerFiles.{IsFramed, IsIndexPlace}
use Rattle.sealed_layer.proofs.ReadLemmas.{stop_is_fault, all_fit}
use Rattle.sealed_layer.proofs.Told.{IfSome-both}
use Rattle.sealed_layer.proofs.reading.read_layer.Goals as goal

pub returns-in_err-rows-clause-fault : goal.returns-in_err-rows-clause-fault
returns-in_err-rows-clause-fault g c =
    let p = err_from_is_err_and c.from_residual-in_err-rows.result c.from_residual-in_err-rows.ensures.1 in
    let ok = c.in_ok-check_index.ensures.ok in
    let front : IfSome (g.S.Shelf.files c.args.shelf.now) (λ files. (c.in_ok-len.len ≡ length (file_at files c.args.k)) × IsFramed (file_at files c.args.k) c.in_ok-head.head) =
    IfSome-both (g.S.Shelf.files c.args.shelf.now) (g.S.Shelf.files c.length.new.self) c.length.ensures.same.files c.in_ok-len.ensures.length c.in_ok-head.ensures.found (λ files told size framed. (size, framed)) in
    rw (p.1, p.2)
    (IfSome-both (g.S.Shelf.files c.args.shelf.now) (g.S.Shelf.files c.read_head.new.shelf) (c.read_head.ensures.same.files ∙ c.length.ensures.same.files) front c.in_err-rows.ensures.fault
    (λ files told both stop.
    stop_is_fault (file_at files c.args.k) c.in_ok-head.head c.in_err-rows.field-0.0 both.1 ok.0
    (subst (λ (n : ℕ). IsIndexPlace n c.in_ok-head.head.index_at c.in_ok-head.head.rows) both.0 ok.1) stop))

pub new-requires : goal.new-requires
new-requires g c =
    let ok = c.in_ok-check_index.ensures.ok in let end = ok.1.end in let limit = c.in_ok-len.ensures.limit in
    record {
      kind = c.in_ok-head.ensures.valid.0;
      valid = c.in_ok-head.ensures.valid.1;
      sized = c.in_ok-head.ensures.sized;
      from = ok.1.from;
      whole = ok.1.whole;
      index_at = omega (arith, end, limit);
      few = ok.0;
      count = c.in_ok-rows.ensures.count;
      fits = all_fit _ _ _ _ c.in_ok-rows.ensures.sound;
      tags = c.in_ok-rows.ensures.tags;
      sound = c.in_ok-rows.ensures.sound;
    }

use Rattle.std.proofs.Common.{◌≡◌, ℕ, ◌+◌, ◌*◌, ◌≤◌, List, length, take, drop, ap, ◌∙◌, arith}
use Rattle.std.proofs.lemmas.List.{length-take}
use Rattle.std.proofs.lemmas.Result.{err_from_is_err_and}
use Rattle.sector_extent.specs.CauseLaws.{calm_ok}
use Rattle.layer_shelf.specs.Shelves.{file_at}
use Rattle.seg_mapping.specs.declared.Row.{Row}
use Rattle.sealed_layer.proofs.ReadLemmas.{more_read, stopped}
use Rattle.sealed_layer.proofs.Pushing.{tags-grow}
use Rattle.sealed_layer.proofs.Told.{IfSome-both}
use Rattle.sealed_layer.proofs.reading.fill_rows.Goals as goal

pub returns-in_err-low-clause-fault : goal.returns-in_err-low-clause-fault
returns-in_err-low-clause-fault g c =
    let p = err_from_is_err_and c.from_residual-in_err-low.result c.from_residual-in_err-low.ensures.1 in
    let old : List Row = c.loop-rows.rows.items in let rows : List Row = c.push_rows.new.rows.items in
    let some = c.in_err-low.ensures.some in let grows = c.in_err-low.ensures.grows in
    let size : ℕ = length c.split_at_mut-piece.result.0.now in
    let more : length old ≤ length rows = omega (arith, ap length grows.kept, length-take (length old) rows) in
    let long : length c.read.new.out ≡ size = c.read.auto.out in
    let at : c.len-in-loop-rows-2.result ≡ length old = c.len-in-loop-rows-2.ensures ∙ c.loop-rows.rows.ok.0 in
    rw (p.1, p.2)
    (IfSome-both (g.S.Shelf.files c.args.shelf.now) (g.S.Shelf.files c.loop-rows.shelf) c.loop-rows.invariant.files c.loop-rows.invariant.spelled c.in_ok-read.ensures.bytes
    (λ files told so_far bytes.
    stopped (file_at files c.args.k) c.read.new.out c.args.head.now old rows size c.in_err-low.field-0.0
    (bytes ∙ ap (λ (n : ℕ). take size (drop (c.args.head.now.index_at + 16 * n) (file_at files c.args.k))) at)
    more (omega (arith, some, long, more)) (omega (arith, some, long, more)) so_far grows c.in_err-low.ensures.fault))

pub returns-in_err-low-clause-tags : goal.returns-in_err-low-clause-tags
returns-in_err-low-clause-tags g c =
    tags-grow c.args.head.now c.read.new.out c.loop-rows.rows.items c.push_rows.new.rows.items c.in_err-low.ensures.grows c.loop-rows.invariant.tags

pub loop-rows-preserved : goal.loop-rows-preserved
loop-rows-preserved g c =
    let old : List Row = c.loop-rows.rows.items in let rows : List Row = c.push_rows.new.rows.items in
    let all = c.in_ok-low.ensures.all in let grows = c.in_ok-low.ensures.grows in let room = c.in_ok-low.ensures.room in
    let size : ℕ = length c.split_at_mut-piece.result.0.now in
    let long : length c.read.new.out ≡ size = c.read.auto.out in
    let at : c.len-in-loop-rows-2.result ≡ length old = c.len-in-loop-rows-2.ensures ∙ c.loop-rows.rows.ok.0 in
    record {
      files = c.read.ensures.same.files ∙ c.loop-rows.invariant.files;
      count = c.read.ensures.same.count ∙ c.loop-rows.invariant.count;
      faults = calm_ok g.S.Shelf.faults c.loop-rows.shelf c.read.new.self c.in_ok-read.ensures.cause ∙ c.loop-rows.invariant.faults;
      few = omega (arith, all, long);
      room = omega (arith, room, c.loop-rows.invariant.room);
      low = c.in_ok-low.ensures.low;
      sound = grows.sound;
      tags = tags-grow c.args.head.now c.read.new.out old rows grows c.loop-rows.invariant.tags;
      spelled = IfSome-both (g.S.Shelf.files c.args.shelf.now) (g.S.Shelf.files c.loop-rows.shelf) c.loop-rows.invariant.files c.loop-rows.invariant.spelled c.in_ok-read.ensures.bytes
          (λ files told so_far bytes.
          more_read (file_at files c.args.k) c.read.new.out c.args.head.now old rows size
          (bytes ∙ ap (λ (n : ℕ). take size (drop (c.args.head.now.index_at + 16 * n) (file_at files c.args.k))) at)
          (omega (arith, all)) (omega (arith, all, long)) so_far grows);
    }

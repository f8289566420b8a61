use Rattle.std.proofs.Common.{false, ℕ, List, refl, ◌∙◌, subst, arith}
use Rattle.std.proofs.lemmas.Option.{IfSome_then}
use Rattle.sector_extent.specs.CauseLaws.{calm_ok}
use Rattle.layer_shelf.specs.Shelves.{file_at}
use Rattle.seg_mapping.specs.declared.Row.{Row}
use Rattle.flat_image.proofs.SpelledRows.{index_within}
use Rattle.sealed_layer.specs.Layers.{IsLayerIndex}
use Rattle.sealed_layer.specs.Painting.{Paints}
use Rattle.sealed_layer.proofs.PartLemmas.{row_at, rest_rows, none_painted, next_painted, rest_painted, none_behind, none_left, in_data_of_any}
use Rattle.sealed_layer.proofs.Told.{IfSome-each, IfSome-both}
use Rattle.sealed_layer.proofs.painting.paint_part.Goals as goal

-- what stands past the end of a list of rows
abbrev no_row : Row
no_row = record { offset = 0; count = 0; place = 0; zeroed = false; tag = 0 }

pub loop-row-init : goal.loop-row-init
loop-row-init g c = record {
  files = refl;
  count = refl;
  faults = refl;
  painted = IfSome-each (g.S.Shelf.files c.args.shelf.now) (λ files told. none_painted (file_at files c.args.k) c.args.at c.args.out.now c.requires.whole);
}

pub paint_row-requires-clause-row : goal.paint_row-requires-clause-row
paint_row-requires-clause-row g c =
    let sound : IsLayerIndex c.args.layer.now.head c.rows-rows.result.now = c.rows-rows.ensures.sound in
    let are = rest_rows c.args.layer.now.head.sectors c.args.layer.now.head.index_at c.rows-rows.result.now c.split_at.result.1.now c.rows_before-first.result sound.sound c.split_at.ensures.back in
    let row = row_at _ _ _ c.split_at.result.1.now c.loop-row.row-index no_row are c.loop-row-test.true in
    let range = row.range in let few = sound.valid.size.1 in omega (arith, range, few)

pub paint_row-requires-clause-place : goal.paint_row-requires-clause-place
paint_row-requires-clause-place g c =
    let sound : IsLayerIndex c.args.layer.now.head c.rows-rows.result.now = c.rows-rows.ensures.sound in
    let are = rest_rows c.args.layer.now.head.sectors c.args.layer.now.head.index_at c.rows-rows.result.now c.split_at.result.1.now c.rows_before-first.result sound.sound c.split_at.ensures.back in
    let row = row_at _ _ _ c.split_at.result.1.now c.loop-row.row-index no_row are c.loop-row-test.true in
    in_data_of_any c.args.layer.now.head.index_at _ sound.index_at row.place

pub loop-row-preserved : goal.loop-row-preserved
loop-row-preserved g c =
    let sound : IsLayerIndex c.args.layer.now.head c.rows-rows.result.now = c.rows-rows.ensures.sound in
    let are = rest_rows c.args.layer.now.head.sectors c.args.layer.now.head.index_at c.rows-rows.result.now c.split_at.result.1.now c.rows_before-first.result sound.sound c.split_at.ensures.back in
    record {
      files = c.paint_row.ensures.same.files ∙ c.loop-row.invariant.files;
      count = c.paint_row.ensures.same.count ∙ c.loop-row.invariant.count;
      faults = calm_ok g.S.Shelf.faults c.loop-row.shelf c.paint_row.new.shelf c.in_ok-paint_row.ensures.cause ∙ c.loop-row.invariant.faults;
      painted = IfSome-both (g.S.Shelf.files c.args.shelf.now) (g.S.Shelf.files c.loop-row.shelf) c.loop-row.invariant.files c.loop-row.invariant.painted c.in_ok-paint_row.ensures.painted
          (λ files told so_far paints.
          next_painted (file_at files c.args.k) c.args.layer.now.head.sectors c.args.layer.now.head.index_at _ c.split_at.result.1.now c.loop-row.row-index _ c.args.at c.args.out.now c.loop-row.out c.paint_row.new.out
          are c.loop-row-test.true (index_within _ _ _ (c.requires.told files told)) so_far c.loop-row.auto.out paints);
    }

pub returns-after-loop-row-clause-painted : goal.returns-after-loop-row-clause-painted
returns-after-loop-row-clause-painted g c =
    let sound : IsLayerIndex c.args.layer.now.head c.rows-rows.result.now = c.rows-rows.ensures.sound in
    let n : ℕ = c.args.layer.now.head.sectors in let index_at : ℕ = c.args.layer.now.head.index_at in
    IfSome_then (g.S.Shelf.files c.args.shelf.now) c.loop-row.invariant.painted
    (λ files so_far. subst (λ (rows : List Row). Paints (file_at files c.args.k) rows c.args.at c.args.out.now c.loop-row.out) c.rows-rows.ensures.value
    (rest_painted (file_at files c.args.k) n index_at c.rows-rows.result.now c.split_at.result.1.now c.rows_before-first.result c.loop-row.row-index c.args.at c.args.out.now c.loop-row.out
    sound.sound c.split_at.ensures.back (c.rows_before-first.ensures.before n index_at sound.sound)
    (λ k below. none_left (file_at files c.args.k) c.split_at.result.1.now c.loop-row.row-index k (omega arith)) so_far))

pub returns-then-row-end-clause-painted : goal.returns-then-row-end-clause-painted
returns-then-row-end-clause-painted g c =
    let sound : IsLayerIndex c.args.layer.now.head c.rows-rows.result.now = c.rows-rows.ensures.sound in
    let n : ℕ = c.args.layer.now.head.sectors in let index_at : ℕ = c.args.layer.now.head.index_at in
    let are = rest_rows n index_at c.rows-rows.result.now c.split_at.result.1.now c.rows_before-first.result sound.sound c.split_at.ensures.back in
    IfSome_then (g.S.Shelf.files c.args.shelf.now) c.loop-row.invariant.painted
    (λ files so_far. subst (λ (rows : List Row). Paints (file_at files c.args.k) rows c.args.at c.args.out.now c.loop-row.out) c.rows-rows.ensures.value
    (rest_painted (file_at files c.args.k) n index_at c.rows-rows.result.now c.split_at.result.1.now c.rows_before-first.result c.loop-row.row-index c.args.at c.args.out.now c.loop-row.out
    sound.sound c.split_at.ensures.back (c.rows_before-first.ensures.before n index_at sound.sound)
    (λ k below. none_behind (file_at files c.args.k) n index_at _ c.split_at.result.1.now c.loop-row.row-index no_row k are c.loop-row-test.true (omega arith)) so_far))

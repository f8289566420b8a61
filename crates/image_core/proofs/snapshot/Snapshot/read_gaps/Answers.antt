use Rattle.std.proofs.Common.{IfSome, List, ℕ, ◌≡◌, ◌+◌, ◌++◌, ◌∙◌, [], ◌∷◌, refl, sym, ap, subst, arith, length, take}
use Rattle.std.proofs.lemmas.List.{take_more, take_all}
use Rattle.sealed_layer.proofs.Told.{IfSome-each}
use Rattle.sector_extent.specs.declared.extent.Extent.{Extent}
use Rattle.merged_index.specs.Cells.{cells_of}
use Rattle.image_core.specs.Whole.{sectors_by, AreFilled, LiesIn, AreOnShelf}
use Rattle.image_core.proofs.FilledSectors.{filled-on}
use Rattle.image_core.proofs.snapshot.Snapshot.read_gaps.Goals as goal

pub loop-gap-init : goal.loop-gap-init
loop-gap-init g c = record {
  filled = IfSome-each (g.F.LayerSource.files c.args.source.now) (λ files told. refl);
  files = refl;
  count = refl;
  reads = g.met.F.LayerSource.none c.args.source.now;
}

pub read_gap-requires-clause-named : goal.read_gap-requires-clause-named
read_gap-requires-clause-named g c = subst (λ (n : ℕ). AreOnShelf n (cells_of c.args.self.now.index)) (sym c.loop-gap.invariant.count) c.requires.named

pub read_gap-requires-clause-there : goal.read_gap-requires-clause-there
read_gap-requires-clause-there g c =
    subst (λ (n : ℕ). LiesIn c.args.at n c.gap-item.result) (sym c.loop-gap.auto.out)
    (subst (LiesIn c.args.at (length c.args.out.now)) (sym c.gap-item.is) (c.requires.there c.loop-gap.gap-index c.gap-item.result c.loop-gap-test.true))

pub loop-gap-preserved : goal.loop-gap-preserved
loop-gap-preserved g c =
    let cells = cells_of c.args.self.now.index in
    let before = c.loop-gap.invariant in
    let gap : Extent = c.gap-item.result in
    let more : take (c.loop-gap.gap-index + 1) c.args.gaps.now ≡ take c.loop-gap.gap-index c.args.gaps.now ++ gap ∷ [] =
    take_more c.args.gaps.now c.loop-gap.gap-index gap c.loop-gap-test.true ∙ ap (λ (e : Extent). take c.loop-gap.gap-index c.args.gaps.now ++ e ∷ []) (sym c.gap-item.is) in
    record {
      filled = subst (λ (gaps : List Extent). IfSome (g.F.LayerSource.files c.args.source.now) (λ files. AreFilled (sectors_by files cells) c.args.at gaps c.args.out.now c.read_gap.new.out)) (sym more)
          (filled-on (g.F.LayerSource.files c.args.source.now) (g.F.LayerSource.files c.loop-gap.source) cells c.args.at (take c.loop-gap.gap-index c.args.gaps.now) gap
          c.args.out.now c.loop-gap.out c.read_gap.new.out before.files before.filled c.in_ok-read_gap.ensures.filled);
      files = c.read_gap.ensures.same.files ∙ before.files;
      count = c.read_gap.ensures.same.count ∙ before.count;
      reads = g.met.F.LayerSource.joined c.args.source.now c.loop-gap.source c.read_gap.new.source before.reads c.in_ok-read_gap.ensures.reads;
    }

pub returns-clause-filled : goal.returns-clause-filled
returns-clause-filled g c =
    let cells = cells_of c.args.self.now.index in
    let all : take c.loop-gap.gap-index c.args.gaps.now ≡ c.args.gaps.now = take_all c.loop-gap.gap-index c.args.gaps.now (omega arith) in
    subst (λ (gaps : List Extent). IfSome (g.F.LayerSource.files c.args.source.now) (λ files. AreFilled (sectors_by files cells) c.args.at gaps c.args.out.now c.loop-gap.out)) all
    c.loop-gap.invariant.filled

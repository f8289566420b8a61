use Rattle.std.proofs.Common.{◌≡◌, ℕ, ◌+◌, ◌∙◌, refl, sym, subst, arith, length}
use Rattle.sealed_layer.proofs.Told.{IfSome-each}
use Rattle.merged_index.specs.Cells.{cells_of}
use Rattle.image_core.specs.Whole.{sectors_by, AreOnShelf}
use Rattle.image_core.proofs.FilledSectors.{fills-none, fills-on}
use Rattle.image_core.proofs.PendingRuns.{pending-none, run-read}
use Rattle.image_core.proofs.snapshot.Snapshot.read_gap.Goals as goal

pub loop-source-init : goal.loop-source-init
loop-source-init g c =
    let run = c.nothing_before-run.result in
    let made = c.nothing_before-run.ensures in
    record {
      within = omega (arith, made.at, made.none);
      pending = pending-none (g.F.LayerSource.layers c.args.source.now) (cells_of c.args.self.now.index) c.args.at (length c.args.out.now) run made.none made.what
          (record { from = omega (arith, made.at, c.requires.there.from); to = omega (arith, made.at, made.none, c.requires.there.to) });
      filled = IfSome-each (g.F.LayerSource.files c.args.source.now) (λ files told.
          fills-none (sectors_by files (cells_of c.args.self.now.index)) c.args.at c.args.gap.now.at run.extent.at c.args.out.now (sym made.at));
      files = refl;
      count = refl;
      reads = g.met.F.LayerSource.none c.args.source.now;
    }

pub read_on-requires-clause-named : goal.read_on-requires-clause-named
read_on-requires-clause-named g c = subst (λ (n : ℕ). AreOnShelf n (cells_of c.args.self.now.index)) (sym c.loop-source.invariant.count) c.requires.named

pub loop-source-preserved : goal.loop-source-preserved
loop-source-preserved g c =
    let cells = cells_of c.args.self.now.index in
    let before = c.loop-source.invariant in
    record {
      within = c.in_ok-run.ensures.within;
      pending = c.in_ok-run.ensures.pending;
      filled = fills-on (g.F.LayerSource.files c.args.source.now) (g.F.LayerSource.files c.loop-source.source) cells c.args.at c.args.gap.now.at c.loop-source.run.extent.at
          c.in_ok-run.run'.extent.at c.args.out.now c.loop-source.out c.read_on.new.out before.files before.filled c.in_ok-run.ensures.filled;
      files = c.read_on.ensures.same.files ∙ before.files;
      count = c.read_on.ensures.same.count ∙ before.count;
      reads = g.met.F.LayerSource.joined c.args.source.now c.loop-source.source c.read_on.new.source before.reads c.in_ok-run.ensures.reads;
    }

pub returns-clause-filled : goal.returns-clause-filled
returns-clause-filled g c =
    let cells = cells_of c.args.self.now.index in
    let before = c.loop-source.invariant in
    let end = c.args.gap.now.at + c.args.gap.now.count in
    let now_told = g.F.LayerSource.files c.loop-source.source in
    fills-on (g.F.LayerSource.files c.args.source.now) now_told cells c.args.at c.args.gap.now.at c.loop-source.run.extent.at end
    c.args.out.now c.loop-source.out c.read_run.new.out before.files before.filled
    (run-read now_told (g.F.LayerSource.layers c.loop-source.source) cells c.args.at (length c.loop-source.out) c.loop-source.run end c.loop-source.out c.read_run.new.out before.pending
    (omega (arith, before.within, c.loop-source-test.false, c.end.ensures, c.end-in-loop-source.ensures)) c.in_ok-read_run.ensures.filled)

use Rattle.std.proofs.Common.{◌≡◌, List, ℕ, ◌+◌, ◌∙◌, refl, sym, subst, arith, take, drop}
use Rattle.sealed_layer.proofs.Told.{IfSome-each}
use Rattle.merged_index.specs.declared.piece.Piece.{Piece}
use Rattle.merged_index.specs.Cells.{cells_of}
use Rattle.merged_index.specs.Pieces.{AreCells, end_of}
use Rattle.image_core.specs.Whole.{sectors_by, AreOnShelf}
use Rattle.image_core.proofs.FilledSectors.{fills-none, fills-on}
use Rattle.image_core.proofs.PendingRuns.{found-further, cells-at}
use Rattle.image_core.proofs.snapshot.Snapshot.read_on.Goals as goal

pub loop-piece-init : goal.loop-piece-init
loop-piece-init g c =
    let cells = cells_of c.args.self.now.index in
    let found = c.find-found in
    let run = c.args.run.now in
    let here : AreCells cells (end_of run) found.result.until c.split_at.result.0.now =
    subst (λ (pieces : List Piece). AreCells cells (end_of run) found.result.until pieces) (sym c.split_at.ensures.front)
    (subst (λ (k : ℕ). AreCells cells k found.result.until (take found.result.pieces found.new.out)) c.behind.ensures.at found.ensures.cells) in
    record {
      until = found.result.until;
      further = found-further cells (end_of run) found.result.until (c.args.gap.now.at + c.args.gap.now.count) found.result.pieces found.new.out
          c.requires.more (subst (λ (k : ℕ). AreCells cells k found.result.until (take found.result.pieces found.new.out)) c.behind.ensures.at found.ensures.cells)
          found.ensures.room (omega (arith, found.auto.out)) (λ short. found.ensures.full (omega (arith, short, c.behind.ensures.end)));
      within = omega (arith, found.ensures.within, c.behind.ensures.end);
      cells = here;
      pending = c.requires.pending;
      filled = IfSome-each (g.F.LayerSource.files c.args.source.now) (λ files told. fills-none (sectors_by files cells) c.args.at run.extent.at run.extent.at c.args.out.now refl);
      files = refl;
      count = refl;
      reads = g.met.F.LayerSource.none c.args.source.now;
    }

pub go_on-requires-clause-named : goal.go_on-requires-clause-named
go_on-requires-clause-named g c = subst (λ (n : ℕ). AreOnShelf n (cells_of c.args.self.now.index)) (sym c.loop-piece.invariant.count) c.requires.named

pub go_on-requires-clause-next : goal.go_on-requires-clause-next
go_on-requires-clause-next g c =
    (cells-at (cells_of c.args.self.now.index) (end_of c.loop-piece.run) c.loop-piece.invariant.until c.split_at.result.0.now c.loop-piece.piece-index c.piece-item.result
    c.loop-piece-test.true c.piece-item.is c.loop-piece.invariant.cells).0

pub go_on-requires-clause-there : goal.go_on-requires-clause-there
go_on-requires-clause-there g c =
    let here = cells-at (cells_of c.args.self.now.index) (end_of c.loop-piece.run) c.loop-piece.invariant.until c.split_at.result.0.now c.loop-piece.piece-index c.piece-item.result
    c.loop-piece-test.true c.piece-item.is c.loop-piece.invariant.cells in
    record {
      from = omega (arith, here.0.begins, c.loop-piece.invariant.pending.there.from);
      to = omega (arith, here.1, c.loop-piece.invariant.within, c.requires.there.to, c.loop-piece.auto.out);
    }

pub loop-piece-preserved : goal.loop-piece-preserved
loop-piece-preserved g c =
    let cells = cells_of c.args.self.now.index in
    let before = c.loop-piece.invariant in
    let here = cells-at cells (end_of c.loop-piece.run) before.until c.split_at.result.0.now c.loop-piece.piece-index c.piece-item.result
    c.loop-piece-test.true c.piece-item.is before.cells in
    record {
      until = before.until;
      further = before.further;
      within = before.within;
      cells = subst (λ (k : ℕ). AreCells cells k before.until (drop (c.loop-piece.piece-index + 1) c.split_at.result.0.now)) (sym c.in_ok-run.ensures.end) here.2;
      pending = c.in_ok-run.ensures.pending;
      filled = fills-on (g.F.LayerSource.files c.args.source.now) (g.F.LayerSource.files c.loop-piece.source) cells c.args.at c.args.run.now.extent.at c.loop-piece.run.extent.at
          c.in_ok-run.run'.extent.at c.args.out.now c.loop-piece.out c.go_on.new.out before.files before.filled c.in_ok-run.ensures.filled;
      files = c.go_on.ensures.same.files ∙ before.files;
      count = c.go_on.ensures.same.count ∙ before.count;
      reads = g.met.F.LayerSource.joined c.args.source.now c.loop-piece.source c.go_on.new.source before.reads c.in_ok-run.ensures.reads;
    }

use Rattle.std.proofs.Common.{ℕ, sym, subst, arith, length}
use Rattle.sealed_layer.proofs.Told.{IfSome-each}
use Rattle.merged_index.specs.Cells.{cells_of}
use Rattle.merged_index.specs.Pieces.{end_of}
use Rattle.image_core.specs.Whole.{sectors_by, Pending}
use Rattle.image_core.proofs.FilledSectors.{fills-none}
use Rattle.image_core.proofs.PendingRuns.{pending-next, pending-joined, run-read}
use Rattle.image_core.proofs.snapshot.Snapshot.go_on.Goals as goal

pub returns-then-run-eq0-clause-pending : goal.returns-then-run-eq0-clause-pending
returns-then-run-eq0-clause-pending g c =
    pending-next (g.F.LayerSource.layers c.args.source.now) (cells_of c.args.self.now.index) c.args.at (length c.args.out.now) (end_of c.args.run.now) c.args.next.now
    c.requires.named c.requires.next c.requires.there

pub returns-then-run-eq0-clause-filled : goal.returns-then-run-eq0-clause-filled
returns-then-run-eq0-clause-filled g c =
    let run = c.args.run.now in
    let next = c.args.next.now in
    IfSome-each (g.F.LayerSource.files c.args.source.now) (λ files told.
    fills-none (sectors_by files (cells_of c.args.self.now.index)) c.args.at run.extent.at next.extent.at c.args.out.now (omega (arith, c.requires.next.begins, c.if-run-eq0.true)))

pub returns-then-goes_on-clause-pending : goal.returns-then-goes_on-clause-pending
returns-then-goes_on-clause-pending g c =
    pending-joined (g.F.LayerSource.layers c.args.source.now) (cells_of c.args.self.now.index) c.args.at (length c.args.out.now) c.args.run.now c.args.next.now c.both.result
    c.requires.named c.requires.pending c.requires.next c.requires.there c.both.ensures

pub returns-then-goes_on-clause-filled : goal.returns-then-goes_on-clause-filled
returns-then-goes_on-clause-filled g c =
    let run = c.args.run.now in
    IfSome-each (g.F.LayerSource.files c.args.source.now) (λ files told.
    fills-none (sectors_by files (cells_of c.args.self.now.index)) c.args.at run.extent.at c.both.result.extent.at c.args.out.now (sym c.both.ensures.begins))

pub returns-clause-pending : goal.returns-clause-pending
returns-clause-pending g c =
    let cells = cells_of c.args.self.now.index in
    subst (λ (n : ℕ). Pending n cells c.args.at (length c.read_run.new.out) c.args.next.now) (sym c.read_run.ensures.same.count)
    (subst (λ (n : ℕ). Pending (g.F.LayerSource.layers c.args.source.now) cells c.args.at n c.args.next.now) (sym c.read_run.auto.out)
    (pending-next (g.F.LayerSource.layers c.args.source.now) cells c.args.at (length c.args.out.now) (end_of c.args.run.now) c.args.next.now
    c.requires.named c.requires.next c.requires.there))

pub returns-clause-filled : goal.returns-clause-filled
returns-clause-filled g c =
    run-read (g.F.LayerSource.files c.args.source.now) (g.F.LayerSource.layers c.args.source.now) (cells_of c.args.self.now.index) c.args.at (length c.args.out.now) c.args.run.now
    c.args.next.now.extent.at c.args.out.now c.read_run.new.out c.requires.pending c.requires.next.begins c.in_ok-read_run.ensures.filled

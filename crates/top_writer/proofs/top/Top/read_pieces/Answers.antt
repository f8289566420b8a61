use Rattle.std.proofs.Common.{◌∙◌, ℕ, ◌+◌, drop, sym, subst, arith}
use Rattle.top_writer.specs.declared.fault.ReadFault.TheVariants.{Failed}
use Rattle.sector_extent.specs.CauseLaws.{calm_value}
use Rattle.seg_table.specs.Cells.{cells_of}
use Rattle.seg_table.specs.Pieces.{AreCells}
use Rattle.top_writer.specs.Files.{data_file}
use Rattle.top_writer.proofs.PendingLaws.{cells_at}
use Rattle.top_writer.proofs.ReadLaws.{quiet_on, reads_on}
use Rattle.top_writer.proofs.top.Top.read_pieces.Goals as goal

pub read_piece-requires-clause-within : goal.read_piece-requires-clause-within
read_piece-requires-clause-within g c =
    let here = cells_at (cells_of c.args.self.now.table) (c.loop-piece.run.at + c.loop-piece.run.count) c.args.until c.args.pieces.now c.loop-piece.piece-index c.piece-item.result
    c.loop-piece-test.true c.piece-item.is c.loop-piece.invariant.1 in
    omega (arith, here.1, c.requires.within)

pub returns-in_err-run-clause-quiet : goal.returns-in_err-run-clause-quiet
returns-in_err-run-clause-quiet g c =
    quiet_on (g.D.Disk.state c.args.disk.now) (g.D.Disk.state c.loop-piece.disk) (g.D.Disk.state c.read_piece.new.disk) c.loop-piece.invariant.3 c.read_piece.ensures.quiet

pub loop-piece-preserved : goal.loop-piece-preserved
loop-piece-preserved g c =
    let cells = cells_of c.args.self.now.table in
    let here = cells_at cells (c.loop-piece.run.at + c.loop-piece.run.count) c.args.until c.args.pieces.now c.loop-piece.piece-index c.piece-item.result
    c.loop-piece-test.true c.piece-item.is c.loop-piece.invariant.1 in (
      c.in_ok-run.ensures.pending,
      subst (λ (k : ℕ). AreCells cells k c.args.until (drop (c.loop-piece.piece-index + 1) c.args.pieces.now)) (sym c.in_ok-run.ensures.end) here.2,
      reads_on g.D.Disk.tells (g.D.Disk.state c.args.disk.now) (g.D.Disk.state c.loop-piece.disk) (data_file c.args.self.now.epoch) cells c.args.extent.now
          c.args.run.now.at c.loop-piece.run.at c.in_ok-run.run'.at c.args.out.now c.loop-piece.out c.read_piece.new.out c.args.gaps.now c.loop-piece.gaps c.read_piece.new.gaps
          c.loop-piece.invariant.3 c.loop-piece.invariant.2 c.in_ok-run.ensures.read,
      quiet_on (g.D.Disk.state c.args.disk.now) (g.D.Disk.state c.loop-piece.disk) (g.D.Disk.state c.read_piece.new.disk) c.loop-piece.invariant.3 c.read_piece.ensures.quiet,
      calm_value g.D.Disk.faults c.loop-piece.disk c.read_piece.new.disk c.in_ok-run.run' Failed c.in_ok-run.ensures.cause ∙ c.loop-piece.invariant.4,
    )

pub returns-in_err-run-2-clause-quiet : goal.returns-in_err-run-2-clause-quiet
returns-in_err-run-2-clause-quiet g c =
    quiet_on (g.D.Disk.state c.args.disk.now) (g.D.Disk.state c.loop-piece.disk) (g.D.Disk.state c.go_on.new.disk) c.loop-piece.invariant.3 c.go_on.ensures.quiet

pub returns-clause-quiet : goal.returns-clause-quiet
returns-clause-quiet g c =
    quiet_on (g.D.Disk.state c.args.disk.now) (g.D.Disk.state c.loop-piece.disk) (g.D.Disk.state c.go_on.new.disk) c.loop-piece.invariant.3 c.go_on.ensures.quiet

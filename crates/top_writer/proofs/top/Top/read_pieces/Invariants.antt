use Rattle.std.proofs.Common.{◌≡◌, ◌+◌, drop}
use Rattle.seg_table.specs.Cells.{cells_of}
use Rattle.seg_table.specs.Pieces.{AreCells}
use Rattle.block_disk.specs.Claims.{Quiet}
use Rattle.top_writer.specs.Files.{data_file}
use Rattle.top_writer.specs.Reading.{Pending, ReadsOn}
use Rattle.top_writer.proofs.top.Top.read_pieces.Given as goal

abbrev pub invariant-loop-piece : goal.invariant-loop-piece
invariant-loop-piece g l =
    Pending (cells_of l.self.table) l.extent l.run
    × AreCells (cells_of l.self.table) (l.run.at + l.run.count) l.until (drop l.piece-index l.pieces)
    × ReadsOn g.D.Disk.tells ((g.D.Disk.state l.fn.disk).seen (data_file l.self.epoch)) (cells_of l.self.table) l.extent l.fn.run l.run l.fn.out l.out l.fn.gaps l.gaps
    × Quiet (g.D.Disk.state l.fn.disk) (g.D.Disk.state l.disk)
    × (g.D.Disk.faults l.disk ≡ g.D.Disk.faults l.fn.disk)

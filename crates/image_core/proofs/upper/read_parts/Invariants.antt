use Rattle.std.proofs.Common.{◌≡◌, ℕ, List, IsTrue, take}
use Rattle.block_disk.specs.Claims.{Quiet}
use Rattle.flat_image.specs.Left.{Stand}
use Rattle.flat_image.specs.Sheets.{IsSheet}
use Rattle.top_writer.specs.Files.{HeadsAsked}
use Rattle.top_writer.specs.Fitting.{IsFitted, TopFits}
use Rattle.top_writer.specs.Gaps.{IsHole}
use Rattle.image_core.specs.Upper.{AreOverlaid, AreAdded}
use Rattle.image_core.proofs.upper.read_parts.Given as goal

-- the extents so far are read
abbrev pub invariant-loop-extent : goal.invariant-loop-extent
invariant-loop-extent g l = record {
  bytes : IsTrue g.D.Disk.tells → (n : ℕ) (asked : HeadsAsked) (s : Stand) (may : List Stand) → TopFits g.D.Disk.tells (g.D.Disk.state l.fn.disk) n asked l.top s may → IsSheet n s.cells
      → AreOverlaid s.cells l.at (take l.extent-index l.extents) l.fn.out l.out;
  gaps : (n : ℕ) (asked : HeadsAsked) (s : Stand) (may : List Stand) → TopFits g.D.Disk.tells (g.D.Disk.state l.fn.disk) n asked l.top s may
      → AreAdded (IsHole s.cells) (take l.extent-index l.extents) l.fn.gaps l.gaps;
  quiet : Quiet (g.D.Disk.state l.fn.disk) (g.D.Disk.state l.disk);
  fitted : IsFitted g.D.Disk.tells (g.D.Disk.state l.disk) l.top;
  calm : g.D.Disk.faults l.disk ≡ g.D.Disk.faults l.fn.disk;
}

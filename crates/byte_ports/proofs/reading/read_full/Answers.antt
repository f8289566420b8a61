-- What a turn took follows what was taken before.
use Rattle.std.proofs.Common.{rules, ◌∙◌}
use Rattle.sector_extent.specs.CauseLaws.{calm_ok}
use Rattle.byte_ports.proofs.Taking.{filled_more}
use Rattle.byte_ports.proofs.reading.read_full.Goals as goal

pub loop-at-preserved : goal.loop-at-preserved
loop-at-preserved g c =
    let before = c.loop-at.invariant in
    let here = c.in_ok-count.ensures in (
      search rules,
      search rules,
      filled_more _ _ _ c.loop-at.out c.read.new.out c.loop-at.at c.in_ok-count.count before.1 here.bound.0 before.2 here.bytes.0,
      calm_ok g.A.Source.faults c.loop-at.source c.read.new.self here.cause ∙ before.3,
    )

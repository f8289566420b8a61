use Rattle.lane_export.proofs.cached_lanes.export_with.Given as goal

abbrev pub ghosts-export_named : goal.ghosts-export_named
ghosts-export_named g a = record { it = a.base.value }

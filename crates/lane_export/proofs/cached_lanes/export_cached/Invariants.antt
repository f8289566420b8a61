use Rattle.lane_export.proofs.cached_lanes.export_cached.Given as goal

abbrev pub ghosts-start_cache : goal.ghosts-start_cache
ghosts-start_cache g a = record { it = record { capacity = a.blocks; files = g.S.Shelf.files a.shelf.now } }

abbrev pub ghosts-export_with : goal.ghosts-export_with
ghosts-export_with g a = record { told = g.S.Shelf.files a.control.shelf; count = g.S.Shelf.count a.control.shelf }

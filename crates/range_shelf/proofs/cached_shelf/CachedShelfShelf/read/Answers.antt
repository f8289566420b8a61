use Rattle.range_shelf.proofs.cached_shelf.CachedShelfShelf.read.Goals as goal

pub returns-clause-notes : goal.returns-clause-notes
returns-clause-notes g c = rw (← c.self.view_is) c.read_blocks.ensures.notes

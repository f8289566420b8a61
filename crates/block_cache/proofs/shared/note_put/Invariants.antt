use Rattle.block_cache.specs.declared.history.CacheAct.TheVariants.{Put}
use Rattle.block_cache.proofs.shared.note_put.Given as goal

abbrev pub ghosts-note_as : goal.ghosts-note_as
ghosts-note_as a = record { it = Put a.key }

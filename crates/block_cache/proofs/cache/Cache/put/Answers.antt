use Rattle.std.proofs.Common.{◌++◌, ◌∷◌, [], sym, subst}
use Rattle.flat_image.specs.Entries.{entry}
use Rattle.block_cache.specs.declared.history.CacheAct.TheVariants.{Put}
use Rattle.block_cache.specs.CacheHistory.{StandsFor}
use Rattle.block_cache.proofs.HistoryLaws.{stands-put}
use Rattle.block_cache.proofs.cache.Cache.put.Goals as goal

pub returns-clause-history : goal.returns-clause-history
returns-clause-history c base history number fits stood =
    subst (λ s. StandsFor s base (history ++ entry number (Put c.args.key) ∷ [])) (sym c.in_ok-keep.ensures.ok)
    (stands-put c.args.self.now base history stood c.args.key number c.in_ok-block.block (rw c.in_ok-block.ensures fits))

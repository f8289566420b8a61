use Rattle.std.proofs.Common.{rules, ◌≡◌, ◌++◌, ◌∷◌, [], subst}
use Rattle.flat_image.specs.Entries.{entry}
use Rattle.block_cache.specs.declared.history.CacheAct.TheVariants.{Look}
use Rattle.block_cache.specs.contracts.cache.Cache.{the_view}
use Rattle.block_cache.specs.Blocks.{Looks, looked_up}
use Rattle.block_cache.specs.CacheHistory.{StandsFor}
use Rattle.block_cache.proofs.HistoryLaws.{finds-look, stands-look}
use Rattle.block_cache.proofs.cache.Cache.look.Goals as goal

pub returns-clause-history : goal.returns-clause-history
returns-clause-history c base history number stood =
    let looks : Looks c.args.self.now c.args.key c.args.at c.args.out.now c.match-get.result c.match-get.out = search rules in
    let after : looked_up c.args.self.now c.args.key ≡ the_view c.match-get.self-inside = search rules in (
      finds-look c.args.self.now base history stood c.args.key c.args.at c.args.out.now c.match-get.result c.match-get.out looks,
      subst (λ s. StandsFor s base (history ++ entry number (Look c.args.key) ∷ [])) after (stands-look c.args.self.now base history stood c.args.key number),
    )

use Rattle.std.proofs.Common.{rules, ◌≡◌, [], sym, subst}
use Rattle.block_cache.specs.contracts.cache.Cache.{the_view}
use Rattle.block_cache.specs.Blocks.{CacheState}
use Rattle.block_cache.specs.CacheHistory.{StandsFor}
use Rattle.block_cache.proofs.HistoryLaws.{stands-empty}
use Rattle.block_cache.proofs.cache.Cache.new.Goals as goal

pub returns-clause-stands : goal.returns-clause-stands
returns-clause-stands c base same =
    let empty : CacheState = record { capacity = c.args.capacity; blocks = [] } in
    let is : the_view (record { alloc = c.args.alloc; blocks = c.in_ok-blocks.blocks }) ≡ empty = search rules in
    subst (λ s. StandsFor s base []) (sym is) (stands-empty c.args.capacity base same)

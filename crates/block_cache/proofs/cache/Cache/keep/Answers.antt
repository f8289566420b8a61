use Rattle.block_cache.proofs.KeyLaws.{put-entries}
use Rattle.block_cache.proofs.cache.Cache.keep.Goals as goal

pub returns-clause-ok : goal.returns-clause-ok
returns-clause-ok c =
    let valid = c.len.ensures.valid in
    rw (c.in_ok-push.ensures.entries, ← c.self.view_is, put-entries c.args.key c.self.inside.blocks c.args.block valid.2 valid.1)

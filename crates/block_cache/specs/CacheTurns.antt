-- What one turn of a shared cache notes and answers.
use Rattle.std.specs.Prelude.{◌≡◌, ℕ, ◌+◌, ◌^◌, Bool, false, List, [], ◌∷◌, ◌++◌, length}
use Rattle.flat_image.specs.declared.stands.Entry.{Entry}
use Rattle.flat_image.specs.Entries.{entry, calls_by}
use Rattle.turn_lock.specs.Locks.{Lock, Place, place, IsLater}
use Rattle.block_cache.specs.declared.key.Key.{Key}
use Rattle.block_cache.specs.declared.history.CacheAct.{CacheAct}
use Rattle.block_cache.specs.declared.history.CacheAct.TheVariants.{Look, Skip}
use Rattle.block_cache.specs.declared.history.CacheBase.{CacheBase}
use Rattle.block_cache.specs.declared.shared.PutFault.{PutFault}
use Rattle.block_cache.specs.declared.shared.PutFault.TheVariants.{Worn, Memory}
use Rattle.block_cache.specs.CacheHistory.{Finds}

-- a seat of the cache's lock, which has not the turn
pub record IsIdleSeat (cache : Lock CacheBase) (seat : Place CacheAct) : Type 0 where
  pub lock_is : seat.lock ≡ cache.id
  pub idle : seat.holds ≡ false

-- the same seat, which has seen some entries of others and then noted this one act
pub record Noted (old new : Place CacheAct) (act : CacheAct) : Type 0 where
  pub between : List (Entry CacheAct)
  pub others : calls_by old.number between ≡ []
  pub is : new ≡ place old.lock old.number ((old.seen ++ between) ++ entry old.number act ∷ []) false

-- the same seat, which has noted nothing: it has seen that the history has as many entries as it may have
pub record IsWornOut (cache : Lock CacheBase) (old new : Place CacheAct) : Type 0 where
  pub later : IsLater old new
  pub idle : new.holds ≡ false
  pub full : cache.first + length new.seen ≡ 2 ^ 62

-- a look-up: it notes one look, and its answer is that of the history before it
pub record Looked (cache : Lock CacheBase) (old new : Place CacheAct) (key : Key) (at count : ℕ) (found : Bool) (bytes : List ℕ) : Type 0 where
  pub noted : Noted old new (Look key)
  pub finds : Finds cache.base (old.seen ++ noted.between) key at count found bytes

-- a put that is refused: without memory it notes that it left the block out
abbrev pub PutFails : Lock CacheBase → Place CacheAct → Place CacheAct → Key → PutFault → Type 0
PutFails cache old new key Worn = IsWornOut cache old new
PutFails cache old new key Memory = Noted old new (Skip key)

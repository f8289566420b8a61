-- What a read through a cache notes, block by block.
use Rattle.std.specs.Prelude.{◌≡◌, ℕ, zero, suc, ◌+◌, ◌-◌, ◌*◌, ◌/◌, ◌<◌, ◌==◌, ◌⊎◌, min, cond, Bool, true, false, List}
use Rattle.turn_lock.specs.Locks.{Lock, Place}
use Rattle.block_cache.specs.declared.key.Key.{Key}
use Rattle.block_cache.specs.declared.history.CacheAct.{CacheAct}
use Rattle.block_cache.specs.declared.history.CacheAct.TheVariants.{Put, Skip}
use Rattle.block_cache.specs.declared.history.CacheBase.{CacheBase}
use Rattle.block_cache.specs.CacheTurns.{IsWornOut, Noted, Looked}

-- what contracts see of a shelf behind a cache: the inner shelf, its seat of the cache, and the cache
pub record CachedState (S : Type 0) : Type 0 where
  pub shelf : S
  pub seat : Place CacheAct
  pub cache : Lock CacheBase

-- how many blocks a range of bytes touches
abbrev pub touched : ℕ → ℕ → ℕ
touched at count = cond (count == 0) 0 ((at + count - 1) / 65536 - at / 65536 + 1)

-- the part of a range that lies in a block: where it begins there, and how many bytes it has
abbrev pub part_at : ℕ → ℕ → ℕ
part_at at block = at - 65536 * block

abbrev pub part_count : ℕ → ℕ → ℕ → ℕ
part_count at end block = min (end - 65536 * block) 65536 - part_at at block

-- the block that was read is put into the cache; or it is left out without memory, or the cache is worn out
abbrev pub Keeps : Lock CacheBase → Place CacheAct → Place CacheAct → Key → Type 0
Keeps cache old new key = Noted old new (Put key) ⊎ Noted old new (Skip key) ⊎ IsWornOut cache old new

-- A look that found a range of a block, or did not.
abbrev pub LookedFor : Lock CacheBase → Place CacheAct → Place CacheAct → Key → ℕ → ℕ → Bool → Type 0
LookedFor cache old new key at count found = (bytes : List ℕ) × Looked cache old new key at count found bytes

module _ (cache : Lock CacheBase) (old new : Place CacheAct) (key : Key) (at count : ℕ) where
  -- a part of a block was read: it was found; or it was looked for, read from the shelf, and the block was kept; or the cache
  -- is worn out, and it was read from the shelf
  abbrev pub ReadsPart : Type 0
  ReadsPart = LookedFor cache old new key at count true
      ⊎ ((mid : Place CacheAct) × LookedFor cache old mid key at count false × Keeps cache mid new key)
      ⊎ IsWornOut cache old new

  -- a part of a block was not read, since the shelf failed: it was looked for, or the cache is worn out
  abbrev pub LosesPart : Type 0
  LosesPart = LookedFor cache old new key at count false ⊎ IsWornOut cache old new

module _ (cache : Lock CacheBase) (layer at end : ℕ) where
  abbrev key_of : ℕ → Key
  key_of number = record { layer = layer; block = at / 65536 + number }

  -- so many blocks of a range were read, in rising order
  abbrev pub ReadsBlocks : ℕ → Place CacheAct → Place CacheAct → Type 0
  ReadsBlocks zero old new = new ≡ old
  ReadsBlocks (suc number) old new = (mid : Place CacheAct) × ReadsBlocks number old mid
      × ReadsPart cache mid new (key_of number) (part_at at (at / 65536 + number)) (part_count at end (at / 65536 + number))

  -- the blocks before one of so many were read, and then the shelf failed
  abbrev pub LosesBlock : ℕ → Place CacheAct → Place CacheAct → Type 0
  LosesBlock touches old new = (number : ℕ) × (mid : Place CacheAct) × (number < touches) × ReadsBlocks number old mid
      × LosesPart cache mid new (key_of number) (part_at at (at / 65536 + number)) (part_count at end (at / 65536 + number))

-- Small histories of a cache, and the keys that they leave.
use Rattle.std.specs.Prelude.{◌≡◌, ℕ, true, false, List, [], ◌∷◌, ◌++◌}
use Rattle.flat_image.specs.declared.stands.Entry.{Entry}
use Rattle.flat_image.specs.Entries.{entry}
use Rattle.block_cache.specs.declared.key.Key.{Key}
use Rattle.block_cache.specs.declared.history.CacheAct.{CacheAct}
use Rattle.block_cache.specs.declared.history.CacheAct.TheVariants.{Look, Put, Skip}
use Rattle.block_cache.specs.CacheHistory.{has, keys}

-- the first three blocks of file 0
abbrev pub block : ℕ → Key
block number = record { layer = 0; block = number }

-- a look that finds nothing, and the put behind it
abbrev pub fetched : ℕ → List (Entry CacheAct)
fetched number = entry 0 (Look (block number)) ∷ entry 0 (Put (block number)) ∷ []

-- blocks 0 and 1 are looked up in turn: with room for one block each look misses, and with room for two only the first two do
pub record TwoInTurn : Type 0 where
  pub first_misses : has (block 0) (keys 1 []) ≡ false
  pub second_misses : has (block 1) (keys 1 (fetched 0)) ≡ false
  pub third_misses : has (block 0) (keys 1 (fetched 0 ++ fetched 1)) ≡ false
  pub fourth_misses : has (block 1) (keys 1 (fetched 0 ++ fetched 1 ++ fetched 0)) ≡ false
  pub two_are_in : keys 2 (fetched 0 ++ fetched 1) ≡ block 1 ∷ block 0 ∷ []
  pub third_hits : has (block 0) (keys 2 (fetched 0 ++ fetched 1)) ≡ true
  pub fourth_hits : has (block 1) (keys 2 (fetched 0 ++ fetched 1 ++ entry 0 (Look (block 0)) ∷ [])) ≡ true

-- with room for two, a block that was looked up again stays, a block that was put in again is not there twice, and a skip
-- and a look that finds nothing change no key
pub record LastUsedFirst : Type 0 where
  pub looked_up_stays : keys 2 (fetched 0 ++ fetched 1 ++ entry 1 (Look (block 0)) ∷ fetched 2) ≡ block 2 ∷ block 0 ∷ []
  pub put_again : keys 2 (fetched 0 ++ fetched 1 ++ entry 1 (Put (block 0)) ∷ []) ≡ block 0 ∷ block 1 ∷ []
  pub skipped : keys 2 (fetched 0 ++ entry 1 (Look (block 1)) ∷ entry 1 (Skip (block 1)) ∷ []) ≡ block 0 ∷ []

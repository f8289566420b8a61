-- The history of a cache, and what it says of its keys and blocks.
use Rattle.std.specs.Prelude.{◌≡◌, ℕ, ◌+◌, ◌≤◌, ◌||◌, Bool, IsTrue, false, cond, List, [], ◌∷◌, length, take, All, IfSome}
use Rattle.std.specs.Map.{keys_of}
use Rattle.flat_image.specs.declared.stands.Entry.{Entry}
use Rattle.block_cache.specs.declared.key.Key.{Key}
use Rattle.block_cache.specs.declared.history.CacheAct.{CacheAct}
use Rattle.block_cache.specs.declared.history.CacheAct.TheVariants.{Look, Put, Skip}
use Rattle.block_cache.specs.declared.history.CacheBase.{CacheBase}
use Rattle.block_cache.specs.Blocks.{same_key, block_of, IsPart, CacheState}

-- whether the key is in the list
abbrev pub has : Key → List Key → Bool
has key [] = false
has key (k ∷ ks) = same_key key k || has key ks

-- the list without the key
abbrev pub without : Key → List Key → List Key
without key [] = []
without key (k ∷ ks) = cond (same_key key k) ks (k ∷ without key ks)

-- the keys after one act, the last used first: a look brings a key that is in to the front, a put brings it there in any
-- case and drops the last key past the capacity, and a skip changes nothing
abbrev pub after_act : ℕ → CacheAct → List Key → List Key
after_act capacity (Look key) ks = cond (has key ks) (key ∷ without key ks) ks
after_act capacity (Put key) ks = take capacity (key ∷ without key ks)
after_act capacity (Skip key) ks = ks

-- the keys after a list of entries, from those before it
abbrev pub after_all : ℕ → List Key → List (Entry CacheAct) → List Key
after_all capacity ks [] = ks
after_all capacity ks (e ∷ history) = after_all capacity (after_act capacity e.act ks) history

-- the keys that a cache of that capacity has after its history, the last used first
abbrev pub keys : ℕ → List (Entry CacheAct) → List Key
keys capacity history = after_all capacity [] history

-- the block is its file's
abbrev pub IsBlockOf : List (List ℕ) → Key × List ℕ → Type 0
IsBlockOf files b = b.1 ≡ block_of files b.0

-- the cache stands for a base and a history: it has that capacity and those keys, and where the files are told, each of its
-- blocks is its file's
pub record StandsFor (cache : CacheState) (base : CacheBase) (history : List (Entry CacheAct)) : Type 0 where
  pub capacity : cache.capacity ≡ base.capacity
  pub keys_are : keys_of cache.blocks ≡ keys base.capacity history
  pub blocks_are : IfSome base.files (λ files. All (IsBlockOf files) cache.blocks)

-- what the answer to a look tells of the history before it: the key is in where it is found, and where the files are told,
-- the bytes are its file's, and each range of its file's block is found if the key is in
pub record Finds (base : CacheBase) (history : List (Entry CacheAct)) (key : Key) (at count : ℕ) (found : Bool) (bytes : List ℕ) : Type 0 where
  pub known : IsTrue found → IsTrue (has key (keys base.capacity history))
  pub part : IsTrue found → IfSome base.files (λ files. IsPart (block_of files key) at count bytes)
  pub all : IsTrue (has key (keys base.capacity history)) → IfSome base.files (λ files. at + count ≤ length (block_of files key) → IsTrue found)

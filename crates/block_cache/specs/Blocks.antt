-- Blocks of files, and what contracts see of a cache.
use Rattle.std.specs.Prelude.{◌≡◌, ℕ, ◌+◌, ◌*◌, ◌≤◌, ◌↔◌, ◌==◌, ◌&&◌, Bool, IsTrue, false, List, [], ◌∷◌, length, take, drop, slice_index_or, MatchOption}
use Rattle.std.specs.Map.{lookup, remove_entry}
use Rattle.lru.specs.LruCache.{promoted}
use Rattle.block_cache.specs.declared.key.Key.{Key}

-- whether two keys are the same
abbrev pub same_key : Key → Key → Bool
same_key a b = (a.layer == b.layer) && (a.block == b.block)

-- the block of the key in a list of files: 65,536 bytes, and of the last one what is left of its file
abbrev pub block_of : List (List ℕ) → Key → List ℕ
block_of files key = take 65536 (drop (65536 * key.block) (slice_index_or files key.layer []))

-- the bytes are those of the block in that range, which lies in the block
pub record IsPart (block : List ℕ) (at count : ℕ) (bytes : List ℕ) : Type 0 where
  pub within : at + count ≤ length block
  pub is : bytes ≡ take count (drop at block)

-- what a look answers that finds the key's block: the range is copied exactly where the block has it
pub record Copies (block : List ℕ) (at : ℕ) (before : List ℕ) (found : Bool) (after : List ℕ) : Type 0 where
  pub exact : IsTrue found ↔ (at + length before ≤ length block)
  pub copied : IsTrue found → after ≡ take (length before) (drop at block)
  pub kept : found ≡ false → after ≡ before

-- what contracts see of a cache: how many blocks it may have, and its blocks by key, the last used first
pub record CacheState : Type 0 where
  pub capacity : ℕ
  pub blocks : List (Key × List ℕ)

module _ (cache : CacheState) (key : Key) where
  -- what a look answers: nothing where the key is not in
  abbrev pub Looks : ℕ → List ℕ → Bool → List ℕ → Type 0
  Looks at before found after = MatchOption (lookup (same_key key) cache.blocks) ((found ≡ false) × (after ≡ before)) (λ block. Copies block at before found after)

  -- the cache once the key was looked up: it comes first if it is in
  abbrev pub looked_up : CacheState
  looked_up = record cache { blocks = promoted (same_key key) cache.blocks }

  -- the cache once these bytes were put in as the key's block: it comes first, and what is past the capacity goes
  abbrev pub put_in : List ℕ → CacheState
  put_in bytes = record cache { blocks = take cache.capacity ((key, bytes) ∷ remove_entry (same_key key) cache.blocks) }

-- The keys of a list of blocks, when a block is looked up, put in or removed.
use Rattle.std.proofs.Common.{◌≡◌, ℕ, zero, suc, ◌+◌, ◌-◌, ◌<◌, ◌≤◌, Bool, true, false, cond, ◌&&◌, ◌||◌, ◌==◌, List, [], ◌∷◌, length, take, Option, Some, None, refl, sym, ◌∙◌, ap, arith}
use Rattle.std.proofs.lemmas.Bool.{eqb-true}
use Rattle.std.proofs.lemmas.List.{take_all}
use Rattle.std.specs.Option.{option_map_or, is_some}
use Rattle.std.specs.Map.{keys_of, lookup, lookup_entry, remove_entry}
use Rattle.lru.specs.LruCache.{LruCache, promoted, put_entries}
use Rattle.lru.proofs.CallerLemmas.{Contains-lookup_entry}
use Rattle.block_cache.specs.declared.key.Key.{Key}
use Rattle.block_cache.specs.Blocks.{same_key}
use Rattle.block_cache.specs.CacheHistory.{has, without}

and_true : (a b : Bool) → (a && b) ≡ true → (a ≡ true) × (b ≡ true)
and_true true b is = (refl, is)
and_true false b is = cc

pub same_keys : (a b : Key) → same_key a b ≡ true → a ≡ b
same_keys a b is =
    let both = and_true (a.layer == b.layer) (a.block == b.block) is in
    let layer : a.layer ≡ b.layer = eqb-true a.layer b.layer both.0 in
    let block : a.block ≡ b.block = eqb-true a.block b.block both.1 in
    λ i. record { layer = layer i; block = block i }

module _ {V : Type 0} (key : Key) where
  pub keys-remove : (es : List (Key × V)) → keys_of (remove_entry (same_key key) es) ≡ without key (keys_of es)
  keys-remove [] = refl
  keys-remove (e ∷ es) = elim (same_key key e.0) as (λ b. keys_of (cond b es (e ∷ remove_entry (same_key key) es)) ≡ cond b (keys_of es) (e.0 ∷ without key (keys_of es))) [
    | true ↦ refl
    | false ↦ ap (λ ks. e.0 ∷ ks) (keys-remove es)
  ]

  pub has-lookup : (es : List (Key × V)) → is_some (lookup_entry (same_key key) es) ≡ has key (keys_of es)
  has-lookup [] = refl
  has-lookup (e ∷ es) = elim (same_key key e.0) as (λ b. is_some (cond b (Some e) (lookup_entry (same_key key) es)) ≡ (b || has key (keys_of es))) [
    | true ↦ refl
    | false ↦ has-lookup es
  ]

  -- a look-up of the value finds one exactly where the key is in
  pub has-value : (es : List (Key × V)) → is_some (lookup (same_key key) es) ≡ has key (keys_of es)
  has-value [] = refl
  has-value (e ∷ es) = elim (same_key key e.0) as (λ b. is_some (cond b (Some e.1) (lookup (same_key key) es)) ≡ (b || has key (keys_of es))) [
    | true ↦ refl
    | false ↦ has-value es
  ]

  keys-found : (es : List (Key × V)) (o : Option (Key × V)) → lookup_entry (same_key key) es ≡ o → keys_of (option_map_or (λ e. e ∷ remove_entry (same_key key) es) o es) ≡ cond (is_some o) (key ∷ without key (keys_of es)) (keys_of es)
  keys-found es None at = refl
  keys-found es (Some e) at =
      let same : key ≡ e.0 = same_keys key e.0 (Contains-lookup_entry (same_key key) es e at).1 in
      let first : e.0 ≡ key = sym same in
      λ i. first i ∷ keys-remove es i

  pub keys-promoted : (es : List (Key × V)) → keys_of (promoted (same_key key) es) ≡ cond (has key (keys_of es)) (key ∷ without key (keys_of es)) (keys_of es)
  keys-promoted es = keys-found es (lookup_entry (same_key key) es) refl ∙ ap (λ b. cond b (key ∷ without key (keys_of es)) (keys_of es)) (has-lookup es)

  removes-none : (es : List (Key × V)) → lookup_entry (same_key key) es ≡ None → remove_entry (same_key key) es ≡ es
  removes-none [] at = refl
  removes-none (e ∷ es) at = (elim (same_key key e.0) as (λ b. cond b (Some e) (lookup_entry (same_key key) es) ≡ None → cond b es (e ∷ remove_entry (same_key key) es) ≡ e ∷ es) [
    | true ↦ λ found. cc
    | false ↦ λ none. ap (λ rest. e ∷ rest) (removes-none es none)
  ]) at

  removes-one : (es : List (Key × V)) (found : Key × V) → lookup_entry (same_key key) es ≡ Some found → length (remove_entry (same_key key) es) + 1 ≡ length es
  removes-one [] found at = cc
  removes-one (e ∷ es) found at = (elim (same_key key e.0) as (λ b. cond b (Some e) (lookup_entry (same_key key) es) ≡ Some found → length (cond b es (e ∷ remove_entry (same_key key) es)) + 1 ≡ length (e ∷ es)) [
    | true ↦ λ first. omega arith
    | false ↦ λ further. omega (arith, removes-one es found further)
  ]) at

  one-more : (cap : ℕ) (value : V) (es : List (Key × V)) → 0 < cap → (key, value) ∷ take (cap - 1) es ≡ take cap ((key, value) ∷ es)
  one-more zero value es some = absurd (omega arith)
  one-more (suc cap) value es some = let same : suc cap - 1 ≡ cap = omega arith in ap (λ n. (key, value) ∷ take n es) same

  puts : (cap : ℕ) (value : V) (es : List (Key × V)) → 0 < cap → length es ≤ cap → (o : Option (Key × V)) → lookup_entry (same_key key) es ≡ o →
      option_map_or (λ e. (e.0, value) ∷ remove_entry (same_key key) es) o ((key, value) ∷ take (cap - 1) es) ≡ take cap ((key, value) ∷ remove_entry (same_key key) es)
  puts cap value es some fits None at = one-more cap value es some ∙ ap (λ rest. take cap ((key, value) ∷ rest)) (sym (removes-none es at))
  puts cap value es some fits (Some e) at =
      let same : key ≡ e.0 = same_keys key e.0 (Contains-lookup_entry (same_key key) es e at).1 in
      let first : e.0 ≡ key = sym same in
      let short : length ((key, value) ∷ remove_entry (same_key key) es) ≤ cap = omega (arith, removes-one es e at) in
      ap (λ k. (k, value) ∷ remove_entry (same_key key) es) first ∙ sym (take_all cap ((key, value) ∷ remove_entry (same_key key) es) short)

  -- a put in words of the cache: the pair comes first, and what is past the capacity goes
  pub put-entries : (c : LruCache Key V) (value : V) → 0 < c.cap → length c.entries ≤ c.cap → put_entries same_key c key value ≡ take c.cap ((key, value) ∷ remove_entry (same_key key) c.entries)
  put-entries c value some fits = puts c.cap value c.entries some fits (lookup_entry (same_key key) c.entries) refl

-- A cache stands for its history with one more act.
use Rattle.std.proofs.Common.{◌≡◌, ℕ, ◌+◌, ◌≤◌, Bool, false, List, [], ◌∷◌, ◌++◌, length, take, Contains, All, Option, Some, None, MatchOption, IfSome, refl, sym, ◌∙◌, ap, subst}
use Rattle.std.specs.Option.{is_some, ForSome}
use Rattle.std.specs.Map.{keys_of, lookup, remove_entry}
use Rattle.std.proofs.lemmas.List.{take-map}
use Rattle.std.proofs.lemmas.List.Elements.{All-contains, All-contains_itself, All-weaker, All-nil, All-cons, All-take}
use Rattle.lru.specs.LruCache.{promoted}
use Rattle.lru.proofs.CallerLemmas.{Contains-promoted, Contains-remove_entry, Contains-lookup}
use Rattle.flat_image.specs.declared.stands.Entry.{Entry}
use Rattle.flat_image.specs.Entries.{entry}
use Rattle.block_cache.specs.declared.key.Key.{Key}
use Rattle.block_cache.specs.declared.history.CacheAct.{CacheAct}
use Rattle.block_cache.specs.declared.history.CacheAct.TheVariants.{Look, Put, Skip}
use Rattle.block_cache.specs.declared.history.CacheBase.{CacheBase}
use Rattle.block_cache.specs.Blocks.{same_key, block_of, IsPart, CacheState, looked_up, put_in, Copies}
use Rattle.block_cache.specs.CacheHistory.{has, after_act, after_all, keys, IsBlockOf, StandsFor, Finds}
use Rattle.block_cache.proofs.KeyLaws.{same_keys, keys-remove, keys-promoted, has-value}

after-entry : (capacity : ℕ) (ks : List Key) (history : List (Entry CacheAct)) (e : Entry CacheAct) → after_all capacity ks (history ++ e ∷ []) ≡ after_act capacity e.act (after_all capacity ks history)
after-entry capacity ks [] e = refl
after-entry capacity ks (f ∷ history) e = after-entry capacity (after_act capacity f.act ks) history e

keeps : (files : List (List ℕ)) (old new : List (Key × List ℕ)) → ((b : Key × List ℕ) → Contains new b → Contains old b) → All (IsBlockOf files) old → All (IsBlockOf files) new
keeps files old new among each = All-weaker (Contains new) (IsBlockOf files) (λ b is. All-contains (IsBlockOf files) old b each (among b is)) new (All-contains_itself new)

each_some : {P Q : List (List ℕ) → Type 0} (o : Option (List (List ℕ))) → ((files : List (List ℕ)) → P files → Q files) → IfSome o P → IfSome o Q
each_some None f p = tt
each_some (Some files) f p = f files p

each_all : (o : Option (List (List ℕ))) → IfSome o (λ files. All (IsBlockOf files) [])
each_all None = tt
each_all (Some files) = All-nil (IsBlockOf files)

both_some : {F P Q : List (List ℕ) → Type 0} (o : Option (List (List ℕ))) → ((files : List (List ℕ)) → F files → P files → Q files) → ForSome o F → IfSome o P → IfSome o Q
both_some None f fits p = tt
both_some (Some files) f fits p = f files (fits files refl) p

module _ (cache : CacheState) (base : CacheBase) (history : List (Entry CacheAct)) (stood : StandsFor cache base history) (key : Key) where
  pub stands-look : (number : ℕ) → StandsFor (looked_up cache key) base (history ++ entry number (Look key) ∷ [])
  stands-look number = record {
    capacity = stood.capacity;
    keys_are = keys-promoted key cache.blocks ∙ ap (after_act base.capacity (Look key)) stood.keys_are ∙ sym (after-entry base.capacity [] history (entry number (Look key)));
    blocks_are = each_some base.files (λ files. keeps files cache.blocks (promoted (same_key key) cache.blocks) (λ b. Contains-promoted (same_key key) cache.blocks b)) stood.blocks_are;
  }

  pub stands-put : (number : ℕ) (bytes : List ℕ) → ForSome base.files (λ files. bytes ≡ block_of files key) → StandsFor (put_in cache key bytes) base (history ++ entry number (Put key) ∷ [])
  stands-put number bytes fits =
      let rest : List (Key × List ℕ) = remove_entry (same_key key) cache.blocks in
      let all : List (Key × List ℕ) = (key, bytes) ∷ rest in
      let step : keys_of (take cache.capacity all) ≡ after_act cache.capacity (Put key) (keys_of cache.blocks) = sym (take-map (λ b. b.0) cache.capacity all) ∙ ap (λ ks. take cache.capacity (key ∷ ks)) (keys-remove key cache.blocks) in
      let moved : after_act cache.capacity (Put key) (keys_of cache.blocks) ≡ after_act base.capacity (Put key) (keys base.capacity history) = λ i. after_act (stood.capacity i) (Put key) (stood.keys_are i) in
      record {
        capacity = stood.capacity;
        keys_are = step ∙ moved ∙ sym (after-entry base.capacity [] history (entry number (Put key)));
        blocks_are = both_some base.files (λ files is each. All-take (IsBlockOf files) cache.capacity all (All-cons (IsBlockOf files) (key, bytes) rest is (keeps files cache.blocks rest (λ b. Contains-remove_entry (same_key key) cache.blocks b) each))) fits stood.blocks_are;
      }

  pub stands-skip : (number : ℕ) → StandsFor cache base (history ++ entry number (Skip key) ∷ [])
  stands-skip number = record {
    capacity = stood.capacity;
    keys_are = stood.keys_are ∙ sym (after-entry base.capacity [] history (entry number (Skip key)));
    blocks_are = stood.blocks_are;
  }

  block-found : (files : List (List ℕ)) (block : List ℕ) → All (IsBlockOf files) cache.blocks → lookup (same_key key) cache.blocks ≡ Some block → block ≡ block_of files key
  block-found files block each at =
      let found = Contains-lookup (same_key key) cache.blocks block at in
      let same : key ≡ found.0 = same_keys key found.0 found.2 in
      let its : block ≡ block_of files found.0 = All-contains (IsBlockOf files) cache.blocks (found.0, block) each found.1 in
      its ∙ ap (block_of files) (sym same)

  known : (o : Option (List ℕ)) → lookup (same_key key) cache.blocks ≡ o → has key (keys base.capacity history) ≡ is_some o
  known o is = ap (has key) (sym stood.keys_are) ∙ sym (has-value key cache.blocks) ∙ ap is_some is

  finds : (at : ℕ) (before : List ℕ) (found : Bool) (after : List ℕ) (o : Option (List ℕ)) → lookup (same_key key) cache.blocks ≡ o →
      MatchOption o ((found ≡ false) × (after ≡ before)) (λ block. Copies block at before found after) → Finds base history key at (length before) found after
  finds at before found after None is answer = record {
    known = λ yes. absurd (cc answer.0);
    part = λ yes. absurd (cc answer.0);
    all = λ yes. let none : has key (keys base.capacity history) ≡ false = known None is in absurd (cc);
  }
  finds at before found after (Some block) is answer = record {
    known = λ yes. known (Some block) is;
    part = λ yes. each_some base.files (λ files each. let same = block-found files block each is in subst (λ b. IsPart b at (length before) after) same (record { within = answer.exact.0 yes; is = answer.copied yes })) stood.blocks_are;
    all = λ yes. each_some base.files (λ files each fits. answer.exact.1 (subst (λ b. at + length before ≤ length b) (sym (block-found files block each is)) fits)) stood.blocks_are;
  }

  pub finds-look : (at : ℕ) (before : List ℕ) (found : Bool) (after : List ℕ) →
      MatchOption (lookup (same_key key) cache.blocks) ((found ≡ false) × (after ≡ before)) (λ block. Copies block at before found after) → Finds base history key at (length before) found after
  finds-look at before found after = finds at before found after (lookup (same_key key) cache.blocks) refl

-- an empty cache stands for every base of its capacity
pub stands-empty : (capacity : ℕ) (base : CacheBase) → base.capacity ≡ capacity → StandsFor (record { capacity = capacity; blocks = [] }) base []
stands-empty capacity base same = record {
  capacity = sym same;
  keys_are = refl;
  blocks_are = each_all base.files;
}

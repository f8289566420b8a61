-- A block that is read from a shelf, and a part of it.
use Rattle.std.proofs.Common.{◌≡◌, ℕ, ◌+◌, ◌-◌, ◌<◌, ◌≤◌, ◌⊎◌, ⊎_elim, min, max, List, ◌++◌, length, take, drop, Option, Some, None, IfSome, Result, Ok, Err, OnOk, IfErr, inl, inr, sym, ◌∙◌, ap, subst, arith}
use Rattle.std.proofs.lemmas.List.{take_all, take-append-le, length-take, length-drop, take-take, drop-take, drop-drop}
use Rattle.block_cache.specs.declared.key.Key.{Key}
use Rattle.turn_lock.specs.Locks.{Lock, Place}
use Rattle.block_cache.specs.declared.history.CacheAct.{CacheAct}
use Rattle.block_cache.specs.declared.history.CacheAct.TheVariants.{Put}
use Rattle.block_cache.specs.declared.history.CacheBase.{CacheBase}
use Rattle.block_cache.specs.declared.shared.PutFault.{PutFault}
use Rattle.block_cache.specs.declared.shared.PutFault.TheVariants.{Worn, Memory}
use Rattle.block_cache.specs.Blocks.{IsPart}
use Rattle.block_cache.specs.CacheTurns.{Noted, PutFails}
use Rattle.range_shelf.specs.CachedReads.{Keeps}

pub both_some : {A B D : List (List ℕ) → Type 0} (o : Option (List (List ℕ))) → ((files : List (List ℕ)) → A files → B files → D files) → IfSome o A → IfSome o B → IfSome o D
both_some None f a b = tt
both_some (Some files) f a b = f files a b

module _ {A B C D : List (List ℕ) → Type 0} (f : (files : List (List ℕ)) → A files → B files → C files → D files) where
  three_some : (o : Option (List (List ℕ))) → IfSome o A → IfSome o B → IfSome o C → IfSome o D
  three_some None a b c = tt
  three_some (Some files) a b c = f files a b c

  -- what three clauses say of files that stay the same
  pub of_files : (old new : Option (List (List ℕ))) → new ≡ old → IfSome old A → IfSome new B → IfSome new C → IfSome old D
  of_files old new same a b c = three_some old a (subst (λ o. IfSome o B) same b) (subst (λ o. IfSome o C) same c)

front_or_all : (n count long : ℕ) → count ≡ min n long → (count ≡ n) ⊎ ((long ≤ count) × (long ≤ n))
front_or_all n count long is = grind arith

front_same : (n count : ℕ) (xs : List ℕ) → count ≡ min n (length xs) → take count xs ≡ take n xs
front_same n count xs is = ⊎_elim
    (λ (same : count ≡ n). ap (λ k. take k xs) same)
    (λ (all : (length xs ≤ count) × (length xs ≤ n)). take_all count xs all.0 ∙ sym (take_all n xs all.1))
    (front_or_all n count (length xs) is)

-- the whole block was read, since no more than its file has is ever read
pub whole_block : (file : List ℕ) (start long until count n : ℕ) (bytes rest : List ℕ) → 0 < until → until ≤ 65536 → count ≡ max (min (long - start) 65536) until → n ≡ count
    → long ≡ length file → bytes ≡ take n (drop start file) → (0 < n → start + n ≤ length file) → take count (bytes ++ rest) ≡ take 65536 (drop start file)
whole_block file start long until count n bytes rest some few counted asked told is within =
    let inside : start + n ≤ length file = within (omega (arith, counted, asked)) in
    let behind : length (drop start file) ≡ length file - start = length-drop start file in
    let front : length (take n (drop start file)) ≡ min n (length (drop start file)) = length-take n (drop start file) in
    let size : length bytes ≡ n = ap (length {A = ℕ}) is ∙ front ∙ (omega (arith, behind)) in
    let counts : n ≡ min 65536 (length (drop start file)) = omega (arith, behind, counted, asked) in
    take-append-le count bytes rest (omega (arith, size, asked)) ∙ take_all count bytes (omega (arith, size, asked)) ∙ is ∙ front_same 65536 n (drop start file) counts

-- a part of a front is that part of the whole
pub part_of_front : (xs : List ℕ) (count at n : ℕ) → at + n ≤ count → take n (drop at (take count xs)) ≡ take n (drop at xs)
part_of_front xs count at n within =
    let split : count ≡ at + (count - at) = omega (arith, within) in
    ap (λ k. take n (drop at (take k xs))) split ∙ ap (take n) (drop-take at (count - at) xs) ∙ take-take n (count - at) (drop at xs) (omega (arith, within))

-- a part that was copied out of the block
pub part_copied : (block whole : List ℕ) (count at n m : ℕ) (bytes : List ℕ) → take count block ≡ whole → count ≤ length block → at + n ≤ count → m ≡ n → bytes ≡ take m (drop at block) → IsPart whole at n bytes
part_copied block whole count at n m bytes is fits within same copied =
    let size : length whole ≡ min count (length block) = ap (length {A = ℕ}) (sym is) ∙ length-take count block in
    record {
      within = omega (arith, size);
      is = copied ∙ ap (λ k. take k (drop at block)) same ∙ sym (part_of_front block count at n within) ∙ ap (λ w. take n (drop at w)) is;
    }

-- a part that was read from the shelf
pub part_read : (file : List ℕ) (start at n from m : ℕ) (bytes : List ℕ) → 0 < n → at + n ≤ 65536 → from ≡ start + at → m ≡ n
    → bytes ≡ take m (drop from file) → (0 < m → from + m ≤ length file) → IsPart (take 65536 (drop start file)) at n bytes
part_read file start at n from m bytes some few place same is within =
    let inside : from + m ≤ length file = within (omega (arith, same)) in
    let behind : length (drop start file) ≡ length file - start = length-drop start file in
    let size : length (take 65536 (drop start file)) ≡ min 65536 (length (drop start file)) = length-take 65536 (drop start file) in
    let further : drop from file ≡ drop at (drop start file) = ap (λ k. drop k file) place ∙ sym (drop-drop at start file) in
    record {
      within = omega (arith, size, behind, inside, place, same);
      is = is ∙ (λ i. take (same i) (further i)) ∙ sym (part_of_front (drop start file) 65536 at n few);
    }

-- the block was put in, or left out, or the cache is worn out
pub keeps : (cache : Lock CacheBase) (mid new : Place CacheAct) (key : Key) (r : Result (Unit {0}) PutFault) → OnOk r (Noted mid new (Put key)) → IfErr r (PutFails cache mid new key) → Keeps cache mid new key
keeps cache mid new key (Ok done) noted fails = inl noted
keeps cache mid new key (Err Worn) noted fails = inr (inr fails)
keeps cache mid new key (Err Memory) noted fails = inr (inl fails)

-- what follows where the answer is no fault
pub part_if_ok : {T E : Type 0} (r : Result T E) {A : List (List ℕ) → Type 0} {B : List (List ℕ) → Type 0} {D : List (List ℕ) → Type 0} (o : Option (List (List ℕ)))
    → ((files : List (List ℕ)) → A files → B files → D files) → OnOk r (IfSome o A) → OnOk r (IfSome o B) → OnOk r (IfSome o D)
part_if_ok (Ok value) o f a b = both_some o f a b
part_if_ok (Err error) o f a b = tt

-- A range that is read block by block.
use Rattle.std.proofs.Common.{◌≡◌, ℕ, suc, ◌+◌, ◌-◌, ◌*◌, ◌/◌, ◌<◌, ◌≤◌, ◌==◌, cond, true, false, min, List, ◌++◌, length, take, drop, refl, sym, ◌∙◌, ap, subst, arith}
use Rattle.std.proofs.lemmas.List.{take_all, take-append-le, length-take, length-drop, drop-drop}
use Rattle.std.proofs.Math.Seq.{take-add, take-append-add}
use Rattle.std.proofs.lemmas.Bool.{eqb-false, eqb-true}
use Rattle.turn_lock.specs.Locks.{Lock, Place}
use Rattle.block_cache.specs.declared.key.Key.{Key}
use Rattle.block_cache.specs.declared.history.CacheAct.{CacheAct}
use Rattle.block_cache.specs.declared.history.CacheBase.{CacheBase}
use Rattle.block_cache.specs.Blocks.{IsPart}
use Rattle.range_shelf.specs.CachedReads.{touched, part_at, part_count, ReadsPart, LosesPart, ReadsBlocks, LosesBlock}
use Rattle.range_shelf.proofs.BlockReads.{part_of_front}

-- the first so many bytes of the range were read
pub record IsReadTo (file : List ℕ) (at : ℕ) (out : List ℕ) (n : ℕ) : Type 0 where
  pub within : 0 < n → at + n ≤ length file
  pub is : take n out ≡ take n (drop at file)

-- how many bytes of a range lie before the end of so many of its blocks
abbrev pub reached : ℕ → ℕ → ℕ → ℕ
reached at size number = min size (65536 * (at / 65536 + number) - at)

-- each block that is touched begins before the range's end
begins_before : (at size number : ℕ) → number < touched at size → (0 < size) × (65536 * (at / 65536 + number) < at + size)
begins_before at size number = (elim (size == 0) as (λ b. size == 0 ≡ b → number < cond b 0 ((at + size - 1) / 65536 - at / 65536 + 1) → (0 < size) × (65536 * (at / 65536 + number) < at + size)) [
  | true ↦ λ is none. absurd (omega (arith, none))
  | false ↦ λ is lt. let some : size ≡ 0 → ⊥ = eqb-false size 0 is in (omega (arith, some), omega (arith, some, lt))
]) refl

-- the part of such a block: some bytes of it, from where the range was read up to
pub record IsNext (at size number done from count : ℕ) : Type 0 where
  pub here : done ≡ reached at size number
  pub next : done + count ≡ reached at size (number + 1)
  pub some : 0 < count
  pub block : from + count ≤ 65536
  pub place : 65536 * (at / 65536 + number) + from ≡ at + done
  pub room : done + count ≤ size

pub next_part : (at size number done from count : ℕ) → number < touched at size → done ≡ 65536 * (at / 65536 + number) - at → from ≡ part_at at (at / 65536 + number)
    → count ≡ part_count at (at + size) (at / 65536 + number) → IsNext at size number done from count
next_part at size number done from count touches done_is from_is count_is =
    let before = begins_before at size number touches in
    record {
      here = omega (arith, before.0, before.1, done_is);
      next = omega (arith, before.0, before.1, done_is, from_is, count_is);
      some = omega (arith, before.0, before.1, from_is, count_is);
      block = omega (arith, before.0, before.1, from_is, count_is);
      place = omega (arith, before.0, before.1, done_is, from_is);
      room = omega (arith, before.0, before.1, done_is, from_is, count_is);
    }

-- nothing is left once all blocks were read
pub all_read : (at size : ℕ) → reached at size (touched at size) ≡ size
all_read at size = (elim (size == 0) as (λ b. size == 0 ≡ b → reached at size (cond b 0 ((at + size - 1) / 65536 - at / 65536 + 1)) ≡ size) [
  | true ↦ λ is. let none : size ≡ 0 = eqb-true size 0 is in omega (arith, none)
  | false ↦ λ is. let some : size ≡ 0 → ⊥ = eqb-false size 0 is in omega (arith, some)
]) refl

-- one part more was read
pub read_more : (file out front piece back : List ℕ) (at size number done from count : ℕ) → front ≡ take done out → length front ≡ done → length piece ≡ count → IsNext at size number done from count
    → IsReadTo file at out (reached at size number) → IsPart (take 65536 (drop (65536 * (at / 65536 + number)) file)) from count piece
    → IsReadTo file at (front ++ (piece ++ back)) (reached at size (number + 1))
read_more file out front piece back at size number done from count is short long next before part =
    let start : ℕ = 65536 * (at / 65536 + number) in
    let behind : length (drop start file) ≡ length file - start = length-drop start file in
    let size_of : length (take 65536 (drop start file)) ≡ min 65536 (length (drop start file)) = length-take 65536 (drop start file) in
    let known : take done out ≡ take done (drop at file) = subst (λ n. take n out ≡ take n (drop at file)) (sym next.here) before.is in
    let place : drop from (drop start file) ≡ drop done (drop at file) = drop-drop from start file ∙ ap (λ n. drop n file) next.place ∙ sym (drop-drop done at file) in
    let bytes : piece ≡ take count (drop done (drop at file)) = part.is ∙ part_of_front (drop start file) 65536 from count next.block ∙ ap (take count) place in
    let all : take (done + count) (front ++ (piece ++ back)) ≡ front ++ piece =
    ap (λ n. take (n + count) (front ++ (piece ++ back))) (sym short) ∙ take-append-add front (piece ++ back) count
    ∙ ap (λ l. front ++ l) (take-append-le count piece back (omega (arith, long)) ∙ take_all count piece (omega (arith, long))) in
    let joined : take (done + count) (front ++ (piece ++ back)) ≡ take (done + count) (drop at file) = all ∙ (λ i. (is ∙ known) i ++ bytes i) ∙ sym (take-add done count (drop at file)) in
    record {
      within = λ some. omega (arith, part.within, size_of, behind, next.place, next.next, next.some);
      is = subst (λ n. take n (front ++ (piece ++ back)) ≡ take n (drop at file)) next.next joined;
    }

-- one block more was read
pub blocks_more : (cache : Lock CacheBase) (layer at end number from count : ℕ) (old mid new : Place CacheAct) → from ≡ part_at at (at / 65536 + number) → count ≡ part_count at end (at / 65536 + number)
    → ReadsBlocks cache layer at end number old mid → ReadsPart cache mid new (record { layer = layer; block = at / 65536 + number }) from count
    → ReadsBlocks cache layer at end (number + 1) old new
blocks_more cache layer at end number from count old mid new from_is count_is before part =
    let key : Key = record { layer = layer; block = at / 65536 + number } in
    let here : ReadsPart cache mid new key (part_at at (at / 65536 + number)) (part_count at end (at / 65536 + number)) = subst (λ n. ReadsPart cache mid new key n (part_count at end (at / 65536 + number))) from_is (subst (λ n. ReadsPart cache mid new key from n) count_is part) in
    let more : suc number ≡ number + 1 = omega arith in
    subst (λ n. ReadsBlocks cache layer at end n old new) more (mid, before, here)

-- the shelf failed at that block
pub block_lost : (cache : Lock CacheBase) (layer at size number from count : ℕ) (old mid new : Place CacheAct) → number < touched at size → from ≡ part_at at (at / 65536 + number) → count ≡ part_count at (at + size) (at / 65536 + number)
    → ReadsBlocks cache layer at (at + size) number old mid → LosesPart cache mid new (record { layer = layer; block = at / 65536 + number }) from count
    → LosesBlock cache layer at (at + size) (touched at size) old new
block_lost cache layer at size number from count old mid new touches from_is count_is before part =
    let end : ℕ = at + size in
    let key : Key = record { layer = layer; block = at / 65536 + number } in
    let here : LosesPart cache mid new key (part_at at (at / 65536 + number)) (part_count at end (at / 65536 + number)) = subst (λ n. LosesPart cache mid new key n (part_count at end (at / 65536 + number))) from_is (subst (λ n. LosesPart cache mid new key from n) count_is part) in
    (number, mid, touches, before, here)

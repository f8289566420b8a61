-- Two lists with fronts of one length, numbers with one spelling, and what is put into zeros.
use Rattle.std.proofs.Common.{◌≡◌, ℕ, ◌+◌, ◌-◌, ◌^◌, ◌<◌, ◌≤◌, List, [], ◌∷◌, ◌++◌, length, take, drop, replicate, refl, sym, ap, ◌∙◌, arith, append_assoc, append-nil}
use Rattle.std.specs.Int.{w64, to_le_bytes, from_le_bytes}
use Rattle.std.proofs.lemmas.List.{take_at, drop_at, length-append, length-take, length-drop, drop-drop, drop-replicate, take-append-drop}
use Rattle.std.proofs.lemmas.Nat.{from_le_bytes-to_le_bytes_8}
use Rattle.byte_fields.specs.Filled.{IsFilledTo}

-- equal lists with fronts of one length have one front and one rest
pub split_same : {A : Type 0} (a b x y : List A) → length a ≡ length b → a ++ x ≡ b ++ y → (a ≡ b) × (x ≡ y)
split_same a b x y len e = (
  sym (take_at a x (length b) len) ∙ ap (take (length b)) e ∙ take_at b y (length b) refl,
  sym (drop_at a x (length b) len) ∙ ap (drop (length b)) e ∙ drop_at b y (length b) refl,
)

-- a field behind those that were read, and nothing behind the last
pub read_more : {A : Type 0} (all front rest field behind : List A) → all ≡ front ++ rest → rest ≡ field ++ behind → all ≡ (front ++ field) ++ behind
read_more all front rest field behind e f = e ∙ (ap (λ x. front ++ x) f ∙ sym (append_assoc front field behind))

pub read_all : {A : Type 0} (all front rest : List A) → all ≡ front ++ rest → length rest ≡ 0 → all ≡ front
read_all all front [] e none = e ∙ append-nil front
read_all all front (x ∷ rest) e none = absurd (omega (arith, none))

-- a number has one spelling
pub same_u64_le : (m n : ℕ) → m < 2 ^ 64 → n < 2 ^ 64 → to_le_bytes w64 m ≡ to_le_bytes w64 n → m ≡ n
same_u64_le m n hm hn e = sym (from_le_bytes-to_le_bytes_8 m hm) ∙ ap (from_le_bytes w64) e ∙ from_le_bytes-to_le_bytes_8 n hn

-- a write behind what is filled fills as much more
pub filled_more : (old bytes new : List ℕ) (at size : ℕ) → IsFilledTo old at size → at + length bytes ≤ size
    → new ≡ take at old ++ bytes ++ drop (at + length bytes) old → IsFilledTo new (at + length bytes) size × (take (at + length bytes) new ≡ take at old ++ bytes)
filled_more old bytes new at size filled room e =
    let front : length (take at old ++ bytes) ≡ at + length bytes = simp (length-append, length-take) (omega (arith, filled.whole)) in
    let parts : new ≡ (take at old ++ bytes) ++ drop (at + length bytes) old = e in
    let behind : drop (at + length bytes) new ≡ drop (at + length bytes) old =
    ap (drop (at + length bytes)) parts ∙ drop_at (take at old ++ bytes) (drop (at + length bytes) old) (at + length bytes) front in
    let zeros : drop (at + length bytes) old ≡ replicate (size - (at + length bytes)) 0 =
    sym (drop-drop (length bytes) at old) ∙ ap (drop (length bytes)) filled.zeros ∙ drop-replicate (length bytes) (size - at) 0 ∙ ap (λ (n : ℕ). replicate n 0) (omega arith) in (
      record {
        whole = ap length parts ∙ length-append (take at old ++ bytes) (drop (at + length bytes) old) ∙ simp length-drop (omega (arith, filled.whole, front));
        within = room;
        zeros = behind ∙ zeros;
      },
      ap (take (at + length bytes)) parts ∙ take_at (take at old ++ bytes) (drop (at + length bytes) old) (at + length bytes) front,
    )

-- as many bytes are filled
pub length-filled : (block : List ℕ) (at size : ℕ) → IsFilledTo block at size → length (take at block) ≡ at
length-filled block at size filled = simp length-take (omega (arith, filled.whole, filled.within))

-- a block is what is filled and zeros behind it
pub filled_whole : (block : List ℕ) (at size : ℕ) → IsFilledTo block at size → block ≡ take at block ++ replicate (size - length (take at block)) 0
filled_whole block at size filled =
    sym (take-append-drop at block) ∙ ap (λ (rest : List ℕ). take at block ++ rest) (filled.zeros ∙ ap (λ (n : ℕ). replicate (size - n) 0) (sym (length-filled block at size filled)))

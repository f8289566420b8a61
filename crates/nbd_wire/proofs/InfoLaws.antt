-- What is spelled as the data of INFO is read as its name.
use Rattle.std.proofs.Common.{◌≡◌, ℕ, ◌+◌, ◌*◌, ◌^◌, ◌<◌, List, ◌++◌, length, take, drop, None, Some, refl, sym, ap, ◌∙◌, arith, length-append, append_assoc}
use Rattle.std.proofs.lemmas.List.{take_at, drop_at}
use Rattle.std.proofs.lemmas.Bool.{eq-eqb, ne_eqb, cond-true, cond-false}
use Rattle.std.proofs.lemmas.Nat.{from_be_bytes-to_be_bytes_2, from_be_bytes-to_be_bytes_4}
use Rattle.std.specs.Int.{w16, w32, to_be_bytes, from_be_bytes}
use Rattle.byte_fields.proofs.Fronts.{read_more}
use Rattle.nbd_wire.specs.Infos.{InfoOf, info_name, number_in}

-- the lengths add up, or no name is read
pub info_name-some : (bytes : List ℕ) (len count : ℕ) → number_in w32 0 bytes ≡ len → number_in w16 (4 + len) bytes ≡ count → length bytes ≡ 6 + len + 2 * count → info_name bytes ≡ Some (take len (drop 4 bytes))
unfolding info_name
info_name-some bytes len count e f h =
    let whole : length bytes ≡ 6 + number_in w32 0 bytes + 2 * number_in w16 (4 + number_in w32 0 bytes) bytes =
    h ∙ ap (λ n. 6 + n + 2 * count) (sym e) ∙ ap (λ n. 6 + number_in w32 0 bytes + 2 * n) (sym f) ∙ ap (λ n. 6 + number_in w32 0 bytes + 2 * number_in w16 (4 + n) bytes) (sym e) in
    cond-true _ _ _ (eq-eqb _ _ whole) ∙ ap (λ n. Some (take n (drop 4 bytes))) e

pub info_name-none : (bytes : List ℕ) (len count : ℕ) → number_in w32 0 bytes ≡ len → number_in w16 (4 + len) bytes ≡ count → (length bytes ≡ 6 + len + 2 * count → ⊥) → info_name bytes ≡ None
unfolding info_name
info_name-none bytes len count e f h =
    let lens : 6 + number_in w32 0 bytes + 2 * number_in w16 (4 + number_in w32 0 bytes) bytes ≡ 6 + len + 2 * count =
    ap (λ n. 6 + n + 2 * number_in w16 (4 + n) bytes) e ∙ ap (λ n. 6 + len + 2 * n) f in
    cond-false _ _ _ (ne_eqb _ _ (λ q. h (q ∙ lens)))

pub info_name-short : (bytes : List ℕ) → length bytes < 6 + number_in w32 0 bytes → info_name bytes ≡ None
info_name-short bytes h = info_name-none bytes (number_in w32 0 bytes) (number_in w16 (4 + number_in w32 0 bytes) bytes) refl refl (λ q. omega (arith, q))

-- the numbers that stand in what is spelled
number_in-first : (n : ℕ) (rest : List ℕ) → n < 2 ^ 32 → number_in w32 0 (to_be_bytes w32 n ++ rest) ≡ n
unfolding number_in
number_in-first n rest h = from_be_bytes-to_be_bytes_4 n h

number_in-after : (front rest : List ℕ) (at n : ℕ) → length front ≡ at → n < 2 ^ 16 → number_in w16 at (front ++ (to_be_bytes w16 n ++ rest)) ≡ n
unfolding number_in
number_in-after front rest at n l h =
    ap (λ xs. from_be_bytes w16 (take 2 xs)) (drop_at front (to_be_bytes w16 n ++ rest) at l) ∙ from_be_bytes-to_be_bytes_2 n h

pub info_name-of : (bytes name : List ℕ) → InfoOf bytes name → info_name bytes ≡ Some name
info_name-of bytes name h =
    let len = length name in
    let lead = to_be_bytes w32 len in
    let mid = to_be_bytes w16 h.count in
    let grouped : bytes ≡ (lead ++ name) ++ (mid ++ h.wanted) = h.spelled ∙ append_assoc (lead ++ name) mid h.wanted in
    let nested : bytes ≡ lead ++ (name ++ (mid ++ h.wanted)) = grouped ∙ append_assoc lead name (mid ++ h.wanted) in
    let first : number_in w32 0 bytes ≡ len = ap (number_in w32 0) nested ∙ number_in-first len (name ++ (mid ++ h.wanted)) h.short in
    let second : number_in w16 (4 + len) bytes ≡ h.count =
    ap (number_in w16 (4 + len)) grouped ∙ number_in-after (lead ++ name) h.wanted (4 + len) h.count (length-append lead name) h.few in
    let whole : length bytes ≡ 6 + len + 2 * h.count = ap length grouped ∙ length-append (lead ++ name) (mid ++ h.wanted) ∙ omega (arith, length-append lead name, length-append mid h.wanted, h.counted) in
    info_name-some bytes len h.count first second whole ∙ ap (λ xs. Some (take len xs)) (ap (drop 4) nested ∙ drop_at lead (name ++ (mid ++ h.wanted)) 4 refl) ∙ ap Some (take_at name (mid ++ h.wanted) len refl)

-- the length of the name, and the count of numbers behind it, as they were read
pub length_read : (bytes a : List ℕ) (len : ℕ) → len < 2 ^ 32 → bytes ≡ to_be_bytes w32 len ++ a → number_in w32 0 bytes ≡ len
length_read bytes a len short p = ap (number_in w32 0) p ∙ number_in-first len a short

pub count_read : (bytes a name b c : List ℕ) (len count : ℕ) → count < 2 ^ 16 → length name ≡ len
    → bytes ≡ to_be_bytes w32 len ++ a → a ≡ name ++ b → b ≡ to_be_bytes w16 count ++ c → number_in w16 (4 + len) bytes ≡ count
count_read bytes a name b c len count few long p q s =
    let lead = to_be_bytes w32 len in
    let grouped : bytes ≡ (lead ++ name) ++ (to_be_bytes w16 count ++ c) = read_more bytes lead a name b p q ∙ ap (λ x. (lead ++ name) ++ x) s in
    ap (number_in w16 (4 + len)) grouped ∙ number_in-after (lead ++ name) c (4 + len) count (length-append lead name ∙ ap (λ n. 4 + n) long) few

-- the data as they were read
pub info_read : (bytes a name b c : List ℕ) (len count : ℕ) → len < 2 ^ 32 → count < 2 ^ 16 → length name ≡ len → length c ≡ 2 * count
    → bytes ≡ to_be_bytes w32 len ++ a → a ≡ name ++ b → b ≡ to_be_bytes w16 count ++ c → InfoOf bytes name
info_read bytes a name b c len count short few long counted p q s = record {
  count = count;
  wanted = c;
  spelled = read_more bytes (to_be_bytes w32 (length name) ++ name) b (to_be_bytes w16 count) c
      (read_more bytes (to_be_bytes w32 (length name)) a name b (p ∙ ap (λ n. to_be_bytes w32 n ++ a) (sym long)) q) s;
  short = omega (arith, short, long);
  few = few;
  counted = counted;
}

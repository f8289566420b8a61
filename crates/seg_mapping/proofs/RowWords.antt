-- A row is the fields of its two words, and two rows with the same words are one.
use Rattle.std.proofs.Common.{take, drop, ◌≡◌, ◌≢◌, ℕ, ◌+◌, ◌*◌, ◌/◌, ◌%◌, ◌^◌, ◌<◌, Bool, true, false, nat_eq, List, [], ◌++◌, length, refl, sym, ap, ◌∙◌, arith, cond}
use Rattle.std.specs.Int.{w64, to_le_bytes, from_le_bytes}
use Rattle.std.proofs.lemmas.Nat.{from_le_bytes-to_le_bytes_8}
use Rattle.std.proofs.lemmas.List.{append-nil, nil_from_length}
use Rattle.std.proofs.lemmas.Bool.{eqb-true, eqb-false}
use Rattle.byte_fields.proofs.Fronts.{split_same, same_u64_le}
use Rattle.seg_mapping.specs.declared.Row.{Row}
use Rattle.seg_mapping.specs.Rows.{row_in, Fits, RowOf, first_word, second_word, spelling}

-- 16 bytes that were read as two words
pub words_are : (bytes behind rest : List ℕ) (first second : ℕ) → length bytes ≡ 16 → bytes ≡ to_le_bytes w64 first ++ behind → behind ≡ to_le_bytes w64 second ++ rest
    → bytes ≡ to_le_bytes w64 first ++ to_le_bytes w64 second
words_are bytes behind rest first second len e d =
    let none : rest ≡ [] = nil_from_length rest (omega (arith, ap length e, ap length d)) in
    e ∙ ap (λ (x : List ℕ). to_le_bytes w64 first ++ x) (d ∙ ap (λ (x : List ℕ). to_le_bytes w64 second ++ x) none ∙ append-nil (to_le_bytes w64 second))

-- the words fit 64 bits
pub first_word-below : (row : Row) → Fits row → first_word row < 2 ^ 64
first_word-below row fits = omega (arith, fits.offset, fits.count)

pub second_word-below : (row : Row) → Fits row → row.tag < 2 ^ 8 → second_word row < 2 ^ 64
second_word-below row fits tag =
    elim row.zeroed as (λ z. row.place + cond z (2 ^ 55) 0 + row.tag * 2 ^ 56 < 2 ^ 64) [ true ↦ omega (arith, fits.place) | false ↦ omega (arith, fits.place) ]

-- what the words say of the row
pub words_of : (bytes : List ℕ) (first second : ℕ) (row : Row) → first < 2 ^ 64 → second < 2 ^ 64 → bytes ≡ to_le_bytes w64 first ++ to_le_bytes w64 second → RowOf bytes row
    → (first ≡ first_word row) × (second ≡ second_word row)
unfolding spelling
words_of bytes first second row hf hs e of =
    let parts = split_same (to_le_bytes w64 first) (to_le_bytes w64 (first_word row)) (to_le_bytes w64 second) (to_le_bytes w64 (second_word row)) refl (sym e ∙ of.spelled) in
    (same_u64_le first (first_word row) hf (first_word-below row of.fits) parts.0, same_u64_le second (second_word row) hs (second_word-below row of.fits of.tag) parts.1)

-- the fields that the words have are the row's
place_in : (place tag : ℕ) (zeroed : Bool) → place < 2 ^ 55 → (place + cond zeroed (2 ^ 55) 0 + tag * 2 ^ 56) % 2 ^ 55 ≡ place
place_in place tag true h = omega arith
place_in place tag false h = omega arith

tag_in : (place tag : ℕ) (zeroed : Bool) → place < 2 ^ 55 → (place + cond zeroed (2 ^ 55) 0 + tag * 2 ^ 56) / 2 ^ 56 ≡ tag
tag_in place tag true h = omega arith
tag_in place tag false h = omega arith

zeroed_in : (place tag : ℕ) (zeroed : Bool) → place < 2 ^ 55 → nat_eq ((place + cond zeroed (2 ^ 55) 0 + tag * 2 ^ 56) / 2 ^ 55 % 2) 1 ≡ zeroed
zeroed_in place tag true h = ap (λ (n : ℕ). nat_eq n 1) (let one : (place + 2 ^ 55 + tag * 2 ^ 56) / 2 ^ 55 % 2 ≡ 1 = omega arith in one)
zeroed_in place tag false h = ap (λ (n : ℕ). nat_eq n 1) (let none : (place + 0 + tag * 2 ^ 56) / 2 ^ 55 % 2 ≡ 0 = omega arith in none)

pub row_in-words : (row : Row) → Fits row → row_in (first_word row) (second_word row) ≡ row
row_in-words row fits =
    let offset : first_word row % 2 ^ 50 ≡ row.offset = omega (arith, fits.offset) in
    let count : first_word row / 2 ^ 50 ≡ row.count = omega (arith, fits.offset) in
    let place : second_word row % 2 ^ 55 ≡ row.place = place_in row.place row.tag row.zeroed fits.place in
    let zeroed : nat_eq (second_word row / 2 ^ 55 % 2) 1 ≡ row.zeroed = zeroed_in row.place row.tag row.zeroed fits.place in
    let tag : second_word row / 2 ^ 56 ≡ row.tag = tag_in row.place row.tag row.zeroed fits.place in
    λ i. record { offset = offset i; count = count i; place = place i; zeroed = zeroed i; tag = tag i }

-- the row that two words have is spelled by them
second_is : (second : ℕ) (z : Bool) → nat_eq (second / 2 ^ 55 % 2) 1 ≡ z → second % 2 ^ 55 + cond z (2 ^ 55) 0 + second / 2 ^ 56 * 2 ^ 56 ≡ second
second_is second true h = omega (arith, eqb-true _ _ h)
second_is second false h = let not_one : second / 2 ^ 55 % 2 ≢ 1 = eqb-false _ _ h in omega arith

pub row_in-found : (bytes : List ℕ) (first second : ℕ) → first < 2 ^ 64 → second < 2 ^ 64 → bytes ≡ to_le_bytes w64 first ++ to_le_bytes w64 second → 0 < first / 2 ^ 50 → RowOf bytes (row_in first second)
unfolding spelling
row_in-found bytes first second hf hs e some =
    let one : first_word (row_in first second) ≡ first = omega arith in
    let two : second_word (row_in first second) ≡ second = second_is second (nat_eq (second / 2 ^ 55 % 2) 1) refl in
    record {
      spelled = e ∙ ap (λ (n : ℕ). to_le_bytes w64 n ++ to_le_bytes w64 second) (sym one) ∙ ap (λ (n : ℕ). to_le_bytes w64 (first_word (row_in first second)) ++ to_le_bytes w64 n) (sym two);
      fits = record { offset = omega arith; some = omega (arith, some); count = omega (arith, hf); place = omega arith };
      tag = omega (arith, hs);
    }

-- 16 bytes are one row at most
pub one_row : (bytes : List ℕ) (one other : Row) → RowOf bytes one → RowOf bytes other → one ≡ other
unfolding spelling
one_row bytes one other h k =
    let words = words_of bytes (first_word one) (second_word one) other (first_word-below one h.fits) (second_word-below one h.fits h.tag) h.spelled k in
    sym (row_in-words one h.fits) ∙ ap (λ (n : ℕ). row_in n (second_word one)) words.0 ∙ ap (λ (n : ℕ). row_in (first_word other) n) words.1 ∙ row_in-words other k.fits

-- the two numbers of 16 bytes that are a row are that row's
pub row_in-bytes : (bytes : List ℕ) (row : Row) → RowOf bytes row → row_in (from_le_bytes w64 (take 8 bytes)) (from_le_bytes w64 (take 8 (drop 8 bytes))) ≡ row
unfolding spelling
row_in-bytes bytes row of =
    let first : from_le_bytes w64 (take 8 bytes) ≡ first_word row =
    ap (λ (b : List ℕ). from_le_bytes w64 (take 8 b)) of.spelled ∙ from_le_bytes-to_le_bytes_8 (first_word row) (first_word-below row of.fits) in
    let second : from_le_bytes w64 (take 8 (drop 8 bytes)) ≡ second_word row =
    ap (λ (b : List ℕ). from_le_bytes w64 (take 8 (drop 8 b))) of.spelled ∙ from_le_bytes-to_le_bytes_8 (second_word row) (second_word-below row of.fits of.tag) in
    ap (λ (n : ℕ). row_in n (from_le_bytes w64 (take 8 (drop 8 bytes)))) first ∙ ap (row_in (first_word row)) second ∙ row_in-words row of.fits

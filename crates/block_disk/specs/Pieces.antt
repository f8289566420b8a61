-- Pieces of a file after a write, a torn write or a cut.
use Rattle.std.specs.Prelude.{◌≡◌, ℕ, ◌+◌, ◌-◌, ◌<◌, ◌≤◌, ◌⊎◌, List, ◌++◌, length, take, drop, replicate, slice_index}
use Rattle.std.proofs.Common.{sym, ap, ◌∙◌, arith, length-append, get_or, ⊎_elim}
use Rattle.std.proofs.lemmas.List.{length-take, length-drop, get_or-append_right, get_or-drop, get_or-take, get_or_append_left, ext_get_or}
use Rattle.block_disk.specs.Changes.{piece, put, Torn, Cut}
use Rattle.block_disk.specs.ChangeLaws.{torn_put, length-put, front_len}

pub length-piece : (at n : ℕ) (file : List ℕ) → at + n ≤ length file → length (piece at n file) ≡ n
length-piece at n file fits = length-take n (drop at file) ∙ omega (arith, length-drop at file)

pub get_or-piece : (at n : ℕ) (file : List ℕ) (i : ℕ) → i < n → slice_index (piece at n file) i ≡ slice_index file (at + i)
get_or-piece at n file i lt = get_or-take n (drop at file) i 0 lt ∙ get_or-drop at file i 0

-- two files have the same piece where they have the same bytes there
pub same_piece : (at n : ℕ) (old new : List ℕ) → at + n ≤ length old → at + n ≤ length new
    → ((i : ℕ) → at ≤ i → i < at + n → slice_index new i ≡ slice_index old i)
    → piece at n new ≡ piece at n old
same_piece at n old new fits_old fits_new same =
    let len_new = length-piece at n new fits_new in
    let len_old = length-piece at n old fits_old in
    ext_get_or 0 (piece at n new) (piece at n old) (len_new ∙ sym len_old)
    (λ i lt. let within : i < n = omega (arith, len_new, lt) in
    get_or-piece at n new i within ∙ same (at + i) (omega arith) (omega (arith, within)) ∙ sym (get_or-piece at n old i within))

-- a write keeps each piece of the old file that lies before it or behind it, also where it is torn
pub torn_piece : (from size at n : ℕ) (old new : List ℕ) → Torn from size old new → at + n ≤ length old
    → (at + n ≤ from) ⊎ (from + size ≤ at)
    → piece at n new ≡ piece at n old
torn_piece from size at n old new torn fits apart =
    same_piece at n old new fits (omega (arith, torn.no_shorter))
    (λ i from_at below. ⊎_elim (λ before. torn.below i (omega arith) (omega (arith, before, below))) (λ behind. torn.above i (omega arith) (omega (arith, behind, from_at))) apart)

pub put_piece_apart : (at n from : ℕ) (old bytes : List ℕ) → at + n ≤ length old
    → (at + n ≤ from) ⊎ (from + length bytes ≤ at)
    → piece at n (put old from bytes) ≡ piece at n old
put_piece_apart at n from old bytes fits apart =
    torn_piece from (length bytes) at n old (put old from bytes) (torn_put from (length bytes) old bytes (omega arith)) fits apart

-- the bytes that a write wrote
pub put_inside : (old : List ℕ) (at : ℕ) (bytes : List ℕ) (i : ℕ) → i < length bytes → slice_index (put old at bytes) (at + i) ≡ slice_index bytes i
put_inside old at bytes i lt =
    let front = front_len old at in
    let in_written : at + i < length (take at old ++ replicate (at - length old) 0 ++ bytes) =
    omega (arith, length-append (take at old ++ replicate (at - length old) 0) bytes, front, lt) in
    get_or_append_left (take at old ++ replicate (at - length old) 0 ++ bytes) (drop (at + length bytes) old) 0 (at + i) in_written
    ∙ get_or-append_right (take at old ++ replicate (at - length old) 0) bytes at (at + i) 0 front (omega arith)
    ∙ ap (λ k. get_or bytes k 0) (omega arith)

pub put_piece : (old : List ℕ) (at : ℕ) (bytes : List ℕ) (from n : ℕ) → from + n ≤ length bytes → piece (at + from) n (put old at bytes) ≡ piece from n bytes
put_piece old at bytes from n fits =
    let len_put : at + from + n ≤ length (put old at bytes) = omega (arith, length-put old at bytes) in
    let len_new = length-piece (at + from) n (put old at bytes) len_put in
    let len_old = length-piece from n bytes fits in
    ext_get_or 0 (piece (at + from) n (put old at bytes)) (piece from n bytes) (len_new ∙ sym len_old)
    (λ i lt. let within : i < n = omega (arith, len_new, lt) in
    get_or-piece (at + from) n (put old at bytes) i within
    ∙ ap (λ k. get_or (put old at bytes) k 0) (omega arith)
    ∙ put_inside old at bytes (from + i) (omega (arith, within))
    ∙ sym (get_or-piece from n bytes i within))

-- a cut keeps each piece before it that is left
pub cut_piece : (size at n : ℕ) (old new : List ℕ) → Cut size old new → at + n ≤ size → at + n ≤ length old
    → piece at n new ≡ piece at n old
cut_piece size at n old new cut before fits =
    same_piece at n old new fits (omega (arith, cut.no_shorter))
    (λ i from_at below. cut.below i (omega (arith, cut.no_shorter)) (omega (arith, below, before)))

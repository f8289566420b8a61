-- What holds of each write and cut.
use Rattle.std.specs.Prelude.{◌≡◌, ℕ, ◌+◌, ◌-◌, ◌<◌, ◌≤◌, max, List, ◌++◌, length, take, drop, replicate, slice_index}
use Rattle.std.proofs.Common.{refl, ap, ◌∙◌, arith, length-append, get_or}
use Rattle.std.proofs.lemmas.List.{length-take, length-drop, length-replicate, get_or-append_right, get_or-drop, get_or-take, get_or_append_left}
use Rattle.block_disk.specs.Changes.{put, Torn, Cut}

-- the bytes before those that a write wrote
pub front_len : (old : List ℕ) (at : ℕ) → length (take at old ++ replicate (at - length old) 0) ≡ at
front_len old at =
    length-append (take at old) (replicate (at - length old) 0)
    ∙ omega (arith, length-take at old, length-replicate {A = ℕ} (at - length old) 0)

written_len : (old : List ℕ) (at : ℕ) (bytes : List ℕ) → length (take at old ++ replicate (at - length old) 0 ++ bytes) ≡ at + length bytes
written_len old at bytes =
    length-append (take at old ++ replicate (at - length old) 0) bytes ∙ ap (λ n. n + length bytes) (front_len old at)

-- a write makes a file as long as it was, or as far as it reaches
pub length-put : (old : List ℕ) (at : ℕ) (bytes : List ℕ) → length (put old at bytes) ≡ max (length old) (at + length bytes)
length-put old at bytes =
    length-append (take at old ++ replicate (at - length old) 0 ++ bytes) (drop (at + length bytes) old)
    ∙ omega (arith, written_len old at bytes, length-drop (at + length bytes) old)

pub put_below : (old : List ℕ) (at : ℕ) (bytes : List ℕ) (i : ℕ) → i < length old → i < at → slice_index (put old at bytes) i ≡ slice_index old i
put_below old at bytes i in_old before =
    let in_front : i < length (take at old) = omega (arith, length-take at old) in
    let in_gap : i < length (take at old ++ replicate (at - length old) 0) = omega (arith, front_len old at) in
    let in_written : i < length (take at old ++ replicate (at - length old) 0 ++ bytes) = omega (arith, written_len old at bytes) in
    get_or_append_left (take at old ++ replicate (at - length old) 0 ++ bytes) (drop (at + length bytes) old) 0 i in_written
    ∙ get_or_append_left (take at old ++ replicate (at - length old) 0) bytes 0 i in_gap
    ∙ get_or_append_left (take at old) (replicate (at - length old) 0) 0 i in_front
    ∙ get_or-take at old i 0 before

pub put_above : (old : List ℕ) (at : ℕ) (bytes : List ℕ) (i : ℕ) → i < length old → at + length bytes ≤ i → slice_index (put old at bytes) i ≡ slice_index old i
put_above old at bytes i in_old after =
    get_or-append_right (take at old ++ replicate (at - length old) 0 ++ bytes) (drop (at + length bytes) old) (at + length bytes) i 0 (written_len old at bytes) after
    ∙ get_or-drop (at + length bytes) old (i - (at + length bytes)) 0
    ∙ ap (λ k. get_or old k 0) (omega arith)

-- a write that was done, whole or in part, is one of those that a crash may leave
pub torn_put : (at n : ℕ) (old bytes : List ℕ) → length bytes ≤ n → Torn at n old (put old at bytes)
torn_put at n old bytes fits = record {
  no_shorter = omega (arith, length-put old at bytes);
  no_longer = omega (arith, length-put old at bytes);
  below = λ i in_old before. put_below old at bytes i in_old before;
  above = λ i in_old after. put_above old at bytes i in_old (omega arith);
}

-- so is one of which nothing was done
pub torn_same : (at n : ℕ) (old : List ℕ) → Torn at n old old
torn_same at n old = record {
  no_shorter = omega arith;
  no_longer = omega arith;
  below = λ i in_old before. refl;
  above = λ i in_old after. refl;
}

-- a write of fewer bytes is a part of one of more
pub torn_wider : (at few many : ℕ) (old new : List ℕ) → few ≤ many → Torn at few old new → Torn at many old new
torn_wider at few many old new fits torn = record {
  no_shorter = torn.no_shorter;
  no_longer = omega (arith, torn.no_longer);
  below = torn.below;
  above = λ i in_old after. torn.above i in_old (omega arith);
}

pub cut_take : (n : ℕ) (old : List ℕ) → Cut n old (take n old)
cut_take n old = record {
  no_shorter = omega (arith, length-take n old);
  no_longer = omega (arith, length-take n old);
  below = λ i in_new before. get_or-take n old i 0 before;
}

pub cut_same : (n : ℕ) (old : List ℕ) → Cut n old old
cut_same n old = record {
  no_shorter = omega arith;
  no_longer = omega arith;
  below = λ i in_new before. refl;
}

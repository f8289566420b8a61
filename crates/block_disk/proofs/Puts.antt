-- Bytes written over a file.
use Rattle.std.proofs.Common.{◌≡◌, ℕ, ◌+◌, ◌-◌, ◌<◌, ◌≤◌, List, [], ◌++◌, length, take, drop, sym, ap, ◌∙◌, arith, append_assoc, length-append, inl, inr}
use Rattle.std.specs.Prelude.{replicate}
use Rattle.std.proofs.lemmas.List.{append-nil, take_all, drop_all, take-append-le, take-replicate, length-replicate}
use Rattle.std.proofs.lemmas.Bool.Decides.{leb_tells}
use Rattle.std.proofs.Math.Seq.{take-append-add}
use Rattle.block_disk.specs.Changes.{put}

pub put_within : (old : List ℕ) (at : ℕ) (bytes : List ℕ) → at + length bytes ≤ length old
    → take at old ++ (bytes ++ drop (at + length bytes) old) ≡ put old at bytes
put_within old at bytes fits =
    let gap : at - length old ≡ 0 = omega arith in
    rw gap (simp (append-nil, append_assoc))

take_padded : (old : List ℕ) (at more : ℕ) → at ≤ length old + more
    → take at (old ++ replicate more 0) ≡ take at old ++ replicate (at - length old) 0
take_padded old at more fits =
    elim (leb_tells at (length old)) as (λ _. take at (old ++ replicate more 0) ≡ take at old ++ replicate (at - length old) 0) [
      | inl within ↦
          let gap : at - length old ≡ 0 = omega (arith, within.1) in
          take-append-le at old (replicate more 0) within.1 ∙ sym (append-nil (take at old)) ∙ ap (λ n. take at old ++ replicate n 0) (sym gap)
      | inr past ↦
          let split : at ≡ length old + (at - length old) = omega (arith, past.1) in
          let whole : take at old ≡ old = take_all at old (omega (arith, past.1)) in
          ap (λ n. take n (old ++ replicate more 0)) split ∙ take-append-add old (replicate more 0) (at - length old)
          ∙ ap (λ r. old ++ r) (take-replicate (at - length old) more 0 (omega (arith, past.1)))
          ∙ ap (λ front. front ++ replicate (at - length old) 0) (sym whole)
    ]

pub put_padded : (old : List ℕ) (at : ℕ) (bytes : List ℕ) → length old < at + length bytes
    → put (take (at + length bytes) old ++ replicate (at + length bytes - length old) 0) at bytes ≡ put old at bytes
put_padded old at bytes longer =
    let whole : take (at + length bytes) old ≡ old = take_all (at + length bytes) old (omega arith) in
    let len : length (old ++ replicate (at + length bytes - length old) 0) ≡ at + length bytes =
    length-append old (replicate (at + length bytes - length old) 0) ∙ ap (λ n. length old + n) (length-replicate (at + length bytes - length old) 0) ∙ omega arith in
    let gap : at - length (old ++ replicate (at + length bytes - length old) 0) ≡ 0 = omega (arith, len) in
    let front = take_padded old at (at + length bytes - length old) (omega arith) in
    let back : drop (at + length bytes) (old ++ replicate (at + length bytes - length old) 0) ≡ [] = drop_all (at + length bytes) _ (omega (arith, len)) in
    let back_old : drop (at + length bytes) old ≡ [] = drop_all (at + length bytes) old (omega arith) in
    rw (whole, gap, front, back, back_old) (ap (λ x. x ++ bytes ++ []) (append-nil _))

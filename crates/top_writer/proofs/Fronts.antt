-- Files that begin alike.
use Rattle.std.proofs.Common.{◌≡◌, ℕ, ◌+◌, ◌-◌, ◌*◌, ◌≤◌, List, ◌++◌, length, take, drop, sym, ap, ◌∙◌, arith, inl, length-append}
use Rattle.std.specs.Prelude.{replicate}
use Rattle.std.proofs.Math.Seq.{take-append_seam}
use Rattle.std.proofs.lemmas.List.{take-take, drop-take, take-append-le, take_all, append-nil}
use Rattle.block_disk.specs.Changes.{piece, put, Torn}
use Rattle.block_disk.specs.ChangeLaws.{length-put}
use Rattle.block_disk.specs.Pieces.{torn_piece}
use Rattle.flat_image.specs.RowCells.{sector_at}
use Rattle.top_writer.specs.Fitting.{HasFront}

pub front_less : (few many : ℕ) (whole file : List ℕ) → few ≤ many → HasFront many whole file → HasFront few whole file
front_less few many whole file le front = record {
  long = omega (arith, le, front.long);
  same = sym (take-take few many file le) ∙ ap (take few) front.same ∙ take-take few many whole le;
}

-- the front of a longer whole
pub front_more : (size : ℕ) (whole more file : List ℕ) → size ≤ length whole → HasFront size whole file → HasFront size (whole ++ more) file
front_more size whole more file le front = record { long = front.long; same = front.same ∙ sym (take-append-le size whole more le) }

pub front_whole : (size : ℕ) (whole more : List ℕ) → length whole ≡ size → HasFront size whole (whole ++ more)
front_whole size whole more same = record {
  long = omega (arith, length-append whole more);
  same = take-append-le size whole more (omega (arith, same));
}

-- a write behind the front leaves it, also where it is torn
pub front_torn : (size at n : ℕ) (whole old new : List ℕ) → size ≤ at → Torn at n old new → HasFront size whole old → HasFront size whole new
front_torn size at n whole old new le torn front = record {
  long = omega (arith, front.long, torn.no_shorter);
  same = torn_piece at n 0 size old new torn (omega (arith, front.long)) (inl (omega (arith, le))) ∙ front.same;
}

-- a write just behind the front makes it longer
pub front_put : (size : ℕ) (whole bytes old : List ℕ) → length whole ≡ size → HasFront size whole old
    → HasFront (size + length bytes) (whole ++ bytes) (put old size bytes)
front_put size whole bytes old long front =
    let none : size - length old ≡ 0 = omega (arith, front.long) in
    let before : take size old ++ replicate {A = ℕ} (size - length old) 0 ≡ whole =
    ap (λ (k : ℕ). take size old ++ replicate {A = ℕ} k 0) none
    ∙ append-nil (take size old) ∙ front.same ∙ take_all size whole (omega (arith, long)) in
    let written : take size old ++ replicate {A = ℕ} (size - length old) 0 ++ bytes ≡ whole ++ bytes = ap (λ (xs : List ℕ). xs ++ bytes) before in
    let reach : size + length bytes ≡ length (whole ++ bytes) = omega (arith, length-append whole bytes, long) in
    record {
      long = omega (arith, length-put old size bytes);
      same =
          ap (λ (xs : List ℕ). take (size + length bytes) (xs ++ drop (size + length bytes) old)) written
          ∙ ap (λ (k : ℕ). take k (whole ++ bytes ++ drop (size + length bytes) old)) reach
          ∙ take-append_seam (whole ++ bytes) (drop (size + length bytes) old)
          ∙ sym (take_all (size + length bytes) (whole ++ bytes) (omega (arith, reach)));
    }

-- a piece of the front
pub piece_front : (at n size : ℕ) (whole file : List ℕ) → at + n ≤ size → HasFront size whole file → piece at n file ≡ piece at n whole
piece_front at n size whole file le front =
    let m : ℕ = size - at in
    let is : at + m ≡ size = omega (arith, le) in
    let part : (xs : List ℕ) → piece at n xs ≡ take n (drop at (take size xs)) = λ xs.
    sym (take-take n m (drop at xs) (omega (arith, le)))
    ∙ ap (take n) (sym (drop-take at m xs))
    ∙ ap (λ (k : ℕ). take n (drop at (take k xs))) is in
    part file ∙ ap (λ (xs : List ℕ). take n (drop at xs)) front.same ∙ sym (part whole)

pub sector_front : (place size : ℕ) (whole file : List ℕ) → 512 * place + 512 ≤ size → HasFront size whole file → sector_at file place ≡ sector_at whole place
sector_front place size whole file le front = piece_front (512 * place) 512 size whole file le front

-- What writes make of the two slots.
use Rattle.std.proofs.Common.{◌≡◌, ℕ, ◌+◌, ◌<◌, ◌≤◌, List, [], ◌∷◌, ◌++◌, length, refl, sym, ap, ◌∙◌, subst, arith, inl, inr, ⊎_elim, rules}
use Rattle.std.specs.Prelude.{◌⊎◌, ◌^◌, replicate, slice_index}
use Rattle.std.specs.Int.{from_le_bytes, to_le_bytes, w64}
use Rattle.std.proofs.lemmas.List.{append-nil, take_all, drop_all, get_or-replicate, length-replicate}
use Rattle.std.proofs.lemmas.Nat.{from_le_bytes-to_le_bytes_8}
use Rattle.block_disk.specs.Changes.{piece, put, Torn}
use Rattle.block_disk.specs.ChangeLaws.{length-put, put_above, torn_put}
use Rattle.block_disk.specs.Pieces.{torn_piece, put_inside, put_piece, put_piece_apart}
use Rattle.gate_mark.specs.declared.mark.Rest.{Rest}
use Rattle.gate_mark.specs.declared.mark.Rest.TheVariants.{Closed, Stale, Attempted}
use Rattle.gate_mark.specs.declared.mark.Slot.{Slot}
use Rattle.gate_mark.specs.declared.mark.Slot.TheVariants.{First, Second}
use Rattle.gate_mark.specs.MarkFile.{base_of, other_of, gate_of, sequence_of, body_of}
use Rattle.gate_mark.specs.Mark.{margin, RestFits, Fits}

pub slot_end : (slot : Slot) → base_of slot + 512 ≤ 1024
slot_end First = omega arith
slot_end Second = omega arith

slots_apart : (slot : Slot) → (base_of slot + 512 ≤ base_of (other_of slot)) ⊎ (base_of (other_of slot) + 512 ≤ base_of slot)
slots_apart First = inl (omega arith)
slots_apart Second = inr (omega arith)

gate_kept : (slot : Slot) (from size : ℕ) (old new : List ℕ) → Torn from size old new → 1024 ≤ length old
    → (base_of slot < from) ⊎ (from + size ≤ base_of slot) → gate_of slot new ≡ gate_of slot old
unfolding gate_of
gate_kept slot from size old new torn long apart =
    let within : base_of slot < length old = omega (arith, slot_end slot) in
    ⊎_elim (λ before. torn.below (base_of slot) within before) (λ after. torn.above (base_of slot) within after) apart

sequence_kept : (slot : Slot) (from size : ℕ) (old new : List ℕ) → Torn from size old new → 1024 ≤ length old
    → (base_of slot + 8 + 8 ≤ from) ⊎ (from + size ≤ base_of slot + 8) → sequence_of slot new ≡ sequence_of slot old
unfolding sequence_of
sequence_kept slot from size old new torn long apart =
    ap (from_le_bytes w64) (torn_piece from size (base_of slot + 8) 8 old new torn (omega (arith, slot_end slot)) apart)

body_kept : (slot : Slot) (from size : ℕ) (old new : List ℕ) → Torn from size old new → 1024 ≤ length old
    → (base_of slot + 16 + 48 ≤ from) ⊎ (from + size ≤ base_of slot + 16) → body_of slot new ≡ body_of slot old
unfolding body_of
body_kept slot from size old new torn long apart =
    torn_piece from size (base_of slot + 16) 48 old new torn (omega (arith, slot_end slot)) apart

-- a slot is as it was
record IsKeptSlot (slot : Slot) (old new : List ℕ) : Type 0 where
  gate : gate_of slot new ≡ gate_of slot old
  number : sequence_of slot new ≡ sequence_of slot old
  content : body_of slot new ≡ body_of slot old

-- a write within the other slot, torn or not, leaves a slot as it was
own_kept : (slot : Slot) (from size : ℕ) (old new : List ℕ) → Torn from size old new → 1024 ≤ length old
    → base_of (other_of slot) ≤ from → from + size ≤ base_of (other_of slot) + 512 → IsKeptSlot slot old new
own_kept slot from size old new torn long above below =
    elim (slots_apart slot) [
      | inl a ↦ record {
        gate = gate_kept slot from size old new torn long (inl (omega (arith, a)));
        number = sequence_kept slot from size old new torn long (inl (omega (arith, a)));
        content = body_kept slot from size old new torn long (inl (omega (arith, a)));
      }
      | inr a ↦ record {
        gate = gate_kept slot from size old new torn long (inr (omega (arith, a)));
        number = sequence_kept slot from size old new torn long (inr (omega (arith, a)));
        content = body_kept slot from size old new torn long (inr (omega (arith, a)));
      }
    ]

rest_kept : (rest : Rest) (slot : Slot) (sequence : ℕ) (old new : List ℕ) → (rest ≡ Closed → ⊥)
    → sequence_of slot new ≡ sequence_of slot old → body_of slot new ≡ body_of slot old
    → RestFits rest slot sequence old → RestFits rest slot sequence new
rest_kept Closed slot sequence old new not_closed number content fits = absurd (not_closed refl)
rest_kept Stale slot sequence old new not_closed number content fits = subst (λ n. n + margin slot ≤ sequence) (sym number) fits
rest_kept (Attempted body) slot sequence old new not_closed number content fits = (number ∙ fits.0, content ∙ fits.1)

-- a write of the other slot's gate, torn or not, leaves all that is known whatever that gate is
pub torn_gate : (slot : Slot) (sequence : ℕ) (body : List ℕ) (rest : Rest) (old new : List ℕ) → (rest ≡ Closed → ⊥)
    → Torn (base_of (other_of slot)) 1 old new → Fits slot sequence body rest old → Fits slot sequence body rest new
torn_gate slot sequence body rest old new not_closed torn fits =
    let own = own_kept slot (base_of (other_of slot)) 1 old new torn fits.long (omega arith) (omega arith) in
    record {
      long = omega (arith, fits.long, torn.no_shorter);
      gate = own.gate ∙ fits.gate;
      number = own.number ∙ fits.number;
      content = own.content ∙ fits.content;
      others = rest_kept rest (other_of slot) sequence old new not_closed
          (sequence_kept (other_of slot) (base_of (other_of slot)) 1 old new torn fits.long (inr (omega arith)))
          (body_kept (other_of slot) (base_of (other_of slot)) 1 old new torn fits.long (inr (omega arith)))
          fits.others;
    }

-- a write under the other slot's closed gate, torn or not, leaves it closed
pub torn_fill : (slot : Slot) (sequence : ℕ) (body : List ℕ) (old new : List ℕ)
    → Torn (base_of (other_of slot) + 8) 56 old new → Fits slot sequence body Closed old → Fits slot sequence body Closed new
torn_fill slot sequence body old new torn fits =
    let own = own_kept slot (base_of (other_of slot) + 8) 56 old new torn fits.long (omega arith) (omega arith) in
    record {
      long = omega (arith, fits.long, torn.no_shorter);
      gate = own.gate ∙ fits.gate;
      number = own.number ∙ fits.number;
      content = own.content ∙ fits.content;
      others = λ is_open. fits.others (sym (gate_kept (other_of slot) (base_of (other_of slot) + 8) 56 old new torn fits.long (inl (omega arith))) ∙ is_open);
    }

put_gate : (slot : Slot) (gate : ℕ) (old : List ℕ) → gate_of slot (put old (base_of slot) (gate ∷ [])) ≡ gate
unfolding gate_of
put_gate slot gate old =
    ap (slice_index (put old (base_of slot) (gate ∷ []))) (omega arith)
    ∙ put_inside old (base_of slot) (gate ∷ []) 0 (omega arith)

torn_by_put : (at : ℕ) (old : List ℕ) (byte : ℕ) → Torn at 1 old (put old at (byte ∷ []))
torn_by_put at old byte = torn_put at 1 old (byte ∷ []) (omega arith)

-- a close that was done
pub closed_now : (slot : Slot) (sequence : ℕ) (body : List ℕ) (rest : Rest) (old : List ℕ) → Fits slot sequence body rest old
    → Fits slot sequence body Closed (put old (base_of (other_of slot)) (0 ∷ []))
closed_now slot sequence body rest old fits =
    let new = put old (base_of (other_of slot)) (0 ∷ []) in
    let torn = torn_by_put (base_of (other_of slot)) old 0 in
    let own = own_kept slot (base_of (other_of slot)) 1 old new torn fits.long (omega arith) (omega arith) in
    record {
      long = omega (arith, fits.long, torn.no_shorter);
      gate = own.gate ∙ fits.gate;
      number = own.number ∙ fits.number;
      content = own.content ∙ fits.content;
      others = λ is_open. let none : 0 ≡ 165 = sym (put_gate (other_of slot) 0 old) ∙ is_open in absurd (omega (arith, none));
    }

-- bytes that hold a sequence and a body
pub record IsAttempt (sequence : ℕ) (body bytes : List ℕ) : Type 0 where
  pub len : length bytes ≡ 56
  pub number : piece 0 8 bytes ≡ to_le_bytes w64 sequence
  pub content : piece 8 48 bytes ≡ body

put_sequence : (slot : Slot) (sequence : ℕ) (body bytes old : List ℕ) → sequence < 2 ^ 64 → IsAttempt sequence body bytes
    → sequence_of slot (put old (base_of slot + 8) bytes) ≡ sequence
unfolding sequence_of
put_sequence slot sequence body bytes old fits attempt =
    ap (λ at. from_le_bytes w64 (piece at 8 (put old (base_of slot + 8) bytes))) (omega arith)
    ∙ ap (from_le_bytes w64) (put_piece old (base_of slot + 8) bytes 0 8 (omega (arith, attempt.len)) ∙ attempt.number)
    ∙ from_le_bytes-to_le_bytes_8 sequence fits

put_body : (slot : Slot) (sequence : ℕ) (body bytes old : List ℕ) → IsAttempt sequence body bytes
    → body_of slot (put old (base_of slot + 8) bytes) ≡ body
unfolding body_of
put_body slot sequence body bytes old attempt =
    ap (λ at. piece at 48 (put old (base_of slot + 8) bytes)) (omega arith)
    ∙ put_piece old (base_of slot + 8) bytes 8 48 (omega (arith, attempt.len))
    ∙ attempt.content

-- a fill that was done
pub filled_now : (slot : Slot) (sequence : ℕ) (body bytes old : List ℕ) → sequence < 2 ^ 64 → IsAttempt sequence body bytes
    → (sequence_of slot (put old (base_of slot + 8) bytes) ≡ sequence) × (body_of slot (put old (base_of slot + 8) bytes) ≡ body)
filled_now slot sequence body bytes old fits attempt =
    (put_sequence slot sequence body bytes old fits attempt, put_body slot sequence body bytes old attempt)

-- once the other slot is filled, its gate may be torn open
pub attempt_fits : (slot : Slot) (sequence : ℕ) (body new_body : List ℕ) (rest : Rest) (file : List ℕ)
    → (sequence_of (other_of slot) file ≡ sequence + 1) × (body_of (other_of slot) file ≡ new_body)
    → Fits slot sequence body rest file → Fits slot sequence body (Attempted new_body) file
attempt_fits slot sequence body new_body rest file filled fits = record {
  long = fits.long;
  gate = fits.gate;
  number = fits.number;
  content = fits.content;
  others = filled;
}

stale_back : (slot : Slot) (sequence : ℕ) (file : List ℕ) → sequence_of slot file ≡ sequence
    → RestFits Stale (other_of (other_of slot)) (sequence + 1) file
stale_back First sequence file same = omega (arith, same)
stale_back Second sequence file same = omega (arith, same)

-- an open that was done
pub opened_now : (slot : Slot) (sequence : ℕ) (body new_body : List ℕ) (old : List ℕ) → Fits slot sequence body (Attempted new_body) old
    → Fits (other_of slot) (sequence + 1) new_body Stale (put old (base_of (other_of slot)) (165 ∷ []))
opened_now slot sequence body new_body old fits =
    let new = put old (base_of (other_of slot)) (165 ∷ []) in
    let torn = torn_by_put (base_of (other_of slot)) old 165 in
    let own = own_kept slot (base_of (other_of slot)) 1 old new torn fits.long (omega arith) (omega arith) in
    record {
      long = omega (arith, fits.long, torn.no_shorter);
      gate = put_gate (other_of slot) 165 old;
      number = sequence_kept (other_of slot) (base_of (other_of slot)) 1 old new torn fits.long (inr (omega arith)) ∙ fits.others.0;
      content = body_kept (other_of slot) (base_of (other_of slot)) 1 old new torn fits.long (inr (omega arith)) ∙ fits.others.1;
      others = stale_back slot sequence new (own.number ∙ fits.number);
    }

-- a sequence and a body, as they are put together
pub attempt_bytes_hold : (sequence : ℕ) (body : List ℕ) → length body ≡ 48
    → IsAttempt sequence body (put (put (replicate 56 0) 0 (to_le_bytes w64 sequence)) 8 body)
attempt_bytes_hold sequence body len =
    let eight : length (to_le_bytes w64 sequence) ≡ 8 = search rules in
    let first : length (put (replicate 56 0) 0 (to_le_bytes w64 sequence)) ≡ 56 = length-put (replicate 56 0) 0 (to_le_bytes w64 sequence) ∙ omega (arith, eight, length-replicate {A = ℕ} 56 0) in
    record {
      len = length-put (put (replicate 56 0) 0 (to_le_bytes w64 sequence)) 8 body ∙ omega (arith, len, first);
      number =
          put_piece_apart 0 8 8 (put (replicate 56 0) 0 (to_le_bytes w64 sequence)) body (omega (arith, first)) (inl (omega arith))
          ∙ put_piece (replicate 56 0) 0 (to_le_bytes w64 sequence) 0 8 (omega (arith, eight))
          ∙ take_all 8 (to_le_bytes w64 sequence) (omega (arith, eight));
      content = put_piece (put (replicate 56 0) 0 (to_le_bytes w64 sequence)) 8 body 0 48 (omega (arith, len)) ∙ take_all 48 body (omega (arith, len));
    }

pub put_nil : (bytes : List ℕ) → put [] 0 bytes ≡ bytes
put_nil bytes = ap (λ rest. bytes ++ rest) (drop_all (0 + length bytes) [] (omega arith)) ∙ append-nil bytes

blank_gate : (bytes : List ℕ) → length bytes ≡ 56 → gate_of Second (put (replicate 1024 0) 8 bytes) ≡ 0
unfolding gate_of
blank_gate bytes len =
    put_above (replicate 1024 0) 8 bytes 512 (omega (arith, length-replicate {A = ℕ} 1024 0)) (omega (arith, len))
    ∙ get_or-replicate 1024 512 0 0 (omega arith)

-- a mark that was formatted
pub formatted_now : (body bytes : List ℕ) → IsAttempt 1 body bytes
    → Fits First 1 body Closed (put (put (replicate 1024 0) 8 bytes) 0 (165 ∷ []))
formatted_now body bytes attempt =
    let blank = put (replicate 1024 0) 8 bytes in
    let long : 1024 ≤ length blank = omega (arith, length-put (replicate 1024 0) 8 bytes, length-replicate {A = ℕ} 1024 0) in
    let torn = torn_by_put 0 blank 165 in
    record {
      long = omega (arith, long, torn.no_shorter);
      gate = put_gate First 165 blank;
      number = sequence_kept First 0 1 blank (put blank 0 (165 ∷ [])) torn long (inr (omega arith)) ∙ put_sequence First 1 body bytes (replicate 1024 0) (omega arith) attempt;
      content = body_kept First 0 1 blank (put blank 0 (165 ∷ [])) torn long (inr (omega arith)) ∙ put_body First 1 body bytes (replicate 1024 0) attempt;
      others = λ is_open.
          let same = gate_kept Second 0 1 blank (put blank 0 (165 ∷ [])) torn long (inr (omega arith)) in
          let closed = blank_gate bytes attempt.len in
          let none : 0 ≡ 165 = sym closed ∙ sym same ∙ is_open in
          absurd (omega (arith, none));
    }

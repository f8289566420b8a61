-- The slots stand in the first 1,024 bytes of a file.
use Rattle.std.proofs.Common.{◌≡◌, ℕ, ◌+◌, ◌≤◌, List, length, refl, sym, ap, ◌∙◌, subst, arith, Bool}
use Rattle.std.specs.Prelude.{Option, None, Some, Result, Ok, Err, IfOk, if◌then◌else◌, ◌==◌, nat_lt, slice_index}
use Rattle.std.specs.Option.{option_map}
use Rattle.std.specs.Int.{from_le_bytes, w64}
use Rattle.block_disk.specs.Changes.{piece}
use Rattle.block_disk.specs.Pieces.{length-piece, get_or-piece, same_piece}
use Rattle.gate_mark.specs.declared.mark.Rest.{Rest}
use Rattle.gate_mark.specs.declared.mark.Rest.TheVariants.{Closed, Stale, Attempted}
use Rattle.gate_mark.specs.declared.mark.Slot.{Slot}
use Rattle.gate_mark.specs.declared.mark.Slot.TheVariants.{First, Second}
use Rattle.gate_mark.specs.MarkFile.{base_of, other_of, gate_of, sequence_of, body_of, counted, counting, mark_of}
use Rattle.gate_mark.specs.Mark.{margin, RestFits, Fits, MarkFits, IsKept, LoadGives}
use Rattle.gate_mark.specs.declared.mark.Mark.{Mark}
use Rattle.gate_mark.specs.declared.mark.MarkFault.{MarkFault}
use Rattle.gate_mark.specs.declared.mark.MarkFault.TheVariants.{Failed, NoMark, Worn}
use Rattle.block_disk.specs.DiskState.{DiskState}
use Rattle.gate_mark.specs.Shown.{not_less}
use Rattle.gate_mark.proofs.SlotWrites.{slot_end}

front_piece : (at n : ℕ) (file : List ℕ) → at + n ≤ 1024 → 1024 ≤ length file → piece at n (piece 0 1024 file) ≡ piece at n file
front_piece at n file fits long =
    let front : length (piece 0 1024 file) ≡ 1024 = length-piece 0 1024 file long in
    same_piece at n file (piece 0 1024 file) (omega (arith, fits, long)) (omega (arith, fits, front))
    (λ i from below. get_or-piece 0 1024 file i (omega (arith, fits, below)) ∙ ap (slice_index file) (omega arith))

front_gate : (slot : Slot) (file : List ℕ) → 1024 ≤ length file → gate_of slot (piece 0 1024 file) ≡ gate_of slot file
unfolding gate_of
front_gate slot file long = get_or-piece 0 1024 file (base_of slot) (omega (arith, slot_end slot)) ∙ ap (slice_index file) (omega arith)

front_number : (slot : Slot) (file : List ℕ) → 1024 ≤ length file → sequence_of slot (piece 0 1024 file) ≡ sequence_of slot file
unfolding sequence_of
front_number slot file long = ap (from_le_bytes w64) (front_piece (base_of slot + 8) 8 file (omega (arith, slot_end slot)) long)

front_content : (slot : Slot) (file : List ℕ) → 1024 ≤ length file → body_of slot (piece 0 1024 file) ≡ body_of slot file
unfolding body_of
front_content slot file long = front_piece (base_of slot + 16) 48 file (omega (arith, slot_end slot)) long

front_counting : (file : List ℕ) → 1024 ≤ length file → counting (piece 0 1024 file) ≡ counting file
front_counting file long =
    let front = piece 0 1024 file in
    ap (λ g. counted (g == 165) (gate_of Second front == 165) (nat_lt (sequence_of First front) (sequence_of Second front))) (front_gate First file long)
    ∙ ap (λ g. counted (gate_of First file == 165) (g == 165) (nat_lt (sequence_of First front) (sequence_of Second front))) (front_gate Second file long)
    ∙ ap (λ n. counted (gate_of First file == 165) (gate_of Second file == 165) (nat_lt n (sequence_of Second front))) (front_number First file long)
    ∙ ap (λ n. counted (gate_of First file == 165) (gate_of Second file == 165) (nat_lt (sequence_of First file) n)) (front_number Second file long)

front_held : (file : List ℕ) → 1024 ≤ length file → (slot : Option Slot)
    → option_map {U = ℕ × List ℕ} (λ (s : Slot). (sequence_of s (piece 0 1024 file), body_of s (piece 0 1024 file))) slot ≡ option_map {U = ℕ × List ℕ} (λ (s : Slot). (sequence_of s file, body_of s file)) slot
front_held file long None = refl
front_held file long (Some slot) =
    ap (λ n. Some (n, body_of slot (piece 0 1024 file))) (front_number slot file long)
    ∙ ap (λ b. Some (sequence_of slot file, b)) (front_content slot file long)

-- the front holds what the file holds
pub front_mark : (file : List ℕ) → 1024 ≤ length file → mark_of (piece 0 1024 file) ≡ mark_of file
front_mark file long =
    let front = piece 0 1024 file in
    let front_len : length front ≡ 1024 = length-piece 0 1024 file long in
    ap (λ (b : Bool). if b then None else option_map {U = ℕ × List ℕ} (λ (s : Slot). (sequence_of s front, body_of s front)) (counting front)) (not_less (length front) 1024 (omega (arith, front_len)))
    ∙ ap (option_map {U = ℕ × List ℕ} (λ (s : Slot). (sequence_of s front, body_of s front))) (front_counting file long)
    ∙ front_held file long (counting file)
    ∙ sym (ap (λ (b : Bool). if b then None else option_map {U = ℕ × List ℕ} (λ (s : Slot). (sequence_of s file, body_of s file)) (counting file)) (not_less (length file) 1024 long))

front_rest : (rest : Rest) (slot : Slot) (sequence : ℕ) (file : List ℕ) → 1024 ≤ length file
    → RestFits rest slot sequence (piece 0 1024 file) → RestFits rest slot sequence file
front_rest Closed slot sequence file long fits = λ is_open. fits (front_gate slot file long ∙ is_open)
front_rest Stale slot sequence file long fits = subst (λ n. n + margin slot ≤ sequence) (front_number slot file long) fits
front_rest (Attempted body) slot sequence file long fits = (sym (front_number slot file long) ∙ fits.0, sym (front_content slot file long) ∙ fits.1)

-- what fits the front fits the file
pub front_fits : (slot : Slot) (sequence : ℕ) (body : List ℕ) (rest : Rest) (file : List ℕ) → 1024 ≤ length file
    → Fits slot sequence body rest (piece 0 1024 file) → Fits slot sequence body rest file
front_fits slot sequence body rest file long fits = record {
  long = long;
  gate = sym (front_gate slot file long) ∙ fits.gate;
  number = sym (front_number slot file long) ∙ fits.number;
  content = sym (front_content slot file long) ∙ fits.content;
  others = front_rest rest (other_of slot) sequence file long fits.others;
}

-- what a load answers of the front it answers of the file
pub front_gives : (file : List ℕ) → 1024 ≤ length file → (result : Result Mark MarkFault) → LoadGives (piece 0 1024 file) result → LoadGives file result
front_gives file long (Ok mark) gives = (sym (front_mark file long) ∙ gives.0, gives.1)
front_gives file long (Err NoMark) gives = sym (front_mark file long) ∙ gives
front_gives file long (Err (Worn sequence)) gives = ((gives.0.0, sym (front_mark file long) ∙ gives.0.1), gives.1)
front_gives file long (Err Failed) gives = tt

-- a mark that was read of the front is kept, where a crash leaves the file alone
pub load_kept : (result : Result Mark MarkFault) (file : ℕ) (slots seen : List ℕ) (now : DiskState)
    → IfOk result (λ mark. MarkFits mark slots) → IfOk result (λ mark. mark.file ≡ file)
    → ((c : List ℕ) → now.may_leave file c → (1024 ≤ length seen) × (slots ≡ piece 0 1024 seen) × (c ≡ seen))
    → IfOk result (IsKept now)
load_kept (Ok mark) file slots seen now fits same facts = λ c left.
    let there = facts c (subst (λ f. now.may_leave f c) same left) in
    subst (MarkFits mark) (sym there.2)
    (front_fits mark.current mark.sequence mark.body mark.rest seen there.0 (subst (MarkFits mark) there.1 fits))
load_kept (Err fault) file slots seen now fits same facts = tt

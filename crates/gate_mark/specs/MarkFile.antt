-- The file of a mark: two slots of 512 bytes, each with a gate, a sequence and a body.
use Rattle.std.specs.Prelude.{◌≡◌, ℕ, ◌+◌, List, ◌∷◌, ◌++◌, length, replicate, slice_index, Bool, true, false, Option, None, Some, if◌then◌else◌, ◌==◌, nat_lt}
use Rattle.std.specs.Option.{option_map}
use Rattle.std.specs.Int.{from_le_bytes, to_le_bytes, w64}
use Rattle.block_disk.specs.Changes.{piece}
use Rattle.gate_mark.specs.declared.mark.Slot.{Slot}
use Rattle.gate_mark.specs.declared.mark.Slot.TheVariants.{First, Second}

-- where a slot begins
abbrev pub base_of : Slot → ℕ
base_of First = 0
base_of Second = 512

abbrev pub other_of : Slot → Slot
other_of First = Second
other_of Second = First

-- 0xA5 is open, any other value is closed
unfoldable pub gate_of : Slot → List ℕ → ℕ
gate_of slot file = slice_index file (base_of slot)

unfoldable pub sequence_of : Slot → List ℕ → ℕ
sequence_of slot file = from_le_bytes w64 (piece (base_of slot + 8) 8 file)

unfoldable pub body_of : Slot → List ℕ → List ℕ
body_of slot file = piece (base_of slot + 16) 48 file

-- the slot that counts, where each is open or not and the second has the greater sequence or not
abbrev pub counted : Bool → Bool → Bool → Option Slot
counted false false second_greater = None
counted true false second_greater = Some First
counted false true second_greater = Some Second
counted true true false = Some First
counted true true true = Some Second

-- the open slot with the greater sequence, and of two with the same the first
abbrev pub counting : List ℕ → Option Slot
counting file = counted (gate_of First file == 165) (gate_of Second file == 165) (nat_lt (sequence_of First file) (sequence_of Second file))

-- the sequence and the body of the slot that counts, in a file that has both slots
abbrev pub mark_of : List ℕ → Option (ℕ × List ℕ)
mark_of file = if nat_lt (length file) 1024 then None else option_map (λ slot. (sequence_of slot file, body_of slot file)) (counting file)

-- the file holds this sequence and this body
abbrev pub Shows : ℕ → List ℕ → List ℕ → Type 0
Shows sequence body file = mark_of file ≡ Some (sequence, body)

-- the bytes of a slot with this gate, sequence and body
abbrev pub slot_bytes : ℕ → ℕ → List ℕ → List ℕ
slot_bytes gate sequence body = gate ∷ replicate 7 0 ++ to_le_bytes w64 sequence ++ body ++ replicate 448 0

-- the file of a new mark: the first slot is open, with sequence 1 and this body, and the second one is zeros
unfoldable pub new_mark : List ℕ → List ℕ
new_mark body = slot_bytes 165 1 body ++ replicate 512 0

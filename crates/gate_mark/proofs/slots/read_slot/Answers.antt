use Rattle.std.proofs.Common.{◌≡◌, ◌+◌, ◌-◌, take, drop, ap, ◌∙◌, arith}
use Rattle.std.specs.Prelude.{◌==◌, slice_index}
use Rattle.std.specs.Int.{from_le_bytes, w64}
use Rattle.block_disk.specs.Changes.{piece}
use Rattle.gate_mark.specs.MarkFile.{base_of, gate_of, sequence_of, body_of}
use Rattle.gate_mark.proofs.slots.read_slot.Goals as goal

pub returns-clause-is_open : goal.returns-clause-is_open
unfolding gate_of
returns-clause-is_open c = ap (λ at. slice_index c.args.slots.now at == 165) c.base-base.ensures

pub returns-clause-sequence : goal.returns-clause-sequence
unfolding sequence_of
returns-clause-sequence c =
    let eight : c.base-base.result + 16 - (c.base-base.result + 8) ≡ 8 = omega arith in
    let bytes : c.copy_from_slice.new.self ≡ piece (base_of c.args.slot + 8) 8 c.args.slots.now =
    c.copy_from_slice.ensures.after
    ∙ ap (λ n. take n (drop (c.base-base.result + 8) c.args.slots.now)) eight
    ∙ ap (λ base. piece (base + 8) 8 c.args.slots.now) c.base-base.ensures in
    c.from_le_bytes.ensures ∙ ap (from_le_bytes w64) bytes

pub returns-clause-body : goal.returns-clause-body
unfolding body_of
returns-clause-body c =
    let size : c.base-base.result + 64 - (c.base-base.result + 16) ≡ 48 = omega arith in
    c.copy_from_slice-2.ensures.after
    ∙ ap (λ n. take n (drop (c.base-base.result + 16) c.args.slots.now)) size
    ∙ ap (λ base. piece (base + 16) 48 c.args.slots.now) c.base-base.ensures

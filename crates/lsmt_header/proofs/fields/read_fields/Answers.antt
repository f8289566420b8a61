use Rattle.std.proofs.Common.{◌∙◌, sym, length, ap, arith}
use Rattle.std.specs.Int.{w32, w64, to_le_bytes}
use Rattle.lsmt_header.specs.Blocks.{raw_block}
use Rattle.lsmt_header.proofs.Written.{all_read}
use Rattle.lsmt_header.proofs.fields.read_fields.Goals as goal

pub returns-clause-spelled : goal.returns-clause-spelled
unfolding raw_block
returns-clause-spelled c =
    all_read c.take_bytes.result.now (to_le_bytes w32 c.take_u32_le.result) (to_le_bytes w32 c.take_u32_le-2.result) (to_le_bytes w64 c.take_u64_le.result) (to_le_bytes w64 c.take_u64_le-2.result) (to_le_bytes w64 c.take_u64_le-3.result)
    c.take_bytes-2.result.now c.take_bytes-3.result.now c.take_bytes-4.result.now c.take_bytes-5.result.now
    c.args.block.now c.take_bytes.new.self c.take_u32_le.new.self c.take_u32_le-2.new.self c.take_u64_le.new.self c.take_u64_le-2.new.self c.take_u64_le-3.new.self c.take_bytes-2.new.self c.take_bytes-3.new.self c.take_bytes-4.new.self c.take_bytes-5.new.self
    (sym c.new-fields.ensures ∙ c.take_bytes.ensures.front) c.take_u32_le.ensures.front c.take_u32_le-2.ensures.front c.take_u64_le.ensures.front c.take_u64_le-2.ensures.front c.take_u64_le-3.ensures.front c.take_bytes-2.ensures.front c.take_bytes-3.ensures.front c.take_bytes-4.ensures.front c.take_bytes-5.ensures.front
    (omega (arith, c.told-block, ap length c.new-fields.ensures, c.take_bytes.ensures.left, c.take_u32_le.ensures.left, c.take_u32_le-2.ensures.left, c.take_u64_le.ensures.left, c.take_u64_le-2.ensures.left, c.take_u64_le-3.ensures.left, c.take_bytes-2.ensures.left, c.take_bytes-3.ensures.left, c.take_bytes-4.ensures.left, c.take_bytes-5.ensures.left))

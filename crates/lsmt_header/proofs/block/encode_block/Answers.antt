use Rattle.std.proofs.Common.{rules, ◌≡◌, ◌++◌, ℕ, List, length, refl, ap, ◌∙◌, arith}
use Rattle.std.specs.Int.{w32, w64, to_le_bytes}
use Rattle.lsmt_header.specs.Tags.{padded}
use Rattle.lsmt_header.specs.Blocks.{raw_block, flags_of, magic}
use Rattle.lsmt_header.proofs.TagLemmas.{length-padded}
use Rattle.lsmt_header.proofs.Written.{all_written}
use Rattle.lsmt_header.proofs.block.encode_block.Goals as goal

pub returns : goal.returns
unfolding raw_block
returns c =
    let head = c.args.head.now in
    let uuid : length head.uuid ≡ 16 = search rules in
    let parent : length head.parent ≡ 16 = search rules in
    record {
      spelled = all_written magic (to_le_bytes w32 head.version) (to_le_bytes w32 (flags_of head.kind)) (to_le_bytes w64 head.index_at) (to_le_bytes w64 head.rows) (to_le_bytes w64 head.sectors) head.uuid head.parent (padded head.tag)
          c.new-block.result c.put_bytes.new.self c.put_u32_le.new.self c.put_u32_le-2.new.self c.put_u64_le.new.self c.put_u64_le-2.new.self c.put_u64_le-3.new.self c.put_bytes-2.new.self c.put_bytes-3.new.self c.put_bytes-4.new.self c.finish.result
          c.new-block.ensures c.put_bytes.ensures c.put_u32_le.ensures
          (c.put_u32_le-2.ensures ∙ ap (λ (n : ℕ). c.put_u32_le.new.self ++ to_le_bytes w32 n) c.flags.ensures)
          c.put_u64_le.ensures c.put_u64_le-2.ensures c.put_u64_le-3.ensures c.put_bytes-2.ensures c.put_bytes-3.ensures
          (c.put_bytes-4.ensures ∙ ap (λ (x : List ℕ). c.put_bytes-3.new.self ++ x) c.as_field.ensures.padded)
          refl refl refl refl refl refl uuid parent (length-padded head.tag c.as_field.ensures.kept.short) c.finish.ensures;
      valid = c.requires;
      fits = record { index_at = omega arith; rows = omega arith; uuid = uuid; parent = parent; tag = c.as_field.ensures.kept };
    }

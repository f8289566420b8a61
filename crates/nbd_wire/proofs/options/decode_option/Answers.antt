use Rattle.std.proofs.Common.{◌≡◌, ◌∙◌, length, sym, ap, arith}
use Rattle.nbd_wire.proofs.OptionLaws.{option_at-of, option_at-other, option_read}
use Rattle.nbd_wire.proofs.options.decode_option.Goals as goal

pub returns-then-take_u64_be-ne-OPTION_MAGIC-clause-reads : goal.returns-then-take_u64_be-ne-OPTION_MAGIC-clause-reads
returns-then-take_u64_be-ne-OPTION_MAGIC-clause-reads c =
    sym (option_at-other c.args.bytes.now c.take_u64_be.new.self c.take_u64_be.result (sym c.new-reader.ensures ∙ c.take_u64_be.ensures.front)
    c.take_u64_be.ensures.below c.if-take_u64_be-ne-OPTION_MAGIC.true)

pub returns-then-take_u64_be-ne-OPTION_MAGIC-clause-only : goal.returns-then-take_u64_be-ne-OPTION_MAGIC-clause-only
returns-then-take_u64_be-ne-OPTION_MAGIC-clause-only c head h =
    returns-then-take_u64_be-ne-OPTION_MAGIC-clause-reads c ∙ option_at-of c.args.bytes.now head h

pub returns-clause-found : goal.returns-clause-found
returns-clause-found c = let whole : length c.new-reader.result ≡ 16 = ap length c.new-reader.ensures ∙ c.told-bytes in record {
  spelled = option_read c.args.bytes.now c.take_u64_be.new.self c.take_u32_be-option.new.self c.take_u32_be-length.new.self c.take_u64_be.result
      (record { option = c.take_u32_be-option.result; length = c.take_u32_be-length.result }) c.if-take_u64_be-ne-OPTION_MAGIC.false
      (sym c.new-reader.ensures ∙ c.take_u64_be.ensures.front) c.take_u32_be-option.ensures.front c.take_u32_be-length.ensures.front (omega arith);
  option = c.take_u32_be-option.ensures.below;
  length = c.take_u32_be-length.ensures.below;
}

pub returns-clause-reads : goal.returns-clause-reads
returns-clause-reads c = sym (option_at-of c.args.bytes.now (record { option = c.take_u32_be-option.result; length = c.take_u32_be-length.result }) (returns-clause-found c))

pub returns-clause-only : goal.returns-clause-only
returns-clause-only c head h = returns-clause-reads c ∙ option_at-of c.args.bytes.now head h

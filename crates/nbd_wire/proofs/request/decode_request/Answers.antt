use Rattle.std.proofs.Common.{◌≡◌, ◌∙◌, length, sym, ap, arith}
use Rattle.nbd_wire.proofs.RequestLaws.{request_at-of, request_at-other, request_read}
use Rattle.nbd_wire.proofs.request.decode_request.Goals as goal

pub returns-then-take_u32_be-ne-REQUEST_MAGIC-clause-reads : goal.returns-then-take_u32_be-ne-REQUEST_MAGIC-clause-reads
returns-then-take_u32_be-ne-REQUEST_MAGIC-clause-reads c =
    sym (request_at-other c.args.bytes.now c.take_u32_be.new.self c.take_u32_be.result (sym c.new-reader.ensures ∙ c.take_u32_be.ensures.front)
    c.take_u32_be.ensures.below c.if-take_u32_be-ne-REQUEST_MAGIC.true)

pub returns-then-take_u32_be-ne-REQUEST_MAGIC-clause-only : goal.returns-then-take_u32_be-ne-REQUEST_MAGIC-clause-only
returns-then-take_u32_be-ne-REQUEST_MAGIC-clause-only c r h =
    returns-then-take_u32_be-ne-REQUEST_MAGIC-clause-reads c ∙ request_at-of c.args.bytes.now r h

pub returns-clause-found : goal.returns-clause-found
returns-clause-found c = let whole : length c.new-reader.result ≡ 28 = ap length c.new-reader.ensures ∙ c.told-bytes in record {
  spelled = request_read c.args.bytes.now c.take_u32_be.new.self c.take_u16_be-flags.new.self c.take_u16_be-command.new.self c.take_u64_be-cookie.new.self
      c.take_u64_be-offset.new.self c.take_u32_be-length.new.self c.take_u32_be.result
      (record {
        flags = c.take_u16_be-flags.result;
        command = c.take_u16_be-command.result;
        cookie = c.take_u64_be-cookie.result;
        offset = c.take_u64_be-offset.result;
        length = c.take_u32_be-length.result;
      })
      c.if-take_u32_be-ne-REQUEST_MAGIC.false (sym c.new-reader.ensures ∙ c.take_u32_be.ensures.front) c.take_u16_be-flags.ensures.front c.take_u16_be-command.ensures.front
      c.take_u64_be-cookie.ensures.front c.take_u64_be-offset.ensures.front c.take_u32_be-length.ensures.front (omega arith);
  flags = c.take_u16_be-flags.ensures.below;
  command = c.take_u16_be-command.ensures.below;
  cookie = c.take_u64_be-cookie.ensures.below;
  offset = c.take_u64_be-offset.ensures.below;
  length = c.take_u32_be-length.ensures.below;
}

pub returns-clause-reads : goal.returns-clause-reads
returns-clause-reads c = sym (request_at-of c.args.bytes.now _ (returns-clause-found c))

pub returns-clause-only : goal.returns-clause-only
returns-clause-only c r h = returns-clause-reads c ∙ request_at-of c.args.bytes.now r h

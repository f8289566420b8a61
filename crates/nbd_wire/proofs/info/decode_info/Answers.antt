use Rattle.std.proofs.Common.{◌≡◌, ◌∙◌, length, sym, ap, arith}
use Rattle.nbd_wire.proofs.InfoLaws.{info_name-none, info_name-short, info_name-of, length_read, count_read, info_read}
use Rattle.nbd_wire.proofs.info.decode_info.Goals as goal

pub returns-then-bytes-lt6-clause-reads : goal.returns-then-bytes-lt6-clause-reads
returns-then-bytes-lt6-clause-reads c = sym (info_name-short c.args.bytes.now (omega arith))

pub returns-then-bytes-len-clause-reads : goal.returns-then-bytes-len-clause-reads
returns-then-bytes-len-clause-reads c =
    let first = length_read c.args.bytes.now c.take_u32_be-len.new.self c.take_u32_be-len.result c.take_u32_be-len.ensures.below (sym c.new-reader.ensures ∙ c.take_u32_be-len.ensures.front) in
    sym (info_name-short c.args.bytes.now (omega (arith, first)))

pub returns-then-rest-count-clause-reads : goal.returns-then-rest-count-clause-reads
returns-then-rest-count-clause-reads c =
    let bs = c.args.bytes.now in
    let len = c.take_u32_be-len.result in
    let count = c.take_u16_be.result in
    let lead = sym c.new-reader.ensures ∙ c.take_u32_be-len.ensures.front in
    let first = length_read bs c.take_u32_be-len.new.self len c.take_u32_be-len.ensures.below lead in
    let second = count_read bs c.take_u32_be-len.new.self c.take_slice-name.result.now c.take_slice-name.new.self c.take_u16_be.new.self len count c.take_u16_be.ensures.below
    c.take_slice-name.ensures.size lead c.take_slice-name.ensures.front c.take_u16_be.ensures.front in
    let left : length c.rest.result.now ≡ length c.take_u16_be.new.self = ap length c.rest.ensures.left in
    let whole : length bs ≡ length c.new-reader.result = ap length (sym c.new-reader.ensures) in
    sym (info_name-none bs len count first second (λ q. omega (arith, q, left, whole)))

pub returns-then-rest-count-clause-only : goal.returns-then-rest-count-clause-only
returns-then-rest-count-clause-only c name h = returns-then-rest-count-clause-reads c ∙ info_name-of c.args.bytes.now name h

pub returns-clause-found : goal.returns-clause-found
returns-clause-found c =
    let left : length c.rest.result.now ≡ length c.take_u16_be.new.self = ap length c.rest.ensures.left in
    info_read c.args.bytes.now c.take_u32_be-len.new.self c.take_slice-name.result.now c.take_slice-name.new.self c.take_u16_be.new.self c.take_u32_be-len.result c.take_u16_be.result
    c.take_u32_be-len.ensures.below c.take_u16_be.ensures.below c.take_slice-name.ensures.size (omega (arith, left))
    (sym c.new-reader.ensures ∙ c.take_u32_be-len.ensures.front) c.take_slice-name.ensures.front c.take_u16_be.ensures.front

pub returns-clause-reads : goal.returns-clause-reads
returns-clause-reads c = sym (info_name-of c.args.bytes.now c.take_slice-name.result.now (returns-clause-found c))

pub returns-clause-only : goal.returns-clause-only
returns-clause-only c name h = returns-clause-reads c ∙ info_name-of c.args.bytes.now name h

use Rattle.std.proofs.Common.{Ok, sym, ap, ◌∙◌, arith, Result}
use Rattle.seg_mapping.specs.declared.Row.{Row}
use Rattle.seg_mapping.specs.declared.RowFault.{RowFault}
use Rattle.seg_mapping.proofs.RowWords.{words_are, words_of, row_in-found, one_row}
use Rattle.seg_mapping.proofs.decode.Goals as goal

abbrev done : Row → Result Row RowFault
done row = Ok row

pub returns-then-count-eq0-clause-only : goal.returns-then-count-eq0-clause-only
returns-then-count-eq0-clause-only c =
    λ row of.
    let words = words_of c.args.bytes.now c.take_u64_le-first.result c.take_u64_le-second.result row c.take_u64_le-first.ensures.below c.take_u64_le-second.ensures.below
    (words_are c.args.bytes.now c.take_u64_le-first.new.self c.take_u64_le-second.new.self c.take_u64_le-first.result c.take_u64_le-second.result c.told-bytes (sym c.new-fields.ensures ∙ c.take_u64_le-first.ensures.front) c.take_u64_le-second.ensures.front) of in
    absurd (omega (arith, words.0, of.fits.some, of.fits.offset))

pub returns-clause-found : goal.returns-clause-found
returns-clause-found c =
    row_in-found c.args.bytes.now c.take_u64_le-first.result c.take_u64_le-second.result c.take_u64_le-first.ensures.below c.take_u64_le-second.ensures.below
    (words_are c.args.bytes.now c.take_u64_le-first.new.self c.take_u64_le-second.new.self c.take_u64_le-first.result c.take_u64_le-second.result c.told-bytes (sym c.new-fields.ensures ∙ c.take_u64_le-first.ensures.front) c.take_u64_le-second.ensures.front) (omega arith)

pub returns-clause-only : goal.returns-clause-only
returns-clause-only c = λ row of. ap done (one_row c.args.bytes.now _ row (returns-clause-found c) of)

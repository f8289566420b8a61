use Rattle.std.proofs.Common.{◌*◌, ◌+◌, ◌-◌, length, inl, inr, arith}
use Rattle.std.proofs.lemmas.Option.{IfSome_then}
use Rattle.layer_shelf.specs.Shelves.{file_at}
use Rattle.block_cache.specs.Blocks.{block_of}
use Rattle.range_shelf.proofs.BlockReads.{part_copied, part_read, keeps, part_if_ok}
use Rattle.range_shelf.proofs.cached_shelf.read_part.Goals as goal

pub returns-in_ok-count-in-Ok-false-clause-bytes : goal.returns-in_ok-count-in-Ok-false-clause-bytes
returns-in_ok-count-in-Ok-false-clause-bytes g c =
    let count = c.in_ok-count-in-Ok-false.count in
    IfSome_then (g.S.Shelf.files c.args.shelf.now) c.in_ok-count-in-Ok-false.ensures.bytes (λ files is.
    part_copied c.read_whole.new.block (block_of files c.args.key) count c.args.at (length c.args.out.now) ((c.args.at + length c.look.new.out) - c.args.at) c.copy_from_slice.new.self is (omega (arith, c.in_ok-count-in-Ok-false.ensures.count)) (omega (arith, c.in_ok-count-in-Ok-false.ensures.count)) (omega arith) c.copy_from_slice.ensures.after)

pub returns-in_ok-count-in-Ok-false-clause-notes : goal.returns-in_ok-count-in-Ok-false-clause-notes
returns-in_ok-count-in-Ok-false-clause-notes g c =
    inr (inl (c.look.new.seat, (c.look.new.out, rw c.in-Ok-false.field-0-test at c.in-Ok-false.ensures.ok), keeps c.args.cache.now c.look.new.seat c.put.new.seat c.args.key c.put.result c.put.ensures.ok c.put.ensures.err))

pub returns-in-Err-clause-bytes : goal.returns-in-Err-clause-bytes
returns-in-Err-clause-bytes g c =
    part_if_ok c.read.result (g.S.Shelf.files c.args.shelf.now) (λ files is within.
    part_read (file_at files c.args.key.layer) (65536 * c.args.key.block) c.args.at (length c.args.out.now) (65536 * c.args.key.block + c.args.at) (length c.look.new.out) c.read.new.out c.requires.some c.requires.within (omega arith) (omega arith) is within)
    c.read.ensures.bytes c.read.ensures.within

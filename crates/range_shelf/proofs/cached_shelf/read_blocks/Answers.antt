use Rattle.std.proofs.Common.{◌≡◌, ◌+◌, ◌/◌, ◌<◌, length, IfSome, rules, arith, subst}
use Rattle.layer_shelf.specs.Shelves.{file_at}
use Rattle.block_cache.specs.Blocks.{block_of, IsPart}
use Rattle.range_shelf.specs.CachedReads.{touched, part_count}
use Rattle.range_shelf.proofs.BlockReads.{both_some}
use Rattle.range_shelf.proofs.RangeReads.{next_part, read_more, blocks_more, block_lost}
use Rattle.range_shelf.proofs.cached_shelf.read_blocks.Goals as goal

pub loop-number-preserved : goal.loop-number-preserved
loop-number-preserved g c =
    let i = c.loop-number.invariant in
    let at = c.args.at in
    let size = length c.args.out.now in
    let number = c.loop-number.number in
    let done = c.saturating_sub-done.result in
    let from = c.saturating_sub-from.result in
    let piece = c.split_at_mut-piece.result.0.now in
    let count = length piece in
    let touches : number < touched at size = omega (arith, c.touched_blocks-number-end.ensures, c.loop-number-test.true) in
    let sized : count ≡ part_count at (at + size) (at / 65536 + number) = omega (arith, c.split_at_mut-piece.ensures.front_len, c.min.ensures, c.saturating_sub-from.ensures) in
    let next = next_part at size number done from count touches c.saturating_sub-done.ensures c.saturating_sub-from.ensures sized in
    record {
      seat = c.in-Ok.ensures.seat;
      files = search rules;
      count = search rules;
      faults = search rules;
      notes = blocks_more c.args.cache.now c.args.layer at (at + size) number from count c.args.seat.now c.loop-number.seat c.read_part.new.seat c.saturating_sub-from.ensures sized i.notes c.in-Ok.ensures.notes;
      bytes = both_some (g.S.Shelf.files c.args.shelf.now) (λ files before part.
          read_more (file_at files c.args.layer) c.loop-number.out c.split_at_mut-rest.result.0.now c.read_part.new.out c.split_at_mut-piece.result.1.now at size number done from count
          c.split_at_mut-rest.ensures.front c.split_at_mut-rest.ensures.front_len (omega arith) next before part) i.bytes
          (subst (λ o. IfSome o (λ files. IsPart (block_of files (record { layer = c.args.layer; block = at / 65536 + number })) from count c.read_part.new.out)) i.files c.in-Ok.ensures.bytes);
    }

pub returns-in-Err-clause-notes : goal.returns-in-Err-clause-notes
returns-in-Err-clause-notes g c =
    let at = c.args.at in
    let size = length c.args.out.now in
    let number = c.loop-number.number in
    let count = length c.split_at_mut-piece.result.0.now in
    let touches : number < touched at size = omega (arith, c.touched_blocks-number-end.ensures, c.loop-number-test.true) in
    let sized : count ≡ part_count at (at + size) (at / 65536 + number) = omega (arith, c.split_at_mut-piece.ensures.front_len, c.min.ensures, c.saturating_sub-from.ensures) in
    block_lost c.args.cache.now c.args.layer at size number c.saturating_sub-from.result count c.args.seat.now c.loop-number.seat c.read_part.new.seat touches c.saturating_sub-from.ensures sized c.loop-number.invariant.notes c.in-Err.ensures.notes

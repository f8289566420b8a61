use Rattle.std.proofs.Common.{◌≡◌, ◌*◌, ◌-◌, ◌++◌, length, take, min, max, IfSome, arith}
use Rattle.layer_shelf.specs.Shelves.{file_at}
use Rattle.block_cache.specs.Blocks.{block_of}
use Rattle.range_shelf.proofs.BlockReads.{of_files, whole_block}
use Rattle.range_shelf.proofs.cached_shelf.read_whole.Goals as goal

pub returns-clause-bytes : goal.returns-clause-bytes
returns-clause-bytes g c =
    let key = c.args.key in
    let count = c.max-count.result in
    let front = c.split_at_mut-bytes.result.0.now in
    let rest = c.split_at_mut-bytes.result.1.now in
    let counted : count ≡ max (min (c.in_ok-length.length - 65536 * key.block) 65536) c.args.until = omega (arith, c.max-count.ensures, c.min-whole.ensures, c.saturating_sub.ensures) in
    let asked : length front ≡ count = c.split_at_mut-bytes.ensures.front_len in
    let all : IfSome (g.S.Shelf.files c.args.shelf.now) (λ files. take count (c.read.new.out ++ rest) ≡ block_of files key) =
    of_files (λ files told is within. whole_block (file_at files key.layer) (65536 * key.block) c.in_ok-length.length c.args.until count (length front) c.read.new.out rest c.requires.some.0 c.requires.some.1 counted asked told is within)
    (g.S.Shelf.files c.args.shelf.now) (g.S.Shelf.files c.length.new.self) c.in_ok-length.ensures.same.files c.in_ok-length.ensures.length c.in_ok-read.ensures.bytes c.in_ok-read.ensures.within in
    all

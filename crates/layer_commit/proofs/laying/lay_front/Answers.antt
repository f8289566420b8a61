use Rattle.std.proofs.Common.{inr, arith}
use Rattle.lsmt_header.specs.Blocks.{raw_block, raw_of}
use Rattle.lsmt_header.proofs.BlockLemmas.{raw_of-sized}
use Rattle.flat_image.proofs.CanonicalBytes.{length-raw_block}
use Rattle.layer_commit.proofs.LayLaws.{lays_apart}
use Rattle.layer_commit.proofs.laying.lay_front.Goals as goal

pub returns-else-from-lt-BLOCK : goal.returns-else-from-lt-BLOCK
returns-else-from-lt-BLOCK c =
    lays_apart c.args.from 0 (raw_block (raw_of c.args.head.now)) c.args.out.now
    (inr (omega (arith, length-raw_block (raw_of c.args.head.now) (raw_of-sized c.args.head.now c.requires.valid c.requires.sized), c.if-from-lt-BLOCK.false)))

use Rattle.lsmt_header.proofs.BlockLemmas.{end_block}
use Rattle.lsmt_header.proofs.block.block_at_the_end.Goals as goal

pub returns : goal.returns
returns c = end_block

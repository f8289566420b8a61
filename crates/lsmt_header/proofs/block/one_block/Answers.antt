use Rattle.lsmt_header.proofs.BlockLemmas.{one_head}
use Rattle.lsmt_header.proofs.block.one_block.Goals as goal

pub returns-clause-heads : goal.returns-clause-heads
returns-clause-heads c = one_head

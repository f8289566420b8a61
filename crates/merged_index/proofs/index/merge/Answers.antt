use Rattle.merged_index.proofs.IndexLaws.{index_of-all}
use Rattle.merged_index.proofs.index.merge.Goals as goal

pub returns : goal.returns
returns c = record { painted = index_of-all (record { segments = c.in_ok-segments.segments }) c.args.layers.now c.in_ok-segments.ensures.cells c.in_ok-segments.ensures.edges c.in_ok-segments.ensures.layers }

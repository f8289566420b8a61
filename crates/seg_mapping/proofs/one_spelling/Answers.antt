use Rattle.seg_mapping.proofs.RowWords.{one_row}
use Rattle.seg_mapping.proofs.one_spelling.Goals as goal

pub returns-clause-rows : goal.returns-clause-rows
returns-clause-rows c = one_row

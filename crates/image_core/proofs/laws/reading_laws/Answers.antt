use Rattle.image_core.proofs.SheetsRead.{blank-has_kinds}
use Rattle.image_core.proofs.PieceStands.{piece-stands_there}
use Rattle.image_core.proofs.laws.reading_laws.Goals as goal

pub returns : goal.returns
returns c = record { blank = blank-has_kinds; piece = piece-stands_there }

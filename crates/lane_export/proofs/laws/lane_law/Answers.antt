use Rattle.lane_export.proofs.EioLaws.{lane-eio}
use Rattle.lane_export.proofs.laws.lane_law.Goals as goal

pub returns : goal.returns
returns g c = record { eio = lane-eio }

use Rattle.top_writer.proofs.RunLaws.{left_fronts, moment_fronts, flushed_left, start_left, tried_left}
use Rattle.top_writer.proofs.GrowLaws.{shows_grown}
use Rattle.top_writer.proofs.laws.top_laws.Goals as goal

pub returns : goal.returns
returns c = record {
  left = left_fronts;
  moment = moment_fronts;
  flushed = flushed_left;
  start = start_left;
  tried = λ s may front rest call. tried_left front rest call s may;
  grown = λ n m asked s stored more shows. shows_grown n m asked s stored more shows;
}

-- Refused on the new dial too.
use Rattle.std.proofs.Common.{◌+◌, ◌-◌, length}
use Rattle.http_range.specs.Requests.{request_text}
use Rattle.http_range.proofs.Fetches.{again_stops}
use Rattle.http_range.proofs.fetcher.Fetcher.ask_again.Goals as goal

pub returns-in-Err-ask_once-clause-asks : goal.returns-in-Err-ask_once-clause-asks
returns-in-Err-ask_once-clause-asks g c =
    let last = c.args.first + (length c.args.out.now - 1) in
    again_stops (request_text c.args.target.now c.args.first last) c.args.first last c.args.self.now.link c.dial.new.self.link
    c.ask_once.new.self.link c.dial.new.self.held c.ask_once.new.out c.ask_once.new.self.held c.in-Err-ask_once.stop.early c.in-Err-ask_once.stop.fault
    c.in-Ok.ensures.well.0 c.in-Ok.ensures.well.1 c.in-Err-ask_once.ensures.stops

-- Asked again, or not.
use Rattle.std.proofs.Common.{◌≡◌, ℕ, subst, ◌+◌, ◌-◌, ◌&&◌, true, false, length, sym, ap, ◌∙◌}
use Rattle.http_range.specs.Fetching.{AsksAfter}
use Rattle.http_range.specs.Requests.{request_text}
use Rattle.http_range.proofs.Fetches.{on_again, on_stops}
use Rattle.http_range.proofs.fetcher.Fetcher.ask_on.Goals as goal

pub returns-then-is_idle-clause-asks : goal.returns-then-is_idle-clause-asks
returns-then-is_idle-clause-asks g c =
    let last = c.args.first + (length c.args.out.now - 1) in
    let stop = c.in-Err.stop in
    let idle : (c.args.self.now.used && stop.early) ≡ true =
    ap (λ s. s.used && stop.early) (sym c.self.view_is) ∙ sym c.is_idle.ensures ∙ c.if-is_idle.true in
    let Again : ℕ → Type 0 = λ size. AsksAfter (request_text c.args.target.now c.args.first (c.args.first + (size - 1))) c.args.first (c.args.first + (size - 1))
    c.ask_once.new.self.link c.ask_again.new.self.link c.ask_again.new.out c.ask_again.new.self.held c.ask_again.result in
    let again : Again (length c.args.out.now) = subst Again c.ask_once.auto.out c.ask_again.ensures.asks in
    on_again (request_text c.args.target.now c.args.first last) c.args.self.now.held c.args.first last c.args.self.now.used c.args.self.now.link
    c.ask_once.new.self.link c.ask_again.new.self.link c.ask_again.new.out c.ask_again.new.self.held stop.early stop.fault c.ask_again.result
    idle c.in-Err.ensures.stops again

pub returns-else-is_idle-clause-asks : goal.returns-else-is_idle-clause-asks
returns-else-is_idle-clause-asks g c =
    let last = c.args.first + (length c.args.out.now - 1) in
    let stop = c.in-Err.stop in
    let busy : (c.args.self.now.used && stop.early) ≡ false =
    ap (λ s. s.used && stop.early) (sym c.self.view_is) ∙ sym c.is_idle.ensures ∙ c.if-is_idle.false in
    on_stops (request_text c.args.target.now c.args.first last) c.args.self.now.held c.args.first last c.args.self.now.used c.args.self.now.link
    c.ask_once.new.self.link c.ask_once.new.out c.ask_once.new.self.held stop.early stop.fault busy c.in-Err.ensures.stops

-- A head that is good, refused, spoiled, or not whole yet.
use Rattle.std.proofs.Common.{◌≡◌, inl, inr, [], length, take, refl, sym, arith, length-take-le}
use Rattle.std.proofs.lemmas.Result.{err_from_is_err_and}
use Rattle.http_range.proofs.Arriving.{stops_bad, misses_then}
use Rattle.http_range.proofs.receiving.receive_head.Goals as goal

pub returns-in-Refused-clause-stops : goal.returns-in-Refused-clause-stops
returns-in-Refused-clause-stops g c =
    let more = c.loop-status.invariant.more in
    let bytes = take c.loop-status.len c.loop-status.buffer in
    let inside = c.loop-status.invariant.inside in
    let room = c.loop-status.invariant.room in
    let long : length bytes ≡ c.loop-status.len = length-take-le c.loop-status.len c.loop-status.buffer (omega arith) in
    stops_bad (take c.args.held c.args.buffer.now) more.got bytes _ c.args.first c.args.last c.loop-status.len _ (g.L.Link.state c.loop-status.link)
    c.stop_at.result _ _ c.stop_at.ensures more.carried (sym more.after_are) long inside (inr (inl c.in-Refused.ensures))

pub returns-in-Bad-clause-stops : goal.returns-in-Bad-clause-stops
returns-in-Bad-clause-stops g c =
    let more = c.loop-status.invariant.more in
    let bytes = take c.loop-status.len c.loop-status.buffer in
    let inside = c.loop-status.invariant.inside in
    let room = c.loop-status.invariant.room in
    let long : length bytes ≡ c.loop-status.len = length-take-le c.loop-status.len c.loop-status.buffer (omega arith) in
    let bad = c.in-Bad.ensures in
    stops_bad (take c.args.held c.args.buffer.now) more.got bytes _ c.args.first c.args.last c.loop-status.len _ (g.L.Link.state c.loop-status.link)
    c.stop_at-in-Bad.result _ _ c.stop_at-in-Bad.ensures more.carried (sym more.after_are) long inside (inl (refl, (refl, bad.0, inr (inr bad.1))))

pub returns-in_err-len-in-More-clause-stops : goal.returns-in_err-len-in-More-clause-stops
returns-in_err-len-in-More-clause-stops g c =
    let more = c.loop-status.invariant.more in
    let p = err_from_is_err_and c.from_residual.result c.from_residual.ensures.1 in
    rw (p.1, p.2)
    (misses_then [] (take c.args.held c.args.buffer.now) more.got (take c.loop-status.len c.loop-status.buffer) c.args.first c.args.last
    (g.L.Link.state c.args.link.now) (g.L.Link.state c.loop-status.link) (g.L.Link.state c.receive_more.new.link) _ _
    more.carried more.after_are (c.in_err-len-in-More.ensures.stops c.args.first c.args.last))

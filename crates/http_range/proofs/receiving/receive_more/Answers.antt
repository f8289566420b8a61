-- One receive more.
use Rattle.std.proofs.Common.{◌≡◌, ◌-◌, ◌<◌, inl, inr, [], length, take, drop, refl, arith, length-take-le, length-take, length-drop}
use Rattle.std.proofs.lemmas.List.{append-nil}
use Rattle.sector_extent.specs.CauseLaws.{calm_ok}
use Rattle.http_range.proofs.Carrying.{carried_none}
use Rattle.http_range.proofs.Arriving.{found_end, more_filled, stops_bad, stops_failed}
use Rattle.http_range.proofs.receiving.receive_more.Goals as goal

pub returns-then-len-eq-HEAD-clause-stops : goal.returns-then-len-eq-HEAD-clause-stops
returns-then-len-eq-HEAD-clause-stops g c first last =
    let bytes = take c.args.len c.args.buffer.now in
    let a = g.L.Link.state c.args.link.now in
    let long : length bytes ≡ c.args.len = length-take-le c.args.len c.args.buffer.now (omega (arith, c.requires)) in
    stops_bad bytes [] bytes _ first last c.args.len a a c.stop_at.result _ _ c.stop_at.ensures (carried_none a) (append-nil bytes) long (omega (arith, c.requires))
    (inl (refl, (refl, c.requires.open.0, inl (omega (arith, long, c.if-len-eq-HEAD.true)))))

pub returns-in-Ok-eq0-clause-stops : goal.returns-in-Ok-eq0-clause-stops
returns-in-Ok-eq0-clause-stops g c first last =
    let bytes = take c.args.len c.args.buffer.now in
    let a = g.L.Link.state c.args.link.now in
    let b = g.L.Link.state c.receive.new.self in
    let long : length bytes ≡ c.args.len = length-take-le c.args.len c.args.buffer.now (omega (arith, c.requires)) in
    let other = c.if-len-eq-HEAD.false in
    let some : 0 < length c.receive.new.out =
    omega (arith, c.receive.auto.out, length-take (length c.args.buffer.now - c.args.len) (drop c.args.len c.args.buffer.now), length-drop c.args.len c.args.buffer.now, c.requires) in
    let went = found_end c.receive.new.out c.in-Ok-eq0.field-0 a b c.in-Ok-eq0.field-0-test some c.in-Ok-eq0.ensures.bytes.1 in
    let calm = calm_ok (λ link. (g.L.Link.state link).faults) c.args.link.now c.receive.new.self c.in-Ok-eq0.ensures.cause in
    stops_bad bytes [] bytes _ first last c.args.len a b c.stop_at-in-Ok-eq0.result _ _ c.stop_at-in-Ok-eq0.ensures
    (record { went = went; calm = calm }) (append-nil bytes) long (omega (arith, c.requires))
    (inl (refl, (refl, c.requires.open.0, inr (inl refl))))

pub returns-in-Ok-clause-more : goal.returns-in-Ok-clause-more
returns-in-Ok-clause-more g c =
    let got = c.in-Ok.ensures.bytes in
    let calm = calm_ok (λ link. (g.L.Link.state link).faults) c.args.link.now c.receive.new.self c.in-Ok.ensures.cause in
    let other = c.in-Ok.count-test.1 in
    let room : length c.receive.new.out ≡ 16384 - c.args.len =
    omega (arith, c.receive.auto.out, length-take (length c.args.buffer.now - c.args.len) (drop c.args.len c.args.buffer.now), length-drop c.args.len c.args.buffer.now, c.requires) in
    let within = got.0 in (
      omega arith,
      omega (arith, c.requires),
      more_filled c.args.buffer.now c.receive.new.out c.args.len c.in-Ok.count _ _ (omega (arith, c.requires)) within other calm got.1,
    )

pub returns-in-Err-clause-stops : goal.returns-in-Err-clause-stops
returns-in-Err-clause-stops g c first last =
    let bytes = take c.args.len c.args.buffer.now in
    let long : length bytes ≡ c.args.len = length-take-le c.args.len c.args.buffer.now (omega (arith, c.requires)) in
    let other = c.if-len-eq-HEAD.false in
    stops_failed bytes [] bytes first last c.args.len (g.L.Link.state c.args.link.now) (g.L.Link.state c.receive.new.self)
    c.stop_at-in-Err.result c.stop_at-in-Err.ensures c.in-Err.ensures.bytes (c.in-Err.ensures.cause.failed refl) (append-nil bytes) long
    (inl (c.requires.open.0, c.requires.open.1, omega (arith, c.requires, long)))

-- What comes goes behind what was there, and what stops it leaves the body short.
use Rattle.std.proofs.Common.{rules, ◌≡◌, ◌-◌, ◌<◌, length, drop, refl, arith, length-take, length-drop}
use Rattle.sector_extent.specs.CauseLaws.{calm_ok}
use Rattle.http_range.specs.declared.receiving.BodyStop.TheVariants.{Ended, Broken}
use Rattle.http_range.proofs.Arriving.{found_end, more_filled, more_then, lacks}
use Rattle.http_range.proofs.receiving.receive_body.Goals as goal

pub returns-in-Ok-eq0 : goal.returns-in-Ok-eq0
returns-in-Ok-eq0 g c =
    let out = c.loop-at.out in
    let inside = c.loop-at-test.true in
    let some : 0 < length c.receive.new.out =
    omega (arith, c.receive.auto.out, length-take (length out - c.loop-at.at) (drop c.loop-at.at out), length-drop c.loop-at.at out) in
    let b = g.L.Link.state c.loop-at.link in
    let d = g.L.Link.state c.receive.new.self in
    lacks c.args.out.now out c.args.at c.loop-at.at _ b d Ended c.loop-at.invariant.more c.requires inside c.loop-at.auto.out
    (found_end c.receive.new.out c.in-Ok-eq0.field-0 b d c.in-Ok-eq0.field-0-test some c.in-Ok-eq0.ensures.bytes.1)
    (calm_ok (λ link. (g.L.Link.state link).faults) c.loop-at.link c.receive.new.self c.in-Ok-eq0.ensures.cause)

pub loop-at-preserved : goal.loop-at-preserved
loop-at-preserved g c =
    let out = c.loop-at.out in
    let inside = c.loop-at-test.true in
    let got = c.in-Ok.ensures.bytes in
    let within = got.0 in
    let room : length c.receive.new.out ≡ length out - c.loop-at.at =
    omega (arith, c.receive.auto.out, length-take (length out - c.loop-at.at) (drop c.loop-at.at out), length-drop c.loop-at.at out) in
    let calm = calm_ok (λ link. (g.L.Link.state link).faults) c.loop-at.link c.receive.new.self c.in-Ok.ensures.cause in
    record {
      inside = search rules;
      more = more_then _ _ _ _ _ _ c.loop-at.invariant.more
          (more_filled out c.receive.new.out c.loop-at.at c.in-Ok.count _ _ (omega arith) within c.in-Ok.count-test.1 calm got.1);
    }

pub returns-in-Err : goal.returns-in-Err
returns-in-Err g c =
    lacks c.args.out.now c.loop-at.out c.args.at c.loop-at.at _ (g.L.Link.state c.loop-at.link) (g.L.Link.state c.receive.new.self) Broken
    c.loop-at.invariant.more c.requires c.loop-at-test.true c.loop-at.auto.out c.in-Err.ensures.bytes (c.in-Err.ensures.cause.failed refl)

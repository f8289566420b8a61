-- The head was found, and its body is whole or short.
use Rattle.std.proofs.Common.{length, take, arith, length-take}
use Rattle.http_range.proofs.Answering.{well, ended, broken}
use Rattle.http_range.proofs.asking.receive_reply.Goals as goal

pub returns-in-Ok-clause-ok : goal.returns-in-Ok-clause-ok
returns-in-Ok-clause-ok g c =
    let found = c.in_ok-found.ensures.found in
    let few = found.0 in
    let taken = c.in-Ok.ensures.ok in
    let held = taken.0 in (
      omega arith,
      well (take c.args.held c.args.buffer.now) c.args.first c.args.last (g.L.Link.state c.args.link.now) (g.L.Link.state c.receive_head.new.link)
          (g.L.Link.state c.take_body.new.link) (take c.in_ok-found.found.len c.receive_head.new.buffer) _ _ _ found.1
          c.take_body.new.out (take c.in-Ok.held c.take_body.new.buffer) taken.1
          (omega (arith, c.requires, c.take_body.auto.out))
          (omega (arith, length-take c.in_ok-found.found.len c.receive_head.new.buffer)),
    )

pub returns-in-Err-Ended-clause-err : goal.returns-in-Err-Ended-clause-err
returns-in-Err-Ended-clause-err g c =
    let found = c.in_ok-found.ensures.found in
    let lacks = rw c.in-Err-Ended.field-0-is at c.in-Err-Ended.ensures.err in
    ended (take c.args.held c.args.buffer.now) c.args.first c.args.last (g.L.Link.state c.args.link.now) (g.L.Link.state c.receive_head.new.link)
    (g.L.Link.state c.take_body.new.link) (take c.in_ok-found.found.len c.receive_head.new.buffer) _ _ _ found.1
    (length c.args.out.now) c.late.result c.late.ensures lacks (omega (arith, c.requires))

pub returns-in-Err-Broken-clause-err : goal.returns-in-Err-Broken-clause-err
returns-in-Err-Broken-clause-err g c =
    let found = c.in_ok-found.ensures.found in
    let lacks = rw c.in-Err-Broken.field-0-is at c.in-Err-Broken.ensures.err in
    broken (take c.args.held c.args.buffer.now) c.args.first c.args.last (g.L.Link.state c.args.link.now) (g.L.Link.state c.receive_head.new.link)
    (g.L.Link.state c.take_body.new.link) (take c.in_ok-found.found.len c.receive_head.new.buffer) _ _ _ found.1
    (length c.args.out.now) c.late-in-Err-Broken.result c.late-in-Err-Broken.ensures lacks (omega (arith, c.requires))

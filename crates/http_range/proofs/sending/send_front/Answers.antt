-- One piece more, or none after a failure.
use Rattle.std.proofs.Common.{◌++◌}
use Rattle.http_range.proofs.Carrying.{sends_next, sends_cut}
use Rattle.http_range.proofs.sending.send_front.Goals as goal

pub returns-in_err-send_start : goal.returns-in_err-send_start
returns-in_err-send_start g c =
    sends_cut _ (c.args.front.now ++ c.args.path.now ++ c.args.middle.now) c.args.host.now (g.L.Link.state c.args.link.now) (g.L.Link.state c.send_start.new.link) c.from_residual.result c.from_residual.ensures.1
    c.in_err-send_start.ensures

pub returns : goal.returns
returns g c =
    sends_next (c.args.front.now ++ c.args.path.now ++ c.args.middle.now) c.args.host.now (g.L.Link.state c.args.link.now) (g.L.Link.state c.send_start.new.link) (g.L.Link.state c.send_one.new.link)
    c.send_one.result c.in_ok-send_start.ensures c.send_one.ensures

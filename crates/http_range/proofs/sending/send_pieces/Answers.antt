-- One piece more, or none after a failure.
use Rattle.std.proofs.Common.{◌++◌}
use Rattle.http_range.proofs.Carrying.{sends_next, sends_cut}
use Rattle.http_range.proofs.sending.send_pieces.Goals as goal

pub returns-in_err-send_front : goal.returns-in_err-send_front
returns-in_err-send_front g c =
    sends_cut _ (c.args.front.now ++ c.args.path.now ++ c.args.middle.now ++ c.args.host.now) c.args.line.now (g.L.Link.state c.args.link.now) (g.L.Link.state c.send_front.new.link) c.from_residual.result c.from_residual.ensures.1
    c.in_err-send_front.ensures

pub returns : goal.returns
returns g c =
    sends_next (c.args.front.now ++ c.args.path.now ++ c.args.middle.now ++ c.args.host.now) c.args.line.now (g.L.Link.state c.args.link.now) (g.L.Link.state c.send_front.new.link) (g.L.Link.state c.send_one.new.link)
    c.send_one.result c.in_ok-send_front.ensures c.send_one.ensures

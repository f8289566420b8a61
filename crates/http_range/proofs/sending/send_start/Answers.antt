-- One piece more, or none after a failure.
use Rattle.std.proofs.Common.{◌++◌}
use Rattle.http_range.proofs.Carrying.{sends_next, sends_cut}
use Rattle.http_range.proofs.sending.send_start.Goals as goal

pub returns-in_err-send_two : goal.returns-in_err-send_two
returns-in_err-send_two g c =
    sends_cut _ (c.args.front.now ++ c.args.path.now) c.args.middle.now (g.L.Link.state c.args.link.now) (g.L.Link.state c.send_two.new.link) c.from_residual.result c.from_residual.ensures.1
    c.in_err-send_two.ensures

pub returns : goal.returns
returns g c =
    sends_next (c.args.front.now ++ c.args.path.now) c.args.middle.now (g.L.Link.state c.args.link.now) (g.L.Link.state c.send_two.new.link) (g.L.Link.state c.send_one.new.link)
    c.send_one.result c.in_ok-send_two.ensures c.send_one.ensures

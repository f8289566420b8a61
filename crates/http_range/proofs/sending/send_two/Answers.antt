-- One piece more, or none after a failure.
use Rattle.http_range.proofs.Carrying.{sends_next, sends_cut}
use Rattle.http_range.proofs.sending.send_two.Goals as goal

pub returns-in_err-send_one : goal.returns-in_err-send_one
returns-in_err-send_one g c =
    sends_cut _ (c.args.front.now) c.args.path.now (g.L.Link.state c.args.link.now) (g.L.Link.state c.send_one.new.link) c.from_residual.result c.from_residual.ensures.1
    c.in_err-send_one.ensures

pub returns : goal.returns
returns g c =
    sends_next (c.args.front.now) c.args.path.now (g.L.Link.state c.args.link.now) (g.L.Link.state c.send_one.new.link) (g.L.Link.state c.send_one-2.new.link)
    c.send_one-2.result c.in_ok-send_one.ensures c.send_one-2.ensures

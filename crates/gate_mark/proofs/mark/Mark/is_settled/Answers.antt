use Rattle.std.proofs.Common.{◌≡◌, rules}
use Rattle.std.specs.Prelude.{IsTrue, ◌↔◌}
use Rattle.gate_mark.proofs.Settled.{settled_by}
use Rattle.gate_mark.proofs.mark.Mark.is_settled.Goals as goal

pub returns-in-Attempted : goal.returns-in-Attempted
returns-in-Attempted c =
    let tells : IsTrue c.eq.result ↔ (c.in-Attempted.body ≡ c.args.self.now.body) = search rules in
    settled_by c.args.self.now c.in-Attempted.body c.eq.result c.in-Attempted.is tells

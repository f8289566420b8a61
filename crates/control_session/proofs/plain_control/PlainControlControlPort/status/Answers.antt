use Rattle.std.proofs.Common.{rules, refl}
use Rattle.control_session.proofs.PlainFacts.{worn-only, tells-worn, tells-now}
use Rattle.control_session.proofs.plain_control.PlainControlControlPort.status.Goals as goal

pub returns-then-is_full-clause-answer : goal.returns-then-is_full-clause-answer
returns-then-is_full-clause-answer c =
    tells-worn c.args.self.now.sectors c.args.self.now.lower c.args.self.now.sealed.items (search rules)

pub returns-clause-answer : goal.returns-clause-answer
returns-clause-answer c =
    tells-now c.args.self.now.sectors c.args.self.now.lower c.args.self.now.sealed.items c.len-commits.result _ _ (search rules) refl refl

pub returns-clause-worn : goal.returns-clause-worn
returns-clause-worn c = λ worn. absurd (worn-only c.args.self.now.sectors c.args.self.now.lower c.args.self.now.sealed.items worn (search rules))

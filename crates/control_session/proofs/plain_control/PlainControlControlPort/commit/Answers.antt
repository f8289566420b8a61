use Rattle.std.proofs.Common.{rules}
use Rattle.control_session.proofs.PlainFacts.{worn-only, commits-worn, commits-done}
use Rattle.control_session.proofs.plain_control.PlainControlControlPort.commit.Goals as goal

pub returns-then-is_full-clause-answer : goal.returns-then-is_full-clause-answer
returns-then-is_full-clause-answer c =
    commits-worn c.args.self.now.sectors c.args.self.now.lower c.args.self.now.sealed.items c.args.uuid (search rules)

pub returns-clause-answer : goal.returns-clause-answer
returns-clause-answer c =
    commits-done c.args.self.now.sectors c.args.self.now.lower c.args.self.now.sealed.items c.args.uuid c.push.new.self.items (search rules) c.push.ensures.items

pub returns-clause-worn : goal.returns-clause-worn
returns-clause-worn c = λ worn. absurd (worn-only c.args.self.now.sectors c.args.self.now.lower c.args.self.now.sealed.items worn (search rules))

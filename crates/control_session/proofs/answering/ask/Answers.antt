use Rattle.control_session.specs.declared.line.Call.TheVariants.{Commit, Warm, Status}
use Rattle.control_session.specs.Controls.{Committed, Warmed, Told}
use Rattle.control_session.proofs.Answered.{asked_one}
use Rattle.control_session.proofs.answering.ask.Goals as goal

pub returns-in-Commit : goal.returns-in-Commit
returns-in-Commit g c =
    let C = g.C.ControlPort in
    rw c.in-Commit.is (asked_one (Commit c.in-Commit.uuid) (Committed c.commit-answer.result) (C.state c.args.port.now) (C.state c.commit-answer.new.self) c.commit_text.result.bytes
    (c.commit-answer.ensures.answer, c.commit-answer.ensures.cause) c.commit_text.ensures)

pub returns-in-Warm : goal.returns-in-Warm
returns-in-Warm g c =
    let C = g.C.ControlPort in
    rw c.in-Warm.is (asked_one (Warm c.in-Warm.layer) (Warmed c.warm-answer.result) (C.state c.args.port.now) (C.state c.warm-answer.new.self) c.warm_text.result.bytes
    (c.warm-answer.ensures.answer, c.warm-answer.ensures.cause) c.warm_text.ensures)

pub returns-in-Status : goal.returns-in-Status
returns-in-Status g c =
    let C = g.C.ControlPort in
    rw c.in-Status.is (asked_one Status (Told c.status-answer.result) (C.state c.args.port.now) (C.state c.status-answer.new.self) c.status_text.result.bytes
    c.status-answer.ensures.answer c.status_text.ensures)

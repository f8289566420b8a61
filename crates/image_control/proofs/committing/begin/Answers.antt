use Rattle.std.proofs.Common.{subst}
use Rattle.shared_image.specs.Turns.{AsPort, seat_port}
use Rattle.shared_image.specs.Commits.{FreezeFails}
use Rattle.control_session.specs.ControlTable.{CommitFits}
use Rattle.image_control.specs.Committing.{Begins, IsAnswerTo}
use Rattle.image_control.proofs.Ending.{frozen-begins, busy-begins, freeze-refused, ok-then, err-then, worn-answer}
use Rattle.image_control.proofs.committing.begin.Goals as goal

pub returns-in-Ok-clause-begins : goal.returns-in-Ok-clause-begins
returns-in-Ok-clause-begins g c tells shelf =
    frozen-begins (seat_port tells c.args.image.now c.args.seat.now shelf) (seat_port tells c.args.image.now c.freeze.new.seat shelf) c.args.uuid (c.in-Ok.ensures.freeze tells shelf)

pub returns-in-Ok-clause-worn : goal.returns-in-Ok-clause-worn
returns-in-Ok-clause-worn g c tells shelf worn = absurd (cc (c.in-Ok.ensures.worn tells shelf worn))

pub returns-in-Err-clause-begins : goal.returns-in-Err-clause-begins
returns-in-Err-clause-begins g c =
    ok-then c.freeze_answer.result _ (AsPort c.args.image.now c.args.seat.now c.freeze.new.seat (λ old new. Begins old new c.args.uuid)) c.freeze_answer.ensures.own
    (λ is tells shelf. busy-begins (seat_port tells c.args.image.now c.args.seat.now shelf) (seat_port tells c.args.image.now c.freeze.new.seat shelf) c.args.uuid
    (subst (FreezeFails (seat_port tells c.args.image.now c.args.seat.now shelf) (seat_port tells c.args.image.now c.freeze.new.seat shelf) c.args.uuid) is (c.in-Err.ensures.freeze tells shelf)))

pub returns-in-Err-clause-refused : goal.returns-in-Err-clause-refused
returns-in-Err-clause-refused g c =
    err-then c.freeze_answer.result (IsAnswerTo c.args.uuid c.in-Err.fault) (λ answer. AsPort c.args.image.now c.args.seat.now c.freeze.new.seat (λ old new. CommitFits old new c.args.uuid answer))
    c.freeze_answer.ensures.refused
    (λ answer said tells shelf. freeze-refused (seat_port tells c.args.image.now c.args.seat.now shelf) (seat_port tells c.args.image.now c.freeze.new.seat shelf) c.args.uuid c.in-Err.fault answer (c.in-Err.ensures.freeze tells shelf) said)

pub returns-in-Err-clause-worn : goal.returns-in-Err-clause-worn
returns-in-Err-clause-worn g c tells shelf worn =
    worn-answer c.freeze_answer.result c.args.uuid c.in-Err.fault (cc (c.in-Err.ensures.worn tells shelf worn)) c.freeze_answer.ensures.own c.freeze_answer.ensures.refused

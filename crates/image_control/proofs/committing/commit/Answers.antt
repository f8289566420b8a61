use Rattle.std.proofs.Common.{false}
use Rattle.shared_image.specs.Turns.{seat_port}
use Rattle.image_control.proofs.Ending.{begun-ends}
use Rattle.image_control.proofs.Charged.{commit-charges}
use Rattle.image_control.proofs.committing.commit.Goals as goal

pub carry_on-requires-clause-pending : goal.carry_on-requires-clause-pending
carry_on-requires-clause-pending g c = (c.in-Ok.ensures.begins false 0).0

pub returns-in-Ok-clause-answer : goal.returns-in-Ok-clause-answer
returns-in-Ok-clause-answer g c tells shelf =
    begun-ends (seat_port tells c.args.image.now c.args.seat.now shelf) (seat_port tells c.args.image.now c.begin.new.seat shelf) (seat_port tells c.args.image.now c.carry_on.new.seat shelf) c.args.uuid c.carry_on.result (c.in-Ok.ensures.begins tells shelf) (c.carry_on.ensures.ends tells shelf)

pub returns-in-Ok-clause-cause : goal.returns-in-Ok-clause-cause
returns-in-Ok-clause-cause g c tells shelf =
    commit-charges tells c.args.image.now shelf c.args.seat.now c.carry_on.new.seat c.args.uuid c.carry_on.result (returns-in-Ok-clause-answer g c tells shelf)

pub returns-in-Ok-clause-worn : goal.returns-in-Ok-clause-worn
returns-in-Ok-clause-worn g c tells shelf worn = absurd (cc (c.in-Ok.ensures.worn tells shelf worn))

pub returns-in-Err-clause-cause : goal.returns-in-Err-clause-cause
returns-in-Err-clause-cause g c tells shelf =
    commit-charges tells c.args.image.now shelf c.args.seat.now c.begin.new.seat c.args.uuid c.in-Err.answer (c.in-Err.ensures.refused tells shelf)

pub returns-in-Err-clause-worn : goal.returns-in-Err-clause-worn
returns-in-Err-clause-worn g c tells shelf worn = cc (c.in-Err.ensures.worn tells shelf worn)

use Rattle.std.proofs.Common.{length, refl}
use Rattle.session_tests.proofs.turn_lock_tests.an_act_that_is_said.Goals as goal

pub such-requires : goal.such-requires
such-requires c = (record { number = length c.args.numbers.now.list.items }, refl)

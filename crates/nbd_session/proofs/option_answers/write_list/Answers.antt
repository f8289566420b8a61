use Rattle.std.proofs.Common.{rules, ◌+◌, ◌++◌, length, arith, length-append}
use Rattle.std.specs.Int.{w32, to_be_bytes}
use Rattle.nbd_wire.specs.Options.{option_reply_bytes}
use Rattle.nbd_session.proofs.Greetings.{list_said}
use Rattle.nbd_session.proofs.option_answers.write_list.Goals as goal

pub returns-clause-said : goal.returns-clause-said
returns-clause-said c =
    let name = c.args.export.now.name in
    let long = to_be_bytes w32 (length name) in
    list_said (λ k. option_reply_bytes 3 2 k) long name (option_reply_bytes 3 1 0)
    c.split_at_mut-back.result.1.now c.copy_from_slice.new.self c.copy_from_slice-2.new.self c.copy_from_slice-3.new.self (4 + length name) _
    (omega (arith, length-append long name)) (search rules) (search rules) (search rules)
    (omega (arith, length-append (c.copy_from_slice.new.self ++ c.copy_from_slice-2.new.self) c.copy_from_slice-3.new.self, length-append c.copy_from_slice.new.self c.copy_from_slice-2.new.self))

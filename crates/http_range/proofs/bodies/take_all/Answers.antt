-- What was moved out and what is left are what was there.
use Rattle.std.proofs.Common.{◌≡◌, ◌+◌, ◌-◌, ◌≤◌, ◌++◌, length, take, drop, sym, ap, ◌∙◌, arith, length-take}
use Rattle.std.proofs.lemmas.List.{drop_all}
use Rattle.http_range.proofs.Parting.{part_and_rest, front_of}
use Rattle.http_range.proofs.bodies.take_all.Goals as goal

pub returns-then-body-size : goal.returns-then-body-size
returns-then-body-size c =
    let buffer = c.args.buffer.now in
    let from = c.args.body + length c.args.out.now in
    let copied = c.copy_from_slice.new.self in
    let within = c.requires.all in
    let size : from - c.args.body ≡ length c.args.out.now = omega arith in
    let is : copied ≡ take (length c.args.out.now) (drop c.args.body buffer) =
    c.copy_from_slice.ensures.after ∙ ap (λ n. take n (drop c.args.body buffer)) size in
    record {
      body = ap (λ l. copied ++ l) (front_of buffer c.rotate_left.new.self (drop c.args.len buffer) from c.args.len within c.requires.len c.rotate_left.ensures.after)
          ∙ part_and_rest buffer copied c.args.body (length c.args.out.now) c.args.len within is;
    }

pub returns-else-body-size : goal.returns-else-body-size
returns-else-body-size c =
    let buffer = c.args.buffer.now in
    let from = c.args.body + length c.args.out.now in
    let copied = c.copy_from_slice.new.self in
    let within = c.requires.all in
    let high = c.if-body-size.false in
    let size : from - c.args.body ≡ length c.args.out.now = omega arith in
    let is : copied ≡ take (length c.args.out.now) (drop c.args.body buffer) =
    c.copy_from_slice.ensures.after ∙ ap (λ n. take n (drop c.args.body buffer)) size in
    let none : c.args.len - from ≡ 0 = omega arith in
    let short : length (take c.args.len buffer) ≤ from = omega (arith, length-take c.args.len buffer) in
    record {
      body = ap (λ n. copied ++ take n buffer) none ∙ ap (λ l. copied ++ l) (sym (drop_all from (take c.args.len buffer) short))
          ∙ part_and_rest buffer copied c.args.body (length c.args.out.now) c.args.len within is;
    }

use Rattle.std.proofs.Common.{◌≡◌, ◌+◌, ◌-◌, ◌<◌, length, arith, rules, vec_len}
use Rattle.layer_commit.proofs.ExtendLaws.{last_is, extends-last}
use Rattle.layer_commit.proofs.gathering.extend_last.Goals as goal

pub overflow_add-last : goal.overflow_add-last
overflow_add-last c =
    let some : 0 < vec_len c.args.sources.now = search rules in
    let long : length c.args.sources.now.items ≡ vec_len c.args.sources.now - 1 + 1 = omega (arith, c.args.sources.now.ok.0, some) in
    omega (arith, (last_is c.args.sources.now.items (vec_len c.args.sources.now - 1) c.in-Some.last.now long c.in-Some.ensures.value c.requires.behind.are).low)

pub returns-then-last-source-clause-longer : goal.returns-then-last-source-clause-longer
returns-then-last-source-clause-longer c = λ t.
    let some : 0 < vec_len c.args.sources.now = search rules in
    let long : length c.args.sources.now.items ≡ vec_len c.args.sources.now - 1 + 1 = omega (arith, c.args.sources.now.ok.0, some) in
    extends-last c.args.sources.now.items (vec_len c.args.sources.now - 1) c.in-Some.last.now c.args.source.now long c.in-Some.ensures.value c.requires.behind c.if-last-source.true

use Rattle.std.proofs.Common.{◌≡◌, ◌∙◌, ap₂, List, ℕ, Bor, map, string_bytes}
use Rattle.clap.specs.Words.{Text}
use Rattle.tool_setup.specs.Taken.{bare, given, one_more}
use Rattle.tool_setup.specs.Values.{id_of, both_given}
use Rattle.tool_setup.specs.Words.{two_numbers}
use Rattle.tool_setup.proofs.Exits.{named_err, named_ok}
use Rattle.tool_setup.proofs.arguments.two_numbers.Goals as goal

pub returns-in_err-one-clause-gives : goal.returns-in_err-one-clause-gives
unfolding two_numbers
returns-in_err-one-clause-gives c =
    named_err (λ (ids : Text × Text). one_more (one_more (bare c.args.name.now) ids.0) ids.1) (map string_bytes c.args.words.now)
    (λ (ids : Text × Text) rows. both_given c.args.first (given ids.0 rows) c.args.second (given ids.1 rows))
    (c.id_of.result.now, c.id_of-2.result.now) (id_of c.args.first, id_of c.args.second) c.in_err-one.field-0.0 c.from_residual.result
    (ap₂ (λ (a b : Text). (a, b)) c.id_of.ensures c.id_of-2.ensures) c.in_err-one.ensures c.from_residual.ensures.1

pub returns-clause-gives : goal.returns-clause-gives
unfolding two_numbers
returns-clause-gives c =
    named_ok (λ (ids : Text × Text). one_more (one_more (bare c.args.name.now) ids.0) ids.1) (map string_bytes c.args.words.now)
    (λ (ids : Text × Text) rows (found : Bor (List ℕ) × Bor (List ℕ)). (found.0.now ≡ given ids.0 rows) × (found.1.now ≡ given ids.1 rows))
    (λ (ids : Text × Text) rows. both_given c.args.first (given ids.0 rows) c.args.second (given ids.1 rows))
    (c.id_of.result.now, c.id_of-2.result.now) (id_of c.args.first, id_of c.args.second) (c.in_ok-one.one, c.in_ok-one.other) c.both_given.result
    (ap₂ (λ (a b : Text). (a, b)) c.id_of.ensures c.id_of-2.ensures) c.in_ok-one.ensures
    (λ found. c.both_given.ensures.gives ∙ ap₂ (λ (a b : Text). both_given c.args.first a c.args.second b) found.0 found.1)

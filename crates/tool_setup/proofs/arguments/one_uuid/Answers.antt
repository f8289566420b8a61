use Rattle.std.proofs.Common.{◌≡◌, ◌∙◌, ap, List, ℕ, Bor, map, string_bytes}
use Rattle.tool_setup.specs.declared.command.Arg.TheVariants as arg
use Rattle.tool_setup.specs.Taken.{bare, given, one_more}
use Rattle.tool_setup.specs.Values.{id_of, uuid_given}
use Rattle.tool_setup.specs.Words.{one_uuid}
use Rattle.tool_setup.proofs.Exits.{named_err, named_ok}
use Rattle.tool_setup.proofs.arguments.one_uuid.Goals as goal

pub returns-in_err-text-clause-gives : goal.returns-in_err-text-clause-gives
unfolding one_uuid
returns-in_err-text-clause-gives c =
    named_err (λ id. one_more (bare c.args.name.now) id) (map string_bytes c.args.words.now) (λ id rows. uuid_given (given id rows))
    c.id_of.result.now (id_of arg.Uuid) c.in_err-text.field-0.0 c.from_residual.result c.id_of.ensures c.in_err-text.ensures c.from_residual.ensures.1

pub returns-clause-gives : goal.returns-clause-gives
unfolding one_uuid
returns-clause-gives c =
    named_ok (λ id. one_more (bare c.args.name.now) id) (map string_bytes c.args.words.now) (λ id rows (found : Bor (List ℕ)). found.now ≡ given id rows) (λ id rows. uuid_given (given id rows))
    c.id_of.result.now (id_of arg.Uuid) c.in_ok-text.text c.uuid_given.result c.id_of.ensures c.in_ok-text.ensures (λ found. c.uuid_given.ensures.gives ∙ ap uuid_given found)

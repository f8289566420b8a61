use Rattle.std.proofs.Common.{◌≡◌, ◌∙◌, ap, List, ℕ, Bor, map, option_map, string_bytes}
use Rattle.std.specs.Prelude.{Option}
use Rattle.clap.specs.Words.{Text, first_of}
use Rattle.tool_setup.specs.Taken.{optioned}
use Rattle.tool_setup.specs.Values.{id_of, number_if_given}
use Rattle.tool_setup.specs.Words.{optional_number}
use Rattle.tool_setup.proofs.Exits.{named_err, named_ok}
use Rattle.tool_setup.proofs.arguments.optional_number.Goals as goal

pub returns-in_err-text-clause-gives : goal.returns-in_err-text-clause-gives
unfolding optional_number
returns-in_err-text-clause-gives c =
    named_err (λ id. optioned c.args.name.now id) (map string_bytes c.args.words.now) (λ id rows. number_if_given c.args.arg (first_of id rows))
    c.id_of.result.now (id_of c.args.arg) c.in_err-text.field-0.0 c.from_residual.result c.id_of.ensures c.in_err-text.ensures c.from_residual.ensures.1

pub returns-clause-gives : goal.returns-clause-gives
unfolding optional_number
returns-clause-gives c =
    named_ok (λ id. optioned c.args.name.now id) (map string_bytes c.args.words.now) (λ id rows (found : Option (Bor (List ℕ))). option_map (λ text. text.now) found ≡ first_of id rows) (λ id rows. number_if_given c.args.arg (first_of id rows))
    c.id_of.result.now (id_of c.args.arg) c.in_ok-text.text c.number_if_given.result c.id_of.ensures c.in_ok-text.ensures (λ found. c.number_if_given.ensures.gives ∙ ap (λ (o : Option Text). number_if_given c.args.arg o) found)

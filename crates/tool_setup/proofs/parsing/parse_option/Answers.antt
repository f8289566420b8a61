use Rattle.std.proofs.Common.{◌≡◌, ◌∙◌, ap₂, List, ℕ, Bor, map, string_bytes, option_map, rules}
use Rattle.std.specs.Prelude.{Option}
use Rattle.clap.specs.Words.{Text, app_of, first_of, found_of, rows_of, rule_of, with_rule}
use Rattle.clap.proofs.WalkLemmas.{first_value-rows}
use Rattle.tool_setup.specs.Taken.{optioned, option_rule}
use Rattle.tool_setup.proofs.Exits.{takes_found}
use Rattle.tool_setup.proofs.parsing.parse_option.Goals as goal

pub returns : goal.returns
returns c =
    let option : Text = c.args.option.now in
    let rule_is : rule_of c.action-argument.result ≡ option_rule option = search rules in
    let same : app_of c.in_ok-command.command ≡ optioned c.args.name.now option =
    c.in_ok-command.ensures.shape (search rules) ∙ ap₂ with_rule c.bare_command.ensures rule_is in
    takes_found (app_of c.in_ok-command.command) (optioned c.args.name.now option) (map string_bytes c.args.words.now)
    (rows_of (found_of c.in_ok-matches.matches)) (λ rows (found : Option (Bor (List ℕ))). option_map (λ text. text.now) found ≡ first_of option rows)
    c.get_str.result same c.in_ok-matches.ensures (c.get_str.ensures ∙ first_value-rows (found_of c.in_ok-matches.matches) option)

use Rattle.std.proofs.Common.{◌≡◌, ◌∙◌, ap₂, Bool, map, string_bytes, rules}
use Rattle.clap.specs.Words.{Text, app_of, found_of, rows_of, rule_of, with_rule}
use Rattle.tool_setup.specs.Taken.{flagged, flag_rule, is_set}
use Rattle.tool_setup.proofs.Exits.{takes_found}
use Rattle.tool_setup.proofs.parsing.parse_flag.Goals as goal

pub returns : goal.returns
returns c =
    let flag : Text = c.args.flag.now in
    let rule_is : rule_of c.action-argument.result ≡ flag_rule flag = search rules in
    let same : app_of c.in_ok-command.command ≡ flagged c.args.name.now flag =
    c.in_ok-command.ensures.shape (search rules) ∙ ap₂ with_rule c.bare_command.ensures rule_is in
    takes_found (app_of c.in_ok-command.command) (flagged c.args.name.now flag) (map string_bytes c.args.words.now)
    (rows_of (found_of c.in_ok-matches.matches)) (λ rows (found : Bool). found ≡ is_set flag rows)
    c.has_flag.result same c.in_ok-matches.ensures c.has_flag.ensures

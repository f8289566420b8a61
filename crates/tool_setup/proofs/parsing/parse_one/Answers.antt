use Rattle.std.proofs.Common.{◌≡◌, ◌∙◌, ap, List, ℕ, Bor, map, string_bytes}
use Rattle.clap.specs.Words.{Text, app_of, found_of, rows_of}
use Rattle.tool_setup.specs.Taken.{bare, given, one_more}
use Rattle.tool_setup.proofs.Exits.{takes_found}
use Rattle.tool_setup.proofs.parsing.parse_one.Goals as goal

pub returns : goal.returns
returns c =
    let first : Text = c.args.first.now in
    let same : app_of c.in_ok-command.command ≡ one_more (bare c.args.name.now) first =
    c.in_ok-command.ensures.made ∙ ap (λ app. one_more app first) c.bare_command.ensures in
    takes_found (app_of c.in_ok-command.command) (one_more (bare c.args.name.now) first) (map string_bytes c.args.words.now)
    (rows_of (found_of c.in_ok-matches.matches)) (λ rows (found : Bor (List ℕ)). found.now ≡ given first rows)
    c.value_of.result same c.in_ok-matches.ensures c.value_of.ensures

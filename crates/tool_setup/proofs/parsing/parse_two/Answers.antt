use Rattle.std.proofs.Common.{◌≡◌, ◌∙◌, ap, List, ℕ, Bor, map, string_bytes}
use Rattle.clap.specs.Words.{Text, app_of, found_of, rows_of}
use Rattle.tool_setup.specs.Taken.{bare, given, one_more}
use Rattle.tool_setup.proofs.Exits.{takes_found}
use Rattle.tool_setup.proofs.parsing.parse_two.Goals as goal

pub returns : goal.returns
returns c =
    let first : Text = c.args.first.now in
    let second : Text = c.args.second.now in
    let same : app_of c.in_ok-command-2.command ≡ one_more (one_more (bare c.args.name.now) first) second =
    c.in_ok-command-2.ensures.made ∙ ap (λ app. one_more app second) (c.in_ok-command.ensures.made ∙ ap (λ app. one_more app first) c.bare_command.ensures) in
    takes_found (app_of c.in_ok-command-2.command) (one_more (one_more (bare c.args.name.now) first) second) (map string_bytes c.args.words.now)
    (rows_of (found_of c.in_ok-matches.matches)) (λ rows (found : Bor (List ℕ) × Bor (List ℕ)). (found.0.now ≡ given first rows) × (found.1.now ≡ given second rows))
    (c.value_of.result, c.value_of-2.result) same c.in_ok-matches.ensures (c.value_of.ensures, c.value_of-2.ensures)

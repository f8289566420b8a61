use Rattle.std.proofs.Common.{◌∙◌, ◌≡◌, ap, sym, map, false, true, Bool, List, ℕ, string_bytes, rules}
use Rattle.serde_json.specs.View.{members_view}
use Rattle.serde_json.proofs.Views.{Entry}
use Rattle.tool_setup.specs.Fields.{all_named, is_named}
use Rattle.tool_setup.proofs.Members.{name-known, name-unknown}
use Rattle.tool_setup.proofs.fields.has_only.Goals as goal

pub returns-then-not-is_among : goal.returns-then-not-is_among
returns-then-not-is_among c =
    let known : List ℕ → Bool = is_named (map (λ known. known.now) c.args.names.now) in
    let e : Entry = (c.in-Some.name.now, c.in-Some._value.now) in
    let named : known (string_bytes e.0) ≡ false = search rules in
    let here = c.loop-name.invariant ∙ ap (λ es. all_named known (members_view es)) c.in-Some.ensures.steps in
    sym (here ∙ name-unknown known e _ named)

pub loop-name-preserved : goal.loop-name-preserved
loop-name-preserved c =
    let known : List ℕ → Bool = is_named (map (λ known. known.now) c.args.names.now) in
    let e : Entry = (c.in-Some.name.now, c.in-Some._value.now) in
    let named : known (string_bytes e.0) ≡ true = search rules in
    let here = c.loop-name.invariant ∙ ap (λ es. all_named known (members_view es)) c.in-Some.ensures.steps in
    here ∙ name-known known e _ named

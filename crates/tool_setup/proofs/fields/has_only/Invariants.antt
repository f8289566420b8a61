use Rattle.std.proofs.Common.{◌≡◌, map}
use Rattle.serde_json.specs.View.{members_view}
use Rattle.tool_setup.specs.Fields.{all_named, is_named}
use Rattle.tool_setup.proofs.fields.has_only.Given as goal

abbrev pub invariant-loop-name : goal.invariant-loop-name
invariant-loop-name l =
    all_named (is_named (map (λ known. known.now) l.names)) (members_view l.fn.members.entries)
    ≡ all_named (is_named (map (λ known. known.now) l.names)) (members_view l.name-iterator)

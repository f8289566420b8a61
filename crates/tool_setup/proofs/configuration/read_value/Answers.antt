use Rattle.std.proofs.Common.{◌≡◌, ◌∙◌, ap, sym, inr, true, false, rules}
use Rattle.std.specs.Prelude.{Option}
use Rattle.serde_json.specs.Data.{Members}
use Rattle.serde_json.specs.Find.{as_object}
use Rattle.serde_json.specs.View.{view, members_view}
use Rattle.tool_setup.specs.declared.config.ConfigFault.TheVariants.{Memory}
use Rattle.tool_setup.specs.Configs.{config_in, field_names, object_in}
use Rattle.tool_setup.specs.Fields.{all_named, is_named}
use Rattle.tool_setup.specs.Gives.{Gives}
use Rattle.tool_setup.proofs.Members.{known-object, unknown-object}
use Rattle.tool_setup.proofs.configuration.read_value.Goals as goal

pub returns-in-None : goal.returns-in-None
unfolding config_in
returns-in-None c = inr (ap (λ (o : Option Members). object_in o (view c.args.value.now)) c.in-None.ensures)

pub returns-then-not-has_only : goal.returns-then-not-has_only
unfolding config_in
returns-then-not-has_only c =
    let named : all_named (is_named field_names) (members_view c.in-Some.members.now.entries) ≡ false = search rules in
    inr (sym (unknown-object (members_view c.in-Some.members.now.entries) (view c.args.value.now) (as_object (view c.args.value.now)) c.in-Some.ensures named))

pub returns-else-not-has_only : goal.returns-else-not-has_only
unfolding config_in
returns-else-not-has_only c =
    let named : all_named (is_named field_names) (members_view c.in-Some.members.now.entries) ≡ true = search rules in
    rw (known-object (members_view c.in-Some.members.now.entries) (view c.args.value.now) (as_object (view c.args.value.now)) c.in-Some.ensures named) c.read_fields.ensures

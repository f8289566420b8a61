use Rattle.std.proofs.Common.{◌∙◌, ap, sym, rules, ℕ, List}
use Rattle.std.specs.Prelude.{Ok}
use Rattle.uuid.specs.Text.{parsed}
use Rattle.tool_setup.specs.Values.{uuid_for, uuid_given}
use Rattle.tool_setup.proofs.Exits.{not_some, uuid_some}
use Rattle.tool_setup.proofs.values.uuid_given.Goals as goal

pub returns-in-Err-clause-gives : goal.returns-in-Err-clause-gives
unfolding uuid_given
returns-in-Err-clause-gives c = sym (ap uuid_for (not_some (parsed c.args.text.now) (λ found. search rules)))

pub returns-else-is_nil-clause-gives : goal.returns-else-is_nil-clause-gives
unfolding uuid_given
returns-else-is_nil-clause-gives c =
    ap (λ (u : List ℕ). Ok u) c.into_bytes.ensures ∙ sym (ap uuid_for (sym c.in-Ok.ensures.bytes) ∙ uuid_some c.in-Ok.uuid (sym c.is_nil.ensures.value ∙ c.if-is_nil.false))

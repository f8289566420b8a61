use Rattle.std.proofs.Common.{◌∙◌, ◌≡◌, ap, sym, inr, false, List, ℕ}
use Rattle.std.specs.Prelude.{Option}
use Rattle.std.specs.Option.{is_some}
use Rattle.serde_json.specs.declared.value.Value.{Value}
use Rattle.serde_json.specs.View.{view}
use Rattle.tool_setup.specs.Fields.{is_text}
use Rattle.tool_setup.proofs.Members.{bad-texts, one-fails}
use Rattle.tool_setup.proofs.lowers.copy_texts.Goals as goal

pub returns-in-None : goal.returns-in-None
returns-in-None c =
    let no_text : is_text (view c.item-item.result) ≡ false = ap (λ (o : Option (List ℕ)). is_some o) (sym c.in-None.ensures) in
    inr (sym (bad-texts c.args.items.now (one-fails c.args.items.now c.loop-item.item-index c.item-item.result c.loop-item-test.true
    (ap (λ (v : Value). is_text (view v)) (sym c.item-item.is) ∙ no_text))))

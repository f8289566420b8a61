use Rattle.std.proofs.Common.{◌≡◌, true, take, map}
use Rattle.std.specs.List.{list_all}
use Rattle.serde_json.specs.View.{view}
use Rattle.tool_setup.specs.Fields.{is_text, text_of}
use Rattle.tool_setup.proofs.lowers.copy_texts.Given as goal

abbrev pub invariant-loop-item : goal.invariant-loop-item
invariant-loop-item l = record {
  texts : list_all is_text (map view (take l.item-index l.items)) ≡ true;
  same : l.texts.items ≡ map text_of (map view (take l.item-index l.items));
}

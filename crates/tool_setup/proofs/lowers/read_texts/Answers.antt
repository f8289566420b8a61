use Rattle.std.proofs.Common.{◌∙◌, ◌≡◌, ap, sym, inr, List, length, map, arith, ◌≤◌}
use Rattle.std.specs.Prelude.{Option, Some}
use Rattle.serde_json.specs.Data.{Items}
use Rattle.serde_json.specs.View.{view}
use Rattle.tool_setup.specs.declared.config.ConfigFault.TheVariants.{Memory}
use Rattle.tool_setup.specs.Gives.{Gives}
use Rattle.tool_setup.specs.Fields.{few, files_in, listed}
use Rattle.tool_setup.proofs.Members.{items-of-view, not-many, too-many}
use Rattle.tool_setup.proofs.lowers.read_texts.Goals as goal

pub returns-then-len-gt255 : goal.returns-then-len-gt255
returns-then-len-gt255 c =
    let vs = c.in-Some-as_array.items.now.items in
    let read : files_in (Some (view c.in-Some.value.now)) ≡ few (map view vs) = ap listed (sym c.in-Some-as_array.ensures) ∙ ap few (items-of-view vs) in
    rw c.in-Some.is (inr (sym (read ∙ too-many vs (let same = c.in-Some-as_array.items.now.ok.0 in omega (arith, same, c.len.ensures, c.if-len-gt255.true)))))

pub returns-else-len-gt255 : goal.returns-else-len-gt255
returns-else-len-gt255 c =
    let within : length c.in-Some-as_array.items.now.items ≤ 255 = let same = c.in-Some-as_array.items.now.ok.0 in omega (arith, same, c.len.ensures, c.if-len-gt255.false) in
    let vs = c.in-Some-as_array.items.now.items in
    let read : files_in (Some (view c.in-Some.value.now)) ≡ few (map view vs) = ap listed (sym c.in-Some-as_array.ensures) ∙ ap few (items-of-view vs) in
    rw (c.in-Some.is, read, not-many vs within) (rw (← c.as_slice.ensures.value) c.copy_texts.ensures)

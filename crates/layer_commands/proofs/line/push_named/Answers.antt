use Rattle.std.proofs.Common.{◌≡◌, length, ap, ◌∙◌, arith}
use Rattle.uuid.proofs.TextLemmas.{by_index_length}
use Rattle.layer_commands.proofs.line.push_named.Goals as goal

pub push_str-requires-2 : goal.push_str-requires-2
push_str-requires-2 c =
    let long : length c.encode_lower.result.now ≡ 36 = ap length c.encode_lower.ensures.text ∙ by_index_length 36 _ in
    omega (arith, long, c.push_str.ensures.len, c.requires)

pub returns-clause-room : goal.returns-clause-room
returns-clause-room c =
    let long : length c.encode_lower.result.now ≡ 36 = ap length c.encode_lower.ensures.text ∙ by_index_length 36 _ in
    omega (arith, long, c.push_str.ensures.len, c.push_str-2.ensures.len)

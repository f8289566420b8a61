use Rattle.std.proofs.Common.{◌≡◌, ℕ, ◌*◌, List, length, sym, ap, subst, refl, ◌∙◌, rules}
use Rattle.seg_mapping.specs.declared.Row.{Row}
use Rattle.lsmt_header.specs.declared.head.Head.{Head}
use Rattle.layer_commit.specs.Fitting.{Begun}
use Rattle.layer_commit.specs.View.{SealView}
use Rattle.layer_commit.proofs.BeginLaws.{head_by, layer_is, begun}
use Rattle.layer_commit.proofs.parts.SealParts.begin.Goals as goal

pub new-requires : goal.new-requires
new-requires c =
    let table = c.args.table.now in
    let g = c.in_ok-gathering.gathering in
    let v : SealView = record {
      head = c.head_of-head.result;
      rows = c.finish-rows.result.items;
      sources = g.sources.items;
      from_file = c.args.from_file;
      to_file = c.args.to_file;
      done = 0;
      room = length c.in_ok-buffer.buffer.items;
    } in
    let long : length c.args.uuid ≡ 16 = search rules in
    let parent_long : length c.args.parent ≡ 16 = search rules in
    let room : v.room ≡ 131072 = search rules in
    let rows_long : c.len.result ≡ length v.rows = search rules in
    let head_is : v.head ≡ head_by c.args.uuid c.args.parent c.args.below c.args.sectors (512 * g.filled) (length v.rows) =
    c.head_of-head.ensures ∙ ap (λ (k : ℕ). head_by c.args.uuid c.args.parent c.args.below c.args.sectors (512 * g.filled) k) rows_long in
    layer_is table c.args.uuid c.args.parent c.args.below c.args.sectors c.args.from_file c.args.to_file g.filled g.rows v long c.requires.named parent_long
    c.requires.size c.requires.files c.requires.within c.requires.few c.in_ok-gathering.ensures.all c.in_ok-gathering.ensures.filled c.in_ok-gathering.ensures.low
    c.finish-rows.ensures.rows head_is room refl refl refl

pub returns : goal.returns
returns c =
    let table = c.args.table.now in
    let g = c.in_ok-gathering.gathering in
    let v : SealView = record {
      head = c.head_of-head.result;
      rows = c.finish-rows.result.items;
      sources = g.sources.items;
      from_file = c.args.from_file;
      to_file = c.args.to_file;
      done = 0;
      room = length c.in_ok-buffer.buffer.items;
    } in
    let long : length c.args.uuid ≡ 16 = search rules in
    let parent_long : length c.args.parent ≡ 16 = search rules in
    let room : v.room ≡ 131072 = search rules in
    let rows_long : c.len.result ≡ length v.rows = search rules in
    let head_is : v.head ≡ head_by c.args.uuid c.args.parent c.args.below c.args.sectors (512 * g.filled) (length v.rows) =
    c.head_of-head.ensures ∙ ap (λ (k : ℕ). head_by c.args.uuid c.args.parent c.args.below c.args.sectors (512 * g.filled) k) rows_long in
    let is : Begun table c.args.uuid c.args.parent c.args.below c.args.sectors c.args.from_file c.args.to_file v =
    begun table c.args.uuid c.args.parent c.args.below c.args.sectors c.args.from_file c.args.to_file g.filled g.rows v long c.requires.named parent_long
    c.requires.size c.requires.files c.requires.within c.requires.few c.in_ok-gathering.ensures.all c.in_ok-gathering.ensures.filled c.in_ok-gathering.ensures.low
    c.finish-rows.ensures.rows head_is room refl refl refl in
    subst (λ (head : Head). Begun table c.args.uuid c.args.parent c.args.below c.args.sectors c.args.from_file c.args.to_file (record v { head = head; rows = c.new.result.rows })) (sym c.new.ensures.head)
    (subst (λ (rows : List Row). Begun table c.args.uuid c.args.parent c.args.below c.args.sectors c.args.from_file c.args.to_file (record v { rows = rows })) (sym c.new.ensures.rows) is)

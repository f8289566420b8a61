use Rattle.std.proofs.Common.{rules, ◌≡◌, ℕ, ◌+◌, length, take, ◌++◌, sym, ◌∙◌, ap, arith}
use Rattle.std.proofs.lemmas.List.{take_at}
use Rattle.std.specs.Prelude.{replicate, Vec, ◌-◌, ◌<◌}
use Rattle.std.specs.declared.alloc.Global.{Global}
use Rattle.block_disk.specs.Changes.{put}
use Rattle.block_disk.proofs.Puts.{put_padded}
use Rattle.block_disk.proofs.files.overlay.Goals as goal
use Rattle.block_disk.proofs.files.overlay.Goals.{then-end-len+in_ok-resize, else-end-len}

pub returns-clause-ok : goal.returns-clause-ok
returns-clause-ok c =
    let written : c.paste.new.out ≡ put c.if-end-len.file.items c.args.at c.args.bytes.now = c.paste.ensures ∙ ap (λ s. put s c.args.at c.args.bytes.now) c.as_mut_slice.ensures.value in
    let whole : c.if-end-len.file.len ≡ length c.paste.new.out = search rules in
    take_at c.paste.new.out _ c.if-end-len.file.len (sym whole) ∙ written ∙
    elim c.if-end-len.branch as (λ _. put c.if-end-len.file.items c.args.at c.args.bytes.now ≡ put c.args.file.now.items c.args.at c.args.bytes.now) [
      | then-end-len+in_ok-resize w ↦
          let end_is : c.in_ok-end.end ≡ c.args.at + length c.args.bytes.now = grind (arith, c.in_ok-end.ensures.ok_part) in
          let longer : length c.args.file.now.items < c.args.at + length c.args.bytes.now = omega (arith, w.if-end-len.true, end_is) in
          let padded : c.if-end-len.file.items ≡ take (c.args.at + length c.args.bytes.now) c.args.file.now.items ++ replicate (c.args.at + length c.args.bytes.now - length c.args.file.now.items) 0 = search rules in
          ap (λ s. put s c.args.at c.args.bytes.now) padded ∙ put_padded c.args.file.now.items c.args.at c.args.bytes.now longer
      | else-end-len w ↦ ap (λ (v : Vec ℕ Global). put v.items c.args.at c.args.bytes.now) w.file-is
    ]

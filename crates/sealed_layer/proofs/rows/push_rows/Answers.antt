use Rattle.std.proofs.Common.{◌≡◌, ℕ, ◌+◌, ◌-◌, ◌*◌, List, [], ◌∷◌, ◌++◌, length, take, drop, sym, ap, subst, ◌∙◌, arith, length-append}
use Rattle.std.proofs.lemmas.List.{drop-drop}
use Rattle.seg_mapping.specs.declared.Row.{Row}
use Rattle.flat_image.specs.RowCells.{end_of}
use Rattle.flat_image.proofs.CellLaws.{end_of-append}
use Rattle.sealed_layer.specs.Growing.{Grows}
use Rattle.sealed_layer.proofs.Pushing.{grown}
use Rattle.sealed_layer.proofs.rows.push_rows.Goals as goal

pub loop-bytes-preserved : goal.loop-bytes-preserved
loop-bytes-preserved c =
    let before : List Row = c.loop-bytes.rows.items in
    let start : List Row = c.args.rows.now.items in
    let row : Row = c.in_ok-row.row in
    let so_far = c.loop-bytes.invariant in
    let items : c.push_reserved.new.self.items ≡ before ++ row ∷ [] = c.push_reserved.ensures.items in
    let bytes_are : c.in-Some.bytes.now ≡ take 16 c.loop-bytes.left.now = c.in-Some.ensures.cases.0 in
    let rest_are : c.in-Some.rest.now ≡ drop 16 c.loop-bytes.left.now = c.in-Some.ensures.cases.1 in
    let one : length c.push_reserved.new.self.items ≡ length before + 1 = ap length items ∙ length-append before (row ∷ []) in
    let long : length c.in-Some.rest.now + 16 ≡ length c.loop-bytes.left.now = c.in-Some.ensures.cases.2 in
    let left : c.in-Some.rest.now ≡ drop (16 * (length c.push_reserved.new.self.items - length start)) c.args.piece.now =
    rest_are ∙ ap (λ (bytes : List ℕ). drop 16 bytes) so_far.left
    ∙ drop-drop 16 (16 * (length before - length start)) c.args.piece.now
    ∙ ap (λ (k : ℕ). drop k c.args.piece.now) (omega (arith, one, so_far.more)) in
    record {
      left = left;
      count = omega (arith, one, long, so_far.more, so_far.count);
      more = omega (arith, one, so_far.more);
      grows = subst (λ (rows : List Row). Grows c.args.head.now c.args.piece.now start rows) (sym items)
          (grown c.args.head.now c.args.piece.now c.in-Some.bytes.now start before row so_far.more so_far.grows
          (bytes_are ∙ ap (λ (bytes : List ℕ). take 16 bytes) so_far.left) c.in_ok-row.ensures.spelled
          (subst (λ (k : ℕ). Rattle.flat_image.specs.RowCells.IsLayerRow c.args.head.now.sectors c.args.head.now.index_at k row) so_far.low c.in_ok-row.ensures.sound));
      low = sym (ap (end_of 0) items ∙ end_of-append 0 before (row ∷ []));
      room = c.push_reserved.ensures.capacity ∙ so_far.room;
    }

use Rattle.std.proofs.Common.{◌≡◌, ℕ, ◌+◌, ◌-◌, ◌*◌, List, [], ◌∷◌, ◌++◌, cond, min, length, sym, ap, ◌∙◌, arith, append_assoc, length-append}
use Rattle.seg_mapping.specs.declared.Row.{Row}
use Rattle.flat_image.specs.CanonicalFiles.{Stretch, part_of, rows_from}
use Rattle.flat_image.proofs.CanonicalRows.{row_by, next_place}
use Rattle.flat_image.proofs.JoinedStretches.{filled_in}
use Rattle.sealed_layer.proofs.CanonLaws.{parts_to, filled_to, rows_more, length-rows_to, filled_below, filled_more, cond_not, cond_is}
use Rattle.sealed_layer.proofs.canon.close_run.Goals as goal
use Rattle.sealed_layer.proofs.canon.close_run.Goals.{then-not-run, else-not-run}

pub overflow_add-place : goal.overflow_add-place
overflow_add-place c =
    let s : Stretch = record { at = c.args.run.now.at; count = c.args.run.now.count; zeroed = c.args.run.now.zeroed } in
    omega (arith, c.loop-number.invariant.place, filled_below s c.loop-number.number, c.requires.run, c.requires.place, ap (λ (r : Row). r.count) c.row_at-row.ensures)

pub push_reserved-requires : goal.push_reserved-requires
push_reserved-requires c =
    let s : Stretch = record { at = c.args.run.now.at; count = c.args.run.now.count; zeroed = c.args.run.now.zeroed } in
    omega (arith, c.loop-number.invariant.room, c.requires.room, ap length c.loop-number.invariant.rows, length-append c.args.rows.now.items (rows_from c.args.place (parts_to s c.loop-number.number)), length-rows_to s c.args.place c.loop-number.number, c.loop-number-test.true)

pub loop-number-preserved : goal.loop-number-preserved
loop-number-preserved c =
    let s : Stretch = record { at = c.args.run.now.at; count = c.args.run.now.count; zeroed = c.args.run.now.zeroed } in
    let number : ℕ = c.loop-number.number in
    let place : ℕ = c.args.place in
    let so_far = c.loop-number.invariant in
    let row : Row = c.row_at-row.result in
    let here : row ≡ row_by (part_of s number) (place + filled_in (parts_to s number)) =
    c.row_at-row.ensures ∙ ap (λ (k : ℕ). record { offset = s.at + 16383 * number; count = min 16383 (s.count - 16383 * number); place = cond s.zeroed 0 k; zeroed = s.zeroed; tag = 0 }) so_far.place in
    let count : row.count ≡ min 16383 (s.count - 16383 * number) = ap (λ (r : Row). r.count) c.row_at-row.ensures in
    let raised : c.if-not-run.place ≡ place + filled_in (parts_to s number) + cond s.zeroed 0 (min 16383 (s.count - 16383 * number)) =
    elim c.if-not-run.branch [
      | then-not-run w ↦ w.place-is ∙ (let e : c.loop-number.place + row.count ≡ place + filled_in (parts_to s number) + cond s.zeroed 0 (min 16383 (s.count - 16383 * number)) =
          omega (arith, so_far.place, count, cond_not s.zeroed (min 16383 (s.count - 16383 * number)) w.if-not-run.true) in e)
      | else-not-run w ↦ w.place-is ∙ (let e : c.loop-number.place ≡ place + filled_in (parts_to s number) + cond s.zeroed 0 (min 16383 (s.count - 16383 * number)) =
          omega (arith, so_far.place, cond_is s.zeroed (min 16383 (s.count - 16383 * number)) w.if-not-run.false) in e)
    ] in
    record {
      rows = c.push_reserved.ensures.items
          ∙ ap (λ (rows : List Row). rows ++ row ∷ []) so_far.rows
          ∙ append_assoc c.args.rows.now.items (rows_from place (parts_to s number)) (row ∷ [])
          ∙ ap (λ (r : Row). c.args.rows.now.items ++ (rows_from place (parts_to s number) ++ r ∷ [])) here
          ∙ ap (λ (rows : List Row). c.args.rows.now.items ++ rows) (sym (rows_more s place number));
      place = raised ∙ (let e : place + filled_in (parts_to s number) + cond s.zeroed 0 (min 16383 (s.count - 16383 * number)) ≡ place + filled_in (parts_to s (number + 1)) = omega (arith, filled_more s number) in e);
      room = c.push_reserved.ensures.capacity ∙ so_far.room;
    }

pub returns-clause-place : goal.returns-clause-place
returns-clause-place c =
    let s : Stretch = record { at = c.args.run.now.at; count = c.args.run.now.count; zeroed = c.args.run.now.zeroed } in
    let number : ℕ = c.loop-number.number in
    let all : min (16383 * number) s.count ≡ s.count = omega (arith, c.loop-number-test.false, c.rows_needed-number-end.ensures) in
    c.loop-number.invariant.place
    ∙ ap (λ (k : ℕ). c.args.place + k) (filled_to s number ∙ ap (λ (k : ℕ). cond s.zeroed 0 k) all)
    ∙ sym (next_place s.zeroed c.args.place s.count)

use Rattle.std.proofs.Common.{◌≡◌, ℕ, ◌+◌, ◌-◌, ◌<◌, List, length, map, take, subst, sym, ap, ◌∙◌, arith, inl, inr, get_or}
use Rattle.std.specs.List.{concat}
use Rattle.std.proofs.lemmas.Bool.Decides.{leb_tells}
use Rattle.std.proofs.lemmas.List.{get_or-drop, length-drop}
use Rattle.seg_mapping.specs.declared.Row.{Row}
use Rattle.seg_mapping.specs.Rows.{spelling}
use Rattle.layer_commit.specs.Laying.{Lays}
use Rattle.layer_commit.proofs.RowLaws.{rows_done, rows_before_window, rows_next}
use Rattle.layer_commit.proofs.laying.lay_rows.Goals as goal

pub loop-row-init : goal.loop-row-init
loop-row-init c = record {
  at = omega arith;
  few = omega (arith, c.min-first.ensures);
  laid = rows_before_window c.args.from c.args.index_at (c.min-first.result + 0) c.args.rows.now c.args.out.now (elim (leb_tells 1 c.min-first.result) [
    | inl some ↦ inr (omega (arith, c.min-first.ensures, c.saturating_sub.ensures, some.1))
    | inr none ↦ inl (omega (arith, none.1))
  ]);
}

pub loop-row-preserved : goal.loop-row-preserved
loop-row-preserved c =
    let k : ℕ = c.min-first.result + c.loop-row.row-index in
    let rest_long : length c.split_at.result.1.now ≡ length c.args.rows.now - c.min-first.result = ap length c.split_at.ensures.back ∙ length-drop c.min-first.result c.args.rows.now in
    let more : k < length c.args.rows.now = omega (arith, c.loop-row-test.true, rest_long) in
    record {
      at = omega (arith, c.loop-row.invariant.at);
      few = omega (arith, more);
      laid = subst (λ (j : ℕ). Lays c.args.from c.args.index_at (concat (map spelling (take j c.args.rows.now))) c.args.out.now c.lay.new.out) (let e : k + 1 ≡ c.min-first.result + (c.loop-row.row-index + 1) = omega arith in e)
          (rows_next c.args.from c.args.index_at k c.args.rows.now _ _ c.encode.result c.args.out.now c.loop-row.out c.lay.new.out more
          (sym (ap (λ (l : List Row). get_or l c.loop-row.row-index _) c.split_at.ensures.back ∙ get_or-drop c.min-first.result c.args.rows.now c.loop-row.row-index _))
          c.encode.ensures.spelled c.loop-row.invariant.laid
          (subst (λ (j : ℕ). Lays c.args.from j c.encode.result c.loop-row.out c.lay.new.out) c.loop-row.invariant.at c.lay.ensures));
    }

pub returns-after-loop-row : goal.returns-after-loop-row
returns-after-loop-row c =
    let rest_long : length c.split_at.result.1.now ≡ length c.args.rows.now - c.min-first.result = ap length c.split_at.ensures.back ∙ length-drop c.min-first.result c.args.rows.now in
    rows_done c.args.from c.args.index_at (c.min-first.result + c.loop-row.row-index) c.args.rows.now c.args.out.now c.loop-row.out c.loop-row.invariant.few c.loop-row.invariant.laid
    (inl (omega (arith, c.loop-row-test.false, rest_long)))

pub returns-then-at-end : goal.returns-then-at-end
returns-then-at-end c =
    rows_done c.args.from c.args.index_at (c.min-first.result + c.loop-row.row-index) c.args.rows.now c.args.out.now c.loop-row.out c.loop-row.invariant.few c.loop-row.invariant.laid
    (inr (omega (arith, c.if-at-end.true, c.loop-row.invariant.at, c.loop-row.invariant.laid.size)))

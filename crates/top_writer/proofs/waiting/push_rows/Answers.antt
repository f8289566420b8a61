use Rattle.std.proofs.Common.{◌≡◌, arith, subst}
use Rattle.sector_extent.specs.Rows.{rows_for}
use Rattle.seg_mapping.specs.Rows.{RowOf}
use Rattle.top_writer.proofs.Pushing.{pushed_none, pushed_more, pushed_all}
use Rattle.top_writer.proofs.waiting.push_rows.Goals as goal

pub loop-number-init : goal.loop-number-init
loop-number-init c = (
  pushed_none c.args.extent.now.at c.args.extent.now.count c.args.what c.args.waiting.now.items,
  omega arith,
  omega arith,
  omega arith,
)

pub loop-number-preserved : goal.loop-number-preserved
loop-number-preserved c =
    let added = c.push_row.ensures.added in (
      pushed_more c.args.extent.now.at c.args.extent.now.count c.args.what c.args.waiting.now.items c.loop-number.waiting.items c.push_row.new.waiting.items added.0 c.loop-number.number
          c.loop-number.invariant.0 (subst (RowOf added.0) c.row_of.ensures.row added.1) added.2 added.3,
      omega (arith, c.push_row.ensures.len, c.loop-number.invariant.1),
      omega (arith, c.push_row.ensures.capacity, c.loop-number.invariant.2),
      omega (arith, c.loop-number-test.true),
    )

pub push_row-requires-clause-room : goal.push_row-requires-clause-room
push_row-requires-clause-room c =
    omega (arith, c.loop-number.invariant.1, c.loop-number.invariant.2, c.loop-number-test.true, c.rows_needed-number-end.ensures, c.requires.room)

pub returns : goal.returns
returns c =
    let all : c.loop-number.number ≡ rows_for c.args.extent.now.count = omega (arith, c.loop-number-test.false, c.loop-number.invariant.3, c.rows_needed-number-end.ensures) in
    record { added = pushed_all c.args.extent.now.at c.args.extent.now.count c.args.what c.args.waiting.now.items c.loop-number.waiting.items c.loop-number.number all c.loop-number.invariant.0 }

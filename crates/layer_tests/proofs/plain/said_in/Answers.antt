use Rattle.std.proofs.Common.{false, ◌^◌, arith}
use Rattle.seg_mapping.specs.declared.Row.{Row}
use Rattle.sealed_layer.proofs.PartLemmas.{row_at}
use Rattle.layer_tests.proofs.plain.said_in.Goals as goal

abbrev nothing : Row
nothing = record { offset = 0; count = 0; place = 0; zeroed = false; tag = 0 }

pub overflow_add-row : goal.overflow_add-row
overflow_add-row c =
    let is = row_at (2 ^ 31) (2 ^ 50) 0 c.args.rows.now c.loop-row.row-index nothing c.requires.sound (omega arith) in
    omega (arith, is.range)

pub overflow_add-result : goal.overflow_add-result
overflow_add-result c =
    let is = row_at (2 ^ 31) (2 ^ 50) 0 c.args.rows.now c.loop-row.row-index nothing c.requires.sound (omega arith) in
    let to = is.place.to c.if-row.false in
    omega (arith, to)

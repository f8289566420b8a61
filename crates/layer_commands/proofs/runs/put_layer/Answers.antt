use Rattle.std.proofs.Common.{ℕ, ◌≤◌, ◌-◌, false, List, length, get_or, refl, sym, subst, ◌∙◌, arith}
use Rattle.std.proofs.lemmas.Result.{err_from_is_err_and, on_ok_weaker, on_err_weaker}
use Rattle.sector_extent.specs.CauseLaws.{calm_value}
use Rattle.seg_mapping.specs.declared.Row.{Row}
use Rattle.flat_image.specs.RowCells.{AreLayerRows}
use Rattle.layer_commands.specs.declared.refusal.Refusal.TheVariants.{SinkFault}
use Rattle.layer_commands.specs.Runs.{Puts, PutsFront, zeros}
use Rattle.layer_commands.proofs.RunLaws.{along_start, along_next, gap_front, row_front, end_puts, end_front, flat_puts, flat_front}
use Rattle.layer_commands.proofs.runs.put_layer.Goals as goal

-- what stands past the end of a list of rows
abbrev no_row : Row
no_row = record { offset = 0; count = 0; place = 0; zeroed = false; tag = 0 }

pub loop-row-init : goal.loop-row-init
loop-row-init g c =
    let n : ℕ = c.args.layer.now.head.sectors in
    let index_at : ℕ = c.args.layer.now.head.index_at in
    record {
      along = along_start c.args.file.now n index_at c.rows-rows.result.now (g.B.Sink.written c.args.out.now) c.args.kept.now.items
          (subst (AreLayerRows n index_at 0) (sym c.rows-rows.ensures.value) c.requires.told.sound);
      room = omega arith;
      faults = refl;
    }

pub returns-in_err-put_zeros-clause-front : goal.returns-in_err-put_zeros-clause-front
returns-in_err-put_zeros-clause-front g c =
    let p = err_from_is_err_and c.from_residual.result c.from_residual.ensures.1 in
    let layer = c.args.layer.now in
    let rows : List Row = c.rows-rows.result.now in
    let i : ℕ = c.loop-row.row-index in
    let a = g.B.Sink.written c.args.out.now in
    let b = g.B.Sink.written c.loop-row.out in
    let d = g.B.Sink.written c.put_zeros.new.out in
    rw p.1 (flat_front c.args.file.now layer rows a d c.args.kept.now.items c.requires.told c.rows-rows.ensures.value
    (gap_front c.args.file.now layer.head.sectors layer.head.index_at rows a b c.args.kept.now.items c.loop-row.kept.items i c.loop-row.at (get_or rows i no_row) no_row
    d c.loop-row.invariant.along c.loop-row-test.true refl c.in_err-put_zeros.ensures.front))

pub returns-in_err-put_row-clause-front : goal.returns-in_err-put_row-clause-front
returns-in_err-put_row-clause-front g c =
    let p = err_from_is_err_and c.from_residual-in_err-put_row.result c.from_residual-in_err-put_row.ensures.1 in
    let layer = c.args.layer.now in
    let rows : List Row = c.rows-rows.result.now in
    let i : ℕ = c.loop-row.row-index in
    let a = g.B.Sink.written c.args.out.now in
    let b = g.B.Sink.written c.loop-row.out in
    let d = g.B.Sink.written c.put_zeros.new.out in
    let e = g.B.Sink.written c.put_row.new.out in
    rw p.1 (flat_front c.args.file.now layer rows a e c.args.kept.now.items c.requires.told c.rows-rows.ensures.value
    (row_front c.args.file.now layer.head.sectors layer.head.index_at rows a b c.args.kept.now.items c.loop-row.kept.items i c.loop-row.at (get_or rows i no_row) no_row
    d e c.put_zeros.new.kept.items c.loop-row.invariant.along c.loop-row-test.true refl c.in_ok-put_zeros.ensures.put c.in_err-put_row.ensures.front))

pub loop-row-preserved : goal.loop-row-preserved
loop-row-preserved g c =
    let layer = c.args.layer.now in
    let rows : List Row = c.rows-rows.result.now in
    let i : ℕ = c.loop-row.row-index in
    let a = g.B.Sink.written c.args.out.now in
    let b = g.B.Sink.written c.loop-row.out in
    let d = g.B.Sink.written c.put_zeros.new.out in
    let e = g.B.Sink.written c.put_row.new.out in
    let first = c.put_zeros.ensures.room in
    let second = c.put_row.ensures.room in
    record {
      along = along_next c.args.file.now layer.head.sectors layer.head.index_at rows a b c.args.kept.now.items c.loop-row.kept.items i c.loop-row.at (get_or rows i no_row) no_row
          d e c.put_zeros.new.kept.items c.put_row.new.kept.items c.loop-row.invariant.along c.loop-row-test.true refl c.in_ok-put_zeros.ensures.put c.in_ok-put_row.ensures.put;
      room = omega (arith, c.loop-row.invariant.room, first, second);
      faults = calm_value g.B.Sink.faults c.put_zeros.new.out c.put_row.new.out c.in_ok-put_row.field-0 SinkFault c.in_ok-put_row.ensures.cause
          ∙ (calm_value g.B.Sink.faults c.loop-row.out c.put_zeros.new.out c.in_ok-put_zeros.field-0 SinkFault c.in_ok-put_zeros.ensures.cause ∙ c.loop-row.invariant.faults);
    }

pub returns-clause-put : goal.returns-clause-put
returns-clause-put g c =
    let layer = c.args.layer.now in
    let rows : List Row = c.rows-rows.result.now in
    let i : ℕ = c.loop-row.row-index in
    let a = g.B.Sink.written c.args.out.now in
    let b = g.B.Sink.written c.loop-row.out in
    let d = g.B.Sink.written c.put_zeros-2.new.out in
    let now : List ℕ = c.put_zeros-2.new.kept.items in
    let past : length rows ≤ i = omega (arith, c.loop-row-test.false) in
    on_ok_weaker c.put_zeros-2.result
    (λ puts. flat_puts c.args.file.now layer rows a d c.args.kept.now.items now c.requires.told c.rows-rows.ensures.value
    (end_puts c.args.file.now layer.head.sectors layer.head.index_at rows a b d c.args.kept.now.items c.loop-row.kept.items now i c.loop-row.at c.loop-row.invariant.along past
    (subst (λ (n : ℕ). Puts b d c.loop-row.kept.items now (zeros (n - c.loop-row.at))) c.sectors.ensures.value puts)))
    c.put_zeros-2.ensures.put

pub returns-clause-front : goal.returns-clause-front
returns-clause-front g c =
    let layer = c.args.layer.now in
    let rows : List Row = c.rows-rows.result.now in
    let i : ℕ = c.loop-row.row-index in
    let a = g.B.Sink.written c.args.out.now in
    let b = g.B.Sink.written c.loop-row.out in
    let d = g.B.Sink.written c.put_zeros-2.new.out in
    let past : length rows ≤ i = omega (arith, c.loop-row-test.false) in
    on_err_weaker c.put_zeros-2.result
    (λ front. flat_front c.args.file.now layer rows a d c.args.kept.now.items c.requires.told c.rows-rows.ensures.value
    (end_front c.args.file.now layer.head.sectors layer.head.index_at rows a b d c.args.kept.now.items c.loop-row.kept.items i c.loop-row.at c.loop-row.invariant.along past
    (subst (λ (n : ℕ). PutsFront b d c.loop-row.kept.items (zeros (n - c.loop-row.at))) c.sectors.ensures.value front)))
    c.put_zeros-2.ensures.front

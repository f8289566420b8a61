use Rattle.std.proofs.Common.{ℕ, ◌+◌, ◌*◌, ◌≤◌, take, ◌∙◌, arith}
use Rattle.std.specs.Io.KnownBytes.{Appends}
use Rattle.std.proofs.lemmas.Result.{err_from_is_err_and}
use Rattle.byte_ports.specs.Ports.{AppendsFront}
use Rattle.layer_commands.specs.Flattening.{flat_part, told_flat}
use Rattle.sector_extent.specs.CauseLaws.{calm_value}
use Rattle.layer_commands.specs.declared.refusal.Refusal.TheVariants.{ShelfFault, SinkFault}
use Rattle.layer_commands.proofs.Charged.{charges_err}
use Rattle.layer_commands.proofs.Pieces.{IfSome-at, IfSome-each, piece_done, piece_front, all_done}
use Rattle.layer_commands.proofs.flattening.write_flat.Goals as goal

pub returns-in_err-write_piece-clause-front : goal.returns-in_err-write_piece-clause-front
returns-in_err-write_piece-clause-front g c =
    let first = g.B.Sink.written c.args.out.now in
    let second = g.B.Sink.written c.loop-at.out in
    let third = g.B.Sink.written c.write_piece.new.out in
    let n : ℕ = c.args.sectors in
    let at : ℕ = c.loop-at.at in
    let count : ℕ = c.min-count.result in
    let within : at + count ≤ n = omega (arith, c.min-count.ensures) in
    let layers = c.args.layers.now in
    let p = err_from_is_err_and c.from_residual-in_err-write_piece.result c.from_residual-in_err-write_piece.ensures.1 in
    rw p.1 (IfSome-each (g.S.Shelf.files c.args.shelf.now) (λ files e.
    piece_front first second third n at count files layers (c.requires.told files e) (c.requires.sizes files e) within
    (IfSome-at (g.S.Shelf.files c.args.shelf.now) (λ files. Appends first second (take (512 * at) (told_flat n files layers))) files e c.loop-at.invariant.written)
    (IfSome-at (g.S.Shelf.files c.loop-at.shelf) (λ files. AppendsFront second third (flat_part files layers at count)) files (c.loop-at.invariant.files ∙ e) c.in_err-write_piece.ensures.front)))

pub loop-at-preserved : goal.loop-at-preserved
loop-at-preserved g c =
    let first = g.B.Sink.written c.args.out.now in
    let second = g.B.Sink.written c.loop-at.out in
    let third = g.B.Sink.written c.write_piece.new.out in
    let n : ℕ = c.args.sectors in
    let at : ℕ = c.loop-at.at in
    let count : ℕ = c.min-count.result in
    let within : at + count ≤ n = omega (arith, c.min-count.ensures) in
    let layers = c.args.layers.now in
    record {
      written = IfSome-each (g.S.Shelf.files c.args.shelf.now) (λ files e.
          piece_done first second third n at count files layers (c.requires.told files e) (c.requires.sizes files e) within
          (IfSome-at (g.S.Shelf.files c.args.shelf.now) (λ files. Appends first second (take (512 * at) (told_flat n files layers))) files e c.loop-at.invariant.written)
          (IfSome-at (g.S.Shelf.files c.loop-at.shelf) (λ files. Appends second third (flat_part files layers at count)) files (c.loop-at.invariant.files ∙ e) c.in_ok-write_piece.ensures.done));
      within = within;
      room = omega (arith, c.loop-at.invariant.room, c.write_piece.ensures.room);
      files = c.write_piece.ensures.same.files ∙ c.loop-at.invariant.files;
      count = c.write_piece.ensures.same.count ∙ c.loop-at.invariant.count;
      shelf_faults = calm_value g.S.Shelf.faults c.loop-at.shelf c.write_piece.new.shelf c.in_ok-write_piece.field-0 ShelfFault c.in_ok-write_piece.ensures.shelf_cause ∙ c.loop-at.invariant.shelf_faults;
      sink_faults = calm_value g.B.Sink.faults c.loop-at.out c.write_piece.new.out c.in_ok-write_piece.field-0 SinkFault c.in_ok-write_piece.ensures.sink_cause ∙ c.loop-at.invariant.sink_faults;
    }

pub returns-clause-done : goal.returns-clause-done
returns-clause-done g c =
    let first = g.B.Sink.written c.args.out.now in
    let second = g.B.Sink.written c.loop-at.out in
    let n : ℕ = c.args.sectors in
    let at : ℕ = c.loop-at.at in
    let layers = c.args.layers.now in
    IfSome-each (g.S.Shelf.files c.args.shelf.now) (λ files e.
    all_done first second n at files layers (c.requires.told files e) (c.requires.sizes files e) c.loop-at-test.false
    (IfSome-at (g.S.Shelf.files c.args.shelf.now) (λ files. Appends first second (take (512 * at) (told_flat n files layers))) files e c.loop-at.invariant.written))

pub returns-in_err-write_piece-clause-shelf_cause : goal.returns-in_err-write_piece-clause-shelf_cause
returns-in_err-write_piece-clause-shelf_cause g c =
    let p = err_from_is_err_and c.from_residual-in_err-write_piece.result c.from_residual-in_err-write_piece.ensures.1 in
    rw (p.1, p.2) (charges_err g.S.Shelf.faults c.args.shelf.now c.loop-at.shelf c.write_piece.new.shelf c.in_err-write_piece.field-0.0 ShelfFault c.loop-at.invariant.shelf_faults c.in_err-write_piece.ensures.shelf_cause)

pub returns-in_err-write_piece-clause-sink_cause : goal.returns-in_err-write_piece-clause-sink_cause
returns-in_err-write_piece-clause-sink_cause g c =
    let p = err_from_is_err_and c.from_residual-in_err-write_piece.result c.from_residual-in_err-write_piece.ensures.1 in
    rw (p.1, p.2) (charges_err g.B.Sink.faults c.args.out.now c.loop-at.out c.write_piece.new.out c.in_err-write_piece.field-0.0 SinkFault c.loop-at.invariant.sink_faults c.in_err-write_piece.ensures.sink_cause)

use Rattle.std.proofs.Common.{◌≡◌, ◌+◌, ◌%◌, ◌≤◌, ◌∙◌, ap, refl, length, vec_len, arith, rules}
use Rattle.std.specs.Prelude.{Err}
use Rattle.std.proofs.lemmas.Result.{err_from_is_err_and}
use Rattle.sector_extent.specs.CauseLaws.{calm_value}
use Rattle.layer_commands.specs.declared.refusal.Refusal.TheVariants.{SourceFault}
use Rattle.layer_commands.proofs.Charged.{charges_err, stays, stays_ok}
use Rattle.layer_commands.proofs.Inputs.{none_read, read_step, read_size, read_whole, too_long, takes_more, piece_refusal}
use Rattle.layer_commands.proofs.reading.read_input.Goals as goal

pub loop-bytes-init : goal.loop-bytes-init
loop-bytes-init g c = record {
  consumed = none_read (g.A.Source.left c.args.source.now) c.new-bytes.result.items c.new-bytes.ensures.items;
  few = omega (arith, c.new-bytes.ensures.len);
  faults = refl;
  whole = λ short. omega (arith, c.new-bytes.ensures.len);
  piece = c.in_ok-piece.ensures.len;
}

pub loop-bytes-preserved : goal.loop-bytes-preserved
loop-bytes-preserved g c =
    let first = g.A.Source.left c.args.source.now in
    let second = g.A.Source.left c.loop-bytes.source in
    let third = g.A.Source.left c.read_piece.new.source in
    let r = c.in_ok-count.ensures.read in
    let size = read_size second third c.loop-bytes.bytes.items c.read_piece.new.bytes.items c.min-room.result c.in_ok-count.count r in
    let within = r.within in
    let whole = c.loop-bytes.invariant.whole in
    record {
      consumed = read_step first second third c.loop-bytes.bytes.items c.read_piece.new.bytes.items c.min-room.result c.in_ok-count.count c.loop-bytes.invariant.consumed r;
      few = omega (arith, size, within, c.min-room.ensures);
      faults = calm_value g.A.Source.faults c.loop-bytes.source c.read_piece.new.source c.in_ok-count.count SourceFault c.in_ok-count.ensures.cause ∙ c.loop-bytes.invariant.faults;
      whole = λ short. let before : vec_len c.loop-bytes.bytes % 512 ≡ 0 = whole (omega arith) in omega (arith, size, within, c.min-room.ensures, before, short);
      piece = c.loop-bytes.invariant.piece;
    }

pub returns-in_err-count-clause-within : goal.returns-in_err-count-clause-within
returns-in_err-count-clause-within g c =
    takes_more (g.A.Source.left c.args.source.now) (g.A.Source.left c.loop-bytes.source) (g.A.Source.left c.read_piece.new.source) c.loop-bytes.bytes.items
    (c.args.most + 1) c.min-room.result c.loop-bytes.invariant.consumed c.in_err-count.ensures.within (omega (arith, c.min-room.ensures))

pub returns-then-count-room-clause-whole : goal.returns-then-count-room-clause-whole
returns-then-count-room-clause-whole g c =
    let first = g.A.Source.left c.args.source.now in
    let second = g.A.Source.left c.loop-bytes.source in
    let third = g.A.Source.left c.read_piece.new.source in
    let r = c.in_ok-count.ensures.read in
    read_whole first third c.read_piece.new.bytes.items
    (read_step first second third c.loop-bytes.bytes.items c.read_piece.new.bytes.items c.min-room.result c.in_ok-count.count c.loop-bytes.invariant.consumed r) (r.end c.if-count-room.true)

pub returns-then-count-room-clause-within : goal.returns-then-count-room-clause-within
returns-then-count-room-clause-within g c =
    let first = g.A.Source.left c.args.source.now in
    let second = g.A.Source.left c.loop-bytes.source in
    let third = g.A.Source.left c.read_piece.new.source in
    let r = c.in_ok-count.ensures.read in
    let size = read_size second third c.loop-bytes.bytes.items c.read_piece.new.bytes.items c.min-room.result c.in_ok-count.count r in
    let within = r.within in (
      c.read_piece.new.bytes.items,
      read_step first second third c.loop-bytes.bytes.items c.read_piece.new.bytes.items c.min-room.result c.in_ok-count.count c.loop-bytes.invariant.consumed r,
      omega (arith, size, within, c.min-room.ensures),
    )

pub returns-clause-refused : goal.returns-clause-refused
returns-clause-refused g c = too_long (g.A.Source.left c.args.source.now) (g.A.Source.left c.loop-bytes.source) c.loop-bytes.bytes.items c.args.most c.loop-bytes.invariant.consumed (omega arith)

pub returns-in_err-count-clause-refused : goal.returns-in_err-count-clause-refused
returns-in_err-count-clause-refused g c =
    let p = err_from_is_err_and c.from_residual-in_err-count.result c.from_residual-in_err-count.ensures.1 in
    let first = g.A.Source.left c.args.source.now in
    let short : vec_len c.loop-bytes.bytes ≤ c.args.most = omega arith in
    let even = c.loop-bytes.invariant.whole short in
    let size : length c.loop-bytes.bytes.items ≡ vec_len c.loop-bytes.bytes = search rules in
    rw (p.1, p.2) (piece_refusal first (g.A.Source.left c.loop-bytes.source) (g.A.Source.left c.read_piece.new.source) c.loop-bytes.bytes.items c.args.most
    c.in_err-count.field-0.0 c.loop-bytes.invariant.consumed (omega (arith, size, short)) (omega (arith, size, even)) c.in_err-count.ensures.only
    (λ is. ap g.A.Source.left (c.in_err-count.ensures.wanting (ap Err is))))

pub returns-in_err-count-clause-cause : goal.returns-in_err-count-clause-cause
returns-in_err-count-clause-cause g c =
    let p = err_from_is_err_and c.from_residual-in_err-count.result c.from_residual-in_err-count.ensures.1 in
    rw (p.1, p.2) (charges_err g.A.Source.faults c.args.source.now c.loop-bytes.source c.read_piece.new.source c.in_err-count.field-0.0 SourceFault c.loop-bytes.invariant.faults c.in_err-count.ensures.cause)

pub returns-then-count-room-clause-cause : goal.returns-then-count-room-clause-cause
returns-then-count-room-clause-cause g c =
    stays_ok g.A.Source.faults c.args.source.now c.read_piece.new.source c.read_piece.new.bytes SourceFault
    (calm_value g.A.Source.faults c.loop-bytes.source c.read_piece.new.source c.in_ok-count.count SourceFault c.in_ok-count.ensures.cause ∙ c.loop-bytes.invariant.faults)

pub returns-clause-cause : goal.returns-clause-cause
returns-clause-cause g c = stays g.A.Source.faults c.args.source.now c.loop-bytes.source _ c.loop-bytes.invariant.faults (λ is. cc)

pub returns-then-count-room-clause-taken : goal.returns-then-count-room-clause-taken
returns-then-count-room-clause-taken g c =
    let first = g.A.Source.left c.args.source.now in
    let second = g.A.Source.left c.loop-bytes.source in
    let third = g.A.Source.left c.read_piece.new.source in
    read_step first second third c.loop-bytes.bytes.items c.read_piece.new.bytes.items c.min-room.result c.in_ok-count.count c.loop-bytes.invariant.consumed c.in_ok-count.ensures.read

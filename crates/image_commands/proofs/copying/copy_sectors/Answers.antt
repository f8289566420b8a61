use Rattle.std.proofs.Common.{◌≡◌, ℕ, ◌+◌, ◌≤◌, [], refl, ◌∙◌, subst, arith, rules}
use Rattle.std.proofs.lemmas.Result.{err_from_is_err_and}
use Rattle.std.proofs.KnownBytes.{Keeps-refl, Appends-nil}
use Rattle.image_core.specs.Seen.{Seen}
use Rattle.image_commands.specs.ImageSteps.{WritesSectors}
use Rattle.sector_extent.specs.CauseLaws.{calm_value}
use Rattle.image_core.specs.Seen.{faults_in}
use Rattle.layer_commands.specs.declared.refusal.Refusal.TheVariants as refused
use Rattle.layer_commands.proofs.Charged.{charges_err}
use Rattle.image_commands.proofs.ImageAdds.{adds-nothing, adds-joined, standing-after, none-written, no-sectors}
use Rattle.image_commands.proofs.CopyLaws.{writes-joined, front-joined, cause-after}
use Rattle.image_commands.proofs.copying.copy_sectors.Goals as goal

pub returns-in_err-buffer-clause-front : goal.returns-in_err-buffer-clause-front
returns-in_err-buffer-clause-front g c =
    let p = err_from_is_err_and c.from_residual.result c.from_residual.ensures.1 in
    rw p.1 (none-written _ (g.S.Shelf.files c.args.shelf.now) c.args.at c.args.count _ _ (Keeps-refl (g.B.Sink.written c.args.out.now)))

pub returns-in_err-buffer-clause-refused : goal.returns-in_err-buffer-clause-refused
returns-in_err-buffer-clause-refused g c =
    let p = err_from_is_err_and c.from_residual.result c.from_residual.ensures.1 in
    rw (p.1, p.2) (adds-nothing (record { tells = g.D.Disk.tells; state = g.D.Disk.state c.args.image.now.disk; faults = g.D.Disk.faults c.args.image.now.disk; parts = c.args.image.now.parts }))

pub loop-done-init : goal.loop-done-init
loop-done-init g c =
    let image : Seen = record { tells = g.D.Disk.tells; state = g.D.Disk.state c.args.image.now.disk; faults = g.D.Disk.faults c.args.image.now.disk; parts = c.args.image.now.parts } in
    record {
      standing = c.requires.standing;
      adds = adds-nothing image;
      writes = record { bytes = []; sectors = no-sectors image (g.S.Shelf.files c.args.shelf.now) c.args.at; written = Appends-nil (g.B.Sink.written c.args.out.now) };
      lowers = refl;
      sectors = refl;
      stepped = omega arith;
      within = omega arith;
      room = search rules;
      files = refl;
      count = refl;
      faults = refl;
      shelf_faults = refl;
      sink_faults = refl;
    }

pub returns-in_err-copy_piece-clause-front : goal.returns-in_err-copy_piece-clause-front
returns-in_err-copy_piece-clause-front g c =
    let old : Seen = record { tells = g.D.Disk.tells; state = g.D.Disk.state c.args.image.now.disk; faults = g.D.Disk.faults c.args.image.now.disk; parts = c.args.image.now.parts } in
    let mid : Seen = record { tells = g.D.Disk.tells; state = g.D.Disk.state c.loop-done.image.disk; faults = g.D.Disk.faults c.loop-done.image.disk; parts = c.loop-done.image.parts } in
    let p = err_from_is_err_and c.from_residual-in_err-copy_piece.result c.from_residual-in_err-copy_piece.ensures.1 in
    rw p.1 (front-joined old mid (g.S.Shelf.files c.args.shelf.now) (g.S.Shelf.files c.loop-done.shelf) c.args.at c.loop-done.done c.min-part.result c.args.count
    (g.B.Sink.written c.args.out.now) (g.B.Sink.written c.loop-done.out) (g.B.Sink.written c.copy_piece.new.out) refl c.loop-done.invariant.files c.loop-done.invariant.adds
    (omega (arith, c.min-part.ensures)) c.loop-done.invariant.writes c.in_err-copy_piece.ensures.front)

pub returns-in_err-copy_piece-clause-refused : goal.returns-in_err-copy_piece-clause-refused
returns-in_err-copy_piece-clause-refused g c =
    let old : Seen = record { tells = g.D.Disk.tells; state = g.D.Disk.state c.args.image.now.disk; faults = g.D.Disk.faults c.args.image.now.disk; parts = c.args.image.now.parts } in
    let mid : Seen = record { tells = g.D.Disk.tells; state = g.D.Disk.state c.loop-done.image.disk; faults = g.D.Disk.faults c.loop-done.image.disk; parts = c.loop-done.image.parts } in
    let new : Seen = record { tells = g.D.Disk.tells; state = g.D.Disk.state c.copy_piece.new.image.disk; faults = g.D.Disk.faults c.copy_piece.new.image.disk; parts = c.copy_piece.new.image.parts } in
    let p = err_from_is_err_and c.from_residual-in_err-copy_piece.result c.from_residual-in_err-copy_piece.ensures.1 in
    rw (p.1, p.2) (cause-after old mid new (g.S.Shelf.faults c.args.shelf.now) (g.S.Shelf.faults c.loop-done.shelf) (g.S.Shelf.faults c.copy_piece.new.shelf)
    (g.B.Sink.faults c.args.out.now) (g.B.Sink.faults c.loop-done.out) (g.B.Sink.faults c.copy_piece.new.out) c.in_err-copy_piece.field-0.0
    c.loop-done.invariant.adds (let e = c.loop-done.invariant.faults in omega (arith, e)) (let e = c.loop-done.invariant.shelf_faults in omega (arith, e)) (let e = c.loop-done.invariant.sink_faults in omega (arith, e)) c.in_err-copy_piece.ensures.refused)

pub loop-done-preserved : goal.loop-done-preserved
loop-done-preserved g c =
    let old : Seen = record { tells = g.D.Disk.tells; state = g.D.Disk.state c.args.image.now.disk; faults = g.D.Disk.faults c.args.image.now.disk; parts = c.args.image.now.parts } in
    let mid : Seen = record { tells = g.D.Disk.tells; state = g.D.Disk.state c.loop-done.image.disk; faults = g.D.Disk.faults c.loop-done.image.disk; parts = c.loop-done.image.parts } in
    let new : Seen = record { tells = g.D.Disk.tells; state = g.D.Disk.state c.copy_piece.new.image.disk; faults = g.D.Disk.faults c.copy_piece.new.image.disk; parts = c.copy_piece.new.image.parts } in
    let done = c.in_ok-copy_piece.ensures in
    let part : ℕ = c.min-part.result in
    let within : c.loop-done.done + part ≤ c.args.count = omega (arith, c.min-part.ensures) in
    let some : 1 ≤ part = omega (arith, c.min-part.ensures, c.loop-done-test.true) in
    record {
      standing = standing-after g.D.Disk.tells mid.state new.state mid.faults new.faults mid.parts new.parts [] c.loop-done.invariant.standing done.adds;
      adds = adds-joined [] [] old mid new c.loop-done.invariant.adds done.adds;
      writes = writes-joined old mid (g.S.Shelf.files c.args.shelf.now) (g.S.Shelf.files c.loop-done.shelf) c.args.at c.loop-done.done part
          (g.B.Sink.written c.args.out.now) (g.B.Sink.written c.loop-done.out) (g.B.Sink.written c.copy_piece.new.out) refl c.loop-done.invariant.files c.loop-done.invariant.adds
          c.loop-done.invariant.writes done.done;
      lowers = done.lowers ∙ c.loop-done.invariant.lowers;
      sectors = done.sectors ∙ c.loop-done.invariant.sectors;
      stepped = let a = done.stepped in let b = c.loop-done.invariant.stepped in omega (arith, a, b, some);
      within = within;
      room = search rules;
      files = done.same.files ∙ c.loop-done.invariant.files;
      count = done.same.count ∙ c.loop-done.invariant.count;
      faults = calm_value (faults_in g.D.Disk) c.loop-done.image c.copy_piece.new.image c.in_ok-copy_piece.field-0 refused.DiskFault done.cause ∙ c.loop-done.invariant.faults;
      shelf_faults = calm_value g.S.Shelf.faults c.loop-done.shelf c.copy_piece.new.shelf c.in_ok-copy_piece.field-0 refused.ShelfFault done.shelf_cause ∙ c.loop-done.invariant.shelf_faults;
      sink_faults = calm_value g.B.Sink.faults c.loop-done.out c.copy_piece.new.out c.in_ok-copy_piece.field-0 refused.SinkFault done.sink_cause ∙ c.loop-done.invariant.sink_faults;
    }

pub returns-clause-done : goal.returns-clause-done
returns-clause-done g c =
    let old : Seen = record { tells = g.D.Disk.tells; state = g.D.Disk.state c.args.image.now.disk; faults = g.D.Disk.faults c.args.image.now.disk; parts = c.args.image.now.parts } in
    let all : c.loop-done.done ≡ c.args.count = omega (arith, c.loop-done.invariant.within, c.loop-done-test.false) in
    subst (λ (n : ℕ). WritesSectors old (g.S.Shelf.files c.args.shelf.now) c.args.at n (g.B.Sink.written c.args.out.now) (g.B.Sink.written c.loop-done.out)) all c.loop-done.invariant.writes

pub returns-in_err-copy_piece-clause-cause : goal.returns-in_err-copy_piece-clause-cause
returns-in_err-copy_piece-clause-cause g c =
    let p = err_from_is_err_and c.from_residual-in_err-copy_piece.result c.from_residual-in_err-copy_piece.ensures.1 in
    rw (p.1, p.2) (charges_err (faults_in g.D.Disk) c.args.image.now c.loop-done.image c.copy_piece.new.image c.in_err-copy_piece.field-0.0 refused.DiskFault c.loop-done.invariant.faults c.in_err-copy_piece.ensures.cause)

pub returns-in_err-copy_piece-clause-shelf_cause : goal.returns-in_err-copy_piece-clause-shelf_cause
returns-in_err-copy_piece-clause-shelf_cause g c =
    let p = err_from_is_err_and c.from_residual-in_err-copy_piece.result c.from_residual-in_err-copy_piece.ensures.1 in
    rw (p.1, p.2) (charges_err g.S.Shelf.faults c.args.shelf.now c.loop-done.shelf c.copy_piece.new.shelf c.in_err-copy_piece.field-0.0 refused.ShelfFault c.loop-done.invariant.shelf_faults c.in_err-copy_piece.ensures.shelf_cause)

pub returns-in_err-copy_piece-clause-sink_cause : goal.returns-in_err-copy_piece-clause-sink_cause
returns-in_err-copy_piece-clause-sink_cause g c =
    let p = err_from_is_err_and c.from_residual-in_err-copy_piece.result c.from_residual-in_err-copy_piece.ensures.1 in
    rw (p.1, p.2) (charges_err g.B.Sink.faults c.args.out.now c.loop-done.out c.copy_piece.new.out c.in_err-copy_piece.field-0.0 refused.SinkFault c.loop-done.invariant.sink_faults c.in_err-copy_piece.ensures.sink_cause)

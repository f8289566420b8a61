use Rattle.std.proofs.Common.{◌≡◌, ℕ, ◌+◌, ◌<◌, ◌≤◌, false, true, List, [], ◌∷◌, ◌++◌, length, map, refl, sym, ap, ◌∙◌, subst, arith, length-append}
use Rattle.std.specs.Prelude.{Err, Ok, Some, None, Contains}
use Rattle.std.specs.Arc.{arc_value}
use Rattle.std.proofs.lemmas.Result.{err_from_is_err_and}
use Rattle.std.proofs.lemmas.List.{length-map}
use Rattle.sector_extent.specs.CauseLaws.{calm_ok}
use Rattle.flat_image.specs.declared.act.Act.TheVariants.{Freeze, Fault}
use Rattle.flat_image.specs.declared.act.Asked.TheVariants.{Uuid}
use Rattle.layer_commit.specs.Fitting.{Begun}
use Rattle.sealed_layer.specs.Layers.{LayerIndex}
use Rattle.top_writer.specs.declared.top.Top.{Top}
use Rattle.top_writer.specs.Files.{data_file}
use Rattle.top_writer.specs.Stands.{unchanged, this_too}
use Rattle.top_writer.specs.View.{table_of, sectors_of}
use Rattle.image_core.specs.declared.parts.Stack.{Stack}
use Rattle.image_core.specs.declared.commit.FreezeFault.TheVariants as freezes
use Rattle.image_core.specs.Committing.{uuids_in}
use Rattle.image_core.specs.Growing.{pending_in}
use Rattle.image_core.specs.Loading.{upper_uuid, upper_size}
use Rattle.image_core.specs.Manifest.{IsWritten}
use Rattle.image_core.specs.Numbers.{manifest_file, sealed_file}
use Rattle.image_core.specs.Parts.{layer_in}
use Rattle.image_core.specs.Pieces.{IsSnapshotOf}
use Rattle.image_core.specs.Seen.{seen, view, with_disk, Goes}
use Rattle.image_core.proofs.CommitRefusals.{uuid-of, pending-same, freeze-unnoted, freeze-ok, freeze-memory, freeze-failing}
use Rattle.image_core.proofs.FaultCounts.{value_no_fault}
use Rattle.image_core.proofs.Freezes.{stands-reserved, goes-reserved, kept-after, freeze-untaken, freeze-failed, freeze-done}
use Rattle.image_core.proofs.Formats.{set-format}
use Rattle.image_core.proofs.Grows.{none-pending}
use Rattle.image_core.proofs.StandFacts.{image-few, image-places, image-rows, image-snapshot, image-manifest}
use Rattle.image_core.proofs.StepGoes.{goes-not, goes-unnoted, goes-noted, counts-fault, keeps-unflushed}
use Rattle.image_core.proofs.image.Image.freeze.Goals as goal

pub check_freeze-requires : goal.check_freeze-requires
check_freeze-requires g c = record { few = image-few (seen g.D.Disk c.args.self.now) c.requires.standing }

pub returns-in_err-check_freeze-clause-goes : goal.returns-in_err-check_freeze-clause-goes
returns-in_err-check_freeze-clause-goes g c =
    let p = err_from_is_err_and c.from_residual.result c.from_residual.ensures.1 in
    rw (p.1, p.2) (goes-unnoted (seen g.D.Disk c.args.self.now) _ (λ files left. g.met.D.Disk.now_at c.args.self.now.disk files left) (freeze-unnoted (Unit {0}) c.args.uuid c.in_err-check_freeze.field-0.0 (λ e. c.in_err-check_freeze.ensures.failed (ap (λ f. Err f) e))))

pub prepare-requires-clause-few : goal.prepare-requires-clause-few
prepare-requires-clause-few g c =
    omega (arith, c.in_ok-check_freeze.ensures.ok.few, length-map (c.args.self.now.parts.stack.lowers ++ c.args.self.now.parts.stack.committed.items) uuid-of, length-append c.args.self.now.parts.stack.lowers c.args.self.now.parts.stack.committed.items)

pub prepare-requires-clause-low : goal.prepare-requires-clause-low
prepare-requires-clause-low g c = image-places (seen g.D.Disk c.args.self.now) c.requires.standing

pub prepare-requires-clause-rows : goal.prepare-requires-clause-rows
prepare-requires-clause-rows g c = image-rows (seen g.D.Disk c.args.self.now) c.requires.standing

pub returns-in_default-clause-goes : goal.returns-in_default-clause-goes
returns-in_default-clause-goes g c =
    goes-reserved (seen g.D.Disk c.args.self.now) c.prepare.new.self (none-pending c.args.self.now.parts.stack.commit _ c.in_ok-check_freeze.ensures.ok.none refl) c.prepare.ensures.same (with_disk g.D.Disk c.args.self.now.disk (record c.args.self.now.parts { stack = c.prepare.new.self })) None
    (goes-not (with_disk g.D.Disk c.args.self.now.disk (record c.args.self.now.parts { stack = c.prepare.new.self })) (λ files left. g.met.D.Disk.now_at c.args.self.now.disk files left))

pub returns-in_default-clause-refused : goal.returns-in_default-clause-refused
returns-in_default-clause-refused g c = freeze-memory (pending_in (view c.args.self.now)) (uuids_in (view c.args.self.now)) c.args.uuid (pending-same c.args.self.now.parts.stack.commit ∙ c.in_ok-check_freeze.ensures.ok.none) c.in_ok-check_freeze.ensures.ok.few c.in_ok-check_freeze.ensures.ok.unlike

pub returns-in-Err-clause-goes : goal.returns-in-Err-clause-goes
returns-in-Err-clause-goes g c =
    let z = with_disk g.D.Disk c.flush.new.disk (record (record c.args.self.now.parts { stack = c.prepare.new.self; top = c.flush.new.self }) { steps = c.args.self.now.parts.steps + 1 }) in
    goes-reserved (seen g.D.Disk c.args.self.now) c.prepare.new.self (none-pending c.args.self.now.parts.stack.commit _ c.in_ok-check_freeze.ensures.ok.none refl) c.prepare.ensures.same z (Some (Fault (Uuid c.args.uuid)))
    (goes-noted (with_disk g.D.Disk c.args.self.now.disk (record c.args.self.now.parts { stack = c.prepare.new.self })) z unchanged this_too (Fault (Uuid c.args.uuid)) (record { manifest = refl; stack = refl }) refl refl
    c.in-Err.ensures.err refl (λ b. refl) (λ b is. tt)
    (counts-fault (g.D.Disk.faults c.args.self.now.disk) (g.D.Disk.faults c.flush.new.disk) (Uuid c.args.uuid) (omega (arith, c.in-Err.ensures.cause.failed refl)))
    (keeps-unflushed (Uuid c.args.uuid)))

pub returns-in-Err-clause-refused : goal.returns-in-Err-clause-refused
returns-in-Err-clause-refused g c = freeze-failing (pending_in (view c.args.self.now)) (uuids_in (view c.args.self.now)) c.args.uuid (pending-same c.args.self.now.parts.stack.commit ∙ c.in_ok-check_freeze.ensures.ok.none) c.in_ok-check_freeze.ensures.ok.few c.in_ok-check_freeze.ensures.ok.unlike

pub take_next-requires-clause-few : goal.take_next-requires-clause-few
take_next-requires-clause-few g c =
    omega (arith, c.in_ok-check_freeze.ensures.ok.few, ap (length {A = LayerIndex}) c.prepare.ensures.same.committed, length-map (c.args.self.now.parts.stack.lowers ++ c.args.self.now.parts.stack.committed.items) uuid-of, length-append c.args.self.now.parts.stack.lowers c.args.self.now.parts.stack.committed.items)

pub returns-in-Err-take_next-clause-goes : goal.returns-in-Err-take_next-clause-goes
returns-in-Err-take_next-clause-goes g c =
    let z = λ (s : Stack). with_disk g.D.Disk c.take_next.new.disk (record (record c.args.self.now.parts { stack = c.prepare.new.self; top = c.flush.new.self }) { stack = s; steps = c.args.self.now.parts.steps + 1 }) in
    goes-reserved (seen g.D.Disk c.args.self.now) c.prepare.new.self (none-pending c.args.self.now.parts.stack.commit _ c.in_ok-check_freeze.ensures.ok.none refl) c.prepare.ensures.same (z c.take_next.new.self) (Some (Fault (Uuid c.args.uuid)))
    (subst (λ (s : Stack). Goes (with_disk g.D.Disk c.args.self.now.disk (record c.args.self.now.parts { stack = c.prepare.new.self })) (z s) (Some (Fault (Uuid c.args.uuid)))) (sym c.in-Err-take_next.ensures.err)
    (freeze-untaken g.D.Disk c.args.self.now.disk c.flush.new.disk c.take_next.new.disk (record c.args.self.now.parts { stack = c.prepare.new.self }) (record c.args.self.now.parts { stack = c.prepare.new.self; top = c.flush.new.self }) (record { manifest = refl; stack = refl }) refl
    c.in-Ok-flush.ensures.ok (c.prepare.ensures.same.commit ∙ (none-pending c.args.self.now.parts.stack.commit _ c.in_ok-check_freeze.ensures.ok.none refl)) c.prepare.new.self.next refl c.take_next.ensures.goes c.args.uuid (omega (arith, c.flush.ensures.cause.later, c.in-Err-take_next.ensures.cause.failed refl))))

pub returns-in-Err-take_next-clause-refused : goal.returns-in-Err-take_next-clause-refused
returns-in-Err-take_next-clause-refused g c = freeze-failing (pending_in (view c.args.self.now)) (uuids_in (view c.args.self.now)) c.args.uuid (pending-same c.args.self.now.parts.stack.commit ∙ c.in_ok-check_freeze.ensures.ok.none) c.in_ok-check_freeze.ensures.ok.few c.in_ok-check_freeze.ensures.ok.unlike

pub count-count-requires : goal.count-count-requires
count-count-requires g c =
    omega (
      arith,
      c.in_ok-check_freeze.ensures.ok.few,
      ap (λ (s : Stack). length s.committed.items) c.in-Ok-take_next.ensures.taken,
      ap (length {A = LayerIndex}) c.prepare.ensures.same.committed,
      length-map (c.args.self.now.parts.stack.lowers ++ c.args.self.now.parts.stack.committed.items) uuid-of,
      length-append c.args.self.now.parts.stack.lowers c.args.self.now.parts.stack.committed.items,
    )

pub pending_body-body-requires-clause-few : goal.pending_body-body-requires-clause-few
pending_body-body-requires-clause-few g c =
    omega (
      arith,
      c.count-count.ensures,
      c.in_ok-check_freeze.ensures.ok.few,
      ap (λ (s : Stack). length s.committed.items) c.in-Ok-take_next.ensures.taken,
      ap (length {A = LayerIndex}) c.prepare.ensures.same.committed,
      length-map (c.args.self.now.parts.stack.lowers ++ c.args.self.now.parts.stack.committed.items) uuid-of,
      length-append c.args.self.now.parts.stack.lowers c.args.self.now.parts.stack.committed.items,
    )

pub set-requires-clause-kept : goal.set-requires-clause-kept
set-requires-clause-kept g c =
    let (base, history, k) = c.requires.standing in
    kept-after g.D.Disk c.args.self.now.disk c.flush.new.disk c.take_next.new.disk (record c.args.self.now.parts { stack = c.prepare.new.self }) (record c.args.self.now.parts { stack = c.prepare.new.self; top = c.flush.new.self }) (record { manifest = refl; stack = refl }) refl
    c.in-Ok-flush.ensures.ok (c.prepare.ensures.same.commit ∙ (none-pending c.args.self.now.parts.stack.commit _ c.in_ok-check_freeze.ensures.ok.none refl)) c.prepare.new.self.next refl c.take_next.ensures.goes base history (stands-reserved (seen g.D.Disk c.args.self.now) c.prepare.new.self (none-pending c.args.self.now.parts.stack.commit _ c.in_ok-check_freeze.ensures.ok.none refl) c.prepare.ensures.same base history k)

pub returns-in-Err-set-clause-goes : goal.returns-in-Err-set-clause-goes
returns-in-Err-set-clause-goes g c =
    let z = λ (s : Stack). with_disk g.D.Disk c.set.new.disk (record (record c.args.self.now.parts { stack = c.prepare.new.self; top = c.flush.new.self }) { manifest = c.set.new.self; stack = record s { next = Some c.in-Ok-take_next.next }; steps = c.args.self.now.parts.steps + 1 }) in
    goes-reserved (seen g.D.Disk c.args.self.now) c.prepare.new.self (none-pending c.args.self.now.parts.stack.commit _ c.in_ok-check_freeze.ensures.ok.none refl) c.prepare.ensures.same (z c.take_next.new.self) (Some (Fault (Uuid c.args.uuid)))
    (subst (λ (s : Stack). Goes (with_disk g.D.Disk c.args.self.now.disk (record c.args.self.now.parts { stack = c.prepare.new.self })) (z s) (Some (Fault (Uuid c.args.uuid)))) (sym c.in-Ok-take_next.ensures.taken)
    (freeze-failed g.D.Disk c.args.self.now.disk c.flush.new.disk c.take_next.new.disk (record c.args.self.now.parts { stack = c.prepare.new.self }) (record c.args.self.now.parts { stack = c.prepare.new.self; top = c.flush.new.self }) (record { manifest = refl; stack = refl }) refl
    c.in-Ok-flush.ensures.ok (c.prepare.ensures.same.commit ∙ (none-pending c.args.self.now.parts.stack.commit _ c.in_ok-check_freeze.ensures.ok.none refl)) c.prepare.new.self.next refl c.take_next.ensures.goes
    c.in-Ok-take_next.next c.in-Ok-take_next.ensures.had c.sectors-sectors.result (c.sectors-sectors.ensures ∙ c.in-Ok-flush.ensures.ok.sectors)
    c.in-Ok-take_next.ensures.fits c.args.uuid c.pending_body-body.result c.check_freeze.ensures.long c.requires.named
    (subst (λ (k : ℕ). IsWritten c.pending_body-body.result k (Some c.args.uuid) c.sectors-sectors.result)
    (c.count-count.ensures ∙ ap (λ (s : Stack). length s.committed.items) c.in-Ok-take_next.ensures.taken) c.pending_body-body.ensures)
    (omega (arith, c.in_ok-check_freeze.ensures.ok.few, ap (length {A = LayerIndex}) c.prepare.ensures.same.lowers, ap (length {A = LayerIndex}) c.prepare.ensures.same.committed, length-map (c.args.self.now.parts.stack.lowers ++ c.args.self.now.parts.stack.committed.items) uuid-of, length-append c.args.self.now.parts.stack.lowers c.args.self.now.parts.stack.committed.items))
    (λ has. c.in_ok-check_freeze.ensures.ok.unlike (subst (λ (l : List LayerIndex). Contains (map uuid-of l) c.args.uuid) (λ i. c.prepare.ensures.same.lowers i ++ c.prepare.ensures.same.committed i) has))
    c.set.new.disk c.set.new.self c.set.ensures.kept c.set.ensures.any_moment
    c.in-Err-set.ensures.err.0 c.in-Err-set.ensures.err_bodies (omega (arith, c.flush.ensures.cause.later, c.take_next.ensures.cause.later, c.in-Err-set.ensures.cause.failed refl))))

pub returns-in-Err-set-clause-refused : goal.returns-in-Err-set-clause-refused
returns-in-Err-set-clause-refused g c = freeze-failing (pending_in (view c.args.self.now)) (uuids_in (view c.args.self.now)) c.args.uuid (pending-same c.args.self.now.parts.stack.commit ∙ c.in_ok-check_freeze.ensures.ok.none) c.in_ok-check_freeze.ensures.ok.few c.in_ok-check_freeze.ensures.ok.unlike

pub returns-in-Ok-set-clause-goes : goal.returns-in-Ok-set-clause-goes
returns-in-Ok-set-clause-goes g c =
    let z = λ (s : Stack) (t : Top). with_disk g.D.Disk c.set.new.disk (record (record c.args.self.now.parts { stack = c.prepare.new.self; top = c.flush.new.self }) { manifest = c.set.new.self; stack = record s { commit = Some (record { uuid = c.args.uuid; top = c.replace-top.result; sealing = c.in-Ok.ready.sealing; snapshot = c.in-Ok.ready.snapshot }) }; top = t; steps = c.args.self.now.parts.steps + 1 }) in
    let size : sectors_of c.args.self.now.parts.top ≡ c.sectors-sectors.result = sym (c.sectors-sectors.ensures ∙ c.in-Ok-flush.ensures.ok.sectors) in
    let Started : List LayerIndex → List LayerIndex → ℕ → Type 0 = λ lowers items n.
    Begun (table_of c.args.self.now.parts.top) c.args.uuid (upper_uuid (lowers ++ items)) (upper_size n (lowers ++ items)) n (data_file (length items)) (sealed_file (length items)) c.in-Ok.ready.sealing in
    goes-reserved (seen g.D.Disk c.args.self.now) c.prepare.new.self (none-pending c.args.self.now.parts.stack.commit _ c.in_ok-check_freeze.ensures.ok.none refl) c.prepare.ensures.same (z c.take_next.new.self c.replace-top.new.dest) (Some (Freeze c.args.uuid))
    (subst (λ (t : Top). Goes (with_disk g.D.Disk c.args.self.now.disk (record c.args.self.now.parts { stack = c.prepare.new.self })) (z c.take_next.new.self t) (Some (Freeze c.args.uuid))) (sym c.replace-top.ensures.after)
    (subst (λ (s : Stack). Goes (with_disk g.D.Disk c.args.self.now.disk (record c.args.self.now.parts { stack = c.prepare.new.self })) (z s c.in-Ok-take_next.next) (Some (Freeze c.args.uuid))) (sym c.in-Ok-take_next.ensures.taken)
    (freeze-done g.D.Disk c.args.self.now.disk c.flush.new.disk c.take_next.new.disk (record c.args.self.now.parts { stack = c.prepare.new.self }) (record c.args.self.now.parts { stack = c.prepare.new.self; top = c.flush.new.self }) (record { manifest = refl; stack = refl }) refl
    c.in-Ok-flush.ensures.ok (c.prepare.ensures.same.commit ∙ (none-pending c.args.self.now.parts.stack.commit _ c.in_ok-check_freeze.ensures.ok.none refl)) c.prepare.new.self.next refl c.take_next.ensures.goes
    c.in-Ok-take_next.next c.in-Ok-take_next.ensures.had c.sectors-sectors.result (c.sectors-sectors.ensures ∙ c.in-Ok-flush.ensures.ok.sectors)
    c.in-Ok-take_next.ensures.fits c.args.uuid c.pending_body-body.result c.check_freeze.ensures.long c.requires.named
    (subst (λ (k : ℕ). IsWritten c.pending_body-body.result k (Some c.args.uuid) c.sectors-sectors.result)
    (c.count-count.ensures ∙ ap (λ (s : Stack). length s.committed.items) c.in-Ok-take_next.ensures.taken) c.pending_body-body.ensures)
    (omega (arith, c.in_ok-check_freeze.ensures.ok.few, ap (length {A = LayerIndex}) c.prepare.ensures.same.lowers, ap (length {A = LayerIndex}) c.prepare.ensures.same.committed, length-map (c.args.self.now.parts.stack.lowers ++ c.args.self.now.parts.stack.committed.items) uuid-of, length-append c.args.self.now.parts.stack.lowers c.args.self.now.parts.stack.committed.items))
    (λ has. c.in_ok-check_freeze.ensures.ok.unlike (subst (λ (l : List LayerIndex). Contains (map uuid-of l) c.args.uuid) (λ i. c.prepare.ensures.same.lowers i ++ c.prepare.ensures.same.committed i) has))
    c.set.new.disk c.set.new.self c.set.ensures.kept c.set.ensures.any_moment
    (record { uuid = c.args.uuid; top = c.replace-top.result; sealing = c.in-Ok.ready.sealing; snapshot = c.in-Ok.ready.snapshot }) refl c.replace-top.ensures.value c.flush.ensures.table
    (subst (λ (l : List LayerIndex). Started l c.prepare.new.self.committed.items c.sectors-sectors.result) (sym c.prepare.ensures.same.lowers)
    (subst (λ (l : List LayerIndex). Started c.args.self.now.parts.stack.lowers l c.sectors-sectors.result) (sym c.prepare.ensures.same.committed)
    (subst (Started c.args.self.now.parts.stack.lowers c.args.self.now.parts.stack.committed.items) size c.in-Ok.ensures.begun)))
    (subst (λ (l : List LayerIndex). IsSnapshotOf (arc_value c.in-Ok.ready.snapshot) l (c.prepare.new.self.committed.items ++ layer_in c.in-Ok.ready.sealing ∷ [])) (sym c.prepare.ensures.same.lowers)
    (subst (λ (l : List LayerIndex). IsSnapshotOf (arc_value c.in-Ok.ready.snapshot) c.args.self.now.parts.stack.lowers (l ++ layer_in c.in-Ok.ready.sealing ∷ [])) (sym c.prepare.ensures.same.committed)
    (c.in-Ok.ensures.snapshot (image-snapshot (seen g.D.Disk c.args.self.now) c.requires.standing))))
    c.in-Ok.ensures.room
    c.in-Ok-set.ensures.ok c.in-Ok-set.ensures.ok_bodies (omega (arith, c.flush.ensures.cause.later, c.take_next.ensures.cause.later, c.set.ensures.cause.later)))))

pub returns-in-Ok-set-clause-refused : goal.returns-in-Ok-set-clause-refused
returns-in-Ok-set-clause-refused g c = freeze-ok (pending_in (view c.args.self.now)) (uuids_in (view c.args.self.now)) c.args.uuid (pending-same c.args.self.now.parts.stack.commit ∙ c.in_ok-check_freeze.ensures.ok.none) c.in_ok-check_freeze.ensures.ok.few c.in_ok-check_freeze.ensures.ok.unlike tt

pub returns-in-Ok-set-clause-cause : goal.returns-in-Ok-set-clause-cause
returns-in-Ok-set-clause-cause g c =
    let count = g.D.Disk.faults in
    let same : count c.set.new.disk ≡ count c.args.self.now.disk =
    calm_ok count c.take_next.new.disk c.set.new.disk c.in-Ok-set.ensures.cause
    ∙ (calm_ok count c.flush.new.disk c.take_next.new.disk c.in-Ok-take_next.ensures.cause ∙ calm_ok count c.args.self.now.disk c.flush.new.disk c.in-Ok-flush.ensures.cause) in
    record { later = omega (arith, same); failed = λ is. absurd (value_no_fault _ freezes.Failed is); only = λ rose. absurd (omega (arith, same, rose)) }

pub returns-in-Ok-set-clause-format : goal.returns-in-Ok-set-clause-format
returns-in-Ok-set-clause-format g c =
    set-format g.D.Disk.tells (g.D.Disk.state c.set.new.disk) c.args.self.now.parts.manifest c.set.new.self c.pending_body-body.result (image-manifest (seen g.D.Disk c.args.self.now) c.requires.standing)
    c.in-Ok-set.ensures.ok c.pending_body-body.ensures.format c.set.ensures.now (g.met.D.Disk.seen_may_stay c.set.new.disk manifest_file)

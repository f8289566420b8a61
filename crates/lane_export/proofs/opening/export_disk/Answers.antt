use Rattle.std.proofs.Common.{◌∙◌, ◌&&◌, ℕ, Bool, inl, inr, is_some, false, refl, sym, subst}
use Rattle.lane_serve.specs.Lanes.{Ways}
use Rattle.lane_export.specs.Lanes.{Exports, ControlAt, control_at, stream_of}
use Rattle.image_core.specs.Seen.{seen, with_disk}
use Rattle.lane_export.proofs.Mounting.{opened-now, quiet-seen, found-same, lies-before, told-lowers}
use Rattle.lane_export.proofs.Complete.{complete}
use Rattle.lane_export.proofs.opening.export_disk.Goals as goal

pub base_of-base-requires : goal.base_of-base-requires
base_of-base-requires g c =
    opened-now (g.S.Shelf.files c.args.control.shelf) (g.S.Shelf.files c.open_image.new.shelf) (g.S.Shelf.count c.args.control.shelf) (g.S.Shelf.count c.open_image.new.shelf) g.D.Disk.tells
    (g.D.Disk.state c.args.disk) (g.D.Disk.state c.in-Ok.image.disk) (g.D.Disk.faults c.args.disk) (g.D.Disk.faults c.in-Ok.image.disk) (seen g.D.Disk c.in-Ok.image)
    c.in-Ok.ensures.same.files c.in-Ok.ensures.same.count c.in-Ok.ensures.cause c.in-Ok.ensures.quiet c.in-Ok.ensures.opened

pub export_cached-image-requires-clause-stands : goal.export_cached-image-requires-clause-stands
export_cached-image-requires-clause-stands g c κs within = c.base_of-base.ensures.3

pub export_cached-image-requires-clause-control_count : goal.export_cached-image-requires-clause-control_count
export_cached-image-requires-clause-control_count g c κs within = sym c.base_of-base.ensures.0.long

pub export_cached-image-requires-clause-control_told : goal.export_cached-image-requires-clause-control_told
export_cached-image-requires-clause-control_told g c κs within =
    told-lowers (g.S.Shelf.files c.open_image.new.shelf) (g.S.Shelf.count c.open_image.new.shelf) c.base_of-base.result.value c.base_of-base.ensures.0

pub export_cached-image-requires-clause-same : goal.export_cached-image-requires-clause-same
export_cached-image-requires-clause-same g c κs within = λ k d lt.
    let s = c.requires.same k d lt in let same = c.in-Ok.ensures.same in (s.0 ∙ sym same.count, s.1 ∙ sym same.files)

pub returns-clause-exports : goal.returns-clause-exports
returns-clause-exports g c =
    let same = c.in-Ok.ensures.same in
    let base = c.base_of-base.result.value in
    let image = c.export_cached-image.result.0 in
    let w : Ways g.row.L-A.Denot g.row.L-B.Denot = (record { left = g.L.A.Source.left; reads = g.L.A.Source.faults; written = g.L.B.Sink.written; writes = g.L.B.Sink.faults; takes = false; export = c.args.export.now }) in
    let tells : g.row.S.Denot × g.row.L.Denot → Bool = λ pair. g.D.Disk.tells && is_some (g.S.Shelf.files pair.0) in
    let faults : g.row.S.Denot × g.row.L.Denot → ℕ = λ pair. g.S.Shelf.faults pair.0 in
    let told = λ (pair : g.row.S.Denot × g.row.L.Denot). g.L.Listener.told pair.1 in
    let counted : g.row.S.Denot × g.row.L.Denot → ℕ = λ pair. g.L.Listener.faults pair.1 in
    let now = control_at g.D.Disk g.S.Shelf c.export_cached-image.result.3.shelf (stream_of g.A.Source g.B.Sink c.export_cached-image.result.3.source c.export_cached-image.result.3.sink) in
    inr (record {
      base = base;
      lies = lies-before (g.S.Shelf.files c.args.control.shelf) (g.S.Shelf.files c.open_image.new.shelf) (g.S.Shelf.count c.args.control.shelf) (g.S.Shelf.count c.open_image.new.shelf) base
          same.files same.count c.base_of-base.ensures.0;
      found = found-same g.D.Disk.tells (g.D.Disk.state c.in-Ok.image.disk) (g.D.Disk.state c.args.disk) (g.D.Disk.faults c.in-Ok.image.disk) (g.D.Disk.faults c.args.disk) base
          (sym (quiet-seen (g.D.Disk.state c.args.disk) (g.D.Disk.state c.in-Ok.image.disk) c.in-Ok.ensures.quiet)) c.base_of-base.ensures.1;
      faults_are = c.base_of-base.ensures.2 ∙ c.in-Ok.ensures.cause;
      parts = image.parts;
      end = c.export_cached-image.result.2;
      code_is = c.code_of.ensures;
      many = c.export_cached-image.ensures.count;
      shelf_same = record { files = c.export_cached-image.ensures.control_files.files ∙ same.files; count = c.export_cached-image.ensures.control_files.count ∙ same.count };
      shelves_same = c.export_cached-image.ensures.files;
      exports = subst
          (λ (x : ControlAt). Exports w base tells faults told counted c.args.pairs.items c.export_cached-image.result.1.items c.args.connections x now c.export_cached-image.result.4 (with_disk g.D.Disk c.into_disk.result image.parts) c.export_cached-image.result.2)
          (λ i. record { tells = g.D.Disk.tells && is_some (same.files i); shelf = c.in-Ok.ensures.shelf_cause i; stream = stream_of g.A.Source g.B.Sink c.args.control.source c.args.control.sink })
          (subst
          (λ (disk : g.row.D.Denot). Exports w base tells faults told counted c.args.pairs.items c.export_cached-image.result.1.items c.args.connections
          (record { tells = g.D.Disk.tells && is_some (g.S.Shelf.files c.open_image.new.shelf); shelf = g.S.Shelf.faults c.open_image.new.shelf; stream = stream_of g.A.Source g.B.Sink c.args.control.source c.args.control.sink })
          now c.export_cached-image.result.4 (with_disk g.D.Disk disk image.parts) c.export_cached-image.result.2)
          (sym c.into_disk.ensures) c.export_cached-image.ensures.exports);
    })

pub returns-clause-complete : goal.returns-clause-complete
returns-clause-complete g c =
    complete _ g.D.Disk g.S.Shelf _ _ _ _ _ _ _ ((g.met.S.Shelf g.world.𝓛 g.world.𝓜 g.world.𝓡 ((λ s x. x), (λ x. x), (λ x. x), (λ x. x))).counted c.args.control.shelf) (returns-clause-exports g c)

pub returns-in-Err-clause-complete : goal.returns-in-Err-clause-complete
returns-in-Err-clause-complete g c =
    complete _ g.D.Disk g.S.Shelf _ _ _ _ _ _ _ ((g.met.S.Shelf g.world.𝓛 g.world.𝓜 g.world.𝓡 ((λ s x. x), (λ x. x), (λ x. x), (λ x. x))).counted c.args.control.shelf)
    (inl (record { refusal = c.in-Err.refusal; code_is = c.code.ensures; cause = c.in-Err.ensures.refused; quiet = c.in-Err.ensures.quiet; same = refl; shelf_same = c.in-Err.ensures.same; stream_same = refl; unserved = refl }))

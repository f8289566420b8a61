use Rattle.std.proofs.Common.{map, ◌≡◌, ◌+◌, ◌∙◌, ◌&&◌, ◌++◌, ◌∷◌, [], ℕ, Bool, List, All, is_some, false, length, sym, ap, subst, arith, length-append}
use Rattle.std.specs.Option.{ForSome}
use Rattle.lane_serve.specs.Listeners.{IsFresh}
use Rattle.turn_lock.specs.Locks.{Place, AreSeats}
use Rattle.turn_lock.proofs.Lists.{other_seats}
use Rattle.block_cache.specs.declared.history.CacheAct.{CacheAct}
use Rattle.image_core.specs.Seen.{seen}
use Rattle.lane_export.specs.Caching.{HasFiles, bare}
use Rattle.lane_serve.specs.Lanes.{Ways}
use Rattle.lane_export.specs.Lanes.{ControlAt, control_at, stream_of, Exports}
use Rattle.lane_export.proofs.Bare.{all-mapped, exports-back}
use Rattle.lane_export.proofs.cached_lanes.export_with.Goals as goal

pub export_named-image-requires-clause-shelves : goal.export_named-image-requires-clause-shelves
export_named-image-requires-clause-shelves g c κs within =
    all-mapped bare (λ (pair : g.row.S.Denot × g.row.L.Denot). (g.S.Shelf.count pair.0 ≡ length c.args.base.value.lowers) × ForSome (g.S.Shelf.files pair.0) (λ files. files ≡ c.args.base.value.lowers))
    c.cache_all.new.cached.items c.args.pairs.items c.if-not-cache_all.ensures.all.0 c.requires.shelves

pub export_named-image-requires-clause-fresh : goal.export_named-image-requires-clause-fresh
export_named-image-requires-clause-fresh g c κs within =
    all-mapped bare (λ (pair : g.row.S.Denot × g.row.L.Denot). IsFresh (g.L.Listener.told pair.1)) c.cache_all.new.cached.items c.args.pairs.items c.if-not-cache_all.ensures.all.0 c.requires.fresh

pub cache_all-requires-clause-seats : goal.cache_all-requires-clause-seats
cache_all-requires-clause-seats g c =
    let rest = c.pop.new.self.items in
    let is = c.in-Some.ensures.items in
    let many : length rest ≡ length c.args.pairs.items =
    (let all = c.requires.seats.all in let longer : length c.args.seats.items ≡ length rest + 1 = ap (λ (l : List (Place CacheAct)). length l) is ∙ length-append rest (c.in-Some.seat ∷ []) in omega (arith, all, longer)) in
    subst (λ (n : ℕ). AreSeats c.args.cache.now.id n rest) many (other_seats c.args.cache.now.id _ c.args.seats.items rest c.in-Some.seat c.requires.seats is)

pub export_named-image-requires-clause-control_told : goal.export_named-image-requires-clause-control_told
export_named-image-requires-clause-control_told g c κs within =
    subst (λ (s : g.row.S.Denot). ForSome (g.S.Shelf.files s) (λ files. files ≡ c.args.base.value.lowers)) (sym c.in-Ok-cache_control.ensures.ok.0) c.requires.control_told

pub returns-clause-exports : goal.returns-clause-exports
returns-clause-exports g c =
    let w : Ways g.row.L-A.Denot g.row.L-B.Denot = (record { left = g.L.A.Source.left; reads = g.L.A.Source.faults; written = g.L.B.Sink.written; writes = g.L.B.Sink.faults; takes = false; export = c.args.export.now }) in
    let tells : g.row.S.Denot × g.row.L.Denot → Bool = λ pair. g.D.Disk.tells && is_some (g.S.Shelf.files pair.0) in
    let faults : g.row.S.Denot × g.row.L.Denot → ℕ = λ pair. g.S.Shelf.faults pair.0 in
    let told = λ (pair : g.row.S.Denot × g.row.L.Denot). g.L.Listener.told pair.1 in
    let counted : g.row.S.Denot × g.row.L.Denot → ℕ = λ pair. g.L.Listener.faults pair.1 in
    let was = c.in-Ok-cache_control.ensures.ok in
    let inner = c.export_named-image.result.3 in
    let at : (s : g.row.S.Denot) (a : g.row.A.Denot) (b : g.row.B.Denot) → ControlAt = λ s a b. control_at g.D.Disk g.S.Shelf s (stream_of g.A.Source g.B.Sink a b) in
    let started : at c.in-Ok-cache_control.control.shelf.shelf c.in-Ok-cache_control.control.source c.in-Ok-cache_control.control.sink ≡ at c.args.control.shelf c.args.control.source c.args.control.sink =
    λ i. at (was.0 i) (was.1 i) (was.2 i) in
    let back = c.uncached_control-2.ensures in
    let ended : at c.uncached_control-2.result.shelf c.uncached_control-2.result.source c.uncached_control-2.result.sink ≡ at inner.shelf.shelf inner.source inner.sink =
    λ i. at (back.shelf i) (back.stream.0 i) (back.stream.1 i) in
    subst
    (λ (x : ControlAt). Exports w c.args.base.value tells faults told counted c.args.pairs.items c.uncached.new.plain.items c.args.connections x (at c.uncached_control-2.result.shelf c.uncached_control-2.result.source c.uncached_control-2.result.sink) c.export_named-image.result.4 (seen g.D.Disk c.export_named-image.result.0) c.export_named-image.result.2)
    started
    (subst
    (λ (x : ControlAt). Exports w c.args.base.value tells faults told counted c.args.pairs.items c.uncached.new.plain.items c.args.connections (at c.in-Ok-cache_control.control.shelf.shelf c.in-Ok-cache_control.control.source c.in-Ok-cache_control.control.sink) x c.export_named-image.result.4 (seen g.D.Disk c.export_named-image.result.0) c.export_named-image.result.2)
    (sym ended)
    (exports-back bare w c.args.base.value tells faults told counted c.args.connections
    (at c.in-Ok-cache_control.control.shelf.shelf c.in-Ok-cache_control.control.source c.in-Ok-cache_control.control.sink) (at inner.shelf.shelf inner.source inner.sink) c.export_named-image.result.4
    c.cache_all.new.cached.items c.export_named-image.result.1.items c.args.pairs.items c.uncached.new.plain.items (seen g.D.Disk c.export_named-image.result.0) c.export_named-image.result.2
    c.export_named-image.ensures.count c.if-not-cache_all.ensures.all.0
    (c.uncached.ensures.items ∙ ap (λ ps. ps ++ map bare c.export_named-image.result.1.items) c.if-not-cache_all.ensures.all.1) c.export_named-image.ensures.exports))

pub returns-clause-files : goal.returns-clause-files
returns-clause-files g c =
    subst (All (λ (pair : g.row.S.Denot × g.row.L.Denot). HasFiles g.S.Shelf g.F.Files.told g.F.Files.count pair.0))
    (sym (c.uncached.ensures.items ∙ ap (λ ps. ps ++ map bare c.export_named-image.result.1.items) c.if-not-cache_all.ensures.all.1)) c.uncached.ensures.files

pub returns-then-not-cache_all-clause-files : goal.returns-then-not-cache_all-clause-files
returns-then-not-cache_all-clause-files g c =
    subst (All (λ (pair : g.row.S.Denot × g.row.L.Denot). HasFiles g.S.Shelf g.F.Files.told g.F.Files.count pair.0)) (sym c.if-not-cache_all.ensures.all.0) c.requires.files

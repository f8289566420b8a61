use Rattle.std.proofs.Common.{◌≡◌, ℕ, List, rules, refl, sym, subst}
use Rattle.sealed_layer.specs.Layers.{LayerIndex}
use Rattle.image_core.specs.Found.{IsTopRead}
use Rattle.image_core.proofs.BegunAnew.{read-places, read-rows, begun-anew}
use Rattle.image_core.proofs.load_tops.begin_commit.Goals as goal

pub prepare-requires-clause-low : goal.prepare-requires-clause-low
prepare-requires-clause-low g c =
    let read = c.in_ok-top.ensures.top in
    read-places g.D.Disk.tells (g.D.Disk.state c.args.disk.now) (g.D.Disk.state c.load_top.new.disk) c.count.result c.args.named.now c.as_slice.result.now c.in_ok-top.top read.0 read.1

pub prepare-requires-clause-rows : goal.prepare-requires-clause-rows
prepare-requires-clause-rows g c =
    let read = c.in_ok-top.ensures.top in
    read-rows g.D.Disk.tells (g.D.Disk.state c.args.disk.now) (g.D.Disk.state c.load_top.new.disk) c.count.result c.args.named.now c.as_slice.result.now c.in_ok-top.top read.0 read.1 c.requires.size

pub returns-clause-begun : goal.returns-clause-begun
returns-clause-begun g c =
    let stack = c.args.stack.now in
    let found = c.in_ok-top.ensures.top in
    let old = g.D.Disk.state c.args.disk.now in
    let new = g.D.Disk.state c.load_top.new.disk in
    let read : IsTopRead g.D.Disk.tells old new _ c.args.named.now stack.lowers c.in_ok-top.top found.0 =
    subst (λ (k : ℕ). IsTopRead g.D.Disk.tells old new k c.args.named.now stack.lowers c.in_ok-top.top found.0) c.count.ensures
    (subst (λ (l : List LayerIndex). IsTopRead g.D.Disk.tells old new c.count.result c.args.named.now l c.in_ok-top.top found.0) c.as_slice.ensures found.1) in (
      record { uuid = c.args.uuid; sheet = found.0.cells },
      refl,
      begun-anew g.D.Disk.tells old new c.args.named.now stack c.prepare.new.self
          (record { uuid = c.args.uuid; top = c.in_ok-top.top; sealing = c.in-Ok.ready.sealing; snapshot = c.in-Ok.ready.snapshot }) found.0 c.args.uuid read c.requires.size refl
          (search rules) c.requires.uuid c.in-Ok.ensures.begun c.in-Ok.ensures.snapshot c.in-Ok.ensures.room c.in-Ok.ensures.same,
    )

use Rattle.std.proofs.Common.{◌≡◌, List, sym, ◌∙◌, subst}
use Rattle.std.specs.Prelude.{IfSome}
use Rattle.sealed_layer.specs.Layers.{LayerIndex}
use Rattle.image_core.specs.View.{AreLayersOf}
use Rattle.image_core.specs.Loading.{IsLoadReason}
use Rattle.image_commands.specs.Images.{DiskPort}
use Rattle.image_commands.proofs.OpenLaws.{told-layers-of, stacked, opened, load-refused}
use Rattle.image_commands.proofs.opening.open_image.Goals as goal

pub returns-in-Ok-load-clause-opened : goal.returns-in-Ok-load-clause-opened
returns-in-Ok-load-clause-opened g c =
    let told = g.S.Shelf.files c.args.shelf.now in
    let layers : List LayerIndex = c.in-Ok.layers.items in
    let lowers : List LayerIndex = c.from_vec-lowers.result in
    let same : lowers ≡ layers = c.from_vec-lowers.ensures in
    opened told (g.S.Shelf.count c.args.shelf.now) layers g.D.Disk.tells (g.D.Disk.state c.args.disk) (g.D.Disk.state c.in-Ok-load.image.disk) (g.D.Disk.faults c.args.disk)
    (g.D.Disk.faults c.in-Ok-load.image.disk) c.in-Ok-load.image.parts c.in-Ok-load.ensures.cause (stacked told (g.S.Shelf.count c.args.shelf.now) layers c.in-Ok.ensures.count c.in-Ok.ensures.few c.in-Ok.ensures.told c.in-Ok.ensures.legal) c.in-Ok.ensures.count (c.in-Ok-load.ensures.frame.0 ∙ same)
    (c.in-Ok-load.ensures.starts told (subst (λ (l : List LayerIndex). IfSome told (λ files. AreLayersOf files l)) (sym same) (told-layers-of told layers c.in-Ok.ensures.told)))

pub returns-in-Err-load-clause-refused : goal.returns-in-Err-load-clause-refused
returns-in-Err-load-clause-refused g c =
    let told = g.S.Shelf.files c.args.shelf.now in
    let layers : List LayerIndex = c.in-Ok.layers.items in
    let same : c.from_vec-lowers.result ≡ layers = c.from_vec-lowers.ensures in
    let before : DiskPort = record { tells = g.D.Disk.tells; state = g.D.Disk.state c.args.disk; faults = g.D.Disk.faults c.args.disk } in
    let now : DiskPort = record { tells = g.D.Disk.tells; state = g.D.Disk.state c.in-Err-load.disk; faults = g.D.Disk.faults c.in-Err-load.disk } in
    rw c.load_refusal.ensures (load-refused told (g.S.Shelf.count c.args.shelf.now) (g.S.Shelf.faults c.args.shelf.now) (g.S.Shelf.faults c.read_lowers.new.shelf) before now layers c.in-Err-load.fault
    c.in-Ok.ensures.count c.in-Ok.ensures.few c.in-Ok.ensures.told c.in-Ok.ensures.legal c.in-Err-load.ensures.cause.failed
    (λ tells. subst (λ (l : List LayerIndex). IsLoadReason (g.D.Disk.state c.args.disk).seen l c.in-Err-load.fault) same (c.in-Err-load.ensures.reason tells)))

use Rattle.std.proofs.Common.{◌≡◌, List, length, sym, ap, ◌∙◌, subst}
use Rattle.std.specs.Prelude.{IfSome}
use Rattle.sealed_layer.specs.Layers.{LayerIndex}
use Rattle.image_core.specs.View.{AreLayersOf}
use Rattle.image_core.specs.Creating.{AreLegal}
use Rattle.top_writer.proofs.QuietLaws.{quiet_none}
use Rattle.layer_commands.specs.Flattening.{upper_sectors}
use Rattle.image_commands.specs.Images.{DiskPort, IsSizeFor}
use Rattle.image_commands.specs.ImageSteps.{SizeCause}
use Rattle.image_commands.proofs.OpenLaws.{told-layers-of, stacked}
use Rattle.image_commands.proofs.MakeLaws.{sized-as, size-refused, make-refused, made}
use Rattle.image_commands.proofs.making.make_image.Goals as goal

pub returns-in-Err-size_over-clause-refused : goal.returns-in-Err-size_over-clause-refused
returns-in-Err-size_over-clause-refused g c =
    let layers : List LayerIndex = c.in-Ok.layers.items in
    let disk : DiskPort = record { tells = g.D.Disk.tells; state = g.D.Disk.state c.args.disk; faults = g.D.Disk.faults c.args.disk } in
    size-refused c.args.asked (g.S.Shelf.files c.args.shelf.now) (g.S.Shelf.count c.args.shelf.now) (g.S.Shelf.faults c.args.shelf.now) (g.S.Shelf.faults c.read_lowers.new.shelf) disk layers
    c.in-Ok.ensures.count c.in-Ok.ensures.few c.in-Ok.ensures.told c.in-Ok.ensures.legal (quiet_none (g.D.Disk.state c.args.disk) (λ files left. g.met.D.Disk.now_at c.args.disk files left)) c.in-Err-size_over.refusal
    (subst (λ (l : List LayerIndex). SizeCause c.args.asked l c.in-Err-size_over.refusal) c.as_slice.ensures.value c.in-Err-size_over.ensures.refused)

pub returns-in-Ok-create-clause-made : goal.returns-in-Ok-create-clause-made
returns-in-Ok-create-clause-made g c =
    let told = g.S.Shelf.files c.args.shelf.now in
    let layers : List LayerIndex = c.in-Ok.layers.items in
    let same : c.from_vec.result ≡ layers = c.from_vec.ensures in
    let view : c.as_slice.result.now ≡ layers = c.as_slice.ensures.value in
    let size : IsSizeFor c.args.asked (g.S.Shelf.count c.args.shelf.now) (upper_sectors c.from_vec.result) c.in-Ok-size_over.sectors =
    sized-as c.args.asked (g.S.Shelf.count c.args.shelf.now) c.in-Ok-size_over.sectors c.as_slice.result.now c.from_vec.result (view ∙ sym same) (ap length same ∙ c.in-Ok.ensures.count)
    c.in-Ok-size_over.ensures.asked in
    made c.args.asked told (g.S.Shelf.count c.args.shelf.now) c.in-Ok-size_over.sectors c.from_vec.result g.D.Disk.tells (g.D.Disk.state c.args.disk) (g.D.Disk.state c.in-Ok-create.image.disk)
    (g.D.Disk.faults c.args.disk) (g.D.Disk.faults c.in-Ok-create.image.disk) c.in-Ok-create.image.parts (stacked told (g.S.Shelf.count c.args.shelf.now) layers c.in-Ok.ensures.count c.in-Ok.ensures.few c.in-Ok.ensures.told c.in-Ok.ensures.legal) (ap length same ∙ c.in-Ok.ensures.count) c.in-Ok-create.ensures.frame.0 size c.in-Ok-create.ensures.new
    (c.in-Ok-create.ensures.starts told (subst (λ (l : List LayerIndex). IfSome told (λ files. AreLayersOf files l)) (sym same) (told-layers-of told layers c.in-Ok.ensures.told)))

pub returns-in-Err-create-clause-refused : goal.returns-in-Err-create-clause-refused
returns-in-Err-create-clause-refused g c =
    let told = g.S.Shelf.files c.args.shelf.now in
    let layers : List LayerIndex = c.in-Ok.layers.items in
    let view : c.as_slice.result.now ≡ layers = c.as_slice.ensures.value in
    let before : DiskPort = record { tells = g.D.Disk.tells; state = g.D.Disk.state c.args.disk; faults = g.D.Disk.faults c.args.disk } in
    let now : DiskPort = record { tells = g.D.Disk.tells; state = g.D.Disk.state c.in-Err-create.disk; faults = g.D.Disk.faults c.in-Err-create.disk } in
    let size : IsSizeFor c.args.asked (g.S.Shelf.count c.args.shelf.now) (upper_sectors layers) c.in-Ok-size_over.sectors =
    sized-as c.args.asked (g.S.Shelf.count c.args.shelf.now) c.in-Ok-size_over.sectors c.as_slice.result.now layers view c.in-Ok.ensures.count c.in-Ok-size_over.ensures.asked in
    rw c.create_refusal.ensures (make-refused c.args.asked told (g.S.Shelf.count c.args.shelf.now) c.in-Ok-size_over.sectors (g.S.Shelf.faults c.args.shelf.now) (g.S.Shelf.faults c.read_lowers.new.shelf) before now layers
    c.in-Ok.ensures.count c.in-Ok.ensures.few c.in-Ok.ensures.told (subst (λ (l : List LayerIndex). AreLegal c.in-Ok-size_over.sectors l) view c.in-Ok-size_over.ensures.legal) size c.in-Err-create.fault
    c.in-Err-create.ensures.exists c.in-Err-create.ensures.cause.failed c.in-Err-create.ensures.untouched c.in-Err-create.ensures.unbegun c.in-Err-create.ensures.kept)

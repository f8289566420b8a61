use Rattle.std.proofs.Common.{◌≡◌, ℕ, ◌+◌, ◌-◌, ◌*◌, ◌<◌, List, [], ◌++◌, length, take, drop, refl, sym, ap, ◌∙◌, subst, arith}
use Rattle.std.specs.Prelude.{Option, Some, IfSome}
use Rattle.layer_shelf.specs.Shelves.{file_at}
use Rattle.image_core.specs.Numbers.{sealed_file}
use Rattle.image_core.specs.View.{sealed_read}
use Rattle.image_core.proofs.WholeReads.{files-read, sealed-at}
use Rattle.image_core.proofs.sources.ImageFilesLayerSource.read_sectors.Goals as goal

pub returns-in-Ok-read_at-clause-bytes : goal.returns-in-Ok-read_at-clause-bytes
returns-in-Ok-read_at-clause-bytes g c =
    let seen = (g.D.Disk.state c.args.self.now.disk.now).seen in
    files-read g.D.Disk.tells (g.S.Shelf.files c.args.self.now.shelf.now) (sealed_read seen c.args.self.now.count)
    (λ list. c.read_at.new.out ≡ take (length c.args.out.now) (drop (512 * c.args.place) (file_at list c.args.layer)))
    (λ told lowers is.
    let long : length lowers ≡ c.count-lowers.result = subst (λ (o : Option (List (List ℕ))). IfSome o (λ list. length list ≡ g.S.Shelf.count c.args.self.now.shelf.now)) is (g.met.S.Shelf.counted c.args.self.now.shelf.now) ∙ sym c.count-lowers.ensures in
    let file : seen c.sealed_number.result ≡ file_at (lowers ++ sealed_read seen c.args.self.now.count) c.args.layer =
    ap seen (c.sealed_number.ensures ∙ ap (λ (k : ℕ). sealed_file (c.args.layer - k)) (sym long))
    ∙ sym (sealed-at lowers seen c.args.self.now.count c.args.layer (omega (arith, long, c.if-layer-lowers.false)) (omega (arith, long, c.count-lowers.ensures, c.requires.layer))) in
    c.in-Ok-read_at.ensures.bytes told ∙ (λ i. take (c.read_at.auto.out i) (drop (512 * c.args.place) (file i))))

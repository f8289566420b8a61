use Rattle.std.proofs.Common.{◌≡◌, ℕ, List, slice_set, IfSome, arith}
use Rattle.layer_shelf.specs.Shelves.{file_at}
use Rattle.flat_image.specs.LayerFiles.{IsFramed}
use Rattle.sealed_layer.specs.declared.fault.LayerFault.TheVariants.{TrailerDiffers}
use Rattle.sealed_layer.specs.LayerFaults.{IsLayerFault}
use Rattle.sealed_layer.proofs.ReadLemmas.{framed, not_framed}
use Rattle.sealed_layer.proofs.Told.{IfSome-both}
use Rattle.sealed_layer.proofs.reading.read_head.Goals as goal

pub returns-then-not-is_trailer-clause-fault : goal.returns-then-not-is_trailer-clause-fault
returns-then-not-is_trailer-clause-fault g c =
    let front : List ℕ = c.read.new.out in let end : List ℕ = c.read-2.new.out in
    let differs : (end ≡ slice_set front 12 6 → ⊥) = λ same. grind (arith, c.is_trailer.ensures, c.if-not-is_trailer.true, same) in
    let it : IfSome (g.S.Shelf.files c.args.shelf.now) (λ files. IsLayerFault (file_at files c.args.k) TrailerDiffers) =
    IfSome-both (g.S.Shelf.files c.args.shelf.now) (g.S.Shelf.files c.read.new.self) c.read.ensures.same.files c.in_ok-read.ensures.bytes c.in_ok-read-2.ensures.bytes
    (λ files told front_is end_is.
    not_framed (file_at files c.args.k) front end c.in_ok-head.head c.args.len c.requires.long (c.requires.told files told) front_is c.in_ok-head.ensures.found.0 c.in_ok-head.ensures.found.1 end_is differs) in it

pub returns-clause-found : goal.returns-clause-found
returns-clause-found g c =
    let front : List ℕ = c.read.new.out in let end : List ℕ = c.read-2.new.out in
    let same : end ≡ slice_set front 12 6 = c.is_trailer.ensures.0 c.if-not-is_trailer.false in
    let it : IfSome (g.S.Shelf.files c.args.shelf.now) (λ files. IsFramed (file_at files c.args.k) c.in_ok-head.head) =
    IfSome-both (g.S.Shelf.files c.args.shelf.now) (g.S.Shelf.files c.read.new.self) c.read.ensures.same.files c.in_ok-read.ensures.bytes c.in_ok-read-2.ensures.bytes
    (λ files told front_is end_is.
    framed (file_at files c.args.k) front end c.in_ok-head.head c.args.len c.requires.long (c.requires.told files told) front_is c.in_ok-head.ensures.found.0 c.in_ok-head.ensures.found.1 end_is same) in it

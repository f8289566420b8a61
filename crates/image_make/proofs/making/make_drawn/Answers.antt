use Rattle.std.proofs.Common.{ℕ, List, [], refl, sym, subst}
use Rattle.sealed_layer.specs.Layers.{LayerIndex}
use Rattle.image_core.specs.Creating.{AreLegal, fresh_at}
use Rattle.image_core.specs.Seen.{Seen, StandsFor, seen}
use Rattle.image_core.specs.View.{AreLayersOf}
use Rattle.image_commands.specs.Images.{disk_port}
use Rattle.image_make.specs.Making.{new_image}
use Rattle.image_make.proofs.MadeLaws.{sectors-are}
use Rattle.image_make.proofs.ToldLaws.{create-stopped, make-done, make-stopped, none-legal}
use Rattle.image_make.proofs.making.make_drawn.Goals as goal

pub create-requires-clause-lowers : goal.create-requires-clause-lowers
create-requires-clause-lowers g c = subst (λ (l : List LayerIndex). AreLegal 4096 l) (sym c.no_lowers.ensures) none-legal

pub make_told-result-requires-clause-fresh : goal.make_told-result-requires-clause-fresh
make_told-result-requires-clause-fresh g c =
    let old : Seen = seen g.D.Disk c.in-Ok.image in
    subst (λ (n : ℕ). StandsFor old (fresh_at n [] old.faults) []) (sym sectors-are)
    (c.in-Ok.ensures.stands [] (subst (λ (l : List LayerIndex). AreLayersOf [] l) (sym c.no_lowers.ensures) tt))

pub returns-clause-done : goal.returns-clause-done
returns-clause-done g c =
    let old : Seen = seen g.D.Disk c.in-Ok.image in
    let new : Seen = seen g.D.Disk c.make_told-result.new.image in
    let fresh : StandsFor old (new_image old.faults) [] =
    subst (λ (n : ℕ). StandsFor old (fresh_at n [] old.faults) []) (sym sectors-are)
    (c.in-Ok.ensures.stands [] (subst (λ (l : List LayerIndex). AreLayersOf [] l) (sym c.no_lowers.ensures) tt)) in
    rw c.into_disk.ensures (make-done c.args.seed c.args.acts (g.B.Sink.written c.args.out.now) (g.B.Sink.written c.make_told-result.new.out) (disk_port g.D.Disk c.args.disk) old new
    c.in-Ok.ensures.new c.in-Ok.ensures.cause refl fresh c.make_told-result.result (λ tells. λ f. g.met.D.Disk.seen_may_stay c.make_told-result.new.image.disk f tells)
    c.make_told-result.ensures.adds c.make_told-result.ensures.told)

pub returns-clause-refused : goal.returns-clause-refused
returns-clause-refused g c =
    let old : Seen = seen g.D.Disk c.in-Ok.image in
    let new : Seen = seen g.D.Disk c.make_told-result.new.image in
    let fresh : StandsFor old (new_image old.faults) [] =
    subst (λ (n : ℕ). StandsFor old (fresh_at n [] old.faults) []) (sym sectors-are)
    (c.in-Ok.ensures.stands [] (subst (λ (l : List LayerIndex). AreLayersOf [] l) (sym c.no_lowers.ensures) tt)) in
    rw c.into_disk.ensures (make-stopped c.args.seed c.args.acts (g.B.Sink.written c.args.out.now) (g.B.Sink.written c.make_told-result.new.out) (disk_port g.D.Disk c.args.disk) old new
    c.in-Ok.ensures.new c.in-Ok.ensures.cause refl fresh c.make_told-result.result (g.B.Sink.faults c.args.out.now) (g.B.Sink.faults c.make_told-result.new.out) c.make_told-result.ensures.refused)

pub returns-in-Err-clause-refused : goal.returns-in-Err-clause-refused
returns-in-Err-clause-refused g c =
    rw c.create_refusal.ensures (create-stopped c.args.seed c.args.acts (g.B.Sink.faults c.args.out.now) (g.B.Sink.written c.args.out.now) (disk_port g.D.Disk c.args.disk) (disk_port g.D.Disk c.in-Err.disk) c.in-Err.fault
    c.in-Err.ensures.exists c.in-Err.ensures.cause.failed c.in-Err.ensures.untouched c.in-Err.ensures.unbegun c.in-Err.ensures.kept)

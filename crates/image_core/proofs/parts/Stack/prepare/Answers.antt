use Rattle.std.proofs.Common.{◌≡◌, ◌+◌, List, [], ◌∷◌, ◌++◌, length, sym, subst, ap, arith}
use Rattle.sealed_layer.specs.Layers.{LayerIndex}
use Rattle.image_core.specs.Pieces.{SnapshotView, IsSnapshotOf}
use Rattle.image_core.specs.Parts.{layer_in}
use Rattle.image_core.proofs.parts.Stack.prepare.Goals as goal

pub returns-clause-snapshot : goal.returns-clause-snapshot
returns-clause-snapshot c is =
    let lowers = c.args.self.now.lowers in
    let committed = c.args.self.now.committed.items in
    let layer : c.layer.result.now ≡ layer_in c.in_ok-sealing.sealing = λ i. record { head = c.layer.ensures.head i; rows = c.layer.ensures.rows i } in
    subst (λ (v : SnapshotView). IsSnapshotOf v lowers (committed ++ layer_in c.in_ok-sealing.sealing ∷ [])) (sym c.in_ok-snapshot-2.ensures.ok)
    (subst (λ (l : LayerIndex). IsSnapshotOf c.in_ok-snapshot.snapshot lowers (committed ++ l ∷ [])) layer
    (c.in_ok-snapshot.ensures lowers committed (subst (λ (v : SnapshotView). IsSnapshotOf v lowers committed) (sym c.deref.ensures) is)
    (omega (arith, ap length c.as_slice.ensures, c.len.ensures))))

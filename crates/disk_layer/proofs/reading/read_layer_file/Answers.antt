use Rattle.std.proofs.Common.{ℕ, List, IsTrue, subst}
use Rattle.std.specs.Prelude.{IfErr}
use Rattle.block_disk.proofs.Moments.{run_joined, quiet_call}
use Rattle.sealed_layer.specs.LayerFaults.{IsLayerFault}
use Rattle.disk_layer.proofs.reading.read_layer_file.Goals as goal

pub returns-in-Ok-clause-fault : goal.returns-in-Ok-clause-fault
returns-in-Ok-clause-fault g c =
    subst (λ (f : List ℕ). IfErr c.read_synced.result.1 (λ fault. IsTrue g.D.Disk.tells → IsLayerFault f fault)) c.sync.ensures.steps.seen c.read_synced.ensures.fault

pub returns-in-Ok-clause-quiet : goal.returns-in-Ok-clause-quiet
returns-in-Ok-clause-quiet g c =
    let old = g.D.Disk.state c.args.disk in
    let mid = g.D.Disk.state c.sync.new.self in
    run_joined (λ f. ⊥) old mid (g.D.Disk.state c.read_synced.result.0) (λ files. Unit {0})
    (quiet_call c.args.file old mid (g.met.D.Disk.now_at c.args.disk) c.sync.ensures.steps) c.read_synced.ensures.quiet

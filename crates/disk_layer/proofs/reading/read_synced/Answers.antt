use Rattle.std.proofs.Common.{subst}
use Rattle.std.specs.Prelude.{IfErr, IfSome}
use Rattle.layer_shelf.specs.Shelves.{file_at}
use Rattle.sealed_layer.specs.LayerFaults.{IsLayerFault}
use Rattle.disk_layer.specs.OneFile.{OneFile, told_file}
use Rattle.disk_layer.proofs.Telling.{err-told}
use Rattle.disk_layer.proofs.reading.read_synced.Goals as goal

pub returns-clause-fault : goal.returns-clause-fault
returns-clause-fault g c =
    let tells = g.D.Disk.tells in
    let result = c.read_layer-result.result in
    err-told result tells ((g.D.Disk.state c.args.disk).seen c.args.file) IsLayerFault
    (subst (λ (s : OneFile _). IfErr result (λ fault. IfSome (told_file tells ((g.D.Disk.state s.disk).seen s.file)) (λ files. IsLayerFault (file_at files 0) fault)))
    c.new-shelf.ensures c.read_layer-result.ensures.fault)

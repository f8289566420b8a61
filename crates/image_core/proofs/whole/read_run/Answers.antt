use Rattle.std.proofs.Common.{List, ℕ, ◌++◌, ◌-◌, ◌*◌, IfSome, arith}
use Rattle.std.proofs.lemmas.Option.{IfSome_then}
use Rattle.sealed_layer.proofs.Told.{IfSome-each}
use Rattle.merged_index.specs.Pieces.{end_of}
use Rattle.image_core.specs.Whole.{sectors_by, cells_on, IsFilled}
use Rattle.image_core.proofs.FilledSectors.{fills-none, piece-filled}
use Rattle.image_core.proofs.whole.read_run.Goals as goal

pub returns-then-count-eq0-clause-filled : goal.returns-then-count-eq0-clause-filled
returns-then-count-eq0-clause-filled g c =
    let run = c.args.run.now in
    IfSome-each (g.F.LayerSource.files c.args.source.now) (λ files told. fills-none (sectors_by files (cells_on run)) c.args.at run.extent.at (end_of run) c.args.out.now (omega (arith, c.if-count-eq0.true)))

pub returns-clause-filled : goal.returns-clause-filled
returns-clause-filled g c =
    let run = c.args.run.now in
    let front : List ℕ = c.split_at_mut-rest.result.0.now in
    let rest : List ℕ = c.split_at_mut-rest.result.1.now in
    let piece : List ℕ = c.fill.new.piece in
    let back : List ℕ = c.split_at_mut-piece.result.1.now in
    let it : IfSome (g.F.LayerSource.files c.args.source.now) (λ files. IsFilled (sectors_by files (cells_on run)) c.args.at run.extent.at (end_of run) c.args.out.now (front ++ (piece ++ back))) =
    IfSome_then (g.F.LayerSource.files c.args.source.now) (c.in_ok-fill.ensures.filled)
    (λ files is. piece-filled files run.what c.args.at run.extent.at run.extent.count ((run.extent.at - c.args.at) * 512) (run.extent.count * 512) c.args.out.now front rest piece back
    c.requires.there.from (omega arith) (omega arith) c.split_at_mut-rest.ensures.front c.split_at_mut-rest.ensures.back c.split_at_mut-piece.ensures.back
    c.requires.there.to (omega arith) is) in it

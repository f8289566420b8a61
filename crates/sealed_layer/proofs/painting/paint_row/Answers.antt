use Rattle.std.proofs.Common.{ℕ, List, [], ◌∷◌, ◌++◌, IfSome, arith}
use Rattle.std.proofs.lemmas.Option.{IfSome_then}
use Rattle.layer_shelf.specs.Shelves.{file_at}
use Rattle.sealed_layer.specs.Painting.{Paints}
use Rattle.sealed_layer.proofs.PaintLemmas.{row_beside, row_within}
use Rattle.sealed_layer.proofs.Told.{IfSome-each}
use Rattle.sealed_layer.proofs.painting.paint_row.Goals as goal

pub returns-then-from-end-clause-painted : goal.returns-then-from-end-clause-painted
returns-then-from-end-clause-painted g c = IfSome-each (g.S.Shelf.files c.args.shelf.now)
    (λ files told. row_beside (file_at files c.args.k) c.args.row.now c.args.at c.args.out.now c.requires.whole (omega arith))

pub returns-clause-painted : goal.returns-clause-painted
returns-clause-painted g c =
    let front : List ℕ = c.split_at_mut-rest.result.0.now in
    let rest : List ℕ = c.split_at_mut-rest.result.1.now in
    let piece : List ℕ = c.fill_piece.new.piece in
    let back : List ℕ = c.split_at_mut-piece.result.1.now in
    let it : IfSome (g.S.Shelf.files c.args.shelf.now) (λ files. Paints (file_at files c.args.k) (c.args.row.now ∷ []) c.args.at c.args.out.now (front ++ (piece ++ back))) =
    IfSome_then (g.S.Shelf.files c.args.shelf.now) (c.in_ok-fill_piece.ensures.filled)
    (λ files is. row_within (file_at files c.args.k) c.args.row.now c.args.at c.max-from.result c.min-end.result c.args.out.now front rest piece back
    c.requires.whole c.max-from.ensures c.min-end.ensures c.if-from-end.false c.split_at_mut-rest.ensures.front c.split_at_mut-rest.ensures.back c.split_at_mut-piece.ensures.back is (omega arith)) in it

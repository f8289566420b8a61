use Rattle.std.proofs.Common.{◌≡◌, ℕ, ◌⊎◌, sym, subst}
use Rattle.seg_table.specs.Cells.{IsEdge}
use Rattle.seg_table.proofs.plain_search.next_in.Goals as goal

pub returns-in-Some-clause-unparted : goal.returns-in-Some-clause-unparted
returns-in-Some-clause-unparted g c =
    let P : ℕ → Type 0 = λ q. (q ≡ c.args.end) ⊎ IsEdge c.args.puts.now q in
    subst P (sym c.piece.ensures.end) c.run_from-run.ensures.edge

use Rattle.std.proofs.Common.{◌+◌, ◌∷◌, ◌++◌, take, drop, ap, ◌∙◌, arith}
use Rattle.seg_table.proofs.LeafLaws.{set-parts}
use Rattle.seg_table.proofs.change.exchange.Goals as goal

pub returns-clause-leaves : goal.returns-clause-leaves
returns-clause-leaves c =
    let ls = c.args.leaves.now.items in
    let n = c.args.number in
    set-parts ls n c.swap.new.x (omega (arith, c.requires.number, c.args.leaves.now.ok.0)) ∙ ap (λ x. take n ls ++ x ∷ drop (n + 1) ls) c.swap.ensures.x_after

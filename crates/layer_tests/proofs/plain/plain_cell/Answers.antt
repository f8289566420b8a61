use Rattle.std.proofs.Common.{◌≡◌, ◌-◌, ◌^◌, take, sym, ap, ◌∙◌, arith}
use Rattle.merged_index.specs.Cells.{cell_in, numbered, painted_what, what_of}
use Rattle.merged_index.specs.declared.piece.PieceWhat.TheVariants.{Hole}
use Rattle.merged_index.proofs.PlainLaws.{rows_in_any, cell_more, hides}
use Rattle.layer_tests.proofs.plain.plain_cell.Goals as goal

pub said_in-what-requires : goal.said_in-what-requires
said_in-what-requires c =
    let head = c.index-layers-number.result.head in
    let is = c.rows.ensures.sound in
    record { sound = rows_in_any head.sectors (2 ^ 31) head.index_at (2 ^ 50) 0 c.rows.result.now is.sound (omega (arith, is.valid)) (omega (arith, is.index_at)) }

pub loop-number-preserved : goal.loop-number-preserved
loop-number-preserved c =
    let layers = c.args.layers.now in
    let s = c.args.sector in
    let n = c.loop-number.number in
    let layer = c.index-layers-number.result in
    let hole : what_of (n - 1) layer.rows s ≡ Hole = ap (λ rs. what_of (n - 1) rs s) (sym c.rows.ensures.value) ∙ sym c.said_in-what.ensures ∙ c.in-Hole.is in
    c.loop-number.invariant ∙ cell_more layers (n - 1) n layer s (omega arith) (omega arith) (sym c.index-layers-number.is)
    ∙ ap (painted_what (cell_in (numbered 0 (take (n - 1) layers)) s)) hole

pub returns-in_default : goal.returns-in_default
returns-in_default c =
    let layers = c.args.layers.now in
    let s = c.args.sector in
    let n = c.loop-number.number in
    let layer = c.index-layers-number.result in
    let old = cell_in (numbered 0 (take (n - 1) layers)) s in
    let says : what_of (n - 1) layer.rows s ≡ c.said_in-what.result = ap (λ rs. what_of (n - 1) rs s) (sym c.rows.ensures.value) ∙ sym c.said_in-what.ensures in
    sym (c.loop-number.invariant ∙ cell_more layers (n - 1) n layer s (omega arith) (omega arith) (sym c.index-layers-number.is)
    ∙ ap (painted_what old) says ∙ hides old c.said_in-what.result c.in_default.not-Hole)

use Rattle.std.proofs.Common.{◌≡◌, sym, ap, subst, ◌∙◌}
use Rattle.lsmt_header.specs.declared.head.Head.{Head}
use Rattle.flat_image.specs.LayerFiles.{LayerOf}
use Rattle.layer_commit.specs.Fitting.{IsSound}
use Rattle.layer_commit.specs.View.{SealView, file_by}
use Rattle.layer_commit.proofs.FileLaws.{layer_of}
use Rattle.layer_commit.proofs.sealing.Sealing.into_layer.Goals as goal

pub returns-clause-of_file : goal.returns-clause-of_file
returns-clause-of_file c = λ stored within.
    let v : SealView = c.args.self in
    let sound : IsSound v = subst IsSound c.self.view_is c.self.invariant in
    let head : v.head ≡ c.into_layer.result.head = ap (λ (u : SealView). u.head) (sym c.self.view_is) ∙ sym c.into_layer.ensures.head in
    let rows : v.rows ≡ c.into_layer.result.rows = ap (λ (u : SealView). u.rows) (sym c.self.view_is) ∙ sym c.into_layer.ensures.rows in
    subst (λ (h : Head). LayerOf (file_by v stored) h c.into_layer.result.rows) head (subst (LayerOf (file_by v stored) v.head) rows (layer_of v stored sound within))

use Rattle.std.proofs.Common.{◌≡◌, ℕ, ◌-◌, ◌*◌, List, take, subst, ap, ◌∙◌, arith}
use Rattle.std.specs.Prelude.{replicate}
use Rattle.std.proofs.lemmas.List.{take-replicate}
use Rattle.flat_image.specs.CanonicalFiles.{padding_after}
use Rattle.flat_image.specs.LayerFiles.{whole_blocks}
use Rattle.layer_commit.specs.Laying.{Lays}
use Rattle.layer_commit.proofs.laying.lay_padding.Goals as goal

pub returns : goal.returns
returns c =
    let size : ℕ = whole_blocks c.args.at - c.args.at in
    let same : c.split_at.result.0.now ≡ padding_after c.args.at =
    c.split_at.ensures.front ∙ ap (λ (k : ℕ). take k (replicate 4096 0)) (let e : c.div_ceil.result * 4096 - c.args.at ≡ size = omega (arith, c.div_ceil.ensures) in e) ∙ take-replicate size 4096 0 (omega arith) in
    subst (λ (bytes : List ℕ). Lays c.args.from c.args.at bytes c.args.out.now c.lay.new.out) same c.lay.ensures

use Rattle.std.proofs.Common.{ℕ, replicate, ap, ◌∙◌}
use Rattle.image_make.proofs.acting.fill_sectors.Goals as goal

pub returns : goal.returns
returns c = c.fill_piece.ensures ∙ ap (λ (n : ℕ). replicate n c.args.byte) c.requires

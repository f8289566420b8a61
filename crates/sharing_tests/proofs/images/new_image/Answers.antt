use Rattle.std.proofs.Common.{ℕ, [], sym, subst}
use Rattle.image_core.specs.View.{AreLayersOf}
use Rattle.image_core.specs.Creating.{fresh_at}
use Rattle.image_core.specs.Seen.{seen, faults_in, StandsFor}
use Rattle.sharing_tests.proofs.images.new_image.Goals as goal

pub returns-in-Ok-clause-stands : goal.returns-in-Ok-clause-stands
returns-in-Ok-clause-stands g c =
    subst (λ (n : ℕ). StandsFor (seen g.D.Disk c.in-Ok.image) (fresh_at n [] (faults_in g.D.Disk c.in-Ok.image)) []) (sym c.in-Ok.ensures.frame.2)
    (c.in-Ok.ensures.stands [] (subst (AreLayersOf []) (sym c.none.ensures) tt))

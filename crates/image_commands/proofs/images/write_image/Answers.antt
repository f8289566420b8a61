use Rattle.std.proofs.Common.{◌≡◌, List, ℕ, refl, sym, subst}
use Rattle.sector_extent.specs.CauseLaws.{calm_value}
use Rattle.layer_commands.specs.declared.refusal.Refusal.TheVariants as refused
use Rattle.layer_commands.proofs.Charged.{stays}
use Rattle.image_commands.proofs.Answered.{unfed}
use Rattle.std.specs.Prelude.{IfSome}
use Rattle.image_commands.proofs.images.write_image.Goals as goal

pub returns-in-Ok-clause-done : goal.returns-in-Ok-clause-done
returns-in-Ok-clause-done g c =
    c.write_bytes.ensures.done (g.A.Source.left c.args.source.now) (g.A.Source.left c.read_sectors.new.source) (g.A.Source.faults c.args.source.now) (g.A.Source.faults c.read_sectors.new.source)
    (subst (λ (l : List ℕ). IfSome (g.A.Source.left c.args.source.now) (λ all. l ≡ all)) (sym c.as_slice.ensures.value) c.in-Ok.ensures.whole) c.in-Ok.ensures.taken

pub returns-in-Ok-clause-refused : goal.returns-in-Ok-clause-refused
returns-in-Ok-clause-refused g c =
    c.write_bytes.ensures.refused (g.A.Source.left c.args.source.now) (g.A.Source.left c.read_sectors.new.source) (g.A.Source.faults c.args.source.now) (g.A.Source.faults c.read_sectors.new.source)
    (subst (λ (l : List ℕ). IfSome (g.A.Source.left c.args.source.now) (λ all. l ≡ all)) (sym c.as_slice.ensures.value) c.in-Ok.ensures.whole) c.in-Ok.ensures.taken

pub returns-in-Ok-clause-source_cause : goal.returns-in-Ok-clause-source_cause
returns-in-Ok-clause-source_cause g c =
    stays g.A.Source.faults c.args.source.now c.read_sectors.new.source _
    (calm_value g.A.Source.faults c.args.source.now c.read_sectors.new.source c.in-Ok.bytes refused.SourceFault c.in-Ok.ensures.cause)
    (unfed _ _ _ _ _ c.write_bytes.result.0 refl (c.write_bytes.ensures.refused (g.A.Source.left c.args.source.now) (g.A.Source.left c.read_sectors.new.source) 0 0
    (subst (λ (l : List ℕ). IfSome (g.A.Source.left c.args.source.now) (λ all. l ≡ all)) (sym c.as_slice.ensures.value) c.in-Ok.ensures.whole) c.in-Ok.ensures.taken))

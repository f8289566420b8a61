-- Reads of layers, one after another.
use Rattle.std.proofs.Common.{ℕ, ◌<◌, refl, subst, ◌∙◌, inl, inr, [], ◌∷◌}
use Rattle.flat_image.specs.declared.act.Act.TheVariants.{Fault}
use Rattle.flat_image.specs.declared.act.Asked.TheVariants.{Nothing}
use Rattle.flat_image.specs.declared.port_fault.PortFault.{PortFault}
use Rattle.flat_image.specs.declared.port_fault.PortFault.TheVariants.{Worn, Full, Memory, Failed}
use Rattle.flat_image.specs.Ports.{PortState}
use Rattle.flat_image.proofs.PortLaws.{Notes-none, Notes-trans}
use Rattle.image_read.specs.Reading.{ReadsOn, FailsOn}

-- no read
pub reads-none : (p : PortState) → ReadsOn p p
reads-none p = record { notes = Notes-none p; calm = refl }

-- one behind another
pub reads-joined : (p q r : PortState) → ReadsOn p q → ReadsOn q r → ReadsOn p r
reads-joined p q r one two = record { notes = Notes-trans p q r [] [] one.notes two.notes; calm = two.calm ∙ one.calm }

-- and one that fails behind others
pub reads-failed : (p q r : PortState) (fault : PortFault) → ReadsOn p q → FailsOn q r fault → FailsOn p r fault
reads-failed p q r Worn one behind = (behind.0, reads-joined p q r one behind.1)
reads-failed p q r (Full rows sectors) one behind = behind
reads-failed p q r Memory one behind = behind
reads-failed p q r Failed one behind = (
  subst (λ (n : ℕ). n < r.faults) one.calm behind.0,
  elim behind.1 [
    | inl none ↦ inl (Notes-trans p q r [] [] one.notes none)
    | inr fault ↦ inr (Notes-trans p q r [] (Fault Nothing ∷ []) one.notes fault)
  ],
)

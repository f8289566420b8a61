-- A mark with an attempted body.
use Rattle.std.proofs.Common.{◌≡◌, List, ℕ, sym, ◌∙◌, inl, inr}
use Rattle.std.specs.Prelude.{Bool, IsTrue, ◌↔◌}
use Rattle.gate_mark.specs.declared.mark.Mark.{Mark}
use Rattle.gate_mark.specs.declared.mark.Rest.TheVariants.{Attempted}
use Rattle.gate_mark.specs.Mark.{IsSettled}

same_attempt : (a b : List ℕ) → Attempted a ≡ Attempted b → a ≡ b
same_attempt a b e = cc

-- it is settled just where that is the body that it holds
pub settled_by : (mark : Mark) (attempt : List ℕ) (same : Bool) → mark.rest ≡ Attempted attempt
    → (IsTrue same ↔ (attempt ≡ mark.body)) → IsTrue same ↔ IsSettled mark
settled_by mark attempt same is tells = (
  λ yes body may_hold. elim may_hold [ inl e ↦ e | inr e ↦ same_attempt body attempt (sym e ∙ is) ∙ tells.0 yes ],
  λ settled. tells.1 (settled attempt (inr is)),
)

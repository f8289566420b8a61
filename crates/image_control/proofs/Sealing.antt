-- A commit that is in progress no longer was sealed.
use Rattle.std.proofs.Common.{◌≡◌, ℕ, List, [], ◌∷◌, ◌++◌, Option, Some, None, sym, ap, ◌∙◌}
use Rattle.flat_image.specs.declared.act.Act.{Act}
use Rattle.flat_image.specs.declared.act.Act.TheVariants.{Read, Write, Zero, Flush, Freeze, Seal, Grow, Fault}
use Rattle.flat_image.specs.declared.base.Base.{Base}
use Rattle.flat_image.specs.Base.{pending_of}
use Rattle.flat_image.specs.Entries.{entry}
use Rattle.flat_image.specs.Frozen.{Frozen}
use Rattle.flat_image.specs.History.{History, now, step, Proper}

-- a seal of that uuid stands in the history
pub record HasSeal (uuid : List ℕ) (history : History) : Type 0 where
  pub before : History
  pub number : ℕ
  pub behind : History
  pub is : history ≡ before ++ entry number (Seal uuid) ∷ behind

abbrev Ended : Base → List ℕ → History → Type 0
Ended b uuid more = pending_of b.frozen ≡ Some uuid → (pending_of (now b more).frozen ≡ Some uuid → ⊥) → Proper b more → HasSeal uuid more

behind-entry : (uuid : List ℕ) (number : ℕ) (act : Act) (more : History) → HasSeal uuid more → HasSeal uuid (entry number act ∷ more)
behind-entry uuid number act more h = record {
  before = entry number act ∷ h.before;
  number = h.number;
  behind = h.behind;
  is = ap (λ (l : History). entry number act ∷ l) h.is;
}

-- no commit is in progress where none is frozen
none-frozen : (frozen : Option Frozen) (uuid : List ℕ) → frozen ≡ None → pending_of frozen ≡ Some uuid → ⊥
none-frozen frozen uuid free is =
    let none : None ≡ Some uuid = sym (ap pending_of free) ∙ is in cc

same-uuid : (x : Option (List ℕ)) (v uuid : List ℕ) → x ≡ Some v → x ≡ Some uuid → v ≡ uuid
same-uuid x v uuid a b = let same : Some v ≡ Some uuid = sym a ∙ b in cc

ended-step : (b : Base) (uuid : List ℕ) (number : ℕ) (act : Act) (more : History) → ((c : Base) → Ended c uuid more) → Ended b uuid (entry number act ∷ more)
ended-step b uuid number (Read at count) more rest is not proper = behind-entry uuid number (Read at count) more (rest b is not proper.2)
ended-step b uuid number (Write at bytes) more rest is not proper = behind-entry uuid number (Write at bytes) more (rest (step b (Write at bytes)) is not proper.2)
ended-step b uuid number (Zero at count) more rest is not proper = behind-entry uuid number (Zero at count) more (rest (step b (Zero at count)) is not proper.2)
ended-step b uuid number Flush more rest is not proper = behind-entry uuid number Flush more (rest b is not proper.2)
ended-step b uuid number (Freeze other) more rest is not proper = absurd (none-frozen b.frozen uuid proper.1.free is)
ended-step b uuid number (Seal other) more rest is not proper = record {
  before = [];
  number = number;
  behind = more;
  is = ap (λ (u : List ℕ). entry number (Seal u) ∷ more) (same-uuid (pending_of b.frozen) other uuid proper.1 is);
}
ended-step b uuid number (Grow sectors) more rest is not proper = absurd (none-frozen b.frozen uuid proper.1.free is)
ended-step b uuid number (Fault asked) more rest is not proper = behind-entry uuid number (Fault asked) more (rest b is not proper.2)

pub sealed-since : (uuid : List ℕ) (more : History) (b : Base) → Ended b uuid more
sealed-since uuid [] b is not proper = absurd (not is)
sealed-since uuid (e ∷ more) b is not proper = ended-step b uuid e.number e.act more (λ c. sealed-since uuid more c) is not proper

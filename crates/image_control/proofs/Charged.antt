-- A commit's count of faults rises just where it failed.
use Rattle.std.proofs.Common.{◌≡◌, ℕ, Bool, List, [], ◌∷◌, inl, inr, refl, arith}
use Rattle.sector_extent.specs.Causes.{Charges}
use Rattle.flat_image.specs.declared.act.Act.{Act}
use Rattle.flat_image.specs.declared.act.Act.TheVariants.{Freeze, Seal}
use Rattle.flat_image.specs.declared.base.Base.{Base}
use Rattle.flat_image.specs.Ports.{PortState, Notes, fault_count}
use Rattle.turn_lock.specs.Locks.{Lock, Place}
use Rattle.shared_image.specs.Turns.{seat_port}
use Rattle.shared_image.proofs.Charged.{counts}
use Rattle.control_session.specs.declared.answer.CommitAnswer.{CommitAnswer}
use Rattle.control_session.specs.declared.answer.CommitAnswer.TheVariants as commit
use Rattle.control_session.specs.ControlTable.{CommitFits}

module _ (tells : Bool) (lock : Lock Base) (shelf : ℕ) (old new : Place Act) where
  abbrev P : Place Act → PortState
  P seat = seat_port tells lock seat shelf

  stays : (fault : Type 0) → (P new).faults ≡ (P old).faults → (fault → ⊥) → Charges fault_count (P old) (P new) fault
  stays fault same never = record { later = omega (arith, same); failed = λ is. absurd (never is); only = λ more. absurd (omega (arith, same, more)) }

  none : Notes (P old) (P new) [] → (P new).faults ≡ (P old).faults
  none n = let c = counts tells lock shelf old new [] n in omega (arith, c)

  froze : (uuid : List ℕ) → Notes (P old) (P new) (Freeze uuid ∷ []) → (P new).faults ≡ (P old).faults
  froze uuid n = let c = counts tells lock shelf old new (Freeze uuid ∷ []) n in omega (arith, c)

  sealed : (uuid : List ℕ) → Notes (P old) (P new) (Seal uuid ∷ []) → (P new).faults ≡ (P old).faults
  sealed uuid n = let c = counts tells lock shelf old new (Seal uuid ∷ []) n in omega (arith, c)

  both : (uuid : List ℕ) → Notes (P old) (P new) (Freeze uuid ∷ Seal uuid ∷ []) → (P new).faults ≡ (P old).faults
  both uuid n = let c = counts tells lock shelf old new (Freeze uuid ∷ Seal uuid ∷ []) n in omega (arith, c)

  pub commit-charges : (uuid : List ℕ) (answer : CommitAnswer) → CommitFits (P old) (P new) uuid answer → Charges fault_count (P old) (P new) (answer ≡ commit.Failed)
  commit-charges uuid commit.Done h = stays _ (elim h.1 [
    | inl n ↦ both uuid n
    | inr more ↦ elim more [ inl n ↦ sealed uuid n | inr fewer ↦ elim fewer [ inl n ↦ froze uuid n | inr n ↦ none n ] ]
  ]) (λ e. cc e)
  commit-charges uuid (commit.Busy other) h = stays _ (none h.0) (λ e. cc e)
  commit-charges uuid commit.TooMany h = stays _ (none h.0) (λ e. cc e)
  commit-charges uuid commit.UuidTwice h = stays _ (none h.0) (λ e. cc e)
  commit-charges uuid commit.Failed h = let rose = h.0 in record { later = omega (arith, rose); failed = λ is. rose; only = λ more. refl }
  commit-charges uuid commit.Worn h = stays _ (elim h.1 [ inl n ↦ none n | inr n ↦ froze uuid n ]) (λ e. cc e)
  commit-charges uuid commit.Memory h = stays _ (none h.1) (λ e. cc e)

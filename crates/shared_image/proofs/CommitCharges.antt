-- A seat's count of faults rises just where a step of a commit failed.
use Rattle.std.proofs.Common.{◌≡◌, ℕ, ◌+◌, ◌<◌, Bool, false, List, [], ◌∷◌, Result, Ok, Err, MatchResult, IsErrOf, refl, arith}
use Rattle.sector_extent.specs.Causes.{Charges}
use Rattle.flat_image.specs.declared.act.Act.{Act}
use Rattle.flat_image.specs.declared.act.Act.TheVariants.{Freeze, Seal}
use Rattle.flat_image.specs.declared.base.Base.{Base}
use Rattle.flat_image.specs.declared.port_fault.PortFault.{PortFault}
use Rattle.flat_image.specs.declared.port_fault.PortFault.TheVariants as port
use Rattle.flat_image.specs.Ports.{PortState, fault_count, ChargesPort}
use Rattle.turn_lock.specs.Locks.{Lock, Place}
use Rattle.shared_image.specs.declared.faults.SharedFreezeFault.{SharedFreezeFault}
use Rattle.shared_image.specs.declared.faults.SharedFreezeFault.TheVariants as freeze
use Rattle.shared_image.specs.declared.faults.SharedCopyFault.{SharedCopyFault}
use Rattle.shared_image.specs.declared.faults.SharedCopyFault.TheVariants as copy
use Rattle.shared_image.specs.declared.faults.SharedSealFault.{SharedSealFault}
use Rattle.shared_image.specs.declared.faults.SharedSealFault.TheVariants as seal
use Rattle.shared_image.specs.Turns.{seat_port}
use Rattle.shared_image.specs.Commits.{NotesNone, NotesAllowed, FreezeFails, Copies, CopyFails, Seals, SealFails, PeekFails}
use Rattle.shared_image.proofs.Charged.{same_none, same_by}

module _ (tells : Bool) (lock : Lock Base) (shelf : ℕ) (old new : Place Act) where
  abbrev P : Place Act → PortState
  P seat = seat_port tells lock seat shelf

  stays : (fault : Type 0) → (P new).faults ≡ (P old).faults → (fault → ⊥) → Charges fault_count (P old) (P new) fault
  stays fault same never = record { later = omega (arith, same); failed = λ is. absurd (never is); only = λ more. absurd (omega (arith, same, more)) }

  rises : (fault : Type 0) → (P old).faults < (P new).faults → fault → Charges fault_count (P old) (P new) fault
  rises fault more is = record { later = omega (arith, more); failed = λ _. more; only = λ _. is }

  abbrev Freezing : {T : Type 0} → Result T SharedFreezeFault → Type 0
  Freezing r = Charges fault_count (P old) (P new) (IsErrOf r freeze.Failed)

  pub freeze-charges : {T : Type 0} (r : Result T SharedFreezeFault) (uuid : List ℕ)
      → MatchResult r (λ _. NotesAllowed (P old) (P new) (Freeze uuid) (Freeze uuid)) (FreezeFails (P old) (P new) uuid) → Freezing r
  freeze-charges (Ok x) uuid h = stays _ (same_by tells lock shelf old new (Freeze uuid) refl h.notes) (λ e. cc e)
  freeze-charges (Err freeze.Worn) uuid h = stays _ (same_none tells lock shelf old new h.1) (λ e. cc e)
  freeze-charges (Err (freeze.Busy other)) uuid h = stays _ (same_none tells lock shelf old new h.0.1) (λ e. cc e)
  freeze-charges (Err freeze.TooMany) uuid h = stays _ (same_none tells lock shelf old new h.0.1) (λ e. cc e)
  freeze-charges (Err freeze.UuidTwice) uuid h = stays _ (same_none tells lock shelf old new h.0.1) (λ e. cc e)
  freeze-charges (Err freeze.Memory) uuid h = stays _ (same_none tells lock shelf old new h.0.1) (λ e. cc e)
  freeze-charges (Err freeze.Failed) uuid h = rises _ h.0 refl

  abbrev Copying : {T : Type 0} → Result T SharedCopyFault → Type 0
  Copying r = Charges fault_count (P old) (P new) (IsErrOf r copy.Failed)

  pub copy-charges : {T : Type 0} (r : Result T SharedCopyFault) (uuid : List ℕ)
      → MatchResult r (λ _. Copies (P old) (P new) uuid) (CopyFails (P old) (P new) uuid) → Copying r
  copy-charges (Ok x) uuid h = stays _ (same_none tells lock shelf old new h.0.1) (λ e. cc e)
  copy-charges (Err copy.Worn) uuid h = stays _ (same_none tells lock shelf old new h.1) (λ e. cc e)
  copy-charges (Err (copy.NotPending other)) uuid h = stays _ (same_none tells lock shelf old new h.0.1) (λ e. cc e)
  copy-charges (Err copy.Failed) uuid h = rises _ h.0 refl

  abbrev Sealing : Result ℕ SharedSealFault → Type 0
  Sealing r = Charges fault_count (P old) (P new) (IsErrOf r seal.Failed)

  pub seal-charges : (r : Result ℕ SharedSealFault) (uuid : List ℕ)
      → MatchResult r (Seals (P old) (P new) uuid) (SealFails (P old) (P new) uuid) → Sealing r
  seal-charges (Ok x) uuid h = stays _ (same_by tells lock shelf old new (Seal uuid) refl h.sealed.notes) (λ e. cc e)
  seal-charges (Err seal.Worn) uuid h = stays _ (same_none tells lock shelf old new h.1) (λ e. cc e)
  seal-charges (Err (seal.NotPending other)) uuid h = stays _ (same_none tells lock shelf old new h.0.1) (λ e. cc e)
  seal-charges (Err (seal.NotWhole done total)) uuid h = stays _ (same_none tells lock shelf old new h.0.1) (λ e. cc e)
  seal-charges (Err seal.Failed) uuid h = rises _ h.0 refl

  pub peek-charges : {T : Type 0} (r : Result T PortFault) → MatchResult r (λ _. NotesNone (P old) (P new)) (PeekFails (P old) (P new)) → ChargesPort (P old) (P new) r
  peek-charges (Ok x) h = stays _ (same_none tells lock shelf old new h.1) (λ e. cc e)
  peek-charges (Err port.Worn) h = stays _ (same_none tells lock shelf old new h.1) (λ e. cc e)
  peek-charges (Err (port.Full rows sectors)) h = absurd h
  peek-charges (Err port.Memory) h = absurd h
  peek-charges (Err port.Failed) h = rises _ h.0 refl

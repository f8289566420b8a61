-- A seat's count of faults rises just where a call of it failed.
use Rattle.std.proofs.Common.{◌≡◌, ℕ, cond, ◌+◌, ◌<◌, Bool, false, List, [], ◌∷◌, ◌++◌, map, Result, Ok, Err, MatchResult, IsErrOf, refl, ap, ◌∙◌, arith}
use Rattle.sector_extent.specs.declared.extent.Extent.{Extent}
use Rattle.flat_image.specs.declared.act.Act.{Act}
use Rattle.flat_image.specs.declared.act.Act.TheVariants.{Read, Flush}
use Rattle.flat_image.specs.declared.base.Base.{Base}
use Rattle.flat_image.specs.declared.port_fault.PortFault.{PortFault}
use Rattle.flat_image.specs.declared.port_fault.PortFault.TheVariants.{Worn, Full, Memory, Failed}
use Rattle.flat_image.specs.Entries.{entry, calls_by}
use Rattle.flat_image.specs.History.{History, fault_count, is_fault}
use Rattle.flat_image.specs.Ports.{PortState, Notes, ChargesPort, Makes, ChangeFails, Flushes, FlushFails}
use Rattle.flat_image.proofs.Entries.{calls_by-append}
use Rattle.flat_image.proofs.HistoryLaws.{fault_count-append}
use Rattle.image_core.specs.Pieces.{SnapshotView}
use Rattle.turn_lock.specs.Locks.{Lock, Place}
use Rattle.shared_image.specs.Turns.{seat_port, Plans, PlanFails}

-- an act that is no fault counts none
none-counted : (number : ℕ) (act : Act) → is_fault act ≡ false → fault_count (entry number act ∷ []) ≡ 0
none-counted number act other = ap (λ (b : Bool). 0 + cond {A = ℕ} b 1 0) other

module _ (tells : Bool) (lock : Lock Base) (shelf : ℕ) (old new : Place Act) where
  abbrev P : Place Act → PortState
  P seat = seat_port tells lock seat shelf

  -- the faults that a port of the seat with that seen counts
  abbrev counted : PortState → ℕ
  counted p = fault_count (calls_by p.number p.seen) + shelf

  -- what it noted is what its count rose by
  pub counts : (acts : List Act) → Notes (P old) (P new) acts → (P new).faults ≡ (P old).faults + fault_count (map (entry old.number) acts)
  counts acts n =
      let own : calls_by old.number (old.seen ++ n.more) ≡ calls_by old.number old.seen ++ map (entry old.number) acts =
      calls_by-append old.number old.seen n.more ∙ ap (λ (l : History). calls_by old.number old.seen ++ l) n.own in
      let seen : fault_count (calls_by new.number new.seen) ≡ fault_count (calls_by old.number (old.seen ++ n.more)) = ap (λ p. fault_count (calls_by p.number p.seen)) n.is in
      let joined = ap (λ (l : History). fault_count l) own ∙ fault_count-append (calls_by old.number old.seen) (map (entry old.number) acts) in
      omega (arith, seen, joined)

  stays : {T : Type 0} (r : Result T PortFault) → (P new).faults ≡ (P old).faults → (IsErrOf r Failed → ⊥) → ChargesPort (P old) (P new) r
  stays r same never = record { later = omega (arith, same); failed = λ is. absurd (never is); only = λ more. absurd (omega (arith, same, more)) }

  rises : {T : Type 0} (r : Result T PortFault) → (P old).faults < (P new).faults → IsErrOf r Failed → ChargesPort (P old) (P new) r
  rises r more is = record { later = omega (arith, more); failed = λ _. more; only = λ _. is }

  -- an act that is no fault, and nothing, raise no count
  pub same_by : (act : Act) → is_fault act ≡ false → Notes (P old) (P new) (act ∷ []) → (P new).faults ≡ (P old).faults
  same_by act other n =
      let one = counts (act ∷ []) n in
      let zero_more : fault_count (entry old.number act ∷ []) ≡ 0 = none-counted old.number act other in
      omega (arith, one, zero_more)

  pub same_none : Notes (P old) (P new) [] → (P new).faults ≡ (P old).faults
  same_none n = let none = counts [] n in omega (arith, none)

  pub change-charges : {T : Type 0} (r : Result T PortFault) (act : Act) → is_fault act ≡ false
      → MatchResult r (λ _. Makes (P old) (P new) act) (ChangeFails (P old) (P new) act) → ChargesPort (P old) (P new) r
  change-charges (Ok x) act other h = stays (Ok x) (same_by act other h.notes) (λ e. cc e)
  change-charges (Err Worn) act other h = stays (Err Worn) (same_none h.1) (λ e. cc e)
  change-charges (Err (Full rows sectors)) act other h = stays (Err (Full rows sectors)) (same_none h.2) (λ e. cc e)
  change-charges (Err Memory) act other h = stays (Err Memory) (same_none h.2) (λ e. cc e)
  change-charges (Err Failed) act other h = rises (Err Failed) h.0 refl

  pub flush-charges : {T : Type 0} (r : Result T PortFault) → MatchResult r (λ _. Flushes (P old) (P new)) (FlushFails false (P old) (P new)) → ChargesPort (P old) (P new) r
  flush-charges (Ok x) h = stays (Ok x) (same_by Flush refl h.notes) (λ e. cc e)
  flush-charges (Err Worn) h = stays (Err Worn) (same_none h.1) (λ e. cc e)
  flush-charges (Err (Full rows sectors)) h = absurd h
  flush-charges (Err Memory) h = stays (Err Memory) (same_none h.2) (λ e. cc)
  flush-charges (Err Failed) h = rises (Err Failed) h.0 refl

  pub plan-charges : {T : Type 0} (r : Result T PortFault) (told : Bool) (e : Extent) (bytes out : List ℕ) (gaps : List Extent) (view : T → SnapshotView)
      → MatchResult r (λ s. Plans told (P old) (P new) e bytes out gaps (view s)) (PlanFails (P old) (P new)) → ChargesPort (P old) (P new) r
  plan-charges (Ok x) told e bytes out gaps view h = stays (Ok x) (same_by (Read e.at e.count) refl h.notes) (λ e. cc e)
  plan-charges (Err Worn) told e bytes out gaps view h = stays (Err Worn) (same_none h.1) (λ e. cc e)
  plan-charges (Err (Full rows sectors)) told e bytes out gaps view h = absurd h
  plan-charges (Err Memory) told e bytes out gaps view h = stays (Err Memory) (same_none h.1) (λ e. cc e)
  plan-charges (Err Failed) told e bytes out gaps view h = rises (Err Failed) h.0 refl

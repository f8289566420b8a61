-- Why the steps of a commit are refused, and that they are not.
use Rattle.std.proofs.Common.{◌≡◌, ◌⊎◌, ℕ, ◌+◌, ◌<◌, ◌≤◌, inl, inr, List, [], ◌∷◌, ◌++◌, length, map, refl, sym, ap, ◌∙◌, subst, arith, length-append}
use Rattle.std.proofs.lemmas.List.{length-map, map-append}
use Rattle.std.specs.Prelude.{◌≢◌, ◌↔◌, Contains, Option, Some, None, Result, Ok, Err}
use Rattle.std.specs.Option.{option_map}
use Rattle.std.proofs.lemmas.List.Elements.{Contains-append_right, Contains-append_cases}
use Rattle.sealed_layer.specs.Layers.{LayerIndex}
use Rattle.image_core.specs.declared.commit.FreezeFault.{FreezeFault}
use Rattle.image_core.specs.declared.commit.FreezeFault.TheVariants as freezes
use Rattle.image_core.specs.declared.commit.CopyFault.{CopyFault}
use Rattle.image_core.specs.declared.commit.CopyFault.TheVariants as copies
use Rattle.image_core.specs.declared.commit.SealFault.{SealFault}
use Rattle.image_core.specs.declared.commit.SealFault.TheVariants as seals
use Rattle.image_core.specs.declared.parts.Commit.{Commit}
use Rattle.image_core.specs.Committing.{noted_freeze, noted_copy, noted_seal, IsRefusedFreeze, MayFreeze, IsRefusedCopy, done_of, total_of}
use Rattle.layer_commit.specs.View.{pieces_of}
use Rattle.image_core.specs.declared.growing.GrowFault.TheVariants as grows
use Rattle.image_core.specs.Growing.{IsRefusedGrow}
use Rattle.image_core.specs.Parts.{commit_view}
use Rattle.image_core.specs.View.{CommitView}

abbrev pub uuid-of : LayerIndex → List ℕ
uuid-of l = l.head.uuid

-- no case of a freeze holds
module _ {T : Type 0} (pending : Option (List ℕ)) (uuids : List (List ℕ)) (uuid : List ℕ) (none : pending ≡ None) (few : length uuids < 255) where
  pub freeze-twice : Contains uuids uuid → IsRefusedFreeze {T = T} pending uuids uuid (Err freezes.UuidTwice)
  freeze-twice has = record {
    busy = λ other. (λ is. absurd (let e : None ≡ Some other = sym none ∙ is in cc), λ is. absurd (let no : ⊥ = cc in no));
    many = (λ p. absurd (omega (arith, few, p.1)), λ is. absurd (let no : ⊥ = cc in no));
    twice = (λ p. refl, λ is. (none, few, has));
  }

  module _ (not : Contains uuids uuid → ⊥) where
    pub freeze-ok : (value : T) → IsRefusedFreeze {T = T} pending uuids uuid (Ok value)
    freeze-ok value = record {
      busy = λ other. (λ is. absurd (let e : None ≡ Some other = sym none ∙ is in cc), λ is. absurd (let no : ⊥ = cc in no));
      many = (λ p. absurd (omega (arith, few, p.1)), λ is. absurd (let no : ⊥ = cc in no));
      twice = (λ p. absurd (not p.2), λ is. absurd (let no : ⊥ = cc in no));
    }

    pub freeze-memory : IsRefusedFreeze {T = T} pending uuids uuid (Err freezes.Memory)
    freeze-memory = record {
      busy = λ other. (λ is. absurd (let e : None ≡ Some other = sym none ∙ is in cc), λ is. absurd (let no : ⊥ = cc in no));
      many = (λ p. absurd (omega (arith, few, p.1)), λ is. absurd (let no : ⊥ = cc in no));
      twice = (λ p. absurd (not p.2), λ is. absurd (let no : ⊥ = cc in no));
    }

    pub freeze-failing : IsRefusedFreeze {T = T} pending uuids uuid (Err freezes.Failed)
    freeze-failing = record {
      busy = λ other. (λ is. absurd (let e : None ≡ Some other = sym none ∙ is in cc), λ is. absurd (let no : ⊥ = cc in no));
      many = (λ p. absurd (omega (arith, few, p.1)), λ is. absurd (let no : ⊥ = cc in no));
      twice = (λ p. absurd (not p.2), λ is. absurd (let no : ⊥ = cc in no));
    }

-- the uuid of the commit in progress, seen from above
pub pending-same : (commit : Option Commit) → option_map (λ (c : CommitView). c.uuid) (option_map commit_view commit) ≡ option_map (λ (c : Commit). c.uuid) commit
pending-same None = refl
pending-same (Some c) = refl

-- what is noted where it is not the disk that refused
pub freeze-unnoted : (T : Type 0) → (uuid : List ℕ) (fault : FreezeFault) → (fault ≡ freezes.Failed → ⊥) → noted_freeze {T = T} uuid (Err fault) ≡ None
freeze-unnoted T uuid (freezes.Busy other) not = refl
freeze-unnoted T uuid freezes.TooMany not = refl
freeze-unnoted T uuid freezes.UuidTwice not = refl
freeze-unnoted T uuid freezes.Memory not = refl
freeze-unnoted T uuid freezes.Failed not = absurd (not refl)

pub copy-unnoted : (T : Type 0) → (fault : CopyFault) → (fault ≡ copies.Failed → ⊥) → noted_copy {T = T} (Err fault) ≡ None
copy-unnoted T (copies.NotPending other) not = refl
copy-unnoted T copies.Failed not = absurd (not refl)

pub seal-unnoted : (T : Type 0) → (uuid : List ℕ) (fault : SealFault) → (fault ≡ seals.Failed → ⊥) → noted_seal {T = T} uuid (Err fault) ≡ None
seal-unnoted T uuid (seals.NotPending other) not = refl
seal-unnoted T uuid (seals.NotWhole done total) not = refl
seal-unnoted T uuid seals.Failed not = absurd (not refl)

-- a copy and a seal that are not refused
pub copy-ok : {T : Type 0} → (pending : Option (List ℕ)) (uuid : List ℕ) (value : T) → pending ≡ Some uuid → IsRefusedCopy {T = T} pending uuid (Ok value)
copy-ok pending uuid value is = record {
  other = (λ not. absurd (not is), λ e. absurd (let no : ⊥ = cc in no));
  only = λ said e. absurd (let no : ⊥ = cc in no);
}

pub copy-failing : {T : Type 0} → (pending : Option (List ℕ)) (uuid : List ℕ) → pending ≡ Some uuid → IsRefusedCopy {T = T} pending uuid (Err copies.Failed)
copy-failing {T} pending uuid is = record {
  other = (λ not. absurd (not is), λ e. absurd (let no : ⊥ = cc in no));
  only = λ said e. absurd (let no : ⊥ = cc in no);
}

-- whether layers of two lists have the uuid
pub among-more : (lowers committed : List LayerIndex) (uuid : List ℕ) → Contains (map uuid-of committed) uuid → Contains (map uuid-of (lowers ++ committed)) uuid
among-more lowers committed uuid has =
    subst (λ (l : List (List ℕ)). Contains l uuid) (sym (map-append uuid-of lowers committed)) (Contains-append_right (map uuid-of lowers) (map uuid-of committed) uuid has)

pub among-none : (lowers committed : List LayerIndex) (uuid : List ℕ) → (Contains (map uuid-of lowers) uuid → ⊥) → (Contains (map uuid-of committed) uuid → ⊥)
    → Contains (map uuid-of (lowers ++ committed)) uuid → ⊥
among-none lowers committed uuid one other has =
    elim (Contains-append_cases (map uuid-of lowers) (map uuid-of committed) uuid (subst (λ (l : List (List ℕ)). Contains l uuid) (map-append uuid-of lowers committed) has)) [
      | inl e ↦ one e
      | inr e ↦ other e
    ]

-- a freeze that is not refused
pub freeze-free : (pending : Option (List ℕ)) (lowers committed : List LayerIndex) (uuid : List ℕ) → pending ≡ None → length lowers + length committed < 255
    → (Contains (map uuid-of lowers) uuid → ⊥) → (Contains (map uuid-of committed) uuid → ⊥) → MayFreeze pending (map uuid-of (lowers ++ committed)) uuid
freeze-free pending lowers committed uuid none few one other = record {
  none = none;
  few = omega (arith, few, length-map (lowers ++ committed) uuid-of, length-append lowers committed);
  unlike = among-none lowers committed uuid one other;
}

-- the commit in progress is the one that was asked for, and all of its file is written
pub uuid-asked : (commit : Option Commit) (c : Commit) (uuid : List ℕ) → commit ≡ Some c → option_map (λ (d : Commit). d.uuid) commit ≡ Some uuid → c.uuid ≡ uuid
uuid-asked commit c uuid held is = let e : Some c.uuid ≡ Some uuid = sym (ap (option_map (λ (d : Commit). d.uuid)) held) ∙ is in cc

pub pieces-written : (commit : Option Commit) (c : Commit) → commit ≡ Some c → total_of (option_map commit_view commit) ≤ done_of (option_map commit_view commit) → pieces_of c.sealing ≤ c.sealing.done
pieces-written commit c held most = subst (λ (o : Option Commit). total_of (option_map commit_view o) ≤ done_of (option_map commit_view o)) held most

-- a grow that is not refused
module _ {T : Type 0} (pending : Option (List ℕ)) (n sectors : ℕ) (none : pending ≡ None) (more : n < sectors) where
  pub grow-ok : (value : T) → IsRefusedGrow {T = T} pending n sectors (Ok value)
  grow-ok value = record {
    busy = λ other. (λ is. absurd (let e : None ≡ Some other = sym none ∙ is in cc), λ is. absurd (let no : ⊥ = cc in no));
    larger = (λ p. absurd (omega (arith, more, p.1)), λ is. absurd (let no : ⊥ = cc in no));
    only = λ m is. absurd (let no : ⊥ = cc in no);
  }

  pub grow-failing : IsRefusedGrow {T = T} pending n sectors (Err grows.Failed)
  grow-failing = record {
    busy = λ other. (λ is. absurd (let e : None ≡ Some other = sym none ∙ is in cc), λ is. absurd (let no : ⊥ = cc in no));
    larger = (λ p. absurd (omega (arith, more, p.1)), λ is. absurd (let no : ⊥ = cc in no));
    only = λ m is. absurd (let no : ⊥ = cc in no);
  }

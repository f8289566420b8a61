-- From what is said of an image without its history to its history.
use Rattle.std.proofs.Common.{◌≡◌, ◌⊎◌, ℕ, ◌+◌, ◌≤◌, inl, inr, Bool, false, List, [], ◌∷◌, ◌++◌, length, refl, sym, ◌∙◌, subst, arith, length-append}
use Rattle.std.specs.Prelude.{All}
use Rattle.std.proofs.lemmas.List.Elements.{All-nil, All-cons, All-weaker, All-contains}
use Rattle.block_disk.specs.DiskState.{DiskState}
use Rattle.flat_image.specs.declared.act.Act.{Act}
use Rattle.flat_image.specs.declared.act.Act.TheVariants.{Fault}
use Rattle.flat_image.specs.declared.act.Asked.{Asked}
use Rattle.flat_image.specs.declared.base.Base.{Base}
use Rattle.flat_image.specs.Base.{IsBase, HasFewStretches}
use Rattle.flat_image.specs.Entries.{entry}
use Rattle.flat_image.specs.History.{History, now, step, keeps, is_fault, fault_count, Allowed, HasRoom}
use Rattle.flat_image.specs.Left.{Stand, stand, put_top, ends_blame, Blamed, Advances, Left}
use Rattle.flat_image.proofs.HistoryLaws.{now-entry, proper-entry, proper-room, base-stays, fault_count-append}
use Rattle.flat_image.proofs.LeftLaws.{Kept-all, Kept-entry, Blamed-entry, Blamed-last}
use Rattle.image_core.specs.View.{ImageView}
use Rattle.image_core.specs.MayBe.{MayBe, ShowsMayBe, KeptStand}
use Rattle.image_core.specs.Keeping.{HoldsAs, KeepsFor}
use Rattle.image_core.specs.Laws.{KeepsStands}
use Rattle.image_core.proofs.FilesShown.{files-shown}

-- what may be is what the history leaves, where its tops are kept and what was tried is to blame
pub left-of : (base : Base) (history : History) (tops : List Stand) (attempts : List Asked) (c : Base)
    → All (KeptStand base history) tops → All (Blamed history) attempts → MayBe (now base history) tops attempts c → Left base history c
left-of base history tops attempts c kept blamed may =
    let top : KeptStand base history may.top = All-contains (KeptStand base history) tops may.top kept may.among in
    record {
      front = top.front;
      kept = top.kept;
      is = subst (λ s. let b = put_top (now base history) s in (c ≡ b) ⊎ ((asked : Asked) × Blamed history asked × Advances b asked c)) top.is
          (elim may.is [
            | inl is ↦ inl is
            | inr other ↦ inr (other.0, All-contains (Blamed history) attempts other.0 blamed other.1, other.2)
          ]);
    }

-- so an image that keeps what it needs for a history stands for it
pub keeps-stands : (tells : Bool) (disk : DiskState) (faults : ℕ) (v : ImageView) (base : Base) (history : History) → KeepsStands tells disk faults v base history
keeps-stands tells disk faults v base history k =
    let good = base-stays base history k.base_is k.few k.proper in record {
      base_is = k.base_is;
      few = k.few;
      proper = k.proper;
      view = k.holds.view;
      told = k.holds.told;
      crash = λ files leaves.
          let shown : ShowsMayBe (now base history) k.tops k.attempts files =
          files-shown (now base history) k.tops k.attempts files good.0 good.1 (k.holds.crash files leaves) in
          record { found = shown.found; shows = shown.shows; left = left-of base history k.tops k.attempts shown.found k.kept k.blamed shown.may_be };
      failed = k.failed;
      steps = k.steps;
    }

-- tops that are kept, and what is to blame, where one more entry follows
pub kept-more : (base : Base) (history : History) (tops : List Stand) (number : ℕ) (act : Act) → keeps act ≡ false
    → All (KeptStand base history) tops → All (KeptStand base (history ++ entry number act ∷ [])) tops
kept-more base history tops number act is kept =
    All-weaker (KeptStand base history) (KeptStand base (history ++ entry number act ∷ []))
    (λ s k. record { front = k.front; kept = Kept-entry history k.front number act is k.kept; is = k.is }) tops kept

pub blamed-more : (history : History) (attempts : List Asked) (number : ℕ) (act : Act) → ends_blame act ≡ false
    → All (Blamed history) attempts → All (Blamed (history ++ entry number act ∷ [])) attempts
blamed-more history attempts number act is blamed =
    All-weaker (Blamed history) (Blamed (history ++ entry number act ∷ [])) (λ asked b. Blamed-entry history asked number act is b) attempts blamed

-- the top as it stands is kept, and alone it is after an act that keeps
pub kept-now : (base : Base) (history : History) → KeptStand base history (stand (now base history))
kept-now base history = record { front = history; kept = Kept-all history; is = refl }

pub kept-one : (base : Base) (history : History) (s : Stand) → s ≡ stand (now base history) → All (KeptStand base history) (s ∷ [])
kept-one base history s is =
    All-cons (KeptStand base history) s [] (record { front = history; kept = Kept-all history; is = is }) (All-nil (KeptStand base history))

pub kept-too : (base : Base) (history : History) (s : Stand) (tops : List Stand) → s ≡ stand (now base history)
    → All (KeptStand base history) tops → All (KeptStand base history) (s ∷ tops)
kept-too base history s tops is kept =
    All-cons (KeptStand base history) s tops (record { front = history; kept = Kept-all history; is = is }) kept

-- a step that failed is to blame
pub blamed-too : (history : History) (attempts : List Asked) (number : ℕ) (asked : Asked) → All (Blamed history) attempts
    → All (Blamed (history ++ entry number (Fault asked) ∷ [])) (asked ∷ attempts)
blamed-too history attempts number asked blamed =
    let h : History = history ++ entry number (Fault asked) ∷ [] in
    All-cons (Blamed h) asked attempts (Blamed-last history asked number) (blamed-more history attempts number (Fault asked) refl blamed)

-- the faults of one more entry
pub fault-entry : (history : History) (number : ℕ) (act : Act) → is_fault act ≡ false → fault_count (history ++ entry number act ∷ []) ≡ fault_count history
fault-entry history number act is = fault_count-append history (entry number act ∷ []) ∙ rw is (omega arith)

pub fault-more : (history : History) (number : ℕ) (asked : Asked) → fault_count (history ++ entry number (Fault asked) ∷ []) ≡ fault_count history + 1
fault-more history number asked = fault_count-append history (entry number (Fault asked) ∷ [])

-- An image that keeps what it needs for a history keeps it for one with an act more that is no fault, where it is then
-- as the act makes it: the whole of a step but for its files.
pub keeps-act : (tells : Bool) (old new : DiskState) (faults later : ℕ) (v w : ImageView) (base : Base) (history : History) (number : ℕ) (act : Act)
    (tops : List Stand) (attempts : List Asked) → KeepsFor tells old faults v base history → Allowed (now base history) act
    → HasRoom (step (now base history) act).rows (step (now base history) act).filled → is_fault act ≡ false → faults ≤ later → w.steps ≡ v.steps + 1
    → HoldsAs tells new w (step (now base history) act) tops attempts
    → All (KeptStand base (history ++ entry number act ∷ [])) tops → All (Blamed (history ++ entry number act ∷ [])) attempts
    → KeepsFor tells new later w base (history ++ entry number act ∷ [])
keeps-act tells old new faults later v w base history number act tops attempts k may room clean rise steps holds kept blamed = record {
  base_is = k.base_is;
  few = k.few;
  proper = proper-entry base history number act k.proper may room;
  failed = omega (arith, k.failed, rise, fault-entry history number act clean);
  steps = steps ∙ (let e : v.steps + 1 ≡ length (history ++ entry number act ∷ []) = omega (arith, k.steps, length-append history (entry number act ∷ [])) in e);
  tops = tops;
  attempts = attempts;
  holds = subst (λ b. HoldsAs tells new w b tops attempts) (sym (now-entry base history number act)) holds;
  kept = kept;
  blamed = blamed;
}

-- and for one with a fault more, where the count rose
pub keeps-fault : (tells : Bool) (old new : DiskState) (faults later : ℕ) (v w : ImageView) (base : Base) (history : History) (number : ℕ) (asked : Asked)
    (tops : List Stand) (attempts : List Asked) → KeepsFor tells old faults v base history → faults + 1 ≤ later → w.steps ≡ v.steps + 1
    → HoldsAs tells new w (now base history) tops attempts
    → All (KeptStand base (history ++ entry number (Fault asked) ∷ [])) tops → All (Blamed (history ++ entry number (Fault asked) ∷ [])) attempts
    → KeepsFor tells new later w base (history ++ entry number (Fault asked) ∷ [])
keeps-fault tells old new faults later v w base history number asked tops attempts k rise steps holds kept blamed = record {
  base_is = k.base_is;
  few = k.few;
  proper = proper-entry base history number (Fault asked) k.proper tt (proper-room base history k.proper);
  failed = omega (arith, k.failed, rise, fault-more history number asked);
  steps = steps ∙ (let e : v.steps + 1 ≡ length (history ++ entry number (Fault asked) ∷ []) = omega (arith, k.steps, length-append history (entry number (Fault asked) ∷ [])) in e);
  tops = tops;
  attempts = attempts;
  holds = subst (λ b. HoldsAs tells new w b tops attempts) (sym (now-entry base history number (Fault asked))) holds;
  kept = kept;
  blamed = blamed;
}

-- and where a call was refused, which is no act
pub keeps-same : (tells : Bool) (old new : DiskState) (faults later : ℕ) (v w : ImageView) (base : Base) (history : History) (tops : List Stand)
    (attempts : List Asked) → KeepsFor tells old faults v base history → faults ≤ later → w.steps ≡ v.steps → HoldsAs tells new w (now base history) tops attempts
    → All (KeptStand base history) tops → All (Blamed history) attempts → KeepsFor tells new later w base history
keeps-same tells old new faults later v w base history tops attempts k rise steps holds kept blamed = record {
  base_is = k.base_is;
  few = k.few;
  proper = k.proper;
  failed = omega (arith, k.failed, rise);
  steps = steps ∙ k.steps;
  tops = tops;
  attempts = attempts;
  holds = holds;
  kept = kept;
  blamed = blamed;
}

-- and for the history of no acts over a base that it is opened at
pub keeps-none : (tells : Bool) (disk : DiskState) (faults : ℕ) (v : ImageView) (base : Base) → IsBase base → HasFewStretches base
    → HasRoom base.rows base.filled → base.faults ≤ faults → v.steps ≡ 0 → HoldsAs tells disk v base (stand base ∷ []) [] → KeepsFor tells disk faults v base []
keeps-none tells disk faults v base is few room failed steps holds = record {
  base_is = is;
  few = few;
  proper = room;
  failed = omega (arith, failed);
  steps = steps;
  tops = stand base ∷ [];
  attempts = [];
  holds = holds;
  kept = kept-one base [] (stand base) refl;
  blamed = All-nil (Blamed []);
}

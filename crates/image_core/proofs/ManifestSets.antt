-- A set of the manifest of an image: what a crash leaves within it, and what the image is when it failed.
use Rattle.std.proofs.Common.{◌≡◌, ◌⊎◌, ℕ, suc, ◌+◌, ◌^◌, ◌<◌, ◌≤◌, inl, inr, Bool, true, false, IsTrue, List, [], ◌∷◌, ◌++◌, length, refl, sym, ap, ◌∙◌, subst, arith, length-append}
use Rattle.std.specs.Prelude.{All, Contains, Option, Some, None}
use Rattle.block_disk.specs.DiskState.{DiskState, Files, Spares}
use Rattle.block_disk.specs.Claims.{LeavesOnly, FileRunBy}
use Rattle.gate_mark.specs.declared.mark.Mark.{Mark}
use Rattle.gate_mark.specs.declared.mark.Rest.{Rest}
use Rattle.gate_mark.specs.declared.mark.Rest.TheVariants.{Closed, Attempted}
use Rattle.gate_mark.specs.MarkFile as marks
use Rattle.gate_mark.specs.Mark.{file_of, sequence_in, IsKept, MayHold, ShowsEither, Attempts, IsSameBut}
use Rattle.flat_image.specs.declared.act.Act.{Act}
use Rattle.flat_image.specs.declared.act.Act.TheVariants.{Fault}
use Rattle.flat_image.specs.declared.act.Asked.{Asked}
use Rattle.flat_image.specs.declared.base.Base.{Base}
use Rattle.flat_image.specs.Base.{pending_of, IsBase, HasFewStretches}
use Rattle.flat_image.specs.Entries.{entry}
use Rattle.flat_image.specs.Frozen.{Frozen}
use Rattle.flat_image.specs.History.{History, now, step, is_fault, fault_count, Allowed, HasRoom, Proper}
use Rattle.flat_image.specs.Left.{Stand, stand, Blamed}
use Rattle.flat_image.proofs.HistoryLaws.{now-entry, proper-entry, proper-room, base-stays}
use Rattle.top_writer.specs.declared.top.Top.{Top}
use Rattle.top_writer.specs.Files.{TopFiles, HeadsAsked}
use Rattle.top_writer.specs.Fitting.{TopFits}
use Rattle.top_writer.specs.Showing.{ShowsOne}
use Rattle.top_writer.specs.View.{epoch_of, sequence_of}
use Rattle.top_writer.proofs.Going.{fits_spared}
use Rattle.top_writer.proofs.ShowLaws.{either_body}
use Rattle.image_core.specs.declared.parts.Parts.{Parts}
use Rattle.image_core.specs.Numbers.{manifest_file, sealed_file}
use Rattle.image_core.specs.Manifest.{Names, format_said, exact_said}
use Rattle.image_core.specs.Shows as shows
use Rattle.image_core.specs.Shows.{IsFrozenFile}
use Rattle.image_core.specs.FileSets.{FilesFit}
use Rattle.image_core.specs.Standing.{ShowsLeft}
use Rattle.image_core.specs.MayBe.{MayBe, ShowsMayBe, KeptStand}
use Rattle.image_core.specs.Parts.{StackFits, WasMade, PartsFit}
use Rattle.image_core.specs.Seen.{Seen, StandsFor, ShowsLeftWith, ShowsLeftWithin}
use Rattle.image_core.proofs.FilesShown.{files-shown, written-exact}
use Rattle.image_core.proofs.Lifts.{left-of, kept-more, blamed-too, fault-entry, fault-more}
use Rattle.image_core.proofs.PartsHold.{files-of, named-shown}
use Rattle.image_core.proofs.StackLaws.{not-manifest, top-shown, stack-spared, made-spared}

-- a body that a mark holds after a set of another one was tried
pub attempted-body : (mark : Mark) (attempt : Rest) (body held : List ℕ) → Attempts body mark.rest attempt → (held ≡ mark.body) ⊎ (attempt ≡ Attempted held)
    → MayHold mark held ⊎ (held ≡ body)
attempted-body mark attempt body held attempts (inl is) = inl (inl is)
attempted-body mark attempt body held (inl before) (inr is) = inl (inr (sym before ∙ is))
attempted-body mark attempt body held (inr (inl closed)) (inr is) = absurd (let e : Closed ≡ Attempted held = sym closed ∙ is in cc)
attempted-body mark attempt body held (inr (inr this)) (inr is) = inr (let e : Attempted held ≡ Attempted body = sym is ∙ this in cc)

pub contains-more : (asked : Asked) (attempts : List Asked) (other : Asked) → Contains attempts asked → Contains (other ∷ attempts) asked
contains-more asked attempts other has = (suc has.0, omega (arith, has.1), has.2)

-- no file but its own is the manifest
not-first : (k : ℕ) → sealed_file k ≡ manifest_file → ⊥
not-first k is = omega (arith, is)

frozen-later : (done : ℕ) (frozen : Option Frozen) (f : ℕ) → IsFrozenFile done frozen f → f ≡ manifest_file → ⊥
frozen-later done None f is first = absurd is
frozen-later done (Some frozen) f is first = not-manifest done f first is

module _ (tells : Bool) (disk : DiskState) (p : Parts) (b : Base) (tops : List Stand) (attempts : List Asked) (fit : PartsFit tells disk p b tops attempts) where
  -- a set leaves what stands under the top, and the top
  pub set-stack : (new : DiskState) → Spares (λ f. f ≡ file_of p.manifest) disk new → StackFits tells new fit.exact b.sectors b.lowers b.done b.frozen p.stack
  set-stack new spares =
      stack-spared tells disk new (λ f. f ≡ file_of p.manifest) spares fit.exact b.sectors b.lowers b.done
      (λ is. not-first (length b.done) (is ∙ fit.manifest_is)) b.frozen p.stack
      (λ k below is. not-first k (is ∙ fit.manifest_is))
      (λ f of_frozen is. frozen-later (length b.done) b.frozen f of_frozen (is ∙ fit.manifest_is))
      (λ t has f of_next is. not-manifest (length b.done + 1) f (is ∙ fit.manifest_is) of_next) fit.stack

  pub set-top : (new : DiskState) → Spares (λ f. f ≡ file_of p.manifest) disk new
      → TopFits tells new b.sectors (shows.heads_asked fit.exact (shows.epoch_of b) b.lowers) p.top (stand b) tops
  set-top new spares =
      fits_spared tells disk new b.sectors (shows.heads_asked fit.exact (shows.epoch_of b) b.lowers) p.top (stand b) tops (λ f. f ≡ file_of p.manifest) spares
      (λ f of_top is. not-manifest (epoch_of p.top) f (is ∙ fit.manifest_is) of_top) fit.top

  -- a set of a body for a step that was asked for
  module _ (asked : Asked) (body : List ℕ) (format : format_said body ≡ 2) (made : WasMade disk b.sectors b.lowers b.done b.frozen p.stack asked body) where
    abbrev tried : List Asked
    tried = asked ∷ attempts

    -- the format of a body that the manifest may hold then, and what it names
    held-format : (held : List ℕ) → MayHold p.manifest held ⊎ (held ≡ body) → IsTrue (exact_said held) → IsTrue fit.exact
    held-format held (inl may) told = fit.format held may told
    held-format held (inr is) told = absurd (let e : false ≡ true = sym (ap exact_said is ∙ written-exact body format) ∙ told in cc)

    held-named : (held : List ℕ) → MayHold p.manifest held ⊎ (held ≡ body)
        → Names held (length b.done) (pending_of b.frozen) b.sectors ⊎ ((a : Asked) × Contains tried a × WasMade disk b.sectors b.lowers b.done b.frozen p.stack a held)
    held-named held (inl may) =
        elim (fit.named held may) [
          | inl names ↦ inl names
          | inr m ↦ inr (m.0, contains-more m.0 attempts asked m.1, m.2)
        ]
    held-named held (inr is) = inr (asked, (0, omega arith, refl), subst (WasMade disk b.sectors b.lowers b.done b.frozen p.stack asked) (sym is) made)

    -- what a crash leaves at each moment of it
    pub set-files : (attempt : Rest) (files : Files) → Attempts body p.manifest.rest attempt → ShowsEither p.manifest attempt (files (file_of p.manifest))
        → ((f : ℕ) → (f ≡ file_of p.manifest → ⊥) → disk.may_leave f (files f)) → FilesFit b tops tried files
    set-files attempt files was either others =
        let held = either_body p.manifest attempt (files (file_of p.manifest)) either in
        let may : MayHold p.manifest held.1 ⊎ (held.1 ≡ body) = attempted-body p.manifest attempt body held.1 was held.2 in
        let at : (f : ℕ) → (f ≡ manifest_file → ⊥) → disk.may_leave f (files f) = λ f not. others f (λ is. not (is ∙ fit.manifest_is)) in
        let heads : HeadsAsked = shows.heads_asked fit.exact (shows.epoch_of b) b.lowers in
        let one : ShowsOne (epoch_of p.top) b.sectors heads tops files =
        top-shown tells disk b.sectors heads p.top (stand b) tops fit.top files (λ f of_top. at f (λ is. not-manifest (epoch_of p.top) f is of_top)) in
        files-of tells disk p b tops attempts fit tops tried files held.0 held.1
        (subst (λ (f : ℕ). marks.Shows held.0 held.1 (files f)) fit.manifest_is held.3) (held-format held.1 may)
        (named-shown tells disk p b tops attempts fit tried files held.1 (held-named held.1 may)
        (λ t has f of_next. at f (λ is. not-manifest (length b.done + 1) f is of_next)) (at (sealed_file (length b.done)) (not-first (length b.done))))
        (λ k below. at (sealed_file k) (not-first k))
        (λ f of_frozen. at f (frozen-later (length b.done) b.frozen f of_frozen))
        (subst (λ e. ShowsOne e b.sectors heads tops files) fit.epoch one)

    -- and what the image is after it failed
    pub set-failed : (new : DiskState) (mark : Mark) (steps : ℕ) → Spares (λ f. f ≡ file_of p.manifest) disk new → IsKept new mark → IsSameBut p.manifest mark
        → ((held : List ℕ) → MayHold mark held → MayHold p.manifest held ⊎ (held ≡ body))
        → PartsFit tells new (record p { manifest = mark; steps = steps }) b tops tried
    set-failed new mark steps spares kept but bodies = record {
      exact = fit.exact;
      sound = fit.sound;
      manifest_is = ap file_of but ∙ fit.manifest_is;
      manifest = kept;
      format = λ held may. held-format held (bodies held may);
      named = λ held may. elim (held-named held (bodies held may)) [
        | inl names ↦ inl names
        | inr m ↦ inr (
          m.0,
          m.1,
          made-spared tells disk new (λ f. f ≡ file_of p.manifest) spares fit.exact b.sectors b.lowers b.done
              (λ is. not-first (length b.done) (is ∙ fit.manifest_is)) b.frozen p.stack m.0 held m.2,
        )
      ];
      stack = set-stack new spares;
      epoch = fit.epoch;
      top = set-top new spares;
    }

-- what files fit that a failed step of the history may have left
pub fault-left : (base : Base) (history : History) (tops : List Stand) (attempts : List Asked) (asked : Asked) (number : ℕ) (files : Files) → IsBase base → HasFewStretches base
    → Proper base history → All (KeptStand base history) tops → All (Blamed history) attempts → FilesFit (now base history) tops (asked ∷ attempts) files
    → ShowsLeft base (history ++ entry number (Fault asked) ∷ []) files
fault-left base history tops attempts asked number files is few proper kept blamed fits =
    let b : Base = now base history in
    let act = Fault asked in
    let h : History = history ++ entry number act ∷ [] in
    let here : now base h ≡ b = now-entry base history number act in
    let good = base-stays base history is few proper in
    let shown : ShowsMayBe b tops (asked ∷ attempts) files = files-shown b tops (asked ∷ attempts) files good.0 good.1 fits in
    record {
      found = shown.found;
      shows = shown.shows;
      left = left-of base h tops (asked ∷ attempts) shown.found (kept-more base history tops number act refl kept)
          (blamed-too history attempts number asked blamed) (subst (λ (c : Base). MayBe c tops (asked ∷ attempts) shown.found) (sym here) shown.may_be);
    }

-- so at each moment of a set a crash leaves what it may leave of the history with the step's fault
pub set-moment : (tells : Bool) (disk new : DiskState) (p : Parts) (base : Base) (history : History) (tops : List Stand) (attempts : List Asked) (asked : Asked) (body : List ℕ)
    → (fit : PartsFit tells disk p (now base history) tops attempts) → format_said body ≡ 2
    → WasMade disk (now base history).sectors (now base history).lowers (now base history).done (now base history).frozen p.stack asked body
    → IsBase base → HasFewStretches base → Proper base history → All (KeptStand base history) tops → All (Blamed history) attempts
    → FileRunBy (file_of p.manifest) disk new (λ (attempt : Rest) c. Attempts body p.manifest.rest attempt × ShowsEither p.manifest attempt c)
    → LeavesOnly disk new (λ (u : Unit {0}) (files : Files). ShowsLeftWith base history (Fault asked) files)
set-moment tells disk new p base history tops attempts asked body fit format made is few proper kept blamed run = record {
  later = run.leaves.later;
  past = run.leaves.past;
  each = λ j from to. let at_j = run.leaves.each j from to in (
    tt,
    λ files at_it.
        let beside = at_j.1 files at_it in (
          0,
          fault-left base history tops attempts asked 0 files is few proper kept blamed
              (set-files tells disk p (now base history) tops attempts fit asked body format made at_j.0 files beside.has.0 beside.has.1 beside.others),
        ),
  );
}

-- An image that stood for a history stands for it with an act more, where its parts are then as the act makes them,
pub stands-act : (x z : Seen) (base : Base) (history : History) (number : ℕ) (act : Act) (tops : List Stand) (attempts : List Asked) → StandsFor x base history
    → Allowed (now base history) act → HasRoom (step (now base history) act).rows (step (now base history) act).filled → is_fault act ≡ false → x.faults ≤ z.faults
    → z.parts.steps ≡ x.parts.steps + 1 → sequence_of z.parts.top ≤ 2 ^ 61 + z.parts.steps → sequence_in z.parts.manifest ≤ 2 ^ 61 + z.parts.steps
    → PartsFit z.tells z.state z.parts (step (now base history) act) tops attempts
    → All (KeptStand base (history ++ entry number act ∷ [])) tops → All (Blamed (history ++ entry number act ∷ [])) attempts
    → StandsFor z base (history ++ entry number act ∷ [])
stands-act x z base history number act tops attempts k may room clean rise steps low manifest_low fits kept blamed = record {
  base_is = k.base_is;
  few = k.few;
  proper = proper-entry base history number act k.proper may room;
  failed = omega (arith, k.failed, rise, fault-entry history number act clean);
  steps = steps ∙ (let e : x.parts.steps + 1 ≡ length (history ++ entry number act ∷ []) = omega (arith, k.steps, length-append history (entry number act ∷ [])) in e);
  low = low;
  manifest_low = manifest_low;
  tops = tops;
  attempts = attempts;
  fits = subst (λ (c : Base). PartsFit z.tells z.state z.parts c tops attempts) (sym (now-entry base history number act)) fits;
  kept = kept;
  blamed = blamed;
}

-- and with a fault more, where the count rose
pub stands-fault : (x z : Seen) (base : Base) (history : History) (number : ℕ) (asked : Asked) (tops : List Stand) (attempts : List Asked) → StandsFor x base history
    → x.faults + 1 ≤ z.faults → z.parts.steps ≡ x.parts.steps + 1 → sequence_of z.parts.top ≤ 2 ^ 61 + z.parts.steps → sequence_in z.parts.manifest ≤ 2 ^ 61 + z.parts.steps
    → PartsFit z.tells z.state z.parts (now base history) tops attempts
    → All (KeptStand base (history ++ entry number (Fault asked) ∷ [])) tops → All (Blamed (history ++ entry number (Fault asked) ∷ [])) attempts
    → StandsFor z base (history ++ entry number (Fault asked) ∷ [])
stands-fault x z base history number asked tops attempts k rise steps low manifest_low fits kept blamed = record {
  base_is = k.base_is;
  few = k.few;
  proper = proper-entry base history number (Fault asked) k.proper tt (proper-room base history k.proper);
  failed = omega (arith, k.failed, rise, fault-more history number asked);
  steps = steps ∙ (let e : x.parts.steps + 1 ≡ length (history ++ entry number (Fault asked) ∷ []) = omega (arith, k.steps, length-append history (entry number (Fault asked) ∷ [])) in e);
  low = low;
  manifest_low = manifest_low;
  tops = tops;
  attempts = attempts;
  fits = subst (λ (c : Base). PartsFit z.tells z.state z.parts c tops attempts) (sym (now-entry base history number (Fault asked))) fits;
  kept = kept;
  blamed = blamed;
}

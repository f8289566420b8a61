-- A freeze of an image: its memory, a flush of its top, the files of the next one, and a set of its manifest.
use Rattle.std.proofs.Common.{◌≡◌, ◌⊎◌, ℕ, ◌+◌, ◌^◌, ◌<◌, ◌≤◌, inl, inr, Bool, true, false, IsTrue, List, [], ◌∷◌, ◌++◌, length, map, refl, sym, ap, ◌∙◌, subst, arith, length-append}
use Rattle.std.specs.Prelude.{All, Contains, Option, Some, None, ◌≢◌}
use Rattle.std.specs.Vec.{vec_len, vec_capacity}
use Rattle.std.specs.Arc.{arc_value}
use Rattle.std.proofs.lemmas.List.Elements.{All-nil}
use Rattle.block_disk.specs.DiskState.{DiskState, Files, Leaves, Spares}
use Rattle.block_disk.specs.declared.disk.Disk.{Ghosts}
use Rattle.block_disk.specs.Claims.{LeavesOnly, Beside, Run, FileRunBy}
use Rattle.gate_mark.specs.declared.mark.Mark.{Mark}
use Rattle.gate_mark.specs.declared.mark.Rest.{Rest}
use Rattle.gate_mark.specs.Mark.{file_of, sequence_in, IsKept, MayHold, ShowsEither, Attempts, IsSet, IsSameBut}
use Rattle.lsmt_header.specs.Blocks.{nil}
use Rattle.flat_image.specs.declared.act.Act.{Act}
use Rattle.flat_image.specs.declared.act.Act.TheVariants.{Freeze, Fault}
use Rattle.flat_image.specs.declared.act.Asked.{Asked}
use Rattle.flat_image.specs.declared.act.Asked.TheVariants.{Nothing, Uuid, Sectors}
use Rattle.flat_image.specs.declared.base.Base.{Base}
use Rattle.flat_image.specs.Base.{pending_of, top_uuid, top_size, IsBase, HasFewStretches}
use Rattle.flat_image.specs.Entries.{entry}
use Rattle.flat_image.specs.Frozen.{Frozen}
use Rattle.flat_image.specs.CanonicalFiles as canonical
use Rattle.flat_image.specs.LayerReading.{uuid_in}
use Rattle.flat_image.specs.History.{History, now, step, CanFreeze, HasRoom, Proper}
use Rattle.flat_image.specs.Left.{Stand, stand, fresh_stand, Blamed}
use Rattle.flat_image.proofs.HistoryLaws.{now-entry, proper-room, base-stays}
use Rattle.sealed_layer.specs.Layers.{LayerIndex}
use Rattle.seg_table.specs.Cells.{Table}
use Rattle.layer_commit.specs.Fitting.{Begun}
use Rattle.layer_commit.specs.Sources.{table_sheet}
use Rattle.layer_commit.specs.View.{SealView, file_by}
use Rattle.top_writer.specs.declared.top.Top.{Top}
use Rattle.top_writer.specs.Files.{TopFiles, HeadsAsked, asked_of, data_file}
use Rattle.top_writer.specs.Fitting.{TopGoes, TopFits}
use Rattle.top_writer.specs.Showing.{ShowsOne}
use Rattle.top_writer.specs.Stands.{unchanged, just_this}
use Rattle.top_writer.specs.View.{view_of, epoch_of, sectors_of, sequence_of, table_of}
use Rattle.top_writer.proofs.Going.{KnowsNow, fits_spared}
use Rattle.image_core.specs.declared.parts.Commit.{Commit}
use Rattle.image_core.specs.declared.parts.Stack.{Stack}
use Rattle.image_core.specs.declared.parts.Parts.{Parts}
use Rattle.image_core.specs.Loading.{upper_uuid, upper_size}
use Rattle.image_core.specs.Numbers.{manifest_file, sealed_file, with_pending}
use Rattle.image_core.specs.Manifest.{Names, IsWritten, exact_said}
use Rattle.image_core.specs.Shows as shows
use Rattle.image_core.specs.Shows.{heads_asked, IsSound}
use Rattle.image_core.specs.View.{AreLayersOf}
use Rattle.image_core.specs.Pieces.{IsSnapshotOf}
use Rattle.image_core.specs.FileSets.{FilesFit, WasTried}
use Rattle.image_core.specs.MayBe.{ShowsMayBe, KeptStand}
use Rattle.image_core.specs.Standing.{ShowsLeft}
use Rattle.image_core.specs.Parts.{layer_in, sealed_by, frozen_stand, CommitFits, CommitsFit, NextFits, NextsFit, IsNext, TakesNext, Becomes, IsSameStack, StackFits, FreezeMade, SealMade, WasMade, PartsFit}
use Rattle.image_core.specs.Seen.{Seen, with_disk, StandsFor, ShowsLeftWith, ShowsLeftWithin, Goes}
use Rattle.image_core.proofs.Created.{same-upper}
use Rattle.image_core.proofs.FilesShown.{files-shown, written-exact}
use Rattle.image_core.proofs.FrozenTops.{fits-less, own-sheet, begun-fits, layers-append, same-size, same-uuids}
use Rattle.image_core.proofs.Grows.{none-frozen}
use Rattle.image_core.proofs.Lifts.{left-of, kept-one, kept-now, blamed-too, blamed-more}
use Rattle.image_core.proofs.MadeLast.{leaves-joined}
use Rattle.image_core.proofs.ManifestSets.{set-stack, set-top, set-failed, set-moment, stands-act, stands-fault, fault-left}
use Rattle.image_core.proofs.PartsHold.{files-of, held-body, parts-hold}
use Rattle.image_core.proofs.SheetsRead.{layers-length}
use Rattle.image_core.proofs.Sizes.{sound-weaker}
use Rattle.image_core.proofs.StackLaws.{not-manifest, not-sealed, not-both, unasked, top-shown, stack-spared, made-spared}
use Rattle.image_core.proofs.StepGoes.{IsSameBesides, fits-after, moment, left-within}

-- with nothing frozen the top is that of the epoch behind the committed ones
pub free-epoch : (b : Base) → b.frozen ≡ None → shows.epoch_of b ≡ length b.done
free-epoch b none = ap (λ (f : Option Frozen). with_pending (length b.done) (pending_of f)) none

-- memory that is put in reserve changes nothing
module _ (s t : Stack) (free : s.commit ≡ None) (same : IsSameStack s t) where
  pub reserved : (tells : Bool) (disk : DiskState) (exact : Bool) (n : ℕ) (lowers done : List (List ℕ)) (frozen : Option Frozen)
      → StackFits tells disk exact n lowers done frozen s → StackFits tells disk exact n lowers done frozen t
  reserved tells disk exact n lowers done frozen fit = record {
    lowers_are = subst (AreLayersOf lowers) (sym same.lowers) fit.lowers_are;
    committed = subst (AreLayersOf done) (sym same.committed) fit.committed;
    sealed = fit.sealed;
    snapshot = subst (λ v. IsSnapshotOf (arc_value v) t.lowers t.committed.items) (sym same.snapshot)
        (subst (λ l. IsSnapshotOf (arc_value s.snapshot) l t.committed.items) (sym same.lowers)
        (subst (IsSnapshotOf (arc_value s.snapshot) s.lowers) (sym same.committed) fit.snapshot));
    commit = subst (CommitsFit tells disk exact n lowers done frozen) (sym same.commit) fit.commit;
    becomes = λ c is. absurd (let e : Some c ≡ None = sym is ∙ (same.commit ∙ free) in cc);
    next = subst (NextsFit tells disk n (length done) frozen) (sym same.next) fit.next;
  }

  pub reserved-made : (disk : DiskState) (n : ℕ) (lowers done : List (List ℕ)) (frozen : Option Frozen) (asked : Asked) (body : List ℕ)
      → WasMade disk n lowers done frozen s asked body → WasMade disk n lowers done frozen t asked body
  reserved-made disk n lowers done frozen Nothing body made = absurd made
  reserved-made disk n lowers done frozen (Uuid uuid) body (inl m) = inl (record { may = m.may; names = m.names; made = m.made; made_is = same.next ∙ m.made_is })
  reserved-made disk n lowers done frozen (Uuid uuid) body (inr m) = inr (record {
    sheet = m.sheet;
    is = m.is;
    same = m.same;
    names = m.names;
    left = m.left;
    all = λ c is. absurd (let e : Some c ≡ None = sym is ∙ (same.commit ∙ free) in cc);
  })
  reserved-made disk n lowers done frozen (Sectors sectors) body made = made

-- an image whose parts are fit otherwise, with the same tops, stands for the same
pub stands-so : (x w : Seen) → w.faults ≡ x.faults → w.parts.steps ≡ x.parts.steps → sequence_of w.parts.top ≡ sequence_of x.parts.top
    → sequence_in w.parts.manifest ≡ sequence_in x.parts.manifest
    → ((b : Base) (tops : List Stand) (attempts : List Asked) → PartsFit x.tells x.state x.parts b tops attempts → PartsFit w.tells w.state w.parts b tops attempts)
    → (base : Base) (history : History) → StandsFor x base history → StandsFor w base history
stands-so x w faults steps low manifest_low fits base history k = record {
  base_is = k.base_is;
  few = k.few;
  proper = k.proper;
  failed = omega (arith, k.failed, faults);
  steps = steps ∙ k.steps;
  low = omega (arith, low, k.low, steps);
  manifest_low = omega (arith, manifest_low, k.manifest_low, steps);
  tops = k.tops;
  attempts = k.attempts;
  fits = fits (now base history) k.tops k.attempts k.fits;
  kept = k.kept;
  blamed = k.blamed;
}

-- x is the image before the freeze, and w with the memory of it
module _ (x : Seen) (t : Stack) (free : x.parts.stack.commit ≡ None) (same : IsSameStack x.parts.stack t) where
  abbrev w : Seen
  w = record x { parts = record x.parts { stack = t } }

  fits-reserved : (b : Base) (tops : List Stand) (attempts : List Asked) → PartsFit x.tells x.state x.parts b tops attempts → PartsFit x.tells x.state (record x.parts { stack = t }) b tops attempts
  fits-reserved b tops attempts fit = record {
    exact = fit.exact;
    sound = fit.sound;
    manifest_is = fit.manifest_is;
    manifest = fit.manifest;
    format = fit.format;
    named = λ body may. elim (fit.named body may) [
      | inl names ↦ inl names
      | inr m ↦ inr (m.0, m.1, reserved-made x.parts.stack t free same x.state b.sectors b.lowers b.done b.frozen m.0 body m.2)
    ];
    stack = reserved x.parts.stack t free same x.tells x.state fit.exact b.sectors b.lowers b.done b.frozen fit.stack;
    epoch = fit.epoch;
    top = fit.top;
  }

  pub stands-reserved : (base : Base) (history : History) → StandsFor x base history → StandsFor w base history
  stands-reserved base history k = stands-so x w refl refl refl refl fits-reserved base history k

  -- so what goes on from there goes on from the image
  pub goes-reserved : (z : Seen) (noted : Option Act) → Goes w z noted → Goes x z noted
  goes-reserved z noted goes = record {
    stands = λ base history number k. goes.stands base history number (stands-reserved base history k);
    any_moment = λ base history k. goes.any_moment base history (stands-reserved base history k);
  }

-- The making of the files of the next epoch, where they are not made yet.
module _ (tells : Bool) (old new : DiskState) (p : Parts) (b : Base) (tops : List Stand) (attempts : List Asked) (fit : PartsFit tells old p b tops attempts)
    (none : b.frozen ≡ None) (unmade : p.stack.next ≡ None) (run : Run (TopFiles (length b.done + 1)) old new (λ files. Unit {0})) where
  not-frozen : (f : ℕ) → shows.IsFrozenFile (length b.done) b.frozen f → ⊥
  not-frozen f is = let e : shows.IsFrozenFile (length b.done) None f = subst (λ (o : Option Frozen). shows.IsFrozenFile (length b.done) o f) none is in e

  own-epoch : epoch_of p.top ≡ length b.done
  own-epoch = fit.epoch ∙ free-epoch b none

  not-own : (f : ℕ) → TopFiles (epoch_of p.top) f → TopFiles (length b.done + 1) f → ⊥
  not-own f of_top of_next = not-both (length b.done) (length b.done + 1) f refl (subst (λ e. TopFiles e f) own-epoch of_top) of_next

  -- what was tried does not rest on them
  tried-beside : (asked : Asked) (body : List ℕ) (files : Files) → WasMade old b.sectors b.lowers b.done b.frozen p.stack asked body → WasTried b asked body files
  tried-beside Nothing body files made = absurd made
  tried-beside (Uuid uuid) body files (inl m) = absurd (let e : Some m.made ≡ None = sym m.made_is ∙ unmade in cc)
  tried-beside (Uuid uuid) body files (inr m) = absurd (let e : Some m.sheet ≡ None = sym m.is ∙ none in cc)
  tried-beside (Sectors sectors) body files m = m

  next-files : (files : Files) → ((f : ℕ) → ¬ TopFiles (length b.done + 1) f → old.may_leave f (files f)) → FilesFit b tops attempts files
  next-files files at =
      let held = held-body tells old p b tops attempts fit files (at manifest_file (λ of_next. not-manifest (length b.done + 1) manifest_file refl of_next)) in
      let heads : HeadsAsked = heads_asked fit.exact (shows.epoch_of b) b.lowers in
      let one : ShowsOne (epoch_of p.top) b.sectors heads tops files =
      top-shown tells old b.sectors heads p.top (stand b) tops fit.top files (λ f of_top. at f (not-own f of_top)) in
      files-of tells old p b tops attempts fit tops attempts files held.0 held.1 held.3 (fit.format held.1 held.2)
      (elim (fit.named held.1 held.2) [
        | inl names ↦ inl names
        | inr m ↦ inr (m.0, m.1, tried-beside m.0 held.1 files m.2)
      ])
      (λ k below. at (sealed_file k) (not-sealed (length b.done + 1) k))
      (λ f of_frozen. absurd (not-frozen f of_frozen))
      (subst (λ e. ShowsOne e b.sectors heads tops files) fit.epoch one)

  -- the parts stay fit
  pub next-unmade : PartsFit tells new p b tops attempts
  next-unmade =
      let pending : ¬ TopFiles (length b.done + 1) (sealed_file (length b.done)) = not-sealed (length b.done + 1) (length b.done) in
      let heads : HeadsAsked = heads_asked fit.exact (shows.epoch_of b) b.lowers in record {
        exact = fit.exact;
        sound = fit.sound;
        manifest_is = fit.manifest_is;
        manifest = λ file left. fit.manifest file
            (run.others.left p.manifest.file file (not-manifest (length b.done + 1) p.manifest.file fit.manifest_is) left);
        format = fit.format;
        named = λ body may. elim (fit.named body may) [
          | inl names ↦ inl names
          | inr m ↦ inr (m.0, m.1, made-spared tells old new (TopFiles (length b.done + 1)) run.others fit.exact b.sectors b.lowers b.done pending b.frozen p.stack m.0 body m.2)
        ];
        stack = stack-spared tells old new (TopFiles (length b.done + 1)) run.others fit.exact b.sectors b.lowers b.done pending b.frozen p.stack
            (λ k below. not-sealed (length b.done + 1) k) (λ f of_frozen. absurd (not-frozen f of_frozen))
            (λ t is. absurd (let e : Some t ≡ None = sym is ∙ unmade in cc)) fit.stack;
        epoch = fit.epoch;
        top = fits_spared tells old new b.sectors heads p.top (stand b) tops (TopFiles (length b.done + 1)) run.others (λ f of_top. not-own f of_top) fit.top;
      }

  -- also with the top that was made
  pub next-made : (t : Top) → NextFits tells new b.sectors (length b.done) b.frozen t → PartsFit tells new (record p { stack = record p.stack { next = Some t } }) b tops attempts
  next-made t made =
      let after = next-unmade in record {
        exact = after.exact;
        sound = after.sound;
        manifest_is = after.manifest_is;
        manifest = after.manifest;
        format = after.format;
        named = λ body may. elim (after.named body may) [
          | inl names ↦ inl names
          | inr m ↦ inr (m.0, m.1, made-next m.0 body m.2)
        ];
        stack = let under = after.stack in record {
          lowers_are = under.lowers_are;
          committed = under.committed;
          sealed = under.sealed;
          snapshot = under.snapshot;
          commit = under.commit;
          becomes = λ c is. let was = under.becomes c is in record { snapshot = was.snapshot; room = was.room };
          next = made;
        };
        epoch = after.epoch;
        top = after.top;
      }
    where
      made-next : (asked : Asked) (body : List ℕ) → WasMade new b.sectors b.lowers b.done b.frozen p.stack asked body
          → WasMade new b.sectors b.lowers b.done b.frozen (record p.stack { next = Some t }) asked body
      made-next Nothing body m = absurd m
      made-next (Uuid uuid) body (inl m) = absurd (let e : Some m.made ≡ None = sym m.made_is ∙ unmade in cc)
      made-next (Uuid uuid) body (inr m) = absurd (let e : Some m.sheet ≡ None = sym m.is ∙ none in cc)
      made-next (Sectors sectors) body m = m

-- a record of the next top that is there already is no change
same-next : (tells : Bool) (disk : DiskState) (p : Parts) (b : Base) (tops : List Stand) (attempts : List Asked) (t : Top) → p.stack.next ≡ Some t → PartsFit tells disk p b tops attempts
    → PartsFit tells disk (record p { stack = record p.stack { next = Some t } }) b tops attempts
same-next tells disk p b tops attempts t is fit = subst (λ (o : Option Top). PartsFit tells disk (record p { stack = record p.stack { next = o } }) b tops attempts) is fit

-- the parts with another number of steps
pub fits-stepped : (tells : Bool) (disk : DiskState) (p : Parts) (steps : ℕ) (b : Base) (tops : List Stand) (attempts : List Asked) → PartsFit tells disk p b tops attempts
    → PartsFit tells disk (record p { steps = steps }) b tops attempts
fits-stepped tells disk p steps b tops attempts fit = record {
  exact = fit.exact;
  sound = fit.sound;
  manifest_is = fit.manifest_is;
  manifest = fit.manifest;
  format = fit.format;
  named = fit.named;
  stack = fit.stack;
  epoch = fit.epoch;
  top = fit.top;
}

-- two that are there are one
pub some-same : {A : Type 0} → (a c : A) → Some a ≡ Some c → a ≡ c
some-same a c is = cc

-- the top of the next epoch was taken, or made
module _ {D : Type 0} (kind : Ghosts D) (old new : D) (p : Parts) (epoch : ℕ) where
  pub taken-fits : (next : Option Top) → p.stack.next ≡ next → (t : Top) → TakesNext kind epoch next old new → IsNext next t
      → (b : Base) (tops : List Stand) (attempts : List Asked) → epoch ≡ length b.done + 1 → b.frozen ≡ None → NextFits kind.tells (kind.state new) b.sectors (length b.done) b.frozen t
      → PartsFit kind.tells (kind.state old) p b tops attempts
      → PartsFit kind.tells (kind.state new) (record p { stack = record p.stack { next = Some t } }) b tops attempts
  taken-fits None is t takes has b tops attempts at none made fit =
      next-made kind.tells (kind.state old) (kind.state new) p b tops attempts fit none is
      (subst (λ e. Run (TopFiles e) (kind.state old) (kind.state new) (λ files. Unit {0})) at takes) t made
  taken-fits (Some u) is t takes has b tops attempts at none made fit =
      subst (λ (d : D). PartsFit kind.tells (kind.state d) (record p { stack = record p.stack { next = Some t } }) b tops attempts) (sym takes)
      (same-next kind.tells (kind.state old) p b tops attempts t (is ∙ ap (λ (u : Top). Some u) (sym has)) fit)

  -- and where that failed, nothing was made
  pub untaken-fits : (next : Option Top) → p.stack.next ≡ next → TakesNext kind epoch next old new
      → (b : Base) (tops : List Stand) (attempts : List Asked) → epoch ≡ length b.done + 1 → b.frozen ≡ None
      → PartsFit kind.tells (kind.state old) p b tops attempts → PartsFit kind.tells (kind.state new) p b tops attempts
  untaken-fits None is takes b tops attempts at none fit =
      next-unmade kind.tells (kind.state old) (kind.state new) p b tops attempts fit none is
      (subst (λ e. Run (TopFiles e) (kind.state old) (kind.state new) (λ files. Unit {0})) at takes)
  untaken-fits (Some u) is takes b tops attempts at none fit = subst (λ (d : D). PartsFit kind.tells (kind.state d) p b tops attempts) (sym takes) fit

  -- at each moment of it a crash leaves what it may leave of the history
  pub taken-moment : (start : DiskState) (next : Option Top) → p.stack.next ≡ next → TakesNext kind epoch next old new
      → (base : Base) (history : History) (noted : Option Act) (tops : List Stand) (attempts : List Asked) → epoch ≡ length (now base history).done + 1 → (now base history).frozen ≡ None
      → IsBase base → HasFewStretches base → Proper base history → All (KeptStand base history) tops → All (Blamed history) attempts
      → PartsFit kind.tells (kind.state old) p (now base history) tops attempts
      → LeavesOnly start (kind.state old) (λ (u : Unit {0}) (files : Files). ShowsLeftWithin base history noted files)
      → LeavesOnly start (kind.state new) (λ (u : Unit {0}) (files : Files). ShowsLeftWithin base history noted files)
  taken-moment start None is takes base history noted tops attempts at none base_is few proper kept blamed fit before =
      let b : Base = now base history in
      let run : Run (TopFiles (length b.done + 1)) (kind.state old) (kind.state new) (λ files. Unit {0}) =
      subst (λ e. Run (TopFiles e) (kind.state old) (kind.state new) (λ files. Unit {0})) at takes in
      let good = base-stays base history base_is few proper in
      let left : (files : Files) → ((f : ℕ) → ¬ TopFiles (length b.done + 1) f → (kind.state old).may_leave f (files f)) → ShowsLeft base history files =
      λ files others.
      let shown : ShowsMayBe b tops attempts files =
      files-shown b tops attempts files good.0 good.1 (next-files kind.tells (kind.state old) (kind.state new) p b tops attempts fit none is run files others) in
      record { found = shown.found; shows = shown.shows; left = left-of base history tops attempts shown.found kept blamed shown.may_be } in
      leaves-joined start (kind.state old) (kind.state new) (λ (u : Unit {0}) (files : Files). ShowsLeftWithin base history noted files) before (record {
        later = run.leaves.later;
        past = run.leaves.past;
        each = λ j from to. let at_j = run.leaves.each j from to in (tt, λ files at_it. left-within base history noted files (left files (at_j.1 files at_it).others));
      })
  taken-moment start (Some u) is takes base history noted tops attempts at none base_is few proper kept blamed fit before =
      subst (λ (d : D). LeavesOnly start (kind.state d) (λ (u : Unit {0}) (files : Files). ShowsLeftWithin base history noted files)) (sym takes) before

-- A freeze from the disk at the start of it: p is the image with its memory, and q after the flush of its top.
module _ {D : Type 0} (kind : Ghosts D) (start mid after : D) (p q : Parts) (same : IsSameBesides p q) (steps : q.steps ≡ p.steps)
    (goes : TopGoes kind.tells (kind.state start) (kind.state mid) p.top q.top unchanged just_this) (free : p.stack.commit ≡ None)
    (next : Option Top) (next_is : q.stack.next ≡ next) (takes : TakesNext kind (length q.stack.committed.items + 1) next mid after) where
  abbrev old : Seen
  old = with_disk kind start p

  abbrev flushed : Seen
  flushed = with_disk kind mid q

  fits-flushed : (b : Base) (tops : List Stand) (attempts : List Asked) → PartsFit kind.tells (kind.state start) p b tops attempts → PartsFit kind.tells (kind.state mid) q b (stand b ∷ []) attempts
  fits-flushed b tops attempts fit = fits-after old flushed unchanged just_this same refl goes b tops attempts fit

  none : (b : Base) (tops : List Stand) (attempts : List Asked) → PartsFit kind.tells (kind.state start) p b tops attempts → b.frozen ≡ None
  none b tops attempts fit = none-frozen kind.tells (kind.state start) fit.exact b.sectors b.lowers b.done b.frozen p.stack.commit free fit.stack.commit

  count : (b : Base) (tops : List Stand) (attempts : List Asked) → PartsFit kind.tells (kind.state mid) q b tops attempts → length q.stack.committed.items ≡ length b.done
  count b tops attempts fit = sym (layers-length b.done q.stack.committed.items fit.stack.committed)

  -- a crash leaves what it may leave of the history, up to the set
  up-to-set : (base : Base) (history : History) (noted : Option Act) → StandsFor old base history
      → LeavesOnly (kind.state start) (kind.state after) (λ (u : Unit {0}) (files : Files). ShowsLeftWithin base history noted files)
  up-to-set base history noted k =
      let b : Base = now base history in
      let fit = fits-flushed b k.tops k.attempts k.fits in
      taken-moment kind mid after q (length q.stack.committed.items + 1) (kind.state start) next next_is takes base history noted (stand b ∷ []) k.attempts
      (omega (arith, count b (stand b ∷ []) k.attempts fit)) (none b k.tops k.attempts k.fits) k.base_is k.few k.proper (kept-one base history (stand b) refl) k.blamed fit
      (moment old flushed unchanged just_this same refl goes noted base history k)

  pub kept-after : (base : Base) (history : History) → StandsFor old base history → IsKept (kind.state after) q.manifest
  kept-after base history k =
      let b : Base = now base history in
      let fit = fits-flushed b k.tops k.attempts k.fits in
      (untaken-fits kind mid after q (length q.stack.committed.items + 1) next next_is takes b (stand b ∷ []) k.attempts
      (omega (arith, count b (stand b ∷ []) k.attempts fit)) (none b k.tops k.attempts k.fits) fit).manifest

  -- the files of the next epoch were not made
  pub freeze-untaken : (uuid : List ℕ) → kind.faults start + 1 ≤ kind.faults after
      → Goes old (with_disk kind after (record q { steps = q.steps + 1 })) (Some (Fault (Uuid uuid)))
  freeze-untaken uuid rose = record {
    stands = λ base history number k.
        let b : Base = now base history in
        let h : History = history ++ entry number (Fault (Uuid uuid)) ∷ [] in
        let fit = fits-flushed b k.tops k.attempts k.fits in
        let fits : PartsFit kind.tells (kind.state after) q b (stand b ∷ []) k.attempts =
        untaken-fits kind mid after q (length q.stack.committed.items + 1) next next_is takes b (stand b ∷ []) k.attempts
        (omega (arith, count b (stand b ∷ []) k.attempts fit)) (none b k.tops k.attempts k.fits) fit in
        stands-fault old (with_disk kind after (record q { steps = q.steps + 1 })) base history number (Uuid uuid) (stand b ∷ []) k.attempts k rose (omega (arith, steps))
        (omega (arith, goes.sequence, k.low, steps)) (omega (arith, ap sequence_in same.manifest, k.manifest_low, steps))
        (fits-stepped kind.tells (kind.state after) q (q.steps + 1) b (stand b ∷ []) k.attempts fits)
        (kept-one base h (stand b) (ap stand (sym (now-entry base history number (Fault (Uuid uuid)))))) (blamed-more history k.attempts number (Fault (Uuid uuid)) refl k.blamed);
    any_moment = λ base history k. up-to-set base history (Some (Fault (Uuid uuid))) k;
  }

  -- they were
  module _ (top : Top) (has : IsNext next top) (sectors : ℕ) (sectors_is : sectors ≡ sectors_of p.top)
      (made : (frozen : Option Frozen) → frozen ≡ None → NextsFit kind.tells (kind.state mid) sectors (length q.stack.committed.items) frozen q.stack.next
      → NextFits kind.tells (kind.state after) sectors (length q.stack.committed.items) frozen top)
      (uuid body : List ℕ) (long : length uuid ≡ 16) (named : uuid ≢ nil) (written : IsWritten body (length q.stack.committed.items) (Some uuid) sectors)
      (few : length p.stack.lowers + length p.stack.committed.items < 255)
      (unlike : Contains (map (λ (l : LayerIndex). l.head.uuid) (p.stack.lowers ++ p.stack.committed.items)) uuid → ⊥) where
    abbrev ready : Parts
    ready = record q { stack = record q.stack { next = Some top } }

    next-fits : (b : Base) (tops : List Stand) (attempts : List Asked) → PartsFit kind.tells (kind.state start) p b tops attempts → NextFits kind.tells (kind.state after) b.sectors (length b.done) b.frozen top
    next-fits b tops attempts fit =
        let flushed = fits-flushed b tops attempts fit in
        let size : b.sectors ≡ sectors = sym (sectors_is ∙ fit.top.holds.sectors) in
        let number : length q.stack.committed.items ≡ length b.done = count b (stand b ∷ []) attempts flushed in
        subst (λ (n : ℕ). NextFits kind.tells (kind.state after) n (length b.done) b.frozen top) (sym size)
        (subst (λ (k : ℕ). NextFits kind.tells (kind.state after) sectors k b.frozen top) number
        (made b.frozen (none b tops attempts fit)
        (subst (λ (k : ℕ). NextsFit kind.tells (kind.state mid) sectors k b.frozen q.stack.next) (sym number)
        (subst (λ (n : ℕ). NextsFit kind.tells (kind.state mid) n (length b.done) b.frozen q.stack.next) size flushed.stack.next))))

    ready-fits : (b : Base) (tops : List Stand) (attempts : List Asked) → PartsFit kind.tells (kind.state start) p b tops attempts → PartsFit kind.tells (kind.state after) ready b (stand b ∷ []) attempts
    ready-fits b tops attempts fit =
        let flushed = fits-flushed b tops attempts fit in
        taken-fits kind mid after q (length q.stack.committed.items + 1) next next_is top takes has b (stand b ∷ []) attempts
        (omega (arith, count b (stand b ∷ []) attempts flushed)) (none b tops attempts fit) (next-fits b tops attempts fit) flushed

    can-freeze : (b : Base) (tops : List Stand) (attempts : List Asked) → PartsFit kind.tells (kind.state start) p b tops attempts → CanFreeze (b.lowers ++ b.done) b.frozen uuid
    can-freeze b tops attempts fit =
        let layers = layers-append b.lowers b.done p.stack.lowers p.stack.committed.items fit.stack.lowers_are fit.stack.committed in
        record {
          long = long;
          named = named;
          free = none b tops attempts fit;
          few = omega (arith, few, length-append p.stack.lowers p.stack.committed.items, layers-length (b.lowers ++ b.done) (p.stack.lowers ++ p.stack.committed.items) layers);
          unlike = subst (λ (l : List (List ℕ)). Contains l uuid → ⊥) (same-uuids (b.lowers ++ b.done) (p.stack.lowers ++ p.stack.committed.items) layers) unlike;
        }

    names-freeze : (b : Base) (tops : List Stand) (attempts : List Asked) → PartsFit kind.tells (kind.state start) p b tops attempts → IsWritten body (length b.done) (Some uuid) b.sectors
    names-freeze b tops attempts fit =
        let number : length q.stack.committed.items ≡ length b.done = count b (stand b ∷ []) attempts (fits-flushed b tops attempts fit) in
        subst (λ (k : ℕ). IsWritten body k (Some uuid) b.sectors) number
        (subst (λ (n : ℕ). IsWritten body (length q.stack.committed.items) (Some uuid) n) (sectors_is ∙ fit.top.holds.sectors) written)

    freeze-made : (b : Base) (tops : List Stand) (attempts : List Asked) → PartsFit kind.tells (kind.state start) p b tops attempts
        → WasMade (kind.state after) b.sectors b.lowers b.done b.frozen ready.stack (Uuid uuid) body
    freeze-made b tops attempts fit = inl (record { may = can-freeze b tops attempts fit; names = names-freeze b tops attempts fit; made = top; made_is = refl })

    -- and the manifest was set, or that failed
    module _ (final : D) (mark : Mark) (kept : IsKept (kind.state final) mark)
        (run : FileRunBy (file_of q.manifest) (kind.state after) (kind.state final) (λ (attempt : Rest) c. Attempts body q.manifest.rest attempt × ShowsEither q.manifest attempt c)) where
      freeze-moment : (noted : Option Act) (base : Base) (history : History)
          → ((files : Files) → ShowsLeftWith base history (Fault (Uuid uuid)) files → ShowsLeftWithin base history noted files) → StandsFor old base history
          → LeavesOnly (kind.state start) (kind.state final) (λ (u : Unit {0}) (files : Files). ShowsLeftWithin base history noted files)
      freeze-moment noted base history within k =
          let b : Base = now base history in
          let set = set-moment kind.tells (kind.state after) (kind.state final) ready base history (stand b ∷ []) k.attempts (Uuid uuid) body (ready-fits b k.tops k.attempts k.fits)
          written.format (freeze-made b k.tops k.attempts k.fits) k.base_is k.few k.proper (kept-one base history (stand b) refl) k.blamed run in
          leaves-joined (kind.state start) (kind.state after) (kind.state final) (λ (u : Unit {0}) (files : Files). ShowsLeftWithin base history noted files)
          (up-to-set base history noted k) (record {
            later = set.later;
            past = set.past;
            each = λ j from to. let at_j = set.each j from to in (tt, λ files at_it. within files (at_j.1 files at_it));
          })

      pub freeze-failed : IsSameBut q.manifest mark → ((held : List ℕ) → MayHold mark held → MayHold q.manifest held ⊎ (held ≡ body))
          → kind.faults start + 1 ≤ kind.faults final
          → Goes old (with_disk kind final (record ready { manifest = mark; steps = q.steps + 1 })) (Some (Fault (Uuid uuid)))
      freeze-failed but bodies rose = record {
        stands = λ base history number k.
            let b : Base = now base history in
            let h : History = history ++ entry number (Fault (Uuid uuid)) ∷ [] in
            stands-fault old (with_disk kind final (record ready { manifest = mark; steps = q.steps + 1 })) base history number (Uuid uuid) (stand b ∷ []) (Uuid uuid ∷ k.attempts) k rose
            (omega (arith, steps)) (omega (arith, goes.sequence, k.low, steps)) (omega (arith, ap sequence_in but, ap sequence_in same.manifest, k.manifest_low, steps))
            (set-failed kind.tells (kind.state after) ready b (stand b ∷ []) k.attempts (ready-fits b k.tops k.attempts k.fits) (Uuid uuid) body written.format
            (freeze-made b k.tops k.attempts k.fits) (kind.state final) mark (q.steps + 1) run.others kept but bodies)
            (kept-one base h (stand b) (ap stand (sym (now-entry base history number (Fault (Uuid uuid)))))) (blamed-too history k.attempts number (Uuid uuid) k.blamed);
        any_moment = λ base history k. freeze-moment (Some (Fault (Uuid uuid))) base history (λ files left. inr left) k;
      }

      -- after it the top is frozen
      module _ (commit : Commit) (uuid_is : commit.uuid ≡ uuid) (top_is : commit.top ≡ q.top) (table : table_of q.top ≡ table_of p.top)
          (begun : Begun (table_of p.top) uuid (upper_uuid (p.stack.lowers ++ p.stack.committed.items)) (upper_size sectors (p.stack.lowers ++ p.stack.committed.items)) sectors
          (data_file (length p.stack.committed.items)) (sealed_file (length p.stack.committed.items)) commit.sealing)
          (becomes : IsSnapshotOf (arc_value commit.snapshot) p.stack.lowers (p.stack.committed.items ++ layer_in commit.sealing ∷ []))
          (room : vec_len p.stack.committed < vec_capacity p.stack.committed) where
        abbrev frozen-in : Base → Frozen
        frozen-in b = record { uuid = uuid; sheet = b.top }

        commit-fits : (b : Base) (tops : List Stand) (attempts : List Asked) → IsBase b → PartsFit kind.tells (kind.state start) p b tops attempts
            → CommitFits kind.tells (kind.state final) false b.sectors b.lowers b.done (frozen-in b) commit
        commit-fits b tops attempts base_is fit =
            let whole = ready-fits b tops attempts fit in
            let free : b.frozen ≡ None = none b tops attempts fit in
            let epoch : epoch_of q.top ≡ length b.done = whole.epoch ∙ free-epoch b free in
            let heads : HeadsAsked = heads_asked whole.exact (shows.epoch_of b) b.lowers in
            let stays : TopFits kind.tells (kind.state final) b.sectors heads q.top (stand b) (stand b ∷ []) =
            set-top kind.tells (kind.state after) ready b (stand b ∷ []) attempts whole (kind.state final) run.others in
            let less : TopFits kind.tells (kind.state final) b.sectors (heads_asked false (shows.epoch_of b) b.lowers) q.top (stand b) (stand b ∷ []) =
            fits-less kind.tells (kind.state final) b.sectors heads (heads_asked false (shows.epoch_of b) b.lowers)
            (λ e. absurd (let no : false ≡ true = e in cc)) (λ parent is. is) (view_of q.top) (stand b) (stand b ∷ []) stays in
            let here : TopFits kind.tells (kind.state final) b.sectors (heads_asked false (length b.done) b.lowers) q.top (stand b) (stand b ∷ []) =
            subst (λ e. TopFits kind.tells (kind.state final) b.sectors (heads_asked false e b.lowers) q.top (stand b) (stand b ∷ [])) (free-epoch b free) less in
            let segments : (table_of p.top).segments ≡ (table_of q.top).segments = ap (λ (t : Table). t.segments) (sym table) in
            let number : length p.stack.committed.items ≡ length b.done = sym (layers-length b.done p.stack.committed.items fit.stack.committed) in
            let size : sectors ≡ b.sectors = sectors_is ∙ fit.top.holds.sectors in
            let layers = layers-append b.lowers b.done p.stack.lowers p.stack.committed.items fit.stack.lowers_are fit.stack.committed in
            let started : Begun (table_of p.top) uuid (upper_uuid (p.stack.lowers ++ p.stack.committed.items)) (upper_size sectors (p.stack.lowers ++ p.stack.committed.items)) b.sectors
            (data_file (length p.stack.committed.items)) (sealed_file (length p.stack.committed.items)) commit.sealing =
            subst (λ (n : ℕ). Begun (table_of p.top) uuid (upper_uuid (p.stack.lowers ++ p.stack.committed.items)) (upper_size sectors (p.stack.lowers ++ p.stack.committed.items)) n
            (data_file (length p.stack.committed.items)) (sealed_file (length p.stack.committed.items)) commit.sealing) size begun in
            let parent : upper_uuid (p.stack.lowers ++ p.stack.committed.items) ≡ top_uuid (b.lowers ++ b.done) =
            same-upper (b.lowers ++ b.done) (p.stack.lowers ++ p.stack.committed.items) layers in
            let below : upper_size sectors (p.stack.lowers ++ p.stack.committed.items) ≡ top_size (length b.top) (b.lowers ++ b.done) =
            ap (λ (n : ℕ). upper_size n (p.stack.lowers ++ p.stack.committed.items)) (size ∙ sym base_is.top_is.count)
            ∙ same-size (length b.top) (b.lowers ++ b.done) (p.stack.lowers ++ p.stack.committed.items) layers in
            let sheet : table_sheet here.file b.sectors (table_of p.top) ≡ b.top =
            own-sheet kind.tells (kind.state final) b.sectors (heads_asked false (length b.done) b.lowers) (view_of q.top) (stand b) (stand b ∷ []) here (table_of p.top) segments in
            record {
              uuid_is = uuid_is;
              epoch = ap epoch_of top_is ∙ epoch;
              rows = b.rows;
              filled = b.filled;
              top = subst (λ (t : Top). TopFits kind.tells (kind.state final) b.sectors (heads_asked false (length b.done) b.lowers) t (stand b) (stand b ∷ [])) (sym top_is) here;
              stored = here.file;
              sealing = begun-fits kind.tells (kind.state final) b.sectors (heads_asked false (length b.done) b.lowers) (view_of q.top) (stand b) (stand b ∷ []) here (table_of p.top) segments
                  uuid (upper_uuid (p.stack.lowers ++ p.stack.committed.items)) (upper_size sectors (p.stack.lowers ++ p.stack.committed.items))
                  (data_file (length p.stack.committed.items)) (sealed_file (length p.stack.committed.items)) commit.sealing started (ap data_file (number ∙ sym epoch));
              from = started.from_is ∙ ap data_file number;
              to = started.to_is ∙ ap sealed_file number;
              file = started.file here.file ∙ (λ i. canonical.file_of uuid (parent i) (below i) (sheet i));
            }

        pub freeze-done : IsSet q.manifest body mark → ((held : List ℕ) → MayHold mark held → held ≡ body) → kind.faults start ≤ kind.faults final
            → Goes old (with_disk kind final (record q { manifest = mark; stack = record q.stack { commit = Some commit; next = None }; top = top; steps = q.steps + 1 })) (Some (Freeze uuid))
        freeze-done set bodies rise = record {
          stands = λ base history number k.
              let b : Base = now base history in
              let h : History = history ++ entry number (Freeze uuid) ∷ [] in
              let whole = ready-fits b k.tops k.attempts k.fits in
              let good = base-stays base history k.base_is k.few k.proper in
              let names = names-freeze b k.tops k.attempts k.fits in
              let may = can-freeze b k.tops k.attempts k.fits in
              let b' : Base = step b (Freeze uuid) in
              let under : StackFits kind.tells (kind.state final) whole.exact b.sectors b.lowers b.done b.frozen ready.stack =
              set-stack kind.tells (kind.state after) ready b (stand b ∷ []) k.attempts whole (kind.state final) run.others in
              let fresh : NextFits kind.tells (kind.state final) b.sectors (length b.done) b.frozen top = under.next in
              let less : IsSound false b = sound-weaker whole.exact false b (λ e. absurd (let no : false ≡ true = e in cc)) whole.sound in
              let z : Parts = record q { manifest = mark; stack = record q.stack { commit = Some commit; next = None }; top = top; steps = q.steps + 1 } in
              let fits : PartsFit kind.tells (kind.state final) z b' (fresh_stand b.sectors ∷ []) [] = record {
                exact = false;
                sound = record { size = less.size; few = omega (arith, may.few, length-append b.lowers b.done); stack = less.stack; unlike = may.unlike };
                manifest_is = ap file_of set ∙ whole.manifest_is;
                manifest = kept;
                format = λ held holds is. absurd (let e : false ≡ true = sym (ap exact_said (bodies held holds) ∙ written-exact body written.format) ∙ is in cc);
                named = λ held holds. inl (subst (λ (d : List ℕ). Names d (length b.done) (Some uuid) b.sectors) (sym (bodies held holds)) names.names);
                stack = record {
                  lowers_are = under.lowers_are;
                  committed = under.committed;
                  sealed = under.sealed;
                  snapshot = under.snapshot;
                  commit = commit-fits b k.tops k.attempts good.0 k.fits;
                  becomes = λ c is.
                      let own : commit ≡ c = some-same commit c is in
                      subst (λ c. Becomes z.stack c) own (record {
                        snapshot = subst (λ (s : Stack). IsSnapshotOf (arc_value commit.snapshot) s.lowers (s.committed.items ++ layer_in commit.sealing ∷ [])) (sym same.stack) becomes;
                        room = subst (λ (s : Stack). vec_len s.committed < vec_capacity s.committed) (sym same.stack) room;
                      });
                  next = tt;
                };
                epoch = fresh.epoch;
                top = subst (λ a. TopFits kind.tells (kind.state final) b.sectors (asked_of false a) top (fresh_stand b.sectors) (fresh_stand b.sectors ∷ [])) (sym (unasked (length b.done) b.lowers)) fresh.top;
              } in
              stands-act old (with_disk kind final z) base history number (Freeze uuid) (fresh_stand b.sectors ∷ []) [] k may (record { rows_fit = omega arith; sectors_fit = omega arith }) refl rise
              (omega (arith, steps)) (omega (arith, fresh.sequence)) (omega (arith, ap sequence_in set, ap sequence_in same.manifest, k.manifest_low, steps)) fits
              (kept-one base h (fresh_stand b.sectors) (ap stand (sym (now-entry base history number (Freeze uuid))))) (All-nil (Blamed h));
          any_moment = λ base history k. freeze-moment (Some (Freeze uuid)) base history (λ files left. inr (inr left)) k;
        }

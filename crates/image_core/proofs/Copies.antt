-- A copy of a commit's file, and its seal.
use Rattle.std.proofs.Common.{◌≡◌, ◌⊎◌, ℕ, ◌+◌, ◌*◌, ◌^◌, ◌<◌, ◌≤◌, inl, inr, Bool, true, false, IsTrue, List, [], ◌∷◌, ◌++◌, length, map, refl, sym, ap, ◌∙◌, subst, arith, length-append}
use Rattle.std.specs.Prelude.{All, Contains, Option, Some, None, slice_index_or, min}
use Rattle.std.specs.Arc.{arc_value}
use Rattle.std.proofs.lemmas.List.{get_or_append_left, get_or_at}
use Rattle.std.proofs.lemmas.List.Elements.{All-nil}
use Rattle.std.proofs.lemmas.Bool.Decides.{leb_tells}
use Rattle.block_disk.specs.DiskState.{DiskState, Files, Leaves}
use Rattle.block_disk.specs.declared.disk.Disk.{Ghosts}
use Rattle.block_disk.specs.Claims.{LeavesOnly, FileRun, FileRunBy, Quiet}
use Rattle.gate_mark.specs.declared.mark.Mark.{Mark}
use Rattle.gate_mark.specs.declared.mark.Rest.{Rest}
use Rattle.gate_mark.specs.Mark.{file_of, sequence_in, IsKept, MayHold, ShowsEither, Attempts, IsSet, IsSameBut}
use Rattle.flat_image.specs.declared.act.Act.{Act}
use Rattle.flat_image.specs.declared.act.Act.TheVariants.{Seal, Fault}
use Rattle.flat_image.specs.declared.act.Asked.{Asked}
use Rattle.flat_image.specs.declared.act.Asked.TheVariants.{Nothing, Uuid, Sectors}
use Rattle.flat_image.specs.declared.base.Base.{Base}
use Rattle.flat_image.specs.Base.{pending_of, IsBase, HasFewStretches}
use Rattle.flat_image.specs.Entries.{entry}
use Rattle.flat_image.specs.Frozen.{Frozen}
use Rattle.flat_image.specs.History.{History, now, step, Proper}
use Rattle.flat_image.specs.Left.{Stand, stand, Blamed}
use Rattle.flat_image.specs.LayerFiles.{LayerOf}
use Rattle.flat_image.proofs.HistoryLaws.{now-entry, proper-room, base-stays}
use Rattle.layer_commit.specs.Fitting.{SealFits, IsWhole, with_done}
use Rattle.layer_commit.specs.Sources.{AreWithin}
use Rattle.layer_commit.specs.View.{SealView, file_by, pieces_of}
use Rattle.sealed_layer.specs.Layers.{LayerIndex}
use Rattle.top_writer.specs.declared.top.Top.{Top}
use Rattle.top_writer.specs.Files.{TopFiles, HeadsAsked}
use Rattle.top_writer.specs.Fitting.{TopFits}
use Rattle.top_writer.specs.Showing.{ShowsOne}
use Rattle.top_writer.specs.View.{epoch_of, sequence_of}
use Rattle.top_writer.proofs.Going.{fits_spared}
use Rattle.image_core.specs.declared.parts.Commit.{Commit}
use Rattle.image_core.specs.declared.parts.Stack.{Stack}
use Rattle.image_core.specs.declared.parts.Parts.{Parts}
use Rattle.image_core.specs.Numbers.{manifest_file, sealed_file, with_pending}
use Rattle.image_core.specs.Manifest.{Names, IsWritten, exact_said}
use Rattle.image_core.specs.Shows as shows
use Rattle.image_core.specs.Shows.{heads_asked, IsFrozenFile, IsSound}
use Rattle.image_core.specs.View.{CommitView}
use Rattle.image_core.specs.Committing.{IsCopied}
use Rattle.image_core.specs.declared.commit.CopyState.TheVariants.{More}
use Rattle.image_core.specs.Pieces.{IsSnapshotOf}
use Rattle.image_core.specs.FileSets.{FilesFit, WasTried}
use Rattle.image_core.specs.MayBe.{ShowsMayBe, KeptStand}
use Rattle.image_core.specs.Standing.{ShowsLeft}
use Rattle.image_core.specs.Parts.{commit_view, AreWhole, layer_in, sealed_by, frozen_stand, CommitFits, CommitsFit, NextFits, NextsFit, Becomes, StackFits, FreezeMade, SealMade, WasMade, PartsFit}
use Rattle.image_core.specs.Seen.{Seen, with_disk, StandsFor, ShowsLeftWith, ShowsLeftWithin, Goes}
use Rattle.image_core.proofs.FilesShown.{files-shown, written-exact}
use Rattle.image_core.proofs.Lifts.{left-of, kept-more, blamed-too, blamed-more}
use Rattle.image_core.proofs.ManifestSets.{set-stack, set-top, set-failed, set-moment, stands-act, stands-fault}
use Rattle.image_core.proofs.PartsHold.{files-of, held-body}
use Rattle.image_core.proofs.Freezes.{fits-stepped, some-same, stands-so}
use Rattle.image_core.proofs.FrozenTops.{layers-append}
use Rattle.image_core.proofs.SheetsRead.{layers-length}
use Rattle.image_core.proofs.StackLaws.{not-manifest, not-sealed, top-shown, sealed-spared, nexts-spared}
use Rattle.top_writer.proofs.Going.{KnowsNow}
use Rattle.image_core.proofs.StepGoes.{goes-not, left-within}

-- the commit of an image in which a sheet is frozen
pub frozen-some : (tells : Bool) (disk : DiskState) (exact : Bool) (n : ℕ) (lowers done : List (List ℕ)) (frozen : Option Frozen) (held : Option Commit) (c : Commit) → held ≡ Some c
    → CommitsFit tells disk exact n lowers done frozen held → (f : Frozen) × (frozen ≡ Some f) × CommitFits tells disk exact n lowers done f c
frozen-some tells disk exact n lowers done None None c is fit = absurd (let e : None ≡ Some c = is in cc)
frozen-some tells disk exact n lowers done None (Some d) c is fit = absurd fit
frozen-some tells disk exact n lowers done (Some f) None c is fit = absurd fit
frozen-some tells disk exact n lowers done (Some f) (Some d) c is fit = (f, refl, subst (CommitFits tells disk exact n lowers done f) (some-same d c is) fit)

-- a list is a place longer
pub whole-more : (tells : Bool) (disk : DiskState) (done : List (List ℕ)) (file : List ℕ) → AreWhole tells disk done → IsWhole tells disk (sealed_file (length done)) file → AreWhole tells disk (done ++ file ∷ [])
whole-more tells disk done file are last k below =
    elim (leb_tells (k + 1) (length done)) [
      | inl e ↦ subst (IsWhole tells disk (sealed_file k)) (sym (get_or_append_left done (file ∷ []) [] k (omega (arith, e.1)))) (are k (omega (arith, e.1)))
      | inr e ↦
          let here : length done ≡ k = omega (arith, e.1, below, length-append done (file ∷ [])) in
          subst (λ (j : ℕ). IsWhole tells disk (sealed_file j) (slice_index_or (done ++ file ∷ []) j [])) here
          (subst (IsWhole tells disk (sealed_file (length done))) (sym (get_or_at done file [] [] (length done) refl)) last)
    ]

-- A run on the file of the commit in progress, of which pieces are left: no body that a crash leaves names it.
module _ (tells : Bool) (old new : DiskState) (p : Parts) (b : Base) (tops : List Stand) (attempts : List Asked) (fit : PartsFit tells old p b tops attempts)
    (c : Commit) (held : p.stack.commit ≡ Some c) (left : c.sealing.done < pieces_of c.sealing)
    (run : FileRun (sealed_file (length b.done)) old new (λ file. Unit {0})) where
  abbrev Own : ℕ → Type 0
  Own f = f ≡ sealed_file (length b.done)

  of_commit : (f : Frozen) × (b.frozen ≡ Some f) × CommitFits tells old fit.exact b.sectors b.lowers b.done f c
  of_commit = frozen-some tells old fit.exact b.sectors b.lowers b.done b.frozen p.stack.commit c held fit.stack.commit

  not-top : (e f : ℕ) → TopFiles e f → ¬ Own f
  not-top e f of_top is = not-sealed e (length b.done) (subst (TopFiles e) is of_top)

  not-below : (k : ℕ) → k < length b.done → ¬ Own (sealed_file k)
  not-below k below is = omega (arith, below, is)

  frozen-apart : (frozen : Option Frozen) (f : ℕ) → IsFrozenFile (length b.done) frozen f → ¬ Own f
  frozen-apart None f of_frozen is = absurd of_frozen
  frozen-apart (Some frozen) f of_frozen is = not-top (length b.done) f of_frozen is

  tried-beside : (asked : Asked) (body : List ℕ) (files : Files) → WasMade old b.sectors b.lowers b.done b.frozen p.stack asked body → WasTried b asked body files
  tried-beside Nothing body files made = absurd made
  tried-beside (Uuid uuid) body files (inl m) = absurd (let e : Some of_commit.0 ≡ None = sym of_commit.1 ∙ m.may.free in cc)
  tried-beside (Uuid uuid) body files (inr m) = absurd (omega (arith, m.all c held, left))
  tried-beside (Sectors sectors) body files m = m

  copy-files : (files : Files) → ((f : ℕ) → ¬ Own f → old.may_leave f (files f)) → FilesFit b tops attempts files
  copy-files files at =
      let body = held-body tells old p b tops attempts fit files (at manifest_file (λ is. omega (arith, is))) in
      let heads : HeadsAsked = heads_asked fit.exact (shows.epoch_of b) b.lowers in
      let one : ShowsOne (epoch_of p.top) b.sectors heads tops files =
      top-shown tells old b.sectors heads p.top (stand b) tops fit.top files (λ f of_top. at f (not-top (epoch_of p.top) f of_top)) in
      files-of tells old p b tops attempts fit tops attempts files body.0 body.1 body.3 (fit.format body.1 body.2)
      (elim (fit.named body.1 body.2) [
        | inl names ↦ inl names
        | inr m ↦ inr (m.0, m.1, tried-beside m.0 body.1 files m.2)
      ])
      (λ k below. at (sealed_file k) (not-below k below))
      (λ f of_frozen. at f (frozen-apart b.frozen f of_frozen))
      (subst (λ e. ShowsOne e b.sectors heads tops files) fit.epoch one)

  -- and what the image is after it, with whatever is written then
  made-copied : (asked : Asked) (body : List ℕ) (d : Commit) → WasMade old b.sectors b.lowers b.done b.frozen p.stack asked body
      → WasMade new b.sectors b.lowers b.done b.frozen (record p.stack { commit = Some d }) asked body
  made-copied Nothing body d made = absurd made
  made-copied (Uuid uuid) body d (inl m) = absurd (let e : Some of_commit.0 ≡ None = sym of_commit.1 ∙ m.may.free in cc)
  made-copied (Uuid uuid) body d (inr m) = absurd (omega (arith, m.all c held, left))
  made-copied (Sectors sectors) body d m = m

  pub copied : (d : Commit) → d.uuid ≡ c.uuid → d.top ≡ c.top → d.snapshot ≡ c.snapshot → d.sealing ≡ with_done c.sealing d.sealing.done
      → ((stored : List ℕ) → SealFits tells old c.sealing stored → SealFits tells new d.sealing stored)
      → PartsFit tells new (record p { stack = record p.stack { commit = Some d } }) b tops attempts
  copied d uuid_is top_is snapshot_is sealing_is goes =
      let heads : HeadsAsked = heads_asked fit.exact (shows.epoch_of b) b.lowers in
      let under = fit.stack in
      let own = of_commit.2 in
      let pending : b.frozen ≡ Some of_commit.0 = of_commit.1 in
      let f : Frozen = of_commit.0 in
      let s : Stand = frozen_stand f own.rows own.filled in
      let asked : HeadsAsked = heads_asked fit.exact (length b.done) b.lowers in
      let commit : CommitFits tells new fit.exact b.sectors b.lowers b.done f d = record {
        uuid_is = uuid_is ∙ own.uuid_is;
        epoch = ap epoch_of top_is ∙ own.epoch;
        rows = own.rows;
        filled = own.filled;
        top = subst (λ (t : Top). TopFits tells new b.sectors asked t s (s ∷ [])) (sym top_is)
            (fits_spared tells old new b.sectors asked c.top s (s ∷ []) Own run.others (λ file of_top. not-top (epoch_of c.top) file of_top) own.top);
        stored = own.stored;
        sealing = goes own.stored own.sealing;
        from = ap (λ v. v.from_file) sealing_is ∙ own.from;
        to = ap (λ v. v.to_file) sealing_is ∙ own.to;
        file = ap (λ v. file_by v own.stored) sealing_is ∙ own.file;
      } in
      record {
        exact = fit.exact;
        sound = fit.sound;
        manifest_is = fit.manifest_is;
        manifest = λ file left. fit.manifest file (run.others.left p.manifest.file file (λ is. omega (arith, is, fit.manifest_is)) left);
        format = fit.format;
        named = λ body may. elim (fit.named body may) [
          | inl names ↦ inl names
          | inr m ↦ inr (m.0, m.1, made-copied m.0 body d m.2)
        ];
        stack = record {
          lowers_are = under.lowers_are;
          committed = under.committed;
          sealed = sealed-spared tells old new Own run.others b.done not-below under.sealed;
          snapshot = under.snapshot;
          commit = subst (λ (o : Option Frozen). CommitsFit tells new fit.exact b.sectors b.lowers b.done o (Some d)) (sym pending) commit;
          becomes = λ e is.
              let was = under.becomes c held in
              subst (λ e. Becomes (record p.stack { commit = Some d }) e) (some-same d e is) (record {
                snapshot = subst (λ v. IsSnapshotOf (arc_value v) p.stack.lowers (p.stack.committed.items ++ layer_in d.sealing ∷ [])) (sym snapshot_is)
                    (subst (λ (v : SealView). IsSnapshotOf (arc_value c.snapshot) p.stack.lowers (p.stack.committed.items ++ layer_in v ∷ [])) (sym sealing_is) was.snapshot);
                room = was.room;
              });
          next = nexts-free p.stack.next under.next;
        };
        epoch = fit.epoch;
        top = fits_spared tells old new b.sectors heads p.top (stand b) tops Own run.others (λ file of_top. not-top (epoch_of p.top) file of_top) fit.top;
      }
    where
      nexts-free : (next : Option Top) → NextsFit tells old b.sectors (length b.done) b.frozen next → NextsFit tells new b.sectors (length b.done) b.frozen next
      nexts-free None is = tt
      nexts-free (Some t) is = absurd (let e : Some of_commit.0 ≡ None = sym of_commit.1 ∙ is.free in cc)

-- the same commit, of which more is written perhaps
pub record IsSameCommit (c d : Commit) : Type 0 where
  pub uuid : d.uuid ≡ c.uuid
  pub top : d.top ≡ c.top
  pub snapshot : d.snapshot ≡ c.snapshot
  pub sealing : d.sealing ≡ with_done c.sealing d.sealing.done

same-commit : (c d : Commit) → IsSameCommit c d → d.sealing ≡ c.sealing → d ≡ c
same-commit c d same sealing i = record { uuid = same.uuid i; top = same.top i; sealing = sealing i; snapshot = same.snapshot i }

-- a commit that is put back as it was
pub put-back : (s : Stack) (c d : Commit) → s.commit ≡ Some c → d ≡ c → record s { commit = Some d } ≡ s
put-back s c d held is = ap (λ (o : Option Commit). record s { commit = o }) (ap (λ (e : Commit). Some e) is ∙ sym held)

-- a copy from the disk at the start of it
module _ {D : Type 0} (kind : Ghosts D) (start after : D) (p : Parts) (c d : Commit) (held : p.stack.commit ≡ Some c) (same : IsSameCommit c d) (now_at : KnowsNow (kind.state start))
    (goes : (stored : List ℕ) → SealFits kind.tells (kind.state start) c.sealing stored → SealFits kind.tells (kind.state after) d.sealing stored)
    (run : FileRun c.sealing.to_file (kind.state start) (kind.state after) (λ file. Unit {0}))
    (none : c.sealing.done ≡ pieces_of c.sealing → (after ≡ start) × (d.sealing ≡ c.sealing)) where
  abbrev before : Seen
  before = with_disk kind start p

  own-run : (b : Base) (tops : List Stand) (attempts : List Asked) → PartsFit kind.tells (kind.state start) p b tops attempts
      → FileRun (sealed_file (length b.done)) (kind.state start) (kind.state after) (λ file. Unit {0})
  own-run b tops attempts fit =
      let own = frozen-some kind.tells (kind.state start) fit.exact b.sectors b.lowers b.done b.frozen p.stack.commit c held fit.stack.commit in
      subst (λ (f : ℕ). FileRun f (kind.state start) (kind.state after) (λ file. Unit {0})) own.2.to run

  is-left : (b : Base) (tops : List Stand) (attempts : List Asked) → PartsFit kind.tells (kind.state start) p b tops attempts
      → (c.sealing.done < pieces_of c.sealing) ⊎ (c.sealing.done ≡ pieces_of c.sealing)
  is-left b tops attempts fit =
      let own = frozen-some kind.tells (kind.state start) fit.exact b.sectors b.lowers b.done b.frozen p.stack.commit c held fit.stack.commit in
      elim (leb_tells (c.sealing.done + 1) (pieces_of c.sealing)) [
        | inl e ↦ inl (omega (arith, e.1))
        | inr e ↦ inr (omega (arith, e.1, own.2.sealing.sound.done))
      ]

  copy-fits : (b : Base) (tops : List Stand) (attempts : List Asked) → PartsFit kind.tells (kind.state start) p b tops attempts
      → PartsFit kind.tells (kind.state after) (record p { stack = record p.stack { commit = Some d } }) b tops attempts
  copy-fits b tops attempts fit =
      elim (is-left b tops attempts fit) [
        | inl more ↦ copied kind.tells (kind.state start) (kind.state after) p b tops attempts fit c held more (own-run b tops attempts fit) d same.uuid same.top same.snapshot same.sealing goes
        | inr all ↦
            let stays = none all in
            let back : record p.stack { commit = Some d } ≡ p.stack = put-back p.stack c d held (same-commit c d same stays.1) in
            subst (λ (s : Stack). PartsFit kind.tells (kind.state after) (record p { stack = s }) b tops attempts) (sym back)
            (subst (λ (e : D). PartsFit kind.tells (kind.state e) p b tops attempts) (sym stays.0) fit)
      ]

  copy-moment : (noted : Option Act) (base : Base) (history : History) → StandsFor before base history
      → LeavesOnly (kind.state start) (kind.state after) (λ (u : Unit {0}) (files : Files). ShowsLeftWithin base history noted files)
  copy-moment noted base history k =
      let b : Base = now base history in
      let good = base-stays base history k.base_is k.few k.proper in
      elim (is-left b k.tops k.attempts k.fits) [
        | inl more ↦
            let ran = own-run b k.tops k.attempts k.fits in
            let left : (files : Files) → ((f : ℕ) → ¬ (f ≡ sealed_file (length b.done)) → (kind.state start).may_leave f (files f)) → ShowsLeft base history files =
            λ files others.
            let shown : ShowsMayBe b k.tops k.attempts files =
            files-shown b k.tops k.attempts files good.0 good.1 (copy-files kind.tells (kind.state start) (kind.state after) p b k.tops k.attempts k.fits c held more ran files others) in
            record { found = shown.found; shows = shown.shows; left = left-of base history k.tops k.attempts shown.found k.kept k.blamed shown.may_be } in
            record {
              later = ran.leaves.later;
              past = ran.leaves.past;
              each = λ j from to. let at_j = ran.leaves.each j from to in (tt, λ files at_it. left-within base history noted files (left files (at_j.1 files at_it).others));
            }
        | inr all ↦
            let stays = none all in
            let still = (goes-not before now_at).any_moment base history k in
            subst (λ (e : D). LeavesOnly (kind.state start) (kind.state e) (λ (u : Unit {0}) (files : Files). ShowsLeftWithin base history noted files)) (sym stays.0)
            (record {
              later = still.later;
              past = still.past;
              each = λ j from to. let at_j = still.each j from to in (tt, λ files at_it. left-within base history noted files (at_j.1 files at_it));
            })
      ]

  pub copy-done : kind.faults start ≤ kind.faults after
      → Goes before (with_disk kind after (record p { stack = record p.stack { commit = Some d } })) None
  copy-done rise = record {
    stands = λ base history number k. record {
      base_is = k.base_is;
      few = k.few;
      proper = k.proper;
      failed = omega (arith, k.failed, rise);
      steps = k.steps;
      low = k.low;
      manifest_low = k.manifest_low;
      tops = k.tops;
      attempts = k.attempts;
      fits = copy-fits (now base history) k.tops k.attempts k.fits;
      kept = k.kept;
      blamed = k.blamed;
    };
    any_moment = λ base history k. copy-moment None base history k;
  }

  pub copy-failed : kind.faults start + 1 ≤ kind.faults after
      → Goes before (with_disk kind after (record p { stack = record p.stack { commit = Some d }; steps = p.steps + 1 })) (Some (Fault Nothing))
  copy-failed rose = record {
    stands = λ base history number k.
        stands-fault before (with_disk kind after (record p { stack = record p.stack { commit = Some d }; steps = p.steps + 1 })) base history number Nothing k.tops k.attempts k rose refl
        (omega (arith, k.low)) (omega (arith, k.manifest_low))
        (fits-stepped kind.tells (kind.state after) (record p { stack = record p.stack { commit = Some d } }) (p.steps + 1) (now base history) k.tops k.attempts
        (copy-fits (now base history) k.tops k.attempts k.fits))
        (kept-more base history k.tops number (Fault Nothing) refl k.kept) (blamed-more history k.attempts number (Fault Nothing) refl k.blamed);
    any_moment = λ base history k. copy-moment (Some (Fault Nothing)) base history k;
  }

-- a sealing of which so many pieces are written has that many
pub with-own : (u v : SealView) (k : ℕ) → v ≡ with_done u k → v ≡ with_done u v.done
with-own u v k is = is ∙ ap (with_done u) (sym (ap (λ (w : SealView). w.done) is))

-- where all are written no more are
pub none-more : (u v : SealView) → v ≡ with_done u (min (u.done + 1) (pieces_of u)) → u.done ≡ pieces_of u → v ≡ u
none-more u v is all = is ∙ ap (with_done u) (let e : min (u.done + 1) (pieces_of u) ≡ u.done = omega (arith, all) in e)

-- a piece more was written, and pieces are left
pub copied-more : (old : Option CommitView) (c d : Commit) → old ≡ Some (commit_view c) → d.sealing ≡ with_done c.sealing (min (c.sealing.done + 1) (pieces_of c.sealing))
    → c.sealing.done ≤ pieces_of c.sealing → (d.sealing.done ≡ pieces_of c.sealing → ⊥) → IsCopied old (Some (commit_view d)) More
copied-more old c d was is within not =
    let total : pieces_of d.sealing ≡ pieces_of c.sealing = ap pieces_of is in
    let done : d.sealing.done ≡ min (c.sealing.done + 1) (pieces_of c.sealing) = ap (λ (v : SealView). v.done) is in
    subst (λ (o : Option CommitView). IsCopied o (Some (commit_view d)) More) (sym was) (record {
      done = done;
      total = total;
      more = (λ same. omega (arith, done, total, within, below done), λ less. refl);
      whole = (λ no. absurd (let e : ⊥ = cc in e), λ all. absurd (not (all ∙ total)));
    })
  where
    below : d.sealing.done ≡ min (c.sealing.done + 1) (pieces_of c.sealing) → d.sealing.done < pieces_of c.sealing
    below done =
        elim (leb_tells (d.sealing.done + 1) (pieces_of c.sealing)) [
          | inl e ↦ omega (arith, e.1)
          | inr e ↦ absurd (not (omega (arith, e.1, done, within)))
        ]

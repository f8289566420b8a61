-- A seal of a commit: a sync of its file, and a set of the manifest.
use Rattle.std.proofs.Common.{◌≡◌, ◌⊎◌, ℕ, ◌+◌, ◌*◌, ◌^◌, ◌<◌, ◌≤◌, inl, inr, Bool, true, false, IsTrue, List, [], ◌∷◌, ◌++◌, length, refl, sym, ap, ◌∙◌, subst, arith, length-append}
use Rattle.std.specs.Prelude.{All, Contains, Option, Some, None}
use Rattle.std.specs.Arc.{arc_value}
use Rattle.std.proofs.lemmas.List.Elements.{All-nil}
use Rattle.block_disk.specs.DiskState.{DiskState, Files, Leaves}
use Rattle.block_disk.specs.declared.disk.Disk.{Ghosts}
use Rattle.block_disk.specs.Claims.{LeavesOnly, FileRunBy, Quiet}
use Rattle.gate_mark.specs.declared.mark.Mark.{Mark}
use Rattle.gate_mark.specs.declared.mark.Rest.{Rest}
use Rattle.gate_mark.specs.Mark.{file_of, sequence_in, IsKept, MayHold, ShowsEither, Attempts, IsSet, IsSameBut}
use Rattle.flat_image.specs.declared.act.Act.{Act}
use Rattle.flat_image.specs.declared.act.Act.TheVariants.{Seal, Fault}
use Rattle.flat_image.specs.declared.act.Asked.{Asked}
use Rattle.flat_image.specs.declared.act.Asked.TheVariants.{Uuid}
use Rattle.flat_image.specs.declared.base.Base.{Base}
use Rattle.flat_image.specs.Base.{pending_of}
use Rattle.flat_image.specs.Entries.{entry}
use Rattle.flat_image.specs.Frozen.{Frozen}
use Rattle.flat_image.specs.History.{History, now, step}
use Rattle.flat_image.specs.Left.{Stand, stand, Blamed}
use Rattle.flat_image.specs.LayerFiles.{LayerOf}
use Rattle.flat_image.proofs.HistoryLaws.{now-entry, proper-room, base-stays}
use Rattle.layer_commit.specs.Fitting.{SealFits, IsWhole}
use Rattle.layer_commit.specs.Sources.{AreWithin}
use Rattle.layer_commit.specs.View.{file_by, pieces_of}
use Rattle.top_writer.specs.declared.top.Top.{Top}
use Rattle.top_writer.specs.Files.{HeadsAsked}
use Rattle.top_writer.specs.Fitting.{TopFits}
use Rattle.top_writer.specs.Stands.{unchanged, as_before}
use Rattle.top_writer.specs.View.{view_of, epoch_of, sectors_of, sequence_of}
use Rattle.top_writer.proofs.Going.{KnowsNow}
use Rattle.image_core.specs.declared.parts.Commit.{Commit}
use Rattle.image_core.specs.declared.parts.Stack.{Stack}
use Rattle.image_core.specs.declared.parts.Parts.{Parts}
use Rattle.image_core.specs.Numbers.{sealed_file}
use Rattle.image_core.specs.Manifest.{Names, IsWritten, exact_said}
use Rattle.image_core.specs.Shows as shows
use Rattle.image_core.specs.Shows.{heads_asked, IsSound}
use Rattle.image_core.specs.View.{AreLayersOf}
use Rattle.image_core.specs.Pieces.{IsSnapshotOf}
use Rattle.image_core.specs.Parts.{layer_in, sealed_by, CommitFits, CommitsFit, NextsFit, StackFits, WasMade, PartsFit}
use Rattle.image_core.specs.Seen.{Seen, with_disk, StandsFor, ShowsLeftWith, ShowsLeftWithin, Goes}
use Rattle.image_core.proofs.Copies.{frozen-some, whole-more}
use Rattle.image_core.proofs.FilesShown.{with_seal, sealed-step, sealed-sound, sealed-epoch, written-exact}
use Rattle.image_core.proofs.FrozenTops.{fits-less, layers-append}
use Rattle.image_core.proofs.Lifts.{kept-more, blamed-too}
use Rattle.image_core.proofs.MadeLast.{leaves-joined}
use Rattle.image_core.proofs.ManifestSets.{set-stack, set-top, set-failed, set-moment, stands-act, stands-fault}
use Rattle.image_core.proofs.SheetsRead.{layers-length}
use Rattle.image_core.proofs.Sizes.{sound-weaker}
use Rattle.image_core.proofs.StackLaws.{whole-spared}
use Rattle.image_core.proofs.StepGoes.{fits-after, moment, quiet-goes}

-- while a commit is in progress no files of a next top are made
next-none : (tells : Bool) (disk : DiskState) (n done : ℕ) (frozen : Option Frozen) (next : Option Top) (f : Frozen) → frozen ≡ Some f → NextsFit tells disk n done frozen next → next ≡ None
next-none tells disk n done frozen None f is fit = refl
next-none tells disk n done frozen (Some t) f is fit = absurd (let e : Some f ≡ None = sym is ∙ fit.free in cc)

-- nothing is in progress, and nothing made
none-fits : (tells : Bool) (disk : DiskState) (exact : Bool) (n : ℕ) (lowers done : List (List ℕ)) (commit : Option Commit) → commit ≡ None → CommitsFit tells disk exact n lowers done None commit
none-fits tells disk exact n lowers done None is = tt
none-fits tells disk exact n lowers done (Some c) is = absurd (let e : Some c ≡ None = is in cc)

none-next : (tells : Bool) (disk : DiskState) (n done : ℕ) (frozen : Option Frozen) (next : Option Top) → next ≡ None → NextsFit tells disk n done frozen next
none-next tells disk n done frozen None is = tt
none-next tells disk n done frozen (Some t) is = absurd (let e : Some t ≡ None = is in cc)

-- A seal from the disk at the start of it, of which the file was synced.
module _ {D : Type 0} (kind : Ghosts D) (start mid : D) (p : Parts) (c : Commit) (held : p.stack.commit ≡ Some c) (now_at : KnowsNow (kind.state start))
    (at_now : (files : Files) → Leaves (kind.state start) files → (kind.state start).left_at (kind.state start).moment files)
    (quiet : Quiet (kind.state start) (kind.state mid)) (all : c.sealing.done ≡ pieces_of c.sealing)
    (whole : (stored : List ℕ) → SealFits kind.tells (kind.state start) c.sealing stored → IsWhole kind.tells (kind.state mid) c.sealing.to_file (file_by c.sealing stored))
    (uuid body : List ℕ) (asked_is : c.uuid ≡ uuid) (sectors : ℕ) (sectors_is : sectors ≡ sectors_of p.top)
    (written : IsWritten body (length p.stack.committed.items + 1) None sectors) where
  abbrev old : Seen
  old = with_disk kind start p

  abbrev synced : Seen
  synced = with_disk kind mid p

  own : (b : Base) (tops : List Stand) (attempts : List Asked) → (fit : PartsFit kind.tells (kind.state start) p b tops attempts)
      → (f : Frozen) × (b.frozen ≡ Some f) × CommitFits kind.tells (kind.state start) fit.exact b.sectors b.lowers b.done f c
  own b tops attempts fit = frozen-some kind.tells (kind.state start) fit.exact b.sectors b.lowers b.done b.frozen p.stack.commit c held fit.stack.commit

  synced-fits : (b : Base) (tops : List Stand) (attempts : List Asked) → PartsFit kind.tells (kind.state start) p b tops attempts → PartsFit kind.tells (kind.state mid) p b tops attempts
  synced-fits b tops attempts fit =
      fits-after old synced unchanged as_before (record { manifest = refl; stack = refl }) refl (quiet-goes kind.tells (kind.state start) (kind.state mid) p.top now_at at_now quiet) b tops attempts fit

  -- the file is that of the frozen sheet, all of it
  file-whole : (b : Base) (tops : List Stand) (attempts : List Asked) → (fit : PartsFit kind.tells (kind.state start) p b tops attempts)
      → IsWhole kind.tells (kind.state mid) (sealed_file (length b.done)) (sealed_by (b.lowers ++ b.done) (own b tops attempts fit).0)
  file-whole b tops attempts fit =
      let is = (own b tops attempts fit).2 in
      subst (λ (f : ℕ). IsWhole kind.tells (kind.state mid) f (sealed_by (b.lowers ++ b.done) (own b tops attempts fit).0)) is.to
      (subst (IsWhole kind.tells (kind.state mid) c.sealing.to_file) is.file (whole is.stored is.sealing))

  names-sealed : (b : Base) (tops : List Stand) (attempts : List Asked) → PartsFit kind.tells (kind.state start) p b tops attempts → IsWritten body (length b.done + 1) None b.sectors
  names-sealed b tops attempts fit =
      let number : length p.stack.committed.items ≡ length b.done = sym (layers-length b.done p.stack.committed.items fit.stack.committed) in
      subst (λ (k : ℕ). IsWritten body (k + 1) None b.sectors) number
      (subst (λ (n : ℕ). IsWritten body (length p.stack.committed.items + 1) None n) (sectors_is ∙ fit.top.holds.sectors) written)

  seal-made : (b : Base) (tops : List Stand) (attempts : List Asked) → PartsFit kind.tells (kind.state start) p b tops attempts
      → WasMade (kind.state mid) b.sectors b.lowers b.done b.frozen p.stack (Uuid uuid) body
  seal-made b tops attempts fit =
      let is = own b tops attempts fit in
      inr (record {
        sheet = is.0;
        is = is.1;
        same = sym is.2.uuid_is ∙ asked_is;
        names = names-sealed b tops attempts fit;
        left = (file-whole b tops attempts fit).stays;
        all = λ d has. subst (λ (e : Commit). e.sealing.done ≡ pieces_of e.sealing) (one-commit c d (sym held ∙ has)) all;
      })
    where
      one-commit : (c d : Commit) → Some c ≡ Some d → c ≡ d
      one-commit c d is = cc

  module _ (final : D) (mark : Mark) (kept : IsKept (kind.state final) mark)
      (run : FileRunBy (file_of p.manifest) (kind.state mid) (kind.state final) (λ (attempt : Rest) c. Attempts body p.manifest.rest attempt × ShowsEither p.manifest attempt c)) where
    seal-moment : (noted : Option Act) (base : Base) (history : History)
        → ((files : Files) → ShowsLeftWith base history (Fault (Uuid uuid)) files → ShowsLeftWithin base history noted files) → StandsFor old base history
        → LeavesOnly (kind.state start) (kind.state final) (λ (u : Unit {0}) (files : Files). ShowsLeftWithin base history noted files)
    seal-moment noted base history within k =
        let b : Base = now base history in
        let set = set-moment kind.tells (kind.state mid) (kind.state final) p base history k.tops k.attempts (Uuid uuid) body (synced-fits b k.tops k.attempts k.fits)
        written.format (seal-made b k.tops k.attempts k.fits) k.base_is k.few k.proper k.kept k.blamed run in
        leaves-joined (kind.state start) (kind.state mid) (kind.state final) (λ (u : Unit {0}) (files : Files). ShowsLeftWithin base history noted files)
        (moment old synced unchanged as_before (record { manifest = refl; stack = refl }) refl (quiet-goes kind.tells (kind.state start) (kind.state mid) p.top now_at at_now quiet) noted base history k)
        (record {
          later = set.later;
          past = set.past;
          each = λ j from to. let at_j = set.each j from to in (tt, λ files at_it. within files (at_j.1 files at_it));
        })

    pub seal-failed : IsSameBut p.manifest mark → ((held : List ℕ) → MayHold mark held → MayHold p.manifest held ⊎ (held ≡ body)) → kind.faults start + 1 ≤ kind.faults final
        → Goes old (with_disk kind final (record p { manifest = mark; steps = p.steps + 1 })) (Some (Fault (Uuid uuid)))
    seal-failed but bodies rose = record {
      stands = λ base history number k.
          let b : Base = now base history in
          stands-fault old (with_disk kind final (record p { manifest = mark; steps = p.steps + 1 })) base history number (Uuid uuid) k.tops (Uuid uuid ∷ k.attempts) k rose refl
          (omega (arith, k.low)) (omega (arith, ap sequence_in but, k.manifest_low))
          (set-failed kind.tells (kind.state mid) p b k.tops k.attempts (synced-fits b k.tops k.attempts k.fits) (Uuid uuid) body written.format
          (seal-made b k.tops k.attempts k.fits) (kind.state final) mark (p.steps + 1) run.others kept but bodies)
          (kept-more base history k.tops number (Fault (Uuid uuid)) refl k.kept) (blamed-too history k.attempts number (Uuid uuid) k.blamed);
      any_moment = λ base history k. seal-moment (Some (Fault (Uuid uuid))) base history (λ files left. inr left) k;
    }

    -- after it the file is a layer
    module _ (s : Stack) (lowers : s.lowers ≡ p.stack.lowers) (committed : s.committed.items ≡ p.stack.committed.items ++ layer_in c.sealing ∷ []) (snapshot : s.snapshot ≡ c.snapshot)
        (done_with : s.commit ≡ None) (next : s.next ≡ p.stack.next)
        (layer : (stored : List ℕ) → AreWithin stored c.sealing.sources → LayerOf (file_by c.sealing stored) c.sealing.head c.sealing.rows) where
      pub seal-done : IsSet p.manifest body mark → ((held : List ℕ) → MayHold mark held → held ≡ body) → kind.faults start ≤ kind.faults final
          → Goes old (with_disk kind final (record p { manifest = mark; stack = s; steps = p.steps + 1 })) (Some (Seal uuid))
      seal-done set bodies rise = record {
        stands = λ base history number k.
            let b : Base = now base history in
            let h : History = history ++ entry number (Seal uuid) ∷ [] in
            let is = own b k.tops k.attempts k.fits in
            let f : Frozen = is.0 in
            let good = base-stays base history k.base_is k.few k.proper in
            let fit = synced-fits b k.tops k.attempts k.fits in
            let file : List ℕ = sealed_by (b.lowers ++ b.done) f in
            let c' : Base = with_seal b f in
            let made : c' ≡ step b (Seal uuid) = sealed-step b f uuid is.1 in
            let weak : IsSound false b = sound-weaker fit.exact false b (λ e. absurd (let no : false ≡ true = e in cc)) fit.sound in
            let under : StackFits kind.tells (kind.state final) fit.exact b.sectors b.lowers b.done b.frozen p.stack = set-stack kind.tells (kind.state mid) p b k.tops k.attempts fit (kind.state final) run.others in
            let heads : HeadsAsked = heads_asked fit.exact (shows.epoch_of b) b.lowers in
            let stays : TopFits kind.tells (kind.state final) b.sectors heads p.top (stand b) k.tops = set-top kind.tells (kind.state mid) p b k.tops k.attempts fit (kind.state final) run.others in
            let less : TopFits kind.tells (kind.state final) b.sectors (heads_asked false (shows.epoch_of b) b.lowers) p.top (stand b) k.tops =
            fits-less kind.tells (kind.state final) b.sectors heads (heads_asked false (shows.epoch_of b) b.lowers)
            (λ e. absurd (let no : false ≡ true = e in cc)) (λ parent asked. asked) (view_of p.top) (stand b) k.tops stays in
            let epoch : shows.epoch_of b ≡ length c'.done = sealed-epoch b f is.1 in
            let names : Names body (length b.done + 1) None b.sectors = (names-sealed b k.tops k.attempts k.fits).names in
            let number_of : length b.done + 1 ≡ length c'.done = sym (length-append b.done (file ∷ [])) in
            let more : AreLayersOf (b.done ++ file ∷ []) (p.stack.committed.items ++ layer_in c.sealing ∷ []) =
            layers-append b.done (file ∷ []) p.stack.committed.items (layer_in c.sealing ∷ []) under.committed
            (subst (λ (l : List ℕ). LayerOf l c.sealing.head c.sealing.rows) is.2.file (layer is.2.stored is.2.sealing.within), tt) in
            let whole_now : IsWhole kind.tells (kind.state final) (sealed_file (length b.done)) file =
            whole-spared kind.tells (kind.state mid) (kind.state final) (λ f. f ≡ file_of p.manifest) run.others (sealed_file (length b.done)) file
            (λ e. omega (arith, e, fit.manifest_is)) (file-whole b k.tops k.attempts k.fits) in
            let z : Parts = record p { manifest = mark; stack = s; steps = p.steps + 1 } in
            let fits : PartsFit kind.tells (kind.state final) z c' k.tops [] = record {
              exact = false;
              sound = sealed-sound b f is.1 good.0 good.1 weak;
              manifest_is = ap file_of set ∙ fit.manifest_is;
              manifest = kept;
              format = λ held holds e. absurd (let no : false ≡ true = sym (ap exact_said (bodies held holds) ∙ written-exact body written.format) ∙ e in cc);
              named = λ held holds. inl (subst (λ (d : List ℕ). Names d (length c'.done) None b.sectors) (sym (bodies held holds))
                  (subst (λ (n : ℕ). Names body n None b.sectors) number_of names));
              stack = record {
                lowers_are = subst (AreLayersOf b.lowers) (sym lowers) under.lowers_are;
                committed = subst (AreLayersOf (b.done ++ file ∷ [])) (sym committed) more;
                sealed = whole-more kind.tells (kind.state final) b.done file under.sealed whole_now;
                snapshot = subst (λ v. IsSnapshotOf (arc_value v) s.lowers s.committed.items) (sym snapshot)
                    (subst (λ l. IsSnapshotOf (arc_value c.snapshot) l s.committed.items) (sym lowers)
                    (subst (IsSnapshotOf (arc_value c.snapshot) p.stack.lowers) (sym committed) (under.becomes c held).snapshot));
                commit = none-fits kind.tells (kind.state final) false b.sectors b.lowers c'.done s.commit done_with;
                becomes = λ d e. absurd (let no : Some d ≡ None = sym e ∙ done_with in cc);
                next = none-next kind.tells (kind.state final) b.sectors (length c'.done) None s.next (next ∙ next-none kind.tells (kind.state final) b.sectors (length b.done) b.frozen p.stack.next f is.1 under.next);
              };
              epoch = fit.epoch ∙ epoch;
              top = subst (λ e. TopFits kind.tells (kind.state final) b.sectors (heads_asked false e b.lowers) p.top (stand b) k.tops) epoch less;
            } in
            stands-act old (with_disk kind final z) base history number (Seal uuid) k.tops [] k (ap pending_of is.1 ∙ ap (λ (u : List ℕ). Some u) (sym is.2.uuid_is ∙ asked_is))
            (proper-room base history k.proper) refl rise refl (omega (arith, k.low)) (omega (arith, ap sequence_in set, k.manifest_low))
            (subst (λ (d : Base). PartsFit kind.tells (kind.state final) z d k.tops []) made fits)
            (kept-more base history k.tops number (Seal uuid) refl k.kept) (All-nil (Blamed h));
        any_moment = λ base history k. seal-moment (Some (Seal uuid)) base history (λ files left. inr (inr left)) k;
      }

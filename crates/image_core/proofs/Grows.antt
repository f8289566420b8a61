-- A grow of an image: a flush of its top, a set of its manifest, and its tops in memory.
use Rattle.std.proofs.Common.{◌≡◌, ◌⊎◌, ℕ, ◌+◌, ◌-◌, ◌^◌, ◌<◌, ◌≤◌, inl, inr, Bool, true, false, IsTrue, List, [], ◌∷◌, ◌++◌, length, map, refl, sym, ap, ◌∙◌, subst, arith}
use Rattle.std.specs.Prelude.{All, Contains, Option, Some, None}
use Rattle.std.specs.Option.{option_map}
use Rattle.std.proofs.lemmas.List.{length-replicate, replicate-append-replicate}
use Rattle.std.proofs.lemmas.List.Elements.{All-nil}
use Rattle.block_disk.specs.DiskState.{DiskState, Files}
use Rattle.block_disk.specs.Claims.{LeavesOnly, FileRunBy}
use Rattle.gate_mark.specs.declared.mark.Rest.{Rest}
use Rattle.gate_mark.specs.Mark.{file_of, sequence_in, IsKept, MayHold, ShowsEither, Attempts, IsSet, IsSameBut}
use Rattle.flat_image.specs.declared.act.Act.{Act}
use Rattle.flat_image.specs.declared.act.Act.TheVariants.{Grow, Fault}
use Rattle.flat_image.specs.declared.act.Asked.{Asked}
use Rattle.flat_image.specs.declared.act.Asked.TheVariants.{Sectors}
use Rattle.flat_image.specs.declared.base.Base.{Base}
use Rattle.flat_image.specs.Base.{holes, with_holes, pending_of}
use Rattle.flat_image.specs.Entries.{entry}
use Rattle.flat_image.specs.Frozen.{Frozen}
use Rattle.flat_image.specs.Sheets.{Cell, Hole}
use Rattle.flat_image.specs.History.{History, now, step, CanGrow}
use Rattle.flat_image.specs.Left.{Stand, stand, fresh_stand, Blamed}
use Rattle.flat_image.proofs.HistoryLaws.{now-entry, proper-room}
use Rattle.top_writer.specs.declared.top.Top.{Top}
use Rattle.top_writer.specs.Changes.{IsGrown}
use Rattle.top_writer.specs.Files.{HeadsAsked, asked_of}
use Rattle.top_writer.specs.Fitting.{TopGoes, TopFits}
use Rattle.top_writer.specs.Stands.{unchanged, just_this, with_grow}
use Rattle.top_writer.specs.View.{view_of, epoch_of, sectors_of, sequence_of}
use Rattle.top_writer.proofs.GrowLaws.{fits_grown}
use Rattle.image_core.specs.declared.parts.Commit.{Commit}
use Rattle.image_core.specs.declared.parts.Stack.{Stack}
use Rattle.image_core.specs.Manifest.{Names, IsWritten, exact_said}
use Rattle.image_core.specs.Shows as shows
use Rattle.image_core.specs.FileSets.{GrowTried}
use Rattle.image_core.specs.Parts.{CommitsFit, NextsFit, StackFits, IsGrownNext, IsGrownStack, PartsFit}
use Rattle.image_core.specs.Seen.{Seen, StandsFor, ShowsLeftWith, ShowsLeftWithin, Goes}
use Rattle.image_core.proofs.FilesShown.{written-exact}
use Rattle.image_core.proofs.Lifts.{kept-one, blamed-too}
use Rattle.image_core.proofs.MadeLast.{leaves-joined}
use Rattle.image_core.proofs.ManifestSets.{set-stack, set-top, set-failed, set-moment, stands-act, stands-fault}
use Rattle.image_core.proofs.SheetsRead.{layers-length}
use Rattle.image_core.proofs.Sizes.{stack-grown}
use Rattle.image_core.proofs.StepGoes.{IsSameBesides, fits-after, moment}

-- nothing is frozen where no commit is in progress
pub none-frozen : (tells : Bool) (disk : DiskState) (exact : Bool) (n : ℕ) (lowers done : List (List ℕ)) (frozen : Option Frozen) (commit : Option Commit) → commit ≡ None
    → CommitsFit tells disk exact n lowers done frozen commit → frozen ≡ None
none-frozen tells disk exact n lowers done None commit is fit = refl
none-frozen tells disk exact n lowers done (Some f) None is fit = absurd fit
none-frozen tells disk exact n lowers done (Some f) (Some c) is fit = absurd (let e : Some c ≡ None = is in cc)

-- no commit is in progress where there is no uuid of one
pub none-pending : (commit : Option Commit) (pending : Option (List ℕ)) → pending ≡ None → pending ≡ option_map (λ (c : Commit). c.uuid) commit → commit ≡ None
none-pending None pending none is = refl
none-pending (Some c) pending none is = absurd (let e : Some c.uuid ≡ None = sym is ∙ none in cc)

-- a commit that is not there has whatever size
none-commits : (tells : Bool) (disk other : DiskState) (exact exact' : Bool) (n m : ℕ) (lowers done : List (List ℕ)) (frozen : Option Frozen) (commit : Option Commit) → frozen ≡ None
    → CommitsFit tells disk exact n lowers done frozen commit → CommitsFit tells other exact' m lowers done frozen commit
none-commits tells disk other exact exact' n m lowers done None None is fit = tt
none-commits tells disk other exact exact' n m lowers done None (Some c) is fit = absurd fit
none-commits tells disk other exact exact' n m lowers done (Some f) commit is fit = absurd (let e : Some f ≡ None = is in cc)

-- holes are holes also in a larger image
grown-holes : (n m : ℕ) → n ≤ m → with_grow m (fresh_stand n) ≡ fresh_stand m
grown-holes n m more =
    let long : length (holes n) ≡ n = length-replicate n Hole in
    let same : with_holes m (holes n) ≡ holes m =
    replicate-append-replicate n (m - length (holes n)) Hole ∙ ap holes (let e : n + (m - length (holes n)) ≡ m = omega (arith, long, more) in e) in
    ap (λ (c : List Cell). record { cells = c; rows = 0; filled = 0 }) same

nexts-grown : (tells : Bool) (disk : DiskState) (n m done : ℕ) (frozen : Option Frozen) (next other : Option Top) → n ≤ m → IsGrownNext next m other
    → NextsFit tells disk n done frozen next → NextsFit tells disk m done frozen other
nexts-grown tells disk n m done frozen None None more grown fit = tt
nexts-grown tells disk n m done frozen None (Some u) more grown fit = absurd grown
nexts-grown tells disk n m done frozen (Some t) None more grown fit = absurd grown
nexts-grown tells disk n m done frozen (Some t) (Some u) more grown fit =
    let most : sectors_of t ≤ m = omega (arith, fit.top.holds.sectors, more) in
    let larger : TopFits tells disk m (asked_of false None) u (with_grow m (fresh_stand n)) (with_grow m (fresh_stand n) ∷ []) =
    fits_grown tells disk n m (asked_of false None) t u (fresh_stand n) (fresh_stand n ∷ []) most grown fit.top in
    record {
      free = fit.free;
      epoch = ap (λ v. v.epoch) grown ∙ fit.epoch;
      sequence = omega (arith, fit.sequence, ap (λ v. sequence_in v.mark) grown);
      top = subst (λ (s : Stand). TopFits tells disk m (asked_of false None) u s (s ∷ [])) (grown-holes n m more) larger;
    }

-- x is the image before the grow, and y after the flush of its top
module _ (x y : Seen) (same : IsSameBesides x.parts y.parts) (tells_is : y.tells ≡ x.tells)
    (goes : TopGoes x.tells x.state y.state x.parts.top y.parts.top unchanged just_this) (free : x.parts.stack.commit ≡ None)
    (sectors : ℕ) (body : List ℕ) (written : IsWritten body (length x.parts.stack.committed.items) None sectors) (more : sectors_of x.parts.top < sectors) (few : sectors ≤ 2 ^ 31) where
  -- what the image is then, and what a set of the manifest is tried of
  after : (b : Base) (tops : List Stand) (attempts : List Asked) → PartsFit x.tells x.state x.parts b tops attempts → PartsFit y.tells y.state y.parts b (stand b ∷ []) attempts
  after b tops attempts fit = fits-after x y unchanged just_this same tells_is goes b tops attempts fit

  frozen-none : (b : Base) (tops : List Stand) (attempts : List Asked) → PartsFit x.tells x.state x.parts b tops attempts → b.frozen ≡ None
  frozen-none b tops attempts fit = none-frozen x.tells x.state fit.exact b.sectors b.lowers b.done b.frozen x.parts.stack.commit free fit.stack.commit

  grow-tried : (b : Base) (tops : List Stand) (attempts : List Asked) → PartsFit x.tells x.state x.parts b tops attempts → GrowTried b.sectors (length b.done) b.frozen sectors body
  grow-tried b tops attempts fit = record {
    may = record { free = frozen-none b tops attempts fit; more = omega (arith, more, fit.top.holds.sectors); few = few };
    names = subst (λ (k : ℕ). IsWritten body k None sectors) (sym (layers-length b.done x.parts.stack.committed.items fit.stack.committed)) written;
  }

  -- the image after a set, that failed or not
  module _ (z : Seen) (told : z.tells ≡ y.tells) (steps : z.parts.steps ≡ x.parts.steps + 1)
      (run : FileRunBy (file_of y.parts.manifest) y.state z.state (λ (attempt : Rest) c. Attempts body y.parts.manifest.rest attempt × ShowsEither y.parts.manifest attempt c))
      (kept : IsKept z.state z.parts.manifest) where
    -- within it a crash leaves what it leaves of the history, or what it leaves of the failed grow
    grow-moment : (noted : Option Act) (base : Base) (history : History)
        → ((files : Files) → ShowsLeftWith base history (Fault (Sectors sectors)) files → ShowsLeftWithin base history noted files) → StandsFor x base history
        → LeavesOnly x.state z.state (λ (u : Unit {0}) (files : Files). ShowsLeftWithin base history noted files)
    grow-moment noted base history within k =
        let b : Base = now base history in
        let set = set-moment y.tells y.state z.state y.parts base history (stand b ∷ []) k.attempts (Sectors sectors) body (after b k.tops k.attempts k.fits) written.format
        (grow-tried b k.tops k.attempts k.fits) k.base_is k.few k.proper (kept-one base history (stand b) refl) k.blamed run in
        leaves-joined x.state y.state z.state (λ (u : Unit {0}) (files : Files). ShowsLeftWithin base history noted files)
        (moment x y unchanged just_this same tells_is goes noted base history k) (record {
          later = set.later;
          past = set.past;
          each = λ j from to. let at_j = set.each j from to in (tt, λ files at_it. within files (at_j.1 files at_it));
        })

    pub grow-failed : z.parts ≡ record y.parts { manifest = z.parts.manifest; steps = z.parts.steps } → IsSameBut y.parts.manifest z.parts.manifest
        → ((b : List ℕ) → MayHold z.parts.manifest b → MayHold y.parts.manifest b ⊎ (b ≡ body))
        → x.faults + 1 ≤ z.faults → Goes x z (Some (Fault (Sectors sectors)))
    grow-failed rest but bodies rose = record {
      stands = λ base history number k.
          let b : Base = now base history in
          let h : History = history ++ entry number (Fault (Sectors sectors)) ∷ [] in
          let here : now base h ≡ b = now-entry base history number (Fault (Sectors sectors)) in
          let fits : PartsFit y.tells z.state (record y.parts { manifest = z.parts.manifest; steps = z.parts.steps }) b (stand b ∷ []) (Sectors sectors ∷ k.attempts) =
          set-failed y.tells y.state y.parts b (stand b ∷ []) k.attempts (after b k.tops k.attempts k.fits) (Sectors sectors) body written.format
          (grow-tried b k.tops k.attempts k.fits) z.state z.parts.manifest z.parts.steps run.others kept but bodies in
          stands-fault x z base history number (Sectors sectors) (stand b ∷ []) (Sectors sectors ∷ k.attempts) k rose steps
          (omega (arith, ap (λ p. sequence_of p.top) rest, goes.sequence, k.low, steps))
          (omega (arith, ap sequence_in but, ap sequence_in same.manifest, k.manifest_low, steps))
          (subst (λ (t : Bool). PartsFit t z.state z.parts b (stand b ∷ []) (Sectors sectors ∷ k.attempts)) (sym told)
          (subst (λ p. PartsFit y.tells z.state p b (stand b ∷ []) (Sectors sectors ∷ k.attempts)) (sym rest) fits))
          (kept-one base h (stand b) (ap stand (sym here))) (blamed-too history k.attempts number (Sectors sectors) k.blamed);
      any_moment = λ base history k. grow-moment (Some (Fault (Sectors sectors))) base history (λ files left. inr left) k;
    }

    -- and after one that succeeded
    pub grow-done : IsSet y.parts.manifest body z.parts.manifest → ((b : List ℕ) → MayHold z.parts.manifest b → b ≡ body)
        → IsGrown (view_of y.parts.top) sectors (view_of z.parts.top) → IsGrownStack y.parts.stack sectors z.parts.stack → x.faults ≤ z.faults → Goes x z (Some (Grow sectors))
    grow-done set bodies grown stacked rise = record {
      stands = λ base history number k.
          let b : Base = now base history in
          let h : History = history ++ entry number (Grow sectors) ∷ [] in
          let fit : PartsFit y.tells y.state y.parts b (stand b ∷ []) k.attempts = after b k.tops k.attempts k.fits in
          let larger : Base = step b (Grow sectors) in
          let asked : HeadsAsked = shows.heads_asked fit.exact (shows.epoch_of b) b.lowers in
          let rises : b.sectors ≤ sectors = omega (arith, more, k.fits.top.holds.sectors) in
          let sound = fit.sound in
          let none : b.frozen ≡ None = frozen-none b k.tops k.attempts k.fits in
          let names : Names body (length b.done) None sectors = (grow-tried b k.tops k.attempts k.fits).names.names in
          let under : StackFits y.tells z.state fit.exact b.sectors b.lowers b.done b.frozen y.parts.stack =
          set-stack y.tells y.state y.parts b (stand b ∷ []) k.attempts fit z.state run.others in
          let wide : StackFits y.tells z.state false sectors b.lowers b.done b.frozen (record y.parts.stack { next = z.parts.stack.next }) = record {
            lowers_are = under.lowers_are;
            committed = under.committed;
            sealed = under.sealed;
            snapshot = under.snapshot;
            commit = none-commits y.tells z.state z.state fit.exact false b.sectors sectors b.lowers b.done b.frozen y.parts.stack.commit none under.commit;
            becomes = λ c is. let was = under.becomes c is in record { snapshot = was.snapshot; room = was.room };
            next = nexts-grown y.tells z.state b.sectors sectors (length b.done) b.frozen y.parts.stack.next z.parts.stack.next rises stacked.next under.next;
          } in
          let fits : PartsFit y.tells z.state z.parts larger (with_grow sectors (stand b) ∷ []) [] = record {
            exact = false;
            sound = record {
              size = (omega (arith, sound.size.0, rises), few);
              few = sound.few;
              stack = stack-grown fit.exact b.sectors sectors (b.lowers ++ b.done) rises sound.stack;
              unlike = sound.unlike;
            };
            manifest_is = ap file_of set ∙ fit.manifest_is;
            manifest = kept;
            format = λ held may is. absurd (let e : false ≡ true = sym (ap exact_said (bodies held may) ∙ written-exact body written.format) ∙ is in cc);
            named = λ held may. inl (subst (λ (d : List ℕ). Names d (length b.done) (pending_of b.frozen) sectors) (sym (bodies held may))
                (subst (λ f. Names body (length b.done) (pending_of f) sectors) (sym none) names));
            stack = subst (StackFits y.tells z.state false sectors b.lowers b.done b.frozen) (sym stacked.same) wide;
            epoch = ap (λ v. v.epoch) grown ∙ fit.epoch;
            top = fits_grown y.tells z.state b.sectors sectors asked y.parts.top z.parts.top (stand b) (stand b ∷ []) (omega (arith, fit.top.holds.sectors, rises)) grown
                (set-top y.tells y.state y.parts b (stand b ∷ []) k.attempts fit z.state run.others);
          } in
          stands-act x z base history number (Grow sectors) (with_grow sectors (stand b) ∷ []) [] k (grow-tried b k.tops k.attempts k.fits).may (proper-room base history k.proper) refl rise steps
          (omega (arith, ap (λ v. sequence_in v.mark) grown, goes.sequence, k.low, steps))
          (omega (arith, ap sequence_in set, ap sequence_in same.manifest, k.manifest_low, steps))
          (subst (λ (t : Bool). PartsFit t z.state z.parts larger (with_grow sectors (stand b) ∷ []) []) (sym told) fits)
          (kept-one base h (with_grow sectors (stand b)) (ap stand (sym (now-entry base history number (Grow sectors))))) (All-nil (Blamed h));
      any_moment = λ base history k. grow-moment (Some (Grow sectors)) base history (λ files left. inr (inr left)) k;
    }

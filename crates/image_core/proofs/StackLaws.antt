-- What stands under the top of an image: calls on other files leave it, and what a crash leaves of it.
use Rattle.std.proofs.Common.{◌≡◌, ◌⊎◌, ℕ, zero, suc, ◌+◌, ◌*◌, ◌<◌, ◌≤◌, inl, inr, Bool, false, IsTrue, List, [], ◌∷◌, ◌++◌, length, take, refl, sym, ap, ◌∙◌, subst, arith}
use Rattle.std.specs.Prelude.{Contains, Option, Some, None, slice_index_or}
use Rattle.block_disk.specs.DiskState.{DiskState, Files, Spares}
use Rattle.flat_image.specs.declared.act.Asked.{Asked}
use Rattle.flat_image.specs.declared.act.Asked.TheVariants.{Nothing, Uuid, Sectors}
use Rattle.flat_image.specs.declared.base.Base.{Base}
use Rattle.flat_image.specs.Base.{pending_of}
use Rattle.flat_image.specs.Frozen.{Frozen}
use Rattle.flat_image.specs.Left.{Stand, stand, fresh_stand}
use Rattle.layer_commit.specs.Fitting.{SealFits, IsWritten, IsWhole}
use Rattle.layer_commit.specs.View.{SealView, file_by}
use Rattle.top_writer.specs.declared.top.Top.{Top}
use Rattle.top_writer.specs.Files.{TopFiles, HeadsAsked, asked_of, stored_in, data_file, index_file, mark_file}
use Rattle.top_writer.specs.Fitting.{TopFits}
use Rattle.top_writer.specs.Showing.{ShowsOne}
use Rattle.top_writer.specs.View.{view_of, epoch_of}
use Rattle.top_writer.proofs.Going.{fits_spared}
use Rattle.top_writer.proofs.ShowLaws.{lasts_shown}
use Rattle.image_core.specs.declared.parts.Commit.{Commit}
use Rattle.image_core.specs.declared.parts.Stack.{Stack}
use Rattle.image_core.specs.Numbers.{manifest_file, sealed_file, with_pending}
use Rattle.image_core.specs.Shows as shows
use Rattle.image_core.specs.Shows.{parent_asked, heads_asked, ShowsStand, ShowsFrozen, AreSealed, IsFrozenFile}
use Rattle.image_core.specs.FileSets.{FreezeTried, SealTried, GrowTried, WasTried}
use Rattle.image_core.specs.Parts.{AreWhole, frozen_stand, CommitFits, CommitsFit, NextFits, NextsFit, StackFits, FreezeMade, SealMade, WasMade}

-- no file is one of the manifest and of a top, of two tops, or of a top and a sealed one
pub not-manifest : (epoch f : ℕ) → f ≡ manifest_file → TopFiles epoch f → ⊥
not-manifest epoch f is (inl data_is) = omega (arith, is, data_is)
not-manifest epoch f is (inr (inl index_is)) = omega (arith, is, index_is)
not-manifest epoch f is (inr (inr mark_is)) = omega (arith, is, mark_is)

pub not-sealed : (epoch k : ℕ) → TopFiles epoch (sealed_file k) → ⊥
not-sealed epoch k (inl data_is) = omega (arith, data_is)
not-sealed epoch k (inr (inl index_is)) = omega (arith, index_is)
not-sealed epoch k (inr (inr mark_is)) = omega (arith, mark_is)

pub not-both : (one other f : ℕ) → one + 1 ≡ other → TopFiles one f → TopFiles other f → ⊥
not-both one other f is (inl a) (inl b) = omega (arith, is, a, b)
not-both one other f is (inl a) (inr (inl b)) = omega (arith, is, a, b)
not-both one other f is (inl a) (inr (inr b)) = omega (arith, is, a, b)
not-both one other f is (inr (inl a)) (inl b) = omega (arith, is, a, b)
not-both one other f is (inr (inl a)) (inr (inl b)) = omega (arith, is, a, b)
not-both one other f is (inr (inl a)) (inr (inr b)) = omega (arith, is, a, b)
not-both one other f is (inr (inr a)) (inl b) = omega (arith, is, a, b)
not-both one other f is (inr (inr a)) (inr (inl b)) = omega (arith, is, a, b)
not-both one other f is (inr (inr a)) (inr (inr b)) = omega (arith, is, a, b)

-- a list of one has just that one
pub only-one : {A : Type 0} → (s u : A) → Contains (s ∷ []) u → u ≡ s
only-one s u (zero, below, is) = sym is
only-one s u (suc k, below, is) = absurd (omega (arith, below))

-- the parent that the top of a later epoch is asked for
pub unasked : (k : ℕ) (lowers : List (List ℕ)) → parent_asked (k + 1) lowers ≡ None
unasked k lowers = ap (λ (e : ℕ). parent_asked e lowers) (let e : k + 1 ≡ suc k = omega arith in e)

-- the three files of a top that fits, as a crash may leave them, show it
pub top-shown : (tells : Bool) (disk : DiskState) (n : ℕ) (asked : HeadsAsked) (t : Top) (s : Stand) (may : List Stand) → TopFits tells disk n asked t s may → (files : Files)
    → ((f : ℕ) → TopFiles (epoch_of t) f → disk.may_leave f (files f)) → ShowsOne (epoch_of t) n asked may files
top-shown tells disk n asked t s may fit files at =
    let e : ℕ = epoch_of t in
    let one = lasts_shown tells disk n asked (view_of t) s fit.file fit.rows may (stored_in e files) fit.holds fit.lasts
    (at (data_file e) (inl refl)) (at (index_file e) (inr (inl refl))) (at (mark_file e) (inr (inr refl))) in
    record { stand = one.0; among = one.1; shows = one.2 }

module _ (tells : Bool) (old new : DiskState) (touched : ℕ → Type 0) (spares : Spares touched old new) where
  -- calls on other files leave a sealing,
  pub seal-spared : (v : SealView) (stored : List ℕ) → ¬ touched v.from_file → ¬ touched v.to_file → SealFits tells old v stored → SealFits tells new v stored
  seal-spared v stored from to fit = record {
    sound = fit.sound;
    within = fit.within;
    source = λ told. subst (λ (file : List ℕ). take (length stored) file ≡ stored) (sym (spares.seen v.from_file from)) (fit.source told);
    written = λ told some. subst (IsWritten (131072 * v.done) (file_by v stored)) (sym (spares.seen v.to_file to)) (fit.written told some);
  }

  -- a file that is whole,
  pub whole-spared : (file : ℕ) (bytes : List ℕ) → ¬ touched file → IsWhole tells old file bytes → IsWhole tells new file bytes
  whole-spared file bytes not is = record {
    stays = λ c left. is.stays c (spares.left file c not left);
    seen = λ told. spares.seen file not ∙ is.seen told;
  }

  pub sealed-spared : (done : List (List ℕ)) → ((k : ℕ) → k < length done → ¬ touched (sealed_file k)) → AreWhole tells old done → AreWhole tells new done
  sealed-spared done not are k below = whole-spared (sealed_file k) (slice_index_or done k []) (not k below) (are k below)

  module _ (exact : Bool) (n : ℕ) (lowers done : List (List ℕ)) (pending : ¬ touched (sealed_file (length done))) where
    -- a commit in progress,
    pub commit-spared : (f : Frozen) (c : Commit) → ((file : ℕ) → TopFiles (length done) file → ¬ touched file)
        → CommitFits tells old exact n lowers done f c → CommitFits tells new exact n lowers done f c
    commit-spared f c not fit = record {
      uuid_is = fit.uuid_is;
      epoch = fit.epoch;
      rows = fit.rows;
      filled = fit.filled;
      top = fits_spared tells old new n (heads_asked exact (length done) lowers) c.top (frozen_stand f fit.rows fit.filled) (frozen_stand f fit.rows fit.filled ∷ [])
          touched spares (λ file of_top. not file (subst (λ e. TopFiles e file) fit.epoch of_top)) fit.top;
      stored = fit.stored;
      sealing = seal-spared c.sealing fit.stored (λ is. not (data_file (length done)) (inl refl) (subst touched fit.from is)) (λ is. pending (subst touched fit.to is)) fit.sealing;
      from = fit.from;
      to = fit.to;
      file = fit.file;
    }

    pub commits-spared : (frozen : Option Frozen) (commit : Option Commit) → ((file : ℕ) → IsFrozenFile (length done) frozen file → ¬ touched file)
        → CommitsFit tells old exact n lowers done frozen commit → CommitsFit tells new exact n lowers done frozen commit
    commits-spared None None not fit = tt
    commits-spared None (Some c) not fit = absurd fit
    commits-spared (Some f) None not fit = absurd fit
    commits-spared (Some f) (Some c) not fit = commit-spared f c not fit

    -- the files of a next top,
    pub nexts-spared : (frozen : Option Frozen) (next : Option Top) → ((t : Top) → next ≡ Some t → (file : ℕ) → TopFiles (length done + 1) file → ¬ touched file)
        → NextsFit tells old n (length done) frozen next → NextsFit tells new n (length done) frozen next
    nexts-spared frozen None not fit = tt
    nexts-spared frozen (Some t) not fit = record {
      free = fit.free;
      epoch = fit.epoch;
      sequence = fit.sequence;
      top = fits_spared tells old new n (asked_of false None) t (fresh_stand n) (fresh_stand n ∷ []) touched spares
          (λ file of_top. not t refl file (subst (λ e. TopFiles e file) fit.epoch of_top)) fit.top;
    }

    -- and so all of it
    pub stack-spared : (frozen : Option Frozen) (s : Stack) → ((k : ℕ) → k < length done → ¬ touched (sealed_file k))
        → ((file : ℕ) → IsFrozenFile (length done) frozen file → ¬ touched file)
        → ((t : Top) → s.next ≡ Some t → (file : ℕ) → TopFiles (length done + 1) file → ¬ touched file)
        → StackFits tells old exact n lowers done frozen s → StackFits tells new exact n lowers done frozen s
    stack-spared frozen s sealed of_frozen of_next fit = record {
      lowers_are = fit.lowers_are;
      committed = fit.committed;
      sealed = sealed-spared done sealed fit.sealed;
      snapshot = fit.snapshot;
      commit = commits-spared frozen s.commit of_frozen fit.commit;
      becomes = fit.becomes;
      next = nexts-spared frozen s.next of_next fit.next;
    }

    pub made-spared : (frozen : Option Frozen) (s : Stack) (asked : Asked) (body : List ℕ) → WasMade old n lowers done frozen s asked body → WasMade new n lowers done frozen s asked body
    made-spared frozen s Nothing body made = absurd made
    made-spared frozen s (Uuid uuid) body (inl freeze) = inl freeze
    made-spared frozen s (Uuid uuid) body (inr seal) = inr (record {
      sheet = seal.sheet;
      is = seal.is;
      same = seal.same;
      names = seal.names;
      left = λ c left. seal.left c (spares.left (sealed_file (length done)) c pending left);
      all = seal.all;
    })
    made-spared frozen s (Sectors sectors) body grow = grow

-- what a crash leaves: the sealed files,
pub sealed-shown : (tells : Bool) (disk : DiskState) (done : List (List ℕ)) (files : Files) → AreWhole tells disk done
    → ((k : ℕ) → k < length done → disk.may_leave (sealed_file k) (files (sealed_file k))) → AreSealed done files
sealed-shown tells disk done files are at k below = (are k below).stays (files (sealed_file k)) (at k below)

-- the frozen top,
pub frozen-shown : (tells : Bool) (disk : DiskState) (exact : Bool) (n : ℕ) (lowers done : List (List ℕ)) (frozen : Option Frozen) (commit : Option Commit) (files : Files)
    → CommitsFit tells disk exact n lowers done frozen commit → ((f : ℕ) → IsFrozenFile (length done) frozen f → disk.may_leave f (files f))
    → ShowsFrozen exact (length done) n lowers frozen files
frozen-shown tells disk exact n lowers done None None files fit at = tt
frozen-shown tells disk exact n lowers done None (Some c) files fit at = absurd fit
frozen-shown tells disk exact n lowers done (Some f) None files fit at = absurd fit
frozen-shown tells disk exact n lowers done (Some f) (Some c) files fit at =
    let s : Stand = frozen_stand f fit.rows fit.filled in
    let asked : HeadsAsked = heads_asked exact (length done) lowers in
    let one : ShowsOne (epoch_of c.top) n asked (s ∷ []) files =
    top-shown tells disk n asked c.top s (s ∷ []) fit.top files (λ file of_top. at file (subst (λ e. TopFiles e file) fit.epoch of_top)) in
    let here : ShowsOne (length done) n asked (s ∷ []) files = subst (λ e. ShowsOne e n asked (s ∷ []) files) fit.epoch one in
    record {
      rows = fit.rows;
      filled = fit.filled;
      shows = subst (λ (u : Stand). ShowsStand exact (length done) n lowers u files) (only-one s here.stand here.among) here.shows;
    }

-- and a step that was tried
pub next-shown : (tells : Bool) (disk : DiskState) (n : ℕ) (lowers : List (List ℕ)) (done : ℕ) (frozen : Option Frozen) (next : Option Top) (t : Top) (files : Files) → next ≡ Some t
    → NextsFit tells disk n done frozen next → ((f : ℕ) → TopFiles (done + 1) f → disk.may_leave f (files f))
    → ShowsStand false (done + 1) n lowers (fresh_stand n) files
next-shown tells disk n lowers done frozen None t files is fit at = absurd (let e : None ≡ Some t = is in cc)
next-shown tells disk n lowers done frozen (Some u) t files is fit at =
    let s : Stand = fresh_stand n in
    let one : ShowsOne (epoch_of u) n (asked_of false None) (s ∷ []) files =
    top-shown tells disk n (asked_of false None) u s (s ∷ []) fit.top files (λ file of_top. at file (subst (λ e. TopFiles e file) fit.epoch of_top)) in
    let here : ShowsOne (done + 1) n (asked_of false None) (s ∷ []) files = subst (λ e. ShowsOne e n (asked_of false None) (s ∷ []) files) fit.epoch one in
    let asks : ShowsOne (done + 1) n (heads_asked false (done + 1) lowers) (s ∷ []) files =
    subst (λ p. ShowsOne (done + 1) n (asked_of false p) (s ∷ []) files) (sym (unasked done lowers)) here in
    subst (λ (u : Stand). ShowsStand false (done + 1) n lowers u files) (only-one s asks.stand asks.among) asks.shows

pub made-shown : (tells : Bool) (disk : DiskState) (b : Base) (s : Stack) (asked : Asked) (body : List ℕ) (files : Files)
    → NextsFit tells disk b.sectors (length b.done) b.frozen s.next → WasMade disk b.sectors b.lowers b.done b.frozen s asked body
    → ((t : Top) → s.next ≡ Some t → (f : ℕ) → TopFiles (length b.done + 1) f → disk.may_leave f (files f))
    → disk.may_leave (sealed_file (length b.done)) (files (sealed_file (length b.done))) → WasTried b asked body files
made-shown tells disk b s Nothing body files fit made next pending = absurd made
made-shown tells disk b s (Uuid uuid) body files fit (inl freeze) next pending = inl (record {
  may = freeze.may;
  names = freeze.names;
  next = next-shown tells disk b.sectors b.lowers (length b.done) b.frozen s.next freeze.made files freeze.made_is fit (next freeze.made freeze.made_is);
})
made-shown tells disk b s (Uuid uuid) body files fit (inr seal) next pending = inr (record {
  frozen = seal.sheet;
  is = seal.is;
  same = seal.same;
  names = seal.names;
  file = seal.left (files (sealed_file (length b.done))) pending;
})
made-shown tells disk b s (Sectors sectors) body files fit grow next pending = grow

-- The files of the current top are none of the others: whether a sheet is frozen or not.
pub not-frozen_file : (done : ℕ) (frozen : Option Frozen) (f : ℕ) → IsFrozenFile done frozen f → TopFiles (with_pending done (pending_of frozen)) f → ⊥
not-frozen_file done None f is of_top = absurd is
not-frozen_file done (Some frozen) f is of_top = not-both done (done + 1) f refl is of_top

pub not-next_file : (tells : Bool) (disk : DiskState) (n done : ℕ) (frozen : Option Frozen) (next : Option Top) (t : Top) (f : ℕ) → next ≡ Some t → NextsFit tells disk n done frozen next
    → TopFiles (done + 1) f → TopFiles (with_pending done (pending_of frozen)) f → ⊥
not-next_file tells disk n done frozen None t f is fit of_next of_top = absurd (let e : None ≡ Some t = is in cc)
not-next_file tells disk n done frozen (Some u) t f is fit of_next of_top =
    not-both done (done + 1) f refl (subst (λ (o : Option Frozen). TopFiles (with_pending done (pending_of o)) f) fit.free of_top) of_next

-- The steps of a commit of an image.
use Rattle.std.proofs.Common.{◌≡◌, ◌≢◌, ℕ, ◌<◌, ◌≤◌, Bool, IsTrue, List, [], ◌∷◌, ◌++◌, length, map, refl, sym, ap, ◌∙◌, subst, arith, inl, inr, append-nil, length-append}
use Rattle.std.specs.Prelude.{Option, Some, None, Result, Ok, Err, OnOk, OnErr, IfErr, slice_index_or}
use Rattle.std.specs.Result.{IsErrOf}
use Rattle.block_disk.specs.DiskState.{DiskState}
use Rattle.block_disk.specs.Claims.{Quiet}
use Rattle.flat_image.specs.declared.act.Act.TheVariants.{Freeze, Seal, Fault}
use Rattle.flat_image.specs.declared.act.Asked.TheVariants.{Nothing, Uuid}
use Rattle.flat_image.specs.declared.base.Base.{Base}
use Rattle.flat_image.specs.Base.{pending_of}
use Rattle.flat_image.specs.Frozen.{Frozen}
use Rattle.flat_image.specs.Entries.{entry, StartsWith}
use Rattle.flat_image.specs.History.{History, now, committed, sealed_over}
use Rattle.flat_image.specs.LayerReading.{uuid_in}
use Rattle.flat_image.proofs.HistoryLaws.{now-entry}
use Rattle.image_core.specs.declared.commit.FreezeFault.{FreezeFault}
use Rattle.image_core.specs.declared.commit.FreezeFault.TheVariants as freeze
use Rattle.image_core.specs.declared.parts.Parts.{Parts}
use Rattle.image_core.specs.Committing.{noted_freeze, uuids_in, IsRefusedFreeze}
use Rattle.image_core.specs.Growing.{pending_in}
use Rattle.image_core.specs.Parts.{parts_view}
use Rattle.image_core.specs.Seen.{Seen, StandsFor, IsImage, Goes}
use Rattle.image_core.proofs.FrozenTops.{layers-append, same-uuids}
use Rattle.image_core.proofs.SheetsRead.{layers-length}
use Rattle.layer_commands.specs.declared.refusal.Refusal.{Refusal}
use Rattle.layer_commands.specs.declared.refusal.Refusal.TheVariants as refused
use Rattle.image_commands.specs.Images.{IsFree, commit_acts, entries, freeze_acts}
use Rattle.image_commands.specs.ImageSteps.{Adds, CommitCause, IsAsBefore, IsCommitSize, fault, fault_of, freeze_refused_as}
use Rattle.image_commands.proofs.WithoutReads.{now-without}
use Rattle.image_commands.proofs.ImageAdds.{adds-none, adds-act, adds-joined}
use Rattle.image_commands.proofs.ImageLaws.{same-pending, stands-for}

-- ---- what an image has in memory is what the history made

module _ (image : Seen) (base : Base) (history : History) (stands : StandsFor image base history) where
  pub pending-now : pending_in (parts_view image.parts) ≡ pending_of (now base history).frozen
  pending-now = same-pending (length (now base history).done) (now base history).frozen (parts_view image.parts).commit (stands-for image base history stands).view.commit

  pub uuids-now : uuids_in (parts_view image.parts) ≡ map uuid_in ((now base history).lowers ++ (now base history).done)
  uuids-now =
      let v = (stands-for image base history stands).view in
      same-uuids ((now base history).lowers ++ (now base history).done) ((parts_view image.parts).lowers ++ (parts_view image.parts).committed)
      (layers-append (now base history).lowers (now base history).done (parts_view image.parts).lowers (parts_view image.parts).committed v.lowers v.committed)

  pub committed-now : length (parts_view image.parts).committed ≡ length (now base history).done
  committed-now = sym (layers-length (now base history).done (parts_view image.parts).committed (stands-for image base history stands).view.committed)

-- ---- an image that is as before

module _ (old new : Seen) (same : IsAsBefore old new) (standing : IsImage old) where
  abbrev pub image-still : IsImage new
  image-still = (standing.0, standing.1, same standing.0 standing.1 standing.2)

  pub pending-still : pending_in (parts_view new.parts) ≡ pending_in (parts_view old.parts)
  pending-still = pending-now new standing.0 standing.1 image-still.2 ∙ sym (pending-now old standing.0 standing.1 standing.2)

  pub committed-still : length (parts_view new.parts).committed ≡ length (parts_view old.parts).committed
  committed-still = committed-now new standing.0 standing.1 image-still.2 ∙ sym (committed-now old standing.0 standing.1 standing.2)

  pub steps-still : (parts_view new.parts).steps ≡ (parts_view old.parts).steps
  steps-still = image-still.2.steps ∙ sym standing.2.steps

  pub adds-still : Adds [] old new
  adds-still = record { stands = λ base history stands. ([], refl, subst (λ (h : History). StandsFor new base h) (sym (append-nil history)) (same base history stands)) }

pub before-joined : (one two three : Seen) → IsAsBefore one two → IsAsBefore two three → IsAsBefore one three
before-joined one two three first second = λ base history stands. second base history (first base history stands)

-- ---- a freeze

abbrev pub refuses : FreezeFault → Result (Unit {0}) FreezeFault
refuses why = Err why

abbrev accepts : Result (Unit {0}) FreezeFault
accepts = Ok tt

freed : (pending : Option (List ℕ)) → ((other : List ℕ) → pending ≡ Some other → ⊥) → pending ≡ None
freed None none = refl
freed (Some other) none = absurd (none other refl)

frozen-free : (pending : Option (List ℕ)) (uuids : List (List ℕ)) (uuid : List ℕ) (r : Result (Unit {0}) FreezeFault) → IsRefusedFreeze pending uuids uuid r
    → ((other : List ℕ) → r ≡ refuses (freeze.Busy other) → ⊥) → pending ≡ None
frozen-free pending uuids uuid r is unheld = freed pending (λ other e. unheld other ((is.busy other).0 e))

-- the acts of a commit are those of its freeze, and the seal
pub commit-split : (uuid : List ℕ) (pending : Option (List ℕ)) → entries (freeze_acts uuid pending) ++ entries (Seal uuid ∷ []) ≡ entries (commit_acts uuid pending)
commit-split uuid None = refl
commit-split uuid (Some own) = refl

module _ (tells : Bool) (s s' : DiskState) (f f' : ℕ) (p p' : Parts) (uuid : List ℕ) where
  abbrev old : Seen
  old = record { tells = tells; state = s; faults = f; parts = p }

  abbrev new : Seen
  new = record { tells = tells; state = s'; faults = f'; parts = p' }

  -- the top was frozen
  module _ (goes : Goes old new (noted_freeze uuid accepts)) (is : IsRefusedFreeze (pending_in (parts_view p)) (uuids_in (parts_view p)) uuid accepts) (standing : IsImage old) where
    none-held : pending_in (parts_view p) ≡ None
    none-held = frozen-free (pending_in (parts_view p)) (uuids_in (parts_view p)) uuid accepts is (λ other e. cc)

    after-freeze : StandsFor new standing.0 (standing.1 ++ entry 0 (Freeze uuid) ∷ [])
    after-freeze = goes.stands standing.0 standing.1 0 standing.2

    pub freeze-free : IsFree uuid (pending_in (parts_view p))
    freeze-free = inl none-held

    pub freeze-adds : Adds (entries (freeze_acts uuid (pending_in (parts_view p)))) old new
    freeze-adds = subst (λ (o : Option (List ℕ)). Adds (entries (freeze_acts uuid o)) old new) (sym none-held) (adds-act tells s s' f f' p p' (Freeze uuid) refl goes)

    pub freeze-pending : pending_in (parts_view p') ≡ Some uuid
    freeze-pending = pending-now new standing.0 (standing.1 ++ entry 0 (Freeze uuid) ∷ []) after-freeze ∙ ap (λ (b : Base). pending_of b.frozen) (now-entry standing.0 standing.1 0 (Freeze uuid))

    pub freeze-committed : length (parts_view p').committed ≡ length (parts_view p).committed
    freeze-committed =
        committed-now new standing.0 (standing.1 ++ entry 0 (Freeze uuid) ∷ []) after-freeze ∙ ap (λ (b : Base). length b.done) (now-entry standing.0 standing.1 0 (Freeze uuid))
        ∙ sym (committed-now old standing.0 standing.1 standing.2)

  -- its commit was in progress
  module _ (goes : Goes old new None) (is : IsRefusedFreeze (pending_in (parts_view p)) (uuids_in (parts_view p)) uuid (refuses (freeze.Busy uuid))) where
    pub own-held : pending_in (parts_view p) ≡ Some uuid
    own-held = (is.busy uuid).1 refl

    pub own-free : IsFree uuid (pending_in (parts_view p))
    own-free = inr own-held

    pub own-adds : Adds (entries (freeze_acts uuid (pending_in (parts_view p)))) old new
    own-adds = subst (λ (o : Option (List ℕ)). Adds (entries (freeze_acts uuid o)) old new) (sym own-held) (adds-none tells s s' f f' p p' goes)

    pub own-before : IsAsBefore old new
    own-before = λ base history stands. goes.stands base history 0 stands

  -- it was not frozen
  pub freeze-refused : (why : FreezeFault) → Goes old new (noted_freeze uuid (refuses why))
      → IsRefusedFreeze (pending_in (parts_view p)) (uuids_in (parts_view p)) uuid (refuses why) → why ≢ freeze.Busy uuid
      → Quiet s s → ((IsErrOf (refuses why) freeze.Failed → ⊥) → s' ≡ s) → (IsErrOf (refuses why) freeze.Failed → f < f')
      → CommitCause uuid old new (freeze_refused_as why)
  freeze-refused (freeze.Busy other) goes is unlike quiet same rose =
      ((is.busy other).1 refl, (λ e. unlike (ap freeze.Busy e)), record { adds = adds-none tells s s' f f' p p' goes; same = subst (λ (t : DiskState). Quiet s t) (sym (same (λ e. cc))) quiet })
  freeze-refused freeze.TooMany goes is unlike quiet same rose =
      let known = is.many.1 refl in
      (known.0, known.1, record { adds = adds-none tells s s' f f' p p' goes; same = subst (λ (t : DiskState). Quiet s t) (sym (same (λ e. cc))) quiet })
  freeze-refused freeze.UuidTwice goes is unlike quiet same rose =
      let known = is.twice.1 refl in
      (known.0, known.1, known.2, record { adds = adds-none tells s s' f f' p p' goes; same = subst (λ (t : DiskState). Quiet s t) (sym (same (λ e. cc))) quiet })
  freeze-refused freeze.Memory goes is unlike quiet same rose =
      (inl (frozen-free (pending_in (parts_view p)) (uuids_in (parts_view p)) uuid (refuses freeze.Memory) is (λ other e. cc)), adds-none tells s s' f f' p p' goes)
  freeze-refused freeze.Failed goes is unlike quiet same rose = (
    inl (frozen-free (pending_in (parts_view p)) (uuids_in (parts_view p)) uuid (refuses freeze.Failed) is (λ other e. cc)),
    rose refl,
    ([], record { rest = entries (commit_acts uuid (pending_in (parts_view p))); is = refl }, inr (Uuid uuid, inr refl, adds-act tells s s' f f' p p' (Fault (Uuid uuid)) refl goes)),
  )

-- ---- a seal

sealed-one : (files : List (List ℕ)) (frozen : Option Frozen) (uuid : List ℕ) → pending_of frozen ≡ Some uuid → length (sealed_over files frozen) ≡ 1
sealed-one files None uuid e = absurd (cc)
sealed-one files (Some f) uuid e = refl

-- the image has one layer more
pub seal-more : (tells : Bool) (s s' : DiskState) (f f' : ℕ) (p p' : Parts) (uuid : List ℕ)
    → Goes (record { tells = tells; state = s; faults = f; parts = p }) (record { tells = tells; state = s'; faults = f'; parts = p' }) (Some (Seal uuid))
    → pending_in (parts_view p) ≡ Some uuid → IsImage (record { tells = tells; state = s; faults = f; parts = p }) → length (parts_view p).committed < length (parts_view p').committed
seal-more tells s s' f f' p p' uuid goes pending standing =
    let first : Seen = record { tells = tells; state = s; faults = f; parts = p } in
    let last : Seen = record { tells = tells; state = s'; faults = f'; parts = p' } in
    let b : Base = now standing.0 standing.1 in
    let h : History = standing.1 ++ entry 0 (Seal uuid) ∷ [] in
    let held : pending_of b.frozen ≡ Some uuid = sym (pending-now first standing.0 standing.1 standing.2) ∙ pending in
    let before = committed-now first standing.0 standing.1 standing.2 in
    let after = committed-now last standing.0 h (goes.stands standing.0 standing.1 0 standing.2) in
    let made : length (now standing.0 h).done ≡ length (b.done ++ sealed_over (b.lowers ++ b.done) b.frozen) = ap (λ (c : Base). length c.done) (now-entry standing.0 standing.1 0 (Seal uuid)) in
    let long = length-append b.done (sealed_over (b.lowers ++ b.done) b.frozen) in
    omega (arith, before, after, made, long, sealed-one (b.lowers ++ b.done) b.frozen uuid held)

-- the size of the file of its epoch is that of the commit's
pub size-of-commit : (uuid : List ℕ) (old new : Seen) (epoch size : ℕ) → Adds (entries (commit_acts uuid (pending_in (parts_view old.parts)))) old new → epoch ≡ length (parts_view old.parts).committed
    → (IsTrue old.tells → (base : Base) (history : History) → StandsFor new base history → size ≡ length (slice_index_or (committed base history) epoch [])) → IsCommitSize uuid old size
size-of-commit uuid old new epoch size adds number said = λ base stands tells.
    let a = adds.stands base [] stands in
    let acts = ap (λ (o : Option (List ℕ)). entries (commit_acts uuid o)) (pending-now old base [] stands) in
    let files = ap (λ (b : Base). b.done) (now-without base a.0) ∙ ap (λ (h : History). (now base h).done) (a.1 ∙ acts) in
    said tells base a.0 a.2 ∙ ap (λ (l : List (List ℕ)). length (slice_index_or l epoch [])) files
    ∙ ap (λ (n : ℕ). length (slice_index_or (committed base (entries (commit_acts uuid (pending_of base.frozen)))) n [])) (number ∙ committed-now old base [] stands)

-- ---- a freeze, the copies, the seal and the look at the file's size, one behind the other

-- what was added stays so, where an image is as before
pub adds-before : (acts : History) (one two three : Seen) → Adds acts one two → IsAsBefore two three → Adds acts one three
adds-before acts one two three adds same = record {
  stands = λ base history stands. let a = adds.stands base history stands in (a.0, a.1, same base (history ++ a.0) a.2);
}

module _ (uuid : List ℕ) (one two three four : Seen) (free : IsFree uuid (pending_in (parts_view one.parts))) (froze : Adds (entries (freeze_acts uuid (pending_in (parts_view one.parts)))) one two) where
  abbrev frozen : History
  frozen = entries (freeze_acts uuid (pending_in (parts_view one.parts)))

  abbrev all : History
  all = entries (commit_acts uuid (pending_in (parts_view one.parts)))

  begins : StartsWith all frozen
  begins = record { rest = entries (Seal uuid ∷ []); is = sym (commit-split uuid (pending_in (parts_view one.parts))) }

  -- a copy failed
  pub copy-stopped : Adds fault two three → one.faults < three.faults → CommitCause uuid one three refused.DiskFault
  copy-stopped failed rose = (free, rose, (frozen, begins, inr (Nothing, inl refl, adds-joined frozen fault one two three froze failed)))

  module _ (same : IsAsBefore two three) where
    copied : Adds frozen one three
    copied = adds-before frozen one two three froze same

    -- the seal failed
    pub seal-stopped : Adds (fault_of (Uuid uuid)) three four → one.faults < four.faults → CommitCause uuid one four refused.DiskFault
    seal-stopped failed rose = (free, rose, (frozen, begins, inr (Uuid uuid, inr refl, adds-joined frozen (fault_of (Uuid uuid)) one three four copied failed)))

    -- and so where that is its answer
    pub seal-answered : (r : Result ℕ Refusal) → IfErr r (λ refusal. refusal ≡ refused.DiskFault) → OnErr r (Adds (fault_of (Uuid uuid)) three four)
        → (IsErrOf r refused.DiskFault → one.faults < four.faults) → IfErr r (λ refusal. CommitCause uuid one four refusal)
    seal-answered (Ok epoch) is failed rose = tt
    seal-answered (Err refusal) is failed rose =
        subst (λ (x : Refusal). CommitCause uuid one four x) (sym is) (seal-stopped failed (rose (ap Err is)))

    pub sealed-all : Adds (entries (Seal uuid ∷ [])) three four → Adds all one four
    sealed-all sealed = subst (λ (h : History). Adds h one four) (commit-split uuid (pending_in (parts_view one.parts))) (adds-joined frozen (entries (Seal uuid ∷ [])) one three four copied sealed)

-- the size of the file was not told
pub size-stopped : (uuid : List ℕ) (one four five : Seen) → IsFree uuid (pending_in (parts_view one.parts)) → Adds (entries (commit_acts uuid (pending_in (parts_view one.parts)))) one four
    → IsAsBefore four five → one.faults < five.faults → CommitCause uuid one five refused.DiskFault
size-stopped uuid one four five free sealed still rose =
    let all : History = entries (commit_acts uuid (pending_in (parts_view one.parts))) in
    (free, rose, (all, record { rest = []; is = sym (append-nil all) }, inl (adds-before all one four five sealed still)))

-- ---- what a freeze is refused as

only-failed : (fault : FreezeFault) → freeze_refused_as fault ≡ refused.DiskFault → fault ≡ freeze.Failed
only-failed freeze.Failed e = refl
only-failed other e = absurd (cc)

-- a freeze of an image with 255 layers is refused as that, where no commit is in progress
module _ (pending : Option (List ℕ)) (uuids : List (List ℕ)) (uuid : List ℕ) (none : pending ≡ None) (full : 255 ≤ length uuids) where
  pub none-accepted : IsRefusedFreeze pending uuids uuid accepts → ⊥
  none-accepted is = let e = is.many.0 (none, full) in cc

  pub many-refused : (r : Result (Unit {0}) Refusal) (why : FreezeFault) → IsRefusedFreeze pending uuids uuid (refuses why) → OnOk r (why ≡ freeze.Busy uuid)
      → IfErr r (λ refusal. refusal ≡ freeze_refused_as why) → IsErrOf r refused.TooManyLayers
  many-refused (Ok value) why is own told = absurd (let e = is.many.0 (none, full) in let same : why ≡ freeze.TooMany = cc in cc)
  many-refused (Err refusal) why is own told =
      let e = is.many.0 (none, full) in
      let same : why ≡ freeze.TooMany = cc in
      ap Err (told ∙ ap freeze_refused_as same)

only-many : (fault : FreezeFault) → freeze_refused_as fault ≡ refused.TooManyLayers → fault ≡ freeze.TooMany
only-many freeze.TooMany e = refl
only-many other e = absurd (cc)

-- what is refused as that is no fault of the disk
pub many-spared : (r : Result (Unit {0}) Refusal) (why : FreezeFault) → IfErr r (λ refusal. refusal ≡ freeze_refused_as why) → IsErrOf r refused.TooManyLayers
    → IsErrOf (refuses why) freeze.Failed → ⊥
many-spared (Ok value) why told is failed = cc
many-spared (Err refusal) why told is failed =
    let same : refusal ≡ refused.TooManyLayers = cc in
    let many : why ≡ freeze.TooMany = only-many why (sym told ∙ same) in
    let other : why ≡ freeze.Failed = cc in
    cc

-- the answer is the disk's fault just where the freeze failed
pub to-failed : (r : Result (Unit {0}) Refusal) (fault : FreezeFault) (uuid : List ℕ) → OnOk r (fault ≡ freeze.Busy uuid) → IfErr r (λ refusal. refusal ≡ freeze_refused_as fault)
    → IsErrOf (refuses fault) freeze.Failed → IsErrOf r refused.DiskFault
to-failed (Ok value) fault uuid own is e = absurd (let same : fault ≡ freeze.Failed = cc in cc)
to-failed (Err x) fault uuid own is e = let same : fault ≡ freeze.Failed = cc in ap Err (is ∙ ap freeze_refused_as same)

pub from-failed : (r : Result (Unit {0}) Refusal) (fault : FreezeFault) → IfErr r (λ refusal. refusal ≡ freeze_refused_as fault) → IsErrOf r refused.DiskFault → IsErrOf (refuses fault) freeze.Failed
from-failed (Ok value) fault is e = absurd (cc)
from-failed (Err x) fault is e = let same : x ≡ refused.DiskFault = cc in ap (λ (w : FreezeFault). refuses w) (only-failed fault (sym is ∙ same))

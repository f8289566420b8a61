-- The steps of a commit: what they note, why they are refused, and how its file grows.
use Rattle.std.specs.Prelude.{◌≡◌, ◌≢◌, ℕ, ◌+◌, ◌*◌, ◌<◌, ◌≤◌, ◌↔◌, min, List, [], ◌++◌, length, map, take, drop, slice_index_or, Contains, Option, Some, None, Result, Ok, Err}
use Rattle.flat_image.specs.declared.act.Act.{Act}
use Rattle.flat_image.specs.declared.act.Act.TheVariants as acts
use Rattle.flat_image.specs.declared.act.Asked.TheVariants.{Nothing, Uuid}
use Rattle.flat_image.specs.declared.base.Base.{Base}
use Rattle.flat_image.specs.History.{History, committed}
use Rattle.image_core.specs.declared.commit.FreezeFault.{FreezeFault}
use Rattle.image_core.specs.declared.commit.FreezeFault.TheVariants as freezes
use Rattle.image_core.specs.declared.commit.CopyState.{CopyState}
use Rattle.image_core.specs.declared.commit.CopyState.TheVariants.{More, Whole}
use Rattle.image_core.specs.declared.commit.CopyFault.{CopyFault}
use Rattle.image_core.specs.declared.commit.CopyFault.TheVariants as copies
use Rattle.image_core.specs.declared.commit.SealFault.{SealFault}
use Rattle.image_core.specs.declared.commit.SealFault.TheVariants as seals
use Rattle.image_core.specs.View.{CommitView, ImageView}

-- what a freeze notes: its act, a fault with its uuid where the disk failed, and nothing where it was refused
abbrev pub noted_freeze : {T : Type 0} → List ℕ → Result T FreezeFault → Option Act
noted_freeze uuid (Ok value) = Some (acts.Freeze uuid)
noted_freeze uuid (Err (freezes.Busy other)) = None
noted_freeze uuid (Err freezes.TooMany) = None
noted_freeze uuid (Err freezes.UuidTwice) = None
noted_freeze uuid (Err freezes.Memory) = None
noted_freeze uuid (Err freezes.Failed) = Some (acts.Fault (Uuid uuid))

-- a copy notes a fault where the disk failed, and nothing else
abbrev pub noted_copy : {T : Type 0} → Result T CopyFault → Option Act
noted_copy (Ok value) = None
noted_copy (Err (copies.NotPending other)) = None
noted_copy (Err copies.Failed) = Some (acts.Fault Nothing)

-- what a seal notes, as a freeze
abbrev pub noted_seal : {T : Type 0} → List ℕ → Result T SealFault → Option Act
noted_seal uuid (Ok value) = Some (acts.Seal uuid)
noted_seal uuid (Err (seals.NotPending other)) = None
noted_seal uuid (Err (seals.NotWhole done total)) = None
noted_seal uuid (Err seals.Failed) = Some (acts.Fault (Uuid uuid))

-- a call that notes a fault where it fails, and nothing else
abbrev pub noted_peek : {T E : Type 0} → Result T E → Option Act
noted_peek (Ok value) = None
noted_peek (Err fault) = Some (acts.Fault Nothing)

-- the uuids of the layers of an image, the lowest first
abbrev pub uuids_in : ImageView → List (List ℕ)
uuids_in v = map (λ l. l.head.uuid) (v.lowers ++ v.committed)

-- A freeze with this uuid, of an image whose layers have these, with that commit in progress or none. It is refused as busy
-- just where there is one, else as too many just where there are 255 layers, and else as there being that uuid twice just
-- where a layer has it.
pub record IsRefusedFreeze {T : Type 0} (pending : Option (List ℕ)) (uuids : List (List ℕ)) (uuid : List ℕ) (outcome : Result T FreezeFault) : Type 0 where
  pub busy : (other : List ℕ) → (pending ≡ Some other) ↔ (outcome ≡ Err (freezes.Busy other))
  pub many : ((pending ≡ None) × (255 ≤ length uuids)) ↔ (outcome ≡ Err freezes.TooMany)
  pub twice : ((pending ≡ None) × (length uuids < 255) × Contains uuids uuid) ↔ (outcome ≡ Err freezes.UuidTwice)

-- and so it is not refused
pub record MayFreeze (pending : Option (List ℕ)) (uuids : List (List ℕ)) (uuid : List ℕ) : Type 0 where
  pub none : pending ≡ None
  pub few : length uuids < 255
  pub unlike : Contains uuids uuid → ⊥

-- the pieces of the commit in progress that are written, and all of them
abbrev pub done_of : Option CommitView → ℕ
done_of None = 0
done_of (Some commit) = commit.done

abbrev pub total_of : Option CommitView → ℕ
total_of None = 0
total_of (Some commit) = commit.total

-- A copy of the commit with this uuid, of an image with that one in progress or none: it is refused just where that is
-- another, and the refusal says which.
pub record IsRefusedCopy {T : Type 0} (pending : Option (List ℕ)) (uuid : List ℕ) (outcome : Result T CopyFault) : Type 0 where
  pub other : (pending ≢ Some uuid) ↔ (outcome ≡ Err (copies.NotPending pending))
  pub only : (said : Option (List ℕ)) → outcome ≡ Err (copies.NotPending said) → said ≡ pending

-- One piece more is written, or none is left. It answers that there are more just where pieces are left.
pub record IsCopied (old new : Option CommitView) (state : CopyState) : Type 0 where
  pub done : done_of new ≡ min (done_of old + 1) (total_of old)
  pub total : total_of new ≡ total_of old
  pub more : (state ≡ More) ↔ (done_of new < total_of new)
  pub whole : (state ≡ Whole) ↔ (done_of new ≡ total_of new)

-- A seal of the commit with this uuid, of an image with that one in progress or none, of whose file so many pieces are
-- written of so many: it is refused just where that is another, and else as not whole just where pieces are left.
pub record IsRefusedSeal {T : Type 0} (pending : Option (List ℕ)) (done total : ℕ) (uuid : List ℕ) (outcome : Result T SealFault) : Type 0 where
  pub other : (pending ≢ Some uuid) ↔ (outcome ≡ Err (seals.NotPending pending))
  pub only : (said : Option (List ℕ)) → outcome ≡ Err (seals.NotPending said) → said ≡ pending
  pub left : ((pending ≡ Some uuid) × (done < total)) ↔ (outcome ≡ Err (seals.NotWhole done total))
  pub left_only : (d t : ℕ) → outcome ≡ Err (seals.NotWhole d t) → (d ≡ done) × (t ≡ total)

-- so many bytes of the committed file of an epoch, from that sector on
abbrev pub peeked : Base → History → ℕ → ℕ → ℕ → List ℕ
peeked base history epoch place size = take size (drop (512 * place) (slice_index_or (committed base history) epoch []))

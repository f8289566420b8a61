-- Lists of steps of an image: when they may be asked for, what they note, and what their replies say.
use Rattle.std.specs.Prelude.{◌≡◌, ◌≢◌, ℕ, ◌+◌, ◌*◌, ◌^◌, ◌<◌, ◌≤◌, ◌↔◌, List, [], ◌∷◌, ◌++◌, length, map, drop, replicate, All, Bool, IsTrue, Option, Some, None, Result, Err, OnOk, IfOk, IsErrOf, ⊤}
use Rattle.sector_extent.specs.Causes.{Charges}
use Rattle.block_disk.specs.declared.disk.Disk.{Ghosts}
use Rattle.sector_extent.specs.declared.extent.Extent.{Extent}
use Rattle.sector_extent.specs.Rows.{rows_for}
use Rattle.flat_image.specs.declared.act.Act.{Act}
use Rattle.flat_image.specs.declared.act.Act.TheVariants as acts
use Rattle.flat_image.specs.declared.base.Base.{Base}
use Rattle.flat_image.specs.Sheets.{Cell}
use Rattle.lsmt_header.specs.Blocks.{nil}
use Rattle.flat_image.specs.Base.{pending_of}
use Rattle.flat_image.specs.LayerReading.{uuid_in}
use Rattle.flat_image.specs.Entries.{entry}
use Rattle.flat_image.specs.History.{History, now, is_fault, IsOver}
use Rattle.top_writer.specs.declared.fault.WriteFault.{WriteFault}
use Rattle.top_writer.specs.declared.fault.WriteFault.TheVariants.{Full, Failed}
use Rattle.top_writer.specs.declared.fault.ReadFault.{ReadFault}
use Rattle.top_writer.specs.Gaps.{Paints, IsHole, AreGaps}
use Rattle.image_core.specs.declared.image.Image.{Image}
use Rattle.image_core.specs.declared.status.Status as statuses
use Rattle.image_core.specs.declared.steps.Step.{Step}
use Rattle.image_core.specs.declared.steps.Step.TheVariants.{Plan, Write, Zero, Flush, Grow, Freeze, Copy, Seal, Sweep, Status}
use Rattle.image_core.specs.declared.steps.Numbered.{Numbered}
use Rattle.image_core.specs.declared.steps.Reply.{Reply}
use Rattle.image_core.specs.declared.steps.Reply.TheVariants.{Planned, Wrote, Zeroed, Flushed, Grown, Frozen, Copied, SealedAs, Swept, Now}
use Rattle.image_core.specs.Committing.{noted_freeze, noted_copy, noted_seal, noted_peek, IsRefusedFreeze, IsRefusedCopy, IsRefusedSeal, IsCopied, done_of, total_of}
use Rattle.image_core.specs.declared.commit.SealFault.{SealFault}
use Rattle.image_core.specs.declared.commit.SealFault.TheVariants.{NotPending, NotWhole}
use Rattle.image_core.specs.Growing.{noted_grow, pending_in, IsRefusedGrow}
use Rattle.image_core.specs.View.{ImageView}
use Rattle.image_core.specs.Parts.{parts_view, noted_change, noted_call, noted_read}
use Rattle.image_core.specs.Seen.{Seen, seen, StandsFor, Goes}
use Rattle.image_core.specs.Upper.{upper}

-- the step may be asked for of an image of n sectors
abbrev pub MayStep : ℕ → Step → Type 0
MayStep n (Plan e) = e.at + e.count ≤ n
MayStep n (Write e bytes) = (length bytes ≡ 512 * e.count) × (e.at + e.count ≤ n)
MayStep n (Zero e) = e.at + e.count ≤ n
MayStep n Flush = ⊤
MayStep n (Grow sectors) = sectors ≤ 2 ^ 31
MayStep n (Freeze uuid) = uuid ≢ nil
MayStep n (Copy uuid) = ⊤
MayStep n (Seal uuid) = ⊤
MayStep n Sweep = ⊤
MayStep n Status = ⊤

-- and so may each step of the list
abbrev pub MayRun : ℕ → List Numbered → Type 0
MayRun n list = All (λ s. MayStep n s.step) list

-- what a step notes with that reply: its act where it is done, a fault where the disk failed, and else nothing
abbrev pub noted_with : Step → Reply → Option Act
noted_with (Plan e) (Planned outcome bytes gaps) = noted_read (acts.Read e.at e.count) outcome
noted_with (Write e bytes) (Wrote outcome) = noted_change (acts.Write e.at bytes) outcome
noted_with (Zero e) (Zeroed outcome) = noted_change (acts.Zero e.at e.count) outcome
noted_with Flush (Flushed outcome) = noted_call acts.Flush outcome
noted_with (Grow sectors) (Grown outcome) = noted_grow sectors outcome
noted_with (Freeze uuid) (Frozen outcome) = noted_freeze uuid outcome
noted_with (Copy uuid) (Copied outcome) = noted_copy outcome
noted_with (Seal uuid) (SealedAs outcome) = noted_seal uuid outcome
noted_with Sweep (Swept outcome) = noted_peek outcome
noted_with step reply = None

-- the entry of an act, or none
abbrev pub noted_as : ℕ → Option Act → History
noted_as number None = []
noted_as number (Some act) = entry number act ∷ []

-- what the steps of a list note that got these replies, each under its number
abbrev pub noted_by : List Numbered → List Reply → History
noted_by [] replies = []
noted_by (s ∷ list) [] = []
noted_by (s ∷ list) (reply ∷ replies) = noted_as s.number (noted_with s.step reply) ++ noted_by list replies

-- A change of a top that has used so much, and then would have used that: it is refused as being full just where that is
-- over what a top may have, and the refusal says what it has.
pub record IsRefusedFull {T : Type 0} (rows filled more_rows more_filled : ℕ) (outcome : Result T WriteFault) : Type 0 where
  pub just : IsOver more_rows more_filled ↔ (outcome ≡ Err (Full rows filled))
  pub only : (r f : ℕ) → outcome ≡ Err (Full r f) → (r ≡ rows) × (f ≡ filled)

-- what a plan replies of an image with this upper part: bytes of the extent, zeros with what the upper part paints over
-- them where it was read, and its holes as gaps
pub record IsPlanReply {T : Type 0} (tells : Bool) (cells : List Cell) (e : Extent) (outcome : Result T ReadFault) (bytes : List ℕ) (gaps : List Extent) : Type 0 where
  pub size : length bytes ≡ 512 * e.count
  pub read : OnOk outcome (IsTrue tells → Paints cells e.at e.count (replicate {A = ℕ} (512 * e.count) 0) bytes)
  pub holes : OnOk outcome (AreGaps (IsHole cells) e.at (e.at + e.count) gaps)

-- what a status says of an image that is made of b
pub record IsTold (b : Base) (s : statuses.Status) : Type 0 where
  pub sectors : s.sectors ≡ b.sectors
  pub layers : s.layers ≡ length b.lowers + length b.done
  pub pending : s.pending ≡ pending_of b.frozen

-- what a seal of the commit with this uuid replies of an image with so many committed layers: how many; that another
-- commit is in progress or none, just where it is so; or that pieces of its file are left
pub record SealSaid (pending : Option (List ℕ)) (count : ℕ) (uuid : List ℕ) (outcome : Result ℕ SealFault) : Type 0 where
  pub epoch : IfOk outcome (λ epoch. epoch ≡ count)
  pub other : (pending ≢ Some uuid) ↔ (outcome ≡ Err (NotPending pending))
  pub only : (said : Option (List ℕ)) → outcome ≡ Err (NotPending said) → said ≡ pending
  pub left : (done total : ℕ) → outcome ≡ Err (NotWhole done total) → done < total

abbrev pub IsSealReply : Base → List ℕ → Result ℕ SealFault → Type 0
IsSealReply b uuid outcome = SealSaid (pending_of b.frozen) (length b.done) uuid outcome

-- what a step may reply of an image that is made of b
abbrev pub IsReply : Bool → Base → Step → Reply → Type 0
IsReply tells b (Plan e) (Planned outcome bytes gaps) = IsPlanReply tells (upper b) e outcome bytes gaps
IsReply tells b (Write e bytes) (Wrote outcome) = IsRefusedFull b.rows b.filled (b.rows + rows_for e.count) (b.filled + e.count) outcome
IsReply tells b (Zero e) (Zeroed outcome) =
    IsRefusedFull b.rows b.filled (b.rows + rows_for e.count) b.filled outcome × (IsErrOf outcome Failed → ⊥)
IsReply tells b Flush (Flushed outcome) = ⊤
IsReply tells b (Grow sectors) (Grown outcome) = IsRefusedGrow (pending_of b.frozen) b.sectors sectors outcome
IsReply tells b (Freeze uuid) (Frozen outcome) = IsRefusedFreeze (pending_of b.frozen) (map uuid_in (b.lowers ++ b.done)) uuid outcome
IsReply tells b (Copy uuid) (Copied outcome) = IsRefusedCopy (pending_of b.frozen) uuid outcome
IsReply tells b (Seal uuid) (SealedAs outcome) = IsSealReply b uuid outcome
IsReply tells b Sweep (Swept outcome) = IfOk outcome (λ count. count ≡ length b.done)
IsReply tells b Status (Now s) = IsTold b s
IsReply tells b step reply = ⊥

-- the replies are those of the first steps of the list, each of the image as it is made of the base by the history and by
-- what the steps before it noted
abbrev pub AreReplies : Bool → Base → History → List Numbered → List Reply → Type 0
AreReplies tells base history [] [] = ⊤
AreReplies tells base history [] (reply ∷ replies) = ⊥
AreReplies tells base history (s ∷ list) [] = ⊤
AreReplies tells base history (s ∷ list) (reply ∷ replies) =
    IsReply tells (now base history) s.step reply
    × AreReplies tells base (history ++ noted_as s.number (noted_with s.step reply)) list replies

-- the replies that were added behind the old ones
abbrev pub added : List Reply → List Reply → List Reply
added old new = drop (length old) new

-- what is noted is a fault
abbrev pub NotesFault : Option Act → Type 0
NotesFault None = ⊥
NotesFault (Some act) = IsTrue (is_fault act)

-- what a copy and a seal reply of the pieces of the commit's file, of an image that is seen so before the step and behind it
abbrev pub CountsPieces : ImageView → ImageView → Step → Reply → Type 0
CountsPieces old new (Copy uuid) (Copied outcome) = IfOk outcome (IsCopied old.commit new.commit)
CountsPieces old new (Seal uuid) (SealedAs outcome) =
    IsRefusedSeal (pending_in old) (done_of old.commit) (total_of old.commit) uuid outcome
CountsPieces old new step reply = ⊤

-- a step that is made, with its reply: what it makes of the image, what it replies of it, and that the disk counted a fault
-- just where it notes one
pub record Makes (old new : Seen) (s : Numbered) (reply : Reply) : Type 0 where
  pub goes : Goes old new (noted_with s.step reply)
  pub right : (base : Base) (history : History) → StandsFor old base history → IsReply old.tells (now base history) s.step reply
  pub cause : Charges {S = ℕ} (λ count. count) old.faults new.faults (NotesFault (noted_with s.step reply))
  pub pieces : CountsPieces (parts_view old.parts) (parts_view new.parts) s.step reply

-- The first steps of a list were made one after another, each from the image that the one before it left, and got these
-- replies.
abbrev pub GoesBy : {D : Type 0} → Ghosts D → Image D → Image D → List Numbered → List Reply → Type 0
GoesBy kind old new list [] = new ≡ old
GoesBy kind old new [] (reply ∷ replies) = ⊥
GoesBy {D} kind old new (s ∷ list) (reply ∷ replies) =
    (mid : Image D) × Makes (seen kind old) (seen kind mid) s reply × GoesBy kind mid new list replies

-- one step that is made, and its reply behind the old ones
pub record MakesNext (old new : Seen) (s : Numbered) (before after : List Reply) : Type 0 where
  pub reply : Reply
  pub behind : after ≡ before ++ reply ∷ []
  pub makes : Makes old new s reply

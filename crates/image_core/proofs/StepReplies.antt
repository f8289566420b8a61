-- What single steps reply.
use Rattle.std.proofs.Common.{◌≡◌, ℕ, ◌+◌, ◌*◌, Bool, IsTrue, List, [], ◌∷◌, ◌++◌, map, length, refl, sym, ap, ◌∙◌, subst, arith}
use Rattle.std.proofs.Math.ListN.{replicate}
use Rattle.std.specs.Prelude.{Ok, Err, Result, IfOk, Option, Some, None}
use Rattle.std.specs.Option.{option_map}
use Rattle.block_disk.specs.DiskState.{DiskState}
use Rattle.flat_image.specs.Frozen.{Frozen}
use Rattle.image_core.specs.declared.parts.Commit.{Commit}
use Rattle.sector_extent.specs.declared.extent.Extent.{Extent}
use Rattle.flat_image.specs.declared.base.Base.{Base}
use Rattle.flat_image.specs.Base.{pending_of}
use Rattle.flat_image.specs.History.{History, now}
use Rattle.top_writer.specs.declared.fault.ReadFault.{ReadFault}
use Rattle.top_writer.specs.Gaps.{Paints, AreGaps}
use Rattle.image_core.specs.declared.status.Status as statuses
use Rattle.image_core.specs.View.{AreLayersOf, CommitView}
use Rattle.image_core.specs.Pieces.{IsStatusOf}
use Rattle.image_core.specs.Parts.{commit_view, parts_view, CommitsFit}
use Rattle.image_core.specs.Seen.{Seen, StandsFor}
use Rattle.image_core.specs.Upper.{upper, IsGap}
use Rattle.image_core.specs.Steps.{IsPlanReply, IsTold, SealSaid, IsSealReply}
use Rattle.image_core.specs.declared.growing.GrowFault.{GrowFault}
use Rattle.image_core.specs.declared.commit.FreezeFault.{FreezeFault}
use Rattle.image_core.specs.declared.commit.CopyFault.{CopyFault}
use Rattle.image_core.specs.declared.commit.SealFault.{SealFault}
use Rattle.image_core.specs.declared.commit.SealFault.TheVariants as seals
use Rattle.image_core.specs.Growing.{pending_in, IsRefusedGrow}
use Rattle.image_core.specs.Committing.{uuids_in, IsRefusedFreeze, IsRefusedCopy, IsRefusedSeal, done_of, total_of}
use Rattle.flat_image.specs.LayerReading.{uuid_in}
use Rattle.image_core.proofs.FrozenTops.{layers-append, same-uuids}
use Rattle.sealed_layer.specs.Layers.{LayerIndex}

same-length : (files : List (List ℕ)) (layers : List LayerIndex) → AreLayersOf files layers → length layers ≡ length files
same-length [] [] are = refl
same-length [] (layer ∷ layers) are = absurd are
same-length (file ∷ files) [] are = absurd are
same-length (file ∷ files) (layer ∷ layers) are = omega (arith, same-length files layers are.1)

-- the uuid of the commit in progress
pub pending-viewed : (tells : Bool) (disk : DiskState) (exact : Bool) (n : ℕ) (lowers done : List (List ℕ)) (frozen : Option Frozen) (commit : Option Commit)
    → CommitsFit tells disk exact n lowers done frozen commit → option_map (λ (c : CommitView). c.uuid) (option_map commit_view commit) ≡ pending_of frozen
pending-viewed tells disk exact n lowers done None None fit = refl
pending-viewed tells disk exact n lowers done None (Some c) fit = absurd fit
pending-viewed tells disk exact n lowers done (Some f) None fit = absurd fit
pending-viewed tells disk exact n lowers done (Some f) (Some c) fit = ap (λ (u : List ℕ). Some u) fit.uuid_is

-- a status tells of what the history made
pub status-told : (x : Seen) (s : statuses.Status) → IsStatusOf (parts_view x.parts) s
    → (base : Base) (history : History) → StandsFor x base history → IsTold (now base history) s
status-told x s is base history stands =
    let fit = stands.fits in
    record {
      sectors = is.sectors ∙ fit.top.holds.sectors;
      layers = omega (arith, is.layers, same-length (now base history).lowers x.parts.stack.lowers fit.stack.lowers_are, same-length (now base history).done x.parts.stack.committed.items fit.stack.committed);
      pending = is.pending ∙ pending-viewed x.tells x.state fit.exact (now base history).sectors (now base history).lowers (now base history).done (now base history).frozen x.parts.stack.commit fit.stack.commit;
    }

-- a plan that was read, over zeros
pub plan-replied : (x : Seen) (e : Extent) (old new : List ℕ) (gaps : List Extent)
    → old ≡ replicate {A = ℕ} (512 * e.count) 0 → length new ≡ 512 * e.count
    → (IsTrue x.tells → (base : Base) (history : History) → StandsFor x base history → Paints (upper (now base history)) e.at e.count old new)
    → ((base : Base) (history : History) → StandsFor x base history → AreGaps (IsGap (now base history)) e.at (e.at + e.count) gaps)
    → (base : Base) (history : History) → StandsFor x base history → IsPlanReply {T = Unit {0}} x.tells (upper (now base history)) e (Ok tt) new gaps
plan-replied x e old new gaps zeros size read holes base history stands = record {
  size = size;
  read = λ told. subst (λ l. Paints (upper (now base history)) e.at e.count l new) zeros (read told base history stands);
  holes = holes base history stands;
}

-- and one that failed
pub plan-failed : (tells : Bool) (b : Base) (e : Extent) (fault : ReadFault) (new : List ℕ) (gaps : List Extent) → length new ≡ 512 * e.count
    → IsPlanReply {T = Unit {0}} tells (upper b) e (Err fault) new gaps
plan-failed tells b e fault new gaps size = record { size = size; read = tt; holes = tt }

-- a grow, a freeze, a copy and a seal reply of what the history made
module _ (x : Seen) (base : Base) (history : History) (k : StandsFor x base history) where
  pending-is : pending_in (parts_view x.parts) ≡ pending_of (now base history).frozen
  pending-is =
      let b : Base = now base history in
      pending-viewed x.tells x.state k.fits.exact b.sectors b.lowers b.done b.frozen x.parts.stack.commit k.fits.stack.commit

  uuids-are : uuids_in (parts_view x.parts) ≡ map uuid_in ((now base history).lowers ++ (now base history).done)
  uuids-are =
      let b : Base = now base history in
      same-uuids (b.lowers ++ b.done) (x.parts.stack.lowers ++ x.parts.stack.committed.items)
      (layers-append b.lowers b.done x.parts.stack.lowers x.parts.stack.committed.items k.fits.stack.lowers_are k.fits.stack.committed)

  pub grow-replied : (T : Type 0) (sectors : ℕ) (outcome : Result T GrowFault) → IsRefusedGrow (pending_in (parts_view x.parts)) (parts_view x.parts).sectors sectors outcome
      → IsRefusedGrow (pending_of (now base history).frozen) (now base history).sectors sectors outcome
  grow-replied T sectors outcome is =
      subst (λ p. IsRefusedGrow p (now base history).sectors sectors outcome) pending-is
      (subst (λ n. IsRefusedGrow (pending_in (parts_view x.parts)) n sectors outcome) k.fits.top.holds.sectors is)

  pub freeze-replied : (T : Type 0) (uuid : List ℕ) (outcome : Result T FreezeFault) → IsRefusedFreeze (pending_in (parts_view x.parts)) (uuids_in (parts_view x.parts)) uuid outcome
      → IsRefusedFreeze (pending_of (now base history).frozen) (map uuid_in ((now base history).lowers ++ (now base history).done)) uuid outcome
  freeze-replied T uuid outcome is =
      subst (λ p. IsRefusedFreeze p (map uuid_in ((now base history).lowers ++ (now base history).done)) uuid outcome) pending-is
      (subst (λ l. IsRefusedFreeze (pending_in (parts_view x.parts)) l uuid outcome) uuids-are is)

  pub copy-replied : (T : Type 0) (uuid : List ℕ) (outcome : Result T CopyFault) → IsRefusedCopy (pending_in (parts_view x.parts)) uuid outcome
      → IsRefusedCopy (pending_of (now base history).frozen) uuid outcome
  copy-replied T uuid outcome is = subst (λ p. IsRefusedCopy p uuid outcome) pending-is is

  pub seal-replied : (uuid : List ℕ) (outcome : Result ℕ SealFault) → IsRefusedSeal (pending_in (parts_view x.parts)) (done_of (parts_view x.parts).commit) (total_of (parts_view x.parts).commit) uuid outcome
      → IfOk outcome (λ epoch. epoch ≡ length (parts_view x.parts).committed) → IsSealReply (now base history) uuid outcome
  seal-replied uuid outcome is epoch =
      let done : length (parts_view x.parts).committed ≡ length (now base history).done = same-length (now base history).done x.parts.stack.committed.items k.fits.stack.committed in
      subst (λ p. SealSaid p (length (now base history).done) uuid outcome) pending-is
      (record {
        epoch = subst (λ n. IfOk outcome (λ e. e ≡ n)) done epoch;
        other = is.other;
        only = is.only;
        left = λ d t said.
            let both = is.left_only d t said in
            let here : outcome ≡ Err (seals.NotWhole (done_of (parts_view x.parts).commit) (total_of (parts_view x.parts).commit)) =
            said ∙ (λ i. Err (seals.NotWhole (both.0 i) (both.1 i))) in
            omega (arith, both.0, both.1, (is.left.1 here).1);
      })

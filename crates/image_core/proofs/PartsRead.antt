-- The parts of an image, as its layers, its commit in progress and its top were read.
use Rattle.std.proofs.Common.{◌≡◌, ◌⊎◌, ℕ, ◌+◌, ◌-◌, ◌≤◌, inl, inr, Bool, IsTrue, List, ◌++◌, length, take, drop, sym, ap, ◌∙◌, subst, arith}
use Rattle.std.specs.Prelude.{All, Option, Some}
use Rattle.std.proofs.lemmas.List.{take-append-drop, length-take-le, length-drop}
use Rattle.block_disk.specs.DiskState.{DiskState, Files}
use Rattle.block_disk.specs.Claims.{Quiet}
use Rattle.sealed_layer.specs.Layers.{LayerIndex, IsLayerIndex}
use Rattle.flat_image.specs.Frozen.{Frozen}
use Rattle.flat_image.specs.Left.{Stand}
use Rattle.top_writer.specs.declared.top.Top.{Top}
use Rattle.image_core.specs.declared.loading.LoadFault.{LoadFault}
use Rattle.image_core.specs.declared.loading.Named.{Named}
use Rattle.image_core.specs.declared.parts.Parts.{Parts}
use Rattle.image_core.specs.declared.parts.Stack.{Stack}
use Rattle.image_core.specs.Numbers.{with_pending}
use Rattle.image_core.specs.Found.{AreSound, IsStackOf, IsTopRead, IsTopRefused, IsFrozenRead, IsCommitRead, ArePartsRead, IsFrozenRefused, IsCurrentRefused, IsPartsReason}
use Rattle.image_core.proofs.LoadedParts.{seen-same, commit-later, top-earlier}

module _ (named : Named) (items : List LayerIndex) (below : ℕ) (within : below ≤ length items) (sound : AreSound named (take below items) (drop below items)) (s : Stack) (of : IsStackOf items below s) where
  of-both : IsStackOf (take below items ++ drop below items) (length (take below items)) s
  of-both = subst (λ (l : List LayerIndex). IsStackOf l (length (take below items)) s) (sym (take-append-drop below items))
      (subst (λ (k : ℕ). IsStackOf items k s) (sym (length-take-le below items within)) of)

  module _ (tells : Bool) (old mid : DiskState) (first : Quiet old mid) (t : Stack) (frozen : Option Frozen) (commit : IsCommitRead tells old mid named s t frozen) (epoch : ℕ)
      (epoch_is : epoch ≡ with_pending named.count named.pending) (slice : List LayerIndex) (slice_is : slice ≡ t.lowers) where
    lowers-are : slice ≡ take below items
    lowers-are = slice_is ∙ (commit.lowers ∙ of.lowers)

    pub parts-read : (new : DiskState) (top : Top) (st : Stand) (p : Parts) → All (λ layer. IsLayerIndex layer.head layer.rows) items → Quiet mid new
        → IsTopRead tells mid new epoch named slice top st → p.stack ≡ t → p.top ≡ top → p.steps ≡ 0
        → ArePartsRead tells old new named (take below items) (drop below items) p
    parts-read new top st p all second read stack_is top_is steps = record {
      sound = sound;
      indexed = subst (λ (l : List LayerIndex). All (λ layer. IsLayerIndex layer.head layer.rows) l) (sym (take-append-drop below items)) all;
      before = s;
      stack = of-both;
      frozen = frozen;
      commit = subst (λ (u : Stack). IsCommitRead tells old new named s u frozen) (sym stack_is) (commit-later tells old mid new named s t frozen second commit);
      stand = st;
      top = subst (λ (u : Top). IsTopRead tells old new (with_pending named.count named.pending) named (take below items) u st) (sym top_is)
          (subst (λ (k : ℕ). IsTopRead tells old new k named (take below items) top st) epoch_is
          (subst (λ (l : List LayerIndex). IsTopRead tells old new epoch named l top st) lowers-are (top-earlier tells old mid new epoch named slice top st first read)));
      steps = steps;
    }

    -- the current top was refused
    pub current-refused : IsTrue tells → length items ≡ below + named.count → (fault : LoadFault) → IsTopRefused mid.seen epoch named slice fault
        → IsPartsReason old.seen named (take below items) (drop below items) fault
    current-refused told number fault refused = inr (inr (record {
      sound = sound;
      frozen = frozen;
      uuid = commit.uuid;
      shows = subst (λ (k : ℕ). IsFrozenRead named.exact k named.sectors (take below items) frozen old.seen)
          (ap (length {A = LayerIndex}) of.committed ∙ (length-drop below items ∙ (let e : length items - below ≡ named.count = omega (arith, number) in e)))
          (subst (λ (l : List LayerIndex). IsFrozenRead named.exact (length s.committed.items) named.sectors l frozen old.seen) of.lowers (commit.shows told));
      refused = subst (λ (f : Files). IsTopRefused f (with_pending named.count named.pending) named (take below items) fault) (seen-same old mid first)
          (subst (λ (k : ℕ). IsTopRefused mid.seen k named (take below items) fault) epoch_is
          (subst (λ (l : List LayerIndex). IsTopRefused mid.seen epoch named l fault) lowers-are refused));
    }))

  -- the frozen top was refused
  pub frozen-refused : (files : Files) (fault : LoadFault) (uuid : List ℕ) → length items ≡ below + named.count → named.pending ≡ Some uuid
      → IsTopRefused files (length s.committed.items) named s.lowers fault → IsPartsReason files named (take below items) (drop below items) fault
  frozen-refused files fault uuid number pending refused = inr (inl (record {
    sound = sound;
    uuid = uuid;
    pending = pending;
    refused = subst (λ (k : ℕ). IsTopRefused files k named (take below items) fault)
        (ap (length {A = LayerIndex}) of.committed ∙ (length-drop below items ∙ (let e : length items - below ≡ named.count = omega (arith, number) in e)))
        (subst (λ (l : List LayerIndex). IsTopRefused files (length s.committed.items) named l fault) of.lowers refused);
  }))

-- The moments of the making of an image, one run after another.
use Rattle.std.proofs.Common.{◌≡◌, ℕ, ◌≤◌, Bool, true, false, List, inl, inr, refl, sym, ap, ◌∙◌, subst, arith}
use Rattle.std.proofs.lemmas.Bool.Decides.{leb_tells}
use Rattle.block_disk.specs.DiskState.{DiskState, Files}
use Rattle.block_disk.specs.Claims.{LeavesOnly, Run, FileRun, Quiet}
use Rattle.lsmt_header.specs.declared.head.Kind.TheVariants.{TopBytes, TopRows}
use Rattle.lsmt_header.specs.Blocks.{nil, BlockOf}
use Rattle.top_writer.specs.Files.{TopFiles, data_file, index_file, new_head}
use Rattle.top_writer.specs.Making.{IsMade}
use Rattle.sealed_layer.specs.Layers.{LayerIndex}
use Rattle.image_core.specs.Numbers.{manifest_file}
use Rattle.image_core.specs.Loading.{upper_uuid}
use Rattle.image_core.specs.Creating.{LeavesInOrder, IsMadeLast}
use Rattle.image_core.proofs.StackLaws.{not-manifest}

-- one run after another
pub leaves-joined : {I : Type 0} (old mid new : DiskState) (P : I → Files → Type 0) → LeavesOnly old mid P → LeavesOnly mid new P → LeavesOnly old new P
leaves-joined {I} old mid new P first second = record {
  later = omega (arith, first.later, second.later);
  past = λ k files le left. first.past k files le (second.past k files (omega (arith, le, first.later)) left);
  each = λ k from to.
      elim (leb_tells k mid.moment) as (λ _. (i : I) × ((files : Files) → new.left_at k files → P i files)) [
        | inl before ↦ let at_k = first.each k from before.1 in (at_k.0, λ files left. at_k.1 files (second.past k files before.1 left))
        | inr after ↦ second.each k (omega (arith, after.1)) to
      ];
}

module _ (n : ℕ) (parent : List ℕ) where
  -- the look at the manifest, and what is made beside it
  pub last-looked : (old new : DiskState) → Quiet old new → IsMadeLast n parent old new
  last-looked old new quiet = record {
    later = quiet.leaves.later;
    past = quiet.leaves.past;
    each = λ k from to. let at_k = quiet.leaves.each k from to in (false, λ files left. (at_k.1 files left).others manifest_file (λ none. none));
  }

  pub last-topped : (old mid new : DiskState) → Quiet old mid → Run (TopFiles 0) mid new (λ files. Unit {0}) → IsMadeLast n parent old new
  last-topped old mid new quiet run =
      leaves-joined old mid new (LeavesInOrder n parent old) (last-looked old mid quiet) (record {
        later = run.leaves.later;
        past = run.leaves.past;
        each = λ k from to.
            let at_k = run.leaves.each k from to in (
              false,
              λ files left. quiet.others.left manifest_file (files manifest_file) (λ none. none) ((at_k.1 files left).others manifest_file (not-manifest 0 manifest_file refl)),
            );
      })

  -- and then the manifest
  pub last-made : (tells : Bool) (old mid made new : DiskState) → Quiet old mid → Run (TopFiles 0) mid made (λ files. Unit {0})
      → IsMade tells made (data_file 0) (new_head TopBytes n parent) → IsMade tells made (index_file 0) (new_head TopRows n nil)
      → FileRun manifest_file made new (λ c. Unit {0}) → IsMadeLast n parent old new
  last-made tells old mid made new quiet run bytes rows format =
      leaves-joined old made new (LeavesInOrder n parent old) (last-topped old mid made quiet run) (record {
        later = format.leaves.later;
        past = format.leaves.past;
        each = λ k from to.
            let at_k = format.leaves.each k from to in (
              true,
              λ files left. record {
                bytes = subst (λ (c : List ℕ). BlockOf c (new_head TopBytes n parent))
                    (sym (bytes.left (files (data_file 0)) ((at_k.1 files left).others (data_file 0) (λ is. omega (arith, is))))) bytes.is;
                rows = subst (λ (c : List ℕ). BlockOf c (new_head TopRows n nil))
                    (sym (rows.left (files (index_file 0)) ((at_k.1 files left).others (index_file 0) (λ is. omega (arith, is))))) rows.is;
              },
            );
      })

-- the same over the uuid that was taken of the layers
pub last-of : (tells : Bool) (n : ℕ) (layers slice : List LayerIndex) (parent : List ℕ) (old mid made new : DiskState) → slice ≡ layers → parent ≡ upper_uuid slice
    → Quiet old mid → Run (TopFiles 0) mid made (λ files. Unit {0})
    → IsMade tells made (data_file 0) (new_head TopBytes n parent) → IsMade tells made (index_file 0) (new_head TopRows n nil)
    → FileRun manifest_file made new (λ c. Unit {0}) → IsMadeLast n (upper_uuid layers) old new
last-of tells n layers slice parent old mid made new same is quiet run bytes rows format =
    subst (λ (u : List ℕ). IsMadeLast n u old new) (is ∙ ap upper_uuid same) (last-made n parent tells old mid made new quiet run bytes rows format)

-- Sizes of layers that have to be just those of the image, or no more.
use Rattle.std.proofs.Common.{◌≡◌, ℕ, ◌≤◌, Bool, true, false, IsTrue, sym, List, [], ◌∷◌, ◌++◌, length, map, subst, arith}
use Rattle.std.specs.Prelude.{All}
use Rattle.std.proofs.lemmas.List.Elements.{All-head, All-tail, All-weaker}
use Rattle.lsmt_header.specs.declared.head.Head.{Head}
use Rattle.flat_image.specs.declared.base.Base.{Base}
use Rattle.flat_image.specs.LayerFiles.{AreHeadsOf}
use Rattle.flat_image.specs.LayerReading.{size_in}
use Rattle.flat_image.specs.Base.{IsLayerFile}
use Rattle.flat_image.specs.Stacks.{uppermost, AreRising, AreSizedOver, Legal}
use Rattle.flat_image.proofs.LayerLaws.{size_in-layer}
use Rattle.flat_image.proofs.StackSizes.{stack-rises}
use Rattle.std.proofs.lemmas.List.Elements.{All-nil, All-cons}
use Rattle.top_writer.specs.Files.{IsSizeFor}
use Rattle.image_core.specs.Shows.{HaveSize, AreStack, IsSound}

-- what has to be exact no more
pub size-weaker : (exact exact' : Bool) (n size : ℕ) → (IsTrue exact' → IsTrue exact) → IsSizeFor exact n size → IsSizeFor exact' n size
size-weaker exact exact' n size may is = record { within = is.within; same = λ e. is.same (may e) }

pub have-weaker : (exact exact' : Bool) (n : ℕ) (heads : List Head) → (IsTrue exact' → IsTrue exact) → HaveSize exact n heads → HaveSize exact' n heads
have-weaker exact exact' n heads may sizes =
    All-weaker (λ (h : Head). IsSizeFor exact n h.sectors) (λ (h : Head). IsSizeFor exact' n h.sectors) (λ h is. size-weaker exact exact' n h.sectors may is) heads sizes

pub stack-weaker : (exact exact' : Bool) (n : ℕ) (files : List (List ℕ)) → (IsTrue exact' → IsTrue exact) → AreStack exact n files → AreStack exact' n files
stack-weaker exact exact' n files may stack =
    record { heads = stack.heads; are = stack.are; sizes = have-weaker exact exact' n stack.heads may stack.sizes; legal = stack.legal }

pub sound-weaker : (exact exact' : Bool) (b : Base) → (IsTrue exact' → IsTrue exact) → IsSound exact b → IsSound exact' b
sound-weaker exact exact' b may sound =
    record { size = sound.size; few = sound.few; stack = stack-weaker exact exact' b.sectors (b.lowers ++ b.done) may sound.stack; unlike = sound.unlike }

-- the layers of a larger image
pub stack-grown : (exact : Bool) (n m : ℕ) (files : List (List ℕ)) → n ≤ m → AreStack exact n files → AreStack false m files
stack-grown exact n m files more stack = record {
  heads = stack.heads;
  are = stack.are;
  sizes = All-weaker (λ (h : Head). IsSizeFor exact n h.sectors) (λ (h : Head). IsSizeFor false m h.sectors)
      (λ h is. let within = is.within in record { within = omega (arith, within, more); same = λ e. absurd (let no : false ≡ true = e in cc) })
      stack.heads stack.sizes;
  legal = stack.legal;
}

-- the uppermost of the heads has no more sectors
uppermost-most : (exact : Bool) (n low : ℕ) (heads : List Head) → low ≤ n → HaveSize exact n heads → uppermost low (map (λ (h : Head). h.sectors) heads) ≤ n
uppermost-most exact n low [] most sizes = most
uppermost-most exact n low (head ∷ heads) most sizes =
    let Size : Head → Type 0 = λ h. IsSizeFor exact n h.sectors in
    uppermost-most exact n head.sectors heads (All-head Size head heads sizes).within (All-tail Size head heads sizes)

-- files with heads of layers are files of layers
pub heads-layers : (files : List (List ℕ)) (heads : List Head) → AreHeadsOf files heads → All IsLayerFile files
heads-layers [] heads are = All-nil IsLayerFile
heads-layers (file ∷ files) [] are = absurd are
heads-layers (file ∷ files) (head ∷ heads) are = All-cons IsLayerFile file files (head, are.0) (heads-layers files heads are.1)

-- and those of a stack do not fall, up to the sectors of the image
rising-heads : (exact : Bool) (n : ℕ) (files : List (List ℕ)) (heads : List Head) → AreHeadsOf files heads → HaveSize exact n heads → AreSizedOver heads
    → AreRising 0 n (map size_in files)
rising-heads exact n [] heads are sizes sized = omega arith
rising-heads exact n (file ∷ files) [] are sizes sized = absurd are
rising-heads exact n (file ∷ files) (head ∷ heads) are sizes sized =
    let Size : Head → Type 0 = λ h. IsSizeFor exact n h.sectors in
    let size : size_in file ≡ head.sectors = size_in-layer file head are.0.sheet are.0.layer in (
      omega arith,
      subst (λ (k : ℕ). AreRising k n (map size_in files)) (sym size)
          (stack-rises head.sectors n files heads are.1 sized (uppermost-most exact n head.sectors heads (All-head Size head heads sizes).within (All-tail Size head heads sizes))),
    )

sized-heads : (files : List (List ℕ)) (heads : List Head) → AreHeadsOf files heads → (1 ≤ length files → Legal heads) → AreSizedOver heads
sized-heads [] [] are legal = tt
sized-heads [] (head ∷ heads) are legal = absurd are
sized-heads (file ∷ files) heads are legal = (legal (omega arith)).sizes

pub stack-rising : (exact : Bool) (n : ℕ) (files : List (List ℕ)) → AreStack exact n files → AreRising 0 n (map size_in files)
stack-rising exact n files stack = rising-heads exact n files stack.heads stack.are stack.sizes (sized-heads files stack.heads stack.are stack.legal)

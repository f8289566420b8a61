-- Layers that are read one after another.
use Rattle.std.proofs.Common.{◌≡◌, ℕ, ◌+◌, ◌<◌, ◌≤◌, List, [], ◌∷◌, ◌++◌, length, map, take, sym, ap, ◌∙◌, subst, arith}
use Rattle.std.specs.Prelude.{Option, IfSome}
use Rattle.lsmt_header.specs.declared.head.Head.{Head}
use Rattle.std.proofs.lemmas.List.{length-map}
use Rattle.std.proofs.lemmas.List.{take_more, take_all}
use Rattle.layer_shelf.specs.Shelves.{file_at}
use Rattle.flat_image.specs.LayerFiles.{LayerOf}
use Rattle.layer_stack.specs.declared.fault.StackFault.{StackFault}
use Rattle.layer_stack.specs.declared.fault.StackFault.TheVariants as stack
use Rattle.layer_stack.specs.Faults.{IsStackFault}
use Rattle.sealed_layer.specs.Layers.{LayerIndex}
use Rattle.sealed_layer.specs.LayerFaults.{IsLayerFault}
use Rattle.layer_commands.specs.declared.refusal.Refusal.{Refusal}
use Rattle.layer_commands.specs.declared.refusal.Refusal.TheVariants as refused
use Rattle.layer_commands.specs.Causes.{IsOfCount, StopsAt}
use Rattle.layer_commands.specs.Flattening.{AreTold}
use Rattle.layer_commands.specs.Reading.{AreFilesRefused, IsFileRefusal, IsStackRefusal}
use Rattle.layer_commands.proofs.ToldLayers.{layers_of, told_layers, told_heads}
use Rattle.layer_commands.proofs.Pieces.{IfSome-at, IfSome-each}

told_push : (files : List (List ℕ)) (layers : List LayerIndex) (file : List ℕ) (layer : LayerIndex) → AreTold files layers → LayerOf file layer.head layer.rows
    → AreTold (files ++ file ∷ []) (layers ++ layer ∷ [])
told_push [] [] file layer told one = (one, tt)
told_push [] (first ∷ layers) file layer told one = absurd told
told_push (first ∷ files) [] file layer told one = absurd told
told_push (first ∷ files) (other ∷ layers) file layer told one = (told.0, told_push files layers file layer told.1 one)

pub told_more : (files : List (List ℕ)) (layers : List LayerIndex) (k : ℕ) (layer : LayerIndex) → k < length files → AreTold (take k files) layers
    → LayerOf (file_at files k) layer.head layer.rows → AreTold (take (k + 1) files) (layers ++ layer ∷ [])
told_more files layers k layer within told one =
    subst (λ (front : List (List ℕ)). AreTold front (layers ++ layer ∷ [])) (sym (take_more files k [] within)) (told_push (take k files) layers (file_at files k) layer told one)

pub told_all : (files : List (List ℕ)) (layers : List LayerIndex) (k : ℕ) → length files ≤ k → AreTold (take k files) layers → AreTold files layers
told_all files layers k past told = subst (λ (front : List (List ℕ)). AreTold front layers) (take_all k files past) told

pub files_refusal : (files : Option (List (List ℕ))) (layers : List LayerIndex) (count k : ℕ) → IfSome files (λ list. length list ≡ count) → k < count
    → IfSome files (λ list. AreTold (take k list) layers) → (refusal : Refusal) → IsFileRefusal files k refusal → AreFilesRefused files refusal
files_refusal files layers count k counted within told refused.Memory cause = tt
files_refusal files layers count k counted within told refused.ShelfFault cause = tt
files_refusal files layers count k counted within told (refused.Layer number fault) (same, bad, real) =
    IfSome-each files (λ list e.
    let whole : length list ≡ count = IfSome-at files (λ list. length list ≡ count) list e counted in
    let before : AreTold (take k list) layers = IfSome-at files (λ list. AreTold (take k list) layers) list e told in
    let stops : StopsAt list k fault = record {
      within = omega (arith, whole);
      below = layers_of (take k list) layers;
      before = told_layers (take k list) layers before;
      here = IfSome-at files (λ list. IsLayerFault (file_at list k) fault) list e bad;
      of_file = real;
    } in
    subst (λ (n : ℕ). StopsAt list n fault) (sym same) stops)
files_refusal files layers count k counted within told other cause = absurd cause

-- a stack that was not read whole
pub stack_refusal : (files : Option (List (List ℕ))) (count : ℕ) (refusal : Refusal) → AreFilesRefused files refusal → IsStackRefusal files count refusal
stack_refusal files count refused.Memory cause = tt
stack_refusal files count refused.ShelfFault cause = tt
stack_refusal files count (refused.Layer number fault) cause = cause
stack_refusal files count other cause = absurd cause

-- layers that were read are no stack
of_count : (heads : List Head) (fault : StackFault) → 1 ≤ length heads → IsStackFault heads fault → IsOfCount fault (length heads)
of_count heads stack.Empty some bad = ap (length {A = Head}) bad
of_count heads (stack.TooMany number) some bad = bad
of_count heads (stack.SizeDiffers number) some bad = (some, bad.few)
of_count heads (stack.ParentDiffers number) some bad = (some, bad.few)
of_count heads (stack.UuidTwice first second) some bad = (some, bad.few)

pub told_stack : (files : Option (List (List ℕ))) (layers : List LayerIndex) (count : ℕ) (fault : StackFault) → length layers ≡ count → 1 ≤ count → IfSome files (λ list. AreTold list layers)
    → IsStackFault (map (λ layer. layer.head) layers) fault → IsStackRefusal files count (refused.Stack fault)
told_stack files layers count fault size some told bad =
    let long : length (map (λ layer. layer.head) layers) ≡ count = length-map layers (λ layer. layer.head) ∙ size in (
      subst (λ (n : ℕ). IsOfCount fault n) long (of_count (map (λ layer. layer.head) layers) fault (omega (arith, long, some)) bad),
      IfSome-each files (λ list e.
          let are : AreTold list layers = IfSome-at files (λ list. AreTold list layers) list e told in
          (layers_of list layers, told_layers list layers are, subst (λ heads. IsStackFault heads fault) (sym (told_heads list layers are)) bad)),
    )

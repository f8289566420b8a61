-- Layers as they were read, and as a command sees them.
use Rattle.std.proofs.Common.{◌≡◌, ℕ, ◌≤◌, List, [], ◌∷◌, map, take, refl, sym, ap, ◌∙◌, arith}
use Rattle.std.proofs.lemmas.List.Elements.{All-nil, All-cons}
use Rattle.flat_image.specs.Sheets.{Cell, bytes_of, flat}
use Rattle.flat_image.specs.RowCells.{sheet_of}
use Rattle.flat_image.specs.LayerFiles.{LayerOf, LayerFile}
use Rattle.flat_image.specs.Stacks.{uppermost, AreSized, AreSizedOver}
use Rattle.flat_image.proofs.StackSizes.{stands-rises}
use Rattle.lsmt_header.specs.declared.head.Head.{Head}
use Rattle.lsmt_header.proofs.BlockLemmas.{one_head}
use Rattle.sealed_layer.specs.Layers.{LayerIndex}
use Rattle.layer_commands.specs.Prints.{LayerSheet, AreLayers, heads_of, sectors_of, flat_image}
use Rattle.layer_commands.specs.Flattening.{AreTold, FitIn, sheets_by, told_flat, upper_sectors}

-- a layer with the sheet that its rows make of its file
abbrev pub sheeted : List ℕ → LayerIndex → LayerSheet
sheeted file layer = record { head = layer.head; sheet = sheet_of file layer.head.sectors layer.rows }

abbrev pub layers_of : List (List ℕ) → List LayerIndex → List LayerSheet
layers_of [] layers = []
layers_of (file ∷ files) [] = []
layers_of (file ∷ files) (layer ∷ layers) = sheeted file layer ∷ layers_of files layers

pub one_file : (file : List ℕ) (layer : LayerIndex) → LayerOf file layer.head layer.rows → LayerFile file layer.head (sheet_of file layer.head.sectors layer.rows)
one_file file layer told = record { rows = layer.rows; layer = told; sheet_is = refl }

pub told_layers : (files : List (List ℕ)) (layers : List LayerIndex) → AreTold files layers → AreLayers files (layers_of files layers)
told_layers [] [] told = tt
told_layers [] (layer ∷ layers) told = absurd told
told_layers (file ∷ files) [] told = absurd told
told_layers (file ∷ files) (layer ∷ layers) told = (one_file file layer told.0, told_layers files layers told.1)

pub told_heads : (files : List (List ℕ)) (layers : List LayerIndex) → AreTold files layers → heads_of (layers_of files layers) ≡ map (λ layer. layer.head) layers
told_heads [] [] told = refl
told_heads [] (layer ∷ layers) told = absurd told
told_heads (file ∷ files) [] told = absurd told
told_heads (file ∷ files) (layer ∷ layers) told = ap (λ (heads : List Head). layer.head ∷ heads) (told_heads files layers told.1)

told_sheets : (files : List (List ℕ)) (layers : List LayerIndex) → AreTold files layers → map (λ layer. layer.sheet) (layers_of files layers) ≡ sheets_by files layers
told_sheets [] [] told = refl
told_sheets [] (layer ∷ layers) told = absurd told
told_sheets (file ∷ files) [] told = absurd told
told_sheets (file ∷ files) (layer ∷ layers) told =
    ap (λ (sheets : List (List Cell)). sheet_of file layer.head.sectors layer.rows ∷ sheets) (told_sheets files layers told.1)

told_upper : (n : ℕ) (files : List (List ℕ)) (layers : List LayerIndex) → AreTold files layers
    → uppermost n (map (λ layer. layer.head.sectors) (layers_of files layers)) ≡ uppermost n (map (λ layer. layer.head.sectors) layers)
told_upper n [] [] told = refl
told_upper n [] (layer ∷ layers) told = absurd told
told_upper n (file ∷ files) [] told = absurd told
told_upper n (file ∷ files) (layer ∷ layers) told = told_upper layer.head.sectors files layers told.1

pub told_sectors : (files : List (List ℕ)) (layers : List LayerIndex) → AreTold files layers → sectors_of (layers_of files layers) ≡ upper_sectors layers
told_sectors files layers told = told_upper 0 files layers told

pub told_image : (n : ℕ) (files : List (List ℕ)) (layers : List LayerIndex) → AreTold files layers → n ≡ upper_sectors layers
    → flat_image (layers_of files layers) ≡ told_flat n files layers
told_image n files layers told size =
    ap (λ (k : ℕ). bytes_of (flat k (map (λ layer. layer.sheet) (layers_of files layers)))) (told_sectors files layers told ∙ sym size)
    ∙ ap (λ (sheets : List (List Cell)). bytes_of (flat n sheets)) (told_sheets files layers told)

-- none of the layers of a stack has more sectors than the uppermost
rises : (low n : ℕ) (files : List (List ℕ)) (layers : List LayerIndex) → AreTold files layers → AreSized low (map (λ layer. layer.head) layers)
    → uppermost low (map (λ layer. layer.head.sectors) layers) ≤ n → (low ≤ n) × FitIn n layers
rises low n [] [] told sized most = (most, All-nil (λ layer. layer.head.sectors ≤ n))
rises low n [] (layer ∷ layers) told sized most = absurd told
rises low n (file ∷ files) [] told sized most = absurd told
rises low n (file ∷ files) (layer ∷ layers) told sized most =
    let P : LayerIndex → Type 0 = λ layer. layer.head.sectors ≤ n in
    let above = rises layer.head.sectors n files layers told.1 sized.1 most in
    let here : low ≤ layer.head.sectors = stands-rises low file layer.head (sheet_of file layer.head.sectors layer.rows) (one_file file layer told.0) sized.0 in
    (omega (arith, here, above.0), All-cons P layer layers above.0 above.1)

pub stack_fits : (files : List (List ℕ)) (layers : List LayerIndex) → AreTold files layers → AreSizedOver (map (λ layer. layer.head) layers) → FitIn (upper_sectors layers) layers
stack_fits [] [] told sized = All-nil (λ layer. layer.head.sectors ≤ 0)
stack_fits [] (layer ∷ layers) told sized = absurd told
stack_fits (file ∷ files) [] told sized = absurd told
stack_fits (file ∷ files) (lowest ∷ layers) told sized =
    let n : ℕ = uppermost lowest.head.sectors (map (λ layer. layer.head.sectors) layers) in
    let above = rises lowest.head.sectors n files layers told.1 sized (omega arith) in
    All-cons (λ layer. layer.head.sectors ≤ n) lowest layers above.0 above.1

-- files have one list of heads
pub heads_agree : (files : List (List ℕ)) (xs ys : List LayerSheet) → AreLayers files xs → AreLayers files ys → heads_of xs ≡ heads_of ys
heads_agree [] [] [] p q = refl
heads_agree [] [] (y ∷ ys) p q = absurd q
heads_agree [] (x ∷ xs) ys p q = absurd p
heads_agree (file ∷ files) [] ys p q = absurd p
heads_agree (file ∷ files) (x ∷ xs) [] p q = absurd q
heads_agree (file ∷ files) (x ∷ xs) (y ∷ ys) p q =
    let same : x.head ≡ y.head = one_head (take 4096 file) x.head y.head p.0.layer.framed.front q.0.layer.framed.front in
    ap (λ (head : Head). head ∷ heads_of xs) same ∙ ap (λ (heads : List Head). y.head ∷ heads) (heads_agree files xs ys p.1 q.1)

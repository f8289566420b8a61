-- The flat image piece by piece.
use Rattle.std.proofs.Common.{◌≡◌, ℕ, zero, suc, ◌+◌, ◌-◌, ◌*◌, ◌<◌, ◌≤◌, List, [], ◌∷◌, ◌++◌, length, take, drop, get_or, refl, sym, ap, ◌∙◌, subst, arith}
use Rattle.std.specs.Prelude.{Option, Some, None, IfSome, slice_get}
use Rattle.std.specs.Io.KnownBytes.{Appends}
use Rattle.std.proofs.KnownBytes.{Appends-trans}
use Rattle.std.proofs.Math.Seq.{take-add}
use Rattle.std.proofs.lemmas.List.{drop_all, drop_more, take_all, take-append-drop}
use Rattle.std.proofs.lemmas.Option.{slice_get-get_or, slice_get_within, get_or_from_slice_get}
use Rattle.byte_ports.specs.Ports.{AppendsFront}
use Rattle.byte_ports.proofs.Chains.{AppendsFront-after, AppendsFront-more}
use Rattle.layer_shelf.specs.Shelves.{file_at}
use Rattle.flat_image.specs.LayerFiles.{LayerOf}
use Rattle.flat_image.proofs.StackSizes.{uppermost-at}
use Rattle.sealed_layer.specs.Layers.{LayerIndex}
use Rattle.layer_commands.specs.Flattening.{AreTold, FitIn, overlaid, layer_over, flat_part, told_flat, upper_sectors}
use Rattle.layer_commands.proofs.Overlays.{part_is, length-flat}

-- ---- what a shelf tells

pub IfSome-each : {T : Type 0} (o : Option T) {P : T → Type 0} → ((x : T) → o ≡ Some x → P x) → IfSome o P
IfSome-each None all = tt
IfSome-each (Some x) all = all x refl

pub IfSome-at : {T : Type 0} (o : Option T) (P : T → Type 0) (x : T) → o ≡ Some x → IfSome o P → P x
IfSome-at {T} o P x e h = let F : Option T → Type 0 = λ o. IfSome o P in subst F e h

pub length_told : (files : List (List ℕ)) (layers : List LayerIndex) → AreTold files layers → length files ≡ length layers
length_told [] [] told = refl
length_told [] (layer ∷ layers) told = absurd told
length_told (file ∷ files) [] told = absurd told
length_told (file ∷ files) (layer ∷ layers) told = omega (arith, length_told files layers told.1)

pub told_at : (files : List (List ℕ)) (layers : List LayerIndex) (k : ℕ) (layer : LayerIndex) → AreTold files layers → k < length layers → layer ≡ get_or layers k layer
    → LayerOf (file_at files k) layer.head layer.rows
told_at [] [] k layer told within is = absurd (omega arith)
told_at [] (first ∷ layers) k layer told within is = absurd told
told_at (file ∷ files) [] k layer told within is = absurd told
told_at (file ∷ files) (first ∷ layers) zero layer told within is =
    let P : LayerIndex → Type 0 = λ one. LayerOf file one.head one.rows in subst P (sym is) told.0
told_at (file ∷ files) (first ∷ layers) (suc k) layer told within is = told_at files layers k layer told.1 (omega arith) is

-- ---- layer after layer

pub overlaid-step : (files : List (List ℕ)) (layers : List LayerIndex) (k at count : ℕ) (layer : LayerIndex) (old new : List ℕ) → AreTold files layers → k < length layers
    → layer ≡ get_or layers k layer → new ≡ layer_over (file_at files k) layer.rows at count old
    → overlaid (drop (k + 1) files) (drop (k + 1) layers) at count new ≡ overlaid (drop k files) (drop k layers) at count old
overlaid-step files layers k at count layer old new told within is painted =
    let same : length files ≡ length layers = length_told files layers told in
    let file : List ℕ = file_at files k in
    let first : drop k files ≡ file ∷ drop (k + 1) files = drop_more files k [] (omega arith) in
    let second : drop k layers ≡ layer ∷ drop (k + 1) layers =
    drop_more layers k layer within ∙ ap (λ (one : LayerIndex). one ∷ drop (k + 1) layers) (sym is) in
    ap (λ (bytes : List ℕ). overlaid (drop (k + 1) files) (drop (k + 1) layers) at count bytes) painted
    ∙ sym (ap (λ (rest : List LayerIndex). overlaid (file ∷ drop (k + 1) files) rest at count old) second)
    ∙ sym (ap (λ (rest : List (List ℕ)). overlaid rest (drop k layers) at count old) first)

pub overlaid-end : (files : List (List ℕ)) (layers : List LayerIndex) (k at count : ℕ) (old : List ℕ) → AreTold files layers → length layers ≤ k
    → overlaid (drop k files) (drop k layers) at count old ≡ old
overlaid-end files layers k at count old told past =
    let same : length files ≡ length layers = length_told files layers told in
    ap (λ (rest : List (List ℕ)). overlaid rest (drop k layers) at count old) (drop_all k files (omega arith))

-- ---- what is written

joined : (n at count : ℕ) (files : List (List ℕ)) (layers : List LayerIndex) → AreTold files layers → FitIn n layers → at + count ≤ n
    → take (512 * at) (told_flat n files layers) ++ flat_part files layers at count ≡ take (512 * (at + count)) (told_flat n files layers)
joined n at count files layers told fit within =
    let whole : List ℕ = told_flat n files layers in
    ap (λ (bytes : List ℕ). take (512 * at) whole ++ bytes) (sym (part_is n at count files layers told fit within))
    ∙ sym (take-add (512 * at) (512 * count) whole)
    ∙ ap (λ (k : ℕ). take k whole) (let e : 512 * at + 512 * count ≡ 512 * (at + count) = omega arith in e)

pub piece_done : (a b c : Option (List ℕ)) (n at count : ℕ) (files : List (List ℕ)) (layers : List LayerIndex) → AreTold files layers → FitIn n layers → at + count ≤ n
    → Appends a b (take (512 * at) (told_flat n files layers)) → Appends b c (flat_part files layers at count) → Appends a c (take (512 * (at + count)) (told_flat n files layers))
piece_done a b c n at count files layers told fit within before piece =
    subst (Appends a c) (joined n at count files layers told fit within) (Appends-trans a b c _ _ before piece)

front_of : (a b : Option (List ℕ)) (k : ℕ) (whole : List ℕ) → AppendsFront a b (take k whole) → AppendsFront a b whole
front_of a b k whole front = subst (AppendsFront a b) (take-append-drop k whole) (AppendsFront-more a b (take k whole) (drop k whole) front)

pub piece_front : (a b c : Option (List ℕ)) (n at count : ℕ) (files : List (List ℕ)) (layers : List LayerIndex) → AreTold files layers → FitIn n layers → at + count ≤ n
    → Appends a b (take (512 * at) (told_flat n files layers)) → AppendsFront b c (flat_part files layers at count) → AppendsFront a c (told_flat n files layers)
piece_front a b c n at count files layers told fit within before piece =
    front_of a c (512 * (at + count)) (told_flat n files layers)
    (subst (AppendsFront a c) (joined n at count files layers told fit within) (AppendsFront-after a b c _ _ before piece))

pub all_done : (a b : Option (List ℕ)) (n at : ℕ) (files : List (List ℕ)) (layers : List LayerIndex) → AreTold files layers → FitIn n layers → n ≤ at
    → Appends a b (take (512 * at) (told_flat n files layers)) → Appends a b (told_flat n files layers)
all_done a b n at files layers told fit past before =
    subst (Appends a b) (take_all (512 * at) (told_flat n files layers) (omega (arith, length-flat n files layers told fit))) before

-- ---- the sectors of a stack

pub last_sectors : (layers : List LayerIndex) (layer : LayerIndex) → slice_get layers (length layers - 1) ≡ Some layer → layer.head.sectors ≡ upper_sectors layers
last_sectors layers layer is =
    let within = slice_get_within layers (length layers - 1) layer is in
    sym (uppermost-at (λ (l : LayerIndex). l.head.sectors) 0 layers (length layers - 1) layer (omega (arith, within))
    ∙ ap (λ (l : LayerIndex). l.head.sectors) (get_or_from_slice_get layers (length layers - 1) layer layer is))

pub none_last : (layers : List LayerIndex) → slice_get layers (length layers - 1) ≡ None → 0 ≡ upper_sectors layers
none_last [] is = refl
none_last (layer ∷ layers) is =
    let all : List LayerIndex = layer ∷ layers in
    let there : slice_get all (length all - 1) ≡ Some (get_or all (length all - 1) layer) = slice_get-get_or all (length all - 1) layer (omega arith) in
    absurd (cc)

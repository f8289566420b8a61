-- Layers painted one after another over some sectors, as bytes.
use Rattle.std.proofs.Common.{◌≡◌, ℕ, zero, suc, ◌+◌, ◌-◌, ◌*◌, ◌≤◌, List, [], ◌∷◌, ◌++◌, length, map, take, drop, refl, sym, ap, ◌∙◌, arith, length-drop, All}
use Rattle.std.proofs.Math.ListN.{replicate}
use Rattle.std.specs.List.{fold, range_with_len}
use Rattle.std.proofs.lemmas.List.{take-append-le, drop-append-le, take_at, drop_at, length-replicate, length-take-le, take_all, replicate-append-replicate, take-append-drop, nil_from_length}
use Rattle.std.proofs.lemmas.List.Elements.{All-nil, All-cons, All-head, All-tail}
use Rattle.seg_mapping.specs.declared.Row.{Row}
use Rattle.lsmt_header.specs.declared.head.Head.{Head}
use Rattle.flat_image.proofs.SpelledRows.{index_within}
use Rattle.flat_image.specs.Sheets.{Cell, Hole, IsCell, zero_sector, painted, paint, bytes_of, image_in}
use Rattle.flat_image.specs.RowCells.{cell_of, sheet_of}
use Rattle.flat_image.specs.LayerFiles.{LayerOf}
use Rattle.flat_image.proofs.Runs.{run, bytes_of-paint, run-split, run-holes, length-run, length-painted}
use Rattle.flat_image.proofs.Painting.{FitsIn, flat-over}
use Rattle.flat_image.proofs.LayerLaws.{IsSheet-layer}
use Rattle.flat_image.proofs.CellLaws.{whole_cells, hole_past}
use Rattle.sealed_layer.specs.Layers.{LayerIndex}
use Rattle.layer_commands.specs.Runs.{zeros}
use Rattle.layer_commands.specs.Flattening.{AreTold, FitIn, layer_over, overlaid, flat_part, sheets_by, told_flat}

step_of : (m : ℕ) → 512 + 512 * m ≡ 512 * suc m
step_of m = omega arith

-- ---- one layer

pub over_run : (file : List ℕ) (rows : List Row) (at count : ℕ) (old : List ℕ) → layer_over file rows at count old ≡ run (cell_of file rows) at count old
over_run file rows at count old = bytes_of-paint (cell_of file rows) at count old

-- each cell of a layer is whole
pub told_cells : (file : List ℕ) (head : Head) (rows : List Row) → LayerOf file head rows → (p : ℕ) → IsCell (cell_of file rows p)
told_cells file head rows layer p = whole_cells file head.sectors head.index_at 0 rows layer.sound (index_within file head rows layer) p

-- only the sectors of a run are looked at
run-append : (f : ℕ → Cell) (at n : ℕ) (xs ys : List ℕ) → length xs ≡ 512 * n → run f at n (xs ++ ys) ≡ run f at n xs
run-append f at zero xs ys size = refl
run-append f at (suc n) xs ys size =
    let long : 512 ≤ length xs = omega (arith, size, step_of n) in
    let rest : length (drop 512 xs) ≡ 512 * n = omega (arith, size, step_of n, length-drop 512 xs) in
    ap (λ (bytes : List ℕ). painted bytes (f at) ++ run f (at + 1) n (drop 512 (xs ++ ys))) (take-append-le 512 xs ys long)
    ∙ ap (λ (bytes : List ℕ). painted (take 512 xs) (f at) ++ run f (at + 1) n bytes) (drop-append-le 512 xs ys long)
    ∙ ap (λ (bytes : List ℕ). painted (take 512 xs) (f at) ++ bytes) (run-append f (at + 1) n (drop 512 xs) ys rest)

pub run-parts : (f : ℕ → Cell) (at a b : ℕ) (xs ys : List ℕ) → length xs ≡ 512 * a → run f at (a + b) (xs ++ ys) ≡ run f at a xs ++ run f (at + a) b ys
run-parts f at a b xs ys size =
    run-split f at a b (xs ++ ys)
    ∙ ap (λ (bytes : List ℕ). bytes ++ run f (at + a) b (drop (512 * a) (xs ++ ys))) (run-append f at a xs ys size)
    ∙ ap (λ (bytes : List ℕ). run f at a xs ++ run f (at + a) b bytes) (drop_at xs ys (512 * a) size)

length-over : (file : List ℕ) (head : Head) (rows : List Row) (at count : ℕ) (old : List ℕ) → LayerOf file head rows → length old ≡ 512 * count
    → length (layer_over file rows at count old) ≡ 512 * count
length-over file head rows at count old layer size =
    ap (length {A = ℕ}) (over_run file rows at count old) ∙ length-run (cell_of file rows) at count old (told_cells file head rows layer) (omega (arith, size))

over-parts : (file : List ℕ) (rows : List Row) (at a b : ℕ) (xs ys : List ℕ) → length xs ≡ 512 * a
    → layer_over file rows at (a + b) (xs ++ ys) ≡ layer_over file rows at a xs ++ layer_over file rows (at + a) b ys
over-parts file rows at a b xs ys size =
    over_run file rows at (a + b) (xs ++ ys)
    ∙ run-parts (cell_of file rows) at a b xs ys size
    ∙ ap (λ (bytes : List ℕ). bytes ++ run (cell_of file rows) (at + a) b ys) (sym (over_run file rows at a xs))
    ∙ ap (λ (bytes : List ℕ). layer_over file rows at a xs ++ bytes) (sym (over_run file rows (at + a) b ys))

-- ---- layer after layer

pub length-overlaid : (files : List (List ℕ)) (layers : List LayerIndex) (at count : ℕ) (old : List ℕ) → AreTold files layers → length old ≡ 512 * count
    → length (overlaid files layers at count old) ≡ 512 * count
length-overlaid [] layers at count old told size = size
length-overlaid (file ∷ files) [] at count old told size = size
length-overlaid (file ∷ files) (layer ∷ layers) at count old told size =
    length-overlaid files layers at count (layer_over file layer.rows at count old) told.1 (length-over file layer.head layer.rows at count old told.0 size)

overlaid-parts : (files : List (List ℕ)) (layers : List LayerIndex) (at a b : ℕ) (xs ys : List ℕ) → AreTold files layers → length xs ≡ 512 * a → length ys ≡ 512 * b
    → overlaid files layers at (a + b) (xs ++ ys) ≡ overlaid files layers at a xs ++ overlaid files layers (at + a) b ys
overlaid-parts [] layers at a b xs ys told left right = refl
overlaid-parts (file ∷ files) [] at a b xs ys told left right = refl
overlaid-parts (file ∷ files) (layer ∷ layers) at a b xs ys told left right =
    ap (λ (bytes : List ℕ). overlaid files layers at (a + b) bytes) (over-parts file layer.rows at a b xs ys left)
    ∙ overlaid-parts files layers at a b (layer_over file layer.rows at a xs) (layer_over file layer.rows (at + a) b ys) told.1
    (length-over file layer.head layer.rows at a xs told.0 left) (length-over file layer.head layer.rows (at + a) b ys told.0 right)

-- ---- sectors and bytes

bytes_of-image_in : (n : ℕ) (old : List ℕ) → length old ≡ 512 * n → bytes_of (image_in n old) ≡ old
bytes_of-image_in zero old size = sym (nil_from_length old (omega (arith, size)))
bytes_of-image_in (suc n) old size =
    ap (λ (bytes : List ℕ). take 512 old ++ bytes) (bytes_of-image_in n (drop 512 old) (omega (arith, size, step_of n, length-drop 512 old)))
    ∙ take-append-drop 512 old

paint-run : (f : ℕ → Cell) (at m n : ℕ) (old : List ℕ) → m ≤ n → ((k : ℕ) → IsCell (f k)) → ((k : ℕ) → at + m ≤ k → f k ≡ Hole) → length old ≡ 512 * n
    → paint (image_in n old) (map f (range_with_len at m)) ≡ image_in n (run f at n old)
paint-run f at zero zero old few whole behind size = refl
paint-run f at (suc m) zero old few whole behind size = absurd (omega (arith, few))
paint-run f at zero (suc n) old few whole behind size =
    ap (λ (bytes : List ℕ). image_in (suc n) bytes)
    (sym (run-holes f at (suc n) old (λ k from to. behind k (omega (arith, from))) ∙ take_all (512 * suc n) old (omega (arith, size))))
paint-run f at (suc m) (suc n) old few whole behind size =
    let here : List ℕ = painted (take 512 old) (f at) in
    let rest : List ℕ = run f (at + 1) n (drop 512 old) in
    let long : length here ≡ 512 = length-painted (take 512 old) (f at) (length-take-le 512 old (omega (arith, size, step_of n))) (whole at) in
    ap (λ (image : List (List ℕ)). here ∷ image)
    (paint-run f (at + 1) m n (drop 512 old) (omega (arith, few)) whole (λ k from. behind k (omega (arith, from))) (omega (arith, size, step_of n, length-drop 512 old)))
    ∙ ap (λ (sector : List ℕ). sector ∷ image_in n rest) (sym (take_at here rest 512 long))
    ∙ ap (λ (bytes : List ℕ). take 512 (here ++ rest) ∷ image_in n bytes) (sym (drop_at here rest 512 long))

-- past its sectors a layer has holes
behind-layer : (file : List ℕ) (head : Head) (rows : List Row) → LayerOf file head rows → (k : ℕ) → head.sectors ≤ k → cell_of file rows k ≡ Hole
behind-layer file head rows layer k past =
    hole_past file head.sectors head.index_at 0 rows k layer.sound past

folded : (n : ℕ) (files : List (List ℕ)) (layers : List LayerIndex) (old : List ℕ) → AreTold files layers → FitIn n layers → length old ≡ 512 * n
    → bytes_of (fold paint (image_in n old) (sheets_by files layers)) ≡ overlaid files layers 0 n old
folded n [] layers old told fit size = bytes_of-image_in n old size
folded n (file ∷ files) [] old told fit size = absurd told
folded n (file ∷ files) (layer ∷ layers) old told fit size =
    let f : ℕ → Cell = cell_of file layer.rows in
    let P : LayerIndex → Type 0 = λ layer. layer.head.sectors ≤ n in
    let whole = told_cells file layer.head layer.rows told.0 in
    ap (λ (image : List (List ℕ)). bytes_of (fold paint image (sheets_by files layers)))
    (paint-run f 0 layer.head.sectors n old (All-head P layer layers fit) whole (λ k past. behind-layer file layer.head layer.rows told.0 k (omega (arith, past))) size)
    ∙ folded n files layers (run f 0 n old) told.1 (All-tail P layer layers fit) (length-run f 0 n old whole (omega (arith, size)))
    ∙ ap (λ (bytes : List ℕ). overlaid files layers 0 n bytes) (sym (over_run file layer.rows 0 n old))

pub zeros-parts : (a b : ℕ) → zeros (a + b) ≡ zeros a ++ zeros b
zeros-parts a b =
    ap (λ (k : ℕ). replicate {A = ℕ} k 0) (let e : 512 * (a + b) ≡ 512 * a + 512 * b = omega arith in e)
    ∙ sym (replicate-append-replicate (512 * a) (512 * b) 0)

image_in-zeros : (n : ℕ) → image_in n (zeros n) ≡ replicate n zero_sector
unfolding zero_sector
image_in-zeros zero = refl
image_in-zeros (suc n) =
    let sector : List ℕ = replicate {A = ℕ} 512 0 in
    let parts : zeros (suc n) ≡ sector ++ zeros n =
    ap (λ (k : ℕ). replicate {A = ℕ} k 0) (sym (step_of n)) ∙ sym (replicate-append-replicate 512 (512 * n) 0) in
    let long : length sector ≡ 512 = length-replicate {A = ℕ} 512 0 in
    ap (λ (bytes : List ℕ). take 512 bytes ∷ image_in n (drop 512 bytes)) parts
    ∙ ap (λ (bytes : List ℕ). bytes ∷ image_in n (drop 512 (sector ++ zeros n))) (take_at sector (zeros n) 512 long)
    ∙ ap (λ (bytes : List ℕ). sector ∷ image_in n bytes) (drop_at sector (zeros n) 512 long)
    ∙ ap (λ (image : List (List ℕ)). sector ∷ image) (image_in-zeros n)

-- ---- the flat image and its parts

sheets-fit : (n : ℕ) (files : List (List ℕ)) (layers : List LayerIndex) → AreTold files layers → FitIn n layers → All (FitsIn n) (sheets_by files layers)
sheets-fit n [] layers told fit = All-nil (FitsIn n)
sheets-fit n (file ∷ files) [] told fit = All-nil (FitsIn n)
sheets-fit n (file ∷ files) (layer ∷ layers) told fit =
    let P : LayerIndex → Type 0 = λ layer. layer.head.sectors ≤ n in
    let sheet : List Cell = sheet_of file layer.head.sectors layer.rows in
    let size : length sheet ≡ layer.head.sectors = (IsSheet-layer file layer.head sheet (record { rows = layer.rows; layer = told.0; sheet_is = refl })).count in
    let here : layer.head.sectors ≤ n = All-head P layer layers fit in
    let fits : length sheet ≤ n = omega (arith, size, here) in
    All-cons (FitsIn n) sheet (sheets_by files layers) fits (sheets-fit n files layers told.1 (All-tail P layer layers fit))

pub whole_is : (n : ℕ) (files : List (List ℕ)) (layers : List LayerIndex) → AreTold files layers → FitIn n layers → told_flat n files layers ≡ flat_part files layers 0 n
whole_is n files layers told fit =
    ap bytes_of (flat-over n (sheets_by files layers) (sheets-fit n files layers told fit))
    ∙ ap (λ (image : List (List ℕ)). bytes_of (fold paint image (sheets_by files layers))) (sym (image_in-zeros n))
    ∙ folded n files layers (zeros n) told fit (length-replicate {A = ℕ} (512 * n) 0)

pub length-flat : (n : ℕ) (files : List (List ℕ)) (layers : List LayerIndex) → AreTold files layers → FitIn n layers → length (told_flat n files layers) ≡ 512 * n
length-flat n files layers told fit =
    ap (length {A = ℕ}) (whole_is n files layers told fit) ∙ length-overlaid files layers 0 n (zeros n) told (length-replicate {A = ℕ} (512 * n) 0)

pub part_is : (n at count : ℕ) (files : List (List ℕ)) (layers : List LayerIndex) → AreTold files layers → FitIn n layers → at + count ≤ n
    → take (512 * count) (drop (512 * at) (told_flat n files layers)) ≡ flat_part files layers at count
part_is n at count files layers told fit within =
    let rest : ℕ = n - (at + count) in
    let sum : n ≡ at + (count + rest) = omega arith in
    let first : List ℕ = overlaid files layers 0 at (zeros at) in
    let second : List ℕ = overlaid files layers (0 + at) count (zeros count) in
    let third : List ℕ = overlaid files layers (0 + at + count) rest (zeros rest) in
    let sizes : (k : ℕ) → length (zeros k) ≡ 512 * k = λ k. length-replicate {A = ℕ} (512 * k) 0 in
    let parts : told_flat n files layers ≡ first ++ (second ++ third) =
    whole_is n files layers told fit
    ∙ ap (λ (k : ℕ). overlaid files layers 0 k (zeros k)) sum
    ∙ ap (λ (bytes : List ℕ). overlaid files layers 0 (at + (count + rest)) bytes) (zeros-parts at (count + rest))
    ∙ overlaid-parts files layers 0 at (count + rest) (zeros at) (zeros (count + rest)) told (sizes at) (sizes (count + rest))
    ∙ ap (λ (bytes : List ℕ). first ++ overlaid files layers (0 + at) (count + rest) bytes) (zeros-parts count rest)
    ∙ ap (λ (bytes : List ℕ). first ++ bytes) (overlaid-parts files layers (0 + at) count rest (zeros count) (zeros rest) told (sizes count) (sizes rest)) in
    let at_first : length first ≡ 512 * at = length-overlaid files layers 0 at (zeros at) told (sizes at) in
    let at_second : length second ≡ 512 * count = length-overlaid files layers (0 + at) count (zeros count) told (sizes count) in
    ap (λ (bytes : List ℕ). take (512 * count) (drop (512 * at) bytes)) parts
    ∙ ap (λ (bytes : List ℕ). take (512 * count) bytes) (drop_at first (second ++ third) (512 * at) at_first)
    ∙ take_at second third (512 * count) at_second
    ∙ ap (λ (k : ℕ). overlaid files layers k count (zeros count)) (let e : 0 + at ≡ at = omega arith in e)

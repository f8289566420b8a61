-- Layers painted one after another over a part of an image.
use Rattle.std.specs.Prelude.{ℕ, ◌*◌, ◌≤◌, List, [], ◌∷◌, map, replicate, All}
use Rattle.std.specs.List.{AllZip}
use Rattle.seg_mapping.specs.declared.Row.{Row}
use Rattle.flat_image.specs.Sheets.{Cell, bytes_of, flat, image_in, paint}
use Rattle.flat_image.specs.RowCells.{cells_from, sheet_of}
use Rattle.flat_image.specs.LayerFiles.{LayerOf}
use Rattle.flat_image.specs.Stacks.{uppermost}
use Rattle.sealed_layer.specs.Layers.{LayerIndex}

-- file after file, the files have these heads and rows
abbrev pub AreTold : List (List ℕ) → List LayerIndex → Type 0
AreTold files layers = AllZip (λ file layer. LayerOf file layer.head layer.rows) files layers

-- so many sectors from that one on, with a layer painted over them
abbrev pub layer_over : List ℕ → List Row → ℕ → ℕ → List ℕ → List ℕ
layer_over file rows at count old = bytes_of (paint (image_in count old) (cells_from file rows at count))

-- the same with layers, the lowest first
abbrev pub overlaid : List (List ℕ) → List LayerIndex → ℕ → ℕ → List ℕ → List ℕ
overlaid [] layers at count old = old
overlaid (file ∷ files) [] at count old = old
overlaid (file ∷ files) (layer ∷ layers) at count old = overlaid files layers at count (layer_over file layer.rows at count old)

-- the sectors of the flat image
abbrev pub flat_part : List (List ℕ) → List LayerIndex → ℕ → ℕ → List ℕ
flat_part files layers at count = overlaid files layers at count (replicate (512 * count) 0)

-- the sheets of layers
abbrev pub sheets_by : List (List ℕ) → List LayerIndex → List (List Cell)
sheets_by [] layers = []
sheets_by (file ∷ files) [] = []
sheets_by (file ∷ files) (layer ∷ layers) = sheet_of file layer.head.sectors layer.rows ∷ sheets_by files layers

-- none of the layers has more than n sectors
abbrev pub FitIn : ℕ → List LayerIndex → Type 0
FitIn n layers = All (λ layer. layer.head.sectors ≤ n) layers

-- the flat image of layers, of n sectors
abbrev pub told_flat : ℕ → List (List ℕ) → List LayerIndex → List ℕ
told_flat n files layers = bytes_of (flat n (sheets_by files layers))

-- the sectors of the uppermost layer, or 0
abbrev pub upper_sectors : List LayerIndex → ℕ
upper_sectors layers = uppermost 0 (map (λ layer. layer.head.sectors) layers)

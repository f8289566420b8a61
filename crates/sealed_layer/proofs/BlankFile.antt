-- The file of a layer of which the head and the rows are known, with zeros as data.
use Rattle.std.proofs.Common.{◌≡◌, ℕ, ◌+◌, ◌-◌, List, [], ◌∷◌, length, refl, arith}
use Rattle.std.specs.Prelude.{All, replicate}
use Rattle.std.proofs.lemmas.List.{length-replicate}
use Rattle.std.proofs.lemmas.List.Elements.{All-nil, All-cons, All-head, All-tail}
use Rattle.seg_mapping.specs.declared.Row.{Row}
use Rattle.seg_mapping.specs.Rows.{Fits}
use Rattle.lsmt_header.specs.declared.head.Head.{Head}
use Rattle.flat_image.specs.LayerFiles.{LayerOf}
use Rattle.flat_image.specs.CanonicalFiles.{blank_file}
use Rattle.flat_image.proofs.CanonicalBytes.{layer-file}
use Rattle.flat_image.proofs.CanonicalRows.{IsRow}
use Rattle.sealed_layer.specs.Layers.{IsTagged, IsLayerIndex}

-- rows with fields of their sizes are those that are spelled
pub rows-are : (rows : List Row) → All Fits rows → All IsTagged rows → All IsRow rows
rows-are [] fits tags = All-nil IsRow
rows-are (row ∷ rows) fits tags =
    All-cons IsRow row rows (record { spelled = refl; fits = All-head Fits row rows fits; tag = All-head IsTagged row rows tags })
    (rows-are rows (All-tail Fits row rows fits) (All-tail IsTagged row rows tags))

pub blank-layer : (head : Head) (rows : List Row) → IsLayerIndex head rows → LayerOf (blank_file head rows) head rows
blank-layer head rows is =
    let bytes : List ℕ = replicate {A = ℕ} (head.index_at - 4096) 0 in
    let index : head.index_at ≡ 4096 + length bytes = omega (arith, is.from, length-replicate {A = ℕ} (head.index_at - 4096) 0) in
    layer-file head bytes rows is.kind is.valid is.sized index is.count is.whole is.few (rows-are rows is.fits is.tags) is.sound

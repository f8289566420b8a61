-- Where a piece of a snapshot stands.
use Rattle.std.proofs.Common.{◌≡◌, ℕ, suc, ◌+◌, ◌-◌, ◌*◌, ◌<◌, inl, inr, Bool, List, [], ◌++◌, length, take, drop, refl, sym, ap, ◌∙◌, arith, length-append}
use Rattle.std.specs.Prelude.{if◌then◌else◌, slice_index_or}
use Rattle.std.proofs.lemmas.List.{get_or_append_left, get_or-append_right}
use Rattle.std.proofs.lemmas.List.FromFn.{get_or-map-range_with_len}
use Rattle.std.proofs.lemmas.Bool.Decides.{leb_tells}
use Rattle.block_disk.specs.DiskState.{Files}
use Rattle.layer_shelf.specs.Shelves.{file_at}
use Rattle.sealed_layer.specs.Layers.{LayerIndex}
use Rattle.merged_index.specs.declared.piece.Piece.{Piece}
use Rattle.merged_index.specs.declared.piece.PieceWhat.{PieceWhat}
use Rattle.merged_index.specs.declared.piece.PieceWhat.TheVariants.{Hole, Zero, Filled}
use Rattle.merged_index.specs.Cells.{NamesData}
use Rattle.merged_index.specs.Painting.{bytes_by}
use Rattle.merged_index.proofs.PartLaws.{piece_is_part, piece_is_in_data}
use Rattle.image_core.specs.Numbers.{sealed_file}
use Rattle.image_core.specs.View.{sealed_read}
use Rattle.image_core.specs.Pieces.{SnapshotView, layer_file, piece_bytes, PieceStandsThere}

module _ (lowers : List (List ℕ)) (files : Files) (count : ℕ) where
  layer-file : (number : ℕ) → number < length lowers + count → file_at (lowers ++ sealed_read files count) number ≡ layer_file lowers files number
  layer-file number below =
      let lower : List ℕ = slice_index_or lowers number [] in
      let sealed : List ℕ = files (sealed_file (number - length lowers)) in
      let f : ℕ → List ℕ = λ k. files (sealed_file k) in
      elim (leb_tells (suc number) (length lowers)) [
        | inl e ↦ get_or_append_left lowers (sealed_read files count) [] number e.1 ∙ sym (ap (λ (b : Bool). if b then lower else sealed) e.0)
        | inr e ↦
            get_or-append_right lowers (sealed_read files count) (length lowers) number [] refl (omega (arith, e.1))
            ∙ (get_or-map-range_with_len f 0 count (number - length lowers) (number - length lowers) [] (omega (arith, below, e.1)) (omega arith)
            ∙ sym (ap (λ (b : Bool). if b then lower else sealed) e.0))
      ]

  piece-bytes : (layers : List LayerIndex) (w : PieceWhat) (size : ℕ) → length layers ≡ length lowers + count → NamesData layers w size
      → bytes_by (lowers ++ sealed_read files count) w size ≡ piece_bytes lowers files w size
  piece-bytes layers Hole size long names = refl
  piece-bytes layers Zero size long names = refl
  piece-bytes layers (Filled number place) size long names =
      ap (λ (file : List ℕ). take (512 * size) (drop (512 * place) file)) (layer-file number (omega (arith, names.0, long)))

pub piece-stands_there : (n : ℕ) (lowers : List (List ℕ)) (files : Files) (below committed : List LayerIndex) (s : SnapshotView) (piece : Piece)
    → PieceStandsThere n lowers files below committed s piece
piece-stands_there n lowers files below committed s piece are long is starts ends =
    let layers : List LayerIndex = below ++ committed in
    let all : List (List ℕ) = lowers ++ sealed_read files (length committed) in
    piece_is_part n all layers s.index piece are is.index_is starts ends
    ∙ piece-bytes lowers files (length committed) layers piece.what piece.extent.count (omega (arith, long, length-append below committed))
    (piece_is_in_data layers s.index piece is.index_is starts)

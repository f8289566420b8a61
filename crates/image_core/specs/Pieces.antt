-- The layers under the tops of an image as one index, and where the sectors of its pieces stand.
use Rattle.std.specs.Prelude.{◌≡◌, ℕ, ◌+◌, ◌-◌, ◌*◌, ◌≤◌, nat_lt, if◌then◌else◌, List, [], ◌++◌, length, map, take, drop, replicate, slice_index_or}
use Rattle.std.specs.Option.{option_map}
use Rattle.block_disk.specs.DiskState.{Files}
use Rattle.flat_image.specs.Sheets.{flat, bytes_of}
use Rattle.flat_image.specs.LayerReading.{sheet_in}
use Rattle.sealed_layer.specs.Layers.{LayerIndex}
use Rattle.merged_index.specs.declared.piece.Piece.{Piece}
use Rattle.merged_index.specs.declared.piece.PieceWhat.{PieceWhat}
use Rattle.merged_index.specs.declared.piece.PieceWhat.TheVariants.{Hole, Zero, Filled}
use Rattle.merged_index.specs.Cells.{Index, cells_of, IsIndexOf}
use Rattle.merged_index.specs.Pieces.{IsPiece, end_of}
use Rattle.merged_index.specs.Painting.{AreFiles}
use Rattle.image_core.specs.Numbers.{sealed_file}
use Rattle.image_core.specs.declared.status.Status.{Status}
use Rattle.image_core.specs.View.{ImageView, sealed_read}

-- an index of lower and committed layers, and how many of them are lower ones
pub record SnapshotView : Type 0 where
  pub lowers : ℕ
  pub index : Index

-- the snapshot is of these lower and these committed layers
pub record IsSnapshotOf (s : SnapshotView) (lowers committed : List LayerIndex) : Type 0 where
  pub lowers_are : s.lowers ≡ length lowers
  pub index_is : IsIndexOf s.index (lowers ++ committed)

-- the file of the layer of that number: of a lower one, or else of the committed one of the epoch so many below
abbrev pub layer_file : List (List ℕ) → Files → ℕ → List ℕ
layer_file lowers files number =
    if nat_lt number (length lowers) then slice_index_or lowers number [] else files (sealed_file (number - length lowers))

-- the bytes that so many sectors read as, of which the first one has that
abbrev pub piece_bytes : List (List ℕ) → Files → PieceWhat → ℕ → List ℕ
piece_bytes lowers files Hole count = replicate {A = ℕ} (512 * count) 0
piece_bytes lowers files Zero count = replicate {A = ℕ} (512 * count) 0
piece_bytes lowers files (Filled number place) count = take (512 * count) (drop (512 * place) (layer_file lowers files number))

-- what a status says of an image
pub record IsStatusOf (v : ImageView) (s : Status) : Type 0 where
  pub sectors : s.sectors ≡ v.sectors
  pub layers : s.layers ≡ length v.lowers + length v.committed
  pub pending : s.pending ≡ option_map (λ c. c.uuid) v.commit

-- a piece of a snapshot says where the image of the layers, without the tops, has its bytes: in a lower file, or in a
-- committed one as it reads
abbrev pub PieceStandsThere : ℕ → List (List ℕ) → Files → List LayerIndex → List LayerIndex → SnapshotView → Piece → Type 0
PieceStandsThere n lowers files below committed s piece =
    AreFiles n (lowers ++ sealed_read files (length committed)) (below ++ committed) → length below ≡ length lowers
    → IsSnapshotOf s below committed → IsPiece (cells_of s.index) piece.extent.at piece → end_of piece ≤ n
    → bytes_of (take piece.extent.count (drop piece.extent.at (flat n (map sheet_in (lowers ++ sealed_read files (length committed))))))
    ≡ piece_bytes lowers files piece.what piece.extent.count

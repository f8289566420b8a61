-- What the bytes of a layer file say: its uuid, its number of sectors, and its sheet.
use Rattle.std.specs.Prelude.{◌≡◌, ℕ, zero, suc, ◌+◌, ◌/◌, ◌%◌, ◌^◌, nat_eq, List, [], ◌∷◌, take, drop}
use Rattle.std.specs.Int.{w64, from_le_bytes}
use Rattle.seg_mapping.specs.declared.Row.{Row}
use Rattle.lsmt_header.specs.declared.head.Head.{Head}
use Rattle.lsmt_header.specs.Blocks.{raw_head}
use Rattle.flat_image.specs.Sheets.{Cell}
use Rattle.flat_image.specs.RowCells.{sheet_of}
use Rattle.flat_image.specs.LayerFiles.{LayerFile}

-- the row whose two numbers these are
abbrev pub row_in : ℕ → ℕ → Row
row_in first second = record
    { offset = first % 2 ^ 50; count = first / 2 ^ 50; place = second % 2 ^ 55; zeroed = nat_eq (second / 2 ^ 55 % 2) 1; tag = second / 2 ^ 56 }

-- the row that sixteen bytes spell
abbrev pub row_of : List ℕ → Row
row_of bytes = row_in (from_le_bytes w64 (take 8 bytes)) (from_le_bytes w64 (take 8 (drop 8 bytes)))

-- so many rows from `at` on
abbrev pub rows_in : List ℕ → ℕ → ℕ → List Row
rows_in file at zero = []
rows_in file at (suc count) = row_of (take 16 (drop at file)) ∷ rows_in file (at + 16) count

-- the sheet of the file, its uuid, and its number of sectors
unfoldable pub sheet_in : List ℕ → List Cell
sheet_in file = let head = raw_head (take 4096 file) in sheet_of file head.sectors (rows_in file head.index_at head.rows)

unfoldable pub uuid_in : List ℕ → List ℕ
uuid_in file = (raw_head (take 4096 file)).uuid

unfoldable pub size_in : List ℕ → ℕ
size_in file = (raw_head (take 4096 file)).sectors

-- the file is that of a layer of n sectors, with that uuid and that sheet
pub record IsLayer (n : ℕ) (uuid : List ℕ) (sheet : List Cell) (file : List ℕ) : Type 0 where
  pub head : Head
  pub layer : LayerFile file head sheet
  pub size : head.sectors ≡ n
  pub named : head.uuid ≡ uuid

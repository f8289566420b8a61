-- The canonical file of a sheet: which rows it has, in which order, and where its sectors stand.
use Rattle.std.specs.Prelude.{ℕ, ◌+◌, ◌-◌, ◌*◌, ◌==◌, ◌&&◌, Bool, true, false, min, nat_lt, if◌then◌else◌, List, [], ◌∷◌, ◌++◌, length, map, replicate}
use Rattle.std.specs.Bool.{beq}
use Rattle.std.specs.List.{concat, flat_map, range_with_len}
use Rattle.sector_extent.specs.Rows.{rows_for}
use Rattle.seg_mapping.specs.declared.Row.{Row}
use Rattle.seg_mapping.specs.Rows.{spelling}
use Rattle.lsmt_header.specs.declared.head.Head.{Head}
use Rattle.lsmt_header.specs.declared.head.Kind.TheVariants.{SealedHead, SealedEnd}
use Rattle.lsmt_header.specs.Blocks.{raw_block, raw_of}
use Rattle.flat_image.specs.Sheets.{Cell, Hole, Zero, Filled}
use Rattle.flat_image.specs.LayerFiles.{whole_blocks}

-- cells side by side that are all zero or all filled
pub record Stretch : Type 0 where
  pub at : ℕ
  pub count : ℕ
  pub zeroed : Bool

-- stretches with one more before them, which the first one goes on from where it begins just behind and is of its kind
abbrev pub with_stretch : Stretch → List Stretch → List Stretch
with_stretch first [] = first ∷ []
with_stretch first (next ∷ rest) =
    if (next.at == first.at + first.count) && beq next.zeroed first.zeroed
    then record first { count = first.count + next.count } ∷ rest
    else first ∷ next ∷ rest

-- the longest stretches that stretches in rising order make
abbrev pub joined : List Stretch → List Stretch
joined [] = []
joined (first ∷ rest) = with_stretch first (joined rest)

-- the longest stretches of a sheet that begins at that place, in rising order
abbrev pub stretches : ℕ → List Cell → List Stretch
stretches at [] = []
stretches at (Hole ∷ cells) = stretches (at + 1) cells
stretches at (Zero ∷ cells) = with_stretch (record { at = at; count = 1; zeroed = true }) (stretches (at + 1) cells)
stretches at (Filled sector ∷ cells) = with_stretch (record { at = at; count = 1; zeroed = false }) (stretches (at + 1) cells)

-- the part of that number of a stretch that is cut into parts of 16,383 cells from its start
abbrev pub part_of : Stretch → ℕ → Stretch
part_of stretch number = record stretch { at = stretch.at + 16383 * number; count = min 16383 (stretch.count - 16383 * number) }

abbrev pub parts_of : Stretch → List Stretch
parts_of stretch = map (part_of stretch) (range_with_len 0 (rows_for stretch.count))

-- a row for each part, the filled ones at places that follow one another from the given one on
abbrev pub rows_from : ℕ → List Stretch → List Row
rows_from place [] = []
rows_from place (part ∷ parts) =
    record { offset = part.at; count = part.count; place = if part.zeroed then 0 else place; zeroed = part.zeroed; tag = 0 }
    ∷ rows_from (if part.zeroed then place else place + part.count) parts

-- the rows of a sheet; its sectors stand from sector 8 on
abbrev pub canonical_rows : List Cell → List Row
canonical_rows sheet = rows_from 8 (flat_map parts_of (stretches 0 sheet))

-- the sectors of the filled cells, in order
abbrev pub sectors_of : List Cell → List (List ℕ)
sectors_of [] = []
sectors_of (Filled sector ∷ cells) = sector ∷ sectors_of cells
sectors_of (Hole ∷ cells) = sectors_of cells
sectors_of (Zero ∷ cells) = sectors_of cells

-- where the index of a sheet's file begins
abbrev pub canonical_index_at : List Cell → ℕ
canonical_index_at sheet = 4096 + 512 * length (sectors_of sheet)

-- the head of a sheet's file, over a layer of that many sectors: version 2 where the sheet has more
abbrev pub canonical_head : List ℕ → List ℕ → ℕ → List Cell → Head
canonical_head uuid parent below sheet = record {
  version = if nat_lt below (length sheet) then 2 else 1;
  kind = SealedHead;
  index_at = canonical_index_at sheet;
  rows = length (canonical_rows sheet);
  sectors = length sheet;
  uuid = uuid;
  parent = parent;
  tag = [];
}

-- zeros up to the end of the block
abbrev pub padding_after : ℕ → List ℕ
padding_after bytes = replicate (whole_blocks bytes - bytes) 0

-- a layer's file with this head, these bytes of data and these rows
unfoldable pub file_with : Head → List ℕ → List Row → List ℕ
file_with head sectors rows =
    raw_block (raw_of head)
    ++ sectors
    ++ concat (map spelling rows)
    ++ padding_after (head.index_at + 16 * head.rows)
    ++ raw_block (raw_of (record head { kind = SealedEnd }))

-- the file of a sheet, with this uuid and this parent, over a layer of that many sectors
abbrev pub file_of : List ℕ → List ℕ → ℕ → List Cell → List ℕ
file_of uuid parent below sheet = file_with (canonical_head uuid parent below sheet) (concat (sectors_of sheet)) (canonical_rows sheet)

-- a file with this head and these rows, of which nothing else is known: its data are zeros
abbrev pub blank_file : Head → List Row → List ℕ
blank_file head rows = file_with head (replicate {A = ℕ} (head.index_at - 4096) 0) rows

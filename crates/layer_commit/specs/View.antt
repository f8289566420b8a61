-- The fields of a sealing.
use Rattle.std.specs.Prelude.{ℕ, ◌+◌, ◌-◌, ◌*◌, ◌/◌, min, List, length}
use Rattle.seg_mapping.specs.declared.Row.{Row}
use Rattle.lsmt_header.specs.declared.head.Head.{Head}
use Rattle.flat_image.specs.CanonicalFiles.{file_with}
use Rattle.flat_image.specs.LayerFiles.{whole_blocks}
use Rattle.layer_commit.specs.declared.parts.SealParts.{SealParts}
use Rattle.layer_commit.specs.declared.source.Source.{Source}
use Rattle.layer_commit.specs.Sources.{copied}

pub record SealView : Type 0 where
  pub head : Head
  pub rows : List Row
  pub sources : List Source
  pub from_file : ℕ
  pub to_file : ℕ
  -- the pieces that are written
  pub done : ℕ
  -- the bytes of the buffer
  pub room : ℕ

abbrev pub view_of : SealParts → SealView
view_of s = record {
  head = s.layer.head;
  rows = s.layer.rows;
  sources = s.sources.items;
  from_file = s.from_file;
  to_file = s.to_file;
  done = s.done;
  room = length s.buffer.items;
}

-- the file that it makes, where this is the frozen data file
abbrev pub file_by : SealView → List ℕ → List ℕ
file_by v stored = file_with v.head (copied stored v.sources) v.rows

-- its length, and its pieces
abbrev pub length_of : Head → ℕ
length_of head = whole_blocks (head.index_at + 16 * head.rows) + 4096

abbrev pub pieces_of : SealView → ℕ
pieces_of v = (length_of v.head + 131071) / 131072

-- the bytes of the next piece
abbrev pub next_size : SealView → ℕ
next_size v = min 131072 (length_of v.head - 131072 * v.done)

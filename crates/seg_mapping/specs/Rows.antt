-- A row of an index: five fields in two numbers of 64 bits, the lowest byte first.
use Rattle.std.specs.Prelude.{◌≡◌, ℕ, ◌+◌, ◌*◌, ◌/◌, ◌%◌, ◌^◌, ◌==◌, ◌<◌, ◌≤◌, List, ◌++◌, take, if◌then◌else◌}
use Rattle.std.specs.Int.{w64, to_le_bytes, from_le_bytes}
use Rattle.seg_mapping.specs.declared.Row.{Row}

-- each field lies in its range, and the row has a sector
pub record Fits (row : Row) : Type 0 where
  pub offset : row.offset < 2 ^ 50
  pub some : 1 ≤ row.count
  pub count : row.count < 2 ^ 14
  pub place : row.place < 2 ^ 55

-- 50 bits of offset, and 14 of count above them
abbrev pub first_word : Row → ℕ
first_word row = row.offset + row.count * 2 ^ 50

-- 55 bits of place, one that says zeroed, and 8 of tag
abbrev pub second_word : Row → ℕ
second_word row = row.place + (if row.zeroed then 2 ^ 55 else 0) + row.tag * 2 ^ 56

unfoldable pub spelling : Row → List ℕ
spelling row = to_le_bytes w64 (first_word row) ++ to_le_bytes w64 (second_word row)

-- the 16 bytes are the two numbers of a row whose fields lie in their ranges
pub record RowOf (bytes : List ℕ) (row : Row) : Type 0 where
  pub spelled : bytes ≡ spelling row
  pub fits : Fits row
  pub tag : row.tag < 2 ^ 8

-- the count that the bytes say
abbrev pub count_in : List ℕ → ℕ
count_in bytes = from_le_bytes w64 (take 8 bytes) / 2 ^ 50

-- the row whose two numbers are these, if its count is not 0
abbrev pub row_in : ℕ → ℕ → Row
row_in first second = record { offset = first % 2 ^ 50; count = first / 2 ^ 50; place = second % 2 ^ 55; zeroed = second / 2 ^ 55 % 2 == 1; tag = second / 2 ^ 56 }

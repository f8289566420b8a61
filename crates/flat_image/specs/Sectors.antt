-- Bytes as sectors, and a list in which some elements are replaced.
use Rattle.std.specs.Prelude.{ℕ, ◌+◌, ◌/◌, List, ◌++◌, length, take, drop}
use Rattle.flat_image.specs.Sheets.{image_in}

-- the number of sectors in the bytes
abbrev pub sector_count : List ℕ → ℕ
sector_count bytes = length bytes / 512

-- the bytes, cut into sectors
unfoldable pub sectors_in : List ℕ → List (List ℕ)
sectors_in bytes = image_in (sector_count bytes) bytes

-- the list with the given elements in place of those from that place on
unfoldable pub put_at : {A : Type 0} → ℕ → List A → List A → List A
put_at at new old = take at old ++ (new ++ drop (at + length new) old)

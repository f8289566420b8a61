-- The data of INFO and GO, and of the replies to them.
use Rattle.std.specs.Prelude.{◌≡◌, ℕ, ◌+◌, ◌*◌, ◌^◌, ◌<◌, List, ◌++◌, length, take, drop, Option, Some, None, if◌then◌else◌, ◌==◌}
use Rattle.std.specs.Int.{Width, w16, w32, w64, to_be_bytes}
use Rattle.nbd_wire.specs.Numbers.{number_at}

-- the data of INFO or GO with that name: the name's length, the name, and a counted list of numbers of two bytes each
pub record InfoOf (bytes name : List ℕ) : Type 0 where
  pub count : ℕ
  pub wanted : List ℕ
  pub spelled : bytes ≡ to_be_bytes w32 (length name) ++ name ++ to_be_bytes w16 count ++ wanted
  pub short : length name < 2 ^ 32
  pub few : count < 2 ^ 16
  pub counted : length wanted ≡ 2 * count

-- a number at a place that is itself read
unfoldable pub number_in : Width → ℕ → List ℕ → ℕ
number_in w at bytes = number_at w at bytes

-- the name in the data of INFO or GO, where the lengths add up
unfoldable pub info_name : List ℕ → Option (List ℕ)
info_name bytes =
    let len = number_in w32 0 bytes in
    if length bytes == 6 + len + 2 * number_in w16 (4 + len) bytes then Some (take len (drop 4 bytes)) else None

-- the data of INFO export: its number, the size in bytes and the transmission flags
unfoldable pub info_export_bytes : ℕ → ℕ → List ℕ
info_export_bytes sectors flags = to_be_bytes w16 0 ++ to_be_bytes w64 (sectors * 512) ++ to_be_bytes w16 flags

-- the data of INFO block size: its number, and the least, the preferred and the greatest size of a block
unfoldable pub info_block_size_bytes : List ℕ
info_block_size_bytes = to_be_bytes w16 3 ++ to_be_bytes w32 512 ++ to_be_bytes w32 4096 ++ to_be_bytes w32 33554432

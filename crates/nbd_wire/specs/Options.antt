-- Options of the handshake, and the replies to them.
use Rattle.std.specs.Prelude.{◌≡◌, ℕ, ◌*◌, ◌^◌, ◌<◌, List, ◌++◌, length, Option, Some, None, if◌then◌else◌, ◌==◌, codes}
use Rattle.std.specs.Int.{w16, w32, w64, to_be_bytes}
use Rattle.nbd_wire.specs.declared.options.OptionHead.{OptionHead}
use Rattle.nbd_wire.specs.Numbers.{number_at}

-- the head of an option: the magic word, the number of the option and the length of its data
unfoldable pub option_bytes : OptionHead → List ℕ
option_bytes head = codes "IHAVEOPT" ++ to_be_bytes w32 head.option ++ to_be_bytes w32 head.length

-- the bytes are the head of this option
pub record OptionHeadOf (bytes : List ℕ) (head : OptionHead) : Type 0 where
  pub spelled : bytes ≡ option_bytes head
  pub option : head.option < 2 ^ 32
  pub length : head.length < 2 ^ 32

-- the bytes are an option with its data
pub record OptionOf (bytes : List ℕ) (head : OptionHead) (items : List ℕ) : Type 0 where
  pub front : List ℕ
  pub head_is : OptionHeadOf front head
  pub spelled : bytes ≡ front ++ items
  pub whole : length items ≡ head.length

-- what the first 16 bytes of an option say, where they begin with the magic word
unfoldable pub option_at : List ℕ → Option OptionHead
option_at bytes =
    if number_at w64 0 bytes == 0x4948_4156_454F_5054
    then Some (record { option = number_at w32 8 bytes; length = number_at w32 12 bytes }) else None

-- the head of a reply to an option: the magic number, the option, the type of the reply and the length of its data
unfoldable pub option_reply_bytes : ℕ → ℕ → ℕ → List ℕ
option_reply_bytes option reply length =
    to_be_bytes w64 0x0003E889045565A9 ++ to_be_bytes w32 option ++ to_be_bytes w32 reply ++ to_be_bytes w32 length

-- the answer to EXPORT_NAME: the size in bytes and the transmission flags
unfoldable pub name_reply_bytes : ℕ → ℕ → List ℕ
name_reply_bytes sectors flags = to_be_bytes w64 (sectors * 512) ++ to_be_bytes w16 flags

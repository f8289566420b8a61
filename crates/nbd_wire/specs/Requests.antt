-- Requests of the transmission, and the replies to them.
use Rattle.std.specs.Prelude.{◌≡◌, ℕ, ◌^◌, ◌<◌, List, ◌++◌, length, Option, Some, None, if◌then◌else◌, ◌==◌}
use Rattle.std.specs.Int.{w16, w32, w64, to_be_bytes}
use Rattle.nbd_wire.specs.declared.request.Request.{Request}
use Rattle.nbd_wire.specs.Numbers.{number_at}

-- a request but for its data: the magic number, the flags, the command, the cookie, the offset and the length
unfoldable pub request_bytes : Request → List ℕ
request_bytes r =
    to_be_bytes w32 0x25609513 ++ to_be_bytes w16 r.flags ++ to_be_bytes w16 r.command ++ to_be_bytes w64 r.cookie ++ to_be_bytes w64 r.offset ++ to_be_bytes w32 r.length

-- the bytes are this request, but for its data
pub record RequestHeadOf (bytes : List ℕ) (r : Request) : Type 0 where
  pub spelled : bytes ≡ request_bytes r
  pub flags : r.flags < 2 ^ 16
  pub command : r.command < 2 ^ 16
  pub cookie : r.cookie < 2 ^ 64
  pub offset : r.offset < 2 ^ 64
  pub length : r.length < 2 ^ 32

-- how many bytes of data follow a request: those of a WRITE
abbrev pub data_length : Request → ℕ
data_length r = if r.command == 1 then r.length else 0

-- the bytes are a request with its data
pub record RequestOf (bytes : List ℕ) (r : Request) (items : List ℕ) : Type 0 where
  pub front : List ℕ
  pub head_is : RequestHeadOf front r
  pub spelled : bytes ≡ front ++ items
  pub whole : length items ≡ data_length r

-- what the 28 bytes of a request say, where they begin with the magic number
unfoldable pub request_at : List ℕ → Option Request
request_at bytes =
    if number_at w32 0 bytes == 0x25609513
    then Some (record { flags = number_at w16 4 bytes; command = number_at w16 6 bytes; cookie = number_at w64 8 bytes; offset = number_at w64 16 bytes; length = number_at w32 24 bytes })
    else None

-- the head of a reply: the magic number, the error and the cookie of the request
unfoldable pub simple_reply_bytes : ℕ → ℕ → List ℕ
simple_reply_bytes error cookie = to_be_bytes w32 0x67446698 ++ to_be_bytes w32 error ++ to_be_bytes w64 cookie

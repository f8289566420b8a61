-- Connections worked out by hand.
use Rattle.std.specs.Prelude.{◌≡◌, ℕ, true, false, List, [], ◌∷◌, ◌++◌, length, take, drop, replicate, codes, Ok, Err}
use Rattle.std.specs.List.{concat}
use Rattle.std.specs.Int.{w32, to_be_bytes}
use Rattle.nbd_wire.specs.declared.request.Request.{Request}
use Rattle.nbd_wire.specs.Options.{option_bytes}
use Rattle.nbd_wire.specs.Requests.{request_bytes}
use Rattle.nbd_session.specs.declared.errno.Errno.TheVariants.{Permission, Invalid, Space}
use Rattle.nbd_session.specs.Jobs.{job_of}
use Rattle.nbd_session.specs.declared.export.Export.{Export}
use Rattle.nbd_session.specs.declared.job.Job.TheVariants.{Read, Zero}
use Rattle.nbd_session.specs.declared.served.Served.TheVariants.{Done, Truncated, Oversized, TooManyOptions, UnknownExport}
use Rattle.nbd_wire.specs.Hellos.{server_hello}
use Rattle.nbd_session.specs.Options.{listed}
use Rattle.nbd_session.specs.Replies.{Good}
use Rattle.nbd_session.specs.Talks.{talk}

-- an export that may be written
abbrev pub img : Export
img = record { name = codes "img"; read_only = false }

-- the client's word, GO with an empty name, READ of 512 bytes at 0 with cookie 1, and DISC
abbrev pub one_read_in : List ℕ
one_read_in =
    0x00 ∷ 0x00 ∷ 0x00 ∷ 0x03 ∷
    0x49 ∷ 0x48 ∷ 0x41 ∷ 0x56 ∷ 0x45 ∷ 0x4F ∷ 0x50 ∷ 0x54 ∷ 0x00 ∷ 0x00 ∷ 0x00 ∷ 0x07 ∷ 0x00 ∷ 0x00 ∷ 0x00 ∷ 0x06 ∷ 0x00 ∷ 0x00 ∷ 0x00 ∷ 0x00 ∷ 0x00 ∷ 0x00 ∷
    0x25 ∷ 0x60 ∷ 0x95 ∷ 0x13 ∷ 0x00 ∷ 0x00 ∷ 0x00 ∷ 0x00 ∷ 0x00 ∷ 0x00 ∷ 0x00 ∷ 0x00 ∷ 0x00 ∷ 0x00 ∷ 0x00 ∷ 0x01 ∷ 0x00 ∷ 0x00 ∷ 0x00 ∷ 0x00 ∷ 0x00 ∷ 0x00 ∷ 0x00 ∷ 0x00 ∷ 0x00 ∷ 0x00 ∷ 0x02 ∷ 0x00 ∷
    0x25 ∷ 0x60 ∷ 0x95 ∷ 0x13 ∷ 0x00 ∷ 0x00 ∷ 0x00 ∷ 0x02 ∷ 0x00 ∷ 0x00 ∷ 0x00 ∷ 0x00 ∷ 0x00 ∷ 0x00 ∷ 0x00 ∷ 0x02 ∷ 0x00 ∷ 0x00 ∷ 0x00 ∷ 0x00 ∷ 0x00 ∷ 0x00 ∷ 0x00 ∷ 0x00 ∷ 0x00 ∷ 0x00 ∷ 0x00 ∷ 0x00 ∷ []

-- the server's word, the three replies to GO, and the reply to READ with 512 zeros
abbrev pub one_read_out : List ℕ
one_read_out =
    0x4E ∷ 0x42 ∷ 0x44 ∷ 0x4D ∷ 0x41 ∷ 0x47 ∷ 0x49 ∷ 0x43 ∷ 0x49 ∷ 0x48 ∷ 0x41 ∷ 0x56 ∷ 0x45 ∷ 0x4F ∷ 0x50 ∷ 0x54 ∷ 0x00 ∷ 0x03 ∷
    0x00 ∷ 0x03 ∷ 0xE8 ∷ 0x89 ∷ 0x04 ∷ 0x55 ∷ 0x65 ∷ 0xA9 ∷ 0x00 ∷ 0x00 ∷ 0x00 ∷ 0x07 ∷ 0x00 ∷ 0x00 ∷ 0x00 ∷ 0x03 ∷ 0x00 ∷ 0x00 ∷ 0x00 ∷ 0x0C ∷ 0x00 ∷ 0x00 ∷ 0x00 ∷ 0x00 ∷ 0x00 ∷ 0x00 ∷ 0x00 ∷ 0x00 ∷ 0x08 ∷ 0x00 ∷ 0x01 ∷ 0x6D ∷
    0x00 ∷ 0x03 ∷ 0xE8 ∷ 0x89 ∷ 0x04 ∷ 0x55 ∷ 0x65 ∷ 0xA9 ∷ 0x00 ∷ 0x00 ∷ 0x00 ∷ 0x07 ∷ 0x00 ∷ 0x00 ∷ 0x00 ∷ 0x03 ∷ 0x00 ∷ 0x00 ∷ 0x00 ∷ 0x0E ∷ 0x00 ∷ 0x03 ∷ 0x00 ∷ 0x00 ∷ 0x02 ∷ 0x00 ∷ 0x00 ∷ 0x00 ∷ 0x10 ∷ 0x00 ∷ 0x02 ∷ 0x00 ∷ 0x00 ∷ 0x00 ∷
    0x00 ∷ 0x03 ∷ 0xE8 ∷ 0x89 ∷ 0x04 ∷ 0x55 ∷ 0x65 ∷ 0xA9 ∷ 0x00 ∷ 0x00 ∷ 0x00 ∷ 0x07 ∷ 0x00 ∷ 0x00 ∷ 0x00 ∷ 0x01 ∷ 0x00 ∷ 0x00 ∷ 0x00 ∷ 0x00 ∷
    0x67 ∷ 0x44 ∷ 0x66 ∷ 0x98 ∷ 0x00 ∷ 0x00 ∷ 0x00 ∷ 0x00 ∷ 0x00 ∷ 0x00 ∷ 0x00 ∷ 0x00 ∷ 0x00 ∷ 0x00 ∷ 0x00 ∷ 0x01 ∷ replicate 512 0

-- the same in pieces: the server's first word, nothing to the client's, the answer to the option, and the reply
abbrev pub one_read_pieces : List (List ℕ)
one_read_pieces = take 18 one_read_out ∷ [] ∷ take 86 (drop 18 one_read_out) ∷ drop 104 one_read_out ∷ []

-- one sector of zeros is read from an image of four sectors: 82 bytes come in, and 632 go out
pub record OneRead : Type 0 where
  pub long_in : length one_read_in ≡ 82
  pub long_out : length one_read_out ≡ 632
  pub talks : talk img 4 one_read_in (Good (replicate 512 0) ∷ []) ≡ record
      { pieces = one_read_pieces; passed = (record { job = Read 0 1; bytes = [] }) ∷ []; end = Done; hungry = false; begun = true; unread = [] }

-- a request without data
abbrev pub asking : ℕ → ℕ → ℕ → ℕ → Request
asking flags command offset length = record { flags = flags; command = command; cookie = 9; offset = offset; length = length }

abbrev pub sealed : Export
sealed = record { name = codes "img"; read_only = true }

-- the first check that each request meets on an image of four sectors
pub record FirstChecks : Type 0 where
  pub no_sectors : job_of img 4 (asking 0 0 0 256) ≡ Err Invalid
  pub read_past : job_of img 4 (asking 0 0 2048 512) ≡ Err Invalid
  pub write_past : job_of img 4 (asking 0 1 2048 512) ≡ Err Space
  pub nothing : job_of img 4 (asking 0 0 2048 0) ≡ Ok (Read 4 0)
  pub unknown : job_of img 4 (asking 0 9 0 512) ≡ Err Invalid
  pub flag : job_of img 4 (asking 2 0 0 512) ≡ Err Invalid
  pub no_hole : job_of img 4 (asking 3 6 512 1024) ≡ Ok (Zero 1 2 true)
  pub sealed_image : job_of sealed 4 (asking 0 1 0 512) ≡ Err Permission

-- an option without data
abbrev pub option_of : ℕ → ℕ → List ℕ
option_of option length = option_bytes (record { option = option; length = length })

-- what ends a connection
pub record EndsSoon : Type 0 where
  pub cut : (talk img 4 (take 46 one_read_in) []).end ≡ Truncated
  pub long : talk img 4 (take 26 one_read_in ++ request_bytes (asking 0 1 0 33554433)) [] ≡ record
      { pieces = take 3 one_read_pieces; passed = []; end = Oversized 33554433; hungry = false; begun = true; unread = [] }
  pub lists : talk img 4 (to_be_bytes w32 3 ++ concat (replicate 65 (option_of 3 0))) [] ≡ record
      { pieces = server_hello ∷ [] ∷ replicate 64 (listed img).said; passed = []; end = TooManyOptions; hungry = false; begun = true; unread = [] }
  pub other : talk img 4 (to_be_bytes w32 3 ++ option_of 1 1 ++ codes "x") [] ≡ record
      { pieces = server_hello ∷ [] ∷ [] ∷ []; passed = []; end = UnknownExport; hungry = false; begun = false; unread = [] }

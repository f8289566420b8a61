-- A connection in which requests are refused, and an option that is not known, worked out by hand.
use Rattle.std.specs.Prelude.{◌≡◌, ℕ, true, false, List, [], ◌∷◌, ◌++◌, take, replicate}
use Rattle.std.specs.Int.{w32, to_be_bytes}
use Rattle.nbd_wire.specs.Hellos.{server_hello}
use Rattle.nbd_wire.specs.Options.{option_reply_bytes}
use Rattle.nbd_wire.specs.Requests.{request_bytes, simple_reply_bytes}
use Rattle.nbd_session.specs.declared.job.Job.TheVariants.{Read}
use Rattle.nbd_session.specs.declared.served.Served.TheVariants.{Done, Truncated}
use Rattle.nbd_session.specs.Options.{Start, informed}
use Rattle.nbd_session.specs.Replies.{Good}
use Rattle.nbd_session.specs.Talks.{talk}
use Rattle.nbd_session.specs.Examples.{img, sealed, asking, option_of, one_read_in, one_read_pieces}

-- a request with cookie 9
abbrev pub request : ℕ → ℕ → ℕ → ℕ → List ℕ
request flags command offset length = request_bytes (asking flags command offset length)

-- the reply to it, without data
abbrev pub error : ℕ → List ℕ
error number = simple_reply_bytes number 9

-- of an image of four sectors: READ of 256 bytes at 0, READ of 512 at 2,048, WRITE of 512 at 2,048, READ of none at
-- 2,048, command 9, and READ with bit 1 of its flags. Then WRITE of 512 at 0 where nothing may be written, and option 8
pub record Refusals : Type 0 where
  pub requests : talk img 4
      (take 26 one_read_in
      ++ request 0 0 0 256 ++ request 0 0 2048 512 ++ request 0 1 2048 512 ++ replicate 512 0x61 ++ request 0 0 2048 0 ++ request 0 9 0 0 ++ request 2 0 0 512)
      (Good [] ∷ [])
      ≡ record {
        pieces = take 3 one_read_pieces ++ error 22 ∷ error 22 ∷ error 28 ∷ error 0 ∷ error 22 ∷ error 22 ∷ [];
        passed = (record { job = Read 4 0; bytes = [] }) ∷ [];
        end = Done;
        hungry = true;
        begun = false;
        unread = [];
      }
  pub sealed_image : talk sealed 4 (take 26 one_read_in ++ request 0 1 0 512 ++ replicate 512 0x61) []
      ≡ record { pieces = server_hello ∷ [] ∷ (informed sealed 4 7 Start).said ∷ error 1 ∷ []; passed = []; end = Done; hungry = true; begun = false; unread = [] }
  pub option : talk img 4 (to_be_bytes w32 3 ++ option_of 8 0) []
      ≡ record { pieces = server_hello ∷ [] ∷ option_reply_bytes 8 0x80000001 0 ∷ []; passed = []; end = Truncated; hungry = true; begun = false; unread = [] }

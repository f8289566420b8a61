-- The first words of the handshake.
use Rattle.std.specs.Prelude.{◌≡◌, ℕ, List, ◌++◌, Option, Some, None, ◌==◌, if◌then◌else◌, true, false, codes}
use Rattle.std.specs.Int.{w16, w32, to_be_bytes}
use Rattle.nbd_wire.specs.declared.hello.Hello.{Hello}
use Rattle.nbd_wire.specs.Numbers.{number_at}

-- the flags of a client: bit 0, fixed newstyle, always, and bit 1, no zeroes
abbrev pub flags_of : Hello → ℕ
flags_of hello = if hello.no_zeroes then 3 else 1

-- the client's word
abbrev pub HelloOf : List ℕ → Hello → Type 0
HelloOf bytes hello = bytes ≡ to_be_bytes w32 (flags_of hello)

-- what the client's word says, where it says anything
abbrev pub hello_at : List ℕ → Option Hello
hello_at bytes =
    if number_at w32 0 bytes == 3 then Some (record { no_zeroes = true }) else (if number_at w32 0 bytes == 1 then Some (record { no_zeroes = false }) else None)

-- what the server sends first: the two magic words, and the flags fixed newstyle and no zeroes
unfoldable pub server_hello : List ℕ
server_hello = codes "NBDMAGIC" ++ codes "IHAVEOPT" ++ to_be_bytes w16 3

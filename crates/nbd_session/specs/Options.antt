-- What is answered to an option of the handshake, and what comes next.
use Rattle.std.specs.Prelude.{ℕ, Bool, true, List, [], ◌∷◌, ◌++◌, length, replicate, Option, Some, None, ◌==◌, if◌then◌else◌, bytes_eq}
use Rattle.std.specs.Int.{w32, to_be_bytes}
use Rattle.nbd_wire.specs.declared.hello.Hello.{Hello}
use Rattle.nbd_wire.specs.Options.{option_reply_bytes, name_reply_bytes}
use Rattle.nbd_wire.specs.Infos.{info_name, info_export_bytes, info_block_size_bytes}
use Rattle.nbd_session.specs.declared.export.Export.{Export}
use Rattle.nbd_session.specs.declared.served.Served.{Served}
use Rattle.nbd_session.specs.declared.served.Served.TheVariants.{Aborted, UnknownExport}

-- what comes after an option: another one, the first request, or the end
pub data Next : Type 0 where
  More : Next
  Start : Next
  Stop : Served → Next

-- the bytes that are sent, and what comes next
pub record OptionAnswer : Type 0 where
  pub said : List ℕ
  pub next : Next

-- the transmission flags
abbrev pub export_flags : Export → ℕ
export_flags export = if export.read_only then 0x0107 else 0x016D

-- the name of the export, or no name
abbrev pub is_named : Export → List ℕ → Bool
is_named export [] = true
is_named export (byte ∷ bytes) = bytes_eq (byte ∷ bytes) export.name

-- one reply to an option, with its type and its data
abbrev pub with_data : ℕ → ℕ → List ℕ → List ℕ
with_data option reply bytes = option_reply_bytes option reply (length bytes) ++ bytes

-- ACK ends the replies to an option
abbrev pub ack : ℕ → List ℕ
ack option = option_reply_bytes option 1 0

-- an error, after which another option may come
abbrev pub refused : ℕ → ℕ → OptionAnswer
refused option reply = record { said = option_reply_bytes option reply 0; next = More }

-- to LIST: SERVER with the length of the name and the name
abbrev pub listed : Export → OptionAnswer
listed export = record { said = with_data 3 2 (to_be_bytes w32 (length export.name) ++ export.name) ++ ack 3; next = More }

-- to INFO and GO: the size and the flags of the export, and the sizes of blocks
abbrev pub informed : Export → ℕ → ℕ → Next → OptionAnswer
informed export n option next =
    record { said = with_data option 3 (info_export_bytes n (export_flags export)) ++ with_data option 3 info_block_size_bytes ++ ack option; next = next }

-- to INFO and GO, by the name that they ask for: ERR_INVALID where there is none to read, and ERR_UNKNOWN for another
abbrev pub info_answer : Export → ℕ → ℕ → Next → Option (List ℕ) → OptionAnswer
info_answer export n option next None = refused option 0x80000003
info_answer export n option next (Some name) = if is_named export name then informed export n option next else refused option 0x80000006

-- to EXPORT_NAME: the size and the flags, and 124 zeros unless the client did without
abbrev pub name_answer : Export → ℕ → Hello → List ℕ → OptionAnswer
name_answer export n hello name =
    if is_named export name
    then (record { said = name_reply_bytes n (export_flags export) ++ (if hello.no_zeroes then [] else replicate 124 0); next = Start })
    else (record { said = []; next = Stop UnknownExport })

-- to an option with its data: EXPORT_NAME 1, ABORT 2, LIST 3, INFO 6 and GO 7; ERR_UNSUP to all others
unfoldable pub short_answer : Export → ℕ → Hello → ℕ → List ℕ → OptionAnswer
short_answer export n hello option bytes =
    if option == 1 then name_answer export n hello bytes else (
    if option == 2 then (record { said = ack 2; next = Stop Aborted }) else (
    if option == 3 then (if length bytes == 0 then listed export else refused 3 0x80000003) else (
    if option == 6 then info_answer export n 6 More (info_name bytes) else (
    if option == 7 then info_answer export n 7 Start (info_name bytes) else
    refused option 0x80000001))))

-- to an option with over 8,192 bytes of data: no name is so long, and ERR_TOO_BIG to all but EXPORT_NAME
unfoldable pub long_answer : ℕ → OptionAnswer
long_answer option = if option == 1 then (record { said = []; next = Stop UnknownExport }) else refused option 0x80000009

-- The values of arguments.
use Rattle.std.specs.Prelude.{ℕ, ◌^◌, ◌-◌, ◌≤◌, ◌&&◌, Bool, nat_le, if◌then◌else◌, List, length, Option, None, Some, codes, Result, Ok, Err}
use Rattle.std.specs.Char.{is_ascii_digit}
use Rattle.std.specs.List.{list_all}
use Rattle.std.specs.Str.Parse.{digits_value}
use Rattle.tool_setup.specs.Gives.{and_then}
use Rattle.uuid.specs.Parts.{is_nil_bytes}
use Rattle.uuid.specs.Text.{parsed}
use Rattle.tool_setup.specs.declared.command.Arg.{Arg}
use Rattle.tool_setup.specs.declared.command.Arg.TheVariants as arg
use Rattle.tool_setup.specs.declared.command.WordsFault.{WordsFault}
use Rattle.tool_setup.specs.declared.command.WordsFault.TheVariants.{BadValue}

-- the name of an argument in its command
abbrev pub id_of : Arg → List ℕ
id_of arg.Layer = codes "layer"
id_of arg.Sectors = codes "sectors"
id_of arg.At = codes "at"
id_of arg.Count = codes "count"
id_of arg.Uuid = codes "uuid"
id_of arg.Seed = codes "seed"
id_of arg.Acts = codes "acts"
id_of arg.Connections = codes "connections"

-- the least and the greatest number that an argument may be
abbrev pub least_of : Arg → ℕ
least_of arg.Sectors = 1
least_of arg.Connections = 1
least_of _ = 0

abbrev pub most_of : Arg → ℕ
most_of arg.Seed = 2 ^ 31 - 1
most_of arg.Acts = 100000
most_of arg.Connections = 1000000
most_of _ = 2 ^ 31

-- the number that 1 to 20 decimal digits spell, leading zeros among them
abbrev pub digits_in : List ℕ → Option ℕ
digits_in text =
    if nat_le 1 (length text) && nat_le (length text) 20 && list_all is_ascii_digit text then Some (digits_value 10 text) else None

abbrev pub in_range : Arg → ℕ → Bool
in_range arg number = nat_le (least_of arg) number && nat_le number (most_of arg)

-- the number is one that the argument may be
abbrev pub InRange : Arg → ℕ → Type 0
InRange arg number = (least_of arg ≤ number) × (number ≤ most_of arg)

abbrev pub number_for : Arg → Option ℕ → Result ℕ WordsFault
number_for arg None = Err (BadValue arg)
number_for arg (Some number) = if in_range arg number then Ok number else Err (BadValue arg)

-- the number that a text gives an argument
unfoldable pub number_given : Arg → List ℕ → Result ℕ WordsFault
number_given arg text = number_for arg (digits_in text)

-- the numbers of two arguments
abbrev pub both_given : Arg → List ℕ → Arg → List ℕ → Result (ℕ × ℕ) WordsFault
both_given first one second other = and_then (number_given first one) (λ number. and_then (number_given second other) (λ last. Ok (number, last)))

-- the number of an argument that may be left out
abbrev pub number_if_given : Arg → Option (List ℕ) → Result (Option ℕ) WordsFault
number_if_given arg None = Ok None
number_if_given arg (Some text) = and_then (number_given arg text) (λ number. Ok (Some number))

abbrev pub uuid_for : Option (List ℕ) → Result (List ℕ) WordsFault
uuid_for None = Err (BadValue arg.Uuid)
uuid_for (Some uuid) = if is_nil_bytes uuid then Err (BadValue arg.Uuid) else Ok uuid

-- the uuid that a text is in any of its forms, and not the nil one
unfoldable pub uuid_given : List ℕ → Result (List ℕ) WordsFault
uuid_given text = uuid_for (parsed text)

-- The command that words are.
use Rattle.std.specs.Prelude.{◌≡◌, ℕ, false, ⊤, List, [], ◌∷◌, Option, None, Some, IfSome, Result, Ok, Err, codes, unwrap_or}
use Rattle.clap.specs.Words.{Text, first_of}
use Rattle.uuid.specs.Parts.{is_nil_bytes}
use Rattle.tool_setup.specs.declared.command.Arg.{Arg}
use Rattle.tool_setup.specs.declared.command.Arg.TheVariants as arg
use Rattle.tool_setup.specs.declared.command.Command.{Command}
use Rattle.tool_setup.specs.declared.command.Command.TheVariants as command
use Rattle.tool_setup.specs.declared.command.WordsFault.{WordsFault}
use Rattle.tool_setup.specs.declared.command.WordsFault.TheVariants.{NoCommand, UnknownCommand}
use Rattle.tool_setup.specs.declared.verb.Verb.{Verb}
use Rattle.tool_setup.specs.declared.verb.Verb.TheVariants as verb
use Rattle.tool_setup.specs.Gives.{and_then}
use Rattle.tool_setup.specs.Taken.{bare, flagged, optioned, one_more, given, is_set, taken}
use Rattle.tool_setup.specs.Values.{InRange, both_given, id_of, number_given, number_if_given, uuid_given}
use Rattle.tool_setup.specs.Verbs.{verb_of}

-- the number of a command's one argument
unfoldable pub one_number : Text → Arg → List Text → Result ℕ WordsFault
one_number name arg words = taken (one_more (bare name) (id_of arg)) words (λ rows. number_given arg (given (id_of arg) rows))

-- the numbers of a command's two arguments
unfoldable pub two_numbers : Text → Arg → Arg → List Text → Result (ℕ × ℕ) WordsFault
two_numbers name first second words = taken (one_more (one_more (bare name) (id_of first)) (id_of second)) words
    (λ rows. both_given first (given (id_of first) rows) second (given (id_of second) rows))

-- the number of a command's one option, where the words give it
unfoldable pub optional_number : Text → Arg → List Text → Result (Option ℕ) WordsFault
optional_number name arg words = taken (optioned name (id_of arg)) words (λ rows. number_if_given arg (first_of (id_of arg) rows))

-- the uuid of a command's one argument
unfoldable pub one_uuid : Text → List Text → Result (List ℕ) WordsFault
one_uuid name words = taken (one_more (bare name) (id_of arg.Uuid)) words (λ rows. uuid_given (given (id_of arg.Uuid) rows))

-- the command of that verb that the words are
abbrev pub command_as : Verb → Text → List Text → Result Command WordsFault
command_as verb.Flatten name words = taken (flagged name (codes "stdin")) words (λ rows. Ok (command.Flatten (is_set (codes "stdin") rows)))
command_as verb.Info name words = and_then (one_number name arg.Layer words) (λ layer. Ok (command.Info layer))
command_as verb.Stack name words = taken (bare name) words (λ rows. Ok command.Stack)
command_as verb.Create name words = and_then (optional_number name arg.Sectors words) (λ sectors. Ok (command.Create sectors))
command_as verb.Grow name words = and_then (one_number name arg.Sectors words) (λ sectors. Ok (command.Grow sectors))
command_as verb.Read name words = and_then (two_numbers name arg.At arg.Count words) (λ part. Ok (command.Read part.0 part.1))
command_as verb.Write name words = and_then (one_number name arg.At words) (λ at. Ok (command.Write at))
command_as verb.Zero name words = and_then (two_numbers name arg.At arg.Count words) (λ part. Ok (command.Zero part.0 part.1))
command_as verb.Commit name words = and_then (one_uuid name words) (λ uuid. Ok (command.Commit uuid))
command_as verb.Sweep name words = taken (bare name) words (λ rows. Ok command.Sweep)
command_as verb.Make name words = and_then (two_numbers name arg.Seed arg.Acts words) (λ drawn. Ok (command.Make drawn.0 drawn.1))
command_as verb.Export name words =
    and_then (optional_number name arg.Connections words) (λ given. Ok (command.Export (unwrap_or given 1000000)))

abbrev pub command_named : Option Verb → Text → List Text → Result Command WordsFault
command_named None name words = Err UnknownCommand
command_named (Some verb) name words = command_as verb name words

-- the command that the words are
unfoldable pub command_of : List Text → Result Command WordsFault
command_of [] = Err NoCommand
command_of (name ∷ rest) = command_named (verb_of name) name (name ∷ rest)

-- each number of a command is one that its argument may be, and no uuid is the nil one
abbrev pub HasRanges : Command → Type 0
HasRanges (command.Flatten stdin) = ⊤
HasRanges (command.Info layer) = InRange arg.Layer layer
HasRanges command.Stack = ⊤
HasRanges (command.Create sectors) = IfSome sectors (InRange arg.Sectors)
HasRanges (command.Grow sectors) = InRange arg.Sectors sectors
HasRanges (command.Read at count) = InRange arg.At at × InRange arg.Count count
HasRanges (command.Write at) = InRange arg.At at
HasRanges (command.Zero at count) = InRange arg.At at × InRange arg.Count count
HasRanges (command.Commit uuid) = is_nil_bytes uuid ≡ false
HasRanges command.Sweep = ⊤
HasRanges (command.Make seed acts) = InRange arg.Seed seed × InRange arg.Acts acts
HasRanges (command.Export connections) = InRange arg.Connections connections

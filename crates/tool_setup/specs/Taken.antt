-- The simple commands whose words `clap` reads, and what it makes of the words.
use Rattle.std.specs.Prelude.{◌≡◌, ◌≢◌, ◌⊎◌, Bool, true, false, List, [], ◌∷◌, Some, Result, Err, MatchResult, codes, unwrap_or}
use Rattle.std.specs.Str.{bytes_eq}
use Rattle.std.specs.Option.{option_map_or}
use Rattle.clap.specs.Words.{App, Kinds, Row, Rule, Text, first_of, fault_of, matches_of, new_app, new_rule, with_rule}
use Rattle.clap.specs.declared.builder.action.ArgAction.TheVariants.{Set, SetTrue}
use Rattle.tool_setup.specs.declared.command.WordsFault.{WordsFault}
use Rattle.tool_setup.specs.declared.command.WordsFault.TheVariants.{BadWords, Memory}

-- the command without a help flag
abbrev pub without_help : App → App
without_help app = record app { top = record app.top { disable_help_flag = true } }

-- a command without arguments
abbrev pub bare : Text → App
bare name = without_help (new_app name)

-- an argument that is required
abbrev pub required_rule : Text → Rule
required_rule id = record (new_rule id) { required = true; action = Some Set }

-- the command with one more argument, which is required
abbrev pub one_more : App → Text → App
one_more app id = with_rule app (required_rule id)

-- an option, `--id VALUE` or `--id=VALUE`
abbrev pub option_rule : Text → Rule
option_rule id = record (new_rule id) { long = Some id; action = Some Set }

-- a flag, `--id`
abbrev pub flag_rule : Text → Rule
flag_rule id = record (new_rule id) { long = Some id; action = Some SetTrue }

-- a command with one option
abbrev pub optioned : Text → Text → App
optioned name id = with_rule (bare name) (option_rule id)

-- a command with one flag
abbrev pub flagged : Text → Text → App
flagged name id = with_rule (bare name) (flag_rule id)

-- the value of a required argument
abbrev pub given : Text → List Row → Text
given id rows = unwrap_or (first_of id rows) []

-- whether a flag is set
abbrev pub is_set : Text → List Row → Bool
is_set id rows = option_map_or (λ text. bytes_eq text (codes "true")) (first_of id rows) false

-- an answer where clap finds no fault
abbrev pub if_taken : {X : Type 0} → Kinds → Result X WordsFault → Result X WordsFault
if_taken [] answer = answer
if_taken (kind ∷ kinds) answer = Err BadWords

-- where the command takes the words, what is read of the values that they give
abbrev pub taken : {X : Type 0} → App → List Text → (List Row → Result X WordsFault) → Result X WordsFault
taken app words read = if_taken (fault_of app words) (read (matches_of app words))

-- the words are taken, and that is found; or they are not, or memory is wanting
abbrev pub Takes : {X : Type 0} → App → List Text → (List Row → X → Type 0) → Result X WordsFault → Type 0
Takes app words Finds result = MatchResult result
    (λ found. (fault_of app words ≡ []) × Finds (matches_of app words) found)
    (λ fault. (fault ≡ Memory) ⊎ ((fault ≡ BadWords) × (fault_of app words ≢ [])))

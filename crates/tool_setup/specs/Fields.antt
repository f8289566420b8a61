-- The values of a configuration's fields.
use Rattle.std.specs.Prelude.{ℕ, ◌==◌, ◌&&◌, Bool, true, false, not, nat_le, nat_lt, if◌then◌else◌, List, [], ◌∷◌, length, map, Option, None, Some, Result, Ok, Err, codes, option_and_then}
use Rattle.std.specs.Str.{bytes_eq}
use Rattle.std.specs.List.{list_all, list_any}
use Rattle.std.specs.Option.{is_some, unwrap_or}
use Rattle.serde_json.specs.Data.{Data, Items, no_items, item, Members, no_members, member}
use Rattle.serde_json.specs.Find.{get_member, as_array, as_bool, as_number, as_object, as_str, as_u64}
use Rattle.tool_setup.specs.declared.config.ConfigFault.{ConfigFault}
use Rattle.tool_setup.specs.declared.config.ConfigFault.TheVariants.{BadField}
use Rattle.tool_setup.specs.declared.config.Field.{Field}
use Rattle.tool_setup.specs.declared.config.Field.TheVariants as field
use Rattle.tool_setup.specs.declared.config.Lowers as lowers
use Rattle.tool_setup.specs.declared.config.Lowers.TheVariants.{Files, Remote}
use Rattle.tool_setup.specs.Gives.{and_then}

-- each name of an object is known
abbrev pub all_named : (List ℕ → Bool) → Members → Bool
all_named known no_members = true
all_named known (member name value rest) = known name && all_named known rest

abbrev pub is_named : List (List ℕ) → List ℕ → Bool
is_named names name = list_any (λ known. bytes_eq known name) names

-- a value, or the default where there is none
abbrev pub value_or : {X : Type 0} → X → (Data → Result X ConfigFault) → Option Data → Result X ConfigFault
value_or default read None = Ok default
value_or default read (Some value) = read value

-- a text where it is not empty
abbrev pub filled : Field → Option (List ℕ) → Result (List ℕ) ConfigFault
filled f None = Err (BadField f)
filled f (Some []) = Err (BadField f)
filled f (Some (byte ∷ bytes)) = Ok (byte ∷ bytes)

abbrev pub text_in : Field → Data → Result (List ℕ) ConfigFault
text_in f value = filled f (as_str value)

abbrev pub text_or : Field → List ℕ → Option Data → Result (List ℕ) ConfigFault
text_or f default = value_or default (text_in f)

-- a text of at most 4,096 bytes
abbrev pub short : Option (List ℕ) → Result (List ℕ) ConfigFault
short None = Err (BadField field.Export)
short (Some text) = if nat_le (length text) 4096 then Ok text else Err (BadField field.Export)

abbrev pub export_or : Option Data → Result (List ℕ) ConfigFault
export_or = value_or [] (λ value. short (as_str value))

-- a truth value
abbrev pub truth : Field → Option Bool → Result Bool ConfigFault
truth f None = Err (BadField f)
truth f (Some flag) = Ok flag

abbrev pub flag_or : Field → Option Data → Result Bool ConfigFault
flag_or f = value_or false (λ value. truth f (as_bool value))

-- a number from 1 to that most
abbrev pub counted : Field → ℕ → Option ℕ → Result ℕ ConfigFault
counted f most None = Err (BadField f)
counted f most (Some number) = if nat_le 1 number && nat_le number most then Ok number else Err (BadField f)

abbrev pub number_or : Field → ℕ → ℕ → Option Data → Result ℕ ConfigFault
number_or f most default = value_or default (λ value. counted f most (option_and_then as_u64 (as_number value)))

-- ---- lowers

-- texts, one after another
abbrev pub items_of : Items → List Data
items_of no_items = []
items_of (item value rest) = value ∷ items_of rest

abbrev pub is_text : Data → Bool
is_text value = is_some (as_str value)

abbrev pub text_of : Data → List ℕ
text_of value = unwrap_or (as_str value) []

abbrev pub texts_in : List Data → Result (List (List ℕ)) ConfigFault
texts_in values = if list_all is_text values then Ok (map text_of values) else Err (BadField field.Lowers)

-- at most 255 texts
abbrev pub few : List Data → Result (List (List ℕ)) ConfigFault
few values = if nat_le (length values) 255 then texts_in values else Err (BadField field.Lowers)

abbrev pub listed : Option Items → Result (List (List ℕ)) ConfigFault
listed None = Err (BadField field.Lowers)
listed (Some items) = few (items_of items)

abbrev pub files_in : Option Data → Result (List (List ℕ)) ConfigFault
files_in None = Err (BadField field.Lowers)
files_in (Some value) = listed (as_array value)

-- a visible ASCII character, and one of a path, which is none of " < >
abbrev pub is_visible : ℕ → Bool
is_visible byte = nat_lt 32 byte && nat_lt byte 127

abbrev pub is_path_byte : ℕ → Bool
is_path_byte byte = is_visible byte && (not (byte == 34) && (not (byte == 60) && not (byte == 62)))

abbrev pub is_host : List ℕ → Bool
is_host = list_all is_visible

-- a path begins with a slash
abbrev pub is_path : List ℕ → Bool
is_path [] = false
is_path (first ∷ rest) = (first == 47) && list_all is_path_byte (first ∷ rest)

abbrev pub hosted : Option (List ℕ) → Result (List ℕ) ConfigFault
hosted None = Err (BadField field.Lowers)
hosted (Some text) = if is_host text then Ok text else Err (BadField field.Lowers)

abbrev pub host_in : Option Data → Result (List ℕ) ConfigFault
host_in None = Err (BadField field.Lowers)
host_in (Some value) = hosted (as_str value)

abbrev pub if_paths : List (List ℕ) → Result (List (List ℕ)) ConfigFault
if_paths texts = if list_all is_path texts then Ok texts else Err (BadField field.Lowers)

abbrev pub paths_in : Option Data → Result (List (List ℕ)) ConfigFault
paths_in value = and_then (files_in value) if_paths

-- files by their paths, or paths on a host, and no other name
abbrev pub lowers_in : Members → Result lowers.Lowers ConfigFault
lowers_in members =
    if all_named (is_named (codes "files" ∷ [])) members then and_then (files_in (get_member (codes "files") members)) (λ files. Ok (Files files))
    else if all_named (is_named (codes "host" ∷ codes "paths" ∷ [])) members
    then and_then (host_in (get_member (codes "host") members)) (λ host. and_then (paths_in (get_member (codes "paths") members)) (λ paths. Ok (Remote host paths)))
    else Err (BadField field.Lowers)

abbrev pub formed : Option Members → Result lowers.Lowers ConfigFault
formed None = Err (BadField field.Lowers)
formed (Some members) = lowers_in members

abbrev pub lowers_or : Option Data → Result lowers.Lowers ConfigFault
lowers_or = value_or (Files []) (λ value. formed (as_object value))

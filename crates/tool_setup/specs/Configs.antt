-- The configuration that a text is.
use Rattle.std.specs.Prelude.{◌≡◌, ℕ, Bool, if◌then◌else◌, List, [], ◌∷◌, Option, None, Some, Result, Ok, Err, codes, IsUtf8}
use Rattle.serde_json.specs.Data.{Data, Members}
use Rattle.serde_json.specs.Read.{read}
use Rattle.serde_json.specs.Find.{get, as_object}
use Rattle.tool_setup.specs.declared.config.Config.{Config}
use Rattle.tool_setup.specs.declared.config.ConfigFault.{ConfigFault}
use Rattle.tool_setup.specs.declared.config.ConfigFault.TheVariants.{Missing, NotObject, UnknownField}
use Rattle.tool_setup.specs.declared.config.Field.TheVariants as field
use Rattle.tool_setup.specs.Gives.{and_then}
use Rattle.tool_setup.specs.Fields.{all_named, is_named, text_in, text_or, export_or, flag_or, number_or, lowers_or}

-- the text is JSON, nested no deeper than 127, with that value, in which the last value of a name counts
abbrev pub IsJson : List ℕ → Data → Type 0
IsJson text value = IsUtf8 text × (read text ≡ Some value)

abbrev pub field_names : List (List ℕ)
field_names = codes "disk" ∷ codes "lowers" ∷ codes "export" ∷ codes "read_only" ∷ codes "cache_blocks" ∷ codes "lanes" ∷ codes "listen" ∷ codes "control" ∷ []

abbrev pub disk_of : Option Data → Result (List ℕ) ConfigFault
disk_of None = Err (Missing field.Disk)
disk_of (Some value) = text_in field.Disk value

abbrev pub disk_in : Data → Result (List ℕ) ConfigFault
disk_in value = disk_of (get (codes "disk") value)

-- the fields of an object in their order, the first that is missing or not of its form refused
abbrev pub fields_in : Data → Result Config ConfigFault
fields_in value =
    and_then (disk_in value) (λ disk.
    and_then (lowers_or (get (codes "lowers") value)) (λ lowers.
    and_then (export_or (get (codes "export") value)) (λ export.
    and_then (flag_or field.ReadOnly (get (codes "read_only") value)) (λ read_only.
    and_then (number_or field.CacheBlocks 16384 1024 (get (codes "cache_blocks") value)) (λ cache_blocks.
    and_then (number_or field.Lanes 16 2 (get (codes "lanes") value)) (λ lanes.
    and_then (text_or field.Listen (codes "127.0.0.1:10809") (get (codes "listen") value)) (λ listen.
    and_then (text_or field.Control (codes "127.0.0.1:10810") (get (codes "control") value)) (λ control.
    Ok (record {
      disk = disk;
      lowers = lowers;
      export = export;
      read_only = read_only;
      cache_blocks = cache_blocks;
      lanes = lanes;
      listen = listen;
      control = control;
    })))))))))

abbrev pub object_in : Option Members → Data → Result Config ConfigFault
object_in None value = Err NotObject
object_in (Some members) value = if all_named (is_named field_names) members then fields_in value else Err UnknownField

-- the configuration that a JSON value is
unfoldable pub config_in : Data → Result Config ConfigFault
config_in value = object_in (as_object value) value

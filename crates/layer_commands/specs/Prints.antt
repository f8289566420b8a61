-- What each command reads, and what it prints where it succeeds.
use Rattle.std.specs.Prelude.{◌≡◌, ℕ, ◌^◌, ◌<◌, ◌≤◌, true, false, List, [], ◌∷◌, length, map, All, Option}
use Rattle.std.specs.Option.{option_map}
use Rattle.std.specs.List.{AllZip}
use Rattle.lsmt_header.specs.declared.head.Head.{Head}
use Rattle.flat_image.specs.Sheets.{Cell, flat, bytes_of}
use Rattle.flat_image.specs.LayerFiles.{LayerFile}
use Rattle.flat_image.specs.Stacks.{uppermost, Legal}
use Rattle.layer_shelf.specs.Shelves.{file_at}
use Rattle.tool_setup.specs.declared.command.Command.{Command}
use Rattle.tool_setup.specs.declared.command.Command.TheVariants.{Flatten, Info, Stack, Create, Grow, Read, Write, Zero, Commit, Sweep, Make, Export}
use Rattle.layer_commands.specs.Reports.{info_lines, stack_lines}

-- a layer's head and its sheet
pub record LayerSheet : Type 0 where
  pub head : Head
  pub sheet : List Cell

-- file after file, the files are these layers
abbrev pub AreLayers : List (List ℕ) → List LayerSheet → Type 0
AreLayers files layers = AllZip (λ file layer. LayerFile file layer.head layer.sheet) files layers

abbrev pub heads_of : List LayerSheet → List Head
heads_of layers = map (λ layer. layer.head) layers

-- the sectors of the uppermost layer
abbrev pub sectors_of : List LayerSheet → ℕ
sectors_of layers = uppermost 0 (map (λ layer. layer.head.sectors) layers)

-- the flat image of layers, as large as the uppermost
abbrev pub flat_image : List LayerSheet → List ℕ
flat_image layers = bytes_of (flat (sectors_of layers) (map (λ layer. layer.sheet) layers))

-- the files that a command reads, where they are told: what is left in the source as one file, or the files of the shelf
abbrev pub read_by : Command → Option (List ℕ) → Option (List (List ℕ)) → Option (List (List ℕ))
read_by (Flatten true) left files = option_map (λ file. file ∷ []) left
read_by (Flatten false) left files = files
read_by (Info number) left files = files
read_by Stack left files = files
read_by (Create asked) left files = files
read_by (Grow sectors) left files = files
read_by (Commit uuid) left files = files
read_by Sweep left files = files
read_by (Make seed acts) left files = files
read_by (Export connections) left files = files
read_by (Read at count) left files = files
read_by (Write at) left files = files
read_by (Zero at count) left files = files

-- the source is no longer than 2^30 bytes
abbrev pub AreShort : List (List ℕ) → Type 0
AreShort files = All (λ file. length file ≤ 2 ^ 30) files

-- the most bytes of the source that a command takes as its input
abbrev pub input_limit : Command → ℕ
input_limit (Flatten true) = 2 ^ 30
input_limit (Flatten false) = 0
input_limit (Info number) = 0
input_limit Stack = 0
input_limit (Create asked) = 0
input_limit (Grow sectors) = 0
input_limit (Commit uuid) = 0
input_limit Sweep = 0
input_limit (Make seed acts) = 0
input_limit (Export connections) = 0
input_limit (Read at count) = 0
input_limit (Write at) = 33554432
input_limit (Zero at count) = 0

-- what a command over layers prints of the files that it reads
abbrev pub Prints : Command → List (List ℕ) → List ℕ → Type 0
Prints (Flatten true) files bytes = (layers : List LayerSheet) × AreShort files × AreLayers files layers × (bytes ≡ flat_image layers)
Prints (Flatten false) files bytes = (layers : List LayerSheet) × AreLayers files layers × Legal (heads_of layers) × (bytes ≡ flat_image layers)
Prints (Info number) files bytes = (layer : LayerSheet) × (number < length files) × LayerFile (file_at files number) layer.head layer.sheet × (bytes ≡ info_lines number layer.head)
Prints Stack files bytes = (layers : List LayerSheet) × AreLayers files layers × Legal (heads_of layers) × (bytes ≡ stack_lines 0 (heads_of layers))
Prints (Create asked) files bytes = ⊥
Prints (Grow sectors) files bytes = ⊥
Prints (Commit uuid) files bytes = ⊥
Prints Sweep files bytes = ⊥
Prints (Make seed acts) files bytes = ⊥
Prints (Export connections) files bytes = ⊥
Prints (Read at count) files bytes = ⊥
Prints (Write at) files bytes = ⊥
Prints (Zero at count) files bytes = ⊥

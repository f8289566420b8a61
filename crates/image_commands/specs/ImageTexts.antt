-- What is printed where a disk holds no image over the lower layers, and where any command is refused.
use Rattle.std.specs.Prelude.{ℕ, List, ◌++◌, codes, decimal}
use Rattle.top_writer.specs.declared.fault.TopReason.{TopReason}
use Rattle.top_writer.specs.declared.fault.TopReason.TheVariants as top
use Rattle.image_core.specs.declared.loading.LoadFault.{LoadFault}
use Rattle.image_core.specs.declared.loading.LoadFault.TheVariants as load
use Rattle.layer_commands.specs.declared.refusal.Refusal.TheVariants as refused
use Rattle.layer_commands.specs.Texts.{head_text, layer_text, stack_text, text_of, code_of}
use Rattle.image_commands.specs.declared.refusal.ImageRefusal.{ImageRefusal}
use Rattle.image_commands.specs.declared.refusal.ImageRefusal.TheVariants.{Other, Load}

abbrev pub top_text : TopReason → List ℕ
top_text top.HeadShort = codes "head short"
top_text (top.Bytes fault) = codes "data " ++ head_text fault
top_text (top.Rows fault) = codes "index " ++ head_text fault
top_text (top.HeadSize sectors) = codes "head size " ++ decimal sectors
top_text top.ParentDiffers = codes "parent differs"
top_text top.NoMark = codes "no mark"
top_text (top.MarkWorn sequence) = codes "mark worn " ++ decimal sequence
top_text (top.MarkBad rows sectors) = codes "mark bad"
top_text top.ShortRows = codes "short rows"
top_text top.ShortBytes = codes "short data"
top_text (top.Row number fault) = codes "row " ++ (decimal number ++ codes " empty")
top_text (top.RowRange number) = codes "row " ++ (decimal number ++ codes " range")
top_text (top.RowPlace number) = codes "row " ++ (decimal number ++ codes " place")

-- the last two are no faults of an image, and no refusal has them
abbrev pub load_text : LoadFault → List ℕ
load_text load.NoImage = codes "no image"
load_text (load.ManifestWorn sequence) = codes "manifest worn " ++ decimal sequence
load_text load.ManifestBad = codes "manifest bad"
load_text load.SizeDiffers = codes "size differs"
load_text (load.Sealed epoch fault) = codes "sealed " ++ (decimal epoch ++ (codes ": " ++ layer_text fault))
load_text (load.Stack fault) = stack_text fault
load_text (load.NoTop epoch reason) = codes "top " ++ (decimal epoch ++ (codes ": " ++ top_text reason))
load_text load.Failed = codes "disk fault"
load_text load.Memory = codes "memory"

-- the refusal that a fault of loading an image is
abbrev pub load_cause : LoadFault → ImageRefusal
load_cause load.Memory = Other refused.Memory
load_cause load.Failed = Other refused.DiskFault
load_cause other = Load other

abbrev pub image_text : ImageRefusal → List ℕ
image_text (Other refusal) = text_of refusal
image_text (Load fault) = load_text fault

abbrev pub image_code : ImageRefusal → ℕ
image_code (Other refusal) = code_of refusal
image_code (Load fault) = 3

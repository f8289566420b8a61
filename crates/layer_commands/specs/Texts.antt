-- What a refusal prints, and the status with which it ends.
use Rattle.std.specs.Prelude.{ℕ, List, ◌++◌, codes, decimal}
use Rattle.uuid.specs.Text.{hyphenated_text, lower}
use Rattle.lsmt_header.specs.declared.head.HeadFault.{HeadFault}
use Rattle.lsmt_header.specs.declared.head.HeadFault.TheVariants.{BadMagic, BadVersion, Compressed, BadFlags, BadSize, NilUuid, BadTag, Unclean}
use Rattle.layer_stack.specs.declared.fault.StackFault.{StackFault}
use Rattle.layer_stack.specs.declared.fault.StackFault.TheVariants as stack
use Rattle.sealed_layer.specs.declared.fault.LayerFault.{LayerFault}
use Rattle.sealed_layer.specs.declared.fault.LayerFault.TheVariants as file
use Rattle.layer_commands.specs.declared.refusal.Refusal.{Refusal}
use Rattle.layer_commands.specs.declared.refusal.Refusal.TheVariants.{Usage, SourceFault, SinkFault, ShelfFault, Memory, TooLong, NoLayer, Layer, Stack, DiskFault, NoSize, OtherSize, ImageExists, NotWholeSectors, OutOfRange, Full, Busy, NotLarger, TooManyLayers, UuidTwice}

-- a uuid in lower case with hyphens
abbrev pub uuid_text : List ℕ → List ℕ
uuid_text uuid = hyphenated_text lower uuid

abbrev pub head_text : HeadFault → List ℕ
head_text BadMagic = codes "bad magic"
head_text (BadVersion version) = codes "bad version " ++ decimal version
head_text Compressed = codes "compressed"
head_text (BadFlags flags) = codes "bad flags " ++ decimal flags
head_text (BadSize sectors) = codes "bad size " ++ decimal sectors
head_text NilUuid = codes "nil uuid"
head_text BadTag = codes "bad tag"
head_text (Unclean place) = codes "unclean " ++ decimal place

-- the last two are no faults of a file, and no refusal has them
abbrev pub layer_text : LayerFault → List ℕ
layer_text file.Short = codes "short"
layer_text (file.Head fault) = head_text fault
layer_text file.TrailerDiffers = codes "trailer differs"
layer_text (file.TooManyRows rows) = codes "too many rows " ++ decimal rows
layer_text file.BadIndexPlace = codes "bad index place"
layer_text (file.Row number fault) = codes "row " ++ (decimal number ++ codes " empty")
layer_text (file.RowOrder number) = codes "row " ++ (decimal number ++ codes " order")
layer_text (file.RowRange number) = codes "row " ++ (decimal number ++ codes " range")
layer_text (file.RowPlace number) = codes "row " ++ (decimal number ++ codes " place")
layer_text file.Failed = codes "shelf fault"
layer_text file.Memory = codes "memory"

abbrev pub stack_text : StackFault → List ℕ
stack_text stack.Empty = codes "stack empty"
stack_text (stack.TooMany count) = codes "stack too many " ++ decimal count
stack_text (stack.SizeDiffers number) = codes "layer " ++ (decimal number ++ codes " size")
stack_text (stack.ParentDiffers number) = codes "layer " ++ (decimal number ++ codes " parent")
stack_text (stack.UuidTwice first second) = codes "uuid twice " ++ (decimal first ++ (codes " " ++ decimal second))

abbrev pub text_of : Refusal → List ℕ
text_of Usage = codes "usage"
text_of SourceFault = codes "source fault"
text_of SinkFault = codes "sink fault"
text_of ShelfFault = codes "shelf fault"
text_of Memory = codes "memory"
text_of TooLong = codes "too long"
text_of NoLayer = codes "no layer"
text_of (Layer number fault) = codes "layer " ++ (decimal number ++ (codes ": " ++ layer_text fault))
text_of (Stack fault) = stack_text fault
text_of DiskFault = codes "disk fault"
text_of NoSize = codes "no size"
text_of OtherSize = codes "other size"
text_of ImageExists = codes "image exists"
text_of NotWholeSectors = codes "not whole sectors"
text_of OutOfRange = codes "out of range"
text_of (Full rows sectors) = codes "full " ++ (decimal rows ++ (codes " " ++ decimal sectors))
text_of (Busy uuid) = codes "busy " ++ uuid_text uuid
text_of (NotLarger sectors) = codes "not larger " ++ decimal sectors
text_of TooManyLayers = codes "too many layers"
text_of UuidTwice = codes "uuid twice"

abbrev pub code_of : Refusal → ℕ
code_of Usage = 2
code_of (Layer number fault) = 3
code_of (Stack fault) = 3
code_of SourceFault = 4
code_of SinkFault = 4
code_of ShelfFault = 4
code_of DiskFault = 4
code_of Memory = 5
code_of TooLong = 6
code_of NoLayer = 6
code_of NoSize = 6
code_of OtherSize = 6
code_of ImageExists = 6
code_of NotWholeSectors = 6
code_of OutOfRange = 6
code_of (Full rows sectors) = 6
code_of (Busy uuid) = 6
code_of (NotLarger sectors) = 6
code_of TooManyLayers = 6
code_of UuidTwice = 6

-- the line that a refusal with that text prints
abbrev pub line_of : List ℕ → List ℕ
line_of text = codes "refused: " ++ (text ++ codes "\n")

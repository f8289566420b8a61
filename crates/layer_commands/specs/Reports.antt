-- The lines that commands print.
use Rattle.std.specs.Prelude.{ℕ, ◌+◌, if◌then◌else◌, List, [], ◌∷◌, ◌++◌, codes, decimal}
use Rattle.std.specs.List.{concat}
use Rattle.std.specs.Str.{bytes_eq}
use Rattle.hex.specs.Hex.{encode_lower}
use Rattle.lsmt_header.specs.declared.head.Head.{Head}
use Rattle.lsmt_header.specs.Blocks.{nil}
use Rattle.layer_commands.specs.Texts.{uuid_text}

abbrev pub parent_text : List ℕ → List ℕ
parent_text parent = if bytes_eq parent nil then codes "none" else uuid_text parent

-- a tag as hexadecimal, an empty one as a dash
abbrev pub tag_text : List ℕ → List ℕ
tag_text [] = codes "-"
tag_text (byte ∷ bytes) = encode_lower (byte ∷ bytes)

-- the first three lines of `info`, and the last four, where the tag prints so
abbrev pub named_lines : ℕ → Head → List ℕ
named_lines number head = concat (
    codes "layer " ∷ decimal number
    ∷ codes "\nuuid " ∷ uuid_text head.uuid
    ∷ codes "\nparent " ∷ parent_text head.parent
    ∷ codes "\n" ∷ [])

abbrev pub sized_lines : Head → List ℕ → List ℕ
sized_lines head tag = concat (
    codes "sectors " ∷ decimal head.sectors
    ∷ codes "\nrows " ∷ decimal head.rows
    ∷ codes "\nindex " ∷ decimal head.index_at
    ∷ codes "\ntag " ∷ tag
    ∷ codes "\n" ∷ [])

-- the seven lines of `info`
abbrev pub info_lines : ℕ → Head → List ℕ
info_lines number head = named_lines number head ++ sized_lines head (tag_text head.tag)

-- the line of `stack` for one layer
abbrev pub stack_line : ℕ → Head → List ℕ
stack_line number head = concat (
    decimal number ∷ codes " " ∷ uuid_text head.uuid
    ∷ codes " sectors " ∷ decimal head.sectors
    ∷ codes " rows " ∷ decimal head.rows
    ∷ codes "\n" ∷ [])

-- the lines of layers from that number on
abbrev pub stack_lines : ℕ → List Head → List ℕ
stack_lines number [] = []
stack_lines number (head ∷ heads) = stack_line number head ++ stack_lines (number + 1) heads

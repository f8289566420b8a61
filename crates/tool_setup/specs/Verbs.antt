-- The first word of each command.
use Rattle.std.specs.Prelude.{ℕ, if◌then◌else◌, List, Option, None, Some, codes}
use Rattle.std.specs.Str.{bytes_eq}
use Rattle.tool_setup.specs.declared.verb.Verb.{Verb}
use Rattle.tool_setup.specs.declared.verb.Verb.TheVariants.{Flatten, Info, Stack, Create, Grow, Read, Write, Zero, Commit, Sweep, Make, Export}

-- what a first word names
unfoldable pub verb_of : List ℕ → Option Verb
verb_of word =
    if bytes_eq word (codes "flatten") then Some Flatten
    else if bytes_eq word (codes "info") then Some Info
    else if bytes_eq word (codes "stack") then Some Stack
    else if bytes_eq word (codes "create") then Some Create
    else if bytes_eq word (codes "grow") then Some Grow
    else if bytes_eq word (codes "read") then Some Read
    else if bytes_eq word (codes "write") then Some Write
    else if bytes_eq word (codes "zero") then Some Zero
    else if bytes_eq word (codes "commit") then Some Commit
    else if bytes_eq word (codes "sweep") then Some Sweep
    else if bytes_eq word (codes "make") then Some Make
    else if bytes_eq word (codes "export") then Some Export
    else None

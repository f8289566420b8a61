-- A top, seen from above, and what a write and a zero make of it.
use Rattle.std.specs.Prelude.{ℕ, ◌+◌, List, [], ◌∷◌}
use Rattle.flat_image.specs.declared.act.Act.TheVariants.{Write, Zero, Grow}
use Rattle.flat_image.specs.History.{written, rows_taken, sectors_taken}
use Rattle.flat_image.specs.Left.{Stand}

-- after a write of these bytes from that sector on
abbrev pub with_write : ℕ → List ℕ → Stand → Stand
with_write at bytes s = record
    { cells = written s.cells (Write at bytes); rows = s.rows + rows_taken (Write at bytes); filled = s.filled + sectors_taken (Write at bytes) }

-- after a zero of so many sectors from that one on
abbrev pub with_zero : ℕ → ℕ → Stand → Stand
with_zero at count s = record { cells = written s.cells (Zero at count); rows = s.rows + rows_taken (Zero at count); filled = s.filled }

-- in an image of so many sectors, no fewer than before
abbrev pub with_grow : ℕ → Stand → Stand
with_grow sectors s = record s { cells = written s.cells (Grow sectors) }

abbrev pub unchanged : Stand → Stand
unchanged s = s

-- what a crash may leave after a call: the same as before, the top as it stands and nothing else, or both
abbrev pub as_before : Stand → List Stand → List Stand
as_before s may = may

abbrev pub just_this : Stand → List Stand → List Stand
just_this s may = s ∷ []

abbrev pub this_too : Stand → List Stand → List Stand
this_too s may = s ∷ may

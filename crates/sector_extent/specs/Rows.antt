-- The rows of an index that an extent takes.
use Rattle.std.specs.Prelude.{ℕ, ◌+◌, ◌/◌}

-- how many rows map so many sectors, each row at most 16,383: the quotient, rounded up
abbrev pub rows_for : ℕ → ℕ
rows_for count = (count + 16382) / 16383

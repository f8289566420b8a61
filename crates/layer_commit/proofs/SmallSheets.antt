-- A sheet of few cells has few rows.
use Rattle.std.proofs.Common.{ℕ, suc, ◌+◌, ◌^◌, ◌≤◌, Bool, true, false, cond, List, [], ◌∷◌, length, arith, ◌==◌, ◌&&◌}
use Rattle.std.specs.Bool.{beq}
use Rattle.flat_image.specs.Sheets.{Cell, Hole, Zero, Filled}
use Rattle.flat_image.specs.CanonicalFiles.{Stretch, with_stretch, stretches, canonical_rows}
use Rattle.flat_image.proofs.StretchCounts.{few-rows}

joins : (goes_on : Bool) (longer first next : Stretch) (rest : List Stretch) → length (cond goes_on (longer ∷ rest) (first ∷ next ∷ rest)) ≤ suc (suc (length rest))
joins true longer first next rest = omega arith
joins false longer first next rest = omega arith

with_one : (first : Stretch) (list : List Stretch) → length (with_stretch first list) ≤ suc (length list)
with_one first [] = omega arith
with_one first (next ∷ rest) = joins ((next.at == first.at + first.count) && beq next.zeroed first.zeroed) (record first { count = first.count + next.count }) first next rest

length-below : (at : ℕ) (cells : List Cell) → length (stretches at cells) ≤ length cells
length-below at [] = omega arith
length-below at (Hole ∷ cells) = omega (arith, length-below (at + 1) cells)
length-below at (Zero ∷ cells) = omega (arith, length-below (at + 1) cells, with_one (record { at = at; count = 1; zeroed = true }) (stretches (at + 1) cells))
length-below at (Filled sector ∷ cells) = omega (arith, length-below (at + 1) cells, with_one (record { at = at; count = 1; zeroed = false }) (stretches (at + 1) cells))

pub small-sheet : (sheet : List Cell) → length sheet ≤ 2 ^ 23 → length (canonical_rows sheet) ≤ 2 ^ 24
small-sheet sheet small = few-rows sheet (omega (arith, small)) (omega (arith, small, length-below 0 sheet))

-- What `make` tells of an image.
use Rattle.std.specs.Prelude.{ℕ, ◌%◌, ◌^◌, ltb, List, sum, sum_by, count_by}

-- the sectors with a byte other than zero, which are those whose bytes are not zero together
abbrev pub filled_in : List (List ℕ) → ℕ
filled_in image = count_by (λ sector. ltb 0 (sum sector)) image

-- the sum of all bytes, modulo 2^32
abbrev pub sum_in : List (List ℕ) → ℕ
sum_in image = sum_by sum image % 2 ^ 32

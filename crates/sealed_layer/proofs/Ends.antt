-- The ends of a layer's rows rise.
use Rattle.std.proofs.Common.{ℕ, zero, suc, ◌+◌, ◌^◌, ◌-◌, ◌<◌, ◌≤◌, min, List, [], ◌∷◌, length, take, arith}
use Rattle.std.proofs.Math.ListN.{get_or}
use Rattle.seg_mapping.specs.declared.Row.{Row}
use Rattle.flat_image.specs.RowCells.{AreLayerRows, end_of}

-- where a row ends, as 64 bits have it
abbrev pub end_in : Row → ℕ
end_in row = min (row.offset + row.count) (2 ^ 64 - 1)

low-end_in : (n index_at low : ℕ) (rows : List Row) (j : ℕ) (d : Row) → AreLayerRows n index_at low rows → j < length rows → min low (2 ^ 64 - 1) ≤ end_in (get_or rows j d)
low-end_in n index_at low [] j d are below = absurd (omega arith)
low-end_in n index_at low (row ∷ rows) zero d are below = let order = are.0.order in omega (arith, order)
low-end_in n index_at low (row ∷ rows) (suc j) d are below =
    let order = are.0.order in
    omega (arith, order, low-end_in n index_at (row.offset + row.count) rows j d are.1 (omega arith))

pub ends_rise : (n index_at low : ℕ) (rows : List Row) (i j : ℕ) (d : Row) → AreLayerRows n index_at low rows → i ≤ j → j < length rows → end_in (get_or rows i d) ≤ end_in (get_or rows j d)
ends_rise n index_at low [] i j d are le below = absurd (omega arith)
ends_rise n index_at low (row ∷ rows) zero zero d are le below = omega arith
ends_rise n index_at low (row ∷ rows) zero (suc j) d are le below = low-end_in n index_at (row.offset + row.count) rows j d are.1 (omega arith)
ends_rise n index_at low (row ∷ rows) (suc i) zero d are le below = absurd (omega arith)
ends_rise n index_at low (row ∷ rows) (suc i) (suc j) d are le below = ends_rise n index_at (row.offset + row.count) rows i j d are.1 (omega arith) (omega arith)

-- rows that each end before a sector end before it together
pub end_of-take : (low at : ℕ) (rows : List Row) (i : ℕ) → low ≤ at → i ≤ length rows → ((k : ℕ) (d : Row) → k < i → (get_or rows k d).offset + (get_or rows k d).count ≤ at)
    → end_of low (take i rows) ≤ at
end_of-take low at [] zero first few each = first
end_of-take low at [] (suc i) first few each = first
end_of-take low at (row ∷ rows) zero first few each = first
end_of-take low at (row ∷ rows) (suc i) first few each =
    end_of-take (row.offset + row.count) at rows i (each 0 row (omega arith)) (omega arith) (λ k d below. each (suc k) d (omega arith))

-- One look at a put, the newest first: what it says of the sectors from `from` on.
use Rattle.std.proofs.Common.{◌≡◌, ℕ, ◌+◌, ◌-◌, ◌<◌, ◌≤◌, ◌⊎◌, List, length, take, get_or, Some, refl, sym, ap, subst, ◌∙◌, inl, inr, min, arith}
use Rattle.std.proofs.lemmas.Bool.{cases_lt}
use Rattle.sector_extent.specs.Places.{IsIn}
use Rattle.seg_table.specs.declared.segment.Segment.{Segment}
use Rattle.seg_table.specs.declared.segment.What.{What}
use Rattle.seg_table.specs.declared.segment.What.TheVariants.{Place, Zero}
use Rattle.seg_table.specs.Cells.{onward, cell_in, IsEdge}
use Rattle.seg_table.proofs.CellLaws.{cell_in-hit, cell_in-passed}

-- the puts from `n` on say nothing of these sectors
abbrev pub AreOpen : List Segment → ℕ → ℕ → ℕ → Type 0
AreOpen xs from until n = (p : ℕ) → from ≤ p → p < until → cell_in xs p ≡ cell_in (take n xs) p

pub passed : (xs : List Segment) (i n from until now : ℕ) (s : Segment) → n ≡ i + 1 → i < length xs → get_or xs i s ≡ s
    → AreOpen xs from until n → now ≤ until → ((p : ℕ) → from ≤ p → p < now → IsIn s.extent p → ⊥) → AreOpen xs from now i
passed xs i n from until now s e l r h w out p low high =
    h p low (omega arith) ∙ ap (λ k. cell_in (take k xs) p) e ∙ cell_in-passed xs i s p l r (out p low high)

onward-onward : (w : What) (a b c : ℕ) → a ≤ b → b ≤ c → onward (onward w (b - a)) (c - b) ≡ onward w (c - a)
onward-onward (Place q) a b c h k = ap Place (omega arith)
onward-onward Zero a b c h k = refl

pub hit : (xs : List Segment) (i n from until now : ℕ) (s : Segment) → n ≡ i + 1 → i < length xs → get_or xs i s ≡ s
    → AreOpen xs from until n → now ≤ until → s.extent.at ≤ from → now ≤ s.extent.at + s.extent.count
    → (p : ℕ) → from ≤ p → p < now → cell_in xs p ≡ Some (onward (onward s.what (from - s.extent.at)) (p - from))
hit xs i n from until now s e l r h w begins ends p low high =
    h p low (omega arith) ∙ ap (λ k. cell_in (take k xs) p) e
    ∙ cell_in-hit xs i s p l r (record { from = omega arith; below = omega arith })
    ∙ ap (λ w. Some w) (sym (onward-onward s.what s.extent.at from p begins low))

-- the nearer of two ends is an edge where both are
pub edge_min : (xs : List Segment) (i end until edge near : ℕ) (s : Segment) → i < length xs → get_or xs i s ≡ s
    → (s.extent.at ≡ edge) ⊎ (s.extent.at + s.extent.count ≡ edge) → (until ≡ end) ⊎ IsEdge xs until → near ≡ min until edge
    → (near ≡ end) ⊎ IsEdge xs near
edge_min xs i end until edge near s l r is h e =
    let P : ℕ → Type 0 = λ q. (q ≡ end) ⊎ IsEdge xs q in
    elim (cases_lt until edge) [
      | inl lt ↦ let same : until ≡ near = omega (arith, e) in subst P same h
      | inr le ↦ let same : edge ≡ near = omega (arith, e) in subst P same (inr (i, s, l, r, is))
    ]

-- Lists of segments that are the cells of a range.
use Rattle.std.proofs.Common.{suc, ◌≡◌, ℕ, ◌^◌, ◌<◌, ◌≤◌, List, [], ◌∷◌, ◌++◌, Option, Some, None, IsNone, IfSome, IfNone, ◌↔◌, refl, sym, ap, ◌∙◌, inl, inr, arith}
use Rattle.std.specs.List.{Any}
use Rattle.std.specs.Option.{option_or}
use Rattle.std.proofs.lemmas.Bool.{cases_lt, cases_Bool, and_parts, leb-true, ltb-true, cond-false}
use Rattle.std.proofs.lemmas.Option.{same_Some, none-some}
use Rattle.sector_extent.specs.Places.{IsIn}
use Rattle.seg_table.specs.declared.segment.Segment.{Segment}
use Rattle.seg_table.specs.declared.segment.What.{What}
use Rattle.seg_table.specs.Cells.{what_at, has, said_by, cell_in}
use Rattle.seg_table.specs.Pieces.{AreCells, AreUnset, IsNext, end_of}
use Rattle.seg_table.proofs.CellLaws.{said_by_in, said_by_out, option_or-none}

-- none of the sectors up to a first end is set, and none from there up to a second
pub AreUnset-join : (cells : ℕ → Option What) (from mid until : ℕ) → AreUnset cells from mid → AreUnset cells mid until → AreUnset cells from until
AreUnset-join cells from mid until h k p low high = elim (cases_lt p mid) [ inl lt ↦ h p low lt | inr le ↦ k p le high ]

-- more sectors that are not set
pub AreCells-more : (cells : ℕ → Option What) (from mid until : ℕ) (segments : List Segment) → AreCells cells from mid segments → mid ≤ until → AreUnset cells mid until → AreCells cells from until segments
AreCells-more cells from mid until [] h le k = (omega (arith, h.0), AreUnset-join cells from mid until h.1 k)
AreCells-more cells from mid until (s ∷ segments) h le k = (h.0, AreCells-more cells (end_of s) mid until segments h.1 le k)

-- one segment more, as a walk gives it
pub AreCells-push : (cells : ℕ → Option What) (from mid : ℕ) (segments : List Segment) (s : Segment) → AreCells cells from mid segments → IsNext cells mid s → AreCells cells from (end_of s) (segments ++ s ∷ [])
AreCells-push cells from mid [] s h n = (
  record { begins = omega (arith, h.0, n.begins); before = AreUnset-join cells from mid s.extent.at h.1 n.before; says = n.says; sound = n.sound },
  (omega arith, λ p low high. absurd (omega arith)),
)
AreCells-push cells from mid (x ∷ segments) s h n = (h.0, AreCells-push cells (end_of x) mid segments s h.1 n)

-- an answer of the next segment up to the greatest image is none exactly where no cell is set
pub none_set : (cells : ℕ → Option What) (from : ℕ) (r : Option Segment) → IfSome r (λ s. IsNext cells from s × (end_of s ≤ 2 ^ 31)) → IfNone r (AreUnset cells from (2 ^ 31))
    → ((p : ℕ) → 2 ^ 31 ≤ p → cells p ≡ None) → IsNone r ↔ ((p : ℕ) → from ≤ p → cells p ≡ None)
none_set cells from None h k out = (λ _ p low. elim (cases_lt p (2 ^ 31)) [ inl lt ↦ k p low lt | inr le ↦ out p le ], λ _. refl)
none_set cells from (Some s) h k out = (
  λ e. absurd (cc),
  λ unset. let none : cells s.extent.at ≡ None = unset s.extent.at h.0.begins in
      let some = h.0.says s.extent.at (record { from = omega arith; below = omega (arith, h.0.sound.some) }) in absurd (cc),
)

-- the segments say nothing of a sector before the range
pub AreCells-before : (cells : ℕ → Option What) (from until : ℕ) (segments : List Segment) → AreCells cells from until segments → (p : ℕ) → p < from → cell_in segments p ≡ None
AreCells-before cells from until [] h p low = refl
AreCells-before cells from until (s ∷ segments) h p low =
    let first = h.0.begins in
    ap (λ o. option_or o (said_by s p)) (AreCells-before cells (end_of s) until segments h.1 p (omega arith)) ∙ said_by_out s p (λ i. let a = i.from in absurd (omega arith))

-- of each sector of the range they say what its cell has; so two lists that are the cells of one range say the same
pub AreCells-same : (cells : ℕ → Option What) (from until : ℕ) (segments : List Segment) → AreCells cells from until segments → (p : ℕ) → from ≤ p → p < until → cell_in segments p ≡ cells p
AreCells-same cells from until [] h p low high = sym (h.1 p low high)
AreCells-same cells from until (s ∷ segments) h p low high = elim (cases_lt p (end_of s)) [
  | inl under ↦ ap (λ o. option_or o (said_by s p)) (AreCells-before cells (end_of s) until segments h.1 p under) ∙ elim (cases_lt p s.extent.at) [
    | inl before ↦ said_by_out s p (λ i. let a = i.from in absurd (omega arith)) ∙ sym (h.0.before p low before)
    | inr after ↦ let i : IsIn s.extent p = record { from = after; below = under } in said_by_in s p i ∙ sym (h.0.says p i)
  ]
  | inr past ↦ ap (λ o. option_or (cell_in segments p) o) (said_by_out s p (λ i. let b = i.below in absurd (omega arith)))
      ∙ sym (option_or-none (cell_in segments p)) ∙ AreCells-same cells (end_of s) until segments h.1 p past high
]

-- one of the segments has the sector, and says this of it
abbrev pub IsSaid : List Segment → ℕ → What → Type 0
IsSaid segments p what = Any (λ s. IsIn s.extent p × (what_at s p ≡ what)) segments

IsSaid-cons : (s : Segment) (segments : List Segment) (p : ℕ) (what : What) → (cell_in segments p ≡ Some what → IsSaid segments p what)
    → (later : Option What) → cell_in segments p ≡ later → cell_in (s ∷ segments) p ≡ Some what → IsSaid (s ∷ segments) p what
IsSaid-cons s segments p what rest None n e = elim (cases_Bool (has s.extent p)) [
  | inl here ↦ let parts = and_parts _ _ here in
      let i : IsIn s.extent p = record { from = leb-true _ _ parts.0; below = ltb-true _ _ parts.1 } in
      let said : Some (what_at s p) ≡ Some what = sym (ap (λ o. option_or o (said_by s p)) n ∙ said_by_in s p i) ∙ e in
      (0, s, omega arith, refl, (i, same_Some _ _ said))
  | inr away ↦ let said : None ≡ Some what = sym (ap (λ o. option_or o (said_by s p)) n ∙ cond-false (has s.extent p) _ _ away) ∙ e in absurd (none-some what said)
]
IsSaid-cons s segments p what rest (Some w) n e =
    let said : Some w ≡ Some what = sym (ap (λ o. option_or o (said_by s p)) n) ∙ e in
    let there = rest (n ∙ said) in
    (suc there.0, there.1, omega (arith, there.2), there.3, there.4)

-- a sector of which the segments say something is in one of them
pub cell_in-some : (segments : List Segment) (p : ℕ) (what : What) → cell_in segments p ≡ Some what → IsSaid segments p what
cell_in-some [] p what e = absurd (none-some what e)
cell_in-some (s ∷ segments) p what e = IsSaid-cons s segments p what (cell_in-some segments p what) (cell_in segments p) refl e

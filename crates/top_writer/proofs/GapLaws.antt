-- Gaps, one behind the other.
use Rattle.std.proofs.Common.{◌≡◌, ℕ, ◌+◌, ◌-◌, ◌<◌, ◌≤◌, ◌⊎◌, List, [], ◌∷◌, ◌++◌, ap, ◌∙◌, arith, inl, inr, append_assoc}
use Rattle.std.proofs.lemmas.Bool.Decides.{leb_tells}
use Rattle.sector_extent.specs.declared.extent.Extent.{Extent}
use Rattle.sector_extent.specs.Places.{IsIn}
use Rattle.top_writer.specs.Gaps.{AreGaps, AddsGaps}

gaps_order : (hole : ℕ → Type 0) (from until : ℕ) (gaps : List Extent) → AreGaps hole from until gaps → from ≤ until
gaps_order hole from until [] are = are.0
gaps_order hole from until (gap ∷ gaps) are = omega (arith, are.0.begins, are.0.ends)

-- sectors that are no holes behind them
pub gaps_more : (hole : ℕ → Type 0) (from mid until : ℕ) (gaps : List Extent) → mid ≤ until → ((i : ℕ) → mid ≤ i → i < until → ¬ hole i)
    → AreGaps hole from mid gaps → AreGaps hole from until gaps
gaps_more hole from mid until [] le none are = (
  omega (arith, are.0, le),
  λ i low high. elim (leb_tells mid i) [
    | inl e ↦ none i e.1 high
    | inr e ↦ are.1 i low e.1
  ],
)
gaps_more hole from mid until (gap ∷ gaps) le none are = (
  record {
    begins = are.0.begins;
    before = are.0.before;
    some = are.0.some;
    holes = are.0.holes;
    ends = omega (arith, are.0.ends, le);
    whole = λ short. elim (leb_tells mid (gap.at + gap.count)) [
      | inl e ↦ none (gap.at + gap.count) e.1 short
      | inr e ↦ are.0.whole e.1
    ];
  },
  gaps_more hole (gap.at + gap.count) mid until gaps le none are.1,
)

-- a gap behind them
pub gaps_push : (hole : ℕ → Type 0) (from mid : ℕ) (gaps : List Extent) (gap : Extent) → gap.at ≡ mid → 0 < gap.count → ((i : ℕ) → IsIn gap i → hole i)
    → (mid ≡ from) ⊎ ¬ hole (mid - 1)
    → AreGaps hole from mid gaps → AreGaps hole from (mid + gap.count) (gaps ++ gap ∷ [])
gaps_push hole from mid [] gap at some holes apart are = (
  record {
    begins = omega (arith, are.0, at);
    before = λ i low high. are.1 i low (omega (arith, high, at));
    some = some;
    holes = holes;
    ends = omega (arith, at);
    whole = λ short. absurd (omega (arith, short, at));
  },
  (omega (arith, at), λ i low high. absurd (omega (arith, low, high, at))),
)
gaps_push hole from mid (first ∷ gaps) gap at some holes apart are =
    let begins = are.0.begins in
    let ends = are.0.ends in
    let first_some = are.0.some in
    let not_before : ¬ hole (mid - 1) = elim apart [
      | inl e ↦ absurd (omega (arith, e, begins, ends, first_some))
      | inr h ↦ h
    ] in (
      record {
        begins = begins;
        before = are.0.before;
        some = first_some;
        holes = are.0.holes;
        ends = omega (arith, ends);
        whole = λ short. elim (leb_tells mid (first.at + first.count)) [
          | inl e ↦ absurd (not_before (are.0.holes (mid - 1) (record { from = omega (arith, e.1, ends, first_some); below = omega (arith, e.1, ends, first_some) })))
          | inr e ↦ are.0.whole e.1
        ];
      },
      gaps_push hole (first.at + first.count) mid gaps gap at some holes (inr not_before) are.1,
    )

pub adds_more : (hole : ℕ → Type 0) (from mid until : ℕ) (old new : List Extent) → mid ≤ until → ((i : ℕ) → mid ≤ i → i < until → ¬ hole i)
    → AddsGaps hole from mid old new → AddsGaps hole from until old new
adds_more hole from mid until old new le none adds = record { added = adds.added; behind = adds.behind; gaps = gaps_more hole from mid until adds.added le none adds.gaps }

pub adds_push : (hole : ℕ → Type 0) (from mid : ℕ) (old now new : List Extent) (gap : Extent) → gap.at ≡ mid → 0 < gap.count → ((i : ℕ) → IsIn gap i → hole i)
    → (mid ≡ from) ⊎ ¬ hole (mid - 1) → new ≡ now ++ gap ∷ []
    → AddsGaps hole from mid old now → AddsGaps hole from (mid + gap.count) old new
adds_push hole from mid old now new gap at some holes apart is adds = record {
  added = adds.added ++ gap ∷ [];
  behind = is ∙ ap (λ (xs : List Extent). xs ++ gap ∷ []) adds.behind ∙ append_assoc old adds.added (gap ∷ []);
  gaps = gaps_push hole from mid adds.added gap at some holes apart adds.gaps;
}

-- gaps of what is the same within the range
pub gaps_same : (hole other : ℕ → Type 0) (from until : ℕ) (gaps : List Extent)
    → ((i : ℕ) → from ≤ i → i < until → hole i → other i) → ((i : ℕ) → from ≤ i → i < until → other i → hole i)
    → AreGaps hole from until gaps → AreGaps other from until gaps
gaps_same hole other from until [] there back are = (are.0, λ i low high is. are.1 i low high (back i low high is))
gaps_same hole other from until (gap ∷ gaps) there back are =
    let begins = are.0.begins in
    let ends = are.0.ends in (
      record {
        begins = begins;
        before = λ i low high is. are.0.before i low high (back i low (omega (arith, high, ends)) is);
        some = are.0.some;
        holes = λ i inside. there i (omega (arith, inside.from, begins)) (omega (arith, inside.below, ends)) (are.0.holes i inside);
        ends = ends;
        whole = λ short is. are.0.whole short (back (gap.at + gap.count) (omega (arith, begins)) short is);
      },
      gaps_same hole other (gap.at + gap.count) until gaps
          (λ i low high is. there i (omega (arith, low, begins)) high is) (λ i low high is. back i (omega (arith, low, begins)) high is) are.1,
    )

-- Where segments begin or end, with one segment more.
use Rattle.std.proofs.Common.{◌≡◌, ◌⊎◌, inl, inr, ℕ, zero, suc, ◌+◌, ◌-◌, ◌^◌, ◌<◌, ◌≤◌, List, [], ◌∷◌, ◌++◌, length, sym, subst, arith}
use Rattle.std.specs.Prelude.{Any}
use Rattle.std.proofs.Math.ListN.{get_or}
use Rattle.std.proofs.lemmas.List.{get_or_default}
use Rattle.std.proofs.lemmas.Bool.{cases_lt}
use Rattle.merged_index.specs.declared.segment.Segment.{Segment}
use Rattle.merged_index.specs.declared.piece.PieceWhat.{PieceWhat}
use Rattle.merged_index.specs.Cells.{IsSegmentEdge}
use Rattle.merged_index.specs.Segments.{IsKeptEdge}

pub any-one : {X : Type 0} (P : X → Type 0) (y : X) → Any P (y ∷ []) → P y
any-one P y (zero, x, below, at, p) = subst P (sym at) p
any-one P y (suc k, x, below, at, p) = absurd (omega arith)

pub any-cases : {X : Type 0} (P : X → Type 0) (xs : List X) (y : X) → Any P (xs ++ y ∷ []) → Any P xs ⊎ P y
any-cases P [] y any = inr (any-one P y any)
any-cases P (z ∷ xs) y (zero, x, below, at, p) = inl (0, x, omega arith, at, p)
any-cases P (z ∷ xs) y (suc k, x, below, at, p) = elim (any-cases P xs y (k, x, omega arith, at, p)) [
  | inl old ↦ inl (suc old.0, old.1, omega (arith, old.2), old.3, old.4)
  | inr new ↦ inr new
]

-- an edge of a part that was kept, painted under segments that have nothing there and end or begin beside it
pub under : (cells : ℕ → PieceWhat) (Lower Upper : ℕ → Type 0) (hole : PieceWhat) (from until p : ℕ)
    → ((q : ℕ) → from ≤ q → q < until → cells q ≡ hole) → (from ≡ 0) ⊎ Upper from → (until ≡ 2 ^ 31) ⊎ Upper until
    → IsKeptEdge Lower from until p → (Lower p × (cells (p - 1) ≡ hole)) ⊎ Upper p
under cells Lower Upper hole from until p holes begins ends kept = at_edge kept.is
  where
    after : from ≤ p
    after = kept.after

    lower_edge : (from ≡ 0) ⊎ Upper from → Lower p → (Lower p × (cells (p - 1) ≡ hole)) ⊎ Upper p
    lower_edge (inl first) edge = inl (edge, holes (p - 1) (omega (arith, first)) (omega (arith, kept.before, kept.some)))
    lower_edge (inr up) edge = elim (cases_lt from p) [
      | inl more ↦ inl (edge, holes (p - 1) (omega arith) (omega (arith, kept.before, kept.some)))
      | inr less ↦ inr (subst Upper (let e : from ≡ p = omega (arith, after) in e) up)
    ]

    cut_first : (from ≡ 0) ⊎ Upper from → (p ≡ from) → 0 < from → (Lower p × (cells (p - 1) ≡ hole)) ⊎ Upper p
    cut_first (inl first) same some = absurd (omega arith)
    cut_first (inr up) same some = inr (subst Upper (sym same) up)

    cut_last : (until ≡ 2 ^ 31) ⊎ Upper until → (p ≡ until) → until < 2 ^ 31 → (Lower p × (cells (p - 1) ≡ hole)) ⊎ Upper p
    cut_last (inl last) same less = absurd (omega arith)
    cut_last (inr up) same less = inr (subst Upper (sym same) up)

    at_edge : Lower p ⊎ (((p ≡ from) × (0 < from)) ⊎ ((p ≡ until) × (until < 2 ^ 31))) → (Lower p × (cells (p - 1) ≡ hole)) ⊎ Upper p
    at_edge (inl edge) = lower_edge begins edge
    at_edge (inr (inl cut)) = cut_first begins cut.0 cut.1
    at_edge (inr (inr cut)) = cut_last ends cut.0 cut.1

-- an edge of a part of one of the segments
pub widened : (ss : List Segment) (i : ℕ) (d : Segment) (from until p : ℕ) → i < length ss → IsKeptEdge (IsSegmentEdge (get_or ss i d ∷ [])) from until p
    → IsKeptEdge (IsSegmentEdge ss) from until p
widened ss i d from until p below kept =
    let s : Segment = get_or ss i d in
    record {
      after = kept.after;
      before = kept.before;
      some = kept.some;
      is = elim kept.is [
        | inl edge ↦ inl (i, s, below, get_or_default ss i s d below, any-one (λ (t : Segment). (t.at ≡ p) ⊎ (t.at + t.count ≡ p)) s edge)
        | inr cut ↦ inr cut
      ];
    }

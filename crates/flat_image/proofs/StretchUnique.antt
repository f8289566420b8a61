-- The stretches of a sheet are its longest ones, and no other list of stretches is.
use Rattle.std.proofs.Common.{◌≡◌, ℕ, zero, suc, ◌+◌, ◌≤◌, ◌==◌, Bool, true, false, cond, List, [], ◌∷◌, ◌++◌, length, drop, refl, sym, ap, ◌∙◌, subst, arith}
use Rattle.std.specs.Bool.{beq}
use Rattle.std.specs.Prelude.{All}
use Rattle.std.proofs.lemmas.Bool.{eqb-true}
use Rattle.std.proofs.lemmas.List.Elements.{All-head, All-tail}
use Rattle.flat_image.specs.Sheets.{Cell, Hole, Zero, Filled}
use Rattle.flat_image.specs.CanonicalFiles.{Stretch, with_stretch, stretches}
use Rattle.flat_image.specs.Base.{holes}
use Rattle.flat_image.specs.Stretches.{IsOf, Begins, AreStretches, EndsBefore, AreLongest}
use Rattle.flat_image.specs.CanonicalLaws.{StretchesAreLongest}
use Rattle.flat_image.proofs.StretchLaws.{and_true, same_bool, are-stretches}
use Rattle.flat_image.proofs.CanonicalRows.{begins-length}
use Rattle.flat_image.proofs.StretchCounts.{goes_on, goes_on-is, with-joined, with-apart}

-- what ends where another does, and is of its kind, is gone on by what that is
ends-same : (first other : Stretch) (rest : List Stretch) → other.at + other.count ≡ first.at + first.count → other.zeroed ≡ first.zeroed → EndsBefore first rest → EndsBefore other rest
ends-same first other [] place same ends = tt
ends-same first other (next ∷ rest) place same ends = λ there kind. ends (there ∙ place) (kind ∙ same)

ends-next : (first next : Stretch) (rest : List Stretch) → goes_on first next ≡ false → EndsBefore first (next ∷ rest)
ends-next first next rest is = λ place same. absurd (let e : true ≡ false = sym (goes_on-is first next place same) ∙ is in cc)

pub longest-with : (first : Stretch) (list : List Stretch) → AreLongest list → AreLongest (with_stretch first list)
longest-with first [] longest = (tt, tt)
longest-with first (next ∷ rest) longest = by_cases (goes_on first next) refl
  where
    by_cases : (b : Bool) → goes_on first next ≡ b → AreLongest (cond b (record first { count = first.count + next.count } ∷ rest) (first ∷ next ∷ rest))
    by_cases true is =
        let tests = and_true (next.at == first.at + first.count) (beq next.zeroed first.zeroed) is in
        let place : next.at ≡ first.at + first.count = eqb-true next.at (first.at + first.count) tests.0 in (
          ends-same next (record first { count = first.count + next.count }) rest (let e : first.at + (first.count + next.count) ≡ next.at + next.count = omega (arith, place) in e)
              (sym (same_bool next.zeroed first.zeroed tests.1)) longest.0,
          longest.1,
        )
    by_cases false is = (ends-next first next rest is, longest)

pub are-longest : (at : ℕ) (cells : List Cell) → AreLongest (stretches at cells)
are-longest at [] = tt
are-longest at (Hole ∷ cells) = are-longest (at + 1) cells
are-longest at (Zero ∷ cells) = longest-with (record { at = at; count = 1; zeroed = true }) (stretches (at + 1) cells) (are-longest (at + 1) cells)
are-longest at (Filled sector ∷ cells) = longest-with (record { at = at; count = 1; zeroed = false }) (stretches (at + 1) cells) (are-longest (at + 1) cells)

-- a cell is of one kind
one_kind : (c : Cell) (a b : Bool) → IsOf a c → IsOf b c → a ≡ b
one_kind Hole a b first second = absurd first
one_kind Zero a b first second = first ∙ sym second
one_kind (Filled sector) a b first second = first ∙ sym second

-- stretches of cells that begin with a hole are those of the cells behind it
behind_hole : (at : ℕ) (cells : List Cell) (stretch : Stretch) (gap : ℕ) (run behind : List Cell) → Hole ∷ cells ≡ holes gap ++ (run ++ behind) → stretch.at ≡ at + gap
    → length run ≡ stretch.count → 1 ≤ stretch.count → All (IsOf stretch.zeroed) run → (b : Begins (at + 1) cells stretch) × (b.behind ≡ behind)
behind_hole at cells stretch zero [] behind splits place count some kind = absurd (omega (arith, count, some))
behind_hole at cells stretch zero (c ∷ run) behind splits place count some kind =
    absurd (subst (IsOf stretch.zeroed) (let e : c ≡ Hole = cc in e) (All-head (IsOf stretch.zeroed) c run kind))
behind_hole at cells stretch (suc gap) run behind splits place count some kind = (
  record { gap = gap; run = run; behind = behind; splits = ap (drop {A = Cell} 1) splits; place = omega (arith, place); count = count; some = some; kind = kind },
  refl,
)

-- and of cells that begin with another, those go on by that one
abbrev OnlyAre : ℕ → List Cell → Type 0
OnlyAre at cells = (list : List Stretch) → AreStretches at cells list → AreLongest list → list ≡ stretches at cells

behind_cell : (at : ℕ) (c : Cell) (cells : List Cell) (zeroed : Bool) (stretch : Stretch) (rest : List Stretch) → IsOf zeroed c → OnlyAre (at + 1) cells → AreLongest (stretch ∷ rest)
    → (gap : ℕ) (run behind : List Cell) → c ∷ cells ≡ holes gap ++ (run ++ behind) → stretch.at ≡ at + gap → length run ≡ stretch.count → 1 ≤ stretch.count
    → All (IsOf stretch.zeroed) run → AreStretches (stretch.at + stretch.count) behind rest
    → stretch ∷ rest ≡ with_stretch (record { at = at; count = 1; zeroed = zeroed }) (stretches (at + 1) cells)
behind_cell at c cells zeroed stretch rest of only longest (suc gap) run behind splits place count some kind are =
    absurd (subst (IsOf zeroed) (let e : c ≡ Hole = cc in e) of)
behind_cell at c cells zeroed stretch rest of only longest zero [] behind splits place count some kind are = absurd (omega (arith, count, some))
behind_cell at c cells zeroed stretch rest of only longest zero (d ∷ []) behind splits place count some kind are =
    let first : Stretch = record { at = at; count = 1; zeroed = zeroed } in
    let same_cell : d ≡ c = cc in
    let same : stretch.zeroed ≡ zeroed = one_kind c stretch.zeroed zeroed (subst (IsOf stretch.zeroed) same_cell (All-head (IsOf stretch.zeroed) d [] kind)) of in
    let there : stretch.at ≡ at = omega (arith, place) in
    let single : stretch.count ≡ 1 = sym count in
    let is : stretch ≡ first = λ i. record { at = there i; count = single i; zeroed = same i } in
    let back : behind ≡ cells = sym (ap (drop {A = Cell} 1) splits) in
    let tail : rest ≡ stretches (at + 1) cells =
    only rest (subst (λ k. AreStretches k cells rest) (let e : stretch.at + stretch.count ≡ at + 1 = omega (arith, there, single) in e)
    (subst (λ (l : List Cell). AreStretches (stretch.at + stretch.count) l rest) back are)) longest.1 in
    ap (λ (s : Stretch). s ∷ rest) is
    ∙ (sym (with-apart first rest (subst (λ s. EndsBefore s rest) is longest.0)) ∙ ap (with_stretch first) tail)
behind_cell at c cells zeroed stretch rest of only longest zero (d ∷ e ∷ run) behind splits place count some kind are =
    let first : Stretch = record { at = at; count = 1; zeroed = zeroed } in
    let next : Stretch = record { at = at + 1; count = suc (length run); zeroed = zeroed } in
    let same_cell : d ≡ c = cc in
    let same : stretch.zeroed ≡ zeroed = one_kind c stretch.zeroed zeroed (subst (IsOf stretch.zeroed) same_cell (All-head (IsOf stretch.zeroed) d (e ∷ run) kind)) of in
    let there : stretch.at ≡ at = omega (arith, place) in
    let more : stretch.count ≡ 1 + suc (length run) = omega (arith, count) in
    let is : stretch ≡ record { at = at; count = 1 + suc (length run); zeroed = zeroed } = λ i. record { at = there i; count = more i; zeroed = same i } in
    let end : next.at + next.count ≡ stretch.at + stretch.count = omega (arith, there, more) in
    let begins : Begins (at + 1) cells next = record {
      gap = 0;
      run = e ∷ run;
      behind = behind;
      splits = ap (drop {A = Cell} 1) splits;
      place = omega arith;
      count = refl;
      some = omega arith;
      kind = subst (λ z. All (IsOf z) (e ∷ run)) same (All-tail (IsOf stretch.zeroed) d (e ∷ run) kind);
    } in
    let tail : next ∷ rest ≡ stretches (at + 1) cells =
    only (next ∷ rest) (begins, subst (λ k. AreStretches k behind rest) (sym end) are) (ends-same stretch next rest end (sym same) longest.0, longest.1) in
    ap (λ (s : Stretch). s ∷ rest) is
    ∙ (sym (with-joined first next rest refl refl) ∙ ap (with_stretch first) tail)

pub only-stretches : (at : ℕ) (cells : List Cell) → OnlyAre at cells
only-stretches at [] [] are longest = refl
only-stretches at [] (stretch ∷ rest) are longest = absurd (omega (arith, begins-length at [] stretch are.0, are.0.some))
only-stretches at (Hole ∷ cells) [] are longest = only-stretches (at + 1) cells [] (ap (drop {A = Cell} 1) are) tt
only-stretches at (Hole ∷ cells) (stretch ∷ rest) are longest =
    let b : Begins at (Hole ∷ cells) stretch = are.0 in
    let moved = behind_hole at cells stretch b.gap b.run b.behind b.splits b.place b.count b.some b.kind in
    only-stretches (at + 1) cells (stretch ∷ rest) (moved.0, subst (λ (l : List Cell). AreStretches (stretch.at + stretch.count) l rest) (sym moved.1) are.1) longest
only-stretches at (Zero ∷ cells) [] are longest = absurd (cc)
only-stretches at (Filled sector ∷ cells) [] are longest = absurd (cc)
only-stretches at (Zero ∷ cells) (stretch ∷ rest) are longest =
    let b : Begins at (Zero ∷ cells) stretch = are.0 in
    behind_cell at Zero cells true stretch rest refl (only-stretches (at + 1) cells) longest b.gap b.run b.behind b.splits b.place b.count b.some b.kind are.1
only-stretches at (Filled sector ∷ cells) (stretch ∷ rest) are longest =
    let b : Begins at (Filled sector ∷ cells) stretch = are.0 in
    behind_cell at (Filled sector) cells false stretch rest refl (only-stretches (at + 1) cells) longest b.gap b.run b.behind b.splits b.place b.count b.some b.kind are.1

pub stretches-longest : (sheet : List Cell) → StretchesAreLongest sheet
stretches-longest sheet = record { are = are-stretches 0 sheet; longest = are-longest 0 sheet; only = only-stretches 0 sheet }

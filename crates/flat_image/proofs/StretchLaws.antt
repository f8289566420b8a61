-- The stretches of a sheet have its cells.
use Rattle.std.proofs.Common.{◌≡◌, ℕ, zero, suc, ◌+◌, ◌-◌, ◌*◌, ◌≤◌, ◌==◌, ◌&&◌, Bool, true, false, cond, min, List, [], ◌∷◌, ◌++◌, length, take, drop, map, refl, sym, ap, ◌∙◌, subst, arith, append_assoc, length-take, length-drop, length-append}
use Rattle.std.specs.Bool.{beq}
use Rattle.std.specs.List.{flat_map, range_with_len}
use Rattle.std.specs.Prelude.{All}
use Rattle.std.proofs.lemmas.List.{take-append-drop, nil_from_length}
use Rattle.std.proofs.lemmas.List.Elements.{All-nil, All-cons, All-append, All-take, All-drop}
use Rattle.std.proofs.lemmas.Bool.{eqb-true}
use Rattle.sector_extent.specs.Rows.{rows_for}
use Rattle.flat_image.specs.Sheets.{Cell, Hole, Zero, Filled}
use Rattle.flat_image.specs.CanonicalFiles.{Stretch, with_stretch, stretches, part_of, parts_of}
use Rattle.flat_image.specs.Base.{holes}
use Rattle.flat_image.specs.Stretches.{IsOf, Begins, AreStretches}

-- a hole before the cells
pub are-hole : (at : ℕ) (cells : List Cell) (list : List Stretch) → AreStretches (at + 1) cells list → AreStretches at (Hole ∷ cells) list
are-hole at cells [] are = ap (λ (l : List Cell). Hole ∷ l) are
are-hole at cells (stretch ∷ rest) are =
    let b : Begins (at + 1) cells stretch = are.0 in (
      record {
        gap = suc b.gap;
        run = b.run;
        behind = b.behind;
        splits = ap (λ (l : List Cell). Hole ∷ l) b.splits;
        place = omega (arith, b.place);
        count = b.count;
        some = b.some;
        kind = b.kind;
      },
      are.1,
    )

pub are-holes : (at gap : ℕ) (cells : List Cell) (list : List Stretch) → AreStretches (at + gap) cells list → AreStretches at (holes gap ++ cells) list
are-holes at zero cells list are = subst (λ k. AreStretches k cells list) (let e : at + 0 ≡ at = omega arith in e) are
are-holes at (suc gap) cells list are =
    are-hole at (holes gap ++ cells) list
    (are-holes (at + 1) gap cells list (subst (λ k. AreStretches k cells list) (let e : at + suc gap ≡ at + 1 + gap = omega arith in e) are))

-- cells of one kind before the cells
abbrev begins_here : (first : Stretch) (run behind : List Cell) → length run ≡ first.count → 1 ≤ first.count → All (IsOf first.zeroed) run
    → Begins first.at (run ++ behind) first
begins_here first run behind count some kind =
    record { gap = 0; run = run; behind = behind; splits = refl; place = omega arith; count = count; some = some; kind = kind }

pub and_true : (a b : Bool) → (a && b) ≡ true → (a ≡ true) × (b ≡ true)
and_true true true e = (refl, refl)
and_true true false e = absurd (cc)
and_true false b e = absurd (cc)

pub same_bool : (a b : Bool) → beq a b ≡ true → a ≡ b
same_bool true true e = refl
same_bool true false e = absurd (cc)
same_bool false true e = absurd (cc)
same_bool false false e = refl

pub are-with_stretch : (first : Stretch) (run cells : List Cell) (list : List Stretch) → length run ≡ first.count → 1 ≤ first.count → All (IsOf first.zeroed) run
    → AreStretches (first.at + first.count) cells list → AreStretches first.at (run ++ cells) (with_stretch first list)
are-with_stretch first run cells [] count some kind are = (begins_here first run cells count some kind, are)
are-with_stretch first run cells (next ∷ rest) count some kind are = by_cases ((next.at == first.at + first.count) && beq next.zeroed first.zeroed) refl
  where
    by_cases : (b : Bool) → ((next.at == first.at + first.count) && beq next.zeroed first.zeroed) ≡ b
        → AreStretches first.at (run ++ cells) (cond b (record first { count = first.count + next.count } ∷ rest) (first ∷ next ∷ rest))
    by_cases false is = (begins_here first run cells count some kind, are)
    by_cases true is =
        let tests = and_true (next.at == first.at + first.count) (beq next.zeroed first.zeroed) is in
        let place : next.at ≡ first.at + first.count = eqb-true _ _ tests.0 in
        let same : next.zeroed ≡ first.zeroed = same_bool next.zeroed first.zeroed tests.1 in
        let b : Begins (first.at + first.count) cells next = are.0 in
        let none : b.gap ≡ 0 = omega (arith, place, b.place) in
        let joined : cells ≡ b.run ++ b.behind = b.splits ∙ ap (λ (k : ℕ). holes k ++ (b.run ++ b.behind)) none in (
          record {
            gap = 0;
            run = run ++ b.run;
            behind = b.behind;
            splits = ap (λ (l : List Cell). run ++ l) joined ∙ sym (append_assoc run b.run b.behind);
            place = omega arith;
            count = length-append run b.run ∙ (let e : length run + length b.run ≡ first.count + next.count = omega (arith, count, b.count) in e);
            some = omega (arith, some);
            kind = All-append (IsOf first.zeroed) run b.run kind (subst (λ z. All (IsOf z) b.run) same b.kind);
          },
          subst (λ k. AreStretches k b.behind rest) (let e : next.at + next.count ≡ first.at + (first.count + next.count) = omega (arith, place) in e) are.1,
        )

-- the stretches of cells have those cells
pub are-stretches : (at : ℕ) (cells : List Cell) → AreStretches at cells (stretches at cells)
are-stretches at [] = refl
are-stretches at (Hole ∷ cells) = are-hole at cells (stretches (at + 1) cells) (are-stretches (at + 1) cells)
are-stretches at (Zero ∷ cells) =
    are-with_stretch (record { at = at; count = 1; zeroed = true }) (Zero ∷ []) cells (stretches (at + 1) cells) refl (omega arith)
    (All-cons (IsOf true) Zero [] refl (All-nil (IsOf true))) (are-stretches (at + 1) cells)
are-stretches at (Filled sector ∷ cells) =
    are-with_stretch (record { at = at; count = 1; zeroed = false }) (Filled sector ∷ []) cells (stretches (at + 1) cells) refl (omega arith)
    (All-cons (IsOf false) (Filled sector) [] refl (All-nil (IsOf false))) (are-stretches (at + 1) cells)

-- the parts of a stretch from one on have its cells from there on
are-cut : (stretch : Stretch) (number k at : ℕ) (run behind : List Cell) (more : List Stretch) → k ≡ rows_for (stretch.count - 16383 * number)
    → at ≡ stretch.at + min (16383 * number) stretch.count → length run ≡ stretch.count - 16383 * number → All (IsOf stretch.zeroed) run
    → AreStretches (stretch.at + stretch.count) behind more
    → AreStretches at (run ++ behind) (map (part_of stretch) (range_with_len number k) ++ more)
are-cut stretch number zero at run behind more parts place count kind are =
    let end : stretch.count - 16383 * number ≡ 0 = omega (arith, parts) in
    let none : run ≡ [] = nil_from_length run (count ∙ end) in
    rw none (subst (λ j. AreStretches j behind more) (let e : stretch.at + stretch.count ≡ at = omega (arith, end, place) in e) are)
are-cut stretch number (suc k) at run behind more parts place count kind are =
    let left : ℕ = stretch.count - 16383 * number in
    let some : 1 ≤ left = omega (arith, parts) in
    let here : ℕ = min 16383 left in
    let front : List Cell = take here run in
    let rest : List Cell = drop here run in (
      record {
        gap = 0;
        run = front;
        behind = rest ++ behind;
        splits = ap (λ (l : List Cell). l ++ behind) (sym (take-append-drop here run)) ∙ append_assoc front rest behind;
        place = omega (arith, place, some);
        count = length-take here run ∙ (let e : min here (length run) ≡ here = omega (arith, count) in e);
        some = omega (arith, some);
        kind = All-take (IsOf stretch.zeroed) here run kind;
      },
      are-cut stretch (number + 1) k (stretch.at + 16383 * number + here) rest behind more (omega (arith, parts, some)) (omega (arith, some))
          (length-drop here run ∙ (let e : length run - here ≡ stretch.count - 16383 * (number + 1) = omega (arith, count) in e)) (All-drop (IsOf stretch.zeroed) here run kind) are,
    )

-- the parts of stretches have the cells that those have
pub are-parts : (at : ℕ) (cells : List Cell) (list : List Stretch) → AreStretches at cells list → AreStretches at cells (flat_map parts_of list)
are-parts at cells [] are = are
are-parts at cells (stretch ∷ rest) are =
    let b : Begins at cells stretch = are.0 in
    subst (λ (l : List Cell). AreStretches at l (parts_of stretch ++ flat_map parts_of rest)) (sym b.splits)
    (are-holes at b.gap (b.run ++ b.behind) (parts_of stretch ++ flat_map parts_of rest)
    (are-cut stretch 0 (rows_for stretch.count) (at + b.gap) b.run b.behind (flat_map parts_of rest) (ap rows_for (let e : stretch.count ≡ stretch.count - 16383 * 0 = omega arith in e))
    (omega (arith, b.place)) (omega (arith, b.count)) b.kind
    (are-parts (stretch.at + stretch.count) b.behind rest are.1)))

-- and each is short enough for a row
abbrev pub IsShort : Stretch → Type 0
IsShort stretch = stretch.count ≤ 16383

short_range : (stretch : Stretch) (number k : ℕ) → All IsShort (map (part_of stretch) (range_with_len number k))
short_range stretch number zero = All-nil IsShort
short_range stretch number (suc k) =
    All-cons IsShort (part_of stretch number) (map (part_of stretch) (range_with_len (number + 1) k)) (omega arith) (short_range stretch (number + 1) k)

pub short-parts : (list : List Stretch) → All IsShort (flat_map parts_of list)
short-parts [] = All-nil IsShort
short-parts (stretch ∷ rest) = All-append IsShort (parts_of stretch) (flat_map parts_of rest) (short_range stretch 0 (rows_for stretch.count)) (short-parts rest)

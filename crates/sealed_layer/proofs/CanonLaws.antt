-- The rows of a stretch, one after another, and what a stretch more changes.
use Rattle.std.proofs.Common.{◌≡◌, ℕ, zero, suc, ◌+◌, ◌-◌, ◌*◌, ◌≤◌, Bool, true, false, cond, min, List, [], ◌∷◌, ◌++◌, map, length, refl, sym, ap, ◌∙◌, arith, append-nil, append_assoc}
use Rattle.std.specs.Prelude.{Option, Some, None}
use Rattle.std.specs.List.{range_with_len, flat_map}
use Rattle.std.proofs.lemmas.List.FromFn.{map-range_with_len_more, length-map-range_with_len}
use Rattle.seg_mapping.specs.declared.Row.{Row}
use Rattle.flat_image.specs.CanonicalFiles.{Stretch, joined, part_of, parts_of, rows_from}
use Rattle.flat_image.specs.Stretches.{EndsBefore}
use Rattle.flat_image.proofs.CanonicalRows.{row_by, next_place, cond_below, length-rows_from}
use Rattle.flat_image.proofs.JoinedStretches.{joined-on, joined-apart, filled_in, filled-parts, rows_from-append}
use Rattle.sealed_layer.specs.Canon.{CanonState, opened, rows_for_all, rows_ahead}

-- the first so many parts of a stretch
abbrev pub parts_to : Stretch → ℕ → List Stretch
parts_to stretch number = map (part_of stretch) (range_with_len 0 number)

filled_in-append : (xs ys : List Stretch) → filled_in (xs ++ ys) ≡ filled_in xs + filled_in ys
filled_in-append [] ys = omega arith
filled_in-append (x ∷ xs) ys = omega (arith, filled_in-append xs ys)

cond_add : (zeroed : Bool) (a b c : ℕ) → a + b ≡ c → cond zeroed 0 a + cond zeroed 0 b ≡ cond zeroed 0 c
cond_add true a b c e = omega arith
cond_add false a b c e = e

cond_nothing : (zeroed : Bool) → cond {A = ℕ} zeroed 0 0 ≡ 0
cond_nothing true = refl
cond_nothing false = refl

pub filled_to : (stretch : Stretch) (number : ℕ) → filled_in (parts_to stretch number) ≡ cond stretch.zeroed 0 (min (16383 * number) stretch.count)
filled_to stretch zero = sym (ap (λ (k : ℕ). cond stretch.zeroed 0 k) (let e : min (16383 * 0) stretch.count ≡ 0 = omega arith in e) ∙ cond_nothing stretch.zeroed)
filled_to stretch (suc number) =
    let more : parts_to stretch (number + 1) ≡ parts_to stretch number ++ part_of stretch number ∷ [] = map-range_with_len_more (part_of stretch) 0 number number (omega arith) in
    let next : suc number ≡ number + 1 = omega arith in
    ap (λ (k : ℕ). filled_in (parts_to stretch k)) next
    ∙ ap filled_in more
    ∙ filled_in-append (parts_to stretch number) (part_of stretch number ∷ [])
    ∙ (let e : filled_in (parts_to stretch number) + (cond stretch.zeroed 0 (min 16383 (stretch.count - 16383 * number)) + 0)
    ≡ cond stretch.zeroed 0 (min (16383 * number) stretch.count) + cond stretch.zeroed 0 (min 16383 (stretch.count - 16383 * number)) = omega (arith, filled_to stretch number) in e)
    ∙ cond_add stretch.zeroed (min (16383 * number) stretch.count) (min 16383 (stretch.count - 16383 * number)) (min (16383 * suc number) stretch.count) (omega arith)

-- the rows of the parts so far, and one more
pub rows_more : (stretch : Stretch) (place number : ℕ)
    → rows_from place (parts_to stretch (number + 1)) ≡ rows_from place (parts_to stretch number) ++ row_by (part_of stretch number) (place + filled_in (parts_to stretch number)) ∷ []
rows_more stretch place number =
    ap (rows_from place) (map-range_with_len_more (part_of stretch) 0 number number (omega arith))
    ∙ rows_from-append place (parts_to stretch number) (part_of stretch number ∷ [])

-- a stretch that is fixed
pub fixed : (closed : List Row) (place : ℕ) (stretch next : Stretch) (more : List Stretch) → EndsBefore stretch (next ∷ [])
    → (closed ++ rows_from place (parts_of stretch)) ++ rows_for_all (cond stretch.zeroed place (place + stretch.count)) (next ∷ more)
    ≡ closed ++ rows_for_all place (stretch ∷ next ∷ more)
fixed closed place stretch next more ends =
    let behind : ℕ = cond stretch.zeroed place (place + stretch.count) in
    append_assoc closed (rows_from place (parts_of stretch)) (rows_for_all behind (next ∷ more))
    ∙ ap (λ (rows : List Row). closed ++ rows)
    (ap (λ (k : ℕ). rows_from place (parts_of stretch) ++ rows_for_all k (next ∷ more)) (next_place stretch.zeroed place stretch.count ∙ ap (λ (k : ℕ). place + k) (sym (filled-parts stretch)))
    ∙ sym (rows_from-append place (parts_of stretch) (flat_map parts_of (joined (next ∷ more))))
    ∙ ap (λ (list : List Stretch). rows_from place (flat_map parts_of list)) (sym (joined-apart stretch next more ends)))

-- the rows of one stretch
pub last_rows : (closed : List Row) (place : ℕ) (stretch : Stretch) → closed ++ rows_for_all place (stretch ∷ []) ≡ closed ++ rows_from place (parts_of stretch)
last_rows closed place stretch = ap (λ (list : List Stretch). closed ++ rows_from place list) (append-nil (parts_of stretch))

pub filled_more : (stretch : Stretch) (number : ℕ)
    → filled_in (parts_to stretch (number + 1)) ≡ filled_in (parts_to stretch number) + cond stretch.zeroed 0 (min 16383 (stretch.count - 16383 * number))
filled_more stretch number =
    ap filled_in (map-range_with_len_more (part_of stretch) 0 number number (omega arith))
    ∙ filled_in-append (parts_to stretch number) (part_of stretch number ∷ [])
    ∙ (let e : filled_in (parts_to stretch number) + (cond stretch.zeroed 0 (min 16383 (stretch.count - 16383 * number)) + 0)
    ≡ filled_in (parts_to stretch number) + cond stretch.zeroed 0 (min 16383 (stretch.count - 16383 * number)) = omega arith in e)

pub filled_below : (stretch : Stretch) (number : ℕ) → filled_in (parts_to stretch number) ≤ stretch.count
filled_below stretch number = omega (arith, filled_to stretch number, cond_below stretch.zeroed (min (16383 * number) stretch.count))

pub length-rows_to : (stretch : Stretch) (place number : ℕ) → length (rows_from place (parts_to stretch number)) ≡ number
length-rows_to stretch place number = length-rows_from place (parts_to stretch number) ∙ length-map-range_with_len (part_of stretch) 0 number

pub cond_not : (zeroed : Bool) (n : ℕ) → zeroed ≡ false → cond zeroed 0 n ≡ n
cond_not true n e = absurd (cc)
cond_not false n e = refl

pub cond_is : (zeroed : Bool) (n : ℕ) → zeroed ≡ true → cond zeroed 0 n ≡ 0
cond_is true n e = refl
cond_is false n e = absurd (cc)

-- a first stretch, one that goes on the last one, and one that does not
pub ahead_first : (v : CanonState) (closed : List Row) (next : Stretch) (more : List Stretch) → v.open_run ≡ None → closed ≡ v.closed
    → rows_ahead (record { closed = closed; place = v.place; open_run = Some next }) more ≡ rows_ahead v (next ∷ more)
unfolding rows_ahead
ahead_first v closed next more none same =
    ap (λ (rows : List Row). rows ++ rows_for_all v.place (next ∷ more)) same
    ∙ ap (λ (run : Option Stretch). v.closed ++ rows_for_all v.place (opened run (next ∷ more))) (sym none)

pub ahead_joined : (v : CanonState) (closed : List Row) (run next : Stretch) (more : List Stretch) → v.open_run ≡ Some run → closed ≡ v.closed
    → next.at ≡ run.at + run.count → next.zeroed ≡ run.zeroed
    → rows_ahead (record { closed = closed; place = v.place; open_run = Some (record run { count = run.count + next.count }) }) more ≡ rows_ahead v (next ∷ more)
unfolding rows_ahead
ahead_joined v closed run next more some same place kind =
    ap (λ (rows : List Row). rows ++ rows_for_all v.place (record run { count = run.count + next.count } ∷ more)) same
    ∙ ap (λ (list : List Stretch). v.closed ++ rows_from v.place (flat_map parts_of list)) (sym (joined-on run next more place kind))
    ∙ ap (λ (o : Option Stretch). v.closed ++ rows_for_all v.place (opened o (next ∷ more))) (sym some)

pub ahead_fixed : (v : CanonState) (closed : List Row) (place : ℕ) (run next : Stretch) (more : List Stretch) → v.open_run ≡ Some run
    → closed ≡ v.closed ++ rows_from v.place (parts_of run) → place ≡ cond run.zeroed v.place (v.place + run.count) → EndsBefore run (next ∷ [])
    → rows_ahead (record { closed = closed; place = place; open_run = Some next }) more ≡ rows_ahead v (next ∷ more)
unfolding rows_ahead
ahead_fixed v closed place run next more some rows_are place_is ends =
    ap (λ (rows : List Row). rows ++ rows_for_all place (next ∷ more)) rows_are
    ∙ ap (λ (k : ℕ). (v.closed ++ rows_from v.place (parts_of run)) ++ rows_for_all k (next ∷ more)) place_is
    ∙ fixed v.closed v.place run next more ends
    ∙ ap (λ (o : Option Stretch). v.closed ++ rows_for_all v.place (opened o (next ∷ more))) (sym some)

pub ahead_last : (v : CanonState) (run : Stretch) → v.open_run ≡ Some run → v.closed ++ rows_from v.place (parts_of run) ≡ rows_ahead v []
unfolding rows_ahead
ahead_last v run some = sym (last_rows v.closed v.place run) ∙ ap (λ (o : Option Stretch). v.closed ++ rows_for_all v.place (opened o [])) (sym some)

pub ahead_none : (v : CanonState) → v.open_run ≡ None → v.closed ≡ rows_ahead v []
unfolding rows_ahead
ahead_none v none = sym (append-nil v.closed) ∙ ap (λ (o : Option Stretch). v.closed ++ rows_for_all v.place (opened o [])) (sym none)

-- Painting a run of sectors, as bytes.
use Rattle.std.proofs.Common.{◌≡◌, ℕ, zero, suc, ◌+◌, ◌*◌, ◌<◌, ◌≤◌, List, [], ◌++◌, length, map, take, drop, refl, sym, ap, ◌∙◌, append_assoc, arith, length-append, length-drop}
use Rattle.std.proofs.Math.ListN.{replicate}
use Rattle.std.proofs.Math.Seq.{take-add, take-append_seam, drop-append_seam}
use Rattle.std.proofs.lemmas.List.{drop-drop, length-take-le, replicate-append-replicate, take_all}
use Rattle.std.specs.List.{range_with_len}
use Rattle.flat_image.specs.Sheets.{IsCell, Cell, Hole, Zero, Filled, zero_sector, painted, paint, bytes_of, image_in}
use Rattle.flat_image.specs.RowCells.{sector_at}

-- the bytes of n sectors from `at` on, painted with the cells of a function over what stands there
abbrev pub run : (ℕ → Cell) → ℕ → ℕ → List ℕ → List ℕ
run cell at zero old = []
run cell at (suc n) old = painted (take 512 old) (cell at) ++ run cell (at + 1) n (drop 512 old)

-- that is painting
pub bytes_of-paint : (cell : ℕ → Cell) (at n : ℕ) (old : List ℕ) → bytes_of (paint (image_in n old) (map cell (range_with_len at n))) ≡ run cell at n old
bytes_of-paint cell at zero old = refl
bytes_of-paint cell at (suc n) old = ap (λ (bytes : List ℕ). painted (take 512 old) (cell at) ++ bytes) (bytes_of-paint cell (at + 1) n (drop 512 old))

step_of : (m : ℕ) → 512 + 512 * m ≡ 512 * suc m
step_of m = omega arith

-- two runs side by side
pub run-split : (cell : ℕ → Cell) (at m n : ℕ) (old : List ℕ) → run cell at (m + n) old ≡ run cell at m old ++ run cell (at + m) n (drop (512 * m) old)
run-split cell at zero n old =
    let e : zero + n ≡ n = omega arith in let d : at + 0 ≡ at = omega arith in rw (e, d) refl
run-split cell at (suc m) n old =
    let e : suc m + n ≡ suc (m + n) = omega arith in
    let d : at + 1 + m ≡ at + suc m = omega arith in
    let again : run cell (at + 1) (m + n) (drop 512 old) ≡ run cell (at + 1) m (drop 512 old) ++ run cell (at + suc m) n (drop (512 * suc m) old) =
    run-split cell (at + 1) m n (drop 512 old)
    ∙ ap (λ (k : ℕ). run cell (at + 1) m (drop 512 old) ++ run cell k n (drop (512 * m) (drop 512 old))) d
    ∙ ap (λ (bytes : List ℕ). run cell (at + 1) m (drop 512 old) ++ run cell (at + suc m) n bytes) (drop-drop (512 * m) 512 old ∙ ap (λ (k : ℕ). drop k old) (step_of m)) in
    ap (λ (k : ℕ). run cell at k old) e
    ∙ ap (λ (bytes : List ℕ). painted (take 512 old) (cell at) ++ bytes) again
    ∙ sym (append_assoc (painted (take 512 old) (cell at)) (run cell (at + 1) m (drop 512 old)) (run cell (at + suc m) n (drop (512 * suc m) old)))

-- only the cells of the run count
pub run-same : (f g : ℕ → Cell) (at n : ℕ) (old : List ℕ) → ((k : ℕ) → at ≤ k → k < at + n → f k ≡ g k) → run f at n old ≡ run g at n old
run-same f g at zero old same = refl
run-same f g at (suc n) old same =
    ap (λ (cell : Cell). painted (take 512 old) cell ++ run f (at + 1) n (drop 512 old)) (same at (omega arith) (omega arith))
    ∙ ap (λ (bytes : List ℕ). painted (take 512 old) (g at) ++ bytes) (run-same f g (at + 1) n (drop 512 old) (λ k low high. same k (omega arith) (omega arith)))

-- under holes everything stays
pub run-holes : (f : ℕ → Cell) (at n : ℕ) (old : List ℕ) → ((k : ℕ) → at ≤ k → k < at + n → f k ≡ Hole) → run f at n old ≡ take (512 * n) old
run-holes f at zero old holes = refl
run-holes f at (suc n) old holes =
    ap (λ (cell : Cell). painted (take 512 old) cell ++ run f (at + 1) n (drop 512 old)) (holes at (omega arith) (omega arith))
    ∙ ap (λ (bytes : List ℕ). take 512 old ++ bytes) (run-holes f (at + 1) n (drop 512 old) (λ k low high. holes k (omega arith) (omega arith)))
    ∙ sym (take-add 512 (512 * n) old)
    ∙ ap (λ (k : ℕ). take k old) (step_of n)

-- under zeros there are zeros
pub run-zeros : (f : ℕ → Cell) (at n : ℕ) (old : List ℕ) → ((k : ℕ) → at ≤ k → k < at + n → f k ≡ Zero) → run f at n old ≡ replicate {A = ℕ} (512 * n) 0
unfolding zero_sector
run-zeros f at zero old zeros = refl
run-zeros f at (suc n) old zeros =
    let none : List ℕ = replicate {A = ℕ} 512 0 in
    ap (λ (cell : Cell). painted (take 512 old) cell ++ run f (at + 1) n (drop 512 old)) (zeros at (omega arith) (omega arith))
    ∙ ap (λ (bytes : List ℕ). none ++ bytes) (run-zeros f (at + 1) n (drop 512 old) (λ k low high. zeros k (omega arith) (omega arith)))
    ∙ replicate-append-replicate 512 (512 * n) 0
    ∙ ap (λ (k : ℕ). replicate {A = ℕ} k 0) (step_of n)

-- under sectors that follow one another in a file there are its bytes
pub run-filled : (f : ℕ → Cell) (file : List ℕ) (at place n : ℕ) (old : List ℕ)
    → ((k : ℕ) → k < n → f (at + k) ≡ Filled (sector_at file (place + k))) → run f at n old ≡ take (512 * n) (drop (512 * place) file)
run-filled f file at place zero old filled = refl
run-filled f file at place (suc n) old filled =
    let here : f at ≡ Filled (sector_at file place) = ap f (let e : at ≡ at + 0 = omega arith in e) ∙ filled 0 (omega arith) ∙ ap (λ (k : ℕ). Filled (sector_at file k)) (let e : place + 0 ≡ place = omega arith in e) in
    let more : (k : ℕ) → k < n → f (at + 1 + k) ≡ Filled (sector_at file (place + 1 + k)) =
    λ k below. ap f (let e : at + 1 + k ≡ at + (k + 1) = omega arith in e) ∙ filled (k + 1) (omega arith) ∙ ap (λ (j : ℕ). Filled (sector_at file j)) (let e : place + (k + 1) ≡ place + 1 + k = omega arith in e) in
    ap (λ (cell : Cell). painted (take 512 old) cell ++ run f (at + 1) n (drop 512 old)) here
    ∙ ap (λ (bytes : List ℕ). sector_at file place ++ bytes) (run-filled f file (at + 1) (place + 1) n (drop 512 old) more)
    ∙ ap (λ (bytes : List ℕ). take 512 (drop (512 * place) file) ++ take (512 * n) bytes) (ap (λ (k : ℕ). drop k file) (let e : 512 * (place + 1) ≡ 512 * place + 512 = omega arith in e) ∙ sym (drop-drop 512 (512 * place) file))
    ∙ sym (take-add 512 (512 * n) (drop (512 * place) file))
    ∙ ap (λ (k : ℕ). take k (drop (512 * place) file)) (step_of n)

-- a cell over a sector makes a sector
pub length-painted : (sector : List ℕ) (cell : Cell) → length sector ≡ 512 → IsCell cell → length (painted sector cell) ≡ 512
unfolding zero_sector
length-painted sector Hole size whole = size
length-painted sector Zero size whole = refl
length-painted sector (Filled new) size whole = whole

-- painting keeps the number of bytes
pub length-run : (f : ℕ → Cell) (at n : ℕ) (old : List ℕ) → ((k : ℕ) → IsCell (f k)) → 512 * n ≤ length old → length (run f at n old) ≡ 512 * n
length-run f at zero old whole long = refl
length-run f at (suc n) old whole long =
    omega (
      arith,
      length-append (painted (take 512 old) (f at)) (run f (at + 1) n (drop 512 old)),
      length-painted (take 512 old) (f at) (length-take-le 512 old (omega arith)) (whole at),
      length-run f (at + 1) n (drop 512 old) whole (omega (arith, length-drop 512 old)),
    )

-- painting one after another, where each place is painted by one of the two at most
pub run-run : (f g h : ℕ → Cell) (at n : ℕ) (old : List ℕ)
    → ((k : ℕ) (sector : List ℕ) → painted (painted sector (f k)) (g k) ≡ painted sector (h k))
    → ((k : ℕ) → IsCell (f k)) → 512 * n ≤ length old
    → run g at n (run f at n old) ≡ run h at n old
run-run f g h at zero old both whole long = refl
run-run f g h at (suc n) old both whole long =
    let here : List ℕ = painted (take 512 old) (f at) in
    let size : length here ≡ 512 = length-painted (take 512 old) (f at) (length-take-le 512 old (omega arith)) (whole at) in
    let more : List ℕ = run f (at + 1) n (drop 512 old) in
    let front : take 512 (here ++ more) ≡ here = ap (λ (k : ℕ). take k (here ++ more)) (sym size) ∙ take-append_seam here more in
    let back : drop 512 (here ++ more) ≡ more = ap (λ (k : ℕ). drop k (here ++ more)) (sym size) ∙ drop-append_seam here more in
    ap (λ (bytes : List ℕ). painted bytes (g at) ++ run g (at + 1) n (drop 512 (here ++ more))) front
    ∙ ap (λ (bytes : List ℕ). painted here (g at) ++ run g (at + 1) n bytes) back
    ∙ ap (λ (bytes : List ℕ). bytes ++ run g (at + 1) n more) (both at (take 512 old))
    ∙ ap (λ (bytes : List ℕ). painted (take 512 old) (h at) ++ bytes) (run-run f g h (at + 1) n (drop 512 old) both whole (omega (arith, length-drop 512 old)))

-- between holes only a window changes
pub run-window : (f : ℕ → Cell) (at a b d : ℕ) (old : List ℕ) → length old ≡ 512 * (a + (b + d))
    → ((k : ℕ) → at ≤ k → k < at + a → f k ≡ Hole) → ((k : ℕ) → at + (a + b) ≤ k → k < at + (a + b) + d → f k ≡ Hole)
    → run f at (a + (b + d)) old ≡ take (512 * a) old ++ (run f (at + a) b (drop (512 * a) old) ++ drop (512 * (a + b)) old)
run-window f at a b d old size before behind =
    let rest : List ℕ = drop (512 * a) old in
    let back : List ℕ = drop (512 * b) rest in
    let there : back ≡ drop (512 * (a + b)) old = drop-drop (512 * b) (512 * a) old ∙ ap (λ (k : ℕ). drop k old) (let e : 512 * a + 512 * b ≡ 512 * (a + b) = omega arith in e) in
    let long : length back ≤ 512 * d = omega (arith, length-drop (512 * b) rest, length-drop (512 * a) old) in
    let holes : (k : ℕ) → at + a + b ≤ k → k < at + a + b + d → f k ≡ Hole = λ k low high. behind k (omega arith) (omega arith) in
    run-split f at a (b + d) old
    ∙ ap (λ (bytes : List ℕ). bytes ++ run f (at + a) (b + d) rest) (run-holes f at a old before)
    ∙ ap (λ (bytes : List ℕ). take (512 * a) old ++ bytes)
    (run-split f (at + a) b d rest
    ∙ ap (λ (bytes : List ℕ). run f (at + a) b rest ++ bytes) (run-holes f (at + a + b) d back holes ∙ take_all (512 * d) back long ∙ there))

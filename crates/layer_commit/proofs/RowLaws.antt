-- Rows that are laid one after another.
use Rattle.std.proofs.Common.{◌≡◌, ℕ, ◌+◌, ◌*◌, ◌<◌, ◌≤◌, ◌⊎◌, List, [], ◌∷◌, ◌++◌, length, map, take, drop, refl, sym, ap, subst, ◌∙◌, arith, inl, inr, ⊎_elim, get_or, append-nil, append_assoc}
use Rattle.std.specs.List.{concat}
use Rattle.std.proofs.lemmas.List.{take-append-drop, length-take, take_more, drop_all}
use Rattle.seg_mapping.specs.declared.Row.{Row}
use Rattle.seg_mapping.specs.Rows.{spelling}
use Rattle.flat_image.proofs.CanonicalBytes.{length-spellings}
use Rattle.layer_commit.specs.Laying.{Lays}
use Rattle.layer_commit.proofs.LayLaws.{lays_apart, lays_joined, lays_nothing}

pub spelled_split : (xs ys : List Row) → concat (map spelling (xs ++ ys)) ≡ concat (map spelling xs) ++ concat (map spelling ys)
spelled_split [] ys = refl
spelled_split (row ∷ xs) ys =
    ap (λ (l : List ℕ). spelling row ++ l) (spelled_split xs ys) ∙ sym (append_assoc (spelling row) (concat (map spelling xs)) (concat (map spelling ys)))

-- the first so many rows are laid, and the others do not meet the window
pub rows_done : (from at k : ℕ) (rows : List Row) (a b : List ℕ) → k ≤ length rows → Lays from at (concat (map spelling (take k rows))) a b
    → (length rows ≤ k) ⊎ (from + length b ≤ at + 16 * k) → Lays from at (concat (map spelling rows)) a b
rows_done from at k rows a b fits laid out =
    let front : List ℕ = concat (map spelling (take k rows)) in
    let back : List ℕ = concat (map spelling (drop k rows)) in
    let front_long : length front ≡ 16 * k = length-spellings (take k rows) ∙ omega (arith, length-take k rows, fits) in
    let split : concat (map spelling rows) ≡ front ++ back = ap (λ (l : List Row). concat (map spelling l)) (sym (take-append-drop k rows)) ∙ spelled_split (take k rows) (drop k rows) in
    subst (λ (bytes : List ℕ). Lays from at bytes a b) (sym split)
    (lays_joined from at front back a b b laid (⊎_elim
    (λ none. subst (λ (l : List ℕ). Lays from (at + length front) l b b) (sym (ap (λ (l : List Row). concat (map spelling l)) (drop_all k rows none))) (lays_nothing from (at + length front) b))
    (λ apart. lays_apart from (at + length front) back b (inl (omega (arith, apart, front_long))))
    out))

-- rows before the window
pub rows_before_window : (from at k : ℕ) (rows : List Row) (old : List ℕ) → (k ≡ 0) ⊎ (at + 16 * k ≤ from) → Lays from at (concat (map spelling (take k rows))) old old
rows_before_window from at k rows old before = ⊎_elim
    (λ none. subst (λ (j : ℕ). Lays from at (concat (map spelling (take j rows))) old old) (sym none) (lays_nothing from at old))
    (λ early. lays_apart from at (concat (map spelling (take k rows))) old (inr (omega (arith, early, length-spellings (take k rows), length-take k rows))))
    before

-- one row more
pub rows_next : (from at k : ℕ) (rows : List Row) (row d : Row) (bytes a b c : List ℕ) → k < length rows → get_or rows k d ≡ row → bytes ≡ spelling row
    → Lays from at (concat (map spelling (take k rows))) a b → Lays from (at + 16 * k) bytes b c
    → Lays from at (concat (map spelling (take (k + 1) rows))) a c
rows_next from at k rows row d bytes a b c lt is spelled laid one =
    let front : List ℕ = concat (map spelling (take k rows)) in
    let front_long : length front ≡ 16 * k = length-spellings (take k rows) ∙ omega (arith, length-take k rows, lt) in
    let more : concat (map spelling (take (k + 1) rows)) ≡ front ++ bytes =
    ap (λ (l : List Row). concat (map spelling l)) (take_more rows k d lt ∙ ap (λ (r : Row). take k rows ++ r ∷ []) is)
    ∙ spelled_split (take k rows) (row ∷ [])
    ∙ ap (λ (l : List ℕ). front ++ l) (append-nil (spelling row) ∙ sym spelled) in
    subst (λ (l : List ℕ). Lays from at l a c) (sym more)
    (lays_joined from at front bytes a b c laid (subst (λ (j : ℕ). Lays from j bytes b c) (let e : at + 16 * k ≡ at + length front = omega (arith, front_long) in e) one))

-- Rows that a file spells, and pieces of it.
use Rattle.std.proofs.Common.{◌≡◌, ℕ, suc, ◌+◌, ◌-◌, ◌*◌, ◌≤◌, List, [], ◌∷◌, ◌++◌, length, take, drop, ap, subst, ◌∙◌, arith}
use Rattle.std.proofs.lemmas.List.{drop-drop, drop-take, take-take}
use Rattle.seg_mapping.specs.declared.Row.{Row}
use Rattle.seg_mapping.specs.Rows.{RowOf}
use Rattle.lsmt_header.specs.declared.head.Head.{Head}
use Rattle.flat_image.specs.RowCells.{AreSpelled}
use Rattle.flat_image.specs.LayerFiles.{LayerOf}

-- the index begins within the file
pub index_within : (file : List ℕ) (head : Head) (rows : List Row) → LayerOf file head rows → head.index_at ≤ length file
index_within file head rows layer = let end = layer.index.end in omega (arith, end)

-- rows that are spelled one part after another
pub spelled_joined : (file : List ℕ) (at : ℕ) (xs ys : List Row) → AreSpelled file at xs → AreSpelled file (at + 16 * length xs) ys → AreSpelled file at (xs ++ ys)
spelled_joined file at [] ys are more = subst (λ (k : ℕ). AreSpelled file k ys) (let e : at + 16 * 0 ≡ at = omega arith in e) more
spelled_joined file at (row ∷ xs) ys are more = (
  are.0,
  spelled_joined file (at + 16) xs ys are.1
      (subst (λ (k : ℕ). AreSpelled file k ys) (let e : at + 16 * suc (length xs) ≡ at + 16 + 16 * length xs = omega arith in e) more),
)

-- sixteen bytes of a piece of a file
pub piece_row : (file piece : List ℕ) (at off size : ℕ) → piece ≡ take size (drop at file) → off + 16 ≤ size → take 16 (drop off piece) ≡ take 16 (drop (at + off) file)
piece_row file piece at off size e fits =
    let rest : ℕ = size - off in
    ap (λ (bytes : List ℕ). take 16 (drop off bytes)) e
    ∙ ap (λ (k : ℕ). take 16 (drop off (take k (drop at file)))) (let s : size ≡ off + rest = omega arith in s)
    ∙ ap (λ (bytes : List ℕ). take 16 bytes) (drop-take off rest (drop at file))
    ∙ take-take 16 rest (drop off (drop at file)) (omega arith)
    ∙ ap (λ (bytes : List ℕ). take 16 bytes) (drop-drop off at file)

-- rows that a piece of a file spells
pub spelled_in : (file piece : List ℕ) (at off size : ℕ) (rows : List Row) → piece ≡ take size (drop at file) → off + 16 * length rows ≤ size → AreSpelled piece off rows → AreSpelled file (at + off) rows
spelled_in file piece at off size [] e fits are = tt
spelled_in file piece at off size (row ∷ rows) e fits are = (
  subst (λ (bytes : List ℕ). RowOf bytes row) (piece_row file piece at off size e (omega arith)) are.0,
  subst (λ (k : ℕ). AreSpelled file k rows) (let s : at + (off + 16) ≡ at + off + 16 = omega arith in s)
      (spelled_in file piece at (off + 16) size rows e (omega arith) are.1),
)

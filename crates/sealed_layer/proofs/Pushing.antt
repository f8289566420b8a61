-- One row more of a piece of the index.
use Rattle.std.proofs.Common.{◌≡◌, ℕ, ◌+◌, ◌-◌, ◌*◌, ◌≤◌, List, [], ◌∷◌, ◌++◌, length, take, drop, sym, ap, subst, ◌∙◌, arith, length-drop}
use Rattle.std.specs.Prelude.{All}
use Rattle.std.proofs.lemmas.List.{take-append-le, drop-append-le, take-append-drop}
use Rattle.std.proofs.lemmas.List.Elements.{All-nil, All-cons, All-append}
use Rattle.seg_mapping.specs.declared.Row.{Row}
use Rattle.seg_mapping.specs.Rows.{RowOf}
use Rattle.lsmt_header.specs.declared.head.Head.{Head}
use Rattle.flat_image.specs.RowCells.{AreSpelled, IsLayerRow, end_of}
use Rattle.flat_image.proofs.CellLaws.{rows_joined}
use Rattle.flat_image.proofs.SpelledRows.{spelled_joined}
use Rattle.sealed_layer.specs.Growing.{Grows}
use Rattle.sealed_layer.specs.Layers.{IsTagged}

pub grown : (head : Head) (piece bytes : List ℕ) (old rows : List Row) (row : Row) → length old ≤ length rows → Grows head piece old rows
    → bytes ≡ take 16 (drop (16 * (length rows - length old)) piece) → RowOf bytes row → IsLayerRow head.sectors head.index_at (end_of 0 rows) row
    → Grows head piece old (rows ++ row ∷ [])
grown head piece bytes old rows row more so_far bytes_are of is =
    let n : ℕ = length old in
    let here : RowOf (take 16 (drop (0 + 16 * length (drop n rows)) piece)) row =
    subst (λ (bs : List ℕ). RowOf bs row)
    (bytes_are ∙ ap (λ (k : ℕ). take 16 (drop k piece)) (let e : 16 * (length rows - n) ≡ 0 + 16 * length (drop n rows) = omega (arith, length-drop n rows) in e)) of in
    record {
      kept = take-append-le n rows (row ∷ []) more ∙ so_far.kept;
      spelled = subst (AreSpelled piece 0) (sym (drop-append-le n rows (row ∷ []) more)) (spelled_joined piece 0 (drop n rows) (row ∷ []) so_far.spelled (here, tt));
      sound = rows_joined head.sectors head.index_at 0 rows (row ∷ []) so_far.sound (is, tt);
    }

-- rows that are spelled have tags of a byte
spelled-tags : (file : List ℕ) (at : ℕ) (rows : List Row) → AreSpelled file at rows → All IsTagged rows
spelled-tags file at [] are = All-nil IsTagged
spelled-tags file at (row ∷ rows) are = All-cons IsTagged row rows are.0.tag (spelled-tags file (at + 16) rows are.1)

pub tags-grow : (head : Head) (piece : List ℕ) (old new : List Row) → Grows head piece old new → All IsTagged old → All IsTagged new
tags-grow head piece old new grows tags =
    subst (All IsTagged) (ap (λ (xs : List Row). xs ++ drop (length old) new) (sym grows.kept) ∙ take-append-drop (length old) new)
    (All-append IsTagged old (drop (length old) new) tags (spelled-tags piece 0 (drop (length old) new) grows.spelled))

pub tags-first : (head : Head) (piece : List ℕ) (old new : List Row) → old ≡ [] → Grows head piece old new → All IsTagged new
tags-first head piece old new none grows = tags-grow head piece old new grows (subst (All IsTagged) (sym none) (All-nil IsTagged))

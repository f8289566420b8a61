-- Rows that are added to those that wait, one by one.
use Rattle.std.proofs.Common.{◌≡◌, ℕ, suc, ◌+◌, ◌*◌, List, [], ◌∷◌, ◌++◌, length, take, drop, reverse, refl, sym, ap, subst, ◌∙◌, arith, append_assoc, length-append}
use Rattle.std.proofs.lemmas.List.{reverse-append, length-reverse, append-nil, take_all}
use Rattle.sector_extent.specs.Rows.{rows_for}
use Rattle.seg_mapping.specs.declared.Row.{Row}
use Rattle.seg_mapping.specs.Rows.{RowOf}
use Rattle.seg_table.specs.declared.segment.What.{What}
use Rattle.flat_image.specs.RowCells.{AreSpelled}
use Rattle.top_writer.specs.Rows.{row_number, newest_rows, rows_of}
use Rattle.top_writer.proofs.ChangeHolds.{waiting_more}
use Rattle.top_writer.proofs.HoldLaws.{length-newest}

-- the first so many rows of an extent stand behind the old bytes
pub record Pushed (at count : ℕ) (w : What) (old now : List ℕ) (number : ℕ) : Type 0 where
  pub added : List ℕ
  pub is : now ≡ old ++ added
  pub spelled : AreSpelled added 0 (reverse (newest_rows at count w number))
  pub size : length added ≡ 16 * number

pub pushed_none : (at count : ℕ) (w : What) (old : List ℕ) → Pushed at count w old old 0
pushed_none at count w old = record { added = []; is = sym (append-nil old); spelled = tt; size = refl }

first_row : (bytes : List ℕ) (row : Row) → length bytes ≡ 16 → RowOf bytes row → RowOf (take 16 (drop 0 bytes)) row
first_row bytes row size is = subst (λ (b : List ℕ). RowOf b row) (sym (take_all 16 bytes (omega (arith, size)))) is

pub pushed_more : (at count : ℕ) (w : What) (old now new bytes : List ℕ) (number : ℕ) → Pushed at count w old now number
    → RowOf bytes (row_number at count w number) → length bytes ≡ 16 → new ≡ now ++ bytes → Pushed at count w old new (number + 1)
pushed_more at count w old now new bytes number pushed row size is =
    let newest : List Row = newest_rows at count w number in
    let here : Row = row_number at count w number in
    let number_of : length (reverse newest) ≡ number = length-reverse newest ∙ length-newest at count w number in
    let joined : AreSpelled (pushed.added ++ bytes) 0 (reverse newest ++ here ∷ []) =
    waiting_more pushed.added bytes (reverse newest) (here ∷ []) (omega (arith, pushed.size, number_of)) (omega (arith, size)) pushed.spelled (first_row bytes here size row, tt) in
    let turned : reverse newest ++ here ∷ [] ≡ reverse (newest_rows at count w (suc number)) = sym (reverse-append (here ∷ []) newest) in
    record {
      added = pushed.added ++ bytes;
      is = is ∙ ap (λ (xs : List ℕ). xs ++ bytes) pushed.is ∙ append_assoc old pushed.added bytes;
      spelled = subst (λ (k : ℕ). AreSpelled (pushed.added ++ bytes) 0 (reverse (newest_rows at count w k))) (let e : suc number ≡ number + 1 = omega arith in e)
          (subst (AreSpelled (pushed.added ++ bytes) 0) turned joined);
      size = length-append pushed.added bytes ∙ omega (arith, pushed.size, size);
    }

pub pushed_all : (at count : ℕ) (w : What) (old now : List ℕ) (number : ℕ) → number ≡ rows_for count → Pushed at count w old now number
    → (added : List ℕ) × (now ≡ old ++ added) × AreSpelled added 0 (rows_of at count w) × (length added ≡ 16 * rows_for count)
pushed_all at count w old now number all pushed = (
  pushed.added,
  pushed.is,
  subst (λ (k : ℕ). AreSpelled pushed.added 0 (reverse (newest_rows at count w k))) all pushed.spelled,
  pushed.size ∙ ap (λ (k : ℕ). 16 * k) all,
)

-- What a top holds after a change.
use Rattle.std.proofs.Common.{◌≡◌, ℕ, zero, suc, ◌+◌, ◌-◌, ◌*◌, ◌<◌, ◌≤◌, ◌⊎◌, List, ◌++◌, length, reverse, refl, sym, ap, ◌∙◌, arith, inl, inr, Option, Some, None}
use Rattle.std.specs.Prelude.{All}
use Rattle.std.proofs.lemmas.Bool.Decides.{leb_tells}
use Rattle.std.proofs.lemmas.List.{reverse-append, reverse-reverse, length-reverse}
use Rattle.std.proofs.lemmas.List.Elements.{All-append, All-cons, All-weaker}
use Rattle.sector_extent.specs.declared.extent.Extent.{Extent}
use Rattle.sector_extent.specs.Rows.{rows_for}
use Rattle.seg_mapping.specs.declared.Row.{Row}
use Rattle.seg_table.specs.declared.segment.Segment.{Segment}
use Rattle.seg_table.specs.declared.segment.What.{What}
use Rattle.seg_table.specs.declared.segment.What.TheVariants as what
use Rattle.seg_table.specs.Cells.{cell_in, onward, Sets}
use Rattle.flat_image.specs.Sheets.{Filled}
use Rattle.flat_image.specs.RowCells.{cell_of}
use Rattle.top_writer.specs.Fitting.{HasFront, IsTableOf}
use Rattle.top_writer.specs.Rows.{IsTopRow, row_number, newest_rows, rows_of}
use Rattle.top_writer.specs.View.{cell_at}
use Rattle.top_writer.proofs.Fronts.{sector_front}
use Rattle.top_writer.proofs.RowCellLaws.{cell_front, All-reverse, newest_inside, newest_outside}

-- rows behind older ones, the last one first
newest_first : (rows : List Row) (at count : ℕ) (w : What) → reverse (rows ++ rows_of at count w) ≡ newest_rows at count w (rows_for count) ++ reverse rows
newest_first rows at count w =
    let newest : List Row = newest_rows at count w (rows_for count) in
    reverse-append rows (reverse newest) ∙ ap (λ (xs : List Row). xs ++ reverse rows) (reverse-reverse newest)

rows_reach : (at count i : ℕ) → i < at + count → i < at + 16383 * rows_for count
rows_reach at count i lt = omega (arith, lt)

-- what the rows of an extent say, behind older ones
pub rows_inside : (file : List ℕ) (rows : List Row) (at count : ℕ) (w : What) (i : ℕ) → at ≤ i → i < at + count
    → cell_of file (reverse (rows ++ rows_of at count w)) i ≡ cell_at file (Some (onward w (i - at)))
rows_inside file rows at count w i from below =
    ap (λ (xs : List Row). cell_of file xs i) (newest_first rows at count w)
    ∙ newest_inside file at count w (rows_for count) (reverse rows) i from below (rows_reach at count i below)

pub rows_outside : (file : List ℕ) (rows : List Row) (at count : ℕ) (w : What) (i : ℕ) → (i < at) ⊎ (at + count ≤ i)
    → cell_of file (reverse (rows ++ rows_of at count w)) i ≡ cell_of file (reverse rows) i
rows_outside file rows at count w i out =
    ap (λ (xs : List Row). cell_of file xs i) (newest_first rows at count w)
    ∙ newest_outside file at count w (rows_for count) (reverse rows) i out

pub length-newest : (at count : ℕ) (w : What) (k : ℕ) → length (newest_rows at count w k) ≡ k
length-newest at count w zero = refl
length-newest at count w (suc k) = ap suc (length-newest at count w k)

pub length-rows_of : (at count : ℕ) (w : What) → length (rows_of at count w) ≡ rows_for count
length-rows_of at count w = length-reverse (newest_rows at count w (rows_for count)) ∙ length-newest at count w (rows_for count)

-- the sectors of a change end in the data
abbrev pub EndsIn : ℕ → ℕ → What → Type 0
EndsIn filled count (what.Place place) = (8 ≤ place) × (place + count ≤ 8 + filled)
EndsIn filled count what.Zero = Unit {0}

number_sound : (n filled at count : ℕ) (w : What) (k : ℕ) → at + count ≤ n → EndsIn filled count w → k < rows_for count → IsTopRow n filled (row_number at count w k)
number_sound n filled at count (what.Place place) k within ends lt = record {
  range = omega (arith, within, lt);
  place = record { from = λ e. omega (arith, ends.0); to = λ e. omega (arith, ends.1, lt) };
}
number_sound n filled at count what.Zero k within ends lt = record {
  range = omega (arith, within, lt);
  place = record { from = λ e. cc; to = λ e. cc };
}

newest_sound : (n filled at count : ℕ) (w : What) (k : ℕ) → at + count ≤ n → EndsIn filled count w → k ≤ rows_for count → All (IsTopRow n filled) (newest_rows at count w k)
newest_sound n filled at count w zero within ends le = λ k d lt. absurd (omega (arith, lt))
newest_sound n filled at count w (suc k) within ends le =
    All-cons (IsTopRow n filled) (row_number at count w k) (newest_rows at count w k)
    (number_sound n filled at count w k within ends (omega (arith, le)))
    (newest_sound n filled at count w k within ends (omega (arith, le)))

more_filled : (n few many : ℕ) (rows : List Row) → few ≤ many → All (IsTopRow n few) rows → All (IsTopRow n many) rows
more_filled n few many rows le all = All-weaker (IsTopRow n few) (IsTopRow n many)
    (λ row is. record { range = is.range; place = record { from = is.place.from; to = λ e. let old = is.place.to e in omega (arith, le, old) } }) rows all

pub sound_more : (n filled more at count : ℕ) (w : What) (rows : List Row) → filled ≤ more → at + count ≤ n → EndsIn more count w
    → All (IsTopRow n filled) rows → All (IsTopRow n more) (rows ++ rows_of at count w)
sound_more n filled more at count w rows le within ends all =
    All-append (IsTopRow n more) rows (rows_of at count w) (more_filled n filled more rows le all)
    (All-reverse (IsTopRow n more) (newest_rows at count w (rows_for count)) (newest_sound n more at count w (rows_for count) within ends (omega arith)))

-- the table after a put
pub place_front : (filled : ℕ) (whole file : List ℕ) (o : Option What) → ((place : ℕ) → o ≡ Some (what.Place place) → place < 8 + filled)
    → HasFront (4096 + 512 * filled) whole file → cell_at file o ≡ cell_at whole o
place_front filled whole file None to front = refl
place_front filled whole file (Some what.Zero) to front = refl
place_front filled whole file (Some (what.Place place)) to front =
    let below = to place refl in
    ap Filled (sector_front place (4096 + 512 * filled) whole file (omega (arith, below)) front)

where_of : (at count i : ℕ) → ((at ≤ i) × (i < at + count)) ⊎ ((i < at) ⊎ (at + count ≤ i))
where_of at count i = elim (leb_tells at i) [
  | inl from ↦ elim (leb_tells (at + count) i) [
    | inl past ↦ inr (inr past.1)
    | inr below ↦ inl (from.1, below.1)
  ]
  | inr early ↦ inr (inl early.1)
]

onward_ends : (more count : ℕ) (w : What) (k place : ℕ) → k < count → EndsIn more count w → Some (onward w k) ≡ Some (what.Place place) → (8 ≤ place) × (place < 8 + more)
onward_ends more count (what.Place p) k place lt ends e =
    let same : p + k ≡ place = cc in (omega (arith, ends.0, same), omega (arith, ends.1, same, lt))
onward_ends more count what.Zero k place lt ends e = cc

pub table_more : (n filled more : ℕ) (whole file : List ℕ) (rows : List Row) (old new : List Segment) (extent : Extent) (w : What)
    → filled ≤ more → extent.at + extent.count ≤ n → EndsIn more extent.count w
    → HasFront (4096 + 512 * filled) whole file → All (IsTopRow n filled) rows
    → Sets (cell_in old) (cell_in new) (record { extent = extent; what = w })
    → IsTableOf n filled whole rows old → IsTableOf n more file (rows ++ rows_of extent.at extent.count w) new
table_more n filled more whole file rows old new extent w le within ends front sound sets is =
    let places : (i place : ℕ) → cell_in old i ≡ Some (what.Place place) → place < 8 + more = λ i place e. let b = is.to i place e in omega (arith, le, b) in
    let inside : (i : ℕ) → extent.at ≤ i → i < extent.at + extent.count → cell_in new i ≡ Some (onward w (i - extent.at)) =
    λ i from below. sets.inside i (record { from = from; below = below }) in
    let outside : (i : ℕ) → (i < extent.at) ⊎ (extent.at + extent.count ≤ i) → cell_in new i ≡ cell_in old i =
    λ i out. sets.outside i (λ h. elim out [ inl a ↦ absurd (omega (arith, a, h.from)) | inr b ↦ absurd (omega (arith, b, h.below)) ]) in
    let at_in : (o : Option What) (i place : ℕ) → extent.at ≤ i → i < extent.at + extent.count → Some (onward w (i - extent.at)) ≡ Some (what.Place place) → (8 ≤ place) × (place < 8 + more) =
    λ o i place from below e. onward_ends more extent.count w (i - extent.at) place (omega (arith, from, below)) ends e in
    let where_is : (i : ℕ) → ((extent.at ≤ i) × (i < extent.at + extent.count)) ⊎ ((i < extent.at) ⊎ (extent.at + extent.count ≤ i)) = where_of extent.at extent.count in
    record {
      same = λ i lt. elim (where_is i) [
        | inl h ↦ ap (cell_at file) (inside i h.0 h.1) ∙ sym (rows_inside file rows extent.at extent.count w i h.0 h.1)
        | inr out ↦ ap (cell_at file) (outside i out)
            ∙ place_front filled whole file (cell_in old i) (is.to i) front
            ∙ is.same i lt
            ∙ sym (cell_front n filled (reverse rows) i whole file (All-reverse (IsTopRow n filled) rows sound) front)
            ∙ sym (rows_outside file rows extent.at extent.count w i out)
      ];
      within = λ i past. outside i (inr (omega (arith, past, within))) ∙ is.within i past;
      from = λ i place e. elim (where_is i) [
        | inl h ↦ (at_in (cell_in new i) i place h.0 h.1 (sym (inside i h.0 h.1) ∙ e)).0
        | inr out ↦ is.from i place (sym (outside i out) ∙ e)
      ];
      to = λ i place e. elim (where_is i) [
        | inl h ↦ (at_in (cell_in new i) i place h.0 h.1 (sym (inside i h.0 h.1) ∙ e)).1
        | inr out ↦ places i place (sym (outside i out) ∙ e)
      ];
    }

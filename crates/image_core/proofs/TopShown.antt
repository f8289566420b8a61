-- What files show of a top: a sheet of few stretches, and one top at most.
use Rattle.std.proofs.Common.{◌≡◌, ℕ, suc, ◌+◌, ◌-◌, ◌*◌, ◌^◌, ◌<◌, ◌≤◌, nat_lt, inl, inr, true, false, cond, List, [], ◌∷◌, length, reverse, drop, refl, sym, ap, ◌∙◌, subst, arith}
use Rattle.std.specs.Prelude.{All, Option, Some, None}
use Rattle.std.specs.Option.{option_map}
use Rattle.std.specs.List.{range_with_len}
use Rattle.std.proofs.lemmas.List.{get_or-reverse, length-reverse, length-map, length-take-le, length-drop}
use Rattle.std.proofs.lemmas.List.Elements.{All-nil, All-head, All-tail, All-get_or, All-from_get_or}
use Rattle.std.proofs.lemmas.Bool.Decides.{leb_tells}
use Rattle.gate_mark.specs.declared.mark.Slot.{Slot}
use Rattle.gate_mark.specs.declared.mark.Slot.TheVariants.{First, Second}
use Rattle.gate_mark.specs.MarkFile.{base_of, body_of, sequence_of, counting, Shows}
use Rattle.seg_mapping.specs.declared.Row.{Row}
use Rattle.flat_image.specs.Sheets.{Cell, IsCell, IsSheet}
use Rattle.flat_image.specs.RowCells.{covers, cell_by, cell_of}
use Rattle.flat_image.specs.LayerReading.{rows_in}
use Rattle.flat_image.specs.CanonicalFiles.{stretches}
use Rattle.flat_image.specs.Left.{Stand}
use Rattle.flat_image.proofs.CellLaws.{whole_by, covers-from, covers-below}
use Rattle.flat_image.proofs.LayerLaws.{length-range, all_cells, rows_in-spelled}
use Rattle.flat_image.proofs.RowStretches.{rows-make_few}
use Rattle.top_writer.specs.Files.{Stored, HeadsAsked, rows_said, sectors_said}
use Rattle.top_writer.specs.Rows.{IsTopRow, top_sheet}
use Rattle.top_writer.specs.Showing.{ShowsTop}

-- each cell that rows make of sectors that are stored is whole
pub stored_cell : (file : List ℕ) (n filled : ℕ) (rows : List Row) → All (IsTopRow n filled) rows → 4096 + 512 * filled ≤ length file → (p : ℕ) → IsCell (cell_of file rows p)
stored_cell file n filled [] are long p = tt
stored_cell file n filled (row ∷ rows) are long p =
    elim (covers row p) as (λ b. covers row p ≡ b → IsCell (cond b (cell_by file row p) (cell_of file rows p))) [
      | true ↦ λ on. whole_by file row p (4096 + 512 * filled)
          (λ is. let to = (All-head (IsTopRow n filled) row rows are).place.to is in omega (arith, to)) long (covers-below row p on) (covers-from row p on)
      | false ↦ λ off. stored_cell file n filled rows (All-tail (IsTopRow n filled) row rows are) long p
    ]
    refl

-- what holds of each row holds in the other order
pub all_reversed : (P : Row → Type 0) (rows : List Row) → All P rows → All P (reverse rows)
all_reversed P [] are = All-nil P
all_reversed P (row ∷ rows) are =
    let long : length (reverse (row ∷ rows)) ≡ length (row ∷ rows) = length-reverse (row ∷ rows) in
    All-from_get_or P (reverse (row ∷ rows)) row
    (λ i below. subst P (sym (get_or-reverse (row ∷ rows) i row (omega (arith, below, long))))
    (All-get_or P (row ∷ rows) (length (row ∷ rows) - 1 - i) row (omega (arith, below, long)) are))

module _ (n : ℕ) (asked : HeadsAsked) (s : Stand) (t : Stored) (shows : ShowsTop n asked s t) where
  pub shown-sheet : 1 ≤ n → n ≤ 2 ^ 31 → IsSheet n s.cells
  shown-sheet some few = record {
    some = some;
    few = few;
    count = ap (length {A = Cell}) shows.cells ∙ (length-map (range_with_len 0 n) (cell_of t.bytes (reverse shows.rows)) ∙ length-range 0 n);
    cells = subst (All IsCell) (sym shows.cells)
        (all_cells t.bytes (reverse shows.rows)
        (stored_cell t.bytes n s.filled (reverse shows.rows) (all_reversed (IsTopRow n s.filled) shows.rows shows.sound) shows.bytes_long) 0 n);
  }

  pub shown-few : length (stretches 0 s.cells) ≤ 2 * s.rows
  shown-few =
      subst (λ (cells : List Cell). length (stretches 0 cells) ≤ 2 * s.rows) (sym shows.cells)
      (omega (arith, rows-make_few t.bytes n (reverse shows.rows), length-reverse shows.rows, shows.number))

  pub shown-rows : shows.rows ≡ rows_in t.index 4096 s.rows
  shown-rows = sym (rows_in-spelled t.index 4096 shows.rows shows.spelled) ∙ ap (rows_in t.index 4096) shows.number

-- a mark file holds one body at most, of 48 bytes
abbrev body_or : List ℕ → Option (ℕ × List ℕ) → List ℕ
body_or default None = default
body_or default (Some held) = held.1

pub one-body : (file : List ℕ) (one other : ℕ) (body body' : List ℕ) → Shows one body file → Shows other body' file → body ≡ body'
one-body file one other body body' first second = ap (body_or body) (sym first ∙ second)

slot_end : (slot : Slot) → base_of slot + 64 ≤ 1024
slot_end First = omega arith
slot_end Second = omega arith

body_long : (slot : Slot) (file : List ℕ) → 1024 ≤ length file → length (body_of slot file) ≡ 48
unfolding body_of
body_long slot file long =
    length-take-le 48 (drop (base_of slot + 16) file) (omega (arith, length-drop (base_of slot + 16) file, slot_end slot, long))

pub length-body : (file : List ℕ) (sequence : ℕ) (body : List ℕ) → Shows sequence body file → length body ≡ 48
length-body file sequence body shows =
    elim (leb_tells 1024 (length file)) [
      | inl le ↦ by_slot (counting file) le.1 (rw (not_short le.1) at shows)
      | inr lt ↦ absurd (let e : None ≡ Some (sequence, body) = (rw (short lt.1) at shows) in cc)
    ]
  where
    short : length file < 1024 → nat_lt (length file) 1024 ≡ true
    short lt = elim (leb_tells (suc (length file)) 1024) [ inl e ↦ e.0 | inr e ↦ absurd (omega (arith, e.1, lt)) ]

    not_short : 1024 ≤ length file → nat_lt (length file) 1024 ≡ false
    not_short le = elim (leb_tells (suc (length file)) 1024) [ inl e ↦ absurd (omega (arith, e.1, le)) | inr e ↦ e.0 ]

    by_slot : (slot : Option Slot) → 1024 ≤ length file → option_map {U = ℕ × List ℕ} (λ (s : Slot). (sequence_of s file, body_of s file)) slot ≡ Some (sequence, body) → length body ≡ 48
    by_slot None long is = absurd (let e : None ≡ Some (sequence, body) = is in cc)
    by_slot (Some slot) long is =
        let same : body_of slot file ≡ body = ap (body_or body) is in ap (length {A = ℕ}) (sym same) ∙ body_long slot file long

-- files show one top at most
pub one-top : (n : ℕ) (asked asked' : HeadsAsked) (s other : Stand) (t : Stored) → ShowsTop n asked s t → ShowsTop n asked' other t → s ≡ other
one-top n asked asked' s other t shows others =
    let body : shows.body ≡ others.body = one-body t.mark shows.sequence others.sequence shows.body others.body shows.mark others.mark in
    let rows : s.rows ≡ other.rows = sym shows.counts.rows_are ∙ (ap rows_said body ∙ others.counts.rows_are) in
    let filled : s.filled ≡ other.filled = sym shows.counts.sectors_are ∙ (ap sectors_said body ∙ others.counts.sectors_are) in
    let same : shows.rows ≡ others.rows = shown-rows n asked s t shows ∙ (ap (rows_in t.index 4096) rows ∙ sym (shown-rows n asked' other t others)) in
    let cells : s.cells ≡ other.cells = shows.cells ∙ (ap (top_sheet t.bytes n) same ∙ sym others.cells) in
    λ i. record { cells = cells i; rows = rows i; filled = filled i }

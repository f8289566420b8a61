-- What is gathered of a table makes a sealing of it.
use Rattle.std.proofs.Common.{◌≡◌, ◌≢◌, ℕ, ◌+◌, ◌*◌, ◌^◌, ◌≤◌, Bool, cond, nat_lt, List, [], length, drop, zero, suc, lt-ltb, length-drop, length-take-le, refl, sym, ap, subst, ◌∙◌, arith, inl, inr}
use Rattle.std.specs.Prelude.{All, Option, Some, None}
use Rattle.std.specs.List.{concat}
use Rattle.std.proofs.lemmas.Bool.Decides.{leb_tells}
use Rattle.std.proofs.lemmas.List.FromFn.{length-map-range_with_len}
use Rattle.std.proofs.lemmas.List.Elements.{All-nil, All-cons}
use Rattle.seg_mapping.specs.declared.Row.{Row}
use Rattle.seg_table.specs.declared.segment.What.{What}
use Rattle.seg_table.specs.declared.segment.What.TheVariants as what
use Rattle.seg_table.specs.Cells.{Table, cells_of}
use Rattle.lsmt_header.specs.declared.head.Head.{Head}
use Rattle.lsmt_header.specs.declared.head.Kind.TheVariants.{SealedHead}
use Rattle.lsmt_header.specs.Blocks.{nil, IsSize}
use Rattle.flat_image.specs.Sheets.{Cell, IsCell}
use Rattle.flat_image.specs.CanonicalFiles.{canonical_rows, canonical_head, file_with, file_of, sectors_of}
use Rattle.flat_image.specs.LayerFiles.{LayerFile}
use Rattle.flat_image.specs.Stacks.{StandsOn}
use Rattle.flat_image.proofs.CanonicalBytes.{file-is_layer}
use Rattle.sealed_layer.specs.Canon.{CanonState, rows_ahead}
use Rattle.sealed_layer.specs.Layers.{IsLayerIndex}
use Rattle.sealed_layer.proofs.CanonIndex.{canonical-index}
use Rattle.layer_commit.specs.Fitting.{Begun}
use Rattle.layer_commit.specs.Gathered.{cells_on, EndBy, Reaches, IsGathered}
use Rattle.layer_commit.specs.Sources.{cell_at, copied, counted, table_sheet}
use Rattle.layer_commit.specs.View.{SealView, file_by}

-- the head of a canonical file, by its numbers
abbrev pub head_by : List ℕ → List ℕ → ℕ → ℕ → ℕ → ℕ → Head
head_by uuid parent below n index_at rows = record {
  version = cond (nat_lt below n) 2 1;
  kind = SealedHead;
  index_at = index_at;
  rows = rows;
  sectors = n;
  uuid = uuid;
  parent = parent;
  tag = [];
}

-- every cell of a table's sheet is whole where the data file is long enough
whole_cells : (stored : List ℕ) (cells : ℕ → Option What) → Reaches stored cells → (at count : ℕ) → All IsCell (cells_on stored cells at count)
whole_cells stored cells long at zero = All-nil IsCell
whole_cells stored cells long at (suc count) =
    All-cons IsCell (cell_at stored (cells at)) (cells_on stored cells (at + 1) count) (whole_cell stored (cells at) (λ place is. long at place is)) (whole_cells stored cells long (at + 1) count)
  where
    whole_cell : (stored : List ℕ) (o : Option What) → ((place : ℕ) → o ≡ Some (what.Place place) → 512 * (place + 1) ≤ length stored) → IsCell (cell_at stored o)
    whole_cell stored None long = tt
    whole_cell stored (Some what.Zero) long = tt
    whole_cell stored (Some (what.Place place)) long = length-take-le 512 (drop (512 * place) stored) (omega (arith, length-drop (512 * place) stored, long place refl))

module _ (table : Table) (uuid parent : List ℕ) (below n from to filled : ℕ) (state : CanonState) (v : SealView) (long : length uuid ≡ 16) (named : uuid ≢ nil) (parent_long : length parent ≡ 16)
    (size : IsSize n) (apart : from ≢ to) (ends : EndBy n (cells_of table)) (few : (stored : List ℕ) × (length (canonical_rows (table_sheet stored n table)) ≤ 2 ^ 24))
    (gathered : IsGathered (cells_of table) state v.sources) (filled_is : filled ≡ 8 + counted v.sources) (filled_low : filled ≤ 8 + 2 ^ 31)
    (rows_are : v.rows ≡ rows_ahead state []) (head_is : v.head ≡ head_by uuid parent below n (512 * filled) (length v.rows)) (room : v.room ≡ 131072) (none : v.done ≡ 0) (from_is : v.from_file ≡ from) (to_is : v.to_file ≡ to) where
  pub sheet_long : (stored : List ℕ) → length (table_sheet stored n table) ≡ n
  unfolding table_sheet
  sheet_long stored = length-map-range_with_len (λ i. cell_at stored (cells_of table i)) 0 n

  rows_by : (stored : List ℕ) → v.rows ≡ canonical_rows (table_sheet stored n table)
  unfolding table_sheet
  rows_by stored = rows_are ∙ gathered.rows n stored ends

  count_by : (stored : List ℕ) → counted v.sources ≡ length (sectors_of (table_sheet stored n table))
  unfolding table_sheet
  count_by stored = gathered.count n stored ends

  bytes_by : (stored : List ℕ) → copied stored v.sources ≡ concat (sectors_of (table_sheet stored n table))
  unfolding table_sheet
  bytes_by stored = gathered.bytes n stored ends

  head_of : (stored : List ℕ) → v.head ≡ canonical_head uuid parent below (table_sheet stored n table)
  head_of stored =
      let sheet : List Cell = table_sheet stored n table in
      head_is
      ∙ ap (λ (k : ℕ). head_by uuid parent below n k (length v.rows)) (let e : 512 * filled ≡ 4096 + 512 * length (sectors_of sheet) = omega (arith, filled_is, count_by stored) in e)
      ∙ ap (λ (rows : List Row). head_by uuid parent below n (4096 + 512 * length (sectors_of sheet)) (length rows)) (rows_by stored)
      ∙ ap (λ (k : ℕ). head_by uuid parent below k (4096 + 512 * length (sectors_of sheet)) (length (canonical_rows sheet))) (sym (sheet_long stored))

  pub layer_is : IsLayerIndex v.head v.rows
  layer_is =
      let stored : List ℕ = few.0 in
      let sheet : List Cell = table_sheet stored n table in
      subst (λ (head : Head). IsLayerIndex head v.rows) (sym (head_of stored))
      (subst (IsLayerIndex (canonical_head uuid parent below sheet)) (sym (rows_by stored))
      (canonical-index n uuid parent below sheet long named parent_long size (sheet_long stored) few.1))

  few_by : (stored : List ℕ) → length (canonical_rows (table_sheet stored n table)) ≤ 2 ^ 24
  few_by stored = subst (λ (rows : List Row). length rows ≤ 2 ^ 24) (sym (rows_by few.0) ∙ rows_by stored) few.1

  file_is : (stored : List ℕ) → file_by v stored ≡ file_of uuid parent below (table_sheet stored n table)
  file_is stored =
      let sheet : List Cell = table_sheet stored n table in
      ap (λ (head : Head). file_with head (copied stored v.sources) v.rows) (head_of stored)
      ∙ ap (λ (bytes : List ℕ). file_with (canonical_head uuid parent below sheet) bytes v.rows) (bytes_by stored)
      ∙ ap (λ (rows : List Row). file_with (canonical_head uuid parent below sheet) (concat (sectors_of sheet)) rows) (rows_by stored)

  whole_sheet : (stored : List ℕ) → Reaches stored (cells_of table) → All IsCell (table_sheet stored n table)
  unfolding table_sheet
  whole_sheet stored reaches = whole_cells stored (cells_of table) reaches 0 n

  reads : (stored : List ℕ) → Reaches stored (cells_of table) → LayerFile (file_by v stored) v.head (table_sheet stored n table)
  reads stored reaches =
      let sheet : List Cell = table_sheet stored n table in
      subst (λ (file : List ℕ). LayerFile file v.head sheet) (sym (file_is stored))
      (subst (λ (head : Head). LayerFile (file_of uuid parent below sheet) head sheet) (sym (head_of stored))
      (file-is_layer n uuid parent below sheet (record {
        long = long;
        named = named;
        parent_long = parent_long;
        sheet_is = record { some = size.0; few = size.1; count = sheet_long stored; cells = whole_sheet stored reaches };
        few = few_by stored;
      })))

  pub begun : Begun table uuid parent below n from to v
  begun = record {
    sound = record {
      apart = λ same. apart (sym from_is ∙ same ∙ to_is);
      layer = layer_is;
      index = ap (λ (h : Head). h.index_at) head_is ∙ (let e : 512 * filled ≡ 4096 + 512 * counted v.sources = omega (arith, filled_is) in e);
      sources = gathered.are;
      low = omega (arith, ap (λ (h : Head). h.index_at) head_is, filled_low);
      room = room;
      done = omega (arith, none);
    };
    from_is = from_is;
    to_is = to_is;
    none = none;
    file = file_is;
    head = head_of;
    within = gathered.within;
    stands = λ le. subst (StandsOn below) (sym head_is) (stands_over (length v.rows) le);
    layer = reads;
  }
    where
      stands_over : (rows : ℕ) → below ≤ n → StandsOn below (head_by uuid parent below n (512 * filled) rows)
      stands_over rows le = elim (leb_tells (suc below) n) as (λ _. StandsOn below (head_by uuid parent below n (512 * filled) rows)) [
        | inl less ↦ record { same = λ one. absurd (let e : cond (nat_lt below n) 2 1 ≡ 2 = ap (λ (b : Bool). cond {A = ℕ} b 2 1) (lt-ltb below n less.1) in omega (arith, e, one)); taller = λ two. le }
        | inr not ↦ record { same = λ one. omega (arith, le, not.1); taller = λ two. le }
      ]

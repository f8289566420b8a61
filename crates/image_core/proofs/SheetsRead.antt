-- The sheets that an image reads through its tables, and what tables say of cells.
use Rattle.std.proofs.Common.{◌≡◌, ℕ, suc, inl, inr, List, [], ◌∷◌, ◌++◌, length, map, refl, sym, ap, ◌∙◌, subst, arith}
use Rattle.std.specs.Prelude.{Option, Some, None, IfSome, slice_index_or}
use Rattle.std.proofs.lemmas.List.{ext_get_or, get_or_past}
use Rattle.std.proofs.lemmas.List.FromFn.{length-map-range_with_len, get_or-map-range_with_len}
use Rattle.std.proofs.lemmas.Bool.Decides.{leb_tells}
use Rattle.block_disk.specs.DiskState.{Files}
use Rattle.seg_table.specs.declared.segment.Segment.{Segment}
use Rattle.seg_table.specs.declared.segment.What.{What}
use Rattle.seg_table.specs.declared.segment.What.TheVariants as what
use Rattle.seg_table.specs.Cells.{cell_in}
use Rattle.flat_image.specs.declared.base.Base.{Base}
use Rattle.flat_image.specs.Sheets.{Cell, Hole, Zero, Filled}
use Rattle.flat_image.specs.Frozen.{Frozen}
use Rattle.flat_image.specs.LayerReading.{sheet_in}
use Rattle.flat_image.specs.Base.{sheet_list, sheets_of, IsFrozen, IsBase}
use Rattle.sealed_layer.specs.Layers.{LayerIndex}
use Rattle.top_writer.specs.Files.{data_file}
use Rattle.top_writer.specs.View.{cell_at}
use Rattle.image_core.specs.Numbers.{sealed_file}
use Rattle.image_core.specs.Shows.{AreSealed}
use Rattle.image_core.specs.View.{CommitView, ImageView, AreLayersOf, IsKindOf, HasKinds, ReadsAs, IsCommitOf, CommitReadsAs, IsViewOf, ReadsAsBase, cells_read, sealed_read, commit_read, sheets_read}
use Rattle.top_writer.specs.Blank.{blank_cell, blank_sheet}
use Rattle.image_core.specs.Laws.{AreAlike, SameKinds, SameCommit, BlankHasKinds}

-- what is read cell by cell is the sheet
cells-read : (file : List ℕ) (cells : List Cell) (table : List Segment) (n : ℕ) → length cells ≡ n → ReadsAs file cells table → cells_read file table n ≡ cells
cells-read file cells table n count reads =
    let f : ℕ → Cell = λ i. cell_at file (cell_in table i) in
    let long : length (cells_read file table n) ≡ n = length-map-range_with_len f 0 n in
    ext_get_or Hole (cells_read file table n) cells (long ∙ sym count)
    (λ i below. get_or-map-range_with_len f 0 n i i Hole (omega (arith, below, long)) (omega arith) ∙ reads i)

-- the committed files as they read
pub sealed-read : (files : Files) (done : List (List ℕ)) (count : ℕ) → length done ≡ count → AreSealed done files → sealed_read files count ≡ done
sealed-read files done count is sealed =
    let f : ℕ → List ℕ = λ k. files (sealed_file k) in
    let long : length (sealed_read files count) ≡ count = length-map-range_with_len f 0 count in
    ext_get_or [] (sealed_read files count) done (long ∙ sym is)
    (λ k below. get_or-map-range_with_len f 0 count k k [] (omega (arith, below, long)) (omega arith) ∙ sealed k (omega (arith, below, long, is)))

-- as many layers as files
pub layers-length : (files : List (List ℕ)) (layers : List LayerIndex) → AreLayersOf files layers → length files ≡ length layers
layers-length [] [] are = refl
layers-length [] (layer ∷ layers) are = absurd are
layers-length (file ∷ files) [] are = absurd are
layers-length (file ∷ files) (layer ∷ layers) are = ap suc (layers-length files layers are.1)

-- the frozen sheet as it reads
frozen-read : (epoch n : ℕ) (frozen : Option Frozen) (commit : Option CommitView) (files : Files) → IfSome frozen (IsFrozen n) → IsCommitOf epoch frozen commit
    → CommitReadsAs (files (data_file epoch)) frozen commit → commit_read files commit n ≡ sheet_list frozen
frozen-read epoch n None None files sound is reads = refl
frozen-read epoch n None (Some c) files sound is reads = absurd is
frozen-read epoch n (Some f) None files sound is reads = absurd is
frozen-read epoch n (Some f) (Some c) files sound is reads =
    let here : cells_read (files (data_file c.epoch)) c.table n ≡ f.sheet =
    cells-read (files (data_file c.epoch)) f.sheet c.table n sound.sheet_is.count (subst (λ e. ReadsAs (files (data_file e)) f.sheet c.table) (sym is.1) reads) in
    λ i. here i ∷ []

-- what an image reads are the sheets of what it is made of
pub sheets-read : (b : Base) (v : ImageView) (files : Files) → IsBase b → IsViewOf b v → ReadsAsBase files b v → sheets_read files b.lowers v ≡ sheets_of b
sheets-read b v files is view reads =
    let done : sealed_read files (length v.committed) ≡ b.done =
    sealed-read files b.done (length v.committed) (layers-length b.done v.committed view.committed) reads.committed in
    let frozen : commit_read files v.commit v.sectors ≡ sheet_list b.frozen =
    frozen-read (length b.done) v.sectors b.frozen v.commit files (subst (λ n. IfSome b.frozen (IsFrozen n)) (sym view.sectors) is.frozen_is) view.commit reads.commit in
    let top : cells_read (files (data_file v.epoch)) v.table v.sectors ≡ b.top =
    cells-read (files (data_file v.epoch)) b.top v.table v.sectors (is.top_is.count ∙ sym view.sectors)
    (subst (λ e. ReadsAs (files (data_file e)) b.top v.table) (sym view.epoch) reads.table) in
    λ i. map sheet_in (b.lowers ++ done i) ++ (frozen i ++ top i ∷ [])

-- two entries of the kind of one cell are of the same kind
alike : (e f : Option What) (c : Cell) → IsKindOf e c → IsKindOf f c → AreAlike e f
alike None None c is other = tt
alike None (Some what.Zero) Hole is other = absurd other
alike None (Some what.Zero) Zero is other = absurd is
alike None (Some what.Zero) (Filled s) is other = absurd is
alike None (Some (what.Place p)) Hole is other = absurd other
alike None (Some (what.Place p)) Zero is other = absurd is
alike None (Some (what.Place p)) (Filled s) is other = absurd is
alike (Some what.Zero) None Hole is other = absurd is
alike (Some what.Zero) None Zero is other = absurd other
alike (Some what.Zero) None (Filled s) is other = absurd is
alike (Some what.Zero) (Some what.Zero) c is other = tt
alike (Some what.Zero) (Some (what.Place p)) Hole is other = absurd is
alike (Some what.Zero) (Some (what.Place p)) Zero is other = absurd other
alike (Some what.Zero) (Some (what.Place p)) (Filled s) is other = absurd is
alike (Some (what.Place p)) None Hole is other = absurd is
alike (Some (what.Place p)) None Zero is other = absurd is
alike (Some (what.Place p)) None (Filled s) is other = absurd other
alike (Some (what.Place p)) (Some what.Zero) Hole is other = absurd is
alike (Some (what.Place p)) (Some what.Zero) Zero is other = absurd is
alike (Some (what.Place p)) (Some what.Zero) (Filled s) is other = absurd other
alike (Some (what.Place p)) (Some (what.Place q)) c is other = tt

pub same-kinds : (cells : List Cell) (table other : List Segment) → HasKinds cells table → HasKinds cells other → SameKinds table other
same-kinds cells table other are others i = alike (cell_in table i) (cell_in other i) (slice_index_or cells i Hole) (are i) (others i)

pub same-commit : (epoch : ℕ) (frozen : Option Frozen) (c d : Option CommitView) → IsCommitOf epoch frozen c → IsCommitOf epoch frozen d → SameCommit c d
same-commit epoch None None None is other = tt
same-commit epoch None None (Some d) is other = absurd other
same-commit epoch None (Some c) d is other = absurd is
same-commit epoch (Some f) None d is other = absurd is
same-commit epoch (Some f) (Some c) None is other = absurd other
same-commit epoch (Some f) (Some c) (Some d) is other = (is.0 ∙ sym other.0, is.1 ∙ sym other.1, same-kinds f.sheet c.table d.table is.2 other.2)

-- a blank cell is of the kind of its entry
blank-kind : (e : Option What) → IsKindOf e (blank_cell e)
blank-kind None = tt
blank-kind (Some what.Zero) = tt
blank-kind (Some (what.Place place)) = tt

pub blank-has_kinds : (n : ℕ) (table : List Segment) → BlankHasKinds n table
blank-has_kinds n table none i =
    let f : ℕ → Cell = λ k. blank_cell (cell_in table k) in
    elim (leb_tells (suc i) n) [
      | inl e ↦ subst (IsKindOf (cell_in table i)) (sym (get_or-map-range_with_len f 0 n i i Hole e.1 (omega arith))) (blank-kind (cell_in table i))
      | inr e ↦
          let past : slice_index_or (blank_sheet n table) i Hole ≡ Hole =
          get_or_past (blank_sheet n table) i Hole (omega (arith, e.1, length-map-range_with_len f 0 n)) in
          subst (IsKindOf (cell_in table i)) (sym past) (subst (λ e. IsKindOf e Hole) (sym (none i (omega (arith, e.1)))) tt)
    ]

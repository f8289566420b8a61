-- What a plan reads of an image.
use Rattle.std.specs.Prelude.{◌≡◌, ℕ, ◌+◌, ◌*◌, ◌<◌, ◌≤◌, List, [], ◌++◌, length, map, slice_index_or}
use Rattle.flat_image.specs.declared.base.Base.{Base}
use Rattle.flat_image.specs.Sheets.{IsImage, flat}
use Rattle.flat_image.specs.RowCells.{sector_at}
use Rattle.flat_image.specs.LayerReading.{sheet_in}
use Rattle.flat_image.specs.History.{History, now, size, after, committed}
use Rattle.top_writer.specs.Gaps.{Paints}
use Rattle.merged_index.specs.Cells.{cells_of}
use Rattle.image_core.specs.Parts.{parts_view}
use Rattle.image_core.specs.Seen.{Seen, StandsFor}
use Rattle.image_core.specs.Upper.{upper, IsGap}
use Rattle.image_core.specs.Pieces.{SnapshotView, IsSnapshotOf}
use Rattle.image_core.specs.Whole.{sectors_by, AreOnShelf}

-- Of the sectors of an extent those that are no gaps are read; in a gap the bytes stay as they were, and there the image
-- is that of the layers alone.
pub record IsPlanned (image layers : List (List ℕ)) (is_gap : ℕ → Type 0) (at count : ℕ) (old new : List ℕ) : Type 0 where
  pub read : (k : ℕ) → k < count → ¬ is_gap (at + k) → sector_at new k ≡ slice_index_or image (at + k) []
  pub left : (k : ℕ) → k < count → is_gap (at + k) → sector_at new k ≡ sector_at old k
  pub below : (i : ℕ) → i < length image → is_gap i → slice_index_or image i [] ≡ slice_index_or layers i []

-- what a plan gives of an image of n sectors that is made of the base by the history: the gaps are those of its upper part,
-- and these are the layers', lower and committed
abbrev pub IsPlanOf : ℕ → Base → History → ℕ → ℕ → List ℕ → List ℕ → Type 0
IsPlanOf n base history at count old new =
    IsPlanned (after base history) (flat n (map sheet_in (base.lowers ++ committed base history))) (IsGap (now base history)) at count old new

-- what the upper part of an image paints over a part is a plan of it
abbrev pub PlanReads : Seen → Base → History → ℕ → ℕ → List ℕ → List ℕ → Type 0
PlanReads image base history at count old new =
    StandsFor image base history → length old ≡ 512 * count → at + count ≤ (parts_view image.parts).sectors
    → Paints (upper (now base history)) at count old new → IsPlanOf (parts_view image.parts).sectors base history at count old new

-- In its gaps the image after the history is what the cells of the snapshot read as in the layers' files, the lower ones
-- and behind them the committed ones; and no cell names another file.
pub record ReadsBelow (base : Base) (history : History) (s : SnapshotView) : Type 0 where
  pub lowers_are : s.lowers ≡ length base.lowers
  pub named : AreOnShelf (length (base.lowers ++ committed base history)) (cells_of s.index)
  pub image : IsImage (size base history) (after base history)
  pub sectors : (i : ℕ) → i < size base history → IsGap (now base history) i
      → sectors_by (base.lowers ++ committed base history) (cells_of s.index) i ≡ slice_index_or (after base history) i []

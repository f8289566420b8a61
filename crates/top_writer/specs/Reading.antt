-- A read of a top, stretch by stretch.
use Rattle.std.specs.Prelude.{◌≡◌, ℕ, ◌+◌, ◌-◌, ◌*◌, ◌^◌, ◌<◌, ◌≤◌, ◌⊎◌, List, ◌++◌, map, length, take, drop, replicate, Bool, IsTrue, Option, Some, None}
use Rattle.std.specs.List.{range_with_len}
use Rattle.sector_extent.specs.declared.extent.Extent.{Extent}
use Rattle.seg_table.specs.declared.segment.What.{What}
use Rattle.seg_table.specs.declared.segment.What.TheVariants as what
use Rattle.seg_table.specs.Cells.{onward}
use Rattle.flat_image.specs.Sheets.{paint, bytes_of, image_in}
use Rattle.top_writer.specs.declared.stretch.Stretch.{Stretch}
use Rattle.top_writer.specs.Gaps.{AddsGaps}
use Rattle.top_writer.specs.View.{cell_at}

-- what the sector has that stands so many behind the first one of a stretch
abbrev pub along : Option What → ℕ → Option What
along None steps = None
along (Some w) steps = Some (onward w steps)

-- the cells of the sectors are those of a stretch that has this
abbrev pub Says : (ℕ → Option What) → ℕ → ℕ → Option What → Type 0
Says cells at count w = (i : ℕ) → i < count → cells (at + i) ≡ along w i

-- no place in the table is past what a disk can hold
abbrev pub AreLow : (ℕ → Option What) → Type 0
AreLow cells = (i place : ℕ) → cells i ≡ Some (what.Place place) → place < 2 ^ 31

-- The stretch that was looked up last, and not read yet: it lies in the extent, it is not empty but at the beginning, and
-- no gap ends where it begins as one.
pub record Pending (cells : ℕ → Option What) (extent : Extent) (run : Stretch) : Type 0 where
  pub from : extent.at ≤ run.at
  pub to : run.at + run.count ≤ extent.at + extent.count
  pub says : Says cells run.at run.count run.what
  pub empty : run.count ≡ 0 → run.at ≡ extent.at
  pub fresh : run.what ≡ None → (run.at ≡ extent.at) ⊎ ¬ (cells (run.at - 1) ≡ None)

-- the sectors from `at` up to `until` are read: the first bytes of `out` are painted, and the gaps are added
pub record IsRead (tells : Bool) (file : List ℕ) (cells : ℕ → Option What) (at until : ℕ) (start out : List ℕ) (gaps_then gaps : List Extent) : Type 0 where
  pub front : List ℕ
  pub size : length front ≡ 512 * (until - at)
  pub is : out ≡ front ++ drop (512 * (until - at)) start
  pub painted : IsTrue tells → front ≡ bytes_of (paint (image_in (until - at) start) (map (λ i. cell_at file (cells i)) (range_with_len at (until - at))))
  pub gaps_added : AddsGaps (λ i. cells i ≡ None) at until gaps_then gaps

-- the bytes that a stretch has for so many bytes of an image
abbrev pub IsPiece : Bool → List ℕ → What → ℕ → List ℕ → Type 0
IsPiece tells file what.Zero size piece = piece ≡ replicate {A = ℕ} size 0
IsPiece tells file (what.Place place) size piece = IsTrue tells → piece ≡ take size (drop (512 * place) file)

-- both stretches as one: the first one if the next is empty, the next one if the first is, or the first one going on
abbrev pub IsJoined : Stretch → Stretch → Stretch → Type 0
IsJoined first next both =
    ((next.count ≡ 0) × (both ≡ first))
    ⊎ ((first.count ≡ 0) × (both ≡ next))
    ⊎ ((0 < first.count) × (both ≡ record { at = first.at; count = first.count + next.count; what = first.what }) × (next.what ≡ along first.what first.count))

-- neither is empty, and the next one does not go on where the first one ends
pub record IsParted (first next : Stretch) : Type 0 where
  pub first_some : 0 < first.count
  pub next_some : 0 < next.count
  pub unlike : ¬ (next.what ≡ along first.what first.count)

-- the sectors of a stretch, so many behind the first one of `out`, are filled with its bytes, and all others stay
pub record FillsStretch (tells : Bool) (file : List ℕ) (w : What) (skipped count : ℕ) (old new : List ℕ) : Type 0 where
  pub piece : List ℕ
  pub size : length piece ≡ 512 * count
  pub is : new ≡ take (512 * skipped) old ++ (piece ++ drop (512 * skipped + 512 * count) old)
  pub filled : IsPiece tells file w (512 * count) piece

-- whatever was read up to `from`, now it is read up to `until`
abbrev pub ReadsTo : Bool → List ℕ → (ℕ → Option What) → Extent → ℕ → ℕ → List ℕ → List ℕ → List Extent → List Extent → Type 0
ReadsTo tells file cells extent from until old new gaps_old gaps_new = (start : List ℕ) (gaps_then : List Extent)
    → IsRead tells file cells extent.at from start old gaps_then gaps_old → IsRead tells file cells extent.at until start new gaps_then gaps_new

-- the same up to the beginnings of two stretches that are not read yet
abbrev pub ReadsOn : Bool → List ℕ → (ℕ → Option What) → Extent → Stretch → Stretch → List ℕ → List ℕ → List Extent → List Extent → Type 0
ReadsOn tells file cells extent run next = ReadsTo tells file cells extent run.at next.at

-- What the definitions come to, in other words.
use Rattle.std.specs.Prelude.{◌≡◌, ℕ, ◌≤◌, List, length, Bool, IsTrue, Option, Some, None}
use Rattle.block_disk.specs.DiskState.{DiskState, Files}
use Rattle.seg_table.specs.declared.segment.Segment.{Segment}
use Rattle.seg_table.specs.declared.segment.What.{What}
use Rattle.seg_table.specs.declared.segment.What.TheVariants as what
use Rattle.seg_table.specs.Cells.{cell_in}
use Rattle.flat_image.specs.declared.act.Asked.TheVariants.{Uuid, Sectors}
use Rattle.flat_image.specs.declared.base.Base.{Base}
use Rattle.flat_image.specs.Sheets.{IsImage, flat}
use Rattle.flat_image.specs.Base.{image_of, IsBase, HasFewStretches}
use Rattle.flat_image.specs.History.{History, now, after, committed, kept}
use Rattle.flat_image.specs.Left.{Blamed}
use Rattle.top_writer.specs.Blank.{blank_sheet}
use Rattle.image_core.specs.Shows.{AreSealed, Shows, IsNamed}
use Rattle.image_core.specs.View.{CommitView, ImageView, HasKinds, sealed_read, sheets_read}
use Rattle.image_core.specs.Standing.{ShowsLeft, ViewStands}
use Rattle.image_core.specs.Keeping.{KeepsFor}

-- what files show is a base, with few stretches
abbrev pub ShowsABase : Files → Base → Type 0
ShowsABase files base = Shows files base → IsBase base × HasFewStretches base

-- over the same lowers files show one base at most, but for the count of faults, which they do not speak of
abbrev pub ShowsOneBase : Files → Base → Base → Type 0
ShowsOneBase files base other = Shows files base → Shows files other → base.lowers ≡ other.lowers → base.faults ≡ other.faults → base ≡ other

-- files that the manifest does not name are not looked at
abbrev pub ShowsByNamed : Files → Files → Base → Type 0
ShowsByNamed files other base = Shows files base → ((f : ℕ) → IsNamed base f → other f ≡ files f) → Shows other base

-- where all is kept and no freeze, seal or grow failed since the last one that was made, what a crash leaves shows what
-- the history made
abbrev pub KeptShows : Base → History → Files → Type 0
KeptShows base history files =
    ShowsLeft base history files → kept history ≡ length history → ((uuid : List ℕ) → Blamed history (Uuid uuid) → ⊥)
    → ((sectors : ℕ) → Blamed history (Sectors sectors) → ⊥) → Shows files (now base history)

-- in whatever a crash leaves the committed files stand byte for byte
abbrev pub SealedStay : Base → History → Files → Type 0
SealedStay base history files = ShowsLeft base history files → AreSealed (committed base history) files

-- what a table that has no entry behind n sectors says where nothing is known of its data are the cells of its kinds
abbrev pub BlankHasKinds : ℕ → List Segment → Type 0
BlankHasKinds n table = ((i : ℕ) → n ≤ i → cell_in table i ≡ None) → HasKinds (blank_sheet n table) table

-- What an image keeps makes it stand for its history.
abbrev pub KeepsStands : Bool → DiskState → ℕ → ImageView → Base → History → Type 0
KeepsStands tells disk faults v base history = KeepsFor tells disk faults v base history → ViewStands tells disk faults v base history

-- the image after the history is that of what the history made, of as many sectors as the image has
abbrev pub HistoryReads : Bool → DiskState → ℕ → ImageView → Base → History → Type 0
HistoryReads tells disk faults v base history =
    ViewStands tells disk faults v base history → (image_of (now base history) ≡ after base history) × IsImage v.sectors (after base history)

-- where the disk tells, the sheets that the image reads, through its layers and its tables, make the image after the history
abbrev pub ImageReads : Bool → DiskState → ℕ → ImageView → Base → History → Type 0
ImageReads tells disk faults v base history =
    ViewStands tells disk faults v base history → IsTrue tells → flat v.sectors (sheets_read disk.seen base.lowers v) ≡ after base history

-- entries of the same kind: both none, both zero, or both a place
abbrev pub AreAlike : Option What → Option What → Type 0
AreAlike None None = Unit {0}
AreAlike None (Some w) = ⊥
AreAlike (Some w) None = ⊥
AreAlike (Some what.Zero) (Some what.Zero) = Unit {0}
AreAlike (Some what.Zero) (Some (what.Place place)) = ⊥
AreAlike (Some (what.Place place)) (Some what.Zero) = ⊥
AreAlike (Some (what.Place place)) (Some (what.Place other)) = Unit {0}

-- tables with entries of the same kinds
abbrev pub SameKinds : List Segment → List Segment → Type 0
SameKinds table other = (i : ℕ) → AreAlike (cell_in table i) (cell_in other i)

-- the same commit in progress, or none
abbrev pub SameCommit : Option CommitView → Option CommitView → Type 0
SameCommit None None = Unit {0}
SameCommit None (Some d) = ⊥
SameCommit (Some c) None = ⊥
SameCommit (Some c) (Some d) = (c.uuid ≡ d.uuid) × (c.epoch ≡ d.epoch) × SameKinds c.table d.table

-- two images tell the same of themselves: all but the places in their tables
pub record TellSame (v w : ImageView) : Type 0 where
  pub sectors : v.sectors ≡ w.sectors
  pub lowers : v.lowers ≡ w.lowers
  pub committed : v.committed ≡ w.committed
  pub commit : SameCommit v.commit w.commit
  pub epoch : v.epoch ≡ w.epoch
  pub table : SameKinds v.table w.table
  pub rows : v.rows ≡ w.rows
  pub filled : v.filled ≡ w.filled
  pub steps : v.steps ≡ w.steps

-- and they read the same: committed files byte for byte, and sheets cell by cell
pub record ReadSame (lowers : List (List ℕ)) (files : Files) (v : ImageView) (other : Files) (w : ImageView) : Type 0 where
  pub committed : sealed_read files (length v.committed) ≡ sealed_read other (length w.committed)
  pub sheets : sheets_read files lowers v ≡ sheets_read other lowers w

-- a history over a base says all that an image that stands for it tells of itself, whatever its disk
abbrev pub HistoryTells : Bool → DiskState → ℕ → ImageView → DiskState → ℕ → ImageView → Type 0
HistoryTells tells disk faults v disk' faults' w =
    (base : Base) (history : History) → ViewStands tells disk faults v base history → ViewStands tells disk' faults' w base history
    → TellSame v w × (IsTrue tells → ReadSame base.lowers disk.seen v disk'.seen w)

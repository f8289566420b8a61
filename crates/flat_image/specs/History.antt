-- A history of acts on an image: what each act changes, and what the image is along it.
use Rattle.std.specs.Prelude.{◌≡◌, ◌≢◌, ℕ, zero, suc, ◌+◌, ◌*◌, ◌^◌, ◌<◌, ◌≤◌, ◌⊎◌, Bool, true, false, if◌then◌else◌, List, [], ◌∷◌, ◌++◌, length, map, take, drop, replicate, fold, count_by, Contains, Option, Some, None, ⊤}
use Rattle.sector_extent.specs.Rows.{rows_for}
use Rattle.lsmt_header.specs.Blocks.{nil}
use Rattle.flat_image.specs.declared.act.Act.{Act}
use Rattle.flat_image.specs.declared.act.Act.TheVariants.{Read, Write, Zero, Flush, Freeze, Seal, Grow, Fault}
use Rattle.flat_image.specs.declared.base.Base.{Base}
use Rattle.flat_image.specs.declared.stands.Entry.{Entry}
use Rattle.flat_image.specs.Sheets.{Cell, Filled, zero_sector, lengthened, bytes_of}
use Rattle.flat_image.specs.Sheets as sheets
use Rattle.flat_image.specs.Sectors.{sectors_in, sector_count, put_at}
use Rattle.flat_image.specs.Frozen.{Frozen}
use Rattle.flat_image.specs.LayerReading.{uuid_in}
use Rattle.flat_image.specs.CanonicalFiles.{file_of}
use Rattle.flat_image.specs.Base.{holes, with_holes, pending_of, top_uuid, top_size, image_of}

-- entries in order, the oldest first
abbrev pub History : Type 0
History = List (Entry Act)

-- the image after an act: a write and a zero change it, a grow adds zeros, and nothing else does
abbrev pub changed : List (List ℕ) → Act → List (List ℕ)
changed image (Read at count) = image
changed image (Write at bytes) = put_at at (sectors_in bytes) image
changed image (Zero at count) = put_at at (replicate count zero_sector) image
changed image Flush = image
changed image (Freeze uuid) = image
changed image (Seal uuid) = image
changed image (Grow sectors) = lengthened sectors image
changed image (Fault asked) = image

-- the image after a history
abbrev pub after : Base → History → List (List ℕ)
after base history = fold (λ image e. changed image e.act) (image_of base) history

-- what a read of these sectors gives after a history, as bytes
abbrev pub reply : Base → History → ℕ → ℕ → List ℕ
reply base history at count = bytes_of (take count (drop at (after base history)))

-- a sheet after an act: a write fills its cells, a zero makes its cells zero, a grow adds holes
abbrev pub written : List Cell → Act → List Cell
written sheet (Read at count) = sheet
written sheet (Write at bytes) = put_at at (map Filled (sectors_in bytes)) sheet
written sheet (Zero at count) = put_at at (replicate count sheets.Zero) sheet
written sheet Flush = sheet
written sheet (Freeze uuid) = sheet
written sheet (Seal uuid) = sheet
written sheet (Grow sectors) = with_holes sectors sheet
written sheet (Fault asked) = sheet

-- the rows and the sectors that an act takes in a top
abbrev pub rows_taken : Act → ℕ
rows_taken (Read at count) = 0
rows_taken (Write at bytes) = rows_for (sector_count bytes)
rows_taken (Zero at count) = rows_for count
rows_taken Flush = 0
rows_taken (Freeze uuid) = 0
rows_taken (Seal uuid) = 0
rows_taken (Grow sectors) = 0
rows_taken (Fault asked) = 0

abbrev pub sectors_taken : Act → ℕ
sectors_taken (Read at count) = 0
sectors_taken (Write at bytes) = sector_count bytes
sectors_taken (Zero at count) = 0
sectors_taken Flush = 0
sectors_taken (Freeze uuid) = 0
sectors_taken (Seal uuid) = 0
sectors_taken (Grow sectors) = 0
sectors_taken (Fault asked) = 0

-- the layer that a commit in progress becomes, over these files
abbrev pub sealed_over : List (List ℕ) → Option Frozen → List (List ℕ)
sealed_over files None = []
sealed_over files (Some f) = file_of f.uuid (top_uuid files) (top_size (length f.sheet) files) f.sheet ∷ []

-- what an image is made of after an act
abbrev pub step : Base → Act → Base
step b (Read at count) = b
step b (Write at bytes) = record b
    { top = written b.top (Write at bytes); rows = b.rows + rows_taken (Write at bytes); filled = b.filled + sectors_taken (Write at bytes) }
step b (Zero at count) = record b { top = written b.top (Zero at count); rows = b.rows + rows_taken (Zero at count) }
step b Flush = b
step b (Freeze uuid) = record b { frozen = Some (record { uuid = uuid; sheet = b.top }); top = holes b.sectors; rows = 0; filled = 0 }
step b (Seal uuid) = record b { done = b.done ++ sealed_over (b.lowers ++ b.done) b.frozen; frozen = None }
step b (Grow sectors) = record b { sectors = sectors; top = written b.top (Grow sectors) }
step b (Fault asked) = b

-- what an image is made of after a history: its layers, the frozen sheet, the top, and what the top has used
abbrev pub now : Base → History → Base
now base history = fold (λ b e. step b e.act) base history

-- the number of sectors
abbrev pub size : Base → History → ℕ
size base history = (now base history).sectors

-- the layers that the image has committed
abbrev pub committed : Base → History → List (List ℕ)
committed base history = (now base history).done

-- the sheet that is being committed, with its uuid
abbrev pub frozen : Base → History → Option Frozen
frozen base history = (now base history).frozen

-- the uuid of the commit in progress
abbrev pub pending : Base → History → Option (List ℕ)
pending base history = pending_of (frozen base history)

-- the top as it stands before the entry at that place; of a Freeze there, the sheet that it freezes
abbrev pub sheet_at : Base → History → ℕ → List Cell
sheet_at base history place = (now base (take place history)).top

-- the rows and the sectors that the top has used
abbrev pub used_rows : Base → History → ℕ
used_rows base history = (now base history).rows

abbrev pub used_sectors : Base → History → ℕ
used_sectors base history = (now base history).filled

-- an act after which all before it is kept
abbrev pub keeps : Act → Bool
keeps (Read at count) = false
keeps (Write at bytes) = false
keeps (Zero at count) = false
keeps Flush = true
keeps (Freeze uuid) = true
keeps (Seal uuid) = false
keeps (Grow sectors) = true
keeps (Fault asked) = false

-- a place counted from one entry earlier: one more, and 0 where there is none and the entry does not keep
abbrev pub kept_from : ℕ → Bool → ℕ
kept_from zero keeping = if keeping then 1 else 0
kept_from (suc place) keeping = suc (suc place)

-- the place just after the last act that keeps, or 0
abbrev pub kept : History → ℕ
kept [] = 0
kept (e ∷ es) = kept_from (kept es) (keeps e.act)

-- a failed step
abbrev pub is_fault : Act → Bool
is_fault (Read at count) = false
is_fault (Write at bytes) = false
is_fault (Zero at count) = false
is_fault Flush = false
is_fault (Freeze uuid) = false
is_fault (Seal uuid) = false
is_fault (Grow sectors) = false
is_fault (Fault asked) = true

-- the number of failed steps
abbrev pub fault_count : History → ℕ
fault_count history = count_by (λ e. is_fault e.act) history

-- the top has used no more than it may
pub record HasRoom (rows filled : ℕ) : Type 0 where
  pub rows_fit : rows ≤ 2 ^ 22
  pub sectors_fit : filled ≤ 2 ^ 30

-- the top has used more than it may
abbrev pub IsOver : ℕ → ℕ → Type 0
IsOver rows filled = (2 ^ 22 < rows) ⊎ (2 ^ 30 < filled)

-- these layers can get one more with that uuid, and no commit is in progress
pub record CanFreeze (layers : List (List ℕ)) (frozen : Option Frozen) (uuid : List ℕ) : Type 0 where
  pub long : length uuid ≡ 16
  pub named : uuid ≢ nil
  pub free : frozen ≡ None
  pub few : length layers < 255
  pub unlike : Contains (map uuid_in layers) uuid → ⊥

-- an image of n sectors can get so many, and no commit is in progress
pub record CanGrow (n : ℕ) (frozen : Option Frozen) (sectors : ℕ) : Type 0 where
  pub free : frozen ≡ None
  pub more : n < sectors
  pub few : sectors ≤ 2 ^ 31

-- whole sectors, within an image of n sectors from that place on
pub record IsWithin (n at : ℕ) (bytes : List ℕ) : Type 0 where
  pub whole : length bytes ≡ 512 * sector_count bytes
  pub within : at + sector_count bytes ≤ n

-- the act may come next
abbrev pub Allowed : Base → Act → Type 0
Allowed b (Read at count) = at + count ≤ b.sectors
Allowed b (Write at bytes) = IsWithin b.sectors at bytes
Allowed b (Zero at count) = at + count ≤ b.sectors
Allowed b Flush = ⊤
Allowed b (Freeze uuid) = CanFreeze (b.lowers ++ b.done) b.frozen uuid
Allowed b (Seal uuid) = pending_of b.frozen ≡ Some uuid
Allowed b (Grow sectors) = CanGrow b.sectors b.frozen sectors
Allowed b (Fault asked) = ⊤

-- each act may come at its place, and at no place has the top used more than it may
abbrev pub Proper : Base → History → Type 0
Proper base [] = HasRoom base.rows base.filled
Proper base (e ∷ es) = HasRoom base.rows base.filled × Allowed base e.act × Proper (step base e.act) es

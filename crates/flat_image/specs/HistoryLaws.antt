-- What the definitions along a history come to, in other words.
use Rattle.std.specs.Prelude.{◌≡◌, ℕ, suc, ◌+◌, ◌≤◌, ◌⊎◌, ◌↔◌, Bool, true, false, if◌then◌else◌, List, [], ◌∷◌, ◌++◌, length, drop, fold, sum_by, All, Some, None}
use Rattle.std.specs.List.{list_any}
use Rattle.lsmt_header.specs.declared.head.Head.{Head}
use Rattle.flat_image.specs.declared.act.Act.{Act}
use Rattle.flat_image.specs.declared.act.Act.TheVariants.{Read, Write, Zero, Flush, Freeze, Seal, Grow, Fault}
use Rattle.flat_image.specs.declared.act.Asked.TheVariants.{Uuid, Sectors}
use Rattle.flat_image.specs.declared.base.Base.{Base}
use Rattle.flat_image.specs.declared.stands.Entry.{Entry}
use Rattle.flat_image.specs.Sheets.{Cell, IsSheet, IsImage}
use Rattle.flat_image.specs.Frozen.{Frozen}
use Rattle.flat_image.specs.CanonicalFiles.{canonical_head, file_of}
use Rattle.flat_image.specs.LayerFiles.{LayerFile}
use Rattle.flat_image.specs.Stacks.{StandsOn}
use Rattle.flat_image.specs.LayerReading.{sheet_in, uuid_in, size_in}
use Rattle.flat_image.specs.Base.{holes, top_uuid, top_size, image_of, IsBase, HasFewStretches}
use Rattle.flat_image.specs.Entries.{entry, StartsWith}
use Rattle.flat_image.specs.History.{History, now, size, after, written, rows_taken, sectors_taken, committed, frozen, pending, sheet_at, used_rows, used_sectors, keeps, kept, Proper}
use Rattle.flat_image.specs.Left.{Kept, Blamed, moves_layers, Left}

abbrev pub freezes : Act → Bool
freezes (Read at count) = false
freezes (Write at bytes) = false
freezes (Zero at count) = false
freezes Flush = false
freezes (Freeze uuid) = true
freezes (Seal uuid) = false
freezes (Grow sectors) = false
freezes (Fault asked) = false

abbrev pub has_freeze : History → Bool
has_freeze history = list_any (λ e. freezes e.act) history

-- the entries after the last Freeze, or all where there is none
abbrev pub since_freeze : History → History
since_freeze [] = []
since_freeze (e ∷ es) = if has_freeze es then since_freeze es else if freezes e.act then es else e ∷ es

-- the entries before the last Freeze, or none where there is none
abbrev pub before_freeze : History → History
before_freeze [] = []
before_freeze (e ∷ es) = if has_freeze es then e ∷ before_freeze es else []

-- the number of sectors after an act: a grow's own
abbrev pub grown : ℕ → Act → ℕ
grown n (Read at count) = n
grown n (Write at bytes) = n
grown n (Zero at count) = n
grown n Flush = n
grown n (Freeze uuid) = n
grown n (Seal uuid) = n
grown n (Grow sectors) = sectors
grown n (Fault asked) = n

-- the number of the last Grow, or n
abbrev pub last_size : ℕ → History → ℕ
last_size n [] = n
last_size n (e ∷ es) = last_size (grown n e.act) es

abbrev pub SizeIsLast : Base → History → Type 0
SizeIsLast base history = size base history ≡ last_size base.sectors history

-- an image never gets smaller
abbrev pub SizeRises : Base → History → Type 0
SizeRises base history = Proper base history → base.sectors ≤ size base history

-- the top: from as many holes as there are sectors at the last Freeze, or from the base's own, each write, zero and grow since
abbrev pub TopIsSinceFreeze : Base → History → Type 0
TopIsSinceFreeze base history =
    (now base history).top
    ≡ fold (λ sheet e. written sheet e.act) (if has_freeze history then holes (last_size base.sectors (before_freeze history)) else base.top) (since_freeze history)

-- what is used: the sums since the last Freeze, and what the base had used where there is none
pub record UsedIsSum (base : Base) (history : History) : Type 0 where
  pub rows : used_rows base history
      ≡ (if has_freeze history then 0 else base.rows) + sum_by (λ e. rows_taken e.act) (since_freeze history)
  pub sectors : used_sectors base history
      ≡ (if has_freeze history then 0 else base.filled) + sum_by (λ e. sectors_taken e.act) (since_freeze history)

-- a Freeze freezes the top as it stands there
abbrev pub FreezeTakesTop : Base → History → Type 0
FreezeTakesTop base history =
    (number : ℕ) (uuid : List ℕ)
    → frozen base (history ++ entry number (Freeze uuid) ∷ []) ≡ Some (record { uuid = uuid; sheet = sheet_at base (history ++ entry number (Freeze uuid) ∷ []) (length history) })

-- a Seal leaves nothing frozen, and but for it and a Freeze no act changes what is frozen
pub record FrozenStays (base : Base) (history : History) : Type 0 where
  pub seal : (number : ℕ) (uuid : List ℕ) → frozen base (history ++ entry number (Seal uuid) ∷ []) ≡ None
  pub other : (number : ℕ) (act : Act) → moves_layers act ≡ false → frozen base (history ++ entry number act ∷ []) ≡ frozen base history

-- a Seal adds the canonical file of the frozen sheet, over the uppermost file before it, and nothing else adds one
pub record SealAddsFile (base : Base) (history : History) : Type 0 where
  pub seal : (number : ℕ) (uuid : List ℕ) → pending base history ≡ Some uuid
      → (sheet : List Cell) × (frozen base history ≡ Some (record { uuid = uuid; sheet = sheet }))
      × (committed base (history ++ entry number (Seal uuid) ∷ [])
      ≡ committed base history ++ file_of uuid (top_uuid (base.lowers ++ committed base history)) (top_size (length sheet) (base.lowers ++ committed base history)) sheet ∷ [])
  pub other : (number : ℕ) (act : Act) → (committed base (history ++ entry number act ∷ []) ≡ committed base history) ⊎ ((uuid : List ℕ) × (act ≡ Seal uuid))

-- what is kept is a place of the history, behind which nothing keeps
pub record KeptIsPlace (history : History) : Type 0 where
  pub within : kept history ≤ length history
  pub unkept : All (λ e. keeps e.act ≡ false) (drop (kept history) history)
  pub keeping : (front : History) (e : Entry Act) (rest : History) → history ≡ front ++ e ∷ rest → keeps e.act ≡ true → suc (length front) ≤ kept history
  pub least : (kept history ≡ 0)
      ⊎ ((front : History) × (e : Entry Act) × (rest : History)
      × (history ≡ front ++ e ∷ rest) × (keeps e.act ≡ true) × (kept history ≡ suc (length front)))

-- where all is kept and no freeze, seal or grow failed since the last one that was made, a crash leaves what the history made
abbrev pub LeavesNow : Base → History → Type 0
LeavesNow base history =
    kept history ≡ length history → ((uuid : List ℕ) → Blamed history (Uuid uuid) → ⊥) → ((sectors : ℕ) → Blamed history (Sectors sectors) → ⊥)
    → (b : Base) → Left base history b → b ≡ now base history

-- a beginning has all that is kept just where it reaches to that place
abbrev pub KeptReaches : History → History → Type 0
KeptReaches history front = Kept history front ↔ (StartsWith history front × (kept history ≤ length front))

-- what is frozen becomes a layer with its sheet, over the uppermost file: the file that a Seal adds is that of such a layer
abbrev pub SheetsBecomeLayers : Base → Type 0
SheetsBecomeLayers base =
    (f : Frozen) → base.frozen ≡ Some f → IsBase base → HasFewStretches base
    → LayerFile
    (file_of f.uuid (top_uuid (base.lowers ++ base.done)) (top_size (length f.sheet) (base.lowers ++ base.done)) f.sheet)
    (canonical_head f.uuid (top_uuid (base.lowers ++ base.done)) (top_size (length f.sheet) (base.lowers ++ base.done)) f.sheet) f.sheet

-- and it may stand over the uppermost file
abbrev pub SealedStands : Base → Type 0
SealedStands base =
    (f : Frozen) → base.frozen ≡ Some f → IsBase base
    → StandsOn (top_size (length f.sheet) (base.lowers ++ base.done))
    (canonical_head f.uuid (top_uuid (base.lowers ++ base.done)) (top_size (length f.sheet) (base.lowers ++ base.done)) f.sheet)

-- from a base with few stretches, a proper history leads to such a base again
abbrev pub BaseStays : Base → History → Type 0
BaseStays base history = IsBase base → HasFewStretches base → Proper base history → IsBase (now base history) × HasFewStretches (now base history)

-- the image after a history is the image of what the history made
abbrev pub AfterIsImage : Base → History → Type 0
AfterIsImage base history = IsBase base → HasFewStretches base → Proper base history → image_of (now base history) ≡ after base history

-- what a base reads as is an image
abbrev pub BaseIsImage : Base → Type 0
BaseIsImage base = IsBase base → IsImage base.sectors (image_of base)

-- what is read of a layer file is what the layer has
pub record ReadsLayer (file : List ℕ) (head : Head) (sheet : List Cell) : Type 0 where
  pub cells : sheet_in file ≡ sheet
  pub name : uuid_in file ≡ head.uuid
  pub size : size_in file ≡ head.sectors
  pub whole : IsSheet head.sectors sheet

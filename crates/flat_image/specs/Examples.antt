-- Small histories, and what the definitions give of them.
use Rattle.std.specs.Prelude.{true, ◌≡◌, ℕ, ◌^◌, length, List, [], ◌∷◌, ◌++◌, map, take, replicate, Some, None}
use Rattle.sector_extent.specs.Rows.{rows_for}
use Rattle.flat_image.specs.declared.act.Act.TheVariants.{Read, Write, Zero, Flush, Freeze, Seal, Grow, Fault}
use Rattle.flat_image.specs.declared.act.Asked.TheVariants.{Nothing, Sectors}
use Rattle.flat_image.specs.declared.base.Base.{Base}
use Rattle.flat_image.specs.Sheets.{Cell, Hole, Filled, flat}
use Rattle.flat_image.specs.Sheets as sheets
use Rattle.lsmt_header.specs.Blocks.{nil}
use Rattle.flat_image.specs.CanonicalFiles.{canonical_head, file_of}
use Rattle.flat_image.specs.LayerReading.{sheet_in, uuid_in, size_in}
use Rattle.flat_image.specs.Stacks.{AreRising}
use Rattle.flat_image.specs.Base.{fresh}
use Rattle.flat_image.specs.Entries.{entry, calls_by}
use Rattle.flat_image.specs.History.{History, now, size, reply, committed, frozen, pending, used_rows, used_sectors, kept, sheet_at, fault_count, CanFreeze, CanGrow}
use Rattle.flat_image.specs.Left.{Left}
use Rattle.flat_image.specs.Ports.{IsWorn, IsOverFor, HasRoomFor}

-- a sector of one byte, and a uuid of one byte
abbrev pub sector : ℕ → List ℕ
sector byte = replicate 512 byte

abbrev pub uuid : ℕ → List ℕ
uuid byte = replicate 16 byte

-- three sectors are written, the second of them again, and the third is made zero
abbrev pub writes : History
writes =
    entry 0 (Write 3 (sector 0x61 ++ sector 0x62 ++ sector 0x63))
    ∷ entry 0 (Write 4 (sector 0x64))
    ∷ entry 0 (Zero 5 1)
    ∷ []

abbrev pub written_sheet : List Cell
written_sheet = Hole ∷ Hole ∷ Hole ∷ Filled (sector 0x61) ∷ Filled (sector 0x64) ∷ sheets.Zero ∷ Hole ∷ Hole ∷ []

pub record WritesAndCommit : Type 0 where
  pub read : reply (fresh 8 []) writes 3 3 ≡ sector 0x61 ++ sector 0x64 ++ sector 0
  pub rows : used_rows (fresh 8 []) writes ≡ 3
  pub sectors : used_sectors (fresh 8 []) writes ≡ 4
  pub kept_none : kept writes ≡ 0
  pub frozen_sheet : frozen (fresh 8 []) (writes ++ entry 1 (Freeze (uuid 0x22)) ∷ []) ≡ Some (record { uuid = uuid 0x22; sheet = written_sheet })
  pub used_again : used_rows (fresh 8 []) (writes ++ entry 1 (Freeze (uuid 0x22)) ∷ []) ≡ 0
  pub in_progress : pending (fresh 8 []) (writes ++ entry 1 (Freeze (uuid 0x22)) ∷ []) ≡ Some (uuid 0x22)
  pub over : pending (fresh 8 []) (writes ++ entry 1 (Freeze (uuid 0x22)) ∷ entry 1 (Seal (uuid 0x22)) ∷ []) ≡ None
  pub layer : committed (fresh 8 []) (writes ++ entry 1 (Freeze (uuid 0x22)) ∷ entry 1 (Seal (uuid 0x22)) ∷ [])
      ≡ file_of (uuid 0x22) nil 8 written_sheet ∷ []
  pub read_again : reply (fresh 8 []) (writes ++ entry 1 (Freeze (uuid 0x22)) ∷ entry 1 (Seal (uuid 0x22)) ∷ []) 3 3
      ≡ sector 0x61 ++ sector 0x64 ++ sector 0

-- a sector is written and flushed, and then another one is written
abbrev pub flushed : History
flushed = entry 0 (Write 0 (sector 0x61)) ∷ entry 0 Flush ∷ entry 0 (Write 1 (sector 0x62)) ∷ []

pub record FlushAndCrash : Type 0 where
  pub place : kept flushed ≡ 2
  pub kept_read : reply (fresh 8 []) (take (kept flushed) flushed) 0 2 ≡ sector 0x61 ++ sector 0
  pub whole_read : reply (fresh 8 []) flushed 0 2 ≡ sector 0x61 ++ sector 0x62
  pub first_alone : Left (fresh 8 []) flushed (now (fresh 8 []) (take 2 flushed))
  pub both : Left (fresh 8 []) flushed (now (fresh 8 []) flushed)

-- two callers and a commit, over one layer
abbrev pub lanes : History
lanes =
    entry 0 (Read 1 1)
    ∷ entry 1 (Write 1 (sector 0x7A))
    ∷ entry 1 Flush
    ∷ entry 2 (Freeze (uuid 0x22))
    ∷ entry 2 (Seal (uuid 0x22))
    ∷ []

pub record LanesAndCommit (layer : List ℕ) : Type 0 where
  pub before : reply (fresh 4 (layer ∷ [])) [] 1 1 ≡ sector 0x61
  pub behind : reply (fresh 4 (layer ∷ [])) lanes 1 2 ≡ sector 0x7A ++ sector 0x62
  pub place : kept lanes ≡ 4
  pub sheet : sheet_at (fresh 4 (layer ∷ [])) lanes 3 ≡ Hole ∷ Filled (sector 0x7A) ∷ Hole ∷ Hole ∷ []
  pub layers : committed (fresh 4 (layer ∷ [])) lanes
      ≡ file_of (uuid 0x22) (uuid_in layer) 4 (Hole ∷ Filled (sector 0x7A) ∷ Hole ∷ Hole ∷ []) ∷ []
  pub own : calls_by 1 lanes ≡ entry 1 (Write 1 (sector 0x7A)) ∷ entry 1 Flush ∷ []

-- a layer with two sectors of 0x61 and 0x62 at sector 1
abbrev pub LanesOverLayer : Type 0
LanesOverLayer = (layer : List ℕ) → size_in layer ≡ 4 → sheet_in layer ≡ Hole ∷ Filled (sector 0x61) ∷ Filled (sector 0x62) ∷ Hole ∷ [] → LanesAndCommit layer

-- a top that is nearly full
abbrev pub nearly_full : Base
nearly_full = record (fresh 131072 []) { rows = 4194300 }

-- and one whose data are full
abbrev pub full_data : Base
full_data = record (fresh 131072 []) { filled = 2 ^ 30 }

pub record FullTop : Type 0 where
  pub large : rows_for 65536 ≡ 5
  pub larger : rows_for 8388607 ≡ 513
  pub over : IsOverFor nearly_full [] (Zero 0 65536)
  pub room : HasRoomFor nearly_full [] (Zero 0 65532)
  pub data_over : IsOverFor full_data [] (Write 0 (sector 0x61))
  pub data_room : HasRoomFor full_data [] (Zero 0 1)

-- a flush fails, and the next one keeps what was written before either
abbrev pub healed : History
healed = entry 0 (Write 0 (sector 0x61)) ∷ entry 0 (Fault Nothing) ∷ entry 0 (Write 1 (sector 0x62)) ∷ entry 0 Flush ∷ []

-- a layer is frozen, and then another is asked for
pub record FaultsAndOrder : Type 0 where
  pub place : kept healed ≡ 4
  pub failed : fault_count healed ≡ 1
  pub read : reply (fresh 8 []) healed 0 2 ≡ sector 0x61 ++ sector 0x62
  pub busy : CanFreeze [] (frozen (fresh 8 []) (entry 0 (Freeze (uuid 0x11)) ∷ [])) (uuid 0x22) → ⊥
  pub many : (layers : List (List ℕ)) → length layers ≡ 255 → CanFreeze layers None (uuid 0x22) → ⊥
  pub worn : IsWorn (record { home = []; tells = true; base = fresh 8 []; first = 4611686018427387903; number = 0; seen = entry 0 Flush ∷ []; faults = 0 })

-- an image over one layer of four sectors grows to six, and what is written in its new part is committed
abbrev pub growing : History
growing =
    entry 0 (Grow 6)
    ∷ entry 0 (Write 5 (sector 0x64))
    ∷ entry 0 (Freeze (uuid 0x22))
    ∷ entry 0 (Seal (uuid 0x22))
    ∷ []

abbrev pub short_sheet : List Cell
short_sheet = Hole ∷ Filled (sector 0x61) ∷ Filled (sector 0x62) ∷ Hole ∷ []

abbrev pub tall_sheet : List Cell
tall_sheet = Hole ∷ Hole ∷ Hole ∷ Hole ∷ Hole ∷ Filled (sector 0x64) ∷ []

pub record GrowAndCommit (layer : List ℕ) : Type 0 where
  pub sectors : size (fresh 4 (layer ∷ [])) growing ≡ 6
  pub place : kept (take 2 growing) ≡ 1
  pub old_part : reply (fresh 4 (layer ∷ [])) growing 1 3 ≡ sector 0x61 ++ sector 0x62 ++ sector 0
  pub new_part : reply (fresh 4 (layer ∷ [])) growing 4 2 ≡ sector 0 ++ sector 0x64
  pub layers : committed (fresh 4 (layer ∷ [])) growing ≡ file_of (uuid 0x22) (uuid_in layer) 4 tall_sheet ∷ []
  pub version : (canonical_head (uuid 0x22) (uuid_in layer) 4 tall_sheet).version ≡ 2
  pub old_version : (canonical_head (uuid 0x22) (uuid_in layer) 6 tall_sheet).version ≡ 1
  pub may_be_left : Left (fresh 4 (layer ∷ [])) (entry 0 (Fault (Sectors 6)) ∷ []) (now (fresh 4 (layer ∷ [])) (entry 0 (Grow 6) ∷ []))

abbrev pub GrowOverLayer : Type 0
GrowOverLayer = (layer : List ℕ) → size_in layer ≡ 4 → sheet_in layer ≡ short_sheet → GrowAndCommit layer

-- an image that has more sectors than its layer from the start
pub record TallerImage (layer : List ℕ) : Type 0 where
  pub fits : AreRising 0 8 (map size_in (layer ∷ []))
  pub smaller : AreRising 0 3 (map size_in (layer ∷ [])) → ⊥
  pub front : reply (fresh 8 (layer ∷ [])) [] 0 4 ≡ sector 0 ++ (sector 0x61 ++ (sector 0x62 ++ sector 0))
  pub behind : reply (fresh 8 (layer ∷ [])) [] 4 4 ≡ replicate {A = ℕ} 2048 0

abbrev pub ImageOverLayer : Type 0
ImageOverLayer = (layer : List ℕ) → size_in layer ≡ 4 → sheet_in layer ≡ short_sheet → TallerImage layer

pub record SizesAndOrder : Type 0 where
  pub painted : flat 6 (short_sheet ∷ tall_sheet ∷ []) ≡ sector 0 ∷ sector 0x61 ∷ sector 0x62 ∷ sector 0 ∷ sector 0 ∷ sector 0x64 ∷ []
  pub same : CanGrow 6 None 6 → ⊥
  pub busy : CanGrow 4 (frozen (fresh 4 []) (entry 0 (Freeze (uuid 0x11)) ∷ [])) 6 → ⊥
  pub shrinks : CanGrow 6 None 4 → ⊥

-- The three files of a top: its data, its rows and its mark.
use Rattle.std.specs.Prelude.{◌≡◌, ℕ, ◌+◌, ◌*◌, ◌⊎◌, ◌≤◌, Bool, IsTrue, List, [], take, drop, Option, Some, None}
use Rattle.std.specs.Int.{w64, from_le_bytes}
use Rattle.block_disk.specs.DiskState.{Files}
use Rattle.lsmt_header.specs.declared.head.Head.{Head}
use Rattle.lsmt_header.specs.declared.head.Kind.{Kind}
use Rattle.lsmt_header.specs.Blocks.{BlockOf, nil, raw_head}

-- the numbers of the files of an epoch
abbrev pub data_file : ℕ → ℕ
data_file epoch = 4 * epoch + 1

abbrev pub index_file : ℕ → ℕ
index_file epoch = 4 * epoch + 2

abbrev pub mark_file : ℕ → ℕ
mark_file epoch = 4 * epoch + 3

-- the file is one of the three
abbrev pub TopFiles : ℕ → ℕ → Type 0
TopFiles epoch f = (f ≡ data_file epoch) ⊎ (f ≡ index_file epoch) ⊎ (f ≡ mark_file epoch)

-- what the three files hold
pub record Stored : Type 0 where
  pub bytes : List ℕ
  pub index : List ℕ
  pub mark : List ℕ

abbrev pub stored_in : ℕ → Files → Stored
stored_in epoch files = record { bytes = files (data_file epoch); index = files (index_file epoch); mark = files (mark_file epoch) }

-- the rows and the sectors that the body of a mark counts
unfoldable pub rows_said : List ℕ → ℕ
rows_said body = from_le_bytes w64 (take 8 body)

unfoldable pub sectors_said : List ℕ → ℕ
sectors_said body = from_le_bytes w64 (take 8 (drop 8 body))

-- the first block of a file is that of a head of the kind
abbrev pub HasBlock : Kind → List ℕ → Type 0
HasBlock kind file = (head : Head) × BlockOf (take 4096 file) head × (head.kind ≡ kind)

-- the sectors of the image and the parent, as the first block of a file says them
unfoldable pub size_said : List ℕ → ℕ
size_said file = (raw_head (take 4096 file)).sectors

unfoldable pub parent_said : List ℕ → List ℕ
parent_said file = (raw_head (take 4096 file)).parent

-- so many sectors, as a head says them, are no more than the n of the image; where they have to be exact, just those
pub record IsSizeFor (exact : Bool) (n size : ℕ) : Type 0 where
  pub within : size ≤ n
  pub same : IsTrue exact → size ≡ n

-- the head of a top's file says such a size
abbrev pub HasSectors : Bool → ℕ → List ℕ → Type 0
HasSectors exact n file = IsSizeFor exact n (size_said file)

-- it is the parent that is asked for, where one is asked for
abbrev pub IsParent : Option (List ℕ) → List ℕ → Type 0
IsParent None parent = Unit {0}
IsParent (Some asked) parent = parent ≡ asked

-- what is asked of the heads of a top's files: whether their sectors have to be just those of the image, and the parent,
-- where one is asked for
pub record HeadsAsked : Type 0 where
  pub exact : Bool
  pub parent : Option (List ℕ)

abbrev pub asked_of : Bool → Option (List ℕ) → HeadsAsked
asked_of exact parent = record { exact = exact; parent = parent }

-- what the head of a top's file says when it is made
abbrev pub new_head : Kind → ℕ → List ℕ → Head
new_head kind n parent = record
    { version = 1; kind = kind; index_at = 0; rows = 0; sectors = n; uuid = nil; parent = parent; tag = [] }

-- The block of a head: 4,096 bytes with ten fields. Numbers have their lowest byte first.
use Rattle.std.specs.Prelude.{◌≡◌, ◌≢◌, ℕ, ◌<◌, ◌≤◌, ◌^◌, ◌⊎◌, List, [], ◌∷◌, length, take, drop, replicate, codes}
use Rattle.std.specs.List.{concat}
use Rattle.std.specs.Int.{w32, w64, to_le_bytes, from_le_bytes}
use Rattle.lsmt_header.specs.declared.head.Head.{Head}
use Rattle.lsmt_header.specs.declared.head.Kind.{Kind}
use Rattle.lsmt_header.specs.declared.head.Kind.TheVariants.{SealedHead, SealedEnd, TopBytes, TopRows}
use Rattle.lsmt_header.specs.Tags.{IsTagText, padded}

-- the ten fields, whatever they say
pub record RawHead : Type 0 where
  pub magic : List ℕ
  pub version : ℕ
  pub flags : ℕ
  pub index_at : ℕ
  pub rows : ℕ
  pub sectors : ℕ
  pub uuid : List ℕ
  pub parent : List ℕ
  pub tag : List ℕ
  pub rest : List ℕ

-- the fields one after another
abbrev pub fields_of : RawHead → List (List ℕ)
fields_of raw =
    raw.magic
    ∷ to_le_bytes w32 raw.version
    ∷ to_le_bytes w32 raw.flags
    ∷ to_le_bytes w64 raw.index_at
    ∷ to_le_bytes w64 raw.rows
    ∷ to_le_bytes w64 raw.sectors
    ∷ raw.uuid
    ∷ raw.parent
    ∷ raw.tag
    ∷ raw.rest
    ∷ []

unfoldable pub raw_block : RawHead → List ℕ
raw_block raw = concat (fields_of raw)

-- so many bytes from a place on
abbrev pub part : ℕ → ℕ → List ℕ → List ℕ
part at size bytes = take size (drop at bytes)

-- the fields that a block has at their places
unfoldable pub raw_head : List ℕ → RawHead
raw_head bytes = record {
  magic = part 0 8 bytes;
  version = from_le_bytes w32 (part 8 4 bytes);
  flags = from_le_bytes w32 (part 12 4 bytes);
  index_at = from_le_bytes w64 (part 16 8 bytes);
  rows = from_le_bytes w64 (part 24 8 bytes);
  sectors = from_le_bytes w64 (part 32 8 bytes);
  uuid = part 40 16 bytes;
  parent = part 56 16 bytes;
  tag = part 72 256 bytes;
  rest = part 328 3768 bytes;
}

-- the fields have their sizes
pub record IsSized (raw : RawHead) : Type 0 where
  pub magic : length raw.magic ≡ 8
  pub version : raw.version < 2 ^ 32
  pub flags : raw.flags < 2 ^ 32
  pub index_at : raw.index_at < 2 ^ 64
  pub rows : raw.rows < 2 ^ 64
  pub sectors : raw.sectors < 2 ^ 64
  pub uuid : length raw.uuid ≡ 16
  pub parent : length raw.parent ≡ 16
  pub tag : length raw.tag ≡ 256
  pub rest : length raw.rest ≡ 3768

-- what a block begins with
abbrev pub magic : List ℕ
magic = codes "OBDLAYR1"

-- bit 0 says a head, 1 sealed, 2 a file of data, and 3 compressed
abbrev pub flags_of : Kind → ℕ
flags_of SealedHead = 7
flags_of SealedEnd = 6
flags_of TopBytes = 5
flags_of TopRows = 1

abbrev pub IsSealed : Kind → Type 0
IsSealed SealedHead = Unit {0}
IsSealed SealedEnd = Unit {0}
IsSealed TopBytes = ⊥
IsSealed TopRows = ⊥

-- the size of an image in sectors
abbrev pub IsSize : ℕ → Type 0
IsSize sectors = (1 ≤ sectors) × (sectors ≤ 2 ^ 31)

-- no uuid
abbrev pub nil : List ℕ
nil = replicate {A = ℕ} 16 0

-- the version that a block of this kind may have: 1, or in a sealed layer also 2
abbrev pub IsVersion : Kind → ℕ → Type 0
IsVersion kind version = (version ≡ 1) ⊎ (IsSealed kind × (version ≡ 2))

-- what a head has to be
pub record IsValid (head : Head) : Type 0 where
  pub version : IsVersion head.kind head.version
  pub size : IsSize head.sectors
  pub named : IsSealed head.kind → head.uuid ≢ nil

-- the fields of a head have their sizes
pub record Fits (head : Head) : Type 0 where
  pub index_at : head.index_at < 2 ^ 64
  pub rows : head.rows < 2 ^ 64
  pub uuid : length head.uuid ≡ 16
  pub parent : length head.parent ≡ 16
  pub tag : IsTagText head.tag

-- the ten fields of a head
abbrev pub raw_of : Head → RawHead
raw_of head = record {
  magic = magic;
  version = head.version;
  flags = flags_of head.kind;
  index_at = head.index_at;
  rows = head.rows;
  sectors = head.sectors;
  uuid = head.uuid;
  parent = head.parent;
  tag = padded head.tag;
  rest = replicate {A = ℕ} 3768 0;
}

-- the bytes are the block of this head, which is what a head has to be
pub record BlockOf (bytes : List ℕ) (head : Head) : Type 0 where
  pub spelled : bytes ≡ raw_block (raw_of head)
  pub valid : IsValid head
  pub fits : Fits head

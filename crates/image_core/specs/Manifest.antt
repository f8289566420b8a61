-- The body of the manifest's mark: how many layers are committed, the epoch of the top, the uuid of the commit in
-- progress, the sectors of the image, and the format.
use Rattle.std.specs.Prelude.{◌≡◌, ◌≢◌, ◌⊎◌, ℕ, Bool, IsTrue, nat_eq, List, take, drop, Option, Some, None, IfSome}
use Rattle.std.specs.Int.{w64, from_le_bytes}
use Rattle.block_disk.specs.DiskState.{DiskState}
use Rattle.gate_mark.specs.MarkFile.{Shows}
use Rattle.lsmt_header.specs.Blocks.{nil}
use Rattle.image_core.specs.Numbers.{manifest_file, with_pending}

unfoldable pub count_said : List ℕ → ℕ
count_said body = from_le_bytes w64 (take 8 body)

unfoldable pub epoch_said : List ℕ → ℕ
epoch_said body = from_le_bytes w64 (take 8 (drop 8 body))

unfoldable pub uuid_said : List ℕ → List ℕ
uuid_said body = take 16 (drop 16 body)

unfoldable pub size_said : List ℕ → ℕ
size_said body = from_le_bytes w64 (take 8 (drop 32 body))

unfoldable pub format_said : List ℕ → ℕ
format_said body = from_le_bytes w64 (take 8 (drop 40 body))

-- the formats of a manifest that are known: the older one, and the one that is written
abbrev pub IsFormat : ℕ → Type 0
IsFormat format = (format ≡ 0) ⊎ (format ≡ 2)

-- the body has the older format, in which layers and tops have just the sectors of the image
abbrev pub exact_said : List ℕ → Bool
exact_said body = nat_eq (format_said body) 0

-- the uuid, or that of no layer
abbrev pub uuid_or_nil : Option (List ℕ) → List ℕ
uuid_or_nil None = nil
uuid_or_nil (Some uuid) = uuid

-- the body says so: of an image of n sectors so many layers are committed, and this commit is in progress or none. The
-- top is that of the epoch behind the committed ones, or of the next where a commit is in progress. Its format is known.
pub record Names (body : List ℕ) (done : ℕ) (pending : Option (List ℕ)) (n : ℕ) : Type 0 where
  pub count : count_said body ≡ done
  pub epoch : epoch_said body ≡ with_pending done pending
  pub uuid : uuid_said body ≡ uuid_or_nil pending
  pub named : IfSome pending (λ u. u ≢ nil)
  pub size : size_said body ≡ n
  pub format : IsFormat (format_said body)

-- a body that is written says so, and has format 2
pub record IsWritten (body : List ℕ) (done : ℕ) (pending : Option (List ℕ)) (n : ℕ) : Type 0 where
  pub names : Names body done pending n
  pub format : format_said body ≡ 2

-- the body that counts in a manifest has format 2
pub record HasFormat2 (manifest : List ℕ) : Type 0 where
  pub sequence : ℕ
  pub body : List ℕ
  pub shows : Shows sequence body manifest
  pub format : format_said body ≡ 2

-- whatever a crash leaves of the manifest has format 2, and so it reads where the disk tells
pub record IsInFormat2 (tells : Bool) (disk : DiskState) : Type 0 where
  pub left : (manifest : List ℕ) → disk.may_leave manifest_file manifest → HasFormat2 manifest
  pub reads : IsTrue tells → HasFormat2 (disk.seen manifest_file)

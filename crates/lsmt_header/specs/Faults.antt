-- The first fault of a block, by the order in which its fields are looked at.
use Rattle.std.specs.Prelude.{◌≡◌, ◌≢◌, ℕ, ◌+◌, ◌<◌, List, length, slice_index, replicate, bit_and}
use Rattle.lsmt_header.specs.declared.head.Kind.{Kind}
use Rattle.lsmt_header.specs.declared.head.HeadFault.{HeadFault}
use Rattle.lsmt_header.specs.declared.head.HeadFault.TheVariants.{BadMagic, BadVersion, Compressed, BadFlags, BadSize, NilUuid, BadTag, Unclean}
use Rattle.lsmt_header.specs.Tags.{IsTagText, padded}
use Rattle.lsmt_header.specs.Blocks.{RawHead, magic, flags_of, IsVersion, IsSealed, IsSize, nil}

-- what passes the first test, the first two, and so on
abbrev pub HasMagic : RawHead → Type 0
HasMagic raw = raw.magic ≡ magic

abbrev pub HasVersion : Kind → RawHead → Type 0
HasVersion kind raw = HasMagic raw × IsVersion kind raw.version

abbrev pub IsPlain : Kind → RawHead → Type 0
IsPlain kind raw = HasVersion kind raw × (bit_and raw.flags 8 ≡ 0)

abbrev pub IsOfKind : Kind → RawHead → Type 0
IsOfKind kind raw = IsPlain kind raw × (raw.flags ≡ flags_of kind)

abbrev pub HasSize : Kind → RawHead → Type 0
HasSize kind raw = IsOfKind kind raw × IsSize raw.sectors

abbrev pub IsNamed : Kind → RawHead → Type 0
IsNamed kind raw = HasSize kind raw × (IsSealed kind → raw.uuid ≢ nil)

abbrev pub IsTagged : Kind → RawHead → List ℕ → Type 0
IsTagged kind raw text = IsNamed kind raw × IsTagText text × (raw.tag ≡ padded text)

-- no byte behind the tag is set either
abbrev pub IsClean : Kind → RawHead → List ℕ → Type 0
IsClean kind raw text = IsTagged kind raw text × (raw.rest ≡ replicate {A = ℕ} 3768 0)

-- the first byte that is not zero stands here
pub record IsFirstSet (bytes : List ℕ) (at : ℕ) : Type 0 where
  pub within : at < length bytes
  pub before : (i : ℕ) → i < at → slice_index bytes i ≡ 0
  pub here : slice_index bytes at ≢ 0

-- the fault is that of the first test that fails
abbrev pub IsFault : Kind → RawHead → HeadFault → Type 0
IsFault kind raw BadMagic = ¬ HasMagic raw
IsFault kind raw (BadVersion version) = HasMagic raw × (version ≡ raw.version) × ¬ IsVersion kind version
IsFault kind raw Compressed = HasVersion kind raw × (bit_and raw.flags 8 ≢ 0)
IsFault kind raw (BadFlags flags) = IsPlain kind raw × (flags ≡ raw.flags) × (flags ≢ flags_of kind)
IsFault kind raw (BadSize sectors) = IsOfKind kind raw × (sectors ≡ raw.sectors) × ¬ IsSize sectors
IsFault kind raw NilUuid = HasSize kind raw × IsSealed kind × (raw.uuid ≡ nil)
IsFault kind raw BadTag = IsNamed kind raw × ((text : List ℕ) → IsTagText text → raw.tag ≡ padded text → ⊥)
IsFault kind raw (Unclean place) = ((text : List ℕ) × IsTagged kind raw text) × ((at : ℕ) × (place ≡ 328 + at) × IsFirstSet raw.rest at)

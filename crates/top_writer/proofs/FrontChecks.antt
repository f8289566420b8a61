-- What the first blocks of the data file and of the index file say.
use Rattle.std.proofs.Common.{◌≡◌, ◌≢◌, ℕ, inl, inr, List, take, Option, sym, ap, subst, ◌∙◌}
use Rattle.lsmt_header.specs.declared.head.Head.{Head}
use Rattle.lsmt_header.specs.declared.head.HeadFault.{HeadFault}
use Rattle.lsmt_header.specs.declared.head.Kind.{Kind}
use Rattle.lsmt_header.specs.declared.head.Kind.TheVariants.{TopBytes, TopRows}
use Rattle.lsmt_header.specs.Blocks.{BlockOf, RawHead, raw_head}
use Rattle.lsmt_header.specs.Faults.{IsFault}
use Rattle.lsmt_header.proofs.BlockLemmas.{raw_of-block}
use Rattle.top_writer.specs.declared.fault.TopReason.{TopReason}
use Rattle.top_writer.specs.declared.fault.TopReason.TheVariants as why
use Rattle.top_writer.specs.Files.{Stored, HasBlock, IsSizeFor, size_said, parent_said, IsParent, HeadsAsked}
use Rattle.top_writer.specs.Loading.{AreFronts}
use Rattle.top_writer.specs.Reasons.{HasBytes, HasBlocks, HasSizes, HasParent, IsReason}

pub size_is : (file block : List ℕ) (head : Head) → block ≡ take 4096 file → BlockOf block head → size_said file ≡ head.sectors
unfolding size_said
size_is file block head is of = ap (λ (b : List ℕ). (raw_head b).sectors) (sym is) ∙ ap (λ (raw : RawHead). raw.sectors) (raw_of-block block head of)

pub parent_is : (file block : List ℕ) (head : Head) → block ≡ take 4096 file → BlockOf block head → parent_said file ≡ head.parent
unfolding parent_said
parent_is file block head is of = ap (λ (b : List ℕ). (raw_head b).parent) (sym is) ∙ ap (λ (raw : RawHead). raw.parent) (raw_of-block block head of)

has_block : (kind : Kind) (file block : List ℕ) (head : Head) → block ≡ take 4096 file → BlockOf block head → head.kind ≡ kind → HasBlock kind file
has_block kind file block head is of same = (head, subst (λ (b : List ℕ). BlockOf b head) is of, same)

pub bytes_fault : (n : ℕ) (asked : HeadsAsked) (t : Stored) (bytes index : List ℕ) (reason : TopReason)
    → (fault : HeadFault) × (reason ≡ why.Bytes fault) × IsFault TopBytes (raw_head bytes) fault → AreFronts t bytes index → IsReason n asked t reason
bytes_fault n asked t bytes index reason bad fronts =
    subst (IsReason n asked t) (sym bad.1) (fronts.long, subst (λ (b : List ℕ). IsFault TopBytes (raw_head b) bad.0) fronts.bytes_are bad.2)

has_bytes : (t : Stored) (bytes index : List ℕ) (head : Head) → AreFronts t bytes index → BlockOf bytes head × (head.kind ≡ TopBytes) → HasBytes t
has_bytes t bytes index head fronts is = (fronts.long, has_block TopBytes t.bytes bytes head fronts.bytes_are is.0 is.1)

pub rows_fault : (n : ℕ) (asked : HeadsAsked) (t : Stored) (bytes index : List ℕ) (head : Head) (reason : TopReason) → BlockOf bytes head × (head.kind ≡ TopBytes)
    → (fault : HeadFault) × (reason ≡ why.Rows fault) × IsFault TopRows (raw_head index) fault → AreFronts t bytes index → IsReason n asked t reason
rows_fault n asked t bytes index head reason is bad fronts =
    subst (IsReason n asked t) (sym bad.1) (has_bytes t bytes index head fronts is, subst (λ (b : List ℕ). IsFault TopRows (raw_head b) bad.0) fronts.index_are bad.2)

has_blocks : (t : Stored) (bytes index : List ℕ) (head rows : Head) → AreFronts t bytes index → BlockOf bytes head × (head.kind ≡ TopBytes) → BlockOf index rows × (rows.kind ≡ TopRows) → HasBlocks t
has_blocks t bytes index head rows fronts is are = (has_bytes t bytes index head fronts is, has_block TopRows t.index index rows fronts.index_are are.0 are.1)

pub bytes_size : (n : ℕ) (asked : HeadsAsked) (t : Stored) (bytes index : List ℕ) (head rows : Head) → BlockOf bytes head × (head.kind ≡ TopBytes) → BlockOf index rows × (rows.kind ≡ TopRows)
    → ¬ IsSizeFor asked.exact n head.sectors → AreFronts t bytes index → IsReason n asked t (why.HeadSize head.sectors)
bytes_size n asked t bytes index head rows is are differs fronts =
    (has_blocks t bytes index head rows fronts is are, differs, inl (sym (size_is t.bytes bytes head fronts.bytes_are is.0)))

pub rows_size : (n : ℕ) (asked : HeadsAsked) (t : Stored) (bytes index : List ℕ) (head rows : Head) → BlockOf bytes head × (head.kind ≡ TopBytes) → BlockOf index rows × (rows.kind ≡ TopRows)
    → IsSizeFor asked.exact n head.sectors → ¬ IsSizeFor asked.exact n rows.sectors → AreFronts t bytes index → IsReason n asked t (why.HeadSize rows.sectors)
rows_size n asked t bytes index head rows is are same differs fronts =
    (has_blocks t bytes index head rows fronts is are, differs, inr (subst (IsSizeFor asked.exact n) (sym (size_is t.bytes bytes head fronts.bytes_are is.0)) same, sym (size_is t.index index rows fronts.index_are are.0)))

has_sizes : (n : ℕ) (asked : HeadsAsked) (t : Stored) (bytes index : List ℕ) (head rows : Head) → AreFronts t bytes index → BlockOf bytes head × (head.kind ≡ TopBytes) → BlockOf index rows × (rows.kind ≡ TopRows)
    → IsSizeFor asked.exact n head.sectors → IsSizeFor asked.exact n rows.sectors → HasSizes n asked t
has_sizes n asked t bytes index head rows fronts is are same too = (
  has_blocks t bytes index head rows fronts is are,
  subst (IsSizeFor asked.exact n) (sym (size_is t.bytes bytes head fronts.bytes_are is.0)) same,
  subst (IsSizeFor asked.exact n) (sym (size_is t.index index rows fronts.index_are are.0)) too,
)

pub other_parent : (n : ℕ) (asked : HeadsAsked) (t : Stored) (bytes index : List ℕ) (head rows : Head) → BlockOf bytes head × (head.kind ≡ TopBytes) → BlockOf index rows × (rows.kind ≡ TopRows)
    → IsSizeFor asked.exact n head.sectors → IsSizeFor asked.exact n rows.sectors → ¬ IsParent asked.parent head.parent → AreFronts t bytes index → IsReason n asked t why.ParentDiffers
other_parent n asked t bytes index head rows is are same too differs fronts = (
  has_sizes n asked t bytes index head rows fronts is are same too,
  λ wanted. differs (subst (IsParent asked.parent) (parent_is t.bytes bytes head fronts.bytes_are is.0) wanted),
)

pub has_parent : (n : ℕ) (asked : HeadsAsked) (t : Stored) (bytes index : List ℕ) (head rows : Head) → BlockOf bytes head × (head.kind ≡ TopBytes) → BlockOf index rows × (rows.kind ≡ TopRows)
    → IsSizeFor asked.exact n head.sectors → IsSizeFor asked.exact n rows.sectors → IsParent asked.parent head.parent → AreFronts t bytes index → HasParent n asked t
has_parent n asked t bytes index head rows is are same too wanted fronts = (
  has_sizes n asked t bytes index head rows fronts is are same too,
  subst (IsParent asked.parent) (sym (parent_is t.bytes bytes head fronts.bytes_are is.0)) wanted,
)

-- What follows for an image that stands for a history.
use Rattle.std.proofs.Common.{◌≡◌, ℕ, ◌<◌, inl, inr, Bool, IsTrue, List, [], ◌∷◌, ◌++◌, length, refl, sym, ap, ◌∙◌, subst, arith, length-append}
use Rattle.std.specs.Prelude.{slice_index_or}
use Rattle.std.proofs.lemmas.List.{get_or_append_left}
use Rattle.block_disk.specs.DiskState.{DiskState, Files}
use Rattle.flat_image.specs.declared.act.Asked.{Asked}
use Rattle.flat_image.specs.declared.act.Asked.TheVariants.{Nothing, Uuid, Sectors}
use Rattle.flat_image.specs.declared.base.Base.{Base}
use Rattle.flat_image.specs.Sheets.{IsImage, flat}
use Rattle.flat_image.specs.Base.{IsBase, sheets_of, image_of}
use Rattle.flat_image.specs.History.{History, now, after, sealed_over, committed}
use Rattle.flat_image.specs.Left.{stand, put_top, Advances, Left}
use Rattle.flat_image.proofs.HistoryLaws.{base-stays, after-is_image, base-is_image, now-lowers}
use Rattle.flat_image.proofs.LeftLaws.{leaves-now}
use Rattle.sealed_layer.specs.Layers.{LayerIndex}
use Rattle.sealed_layer.proofs.LayerUnique.{one_layer}
use Rattle.image_core.specs.Shows.{Shows}
use Rattle.image_core.specs.View.{ImageView, AreLayersOf, sealed_read, sheets_read}
use Rattle.image_core.specs.Laws.{KeptShows, SealedStay, HistoryReads, ImageReads, ReadSame, HistoryTells}
use Rattle.image_core.specs.Standing.{ViewStands}
use Rattle.image_core.proofs.SheetsRead.{sealed-read, layers-length, sheets-read, same-kinds, same-commit}

pub kept-shows : (base : Base) (history : History) (files : Files) → KeptShows base history files
kept-shows base history files left all none no_grow = subst (Shows files) (leaves-now base history all none no_grow left.found left.left) left.shows

pub history-reads : (tells : Bool) (disk : DiskState) (faults : ℕ) (v : ImageView) (base : Base) (history : History) → HistoryReads tells disk faults v base history
history-reads tells disk faults v base history stands =
    let same : image_of (now base history) ≡ after base history = after-is_image base history stands.base_is stands.few stands.proper in
    let good = base-stays base history stands.base_is stands.few stands.proper in
    let whole : IsImage (now base history).sectors (image_of (now base history)) = base-is_image (now base history) good.0 in
    (same, subst (λ n. IsImage n (after base history)) (sym stands.view.sectors) (subst (IsImage (now base history).sectors) same whole))

-- the sheets that the image reads are those of what the history made
stands-sheets : (tells : Bool) (disk : DiskState) (faults : ℕ) (v : ImageView) (base : Base) (history : History) → ViewStands tells disk faults v base history → IsTrue tells
    → sheets_read disk.seen base.lowers v ≡ sheets_of (now base history)
stands-sheets tells disk faults v base history stands told =
    let good : IsBase (now base history) = (base-stays base history stands.base_is stands.few stands.proper).0 in
    ap (λ (lowers : List (List ℕ)). sheets_read disk.seen lowers v) (sym (now-lowers base history))
    ∙ sheets-read (now base history) v disk.seen good stands.view (stands.told told)

pub image-reads : (tells : Bool) (disk : DiskState) (faults : ℕ) (v : ImageView) (base : Base) (history : History) → ImageReads tells disk faults v base history
image-reads tells disk faults v base history stands told =
    let sheets = stands-sheets tells disk faults v base history stands told in
    let sectors = stands.view.sectors in
    (λ i. flat (sectors i) (sheets i)) ∙ after-is_image base history stands.base_is stands.few stands.proper

-- what a crash may leave has the committed files
abbrev HasDone : List (List ℕ) → Base → Type 0
HasDone done b = (k : ℕ) → k < length done → (k < length b.done) × (slice_index_or b.done k [] ≡ slice_index_or done k [])

has_same : (done : List (List ℕ)) (b : Base) → b.done ≡ done → HasDone done b
has_same done b is k below = (subst (λ (l : List (List ℕ)). k < length l) (sym is) below, ap (λ (l : List (List ℕ)). slice_index_or l k []) is)

has_more : (done more : List (List ℕ)) (b : Base) → b.done ≡ done ++ more → HasDone done b
has_more done more b is k below = (
  omega (arith, below, ap (length {A = List ℕ}) is, length-append done more),
  ap (λ (l : List (List ℕ)). slice_index_or l k []) is ∙ get_or_append_left done more [] k below,
)

left-done : (base : Base) (history : History) (b : Base) → Left base history b → HasDone (committed base history) b
left-done base history b left =
    elim left.is [
      | inl is ↦ has_same (committed base history) b (ap (λ (x : Base). x.done) is)
      | inr other ↦ advanced other.0 other.2
    ]
  where
    s : Base
    s = put_top (now base history) (stand (now base left.front))

    advanced : (asked : Asked) → Advances (put_top (now base history) (stand (now base left.front))) asked b → HasDone (committed base history) b
    advanced Nothing advances = absurd advances
    advanced (Sectors sectors) advances = has_same (committed base history) b (ap (λ (x : Base). x.done) advances.1)
    advanced (Uuid uuid) advances =
        elim advances [
          | inl frozen ↦ has_same (committed base history) b (ap (λ (x : Base). x.done) frozen.1)
          | inr sealed ↦ has_more (committed base history) (sealed_over ((now base history).lowers ++ (now base history).done) (now base history).frozen) b (ap (λ (x : Base). x.done) sealed.1)
        ]

pub sealed-stay : (base : Base) (history : History) (files : Files) → SealedStay base history files
sealed-stay base history files left k below =
    let has = left-done base history left.found left.left k below in
    left.shows.done k has.0 ∙ has.1

-- files are those of one list of layers
one-list : (files : List (List ℕ)) (xs ys : List LayerIndex) → AreLayersOf files xs → AreLayersOf files ys → xs ≡ ys
one-list [] [] [] are others = refl
one-list [] [] (y ∷ ys) are others = absurd others
one-list [] (x ∷ xs) ys are others = absurd are
one-list (file ∷ files) [] ys are others = absurd are
one-list (file ∷ files) (x ∷ xs) [] are others = absurd others
one-list (file ∷ files) (x ∷ xs) (y ∷ ys) are others =
    let same = one_layer file x.head y.head x.rows y.rows are.0 others.0 in
    let rest : xs ≡ ys = one-list files xs ys are.1 others.1 in
    λ i. record { head = same.0 i; rows = same.1 i } ∷ rest i

-- where the disks tell, two images that stand for one history read the same
read-same : (tells : Bool) (disk : DiskState) (faults : ℕ) (v : ImageView) (disk' : DiskState) (faults' : ℕ) (w : ImageView) (base : Base) (history : History)
    → ViewStands tells disk faults v base history → ViewStands tells disk' faults' w base history → IsTrue tells → ReadSame base.lowers disk.seen v disk'.seen w
read-same tells disk faults v disk' faults' w base history stands others told =
    let done : List (List ℕ) = (now base history).done in
    let one : sealed_read disk.seen (length v.committed) ≡ done =
    sealed-read disk.seen done (length v.committed) (layers-length done v.committed stands.view.committed) (stands.told told).committed in
    let other : sealed_read disk'.seen (length w.committed) ≡ done =
    sealed-read disk'.seen done (length w.committed) (layers-length done w.committed others.view.committed) (others.told told).committed in
    record {
      committed = one ∙ sym other;
      sheets = stands-sheets tells disk faults v base history stands told ∙ sym (stands-sheets tells disk' faults' w base history others told);
    }

pub history-tells : (tells : Bool) (disk : DiskState) (faults : ℕ) (v : ImageView) (disk' : DiskState) (faults' : ℕ) (w : ImageView) → HistoryTells tells disk faults v disk' faults' w
history-tells tells disk faults v disk' faults' w base history stands others = (
  record {
    sectors = stands.view.sectors ∙ sym others.view.sectors;
    lowers = one-list (now base history).lowers v.lowers w.lowers stands.view.lowers others.view.lowers;
    committed = one-list (now base history).done v.committed w.committed stands.view.committed others.view.committed;
    commit = same-commit (length (now base history).done) (now base history).frozen v.commit w.commit stands.view.commit others.view.commit;
    epoch = stands.view.epoch ∙ sym others.view.epoch;
    table = same-kinds (now base history).top v.table w.table stands.view.table others.view.table;
    rows = stands.view.rows ∙ sym others.view.rows;
    filled = stands.view.filled ∙ sym others.view.filled;
    steps = stands.steps ∙ sym others.steps;
  },
  read-same tells disk faults v disk' faults' w base history stands others,
)

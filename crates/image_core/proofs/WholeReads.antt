-- What a read through the layers gives.
use Rattle.std.proofs.Common.{◌≡◌, ℕ, ◌+◌, ◌-◌, ◌*◌, ◌<◌, ◌≤◌, ◌⊎◌, Bool, List, [], ◌∷◌, ◌++◌, length, map, take, drop, refl, sym, ap, subst, ◌∙◌, arith, inl, inr, length-append}
use Rattle.std.specs.Prelude.{slice_index_or, Option, Some, None, IfSome, true, false, IsTrue, Err, IsErrOf}
use Rattle.block_disk.specs.DiskState.{DiskState, Files}
use Rattle.block_disk.specs.Claims.{Quiet}
use Rattle.layer_shelf.specs.Shelves.{file_at}
use Rattle.image_core.specs.Numbers.{sealed_file}
use Rattle.image_core.specs.Sources.{files_told}
use Rattle.image_core.specs.declared.whole.WholeFault.{WholeFault}
use Rattle.image_core.specs.declared.whole.WholeFault.TheVariants as why
use Rattle.std.specs.List.{range_with_len}
use Rattle.std.proofs.lemmas.List.{append-nil, nil_from_length, get_or-append_right, get_or-take, get_or-drop, length-drop, length-take-le}
use Rattle.std.proofs.lemmas.List.Elements.{All-head, All-tail, All-take, All-drop}
use Rattle.std.proofs.lemmas.List.FromFn.{get_or-map-range_with_len}
use Rattle.sector_extent.specs.declared.extent.Extent.{Extent}
use Rattle.flat_image.specs.declared.base.Base.{Base}
use Rattle.flat_image.specs.Sheets.{Cell, Hole, Zero, Filled, IsSector, IsImage, flat}
use Rattle.flat_image.specs.RowCells.{sector_at}
use Rattle.flat_image.specs.Base.{IsBase, image_of}
use Rattle.flat_image.specs.LayerReading.{sheet_in}
use Rattle.flat_image.specs.History.{History, now, after, committed, reply}
use Rattle.flat_image.proofs.HistoryLaws.{base-stays, after-is_image, base-is_image, now-lowers}
use Rattle.sealed_layer.specs.Layers.{LayerIndex}
use Rattle.merged_index.specs.declared.piece.PieceWhat.{PieceWhat}
use Rattle.merged_index.specs.declared.piece.PieceWhat.TheVariants as what
use Rattle.merged_index.specs.Cells.{cells_of, IsIndexOf, NamesData}
use Rattle.merged_index.specs.Painting.{AreFiles}
use Rattle.merged_index.proofs.PaintLaws.{paints_as_sheets}
use Rattle.top_writer.specs.Gaps.{Paints, AreGaps}
use Rattle.flat_image.specs.LayerFiles.{AreHeadsOf}
use Rattle.top_writer.specs.Files.{IsSizeFor}
use Rattle.image_core.specs.Shows.{HaveSize, AreSealed}
use Rattle.image_core.specs.View.{AreLayersOf, sealed_read}
use Rattle.image_core.specs.Parts.{parts_view}
use Rattle.image_core.specs.Seen.{Seen, StandsFor}
use Rattle.image_core.specs.Upper.{upper, IsGap}
use Rattle.image_core.specs.Pieces.{SnapshotView, IsSnapshotOf}
use Rattle.image_core.specs.Planning.{IsPlanned, ReadsBelow}
use Rattle.image_core.specs.Whole.{sectors_by, AreFilled, AreOnShelf}
use Rattle.lsmt_header.specs.declared.head.Head.{Head}
use Rattle.image_core.specs.Loading.{heads_in}
use Rattle.image_core.proofs.UpperPlans.{plan-reads, holes-below}
use Rattle.image_core.proofs.Reopening.{same-heads}
use Rattle.image_core.proofs.FrozenTops.{layers-append}
use Rattle.image_core.proofs.SheetsRead.{layers-length, sealed-read}
use Rattle.image_core.proofs.FilledSectors.{AreGapsFilled, gaps-filled, bytes-are}

-- files of layers of no more than n sectors are those of an index of the layers
are-files : (exact : Bool) (n : ℕ) (files : List (List ℕ)) (layers : List LayerIndex) → AreLayersOf files layers → HaveSize exact n (heads_in layers) → AreFiles n files layers
are-files exact n [] [] are sizes = tt
are-files exact n [] (layer ∷ layers) are sizes = absurd are
are-files exact n (file ∷ files) [] are sizes = absurd are
are-files exact n (file ∷ files) (layer ∷ layers) are sizes =
    let Size : Head → Type 0 = λ h. IsSizeFor exact n h.sectors in
    ((are.0, (All-head Size layer.head (heads_in layers) sizes).within), are-files exact n files layers are.1 (All-tail Size layer.head (heads_in layers) sizes))

named-of : (layers : List LayerIndex) (w : PieceWhat) (layer place : ℕ) → w ≡ what.Filled layer place → NamesData layers w 1 → layer < length layers
named-of layers w layer place is names = (subst (λ (v : PieceWhat). NamesData layers v 1) is names).0

pub on-shelf : (s : SnapshotView) (lowers committed : List LayerIndex) (files : ℕ) → IsSnapshotOf s lowers committed → files ≡ length lowers + length committed
    → AreOnShelf files (cells_of s.index)
on-shelf s lowers committed files is count sector layer place filled =
    let below : layer < length (lowers ++ committed) = named-of (lowers ++ committed) (cells_of s.index sector) layer place filled (is.index_is.names sector) in
    omega (arith, below, count, length-append lowers committed)

-- a cell is a hole or not
hole-or : (cell : Cell) → (cell ≡ Hole) ⊎ ¬ (cell ≡ Hole)
hole-or Hole = inl refl
hole-or Zero = inr (λ e. cc)
hole-or (Filled sector) = inr (λ e. cc)

-- the image of the layers, as the index has it
module _ (x : Seen) (base : Base) (history : History) (stands : StandsFor x base history) where
  layers-are : AreLayersOf (base.lowers ++ committed base history) (x.parts.stack.lowers ++ x.parts.stack.committed.items)
  layers-are =
      layers-append base.lowers (committed base history) x.parts.stack.lowers x.parts.stack.committed.items
      (subst (λ (l : List (List ℕ)). AreLayersOf l x.parts.stack.lowers) (now-lowers base history) stands.fits.stack.lowers_are) stands.fits.stack.committed

  layer-sector : (s : SnapshotView) → IsSnapshotOf s x.parts.stack.lowers x.parts.stack.committed.items → (i : ℕ) → i < (parts_view x.parts).sectors
      → slice_index_or (flat (parts_view x.parts).sectors (map sheet_in (base.lowers ++ committed base history))) i [] ≡ sectors_by (base.lowers ++ committed base history) (cells_of s.index) i
  layer-sector s is i below =
      let b = now base history in
      let n : ℕ = (parts_view x.parts).sectors in
      let sectors : n ≡ b.sectors = stands.fits.top.holds.sectors in
      let files : List (List ℕ) = base.lowers ++ committed base history in
      let layers : List LayerIndex = x.parts.stack.lowers ++ x.parts.stack.committed.items in
      let stack = stands.fits.sound.stack in
      let heads : AreHeadsOf files stack.heads = subst (λ (l : List (List ℕ)). AreHeadsOf (l ++ b.done) stack.heads) (now-lowers base history) stack.are in
      let sizes : HaveSize stands.fits.exact b.sectors (heads_in layers) = subst (HaveSize stands.fits.exact b.sectors) (same-heads files stack.heads layers heads layers-are) stack.sizes in
      let ground : flat n (map sheet_in files) ≡ map (sectors_by files (cells_of s.index)) (range_with_len 0 b.sectors) =
      ap (λ (m : ℕ). flat m (map sheet_in files)) sectors
      ∙ paints_as_sheets b.sectors files layers s.index (are-files stands.fits.exact b.sectors files layers layers-are sizes) is.index_is in
      ap (λ (l : List (List ℕ)). slice_index_or l i []) ground
      ∙ get_or-map-range_with_len (sectors_by files (cells_of s.index)) 0 b.sectors i i [] (omega (arith, below, sectors)) (omega arith)

  image-of-parts : IsImage (parts_view x.parts).sectors (after base history)
  image-of-parts =
      let b = now base history in
      let good : IsBase b = (base-stays base history stands.base_is stands.few stands.proper).0 in
      let same : image_of b ≡ after base history = after-is_image base history stands.base_is stands.few stands.proper in
      subst (λ (k : ℕ). IsImage k (after base history)) (sym stands.fits.top.holds.sectors) (subst (IsImage b.sectors) same (base-is_image b good))

module _ (x : Seen) (base : Base) (history : History) (s : SnapshotView) (at count : ℕ) (mid new : List ℕ) (gaps : List Extent)
    (stands : StandsFor x base history) (is : IsSnapshotOf s x.parts.stack.lowers x.parts.stack.committed.items) (within : at + count ≤ (parts_view x.parts).sectors)
    (are : AreGaps (IsGap (now base history)) at (at + count) gaps) (filled : AreFilled (sectors_by (base.lowers ++ committed base history) (cells_of s.index)) at gaps mid new) where
  abbrev b : Base
  b = now base history

  abbrev n : ℕ
  n = (parts_view x.parts).sectors

  abbrev image : List (List ℕ)
  image = after base history

  -- the image of the layers
  abbrev ground : List (List ℕ)
  ground = flat n (map sheet_in (base.lowers ++ committed base history))

  -- what the gaps became
  done : AreGapsFilled (sectors_by (base.lowers ++ committed base history) (cells_of s.index)) (IsGap b) at at (at + count) mid new
  done = gaps-filled (sectors_by (base.lowers ++ committed base history) (cells_of s.index)) (IsGap b) at at (at + count) gaps mid new are filled

  pub whole-hole : (k : ℕ) → k < count → IsGap (now base history) (at + k) → sector_at new k ≡ slice_index_or (after base history) (at + k) []
  whole-hole k below hole =
      done.holes k (omega arith) (omega (arith, below)) hole
      ∙ sym (holes-below x base history stands (at + k) (omega (arith, below, within)) hole
      ∙ layer-sector x base history stands s is (at + k) (omega (arith, below, within)))

  module _ (old : List ℕ) (size : length old ≡ 512 * count) (long : length new ≡ 512 * count) (paints : Paints (upper (now base history)) at count old mid) where
    planned : IsPlanned image ground (IsGap b) at count old mid
    planned = plan-reads x base history stands at count old mid stands size within paints

    sector : (k : ℕ) → k < count → sector_at new k ≡ slice_index_or image (at + k) []
    sector k below =
        elim (hole-or (slice_index_or (upper b) (at + k) Hole)) [
          | inl hole ↦ whole-hole k below hole
          | inr some ↦ done.others k (omega arith) (omega (arith, below)) some ∙ planned.read k below some
        ]

    pub whole-reply : new ≡ reply base history at count
    whole-reply =
        let part : List (List ℕ) = take count (drop at image) in
        let image-is : IsImage n image = image-of-parts x base history stands in
        let part_long : length part ≡ count = length-take-le count (drop at image) (omega (arith, length-drop at image, image-is.count, within)) in
        bytes-are part new (All-take IsSector count (drop at image) (All-drop IsSector at image image-is.sectors)) (omega (arith, long, part_long))
        (λ k below. sector k (omega (arith, below, part_long)) ∙ sym (get_or-take count (drop at image) k [] (omega (arith, below, part_long)) ∙ get_or-drop at image k []))

-- what a snapshot says of the image in its gaps
pub reads-below : (x : Seen) (base : Base) (history : History) (s : SnapshotView)
    → StandsFor x base history → IsSnapshotOf s x.parts.stack.lowers x.parts.stack.committed.items → ReadsBelow base history s
reads-below x base history s stands is =
    let b = now base history in
    let sectors : (parts_view x.parts).sectors ≡ b.sectors = stands.fits.top.holds.sectors in
    let lows : length base.lowers ≡ length x.parts.stack.lowers =
    layers-length base.lowers x.parts.stack.lowers (subst (λ (l : List (List ℕ)). AreLayersOf l x.parts.stack.lowers) (now-lowers base history) stands.fits.stack.lowers_are) in
    record {
      lowers_are = is.lowers_are ∙ sym lows;
      named = on-shelf s x.parts.stack.lowers x.parts.stack.committed.items (length (base.lowers ++ b.done)) is
          (omega (arith, length-append base.lowers b.done, lows, layers-length b.done x.parts.stack.committed.items stands.fits.stack.committed));
      image = subst (λ (k : ℕ). IsImage k (after base history)) sectors (image-of-parts x base history stands);
      sectors = λ i below hole.
          sym (holes-below x base history stands i (omega (arith, below, sectors)) hole ∙ layer-sector x base history stands s is i (omega (arith, below, sectors)));
    }

-- what holds of files that a shelf and a disk tell
pub files-read : (tells : Bool) (told : Option (List (List ℕ))) (sealed : List (List ℕ)) (P : List (List ℕ) → Type 0)
    → (IsTrue tells → (lowers : List (List ℕ)) → told ≡ Some lowers → P (lowers ++ sealed)) → IfSome (files_told tells told sealed) P
files-read true (Some lowers) sealed P is = is refl lowers refl
files-read true None sealed P is = tt
files-read false told sealed P is = tt

-- a committed one behind the lower ones
pub sealed-at : (lowers : List (List ℕ)) (files : Files) (count number : ℕ) → length lowers ≤ number → number < length lowers + count
    → file_at (lowers ++ sealed_read files count) number ≡ files (sealed_file (number - length lowers))
sealed-at lowers files count number from below =
    let f : ℕ → List ℕ = λ k. files (sealed_file k) in
    get_or-append_right lowers (sealed_read files count) (length lowers) number [] refl (omega (arith, from))
    ∙ get_or-map-range_with_len f 0 count (number - length lowers) (number - length lowers) [] (omega (arith, below, from)) (omega arith)

-- where both tell, what was filled was filled of their files
pub told-filled : (tells : Bool) (told : Option (List (List ℕ))) (files : Files) (count : ℕ) (P Q : List (List ℕ) → Type 0) → IsTrue tells → IfSome (files_told tells told (sealed_read files count)) P
    → ((lowers : List (List ℕ)) → P (lowers ++ sealed_read files count) → Q lowers) → IfSome told Q
told-filled true (Some lowers) files count P Q is filled turn = turn lowers filled
told-filled true None files count P Q is filled turn = tt
told-filled false told files count P Q is filled turn = absurd (let e : false ≡ true = is in cc)

-- these are the files of the image, also after reads
pub sealed-files : (x : Seen) (base : Base) (history : History) → StandsFor x base history → (mid : DiskState) → Quiet x.state mid → (count : ℕ) → count ≡ length x.parts.stack.committed.items → IsTrue x.tells
    → (lowers : List (List ℕ)) → base.lowers ≡ lowers → lowers ++ sealed_read mid.seen count ≡ base.lowers ++ committed base history
sealed-files x base history k mid quiet count count_is told lowers lows =
    let done : List (List ℕ) = committed base history in
    let sealed : AreSealed done mid.seen = λ i below. quiet.others.seen (sealed_file i) (λ none. none) ∙ (k.fits.stack.sealed i below).seen told in
    let same : sealed_read mid.seen count ≡ done = sealed-read mid.seen done count (layers-length done x.parts.stack.committed.items k.fits.stack.committed ∙ sym count_is) sealed in
    λ i. sym lows i ++ same i

-- with none committed they are the shelf's
pub bare-files : (tells : Bool) (told : Option (List (List ℕ))) (sealed : List (List ℕ)) (P : List (List ℕ) → Type 0) → sealed ≡ [] → IfSome told P → IfSome (files_told tells told sealed) P
bare-files true (Some lowers) sealed P none is = subst P (sym (ap (λ (l : List (List ℕ)). lowers ++ l) none ∙ append-nil lowers)) is
bare-files true None sealed P none is = tt
bare-files false told sealed P none is = tt

-- a fault of the shelf is none of the disk
pub not-disk : {T : Type 0} (fault : WholeFault) → fault ≡ why.ShelfFault → IsErrOf {T = T} (Err fault) why.DiskFault → ⊥
not-disk fault same is = cc

-- what holds of the files that are told
pub each-told : (told : Option (List (List ℕ))) (P : List (List ℕ) → Type 0) → ((files : List (List ℕ)) → told ≡ Some files → P files) → IfSome told P
each-told None P is = tt
each-told (Some files) P is = is files refl

-- what reads of a shelf that tells, and of a disk that tells or on which nothing is committed, have filled
pub layers-filled : (x : Seen) (told : Option (List (List ℕ))) (mid : DiskState) (count : ℕ) (P : List (List ℕ) → Type 0) → Quiet x.state mid → count ≡ length x.parts.stack.committed.items
    → IfSome (files_told x.tells told (sealed_read mid.seen count)) P → (count ≡ 0 → IfSome told P)
    → (lowers : List (List ℕ)) → told ≡ Some lowers → (base : Base) (history : History) → StandsFor x base history → base.lowers ≡ lowers
    → IsTrue x.tells ⊎ (x.parts.stack.committed.items ≡ []) → P (base.lowers ++ committed base history)
layers-filled x told mid count P quiet count_is filled bare lowers is base history k lows (inl tells) =
    let of_both : IfSome (files_told true (Some lowers) (sealed_read mid.seen count)) P =
    subst (λ (o : Option (List (List ℕ))). IfSome (files_told true o (sealed_read mid.seen count)) P) is (subst (λ (t : Bool). IfSome (files_told t told (sealed_read mid.seen count)) P) tells filled) in
    subst P (sealed-files x base history k mid quiet count count_is tells lowers lows) of_both
layers-filled x told mid count P quiet count_is filled bare lowers is base history k lows (inr none) =
    let zero_is : count ≡ 0 = count_is ∙ ap (length {A = LayerIndex}) none in
    let of_shelf : P lowers = subst (λ (o : Option (List (List ℕ))). IfSome o P) is (bare zero_is) in
    let no : committed base history ≡ [] = nil_from_length (committed base history) (layers-length (committed base history) x.parts.stack.committed.items k.fits.stack.committed ∙ ap (length {A = LayerIndex}) none) in
    subst P (sym lows ∙ (sym (append-nil base.lowers) ∙ ap (λ (l : List (List ℕ)). base.lowers ++ l) (sym no))) of_shelf

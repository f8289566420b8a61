-- A file is one layer at most, and a layer's file has no fault.
use Rattle.std.proofs.Common.{false, ◌≡◌, ◌≢◌, ℕ, zero, suc, ◌+◌, ◌*◌, ◌<◌, ◌≤◌, ◌⊎◌, inl, inr, List, [], ◌∷◌, length, take, drop, refl, sym, ap, subst, ◌∙◌, arith}
use Rattle.std.proofs.Math.ListN.{get_or}
use Rattle.std.proofs.lemmas.List.{take_all}
use Rattle.std.proofs.lemmas.Nat.{from_le_bytes-to_le_bytes_8}
use Rattle.std.specs.Int.{w64, to_le_bytes, from_le_bytes}
use Rattle.seg_mapping.specs.declared.Row.{Row}
use Rattle.seg_mapping.specs.Rows.{RowOf, spelling, first_word, count_in}
use Rattle.seg_mapping.proofs.RowWords.{one_row, first_word-below}
use Rattle.lsmt_header.specs.declared.head.Head.{Head}
use Rattle.lsmt_header.specs.declared.head.Kind.TheVariants.{SealedHead}
use Rattle.lsmt_header.specs.Blocks.{RawHead}
use Rattle.lsmt_header.specs.Faults.{IsFault}
use Rattle.lsmt_header.proofs.BlockLemmas.{raw_of-block, one_head}
use Rattle.lsmt_header.proofs.FaultLemmas.{no_fault}
use Rattle.flat_image.specs.RowCells.{AreSpelled, IsInData, IsLayerRow, end_of}
use Rattle.flat_image.specs.LayerFiles.{LayerOf, IsFramed, IsIndexPlace}
use Rattle.sealed_layer.specs.declared.fault.LayerFault.{LayerFault}
use Rattle.sealed_layer.specs.declared.fault.LayerFault.TheVariants as f
use Rattle.sealed_layer.specs.LayerFaults.{IsRowFault, StopsAtRow, IsLayerFault}
use Rattle.sealed_layer.proofs.PartLemmas.{row_at}

-- rows that are spelled at one place are the same as far as both go
pub same_rows : (file : List ℕ) (at : ℕ) (xs ys : List Row) → AreSpelled file at xs → AreSpelled file at ys → length xs ≤ length ys → xs ≡ take (length xs) ys
same_rows file at [] ys are others few = refl
same_rows file at (x ∷ xs) [] are others few = absurd (omega arith)
same_rows file at (x ∷ xs) (y ∷ ys) are others few =
    ap (λ (row : Row). row ∷ xs) (one_row (take 16 (drop at file)) x y are.0 others.0)
    ∙ ap (λ (rows : List Row). y ∷ rows) (same_rows file (at + 16) xs ys are.1 others.1 (omega arith))

-- each row is spelled at its place
pub spelled_at : (file : List ℕ) (at : ℕ) (rows : List Row) (k : ℕ) (d : Row) → AreSpelled file at rows → k < length rows → RowOf (take 16 (drop (at + 16 * k) file)) (get_or rows k d)
spelled_at file at [] k d are below = absurd (omega arith)
spelled_at file at (row ∷ rows) zero d are below = subst (λ (n : ℕ). RowOf (take 16 (drop n file)) row) (let e : at ≡ at + 16 * 0 = omega arith in e) are.0
spelled_at file at (row ∷ rows) (suc k) d are below =
    subst (λ (n : ℕ). RowOf (take 16 (drop n file)) (get_or rows k d)) (let e : at + 16 + 16 * k ≡ at + 16 * suc k = omega arith in e)
    (spelled_at file (at + 16) rows k d are.1 (omega arith))

-- two heads of one framed file
pub same_head : (file : List ℕ) (one other : Head) → IsFramed file one → IsFramed file other → one ≡ other
same_head file one other h k = one_head (take 4096 file) one other h.front k.front

-- a file is one layer at most
pub one_layer : (file : List ℕ) (one other : Head) (rows others : List Row) → LayerOf file one rows → LayerOf file other others → (one ≡ other) × (rows ≡ others)
one_layer file one other rows others h k =
    let same : other ≡ one = same_head file other one k.framed h.framed in
    let spelled : AreSpelled file one.index_at others = subst (λ (head : Head). AreSpelled file head.index_at others) same k.spelled in
    let count : length others ≡ one.rows = subst (λ (head : Head). length others ≡ head.rows) same k.count in
    (sym same, same_rows file one.index_at rows others h.spelled spelled (omega (arith, h.count, count)) ∙ take_all (length rows) others (omega (arith, h.count, count)))

-- the bytes of a row say a count
count_of_row : (bytes : List ℕ) (row : Row) → RowOf bytes row → count_in bytes ≢ 0
unfolding spelling
count_of_row bytes row of none =
    let front : take 8 bytes ≡ to_le_bytes w64 (first_word row) = ap (λ (bs : List ℕ). take 8 bs) of.spelled in
    let first : from_le_bytes w64 (take 8 bytes) ≡ first_word row =
    ap (λ (bs : List ℕ). from_le_bytes w64 bs) front ∙ from_le_bytes-to_le_bytes_8 (first_word row) (first_word-below row of.fits) in
    let fits = of.fits in
    omega (arith, none, first, fits.offset, fits.some)

-- a row of a layer has no fault
sound_row : (head : Head) (bytes : List ℕ) (low number : ℕ) (row : Row) (fault : LayerFault) → RowOf bytes row → IsLayerRow head.sectors head.index_at low row → IsRowFault head bytes low number fault → ⊥
sound_row head bytes low number row (f.Row n fault) of is bad = count_of_row bytes row of bad.1
sound_row head bytes low number row (f.RowOrder n) of is bad =
    let same = one_row bytes bad.1.0 row bad.1.1 of in
    let order = is.order in let less : row.offset < low = subst (λ (r : Row). r.offset < low) same bad.1.2 in omega (arith, order, less)
sound_row head bytes low number row (f.RowRange n) of is bad =
    let same = one_row bytes bad.1.0 row bad.1.1.spelled of in
    let range = is.range in let over : head.sectors < row.offset + row.count = subst (λ (r : Row). head.sectors < r.offset + r.count) same bad.1.2 in omega (arith, range, over)
sound_row head bytes low number row (f.RowPlace n) of is bad =
    let same = one_row bytes bad.1.0 row bad.1.1.ordered.spelled of in
    bad.1.2 (subst (IsInData head.index_at) (sym same) is.place)
sound_row head bytes low number row f.Failed of is bad = bad
sound_row head bytes low number row f.Short of is bad = bad
sound_row head bytes low number row (f.Head fault) of is bad = bad
sound_row head bytes low number row f.TrailerDiffers of is bad = bad
sound_row head bytes low number row (f.TooManyRows n) of is bad = bad
sound_row head bytes low number row f.BadIndexPlace of is bad = bad
sound_row head bytes low number row f.Memory of is bad = bad

-- what stands past the end of a list of rows
no_row : Row
no_row = record { offset = 0; count = 0; place = 0; zeroed = false; tag = 0 }

-- a layer does not stop at a row
no_stop : (file : List ℕ) (head : Head) (rows : List Row) (fault : LayerFault) → LayerOf file head rows → StopsAtRow file fault → ⊥
no_stop file head rows fault layer stop =
    let xs : List Row = stop.rows in let k : ℕ = length xs in
    let same : stop.head ≡ head = same_head file stop.head head stop.before.front.framed layer.framed in
    let spelled : AreSpelled file head.index_at xs = subst (λ (h : Head). AreSpelled file h.index_at xs) same stop.before.spelled in
    let few : k < length rows = omega (arith, subst (λ (h : Head). k < h.rows) same stop.before.more, layer.count) in
    let front : xs ≡ take k rows = same_rows file head.index_at xs rows spelled layer.spelled (omega arith) in
    let row : Row = get_or rows k no_row in
    let of : RowOf (take 16 (drop (head.index_at + 16 * k) file)) row = spelled_at file head.index_at rows k no_row layer.spelled few in
    let is : IsLayerRow head.sectors head.index_at (end_of 0 xs) row =
    subst (λ (rs : List Row). IsLayerRow head.sectors head.index_at (end_of 0 rs) row) (sym front) (row_at head.sectors head.index_at 0 rows k no_row layer.sound few) in
    sound_row head (take 16 (drop (head.index_at + 16 * k) file)) (end_of 0 xs) k row fault of is
    (subst (λ (h : Head). IsRowFault h (take 16 (drop (h.index_at + 16 * k) file)) (end_of 0 xs) k fault) same stop.here)

-- a layer's file has no fault
pub no_layer_fault : (file : List ℕ) (head : Head) (rows : List Row) (fault : LayerFault) → LayerOf file head rows → IsLayerFault file fault → (fault ≡ f.Failed) ⊎ (fault ≡ f.Memory)
no_layer_fault file head rows f.Failed layer bad = inl refl
no_layer_fault file head rows f.Memory layer bad = inr refl
no_layer_fault file head rows f.Short layer bad = let long = layer.framed.long in absurd (omega (arith, long, bad))
no_layer_fault file head rows (f.Head fault) layer bad =
    let front = layer.framed.front in
    absurd (no_fault SealedHead head fault layer.framed.kind front.valid front.fits
    (subst (λ (raw : RawHead). IsFault SealedHead raw fault) (raw_of-block (take 4096 file) head front) bad.1))
no_layer_fault file head rows f.TrailerDiffers layer bad = absurd (bad.2 layer.framed.end)
no_layer_fault file head rows (f.TooManyRows n) layer bad =
    let same = same_head file bad.0 head bad.1 layer.framed in let few = layer.few in
    let rows_are : n ≡ head.rows = subst (λ (h : Head). n ≡ h.rows) same bad.2 in let many = bad.3 in absurd (omega (arith, few, rows_are, many))
no_layer_fault file head rows f.BadIndexPlace layer bad =
    let same = same_head file bad.0 head bad.1.framed layer.framed in
    absurd (bad.2 (subst (λ (h : Head). IsIndexPlace (length file) h.index_at h.rows) (sym same) layer.index))
no_layer_fault file head rows (f.Row n fault) layer bad = absurd (no_stop file head rows (f.Row n fault) layer bad)
no_layer_fault file head rows (f.RowOrder n) layer bad = absurd (no_stop file head rows (f.RowOrder n) layer bad)
no_layer_fault file head rows (f.RowRange n) layer bad = absurd (no_stop file head rows (f.RowRange n) layer bad)
no_layer_fault file head rows (f.RowPlace n) layer bad = absurd (no_stop file head rows (f.RowPlace n) layer bad)

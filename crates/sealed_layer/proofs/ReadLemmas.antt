-- What was read of a layer file, and why reading it stopped.
use Rattle.std.proofs.Common.{◌≡◌, ℕ, zero, suc, ◌+◌, ◌-◌, ◌*◌, ◌/◌, ◌^◌, ◌<◌, ◌≤◌, List, [], ◌∷◌, ◌++◌, length, take, drop, slice_set, All, sym, ap, subst, ◌∙◌, arith, length-drop}
use Rattle.std.proofs.Math.ListN.{get_or}
use Rattle.std.proofs.lemmas.List.{take_all, take-append-drop, length-take-le}
use Rattle.seg_mapping.specs.declared.Row.{Row}
use Rattle.seg_mapping.specs.Rows.{Fits}
use Rattle.lsmt_header.specs.declared.head.Head.{Head}
use Rattle.lsmt_header.specs.declared.head.Kind.TheVariants.{SealedHead}
use Rattle.lsmt_header.specs.Blocks.{BlockOf}
use Rattle.flat_image.specs.RowCells.{AreSpelled, AreLayerRows, end_of}
use Rattle.flat_image.specs.LayerFiles.{IsFramed, IsIndexPlace}
use Rattle.flat_image.proofs.SpelledRows.{spelled_joined, spelled_in, piece_row}
use Rattle.sealed_layer.specs.declared.fault.LayerFault.{LayerFault}
use Rattle.sealed_layer.specs.declared.fault.LayerFault.TheVariants as f
use Rattle.sealed_layer.specs.Growing.{Grows}
use Rattle.sealed_layer.specs.LayerFaults.{IsNoHead, IsRowFault, StopsAtRow, IsLayerFault}
use Rattle.sealed_layer.specs.RowReading.{AreRead, StopsAt, StopsReading}

-- the last block as it was read
end_block : (file end : List ℕ) (len : ℕ) → 8192 ≤ len → len ≡ length file → end ≡ take 4096 (drop (len - 4096) file) → end ≡ drop (length file - 4096) file
end_block file end len long size e =
    e ∙ ap (λ (n : ℕ). take 4096 (drop (n - 4096) file)) size
    ∙ take_all 4096 (drop (length file - 4096) file) (omega (arith, length-drop (length file - 4096) file))

-- a block that is no head's makes no layer file
pub no_head : (file : List ℕ) (fault : LayerFault) → 8192 ≤ length file → IsNoHead (take 4096 file) fault → IsLayerFault file fault
no_head file (f.Head fault) long bad = (long, bad)
no_head file f.Failed long bad = absurd bad
no_head file f.Short long bad = absurd bad
no_head file f.TrailerDiffers long bad = absurd bad
no_head file (f.TooManyRows rows) long bad = absurd bad
no_head file f.BadIndexPlace long bad = absurd bad
no_head file (f.Row number fault) long bad = absurd bad
no_head file (f.RowOrder number) long bad = absurd bad
no_head file (f.RowRange number) long bad = absurd bad
no_head file (f.RowPlace number) long bad = absurd bad
no_head file f.Memory long bad = absurd bad

-- a file whose blocks are these is framed
pub framed_by : (file front end : List ℕ) (head : Head) → 8192 ≤ length file → front ≡ take 4096 file → BlockOf front head → head.kind ≡ SealedHead
    → end ≡ drop (length file - 4096) file → end ≡ slice_set front 12 6 → IsFramed file head
framed_by file front end head long front_is block kind end_is same = record {
  long = long;
  front = subst (λ (bytes : List ℕ). BlockOf bytes head) front_is block;
  kind = kind;
  end = sym end_is ∙ same ∙ ap (λ (bytes : List ℕ). slice_set bytes 12 6) front_is;
}

pub framed : (file front end : List ℕ) (head : Head) (len : ℕ) → 8192 ≤ len → len ≡ length file → front ≡ take 4096 file → BlockOf front head → head.kind ≡ SealedHead
    → end ≡ take 4096 (drop (len - 4096) file) → end ≡ slice_set front 12 6 → IsFramed file head
framed file front end head len long size front_is block kind end_is same =
    framed_by file front end head (omega (arith, long, size)) front_is block kind (end_block file end len long size end_is) same

-- and one whose blocks differ is not
pub not_framed_by : (file front end : List ℕ) (head : Head) → 8192 ≤ length file → front ≡ take 4096 file → BlockOf front head → head.kind ≡ SealedHead
    → end ≡ drop (length file - 4096) file → (end ≡ slice_set front 12 6 → ⊥) → IsLayerFault file f.TrailerDiffers
not_framed_by file front end head long front_is block kind end_is differs = (
  head,
  record { long = long; front = subst (λ (bytes : List ℕ). BlockOf bytes head) front_is block; kind = kind },
  λ same. differs (end_is ∙ same ∙ ap (λ (bytes : List ℕ). slice_set bytes 12 6) (sym front_is)),
)

pub not_framed : (file front end : List ℕ) (head : Head) (len : ℕ) → 8192 ≤ len → len ≡ length file → front ≡ take 4096 file → BlockOf front head → head.kind ≡ SealedHead
    → end ≡ take 4096 (drop (len - 4096) file) → (end ≡ slice_set front 12 6 → ⊥) → IsLayerFault file f.TrailerDiffers
not_framed file front end head len long size front_is block kind end_is differs =
    not_framed_by file front end head (omega (arith, long, size)) front_is block kind (end_block file end len long size end_is) differs

-- the rows that were read are followed by those of the next piece
pub more_read : (file piece : List ℕ) (head : Head) (old rows : List Row) (size : ℕ) → piece ≡ take size (drop (head.index_at + 16 * length old) file)
    → length old ≤ length rows → 16 * (length rows - length old) ≤ size → AreSpelled file head.index_at old → Grows head piece old rows → AreSpelled file head.index_at rows
more_read file piece head old rows size e more fits so_far grows =
    let start : ℕ = head.index_at + 16 * length old in
    let added : List Row = drop (length old) rows in
    let theirs : AreSpelled file start added =
    subst (λ (k : ℕ). AreSpelled file k added) (let z : start + 0 ≡ start = omega arith in z)
    (spelled_in file piece start 0 size added e (omega (arith, length-drop (length old) rows)) grows.spelled) in
    subst (AreSpelled file head.index_at) (ap (λ (xs : List Row). xs ++ added) (sym grows.kept) ∙ take-append-drop (length old) rows)
    (spelled_joined file head.index_at old added so_far theirs)

-- a row of the next piece has a fault
pub stopped : (file piece : List ℕ) (head : Head) (old rows : List Row) (size : ℕ) (fault : LayerFault) → piece ≡ take size (drop (head.index_at + 16 * length old) file)
    → length old ≤ length rows → 16 * (length rows - length old) + 16 ≤ size → length rows < head.rows → AreSpelled file head.index_at old → Grows head piece old rows
    → IsRowFault head (take 16 (drop (16 * (length rows - length old)) piece)) (end_of 0 rows) (length rows) fault
    → StopsReading file head fault
stopped file piece head old rows size fault e more fits few so_far grows here =
    let off : ℕ = 16 * (length rows - length old) in
    let read : AreRead file head rows = record { spelled = more_read file piece head old rows size e more (omega arith) so_far grows; sound = grows.sound } in
    let bytes : take 16 (drop off piece) ≡ take 16 (drop (head.index_at + 16 * length rows) file) =
    piece_row file piece (head.index_at + 16 * length old) off size e fits
    ∙ ap (λ (k : ℕ). take 16 (drop k file)) (let s : head.index_at + 16 * length old + off ≡ head.index_at + 16 * length rows = omega arith in s) in
    by_fault fault head rows read few (subst (λ (bs : List ℕ). IsRowFault head bs (end_of 0 rows) (length rows) fault) bytes here)
  where
    by_fault : (fault : LayerFault) (head : Head) (rows : List Row) → AreRead file head rows → length rows < head.rows
        → IsRowFault head (take 16 (drop (head.index_at + 16 * length rows) file)) (end_of 0 rows) (length rows) fault → StopsReading file head fault
    by_fault f.Failed head rows read few here = tt
    by_fault f.Memory head rows read few here = tt
    by_fault f.Short head rows read few here = here
    by_fault (f.Head fault) head rows read few here = here
    by_fault f.TrailerDiffers head rows read few here = here
    by_fault (f.TooManyRows n) head rows read few here = here
    by_fault f.BadIndexPlace head rows read few here = here
    by_fault (f.Row n fault) head rows read few here = record { rows = rows; before = read; more = few; here = here }
    by_fault (f.RowOrder n) head rows read few here = record { rows = rows; before = read; more = few; here = here }
    by_fault (f.RowRange n) head rows read few here = record { rows = rows; before = read; more = few; here = here }
    by_fault (f.RowPlace n) head rows read few here = record { rows = rows; before = read; more = few; here = here }

-- all rows are read as one piece
abbrev IsIndexOf : List ℕ → List ℕ → Head → Type 0
IsIndexOf file piece head = piece ≡ take (16 * head.rows) (drop head.index_at file)

first_piece : (file piece : List ℕ) (head : Head) (old : List Row) → old ≡ [] → IsIndexOf file piece head
    → piece ≡ take (16 * head.rows) (drop (head.index_at + 16 * length old) file)
first_piece file piece head old none e =
    e ∙ ap (λ (k : ℕ). take (16 * head.rows) (drop k file)) (let z : head.index_at ≡ head.index_at + 16 * length old = omega (arith, ap (length {A = Row}) none) in z)

length-index : (file piece : List ℕ) (head : Head) → IsIndexOf file piece head → head.index_at + 16 * head.rows ≤ length file → length piece ≡ 16 * head.rows
length-index file piece head e place =
    ap (length {A = ℕ}) e ∙ length-take-le (16 * head.rows) (drop head.index_at file) (omega (arith, place, length-drop head.index_at file))

none_spelled : (file : List ℕ) (at : ℕ) (old : List Row) → old ≡ [] → AreSpelled file at old
none_spelled file at old none = subst (AreSpelled file at) (sym none) tt

pub read_first : (file piece : List ℕ) (head : Head) (old rows : List Row) → old ≡ [] → IsIndexOf file piece head → head.index_at + 16 * head.rows ≤ length file
    → length rows ≡ length old + length piece / 16 → Grows head piece old rows → AreSpelled file head.index_at rows
read_first file piece head old rows none e place all grows =
    let long : length piece ≡ 16 * head.rows = length-index file piece head e place in
    let empty : length old ≡ 0 = ap (length {A = Row}) none in
    more_read file piece head old rows (16 * head.rows) (first_piece file piece head old none e) (omega (arith, all)) (omega (arith, all, long, empty)) (none_spelled file head.index_at old none) grows

pub stopped_first : (file piece : List ℕ) (head : Head) (old rows : List Row) (fault : LayerFault) → old ≡ [] → IsIndexOf file piece head
    → head.index_at + 16 * head.rows ≤ length file → length rows < length old + length piece / 16 → Grows head piece old rows
    → IsRowFault head (take 16 (drop (16 * (length rows - length old)) piece)) (end_of 0 rows) (length rows) fault → StopsReading file head fault
stopped_first file piece head old rows fault none e place some grows here =
    let long : length piece ≡ 16 * head.rows = length-index file piece head e place in
    let empty : length old ≡ 0 = ap (length {A = Row}) none in
    stopped file piece head old rows (16 * head.rows) fault (first_piece file piece head old none e) (omega (arith, empty)) (omega (arith, some, long, empty)) (omega (arith, some, long, empty))
    (none_spelled file head.index_at old none) grows here

at_row : (file : List ℕ) (head : Head) (fault : LayerFault) → IsFramed file head → head.rows ≤ 2 ^ 24 → IsIndexPlace (length file) head.index_at head.rows → StopsAt file head fault → StopsAtRow file fault
at_row file head fault framed few index stop = record {
  head = head;
  rows = stop.rows;
  before = record { front = record { framed = framed; few = few }; index = index; more = stop.more; spelled = stop.before.spelled; sound = stop.before.sound };
  here = stop.here;
}

-- so the file has it
pub stop_is_fault : (file : List ℕ) (head : Head) (fault : LayerFault) → IsFramed file head → head.rows ≤ 2 ^ 24 → IsIndexPlace (length file) head.index_at head.rows
    → StopsReading file head fault → IsLayerFault file fault
stop_is_fault file head f.Failed framed few index stop = tt
stop_is_fault file head f.Memory framed few index stop = tt
stop_is_fault file head f.Short framed few index stop = absurd stop
stop_is_fault file head (f.Head fault) framed few index stop = absurd stop
stop_is_fault file head f.TrailerDiffers framed few index stop = absurd stop
stop_is_fault file head (f.TooManyRows n) framed few index stop = absurd stop
stop_is_fault file head f.BadIndexPlace framed few index stop = absurd stop
stop_is_fault file head (f.Row n fault) framed few index stop = at_row file head (f.Row n fault) framed few index stop
stop_is_fault file head (f.RowOrder n) framed few index stop = at_row file head (f.RowOrder n) framed few index stop
stop_is_fault file head (f.RowRange n) framed few index stop = at_row file head (f.RowRange n) framed few index stop
stop_is_fault file head (f.RowPlace n) framed few index stop = at_row file head (f.RowPlace n) framed few index stop

-- the rows of a layer have their ranges
fits_at : (n index_at low : ℕ) (rows : List Row) (k : ℕ) (d : Row) → AreLayerRows n index_at low rows → k < length rows → Fits (get_or rows k d)
fits_at n index_at low [] k d are below = absurd (omega arith)
fits_at n index_at low (row ∷ rows) zero d are below = are.0.fits
fits_at n index_at low (row ∷ rows) (suc k) d are below = fits_at n index_at (row.offset + row.count) rows k d are.1 (omega arith)

pub all_fit : (n index_at low : ℕ) (rows : List Row) → AreLayerRows n index_at low rows → All Fits rows
all_fit n index_at low rows are = λ k d below. fits_at n index_at low rows k d are below

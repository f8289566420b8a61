-- A top of an image that gets more sectors.
use Rattle.std.proofs.Common.{◌≡◌, ℕ, ◌+◌, ◌-◌, ◌*◌, ◌<◌, ◌≤◌, ◌⊎◌, inl, inr, Bool, false, true, IsTrue, List, [], ◌∷◌, ◌++◌, length, map, take, reverse, Option, None, refl, sym, ap, subst, ◌∙◌, arith}
use Rattle.std.specs.Prelude.{All, Contains}
use Rattle.std.specs.List.{range_with_len}
use Rattle.std.proofs.Math.ListN.{get_or-map}
use Rattle.std.proofs.lemmas.Bool.Decides.{leb_tells}
use Rattle.std.proofs.lemmas.List.{length-map}
use Rattle.std.proofs.lemmas.List.Elements.{All-head, All-tail, All-weaker}
use Rattle.std.proofs.lemmas.List.FromFn.{length-map-range_with_len}
use Rattle.block_disk.specs.DiskState.{DiskState}
use Rattle.gate_mark.specs.Mark.{MayHold}
use Rattle.seg_mapping.specs.declared.Row.{Row}
use Rattle.seg_table.specs.declared.segment.Segment.{Segment}
use Rattle.flat_image.specs.Sheets.{Cell, Hole}
use Rattle.flat_image.specs.RowCells.{cell_of, covers}
use Rattle.flat_image.specs.Base.{holes, with_holes}
use Rattle.flat_image.specs.Left.{Stand}
use Rattle.flat_image.proofs.CellLaws.{covers-behind}
use Rattle.flat_image.proofs.CanonicalCells.{map_range-holes, map_range-split}
use Rattle.top_writer.specs.declared.top.Top.{Top}
use Rattle.top_writer.specs.Changes.{IsGrown}
use Rattle.top_writer.specs.Files.{Stored, HeadsAsked, asked_of, IsSizeFor, HasSectors, size_said}
use Rattle.top_writer.specs.Fitting.{IsData, IsIndex, Holds, Lasts, IsCounted, IsTableOf, ViewFits, TopFits}
use Rattle.top_writer.specs.Rows.{IsTopRow, top_sheet}
use Rattle.top_writer.specs.Showing.{HasHeads, ShowsTop}
use Rattle.top_writer.specs.Stands.{with_grow}
use Rattle.top_writer.specs.View.{TopView, view_of, sectors_of, cell_at}
use Rattle.top_writer.proofs.RowCellLaws.{All-reverse}

-- a size that is no more than n need not be the one of a larger image
size_grown : (exact : Bool) (n m size : ℕ) → n ≤ m → IsSizeFor exact n size → IsSizeFor false m size
size_grown exact n m size more is = record { within = omega (arith, more, is.within); same = λ e. absurd (cc) }

rows_grown : (n m filled : ℕ) (rows : List Row) → n ≤ m → All (IsTopRow n filled) rows → All (IsTopRow m filled) rows
rows_grown n m filled rows more are =
    All-weaker (IsTopRow n filled) (IsTopRow m filled) (λ row is. let range = is.range in record { range = omega (arith, more, range); place = is.place }) rows are

-- rows say nothing past the sectors in which they lie
row_past : (n filled : ℕ) (file : List ℕ) (rows : List Row) (p : ℕ) → All (IsTopRow n filled) rows → n ≤ p → cell_of file rows p ≡ Hole
row_past n filled file [] p are past = refl
row_past n filled file (row ∷ rows) p are past =
    let here = (All-head (IsTopRow n filled) row rows are).range in
    let off : covers row p ≡ false = covers-behind row p (omega (arith, here, past)) in
    rw off (row_past n filled file rows p (All-tail (IsTopRow n filled) row rows are) past)

pub sheet_grown : (n m filled : ℕ) (file : List ℕ) (rows : List Row) → n ≤ m → All (IsTopRow n filled) rows → with_holes m (top_sheet file n rows) ≡ top_sheet file m rows
sheet_grown n m filled file rows more are =
    let f : ℕ → Cell = cell_of file (reverse rows) in
    let long : length (map f (range_with_len 0 n)) ≡ n = length-map-range_with_len f 0 n in
    let behind : map f (range_with_len (0 + n) (m - n)) ≡ holes (m - n) =
    map_range-holes f (0 + n) (m - n) (λ p low high. row_past n filled file (reverse rows) p (All-reverse (IsTopRow n filled) rows are) (omega (arith, low))) in
    ap (λ (k : ℕ). map f (range_with_len 0 n) ++ holes (m - k)) long
    ∙ ap (λ (cells : List Cell). map f (range_with_len 0 n) ++ cells) (sym behind)
    ∙ sym (map_range-split f 0 n (m - n))
    ∙ ap (λ (k : ℕ). map f (range_with_len 0 k)) (let e : n + (m - n) ≡ m = omega (arith, more) in e)

-- the files of a top, shown in an image of more sectors
pub shows_grown : (n m : ℕ) (asked : HeadsAsked) (s : Stand) (t : Stored) → n ≤ m → ShowsTop n asked s t → ShowsTop m (asked_of false asked.parent) (with_grow m s) t
shows_grown n m asked s t more shows = record {
  sequence = shows.sequence;
  body = shows.body;
  rows = shows.rows;
  heads = record {
    bytes_head = shows.heads.bytes_head;
    index_head = shows.heads.index_head;
    bytes_size = size_grown asked.exact n m (size_said t.bytes) more shows.heads.bytes_size;
    index_size = size_grown asked.exact n m (size_said t.index) more shows.heads.index_size;
    parent_is = shows.heads.parent_is;
  };
  mark = shows.mark;
  counts = shows.counts;
  index_long = shows.index_long;
  bytes_long = shows.bytes_long;
  number = shows.number;
  spelled = shows.spelled;
  sound = rows_grown n m s.filled shows.rows more shows.sound;
  cells = ap (with_holes m) shows.cells ∙ sheet_grown n m s.filled t.bytes shows.rows more shows.sound;
}

contains_map : {X Y : Type 0} (f : X → Y) (xs : List X) (x : X) → Contains xs x → Contains (map f xs) (f x)
contains_map f xs x has = (has.0, omega (arith, length-map xs f, has.1), get_or-map f xs has.0 x ∙ ap f has.2)

table_grown : (n m filled : ℕ) (file : List ℕ) (rows : List Row) (segments : List Segment) → n ≤ m → All (IsTopRow n filled) rows
    → IsTableOf n filled file rows segments → IsTableOf m filled file rows segments
table_grown n m filled file rows segments more are is = record {
  same = λ i lt. elim (leb_tells n i) [
    | inl past ↦ ap (cell_at file) (is.within i past.1) ∙ sym (row_past n filled file (reverse rows) i (All-reverse (IsTopRow n filled) rows are) past.1)
    | inr below ↦ is.same i below.1
  ];
  within = λ i past. is.within i (omega (arith, more, past));
  from = is.from;
  to = is.to;
}

counted_grown : (n m : ℕ) (file : List ℕ) (rows : List Row) (synced synced_sectors : ℕ) (body : List ℕ) (s : Stand) → n ≤ m
    → IsCounted n file rows synced synced_sectors body s → IsCounted m file rows synced synced_sectors body (with_grow m s)
counted_grown n m file rows synced synced_sectors body s more is = record {
  counts = is.counts;
  rows_synced = is.rows_synced;
  sectors_synced = is.sectors_synced;
  sound = rows_grown n m s.filled (take s.rows rows) more is.sound;
  cells = ap (with_holes m) is.cells ∙ sheet_grown n m s.filled file (take s.rows rows) more is.sound;
}

index_grown : (n m : ℕ) (asked : HeadsAsked) (file : List ℕ) (rows : List Row) → n ≤ m → IsIndex n asked file rows → IsIndex m (asked_of false asked.parent) file rows
index_grown n m asked file rows more is =
    record { head = is.head; size = size_grown asked.exact n m (size_said file) more is.size; long = is.long; spelled = is.spelled }

pub view_grown : (tells : Bool) (now : DiskState) (n m : ℕ) (asked : HeadsAsked) (v : TopView) (s : Stand) (may : List Stand) → n ≤ m
    → ViewFits tells now n asked v s may → ViewFits tells now m (asked_of false asked.parent) (record v { sectors = m }) (with_grow m s) (map (with_grow m) may)
view_grown tells now n m asked v s may more fits =
    let holds : Holds n asked v s fits.file fits.rows = fits.holds in
    let lasts : Lasts tells now n asked v fits.file fits.rows may = fits.lasts in
    record {
      file = fits.file;
      rows = fits.rows;
      holds = record {
        epoch = holds.epoch;
        sectors = refl;
        head = record { head = holds.head.head; size = size_grown asked.exact n m (size_said fits.file) more holds.head.size; parent_is = holds.head.parent_is };
        long = holds.long;
        number = holds.number;
        sound = rows_grown n m v.filled fits.rows more holds.sound;
        room = holds.room;
        rows_are = holds.rows_are;
        filled_are = holds.filled_are;
        cells = ap (with_holes m) holds.cells ∙ sheet_grown n m v.filled fits.file fits.rows more holds.sound;
        table = table_grown n m v.filled fits.file fits.rows v.segments more holds.sound holds.table;
        waiting = holds.waiting;
        waiting_size = holds.waiting_size;
      };
      lasts = record {
        synced_sectors = lasts.synced_sectors;
        within = lasts.within;
        mark_is = lasts.mark_is;
        mark = lasts.mark;
        bytes_left = lasts.bytes_left;
        index_left = λ c left. index_grown n m asked c (take v.synced fits.rows) more (lasts.index_left c left);
        seen = lasts.seen;
        bodies = λ body may_hold.
            let one = lasts.bodies body may_hold in
            (with_grow m one.0, contains_map (with_grow m) may one.0 one.1, counted_grown n m fits.file fits.rows v.synced lasts.synced_sectors body one.0 more one.2);
      };
    }

pub fits_grown : (tells : Bool) (now : DiskState) (n sectors : ℕ) (asked : HeadsAsked) (p q : Top) (s : Stand) (may : List Stand) → sectors_of p ≤ sectors
    → IsGrown (view_of p) sectors (view_of q) → TopFits tells now n asked p s may
    → TopFits tells now sectors (asked_of false asked.parent) q (with_grow sectors s) (map (with_grow sectors) may)
fits_grown tells now n sectors asked p q s may more grown fits =
    subst (λ (v : TopView). ViewFits tells now sectors (asked_of false asked.parent) v (with_grow sectors s) (map (with_grow sectors) may)) (sym grown)
    (view_grown tells now n sectors asked (view_of p) s may (omega (arith, fits.holds.sectors, more)) fits)

-- files that show a top whose heads say just the sectors of the image show it too where they may say fewer
pub shows_weaker : (n : ℕ) (exact exact' : Bool) (parent : Option (List ℕ)) (s : Stand) (t : Stored) → (IsTrue exact' → IsTrue exact)
    → ShowsTop n (asked_of exact parent) s t → ShowsTop n (asked_of exact' parent) s t
shows_weaker n exact exact' parent s t may shows = record {
  sequence = shows.sequence;
  body = shows.body;
  rows = shows.rows;
  heads = record {
    bytes_head = shows.heads.bytes_head;
    index_head = shows.heads.index_head;
    bytes_size = record { within = shows.heads.bytes_size.within; same = λ is. shows.heads.bytes_size.same (may is) };
    index_size = record { within = shows.heads.index_size.within; same = λ is. shows.heads.index_size.same (may is) };
    parent_is = shows.heads.parent_is;
  };
  mark = shows.mark;
  counts = shows.counts;
  index_long = shows.index_long;
  bytes_long = shows.bytes_long;
  number = shows.number;
  spelled = shows.spelled;
  sound = shows.sound;
  cells = shows.cells;
}

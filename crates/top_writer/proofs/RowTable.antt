-- The table that rows make, put one after another.
use Rattle.std.proofs.Common.{◌≡◌, ℕ, ◌+◌, ◌-◌, ◌*◌, ◌<◌, ◌≤◌, true, false, cond, Bool, IsTrue, Option, Some, None, List, [], ◌∷◌, ◌++◌, length, take, drop, reverse, refl, sym, ap, subst, ◌∙◌, arith, length-append}
use Rattle.std.specs.Prelude.{All}
use Rattle.std.specs.Option.{option_or}
use Rattle.std.proofs.lemmas.List.{reverse-append}
use Rattle.std.proofs.lemmas.List.Elements.{All-nil, All-head, All-tail, All-append, All-push}
use Rattle.seg_mapping.specs.declared.Row.{Row}
use Rattle.seg_mapping.specs.Rows.{RowOf}
use Rattle.seg_table.specs.declared.segment.Segment.{Segment}
use Rattle.seg_table.specs.declared.segment.What.{What}
use Rattle.seg_table.specs.declared.segment.What.TheVariants as what
use Rattle.seg_table.specs.Cells.{cell_in}
use Rattle.flat_image.specs.Sheets.{Zero, Filled}
use Rattle.flat_image.specs.RowCells.{sector_at, covers, cell_by, cell_of, AreSpelled}
use Rattle.flat_image.proofs.CellLaws.{covers-behind, covers-from, covers-below}
use Rattle.flat_image.proofs.SpelledRows.{spelled_joined, spelled_in, piece_row}
use Rattle.top_writer.specs.declared.fault.TopFault.{TopFault}
use Rattle.top_writer.specs.declared.fault.TopFault.TheVariants.{Memory, Failed, NoTop}
use Rattle.top_writer.specs.declared.fault.TopReason.{TopReason}
use Rattle.top_writer.specs.Fitting.{IsTableOf}
use Rattle.top_writer.specs.Loading.{what_by, entry_of, Puts, Stops, StopsPutting, StopsReading, AreLoaded}
use Rattle.top_writer.specs.Reasons.{IsRowReason}
use Rattle.top_writer.specs.Rows.{IsStored, IsTopRow}
use Rattle.top_writer.specs.View.{cell_at}
use Rattle.top_writer.proofs.RowCellLaws.{All-reverse}

or_joined : {T : Type 0} (a b c : Option T) → option_or (option_or a b) c ≡ option_or a (option_or b c)
or_joined None b c = refl
or_joined (Some x) b c = refl

or_none : {T : Type 0} (a : Option T) → option_or a None ≡ a
or_none None = refl
or_none (Some x) = refl

entry_joined : (xs ys : List Row) (i : ℕ) → entry_of (xs ++ ys) i ≡ option_or (entry_of xs i) (entry_of ys i)
entry_joined [] ys i = refl
entry_joined (row ∷ xs) ys i =
    elim (covers row i) as (λ b. cond b (Some (what_by row i)) (entry_of (xs ++ ys) i) ≡ option_or (cond b (Some (what_by row i)) (entry_of xs i)) (entry_of ys i)) [
      | true ↦ refl
      | false ↦ entry_joined xs ys i
    ]

-- what is said after some rows and then others
cells_joined : (xs ys : List Row) (i : ℕ) (old mid new : Option What) → mid ≡ option_or (entry_of (reverse xs) i) old → new ≡ option_or (entry_of (reverse ys) i) mid
    → new ≡ option_or (entry_of (reverse (xs ++ ys)) i) old
cells_joined xs ys i old mid new first second =
    second
    ∙ ap (option_or (entry_of (reverse ys) i)) first
    ∙ sym (or_joined (entry_of (reverse ys) i) (entry_of (reverse xs) i) old)
    ∙ ap (λ (o : Option What). option_or o old)
    (sym (entry_joined (reverse ys) (reverse xs) i) ∙ ap (λ (rows : List Row). entry_of rows i) (sym (reverse-append xs ys)))

pub puts_none : (n filled : ℕ) (piece : List ℕ) (segments : List Segment) → Puts n filled piece segments segments 0
puts_none n filled piece segments = record { rows = []; number = refl; spelled = tt; sound = All-nil (IsTopRow n filled); cells = λ i. refl }

-- one row more
pub puts_more : (n filled : ℕ) (piece bytes : List ℕ) (old mid new : List Segment) (count : ℕ) (row : Row) → Puts n filled piece old mid count
    → bytes ≡ take 16 (drop (16 * count) piece) → RowOf bytes row → IsTopRow n filled row
    → ((i : ℕ) → cell_in new i ≡ option_or (entry_of (row ∷ []) i) (cell_in mid i))
    → Puts n filled piece old new (count + 1)
puts_more n filled piece bytes old mid new count row so_far is of sound put =
    let rows : List Row = so_far.rows in
    let here : RowOf (take 16 (drop (0 + 16 * length rows) piece)) row =
    subst (λ (bs : List ℕ). RowOf bs row) (is ∙ ap (λ (k : ℕ). take 16 (drop k piece)) (let e : 16 * count ≡ 0 + 16 * length rows = omega (arith, so_far.number) in e)) of in
    record {
      rows = rows ++ row ∷ [];
      number = length-append rows (row ∷ []) ∙ ap (λ (k : ℕ). k + 1) so_far.number;
      spelled = spelled_joined piece 0 rows (row ∷ []) so_far.spelled (here, tt);
      sound = All-push (IsTopRow n filled) rows row so_far.sound sound;
      cells = λ i. cells_joined rows (row ∷ []) i (cell_in old i) (cell_in mid i) (cell_in new i) (so_far.cells i) (put i);
    }

-- the next row has a fault
pub stops_here : (n filled : ℕ) (piece bytes : List ℕ) (old mid : List Segment) (number count total : ℕ) (reason : TopReason) → Puts n filled piece old mid count
    → bytes ≡ take 16 (drop (16 * count) piece) → count < total → IsRowReason n filled bytes (number + count) reason
    → Stops n filled piece 0 number total reason
stops_here n filled piece bytes old mid number count total reason so_far is few here =
    let rows : List Row = so_far.rows in
    let place : 16 * count ≡ 0 + 16 * length rows = omega (arith, so_far.number) in
    record {
      before = rows;
      more = omega (arith, so_far.number, few);
      spelled = so_far.spelled;
      sound = so_far.sound;
      here = subst (λ (k : ℕ). IsRowReason n filled (take 16 (drop (0 + 16 * length rows) piece)) (number + k) reason) (sym so_far.number)
          (subst (λ (bs : List ℕ). IsRowReason n filled bs (number + count) reason) (is ∙ ap (λ (k : ℕ). take 16 (drop k piece)) place) here);
    }

pub loaded_none : (tells : Bool) (n filled : ℕ) (index : List ℕ) (segments : List Segment) → ((i : ℕ) → cell_in segments i ≡ None) → AreLoaded tells n filled index 0 segments
loaded_none tells n filled index segments empty = record { rows = []; number = refl; sound = All-nil (IsTopRow n filled); cells = empty; spelled = λ told. tt }

-- the rows of the next piece
pub loaded_more : (tells : Bool) (n filled : ℕ) (index piece : List ℕ) (count more size : ℕ) (mid new : List Segment) → AreLoaded tells n filled index count mid
    → Puts n filled piece mid new more → 16 * more ≤ size → (IsTrue tells → piece ≡ take size (drop (4096 + 16 * count) index))
    → AreLoaded tells n filled index (count + more) new
loaded_more tells n filled index piece count more size mid new so_far puts fits is =
    let rows : List Row = so_far.rows in let added : List Row = puts.rows in
    record {
      rows = rows ++ added;
      number = length-append rows added ∙ omega (arith, so_far.number, puts.number);
      sound = All-append (IsTopRow n filled) rows added so_far.sound puts.sound;
      cells = λ i. cells_joined rows added i None (cell_in mid i) (cell_in new i) (so_far.cells i ∙ sym (or_none (entry_of (reverse rows) i))) (puts.cells i)
          ∙ or_none (entry_of (reverse (rows ++ added)) i);
      spelled = λ told. spelled_joined index 4096 rows added (so_far.spelled told)
          (subst (λ (k : ℕ). AreSpelled index k added) (let e : 4096 + 16 * count + 0 ≡ 4096 + 16 * length rows = omega (arith, so_far.number) in e)
          (spelled_in index piece (4096 + 16 * count) 0 size added (is told) (omega (arith, puts.number, fits)) puts.spelled));
    }

-- a row of the next piece has a fault
pub loading_stops : (tells : Bool) (n filled : ℕ) (index piece : List ℕ) (count more size total : ℕ) (mid : List Segment) (reason : TopReason) → AreLoaded tells n filled index count mid
    → Stops n filled piece 0 count more reason → 16 * more ≤ size → count + more ≤ total → IsTrue tells → piece ≡ take size (drop (4096 + 16 * count) index)
    → Stops n filled index 4096 0 total reason
loading_stops tells n filled index piece count more size total mid reason so_far stops fits few told is =
    let rows : List Row = so_far.rows in let added : List Row = stops.before in let k : ℕ = length added in
    let less = stops.more in
    let both : length (rows ++ added) ≡ count + k = length-append rows added ∙ omega (arith, so_far.number) in
    let bytes : take 16 (drop (0 + 16 * k) piece) ≡ take 16 (drop (4096 + 16 * length (rows ++ added)) index) =
    piece_row index piece (4096 + 16 * count) (0 + 16 * k) size is (omega (arith, less, fits))
    ∙ ap (λ (j : ℕ). take 16 (drop j index)) (let e : 4096 + 16 * count + (0 + 16 * k) ≡ 4096 + 16 * length (rows ++ added) = omega (arith, both) in e) in
    record {
      before = rows ++ added;
      more = omega (arith, both, less, few);
      spelled = spelled_joined index 4096 rows added (so_far.spelled told)
          (subst (λ (j : ℕ). AreSpelled index j added) (let e : 4096 + 16 * count + 0 ≡ 4096 + 16 * length rows = omega (arith, so_far.number) in e)
          (spelled_in index piece (4096 + 16 * count) 0 size added is (omega (arith, less, fits)) stops.spelled));
      sound = All-append (IsTopRow n filled) rows added so_far.sound stops.sound;
      here = subst (λ (j : ℕ). IsRowReason n filled (take 16 (drop (4096 + 16 * length (rows ++ added)) index)) j reason) (let e : count + k ≡ 0 + length (rows ++ added) = omega (arith, both) in e)
          (subst (λ (bs : List ℕ). IsRowReason n filled bs (count + k) reason) bytes stops.here);
    }

pub putting_stops : (tells : Bool) (n filled : ℕ) (index piece : List ℕ) (count more size total : ℕ) (mid : List Segment) (fault : TopFault) → AreLoaded tells n filled index count mid
    → StopsPutting n filled piece count more fault → 16 * more ≤ size → count + more ≤ total → IsTrue tells → piece ≡ take size (drop (4096 + 16 * count) index)
    → StopsReading n filled index total fault
putting_stops tells n filled index piece count more size total mid Memory so_far stops fits few told is = tt
putting_stops tells n filled index piece count more size total mid Failed so_far stops fits few told is = tt
putting_stops tells n filled index piece count more size total mid (NoTop reason) so_far stops fits few told is =
    loading_stops tells n filled index piece count more size total mid reason so_far stops fits few told is

-- what a row says is what the table says
row_says : (file : List ℕ) (row : Row) (i : ℕ) → cell_at file (Some (what_by row i)) ≡ cell_by file row i
row_says file row i =
    elim row.zeroed as (λ z. cell_at file (Some (cond z what.Zero (what.Place (row.place + (i - row.offset))))) ≡ cond z Zero (Filled (sector_at file (row.place + (i - row.offset))))) [
      | true ↦ refl
      | false ↦ refl
    ]

rows_say : (file : List ℕ) (rows : List Row) (i : ℕ) → cell_at file (entry_of rows i) ≡ cell_of file rows i
rows_say file [] i = refl
rows_say file (row ∷ rows) i =
    elim (covers row i) as (λ b. cell_at file (cond b (Some (what_by row i)) (entry_of rows i)) ≡ cond b (cell_by file row i) (cell_of file rows i)) [
      | true ↦ row_says file row i
      | false ↦ rows_say file rows i
    ]

-- rows say nothing of what lies past the image
none_past : (n filled : ℕ) (rows : List Row) (i : ℕ) → All (IsTopRow n filled) rows → n ≤ i → entry_of rows i ≡ None
none_past n filled [] i all past = refl
none_past n filled (row ∷ rows) i all past =
    let here = All-head (IsTopRow n filled) row rows all in
    let range = here.range in
    ap (λ (b : Bool). cond b (Some (what_by row i)) (entry_of rows i)) (covers-behind row i (omega (arith, range, past)))
    ∙ none_past n filled rows i (All-tail (IsTopRow n filled) row rows all) past

-- and their places lie in the data
row_place : (filled : ℕ) (row : Row) (i place : ℕ) → IsStored filled row → row.offset ≤ i → i < row.offset + row.count → Some (what_by row i) ≡ Some (what.Place place)
    → (8 ≤ place) × (place < 8 + filled)
row_place filled row i place stored from below =
    elim row.zeroed as (λ z. (z ≡ false → 8 ≤ row.place) → (z ≡ false → row.place + row.count ≤ 8 + filled)
    → Some (cond z what.Zero (what.Place (row.place + (i - row.offset)))) ≡ Some (what.Place place) → (8 ≤ place) × (place < 8 + filled)) [
      | true ↦ λ first last e. cc
      | false ↦ λ first last e.
          let low = first refl in let high = last refl in
          let same : row.place + (i - row.offset) ≡ place = cc in (omega (arith, low, same), omega (arith, high, same, from, below))
    ]
    stored.from stored.to

places_in : (n filled : ℕ) (rows : List Row) (i place : ℕ) → All (IsTopRow n filled) rows → entry_of rows i ≡ Some (what.Place place) → (8 ≤ place) × (place < 8 + filled)
places_in n filled [] i place all e = cc
places_in n filled (row ∷ rows) i place all e =
    let here = All-head (IsTopRow n filled) row rows all in
    elim (covers row i) as (λ b. covers row i ≡ b → cond b (Some (what_by row i)) (entry_of rows i) ≡ Some (what.Place place) → (8 ≤ place) × (place < 8 + filled)) [
      | true ↦ λ on says. row_place filled row i place here.place (covers-from row i on) (covers-below row i on) says
      | false ↦ λ off says. places_in n filled rows i place (All-tail (IsTopRow n filled) row rows all) says
    ]
    refl e

pub table_of_rows : (n filled : ℕ) (file : List ℕ) (rows : List Row) (segments : List Segment) → All (IsTopRow n filled) rows
    → ((i : ℕ) → cell_in segments i ≡ entry_of (reverse rows) i) → IsTableOf n filled file rows segments
table_of_rows n filled file rows segments sound cells =
    let newest : List Row = reverse rows in
    let all : All (IsTopRow n filled) newest = All-reverse (IsTopRow n filled) rows sound in
    record {
      same = λ i lt. ap (cell_at file) (cells i) ∙ rows_say file newest i;
      within = λ i past. cells i ∙ none_past n filled newest i all past;
      from = λ i place e. (places_in n filled newest i place all (sym (cells i) ∙ e)).0;
      to = λ i place e. (places_in n filled newest i place all (sym (cells i) ∙ e)).1;
    }

-- What is known after each part of a load.
use Rattle.std.proofs.Common.{◌≡◌, ℕ, zero, ◌+◌, ◌*◌, ◌^◌, ◌<◌, ◌≤◌, ◌⊎◌, inl, inr, List, [], ◌∷◌, length, take, drop, Option, Bool, IsTrue, refl, sym, ap, subst, arith}
use Rattle.std.specs.Prelude.{All, Result, Ok, Err, MatchResult}
use Rattle.std.specs.Result.{IsErrAnd}
use Rattle.std.proofs.Math.ListN.{drop_of_length-le}
use Rattle.std.proofs.lemmas.List.{take_all}
use Rattle.block_disk.specs.Changes.{Only}
use Rattle.block_disk.specs.Claims.{Quiet}
use Rattle.block_disk.specs.DiskState.{DiskState}
use Rattle.gate_mark.specs.declared.mark.Mark.{Mark}
use Rattle.gate_mark.specs.Mark.{file_of, sequence_in, body_in, IsKept, MayHold}
use Rattle.gate_mark.specs.MarkFile.{Shows}
use Rattle.seg_mapping.specs.declared.Row.{Row}
use Rattle.seg_table.specs.declared.segment.Segment.{Segment}
use Rattle.flat_image.specs.Left.{Stand}
use Rattle.flat_image.specs.RowCells.{AreSpelled}
use Rattle.top_writer.specs.declared.fault.TopFault.{TopFault}
use Rattle.top_writer.specs.declared.fault.TopFault.TheVariants.{Memory, Failed, NoTop}
use Rattle.top_writer.specs.declared.fault.TopReason.{TopReason}
use Rattle.top_writer.specs.declared.fault.TopReason.TheVariants as why
use Rattle.top_writer.specs.Blank.{blank_sheet}
use Rattle.top_writer.specs.Files.{Stored, stored_in, data_file, index_file, mark_file, HeadsAsked}
use Rattle.top_writer.specs.Fitting.{HasFront, IsData, IsIndex, IsTableOf, ViewFits}
use Rattle.top_writer.specs.Loading.{IsRefused, IsShort, IsFront, AreFronts, IsFound, Stops, StopsReading, AreLoaded}
use Rattle.top_writer.specs.Reasons.{AreLong, HasParent, HasMark, IsWhole, StopsAtRow, IsRowReason, IsReason}
use Rattle.top_writer.specs.Rows.{IsTopRow, top_sheet}
use Rattle.top_writer.specs.Showing.{Counts, ShowsTop}
use Rattle.top_writer.specs.View.{TopView}
use Rattle.top_writer.proofs.LoadedFile.{data_of, length-data_of, head-data_of, front-data_of, blank-data_of}
use Rattle.top_writer.proofs.OneStand.{no_refusal}
use Rattle.top_writer.proofs.QuietLaws.{quiet_left}
use Rattle.top_writer.proofs.RowCellLaws.{sheet_front}
use Rattle.top_writer.proofs.RowTable.{table_of_rows}

-- a file that is too short
pub short_refused : (tells : Bool) (n : ℕ) (asked : HeadsAsked) (t : Stored) (file : List ℕ) (fault : TopFault) → IsShort tells file fault → (length file < 4096 → ¬ AreLong t)
    → IsTrue tells → IsRefused n asked t fault
short_refused tells n asked t file fault (inl failed) short told = subst (IsRefused n asked t) (sym failed) tt
short_refused tells n asked t file fault (inr is) short told = subst (IsRefused n asked t) (sym is.0) (short (is.1 told))

-- both first blocks
pub fronts_are : (t : Stored) (bytes_len index_len : ℕ) (bytes index : List ℕ) → IsFront t.bytes bytes_len bytes → IsFront t.index index_len index → AreFronts t bytes index
fronts_are t bytes_len index_len bytes index first second = record { long = (first.long, second.long); bytes_are = first.block_is; index_are = second.block_is }

-- the heads of two blocks that are files by themselves
block_head : (n : ℕ) (asked : HeadsAsked) (bytes index : List ℕ) → length bytes ≡ 4096 → length index ≡ 4096 → ((t : Stored) → AreFronts t bytes index → HasParent n asked t) → IsData n asked bytes
block_head n asked bytes index bytes_size index_size has =
    let h = has (record { bytes = bytes; index = index; mark = [] }) (record {
      long = (omega (arith, bytes_size), omega (arith, index_size));
      bytes_are = sym (take_all 4096 bytes (omega (arith, bytes_size)));
      index_are = sym (take_all 4096 index (omega (arith, index_size)));
    }) in
    record { head = h.0.0.0.1; size = h.0.1; parent_is = h.1 }

pub has_mark : (n : ℕ) (asked : HeadsAsked) (t : Stored) (mark : Mark) → HasParent n asked t → Shows (sequence_in mark) (body_in mark) t.mark → sequence_in mark ≤ 2 ^ 61
    → HasMark n asked t (body_in mark)
has_mark n asked t mark heads shows low = record { sequence = sequence_in mark; heads = heads; mark = shows; low = low }

-- all but the rows
pub found_is : (tells : Bool) (old mid new : DiskState) (epoch n : ℕ) (asked : HeadsAsked) (mark : Mark) (rows filled bytes_len index_len : ℕ) (bytes index : List ℕ)
    → Quiet mid new
    → Only (old.seen (data_file epoch)) (mid.may_leave (data_file epoch)) → Only (old.seen (index_file epoch)) (mid.may_leave (index_file epoch))
    → length bytes ≡ 4096 → length index ≡ 4096
    → (IsTrue tells → IsFront (old.seen (data_file epoch)) bytes_len bytes) → (IsTrue tells → IsFront (old.seen (index_file epoch)) index_len index)
    → ((t : Stored) → AreFronts t bytes index → HasParent n asked t)
    → (file_of mark ≡ mark_file epoch) × (sequence_in mark ≤ 2 ^ 61)
    → (IsTrue tells → Shows (sequence_in mark) (body_in mark) (old.seen (mark_file epoch)))
    → ((b : List ℕ) → MayHold mark b → b ≡ body_in mark) → IsKept new mark
    → Counts (body_in mark) rows filled → 4096 + 16 * rows ≤ index_len → 4096 + 512 * filled ≤ bytes_len
    → IsFound tells new epoch n asked (stored_in epoch old.seen) mark rows filled
found_is tells old mid new epoch n asked mark rows filled bytes_len index_len bytes index quiet only_bytes only_index bytes_size index_size bytes_front index_front has is shows bodies kept counts index_long bytes_long =
    let t : Stored = stored_in epoch old.seen in
    record {
      file_is = is.0;
      low = is.1;
      kept = kept;
      bodies = bodies;
      counts = counts;
      block = bytes;
      block_long = bytes_size;
      head = block_head n asked bytes index bytes_size index_size has;
      bytes_left = λ c left. only_bytes c (quiet_left mid new quiet (data_file epoch) c left);
      index_left = λ c left. only_index c (quiet_left mid new quiet (index_file epoch) c left);
      told = λ told.
          let first = bytes_front told in let second = index_front told in
          let fronts : AreFronts t bytes index = fronts_are t bytes_len index_len bytes index first second in
          record {
            front = first.block_is;
            shows = shows told;
            whole = record {
              counts = record {
                body = body_in mark;
                mark = has_mark n asked t mark (has t fronts) (shows told) is.1;
                rows_are = counts.rows_are;
                sectors_are = counts.sectors_are;
                room = counts.room;
              };
              index_long = omega (arith, index_long, second.len_is);
              bytes_long = omega (arith, bytes_long, first.len_is);
            };
          };
    }

-- after more calls that change nothing
pub found_later : (tells : Bool) (old new : DiskState) (epoch n : ℕ) (asked : HeadsAsked) (t : Stored) (mark : Mark) (rows filled : ℕ) → Quiet old new
    → IsFound tells old epoch n asked t mark rows filled → IsFound tells new epoch n asked t mark rows filled
found_later tells old new epoch n asked t mark rows filled quiet found = record {
  file_is = found.file_is;
  low = found.low;
  kept = λ c left. found.kept c (quiet_left old new quiet (file_of mark) c left);
  bodies = found.bodies;
  counts = found.counts;
  block = found.block;
  block_long = found.block_long;
  head = found.head;
  bytes_left = λ c left. found.bytes_left c (quiet_left old new quiet (data_file epoch) c left);
  index_left = λ c left. found.index_left c (quiet_left old new quiet (index_file epoch) c left);
  told = found.told;
}

-- why reading the rows stopped is the reason
at_row : (n : ℕ) (asked : HeadsAsked) (t : Stored) (rows filled : ℕ) (reason : TopReason) → IsWhole n asked t rows filled → Stops n filled t.index 4096 0 rows reason → StopsAtRow n asked t reason
at_row n asked t rows filled reason whole stops = record {
  count = rows;
  filled = filled;
  before = stops.before;
  whole = whole;
  more = stops.more;
  spelled = stops.spelled;
  sound = stops.sound;
  here = subst (λ (k : ℕ). IsRowReason n filled (take 16 (drop (4096 + 16 * length stops.before) t.index)) k reason) (let e : 0 + length stops.before ≡ length stops.before = omega arith in e) stops.here;
}

stop_is_reason : (n : ℕ) (asked : HeadsAsked) (t : Stored) (rows filled : ℕ) (reason : TopReason) → IsWhole n asked t rows filled → Stops n filled t.index 4096 0 rows reason → IsReason n asked t reason
stop_is_reason n asked t rows filled (why.Row number fault) whole stops = at_row n asked t rows filled (why.Row number fault) whole stops
stop_is_reason n asked t rows filled (why.RowRange number) whole stops = at_row n asked t rows filled (why.RowRange number) whole stops
stop_is_reason n asked t rows filled (why.RowPlace number) whole stops = at_row n asked t rows filled (why.RowPlace number) whole stops
stop_is_reason n asked t rows filled why.HeadShort whole stops = absurd stops.here
stop_is_reason n asked t rows filled (why.Bytes fault) whole stops = absurd stops.here
stop_is_reason n asked t rows filled (why.Rows fault) whole stops = absurd stops.here
stop_is_reason n asked t rows filled (why.HeadSize size) whole stops = absurd stops.here
stop_is_reason n asked t rows filled why.ParentDiffers whole stops = absurd stops.here
stop_is_reason n asked t rows filled why.NoMark whole stops = absurd stops.here
stop_is_reason n asked t rows filled (why.MarkWorn sequence) whole stops = absurd stops.here
stop_is_reason n asked t rows filled (why.MarkBad counted sectors) whole stops = absurd stops.here
stop_is_reason n asked t rows filled why.ShortRows whole stops = absurd stops.here
stop_is_reason n asked t rows filled why.ShortBytes whole stops = absurd stops.here

pub stop_refused : (n : ℕ) (asked : HeadsAsked) (t : Stored) (rows filled : ℕ) (fault : TopFault) → IsWhole n asked t rows filled → StopsReading n filled t.index rows fault → IsRefused n asked t fault
stop_refused n asked t rows filled Memory whole stops = tt
stop_refused n asked t rows filled Failed whole stops = tt
stop_refused n asked t rows filled (NoTop reason) whole stops = stop_is_reason n asked t rows filled reason whole stops

-- the answer of a load that was refused
pub refused_reason : {T : Type 0} (tells : Bool) (n : ℕ) (asked : HeadsAsked) (t : Stored) (result : Result T TopFault) (fault : TopFault) → IsErrAnd result (λ e. e ≡ fault)
    → (IsTrue tells → IsRefused n asked t fault) → (reason : TopReason) → result ≡ Err (NoTop reason) → IsTrue tells → IsReason n asked t reason
refused_reason {T} tells n asked t (Ok value) fault is refused reason e told = absurd is
refused_reason {T} tells n asked t (Err answer) fault is refused reason e told =
    let same : fault ≡ NoTop reason = cc in subst (IsRefused n asked t) same (refused told)

pub refused_complete : {T : Type 0} (tells : Bool) (n : ℕ) (asked : HeadsAsked) (t : Stored) (result : Result T TopFault) (fault : TopFault) (P : T → Type 0) → IsErrAnd result (λ e. e ≡ fault)
    → (IsTrue tells → IsRefused n asked t fault) → (s : Stand) (shows : ShowsTop n asked s t) → shows.sequence ≤ 2 ^ 61 → IsTrue tells
    → MatchResult result P (λ e. (e ≡ Memory) ⊎ (e ≡ Failed))
refused_complete {T} tells n asked t (Ok value) fault P is refused s shows low told = absurd is
refused_complete {T} tells n asked t (Err answer) fault P is refused s shows low told =
    no_refusal n asked s t shows low answer (subst (IsRefused n asked t) (sym is) (refused told))

-- the top that was loaded
abbrev pub loaded_view : ℕ → ℕ → Mark → List Segment → ℕ → ℕ → List ℕ → TopView
loaded_view epoch n mark segments count filled waiting = record
    { epoch = epoch; sectors = n; mark = mark; segments = segments; synced = count; rows = count; filled = filled; waiting = waiting }

pub record IsLoad (tells : Bool) (now : DiskState) (n : ℕ) (asked : HeadsAsked) (t : Stored) (v : TopView) : Type 0 where
  pub stand : Stand
  pub fits : ViewFits tells now n asked v stand (stand ∷ [])
  pub shows : IsTrue tells → (shown : ShowsTop n asked stand t) × (shown.sequence ≤ 2 ^ 61)
  pub blank : ¬ IsTrue tells → stand.cells ≡ blank_sheet n v.segments

pub load_is : (tells : Bool) (now : DiskState) (epoch n : ℕ) (asked : HeadsAsked) (t : Stored) (mark : Mark) (segments : List Segment) (count filled : ℕ) (waiting : List ℕ)
    → epoch ≤ 255 → waiting ≡ []
    → ((f : ℕ) (c : List ℕ) → now.may_leave f c → IsTrue tells)
    → now.seen (data_file epoch) ≡ t.bytes
    → IsFound tells now epoch n asked t mark count filled
    → AreLoaded tells n filled t.index count segments
    → IsLoad tells now n asked t (loaded_view epoch n mark segments count filled waiting)
load_is tells now epoch n asked t mark segments count filled waiting low empty tells_left seen found loaded =
    let rows : List Row = loaded.rows in
    let file : List ℕ = data_of tells filled found.block t.bytes in
    let s : Stand = record { cells = top_sheet file n rows; rows = count; filled = filled } in
    let size : ℕ = 4096 + 512 * filled in
    let long : IsTrue tells → size ≤ length t.bytes = λ told. (found.told told).whole.bytes_long in
    let front : IsTrue tells → HasFront size file t.bytes = λ told. front-data_of tells filled found.block t.bytes told (long told) in
    let all : take count rows ≡ rows = take_all count rows (omega (arith, loaded.number)) in
    let none : drop count rows ≡ [] = drop_of_length-le rows (omega (arith, loaded.number)) in
    let index : IsTrue tells → IsIndex n asked t.index rows = λ told.
    let whole = (found.told told).whole in
    let heads : HasParent n asked t = whole.counts.mark.heads in
    record { head = heads.0.0.1; size = heads.0.2; long = omega (arith, whole.index_long, loaded.number); spelled = loaded.spelled told } in
    let table : IsTableOf n filled file rows segments = table_of_rows n filled file rows segments loaded.sound loaded.cells in
    record {
      stand = s;
      fits = record {
        file = file;
        rows = rows;
        holds = record {
          epoch = low;
          sectors = refl;
          head = head-data_of tells filled n asked found.block t.bytes found.block_long (λ told. (found.told told).front) found.head;
          long = length-data_of tells filled found.block t.bytes found.block_long long;
          number = loaded.number;
          sound = loaded.sound;
          room = found.counts.room;
          rows_are = refl;
          filled_are = refl;
          cells = refl;
          table = table;
          waiting = subst (AreSpelled waiting 0) (sym none) tt;
          waiting_size = omega (arith, ap length empty);
        };
        lasts = record {
          synced_sectors = filled;
          within = omega arith;
          mark_is = found.file_is;
          mark = found.kept;
          bytes_left = λ c left. subst (HasFront size file) (sym (found.bytes_left c left)) (front (tells_left (data_file epoch) c left));
          index_left = λ c left. subst (λ (k : List ℕ). IsIndex n asked k (take count rows)) (sym (found.index_left c left))
              (subst (IsIndex n asked t.index) (sym all) (index (tells_left (index_file epoch) c left)));
          seen = λ told. subst (HasFront size file) (sym seen) (front told);
          bodies = λ body may_hold. (
            s,
            (zero, omega arith, refl),
            record {
              counts = subst (λ (b : List ℕ). Counts b count filled) (sym (found.bodies body may_hold)) found.counts;
              rows_synced = omega arith;
              sectors_synced = omega arith;
              sound = subst (All (IsTopRow n filled)) (sym all) loaded.sound;
              cells = ap (top_sheet file n) (sym all);
            },
          );
        };
      };
      shows = λ told.
          let is = found.told told in
          let whole = is.whole in
          let heads : HasParent n asked t = whole.counts.mark.heads in (
            record {
              sequence = sequence_in mark;
              body = body_in mark;
              rows = rows;
              heads = record { bytes_head = heads.0.0.0.1; index_head = heads.0.0.1; bytes_size = heads.0.1; index_size = heads.0.2; parent_is = heads.1 };
              mark = is.shows;
              counts = found.counts;
              index_long = whole.index_long;
              bytes_long = whole.bytes_long;
              number = loaded.number;
              spelled = loaded.spelled told;
              sound = loaded.sound;
              cells = sym (sheet_front n filled rows file t.bytes loaded.sound (front told));
            },
            found.low,
          );
      blank = blank-data_of tells n filled found.block t.bytes rows segments found.block_long table;
    }

-- What a top holds after a write and after a zero.
use Rattle.std.proofs.Common.{◌≡◌, ℕ, ◌+◌, ◌-◌, ◌*◌, ◌<◌, ◌≤◌, ◌⊎◌, List, ◌++◌, length, map, take, drop, reverse, sym, ap, subst, ◌∙◌, arith, length-append, Option, Some, Bool, IsTrue}
use Rattle.std.specs.Prelude.{All, replicate}
use Rattle.std.proofs.Math.Seq.{drop-append_seam}
use Rattle.std.proofs.lemmas.List.{take-append-le, take_all, drop-append-le, length-drop, length-replicate}
use Rattle.sector_extent.specs.declared.extent.Extent.{Extent}
use Rattle.sector_extent.specs.Rows.{rows_for}
use Rattle.block_disk.specs.DiskState.{DiskState}
use Rattle.gate_mark.specs.declared.mark.Mark.{Mark}
use Rattle.gate_mark.specs.Mark.{IsKept, MayHold}
use Rattle.seg_mapping.specs.declared.Row.{Row}
use Rattle.seg_table.specs.declared.segment.What.{What}
use Rattle.seg_table.specs.declared.segment.What.TheVariants as what
use Rattle.flat_image.specs.Sheets.{Zero, Filled}
use Rattle.flat_image.specs.Sectors.{sectors_in, put_at}
use Rattle.flat_image.specs.History.{HasRoom}
use Rattle.flat_image.specs.Left.{Stand}
use Rattle.flat_image.specs.RowCells.{cell_of, AreSpelled}
use Rattle.flat_image.proofs.SpelledRows.{spelled_joined, spelled_in}
use Rattle.top_writer.specs.Changes.{Notes}
use Rattle.top_writer.specs.Files.{data_file, index_file, mark_file, HeadsAsked}
use Rattle.top_writer.specs.Fitting.{HasFront, IsIndex, Holds, Lasts}
use Rattle.top_writer.specs.Rows.{IsTopRow, top_sheet, rows_of}
use Rattle.top_writer.specs.View.{TopView, cell_at}
use Rattle.top_writer.proofs.Fronts.{front_less, front_whole}
use Rattle.top_writer.proofs.HoldLaws.{EndsIn, rows_inside, rows_outside, length-rows_of, sound_more, table_more}
use Rattle.top_writer.proofs.RowCellLaws.{sheet_front}
use Rattle.top_writer.proofs.SheetLaws.{sheet_put, filled_at, length-filled, zero_at}
use Rattle.top_writer.proofs.ShowLaws.{front_head, synced_rows}

-- the cells after a write of sectors behind the data file
pub written_sheet : (n filled at count : ℕ) (rows : List Row) (whole bytes : List ℕ)
    → length bytes ≡ 512 * count → length whole ≡ 4096 + 512 * filled → at + count ≤ n → All (IsTopRow n filled) rows
    → put_at at (map Filled (sectors_in bytes)) (top_sheet whole n rows) ≡ top_sheet (whole ++ bytes) n (rows ++ rows_of at count (what.Place (8 + filled)))
written_sheet n filled at count rows whole bytes size long within sound =
    let file : List ℕ = whole ++ bytes in
    let len = length-filled count bytes size in
    ap (put_at at (map Filled (sectors_in bytes))) (sym (sheet_front n filled rows whole file sound (front_whole (4096 + 512 * filled) whole bytes long)))
    ∙ sheet_put (cell_of file (reverse rows)) (cell_of file (reverse (rows ++ rows_of at count (what.Place (8 + filled))))) at n (map Filled (sectors_in bytes)) (omega (arith, len, within))
    (λ k lt. let below : k < count = omega (arith, len, lt) in
    filled_at count (8 + filled) bytes whole k size (omega (arith, long)) below
    ∙ sym (rows_inside file rows at count (what.Place (8 + filled)) (at + k) (omega arith) (omega (arith, below))
    ∙ ap (λ (j : ℕ). cell_at file (Some (what.Place (8 + filled + j)))) (let e : at + k - at ≡ k = omega arith in e)))
    (λ i out. rows_outside file rows at count (what.Place (8 + filled)) i (subst (λ (c : ℕ). (i < at) ⊎ (at + c ≤ i)) len out))

-- and after a zero
pub zeroed_sheet : (n at count : ℕ) (rows : List Row) (file : List ℕ) → at + count ≤ n
    → put_at at (replicate count Zero) (top_sheet file n rows) ≡ top_sheet file n (rows ++ rows_of at count what.Zero)
zeroed_sheet n at count rows file within =
    let len : length (replicate count Zero) ≡ count = length-replicate count Zero in
    sheet_put (cell_of file (reverse rows)) (cell_of file (reverse (rows ++ rows_of at count what.Zero))) at n (replicate count Zero) (omega (arith, len, within))
    (λ k lt. let below : k < count = omega (arith, len, lt) in
    zero_at count k below ∙ sym (rows_inside file rows at count what.Zero (at + k) (omega arith) (omega (arith, below))))
    (λ i out. rows_outside file rows at count what.Zero i (subst (λ (c : ℕ). (i < at) ⊎ (at + c ≤ i)) len out))

-- rows that wait, behind those that waited
pub waiting_more : (waiting added : List ℕ) (old more : List Row) → length waiting ≡ 16 * length old → length added ≡ 16 * length more
    → AreSpelled waiting 0 old → AreSpelled added 0 more → AreSpelled (waiting ++ added) 0 (old ++ more)
waiting_more waiting added old more old_size more_size first second =
    let file : List ℕ = waiting ++ added in
    let front : waiting ≡ take (length waiting) (drop 0 file) = sym (take-append-le (length waiting) waiting added (omega arith) ∙ take_all (length waiting) waiting (omega arith)) in
    let back : added ≡ take (length added) (drop (length waiting) file) = sym (ap (take (length added)) (drop-append_seam waiting added) ∙ take_all (length added) added (omega arith)) in
    spelled_joined file 0 old more
    (spelled_in file waiting 0 0 (length waiting) old front (omega (arith, old_size)) first)
    (subst (λ (k : ℕ). AreSpelled file k more) (let e : length waiting + 0 ≡ 0 + 16 * length old = omega (arith, old_size) in e)
    (spelled_in file added (length waiting) 0 (length added) more back (omega (arith, more_size)) second))

pub noted_holds : (n : ℕ) (asked : HeadsAsked) (v noted : TopView) (extent : Extent) (w : What) (more : ℕ) (s t : Stand) (whole file : List ℕ) (rows : List Row)
    → Holds n asked v s whole rows → Notes v extent w noted
    → v.filled ≤ more → HasFront (4096 + 512 * v.filled) whole file → length file ≡ 4096 + 512 * more
    → extent.at + extent.count ≤ n → EndsIn more extent.count w
    → HasRoom (v.rows + rows_for extent.count) more
    → t.rows ≡ s.rows + rows_for extent.count → t.filled ≡ more → t.cells ≡ top_sheet file n (rows ++ rows_of extent.at extent.count w)
    → Holds n asked (record noted { filled = more }) t file (rows ++ rows_of extent.at extent.count w)
noted_holds n asked v noted extent w more s t whole file rows holds notes le front long within ends room rows_are filled_are cells =
    let added : List Row = rows_of extent.at extent.count w in
    let count : length added ≡ rows_for extent.count = length-rows_of extent.at extent.count w in
    let enough = synced_rows n asked v s whole rows holds in
    let old_size : length v.waiting ≡ 16 * length (drop v.synced rows) = omega (arith, length-drop v.synced rows, holds.waiting_size, holds.number) in
    record {
      epoch = omega (arith, notes.epoch, holds.epoch);
      sectors = notes.sectors ∙ holds.sectors;
      head = front_head n (4096 + 512 * v.filled) asked whole file (omega arith) front holds.head;
      long = long;
      number = length-append rows added ∙ omega (arith, holds.number, count, notes.rows);
      sound = sound_more n v.filled more extent.at extent.count w rows le within ends holds.sound;
      room = subst (λ (k : ℕ). HasRoom k more) (sym notes.rows) room;
      rows_are = omega (arith, rows_are, holds.rows_are, notes.rows);
      filled_are = filled_are;
      cells = cells;
      table = table_more n v.filled more whole file rows v.segments noted.segments extent w le within ends front holds.sound notes.table holds.table;
      waiting = subst (λ (k : ℕ). AreSpelled noted.waiting 0 (drop k (rows ++ added))) (sym notes.synced)
          (subst (AreSpelled noted.waiting 0) (sym (drop-append-le v.synced rows added enough))
          (subst (λ (bytes : List ℕ). AreSpelled bytes 0 (drop v.synced rows ++ added)) (sym notes.waiting)
          (waiting_more v.waiting notes.added (drop v.synced rows) added old_size (omega (arith, notes.size, count)) holds.waiting notes.spelled)));
      waiting_size = omega (arith, ap length notes.waiting, length-append v.waiting notes.added, notes.size, notes.synced, notes.rows, holds.waiting_size);
    }

-- what a crash leaves is the same of longer files
pub lasts_more : (tells : Bool) (now : DiskState) (n : ℕ) (asked : HeadsAsked) (v new : TopView) (whole file : List ℕ) (rows added : List Row) (may : List Stand)
    → new.epoch ≡ v.epoch → new.mark ≡ v.mark → new.synced ≡ v.synced → v.filled ≤ new.filled
    → HasFront (4096 + 512 * v.filled) whole file → v.synced ≤ length rows
    → (IsTrue tells → HasFront (4096 + 512 * new.filled) file (now.seen (data_file v.epoch)))
    → Lasts tells now n asked v whole rows may → Lasts tells now n asked new file (rows ++ added) may
lasts_more tells now n asked v new whole file rows added may epoch mark synced le front enough seen lasts =
    let within = lasts.within in
    let first : (k : ℕ) → k ≤ v.synced → take k (rows ++ added) ≡ take k rows = λ k le_synced. take-append-le k rows added (omega (arith, le_synced, enough)) in
    let longer : (c : List ℕ) → HasFront (4096 + 512 * lasts.synced_sectors) whole c → HasFront (4096 + 512 * lasts.synced_sectors) file c = λ c h. record {
      long = h.long;
      same = h.same ∙ sym (front_less (4096 + 512 * lasts.synced_sectors) (4096 + 512 * v.filled) whole file (omega (arith, within)) front).same;
    } in
    record {
      synced_sectors = lasts.synced_sectors;
      within = omega (arith, within, le);
      mark_is = ap (λ (m : Mark). m.file) mark ∙ lasts.mark_is ∙ ap mark_file (sym epoch);
      mark = subst (λ (m : Mark). IsKept now m) (sym mark) lasts.mark;
      bytes_left = λ c left. longer c (lasts.bytes_left c (subst (λ (e : ℕ). now.may_leave (data_file e) c) epoch left));
      index_left = λ c left. subst (IsIndex n asked c) (ap (λ (k : ℕ). take k (rows ++ added)) (sym synced))
          (subst (IsIndex n asked c) (sym (first v.synced (omega arith))) (lasts.index_left c (subst (λ (e : ℕ). now.may_leave (index_file e) c) epoch left)));
      seen = λ told. subst (λ (e : ℕ). HasFront (4096 + 512 * new.filled) file (now.seen (data_file e))) (sym epoch) (seen told);
      bodies = λ body may_hold. let old = lasts.bodies body (subst (λ (m : Mark). MayHold m body) mark may_hold) in
          let counted = old.2 in
          let le_sectors = counted.sectors_synced in
          let rows_same = first old.0.rows counted.rows_synced in (
            old.0,
            old.1,
            record {
              counts = counted.counts;
              rows_synced = omega (arith, counted.rows_synced, synced);
              sectors_synced = le_sectors;
              sound = subst (All (IsTopRow n old.0.filled)) (sym rows_same) counted.sound;
              cells = counted.cells
                  ∙ sym (sheet_front n old.0.filled (take old.0.rows rows) whole file counted.sound
                  (front_less (4096 + 512 * old.0.filled) (4096 + 512 * v.filled) whole file (omega (arith, le_sectors, within)) front))
                  ∙ ap (top_sheet file n) (sym rows_same);
            },
          );
    }

-- The rows and the data of a top are put onto the disk.
use Rattle.std.proofs.Common.{◌≡◌, ℕ, ◌+◌, ◌*◌, ◌≤◌, List, [], length, take, drop, refl, sym, ap, subst, ◌∙◌, arith, inl, inr, Option, Bool, IsTrue}
use Rattle.std.proofs.lemmas.List.{take_all, drop_all, take-append-drop, length-take-le, length-drop}
use Rattle.block_disk.specs.Changes.{put, Torn, Same, Only}
use Rattle.block_disk.specs.DiskState.{DiskState, Steps}
use Rattle.gate_mark.specs.Mark.{sequence_in}
use Rattle.seg_mapping.specs.declared.Row.{Row}
use Rattle.flat_image.specs.Left.{Stand}
use Rattle.flat_image.specs.RowCells.{AreSpelled}
use Rattle.top_writer.specs.declared.top.Top.{Top}
use Rattle.top_writer.specs.Files.{data_file, index_file, HeadsAsked}
use Rattle.top_writer.specs.Fitting.{HasFront, IsIndex, Holds, Lasts, ViewFits, ViewStored, TopFits, TopGoes}
use Rattle.top_writer.specs.Stands.{unchanged, as_before}
use Rattle.top_writer.specs.View.{TopView, view_of}
use Rattle.top_writer.proofs.IndexLaws.{index_torn, index_put}
use Rattle.top_writer.proofs.ShowLaws.{synced_rows}
use Rattle.top_writer.proofs.Going.{KnowsNow, going_started, going_on, lasts_data, lasts_index, not_data_index}

-- the write of the rows that wait, done or in part or torn
pub lasts_rows : (tells : Bool) (old new : DiskState) (n : ℕ) (asked : HeadsAsked) (v : TopView) (file : List ℕ) (rows : List Row) (may : List Stand) (size : ℕ) → v.synced ≤ length rows
    → Steps (index_file v.epoch) (Torn (4096 + 16 * v.synced) size) old new
    → Lasts tells old n asked v file rows may → Lasts tells new n asked v file rows may
lasts_rows tells old new n asked v file rows may size enough steps lasts =
    lasts_index tells old new n asked v file rows may (Torn (4096 + 16 * v.synced) size) steps
    (λ d c is torn. index_torn n asked (4096 + 16 * v.synced) size d c (take v.synced rows) (omega (arith, length-take-le v.synced rows enough)) torn is) lasts

-- a sync
pub lasts_data_sync : (tells : Bool) (old new : DiskState) (n : ℕ) (asked : HeadsAsked) (v : TopView) (file : List ℕ) (rows : List Row) (may : List Stand)
    → Steps (data_file v.epoch) Same old new → Lasts tells old n asked v file rows may → Lasts tells new n asked v file rows may
lasts_data_sync tells old new n asked v file rows may steps lasts =
    lasts_data tells old new n asked v file rows may Same steps (λ k d c le front same. subst (HasFront (4096 + 512 * k) file) (sym same) front) lasts

pub lasts_index_sync : (tells : Bool) (old new : DiskState) (n : ℕ) (asked : HeadsAsked) (v : TopView) (file : List ℕ) (rows : List Row) (may : List Stand)
    → Steps (index_file v.epoch) Same old new → Lasts tells old n asked v file rows may → Lasts tells new n asked v file rows may
lasts_index_sync tells old new n asked v file rows may steps lasts =
    lasts_index tells old new n asked v file rows may Same steps (λ d c is same. subst (λ (x : List ℕ). IsIndex n asked x (take v.synced rows)) (sym same) is) lasts

-- the three calls, each with what is known after it
pub record Stores (tells : Bool) (first second third last : DiskState) (v : TopView) : Type 0 where
  pub written : IsTrue tells → second.seen (index_file v.epoch) ≡ put (first.seen (index_file v.epoch)) (4096 + 16 * v.synced) v.waiting
  pub rows_steps : Steps (index_file v.epoch) (Torn (4096 + 16 * v.synced) (length v.waiting)) first second
  pub data_steps : Steps (data_file v.epoch) Same second third
  pub data_durable : Only (third.seen (data_file v.epoch)) (third.may_leave (data_file v.epoch))
  pub index_steps : Steps (index_file v.epoch) Same third last
  pub index_durable : Only (last.seen (index_file v.epoch)) (last.may_leave (index_file v.epoch))
  pub stays : IsTrue tells → first.may_leave (index_file v.epoch) (first.seen (index_file v.epoch))
  pub told : (f : ℕ) (c : List ℕ) → last.may_leave f c → IsTrue tells

-- the top of which all rows are on the disk
abbrev pub all_synced : TopView → TopView
all_synced v = record v { synced = v.rows; waiting = [] }

-- the rows in the index after them
stored_index : (tells : Bool) (first second third last : DiskState) (n : ℕ) (asked : HeadsAsked) (v : TopView) (s : Stand) (file : List ℕ) (rows : List Row) (may : List Stand)
    → Stores tells first second third last v → Holds n asked v s file rows → Lasts tells first n asked v file rows may
    → (c : List ℕ) → last.may_leave (index_file v.epoch) c → IsIndex n asked c rows
stored_index tells first second third last n asked v s file rows may stores holds lasts c left =
    let told = stores.told (index_file v.epoch) c left in
    let enough = synced_rows n asked v s file rows holds in
    let seen : c ≡ put (first.seen (index_file v.epoch)) (4096 + 16 * v.synced) v.waiting =
    stores.index_durable c left ∙ stores.index_steps.seen ∙ stores.data_steps.others.seen (index_file v.epoch) (not_data_index v.epoch) ∙ stores.written told in
    let number : length (take v.synced rows) ≡ v.synced = length-take-le v.synced rows enough in
    let put_now = index_put n asked (4096 + 16 * v.synced) (first.seen (index_file v.epoch)) v.waiting (take v.synced rows) (drop v.synced rows)
    (omega (arith, number)) (omega (arith, length-drop v.synced rows, holds.waiting_size, holds.number)) holds.waiting
    (lasts.index_left (first.seen (index_file v.epoch)) (stores.stays told)) in
    subst (λ (x : List ℕ). IsIndex n asked x rows) (sym seen)
    (subst (IsIndex n asked (put (first.seen (index_file v.epoch)) (4096 + 16 * v.synced) v.waiting)) (take-append-drop v.synced rows) put_now)

pub stored_fits : (tells : Bool) (first second third last : DiskState) (n : ℕ) (asked : HeadsAsked) (v : TopView) (s : Stand) (may : List Stand)
    → Stores tells first second third last v → ViewFits tells first n asked v s may → ViewStored tells last n asked (all_synced v) s may
stored_fits tells first second third last n asked v s may stores fits =
    let file = fits.file in
    let rows = fits.rows in
    let holds = fits.holds in
    let enough = synced_rows n asked v s file rows holds in
    let at_second = lasts_rows tells first second n asked v file rows may (length v.waiting) enough stores.rows_steps fits.lasts in
    let at_third = lasts_data_sync tells second third n asked v file rows may stores.data_steps at_second in
    let at_last = lasts_index_sync tells third last n asked v file rows may stores.index_steps at_third in
    let all_rows : take v.rows rows ≡ rows = take_all v.rows rows (omega (arith, holds.number)) in
    let apart : data_file v.epoch ≡ index_file v.epoch → ⊥ = λ e. omega (arith, e) in
    record {
      file = file;
      rows = rows;
      holds = record {
        epoch = holds.epoch;
        sectors = holds.sectors;
        head = holds.head;
        long = holds.long;
        number = holds.number;
        sound = holds.sound;
        room = holds.room;
        rows_are = holds.rows_are;
        filled_are = holds.filled_are;
        cells = holds.cells;
        table = holds.table;
        waiting = subst (AreSpelled [] 0) (sym (drop_all v.rows rows (omega (arith, holds.number)))) tt;
        waiting_size = omega arith;
      };
      lasts = record {
        synced_sectors = v.filled;
        within = omega arith;
        mark_is = at_last.mark_is;
        mark = at_last.mark;
        bytes_left = λ c left.
            let before = stores.index_steps.others.left (data_file v.epoch) c apart left in
            subst (HasFront (4096 + 512 * v.filled) file) (sym (stores.data_durable c before)) (at_third.seen (stores.told (data_file v.epoch) c left));
        index_left = λ c left. subst (IsIndex n asked c) (sym all_rows) (stored_index tells first second third last n asked v s file rows may stores holds fits.lasts c left);
        seen = at_last.seen;
        bodies = λ body may_hold. let old = at_last.bodies body may_hold in
            let counted = old.2 in (
              old.0,
              old.1,
              record {
                counts = counted.counts;
                rows_synced = omega (arith, counted.rows_synced, enough, holds.number);
                sectors_synced = omega (arith, counted.sectors_synced, at_last.within);
                sound = counted.sound;
                cells = counted.cells;
              },
            );
      };
      all_rows = refl;
      all_sectors = refl;
    }

-- a top of which all is stored fits
pub fits_stored : (tells : Bool) (now : DiskState) (n : ℕ) (asked : HeadsAsked) (v : TopView) (s : Stand) (may : List Stand)
    → ViewStored tells now n asked v s may → ViewFits tells now n asked v s may
fits_stored tells now n asked v s may stored = record { file = stored.file; rows = stored.rows; holds = stored.holds; lasts = stored.lasts }

rows_fits : (tells : Bool) (old new : DiskState) (n : ℕ) (asked : HeadsAsked) (v : TopView) (s : Stand) (may : List Stand) (size : ℕ)
    → Steps (index_file v.epoch) (Torn (4096 + 16 * v.synced) size) old new → ViewFits tells old n asked v s may → ViewFits tells new n asked v s may
rows_fits tells old new n asked v s may size steps fits = record {
  file = fits.file;
  rows = fits.rows;
  holds = fits.holds;
  lasts = lasts_rows tells old new n asked v fits.file fits.rows may size (synced_rows n asked v s fits.file fits.rows fits.holds) steps fits.lasts;
}

data_sync_fits : (tells : Bool) (old new : DiskState) (n : ℕ) (asked : HeadsAsked) (v : TopView) (s : Stand) (may : List Stand)
    → Steps (data_file v.epoch) Same old new → ViewFits tells old n asked v s may → ViewFits tells new n asked v s may
data_sync_fits tells old new n asked v s may steps fits = record {
  file = fits.file;
  rows = fits.rows;
  holds = fits.holds;
  lasts = lasts_data_sync tells old new n asked v fits.file fits.rows may steps fits.lasts;
}

index_sync_fits : (tells : Bool) (old new : DiskState) (n : ℕ) (asked : HeadsAsked) (v : TopView) (s : Stand) (may : List Stand)
    → Steps (index_file v.epoch) Same old new → ViewFits tells old n asked v s may → ViewFits tells new n asked v s may
index_sync_fits tells old new n asked v s may steps fits = record {
  file = fits.file;
  rows = fits.rows;
  holds = fits.holds;
  lasts = lasts_index_sync tells old new n asked v fits.file fits.rows may steps fits.lasts;
}

-- as far as the write of the rows
pub goes_rows : (tells : Bool) (old new : DiskState) (p : Top) (size : ℕ) → KnowsNow old
    → Steps (index_file p.epoch) (Torn (4096 + 16 * p.synced) size) old new → TopGoes tells old new p p unchanged as_before
goes_rows tells old new p size now_at steps = record {
  epoch = refl;
  sectors = refl;
  sequence = omega arith;
  fits = λ n asked s may fits. rows_fits tells old new n asked (view_of p) s may size steps fits;
  any_moment = λ n asked s may fits.
      going_on tells old old new n asked (view_of p) s may (index_file p.epoch) (Torn (4096 + 16 * p.synced) size)
      (going_started tells old n asked (view_of p) s may now_at fits) (inr (inl refl)) steps (rows_fits tells old new n asked (view_of p) s may size steps fits);
}

-- a sync of the data after it
pub goes_data_sync : (tells : Bool) (old mid new : DiskState) (p : Top) → TopGoes tells old mid p p unchanged as_before
    → Steps (data_file p.epoch) Same mid new → TopGoes tells old new p p unchanged as_before
goes_data_sync tells old mid new p goes steps = record {
  epoch = refl;
  sectors = refl;
  sequence = omega arith;
  fits = λ n asked s may fits. data_sync_fits tells mid new n asked (view_of p) s may steps (goes.fits n asked s may fits);
  any_moment = λ n asked s may fits.
      going_on tells old mid new n asked (view_of p) s may (data_file p.epoch) Same (goes.any_moment n asked s may fits) (inl refl) steps
      (data_sync_fits tells mid new n asked (view_of p) s may steps (goes.fits n asked s may fits));
}

-- and of the rows
pub goes_index_sync : (tells : Bool) (old mid new : DiskState) (p : Top) → TopGoes tells old mid p p unchanged as_before
    → Steps (index_file p.epoch) Same mid new → TopGoes tells old new p p unchanged as_before
goes_index_sync tells old mid new p goes steps = record {
  epoch = refl;
  sectors = refl;
  sequence = omega arith;
  fits = λ n asked s may fits. index_sync_fits tells mid new n asked (view_of p) s may steps (goes.fits n asked s may fits);
  any_moment = λ n asked s may fits.
      going_on tells old mid new n asked (view_of p) s may (index_file p.epoch) Same (goes.any_moment n asked s may fits) (inr (inl refl)) steps
      (index_sync_fits tells mid new n asked (view_of p) s may steps (goes.fits n asked s may fits));
}

-- all of it
pub goes_stored : (tells : Bool) (first second third last : DiskState) (p q : Top) → view_of q ≡ all_synced (view_of p) → Stores tells first second third last (view_of p)
    → TopGoes tells first last p p unchanged as_before → TopGoes tells first last p q unchanged as_before
goes_stored tells first second third last p q same stores goes = record {
  epoch = ap (λ (v : TopView). v.epoch) same;
  sectors = ap (λ (v : TopView). v.sectors) same;
  sequence = omega (arith, ap (λ (v : TopView). sequence_in v.mark) same);
  fits = λ n asked s may fits. subst (λ (v : TopView). ViewFits tells last n asked v s may) (sym same)
      (fits_stored tells last n asked (all_synced (view_of p)) s may (stored_fits tells first second third last n asked (view_of p) s may stores fits));
  any_moment = goes.any_moment;
}

pub all_stored : (tells : Bool) (first second third last : DiskState) (p q : Top) → view_of q ≡ all_synced (view_of p) → Stores tells first second third last (view_of p)
    → (n : ℕ) (asked : HeadsAsked) (s : Stand) (may : List Stand) → TopFits tells first n asked p s may → ViewStored tells last n asked (view_of q) s may
all_stored tells first second third last p q same stores n asked s may fits =
    subst (λ (v : TopView). ViewStored tells last n asked v s may) (sym same) (stored_fits tells first second third last n asked (view_of p) s may stores fits)

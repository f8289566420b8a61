-- Calls on the files of a top, and what a crash leaves after each.
use Rattle.std.proofs.Common.{◌≡◌, ℕ, suc, ◌+◌, ◌*◌, ◌≤◌, List, ◌∷◌, take, refl, sym, ap, subst, ◌∙◌, arith, inl, inr, Option, Bool}
use Rattle.std.specs.Prelude.{Contains}
use Rattle.block_disk.specs.Changes.{Torn}
use Rattle.block_disk.specs.DiskState.{DiskState, Files, Leaves, Steps, Spares}
use Rattle.block_disk.specs.Claims.{Run, Quiet}
use Rattle.block_disk.proofs.Moments.{run_started, run_on}
use Rattle.gate_mark.specs.Mark.{file_of, sequence_in}
use Rattle.seg_mapping.specs.declared.Row.{Row}
use Rattle.flat_image.specs.Left.{Stand}
use Rattle.top_writer.specs.declared.top.Top.{Top}
use Rattle.top_writer.specs.Files.{data_file, index_file, mark_file, TopFiles, HeadsAsked}
use Rattle.top_writer.specs.Fitting.{HasFront, IsIndex, Lasts, ViewFits, TopFits, TopGoes}
use Rattle.top_writer.specs.Showing.{ShowsOne}
use Rattle.top_writer.specs.Stands.{unchanged, as_before}
use Rattle.top_writer.specs.View.{TopView, view_of, epoch_of}
use Rattle.top_writer.proofs.Fronts.{front_torn}
use Rattle.top_writer.proofs.ShowLaws.{fits_shown}

-- what is known of a disk at this moment, and what it makes of a crash
abbrev pub KnowsNow : DiskState → Type 0
KnowsNow now = (files : Files) → now.left_at now.moment files → Leaves now files

pub contains_more : (s : Stand) (may : List Stand) (u : Stand) → Contains may u → Contains (s ∷ may) u
contains_more s may u among = (suc among.0, omega (arith, among.1), among.2)

pub shows_more : (epoch n : ℕ) (asked : HeadsAsked) (s : Stand) (may : List Stand) (files : Files) → ShowsOne epoch n asked may files → ShowsOne epoch n asked (s ∷ may) files
shows_more epoch n asked s may files one = record { stand = one.stand; among = contains_more s may one.stand one.among; shows = one.shows }

-- a top that fits shows itself or what a crash may leave of it
pub shows_here : (tells : Bool) (now : DiskState) (n : ℕ) (asked : HeadsAsked) (v : TopView) (s : Stand) (may : List Stand)
    → ViewFits tells now n asked v s may → (files : Files) → Leaves now files → ShowsOne v.epoch n asked (s ∷ may) files
shows_here tells now n asked v s may fits files leaves = shows_more v.epoch n asked s may files (fits_shown tells now n asked v s may fits files leaves)

-- no call
pub going_started : (tells : Bool) (now : DiskState) (n : ℕ) (asked : HeadsAsked) (v : TopView) (s : Stand) (may : List Stand)
    → KnowsNow now → ViewFits tells now n asked v s may → Run (TopFiles v.epoch) now now (ShowsOne v.epoch n asked (s ∷ may))
going_started tells now n asked v s may now_at fits =
    run_started (TopFiles v.epoch) now (ShowsOne v.epoch n asked (s ∷ may)) now_at (shows_here tells now n asked v s may fits)

-- one call more
pub going_on : (tells : Bool) (old mid new : DiskState) (n : ℕ) (asked : HeadsAsked) (v : TopView) (s : Stand) (may : List Stand) (file : ℕ) (step : List ℕ → List ℕ → Type 0)
    → Run (TopFiles v.epoch) old mid (ShowsOne v.epoch n asked (s ∷ may)) → TopFiles v.epoch file → Steps file step mid new
    → ViewFits tells new n asked v s may → Run (TopFiles v.epoch) old new (ShowsOne v.epoch n asked (s ∷ may))
going_on tells old mid new n asked v s may file step run touched steps fits =
    run_on (TopFiles v.epoch) old mid new (ShowsOne v.epoch n asked (s ∷ may)) file step run touched steps (shows_here tells new n asked v s may fits)

pub not_data_index : (epoch : ℕ) → index_file epoch ≡ data_file epoch → ⊥
not_data_index epoch e = omega (arith, e)

pub not_data_mark : (epoch : ℕ) → mark_file epoch ≡ data_file epoch → ⊥
not_data_mark epoch e = omega (arith, e)

pub not_index_data : (epoch : ℕ) → data_file epoch ≡ index_file epoch → ⊥
not_index_data epoch e = omega (arith, e)

pub not_index_mark : (epoch : ℕ) → mark_file epoch ≡ index_file epoch → ⊥
not_index_mark epoch e = omega (arith, e)

-- a call on the data file that leaves its fronts
pub lasts_data : (tells : Bool) (old new : DiskState) (n : ℕ) (asked : HeadsAsked) (v : TopView) (file : List ℕ) (rows : List Row) (may : List Stand) (step : List ℕ → List ℕ → Type 0)
    → Steps (data_file v.epoch) step old new
    → ((k : ℕ) (d c : List ℕ) → k ≤ v.filled → HasFront (4096 + 512 * k) file d → step d c → HasFront (4096 + 512 * k) file c)
    → Lasts tells old n asked v file rows may → Lasts tells new n asked v file rows may
lasts_data tells old new n asked v file rows may step steps lasting lasts = record {
  synced_sectors = lasts.synced_sectors;
  within = lasts.within;
  mark_is = lasts.mark_is;
  mark = λ c left. lasts.mark c (steps.others.left (file_of v.mark) c (λ e. not_data_mark v.epoch (sym lasts.mark_is ∙ e)) left);
  bytes_left = λ c left. let before = steps.left c left in lasting lasts.synced_sectors before.0 c lasts.within (lasts.bytes_left before.0 before.1) before.2;
  index_left = λ c left. lasts.index_left c (steps.others.left (index_file v.epoch) c (not_data_index v.epoch) left);
  seen = λ told. lasting v.filled (old.seen (data_file v.epoch)) (new.seen (data_file v.epoch)) (omega arith) (lasts.seen told) steps.seen;
  bodies = lasts.bodies;
}

-- a call on the index file that leaves the rows on the disk
pub lasts_index : (tells : Bool) (old new : DiskState) (n : ℕ) (asked : HeadsAsked) (v : TopView) (file : List ℕ) (rows : List Row) (may : List Stand) (step : List ℕ → List ℕ → Type 0)
    → Steps (index_file v.epoch) step old new
    → ((d c : List ℕ) → IsIndex n asked d (take v.synced rows) → step d c → IsIndex n asked c (take v.synced rows))
    → Lasts tells old n asked v file rows may → Lasts tells new n asked v file rows may
lasts_index tells old new n asked v file rows may step steps lasting lasts = record {
  synced_sectors = lasts.synced_sectors;
  within = lasts.within;
  mark_is = lasts.mark_is;
  mark = λ c left. lasts.mark c (steps.others.left (file_of v.mark) c (λ e. not_index_mark v.epoch (sym lasts.mark_is ∙ e)) left);
  bytes_left = λ c left. lasts.bytes_left c (steps.others.left (data_file v.epoch) c (not_index_data v.epoch) left);
  index_left = λ c left. let before = steps.left c left in lasting before.0 c (lasts.index_left before.0 before.1) before.2;
  seen = λ told. subst (HasFront (4096 + 512 * v.filled) file) (sym (steps.others.seen (data_file v.epoch) (not_index_data v.epoch))) (lasts.seen told);
  bodies = lasts.bodies;
}

-- calls on other files
pub lasts_spared : (tells : Bool) (old new : DiskState) (n : ℕ) (asked : HeadsAsked) (v : TopView) (file : List ℕ) (rows : List Row) (may : List Stand) (touched : ℕ → Type 0)
    → Spares touched old new → ((f : ℕ) → TopFiles v.epoch f → ¬ touched f)
    → Lasts tells old n asked v file rows may → Lasts tells new n asked v file rows may
lasts_spared tells old new n asked v file rows may touched spares apart lasts = record {
  synced_sectors = lasts.synced_sectors;
  within = lasts.within;
  mark_is = lasts.mark_is;
  mark = λ c left. lasts.mark c (spares.left (file_of v.mark) c (apart (file_of v.mark) (inr (inr lasts.mark_is))) left);
  bytes_left = λ c left. lasts.bytes_left c (spares.left (data_file v.epoch) c (apart (data_file v.epoch) (inl refl)) left);
  index_left = λ c left. lasts.index_left c (spares.left (index_file v.epoch) c (apart (index_file v.epoch) (inr (inl refl))) left);
  seen = λ told. subst (HasFront (4096 + 512 * v.filled) file) (sym (spares.seen (data_file v.epoch) (apart (data_file v.epoch) (inl refl)))) (lasts.seen told);
  bodies = lasts.bodies;
}

-- a write behind the data, done or in part or torn
pub lasts_appended : (tells : Bool) (old new : DiskState) (n : ℕ) (asked : HeadsAsked) (v : TopView) (file : List ℕ) (rows : List Row) (may : List Stand) (size : ℕ)
    → Steps (data_file v.epoch) (Torn (4096 + 512 * v.filled) size) old new
    → Lasts tells old n asked v file rows may → Lasts tells new n asked v file rows may
lasts_appended tells old new n asked v file rows may size steps lasts =
    lasts_data tells old new n asked v file rows may (Torn (4096 + 512 * v.filled) size) steps
    (λ k d c le front torn. front_torn (4096 + 512 * k) (4096 + 512 * v.filled) size file d c (omega (arith, le)) torn front) lasts

-- a call that changes no field of the top, and no file
pub goes_same : (tells : Bool) (now : DiskState) (p q : Top) → view_of q ≡ view_of p → KnowsNow now → TopGoes tells now now p q unchanged as_before
goes_same tells now p q same now_at = record {
  epoch = ap (λ (v : TopView). v.epoch) same;
  sectors = ap (λ (v : TopView). v.sectors) same;
  sequence = omega (arith, ap (λ (v : TopView). sequence_in v.mark) same);
  fits = λ n asked s may fits. subst (λ (v : TopView). ViewFits tells now n asked v s may) (sym same) fits;
  any_moment = λ n asked s may fits. going_started tells now n asked (view_of p) s may now_at fits;
}

-- what a top has and what a crash leaves of it are the same after calls on other files, and after calls that change nothing
pub fits_spared : (tells : Bool) (old new : DiskState) (n : ℕ) (asked : HeadsAsked) (p : Top) (s : Stand) (may : List Stand) (touched : ℕ → Type 0)
    → Spares touched old new → ((f : ℕ) → TopFiles (epoch_of p) f → ¬ touched f)
    → TopFits tells old n asked p s may → TopFits tells new n asked p s may
fits_spared tells old new n asked p s may touched spares apart fits = record {
  file = fits.file;
  rows = fits.rows;
  holds = fits.holds;
  lasts = lasts_spared tells old new n asked (view_of p) fits.file fits.rows may touched spares apart fits.lasts;
}

pub fits_quiet : (tells : Bool) (old new : DiskState) (n : ℕ) (asked : HeadsAsked) (p : Top) (s : Stand) (may : List Stand)
    → Quiet old new → TopFits tells old n asked p s may → TopFits tells new n asked p s may
fits_quiet tells old new n asked p s may quiet fits = fits_spared tells old new n asked p s may (λ f. ⊥) quiet.others (λ f is none. none) fits

-- A flush: its mark is set.
use Rattle.std.proofs.Common.{◌≡◌, ℕ, ◌+◌, ◌*◌, ◌⊎◌, List, [], ◌∷◌, take, refl, sym, ap, subst, ◌∙◌, arith, inl, inr, Option, Bool}
use Rattle.std.specs.Prelude.{All, Contains}
use Rattle.std.proofs.lemmas.List.{take_all}
use Rattle.block_disk.specs.DiskState.{DiskState, Files, Spares}
use Rattle.block_disk.specs.Claims.{Beside, Run, RunBy, FileRunBy}
use Rattle.block_disk.proofs.Moments.{by_widened, run_weakened, run_joined}
use Rattle.gate_mark.specs.declared.mark.Mark.{Mark}
use Rattle.gate_mark.specs.declared.mark.Rest.{Rest}
use Rattle.gate_mark.specs.declared.mark.Rest.TheVariants.{Closed, Attempted}
use Rattle.gate_mark.specs.Mark.{file_of, sequence_in, body_in, IsKept, MayHold, ShowsEither, Attempts, IsSet, IsSameBut}
use Rattle.seg_mapping.specs.declared.Row.{Row}
use Rattle.flat_image.specs.Left.{Stand}
use Rattle.top_writer.specs.declared.top.Top.{Top}
use Rattle.top_writer.specs.Files.{data_file, index_file, mark_file, TopFiles, rows_said, sectors_said, HeadsAsked}
use Rattle.top_writer.specs.Fitting.{HasFront, IsCounted, Holds, ViewFits, ViewStored, TopFits, TopGoes, IsAllCounted}
use Rattle.top_writer.specs.Rows.{IsTopRow, top_sheet}
use Rattle.top_writer.specs.Showing.{ShowsOne}
use Rattle.top_writer.specs.Stands.{unchanged, as_before, just_this, this_too}
use Rattle.top_writer.specs.View.{TopView, view_of, epoch_of}
use Rattle.top_writer.proofs.ShowLaws.{either_body, counted_shows, synced_rows}
use Rattle.top_writer.proofs.Going.{KnowsNow, contains_more, goes_same, not_data_mark, not_index_mark}

contains_first : (s : Stand) (may : List Stand) → Contains (s ∷ may) s
contains_first s may = (0, omega arith, refl)

-- a body that counts all rows and all sectors of a top that is stored counts the top as it stands
whole_counted : (tells : Bool) (now : DiskState) (n : ℕ) (asked : HeadsAsked) (v : TopView) (s : Stand) (may : List Stand) (body : List ℕ)
    → (stored : ViewStored tells now n asked v s may) → rows_said body ≡ v.rows → sectors_said body ≡ v.filled
    → IsCounted n stored.file stored.rows v.synced stored.lasts.synced_sectors body s
whole_counted tells now n asked v s may body stored rows sectors =
    let holds = stored.holds in
    let all_rows : take s.rows stored.rows ≡ stored.rows = take_all s.rows stored.rows (omega (arith, holds.number, holds.rows_are)) in
    record {
      counts = record {
        rows_are = rows ∙ sym holds.rows_are;
        sectors_are = sectors ∙ sym holds.filled_are;
        room = record { rows_fit = omega (arith, holds.room.rows_fit, holds.rows_are); sectors_fit = omega (arith, holds.room.sectors_fit, holds.filled_are) };
      };
      rows_synced = omega (arith, holds.rows_are, stored.all_rows);
      sectors_synced = omega (arith, holds.filled_are, stored.all_sectors);
      sound = subst (All (IsTopRow n s.filled)) (sym all_rows) (subst (λ (k : ℕ). All (IsTopRow n k) stored.rows) (sym holds.filled_are) holds.sound);
      cells = holds.cells ∙ ap (top_sheet stored.file n) (sym all_rows);
    }

-- the same fields with another mark hold the same
marked_holds : (n : ℕ) (asked : HeadsAsked) (v : TopView) (m : Mark) (s : Stand) (file : List ℕ) (rows : List Row) → Holds n asked v s file rows
    → Holds n asked (record v { mark = m }) s file rows
marked_holds n asked v m s file rows holds = record {
  epoch = holds.epoch;
  sectors = holds.sectors;
  head = holds.head;
  long = holds.long;
  number = holds.number;
  sound = holds.sound;
  room = holds.room;
  rows_are = holds.rows_are;
  filled_are = holds.filled_are;
  cells = holds.cells;
  table = holds.table;
  waiting = holds.waiting;
  waiting_size = holds.waiting_size;
}

-- after the calls on the mark's file
marked_fits : (tells : Bool) (old new : DiskState) (n : ℕ) (asked : HeadsAsked) (v : TopView) (m : Mark) (s : Stand) (may may_then : List Stand)
    → (stored : ViewStored tells old n asked v s may)
    → Spares (λ f. f ≡ mark_file v.epoch) old new → file_of m ≡ file_of v.mark → IsKept new m
    → ((body : List ℕ) → MayHold m body → (u : Stand) × Contains may_then u × IsCounted n stored.file stored.rows v.synced stored.lasts.synced_sectors body u)
    → ViewFits tells new n asked (record v { mark = m }) s may_then
marked_fits tells old new n asked v m s may may_then stored spares file_same kept bodies =
    let lasts = stored.lasts in record {
      file = stored.file;
      rows = stored.rows;
      holds = marked_holds n asked v m s stored.file stored.rows stored.holds;
      lasts = record {
        synced_sectors = lasts.synced_sectors;
        within = lasts.within;
        mark_is = file_same ∙ lasts.mark_is;
        mark = kept;
        bytes_left = λ c left. lasts.bytes_left c (spares.left (data_file v.epoch) c (λ e. not_data_mark v.epoch (sym e)) left);
        index_left = λ c left. lasts.index_left c (spares.left (index_file v.epoch) c (λ e. not_index_mark v.epoch (sym e)) left);
        seen = λ told. subst (HasFront (4096 + 512 * v.filled) stored.file) (sym (spares.seen (data_file v.epoch) (λ e. not_data_mark v.epoch (sym e)))) (lasts.seen told);
        bodies = bodies;
      };
    }

closed_is_none : (held : List ℕ) → Closed ≡ Attempted held → ⊥
closed_is_none held e = cc

attempted_same : (a b : List ℕ) → Attempted a ≡ Attempted b → a ≡ b
attempted_same a b e = cc

-- what a body counts that a crash may leave in a set
set_counted : (tells : Bool) (old : DiskState) (n : ℕ) (asked : HeadsAsked) (v : TopView) (s : Stand) (may : List Stand) (body : List ℕ) (attempt : Rest) (held : List ℕ)
    → (stored : ViewStored tells old n asked v s may) → rows_said body ≡ v.rows → sectors_said body ≡ v.filled
    → Attempts body v.mark.rest attempt → (held ≡ v.mark.body) ⊎ (attempt ≡ Attempted held)
    → (u : Stand) × Contains (s ∷ may) u × IsCounted n stored.file stored.rows v.synced stored.lasts.synced_sectors held u
set_counted tells old n asked v s may body attempt held stored rows sectors attempts (inl e) =
    let one = stored.lasts.bodies held (inl e) in (one.0, contains_more s may one.0 one.1, one.2)
set_counted tells old n asked v s may body attempt held stored rows sectors (inl same) (inr e) =
    let one = stored.lasts.bodies held (inr (sym same ∙ e)) in (one.0, contains_more s may one.0 one.1, one.2)
set_counted tells old n asked v s may body attempt held stored rows sectors (inr (inl none)) (inr e) = absurd (closed_is_none held (sym none ∙ e))
set_counted tells old n asked v s may body attempt held stored rows sectors (inr (inr new)) (inr e) =
    let same : held ≡ body = attempted_same held body (sym e ∙ new) in
    (s, contains_first s may, whole_counted tells old n asked v s may held stored (ap rows_said same ∙ rows) (ap sectors_said same ∙ sectors))

-- at each moment of a set
set_shows : (tells : Bool) (old : DiskState) (n : ℕ) (asked : HeadsAsked) (v : TopView) (s : Stand) (may : List Stand) (body : List ℕ) (attempt : Rest) (files : Files)
    → (stored : ViewStored tells old n asked v s may) → rows_said body ≡ v.rows → sectors_said body ≡ v.filled
    → Attempts body v.mark.rest attempt → ShowsEither v.mark attempt (files (mark_file v.epoch))
    → old.may_leave (data_file v.epoch) (files (data_file v.epoch)) → old.may_leave (index_file v.epoch) (files (index_file v.epoch))
    → ShowsOne v.epoch n asked (s ∷ may) files
set_shows tells old n asked v s may body attempt files stored rows sectors attempts either bytes index =
    let held = either_body v.mark attempt (files (mark_file v.epoch)) either in
    let lasts = stored.lasts in
    let one = set_counted tells old n asked v s may body attempt held.1 stored rows sectors attempts held.2 in
    record {
      stand = one.0;
      among = one.1;
      shows = counted_shows n asked stored.file stored.rows v.synced lasts.synced_sectors held.0 held.1 one.0
          (record { bytes = files (data_file v.epoch); index = files (index_file v.epoch); mark = files (mark_file v.epoch) })
          stored.holds.head (synced_rows n asked v s stored.file stored.rows stored.holds) one.2
          (lasts.bytes_left (files (data_file v.epoch)) bytes) (lasts.index_left (files (index_file v.epoch)) index) held.3;
    }

set_run : (tells : Bool) (old new : DiskState) (n : ℕ) (asked : HeadsAsked) (v : TopView) (s : Stand) (may : List Stand) (body : List ℕ)
    → ViewStored tells old n asked v s may → rows_said body ≡ v.rows → sectors_said body ≡ v.filled
    → FileRunBy (file_of v.mark) old new (λ (attempt : Rest) c. Attempts body v.mark.rest attempt × ShowsEither v.mark attempt c)
    → Run (TopFiles v.epoch) old new (ShowsOne v.epoch n asked (s ∷ may))
set_run tells old new n asked v s may body stored rows sectors run =
    let P : Rest → Files → Type 0 = λ attempt files. Attempts body v.mark.rest attempt × ShowsEither v.mark attempt (files (mark_file v.epoch)) in
    let on_file : RunBy (λ f. f ≡ mark_file v.epoch) old new P =
    subst (λ (k : ℕ). FileRunBy k old new (λ (attempt : Rest) c. Attempts body v.mark.rest attempt × ShowsEither v.mark attempt c)) stored.lasts.mark_is run in
    run_weakened (TopFiles v.epoch) old new (λ (attempt : Rest) files. Beside (λ f. f ≡ mark_file v.epoch) old (P attempt) files) (ShowsOne v.epoch n asked (s ∷ may))
    (by_widened (λ f. f ≡ mark_file v.epoch) (TopFiles v.epoch) old new P on_file (λ f e. inr (inr e)))
    (λ attempt files beside.
    set_shows tells old n asked v s may body attempt files stored rows sectors beside.has.has.0 beside.has.has.1
    (beside.has.others (data_file v.epoch) (λ e. not_data_mark v.epoch (sym e))) (beside.has.others (index_file v.epoch) (λ e. not_index_mark v.epoch (sym e))))

spared_by : (old new : DiskState) (mark : Mark) (epoch : ℕ) (P : Rest → List ℕ → Type 0) → file_of mark ≡ mark_file epoch → FileRunBy (file_of mark) old new P
    → Spares (λ f. f ≡ mark_file epoch) old new
spared_by old new mark epoch P is run = subst (λ (k : ℕ). Spares (λ f. f ≡ k) old new) is run.others

-- a set that failed, after all was stored
pub goes_attempted : (tells : Bool) (first old new : DiskState) (p mid : Top) (m : Mark) (body : List ℕ)
    → TopGoes tells first old p mid unchanged as_before
    → ((n : ℕ) (asked : HeadsAsked) (s : Stand) (may : List Stand) → TopFits tells first n asked p s may → ViewStored tells old n asked (view_of mid) s may)
    → rows_said body ≡ mid.rows → sectors_said body ≡ mid.filled
    → FileRunBy (file_of mid.mark) old new (λ (attempt : Rest) c. Attempts body mid.mark.rest attempt × ShowsEither mid.mark attempt c)
    → IsSameBut mid.mark m → IsKept new m
    → ((b : List ℕ) → MayHold m b → MayHold mid.mark b ⊎ (b ≡ body))
    → TopGoes tells first new p (record mid { mark = m }) unchanged this_too
goes_attempted tells first old new p mid m body goes stored rows sectors run same kept bodies =
    let v : TopView = view_of mid in record {
      epoch = goes.epoch;
      sectors = goes.sectors;
      sequence = omega (arith, ap sequence_in same, goes.sequence);
      fits = λ n asked s may fits. let st = stored n asked s may fits in
          marked_fits tells old new n asked v m s may (s ∷ may) st
          (spared_by old new mid.mark mid.epoch (λ (attempt : Rest) c. Attempts body mid.mark.rest attempt × ShowsEither mid.mark attempt c) st.lasts.mark_is run) (ap file_of same) kept
          (λ b may_hold. elim (bodies b may_hold) as (λ _. (u : Stand) × Contains (s ∷ may) u × IsCounted n st.file st.rows v.synced st.lasts.synced_sectors b u) [
            | inl h ↦ let one = st.lasts.bodies b h in (one.0, contains_more s may one.0 one.1, one.2)
            | inr e ↦ (s, contains_first s may, whole_counted tells old n asked v s may b st (ap rows_said e ∙ rows) (ap sectors_said e ∙ sectors))
          ]);
      any_moment = λ n asked s may fits. let st = stored n asked s may fits in
          run_joined (TopFiles (epoch_of p)) first old new (ShowsOne (epoch_of p) n asked (s ∷ may)) (goes.any_moment n asked s may fits)
          (subst (λ (e : ℕ). Run (TopFiles e) old new (ShowsOne e n asked (s ∷ may))) goes.epoch (set_run tells old new n asked v s may body st rows sectors run));
    }

-- a set that was done
pub goes_flushed : (tells : Bool) (first old new : DiskState) (p mid : Top) (m : Mark) (body : List ℕ)
    → TopGoes tells first old p mid unchanged as_before → mid.mark ≡ p.mark
    → ((n : ℕ) (asked : HeadsAsked) (s : Stand) (may : List Stand) → TopFits tells first n asked p s may → ViewStored tells old n asked (view_of mid) s may)
    → rows_said body ≡ mid.rows → sectors_said body ≡ mid.filled
    → FileRunBy (file_of mid.mark) old new (λ (attempt : Rest) c. Attempts body mid.mark.rest attempt × ShowsEither mid.mark attempt c)
    → IsSet mid.mark body m → IsKept new m
    → ((b : List ℕ) → MayHold m b → b ≡ body)
    → TopGoes tells first new p (record mid { mark = m }) unchanged just_this
goes_flushed tells first old new p mid m body goes mark_same stored rows sectors run is_set kept bodies =
    let v : TopView = view_of mid in record {
      epoch = goes.epoch;
      sectors = goes.sectors;
      sequence = omega (arith, ap sequence_in is_set, ap sequence_in mark_same);
      fits = λ n asked s may fits. let st = stored n asked s may fits in
          marked_fits tells old new n asked v m s may (s ∷ []) st
          (spared_by old new mid.mark mid.epoch (λ (attempt : Rest) c. Attempts body mid.mark.rest attempt × ShowsEither mid.mark attempt c) st.lasts.mark_is run) (ap file_of is_set) kept
          (λ b may_hold. let e = bodies b may_hold in
          (s, contains_first s [], whole_counted tells old n asked v s may b st (ap rows_said e ∙ rows) (ap sectors_said e ∙ sectors)));
      any_moment = λ n asked s may fits. let st = stored n asked s may fits in
          run_joined (TopFiles (epoch_of p)) first old new (ShowsOne (epoch_of p) n asked (s ∷ may)) (goes.any_moment n asked s may fits)
          (subst (λ (e : ℕ). Run (TopFiles e) old new (ShowsOne e n asked (s ∷ may))) goes.epoch (set_run tells old new n asked v s may body st rows sectors run));
    }

-- what a crash may leave of a top may be said to be more
pub fits_more : (tells : Bool) (now : DiskState) (n : ℕ) (asked : HeadsAsked) (v : TopView) (s u : Stand) (may : List Stand)
    → ViewFits tells now n asked v s may → ViewFits tells now n asked v s (u ∷ may)
fits_more tells now n asked v s u may fits =
    let lasts = fits.lasts in record {
      file = fits.file;
      rows = fits.rows;
      holds = fits.holds;
      lasts = record {
        synced_sectors = lasts.synced_sectors;
        within = lasts.within;
        mark_is = lasts.mark_is;
        mark = lasts.mark;
        bytes_left = lasts.bytes_left;
        index_left = lasts.index_left;
        seen = lasts.seen;
        bodies = λ body may_hold. let one = lasts.bodies body may_hold in (one.0, contains_more u may one.0 one.1, one.2);
      };
    }

pub goes_this_too : (tells : Bool) (old new : DiskState) (p q : Top) → TopGoes tells old new p q unchanged as_before → TopGoes tells old new p q unchanged this_too
goes_this_too tells old new p q goes = record {
  epoch = goes.epoch;
  sectors = goes.sectors;
  sequence = goes.sequence;
  fits = λ n asked s may fits. fits_more tells new n asked (view_of q) s s may (goes.fits n asked s may fits);
  any_moment = goes.any_moment;
}

-- the mark of a top that is stored is kept
pub stored_mark : (tells : Bool) (now : DiskState) (n : ℕ) (asked : HeadsAsked) (v : TopView) (s : Stand) (may : List Stand)
    → ViewStored tells now n asked v s may → IsKept now v.mark
stored_mark tells now n asked v s may stored = stored.lasts.mark

-- a top that a body counts with all rows and all sectors is the top as it stands
counted_is : (n : ℕ) (asked : HeadsAsked) (v : TopView) (s u : Stand) (file : List ℕ) (rows : List Row) (synced synced_sectors : ℕ) (body : List ℕ)
    → Holds n asked v s file rows → IsCounted n file rows synced synced_sectors body u → rows_said body ≡ v.rows → sectors_said body ≡ v.filled → u ≡ s
counted_is n asked v s u file rows synced synced_sectors body holds counted rows_are sectors_are =
    let same_rows : u.rows ≡ s.rows = omega (arith, counted.counts.rows_are, rows_are, holds.rows_are) in
    let same_filled : u.filled ≡ s.filled = omega (arith, counted.counts.sectors_are, sectors_are, holds.filled_are) in
    let all_rows : take u.rows rows ≡ rows = take_all u.rows rows (omega (arith, same_rows, holds.number, holds.rows_are)) in
    let same_cells : u.cells ≡ s.cells = counted.cells ∙ ap (top_sheet file n) all_rows ∙ sym holds.cells in
    λ i. record { cells = same_cells i; rows = same_rows i; filled = same_filled i }

-- where nothing is new, a crash leaves just the top as it stands
still_fits : (tells : Bool) (now : DiskState) (n : ℕ) (asked : HeadsAsked) (v : TopView) (s : Stand) (may : List Stand) → IsAllCounted v
    → ViewFits tells now n asked v s may → ViewFits tells now n asked v s (s ∷ [])
still_fits tells now n asked v s may all fits =
    let lasts = fits.lasts in record {
      file = fits.file;
      rows = fits.rows;
      holds = fits.holds;
      lasts = record {
        synced_sectors = lasts.synced_sectors;
        within = lasts.within;
        mark_is = lasts.mark_is;
        mark = lasts.mark;
        bytes_left = lasts.bytes_left;
        index_left = lasts.index_left;
        seen = lasts.seen;
        bodies = λ body may_hold. let one = lasts.bodies body may_hold in
            let is = all.settled body may_hold in (
              s,
              contains_first s [],
              subst (IsCounted n fits.file fits.rows v.synced lasts.synced_sectors body)
                  (counted_is n asked v s one.0 fits.file fits.rows v.synced lasts.synced_sectors body fits.holds one.2 (ap rows_said is ∙ all.rows_are) (ap sectors_said is ∙ all.sectors_are)) one.2,
            );
      };
    }

-- a flush then has nothing to do
pub goes_still : (tells : Bool) (now : DiskState) (p : Top) → KnowsNow now → IsAllCounted (view_of p) → TopGoes tells now now p p unchanged just_this
goes_still tells now p now_at all =
    let goes : TopGoes tells now now p p unchanged as_before = goes_same tells now p p refl now_at in record {
      epoch = goes.epoch;
      sectors = goes.sectors;
      sequence = goes.sequence;
      fits = λ n asked s may fits. still_fits tells now n asked (view_of p) s may all fits;
      any_moment = goes.any_moment;
    }

-- after a set that was done nothing is new
pub set_counts : (v : TopView) (m : Mark) (body : List ℕ) → rows_said body ≡ v.rows → sectors_said body ≡ v.filled
    → IsSet v.mark body m → ((b : List ℕ) → MayHold m b → b ≡ body) → IsAllCounted (record v { mark = m })
set_counts v m body rows sectors is_set bodies =
    let is : body_in m ≡ body = ap body_in is_set in record {
      settled = λ b may_hold. bodies b may_hold ∙ sym is;
      rows_are = ap rows_said is ∙ rows;
      sectors_are = ap sectors_said is ∙ sectors;
    }

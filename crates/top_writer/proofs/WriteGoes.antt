-- A write and a zero.
use Rattle.std.proofs.Common.{◌≡◌, ℕ, ◌+◌, ◌*◌, ◌≤◌, List, [], ◌∷◌, ◌++◌, length, map, take, drop, refl, sym, ap, subst, ◌∙◌, arith, inl, length-append, Option, Bool, IsTrue}
use Rattle.std.specs.Prelude.{replicate}
use Rattle.std.proofs.lemmas.List.{take-append-drop}
use Rattle.sector_extent.specs.declared.extent.Extent.{Extent}
use Rattle.sector_extent.specs.Rows.{rows_for}
use Rattle.block_disk.specs.Changes.{put, Torn}
use Rattle.block_disk.specs.DiskState.{DiskState, Steps}
use Rattle.block_disk.specs.Claims.{Run, Quiet}
use Rattle.gate_mark.specs.Mark.{sequence_in}
use Rattle.seg_table.specs.declared.segment.What.TheVariants as what
use Rattle.flat_image.specs.Sheets.{Cell, Zero, Filled}
use Rattle.flat_image.specs.Sectors.{sectors_in, sector_count, put_at}
use Rattle.flat_image.specs.History.{HasRoom}
use Rattle.flat_image.specs.Left.{Stand}
use Rattle.top_writer.specs.declared.top.Top.{Top}
use Rattle.top_writer.specs.Changes.{Notes, IsZeroed}
use Rattle.top_writer.specs.Files.{data_file, TopFiles, HeadsAsked}
use Rattle.top_writer.specs.Fitting.{HasFront, ViewFits, TopFits, IsFitted, TopGoes}
use Rattle.top_writer.specs.Rows.{rows_of}
use Rattle.top_writer.specs.Showing.{ShowsOne}
use Rattle.top_writer.specs.Stands.{with_write, with_zero, unchanged, as_before}
use Rattle.top_writer.specs.View.{TopView, view_of}
use Rattle.top_writer.proofs.Fronts.{front_whole, front_put}
use Rattle.top_writer.proofs.SheetLaws.{count_whole}
use Rattle.top_writer.proofs.ShowLaws.{synced_rows}
use Rattle.top_writer.proofs.ChangeHolds.{written_sheet, zeroed_sheet, noted_holds, lasts_more}
use Rattle.top_writer.proofs.Going.{KnowsNow, going_started, going_on, lasts_appended, fits_quiet}

-- a write that failed
pub goes_failed : (tells : Bool) (old new : DiskState) (p q : Top) (size : ℕ) → view_of q ≡ view_of p → KnowsNow old
    → Steps (data_file p.epoch) (Torn (4096 + 512 * p.filled) size) old new → TopGoes tells old new p q unchanged as_before
goes_failed tells old new p q size same now_at steps =
    let still : (n : ℕ) (asked : HeadsAsked) (s : Stand) (may : List Stand) → TopFits tells old n asked p s may → TopFits tells new n asked p s may =
    λ n asked s may fits. record {
      file = fits.file;
      rows = fits.rows;
      holds = fits.holds;
      lasts = lasts_appended tells old new n asked (view_of p) fits.file fits.rows may size steps fits.lasts;
    } in
    record {
      epoch = ap (λ (v : TopView). v.epoch) same;
      sectors = ap (λ (v : TopView). v.sectors) same;
      sequence = omega (arith, ap (λ (v : TopView). sequence_in v.mark) same);
      fits = λ n asked s may fits. subst (λ (v : TopView). ViewFits tells new n asked v s may) (sym same) (still n asked s may fits);
      any_moment = λ n asked s may fits.
          going_on tells old old new n asked (view_of p) s may (data_file p.epoch) (Torn (4096 + 512 * p.filled) size)
          (going_started tells old n asked (view_of p) s may now_at fits) (inl refl) steps (still n asked s may fits);
    }

written_fits : (tells : Bool) (old new : DiskState) (p : Top) (noted : TopView) (extent : Extent) (bytes : List ℕ) (n : ℕ) (asked : HeadsAsked) (s : Stand) (may : List Stand)
    → length bytes ≡ 512 * extent.count → extent.at + extent.count ≤ p.sectors
    → Notes (view_of p) extent (what.Place (8 + p.filled)) noted
    → HasRoom (p.rows + rows_for extent.count) (p.filled + extent.count)
    → Steps (data_file p.epoch) (Torn (4096 + 512 * p.filled) (length bytes)) old new
    → (IsTrue tells → new.seen (data_file p.epoch) ≡ put (old.seen (data_file p.epoch)) (4096 + 512 * p.filled) bytes)
    → TopFits tells old n asked p s may
    → ViewFits tells new n asked (record noted { filled = p.filled + extent.count }) (with_write extent.at bytes s) may
written_fits tells old new p noted extent bytes n asked s may size within notes room steps written fits =
    let v : TopView = view_of p in
    let file : List ℕ = fits.file ++ bytes in
    let holds = fits.holds in
    let count : sector_count bytes ≡ extent.count = count_whole extent.count bytes size in
    let in_image : extent.at + extent.count ≤ n = omega (arith, within, holds.sectors) in
    let front : HasFront (4096 + 512 * p.filled) fits.file file = front_whole (4096 + 512 * p.filled) fits.file bytes holds.long in
    let long : length file ≡ 4096 + 512 * (p.filled + extent.count) = omega (arith, length-append fits.file bytes, holds.long, size) in
    let seen : IsTrue tells → HasFront (4096 + 512 * (p.filled + extent.count)) file (new.seen (data_file p.epoch)) = λ told.
    subst (λ (k : ℕ). HasFront k file (new.seen (data_file p.epoch))) (let e : 4096 + 512 * p.filled + length bytes ≡ 4096 + 512 * (p.filled + extent.count) = omega (arith, size) in e)
    (subst (HasFront (4096 + 512 * p.filled + length bytes) file) (sym (written told))
    (front_put (4096 + 512 * p.filled) fits.file bytes (old.seen (data_file p.epoch)) holds.long (fits.lasts.seen told))) in
    record {
      file = file;
      rows = fits.rows ++ rows_of extent.at extent.count (what.Place (8 + p.filled));
      holds = noted_holds n asked v noted extent (what.Place (8 + p.filled)) (p.filled + extent.count) s (with_write extent.at bytes s) fits.file file fits.rows
          holds notes (omega arith) front long in_image (omega arith, omega arith) room
          (ap (λ (k : ℕ). s.rows + rows_for k) count) (omega (arith, holds.filled_are, count))
          (ap (put_at extent.at (map Filled (sectors_in bytes))) holds.cells
          ∙ written_sheet n p.filled extent.at extent.count fits.rows fits.file bytes size holds.long in_image holds.sound);
      lasts = lasts_more tells new n asked v (record noted { filled = p.filled + extent.count }) fits.file file fits.rows (rows_of extent.at extent.count (what.Place (8 + p.filled))) may
          notes.epoch notes.mark notes.synced (omega arith) front (synced_rows n asked v s fits.file fits.rows holds) seen
          (lasts_appended tells old new n asked v fits.file fits.rows may (length bytes) steps fits.lasts);
    }

-- a write that was done
pub goes_written : (tells : Bool) (old new : DiskState) (p q : Top) (noted : TopView) (extent : Extent) (bytes : List ℕ)
    → length bytes ≡ 512 * extent.count → extent.at + extent.count ≤ p.sectors
    → Notes (view_of p) extent (what.Place (8 + p.filled)) noted
    → view_of q ≡ record noted { filled = p.filled + extent.count }
    → HasRoom (p.rows + rows_for extent.count) (p.filled + extent.count)
    → Steps (data_file p.epoch) (Torn (4096 + 512 * p.filled) (length bytes)) old new
    → (IsTrue tells → new.seen (data_file p.epoch) ≡ put (old.seen (data_file p.epoch)) (4096 + 512 * p.filled) bytes)
    → KnowsNow old
    → TopGoes tells old new p q (with_write extent.at bytes) as_before
goes_written tells old new p q noted extent bytes size within notes same room steps written now_at = record {
  epoch = ap (λ (v : TopView). v.epoch) same ∙ notes.epoch;
  sectors = ap (λ (v : TopView). v.sectors) same ∙ notes.sectors;
  sequence = omega (arith, ap (λ (v : TopView). sequence_in v.mark) same, ap sequence_in notes.mark);
  fits = λ n asked s may fits. subst (λ (v : TopView). ViewFits tells new n asked v (with_write extent.at bytes s) may) (sym same)
      (written_fits tells old new p noted extent bytes n asked s may size within notes room steps written fits);
  any_moment = λ n asked s may fits.
      going_on tells old old new n asked (view_of p) s may (data_file p.epoch) (Torn (4096 + 512 * p.filled) (length bytes))
      (going_started tells old n asked (view_of p) s may now_at fits) (inl refl) steps
      (record { file = fits.file; rows = fits.rows; holds = fits.holds; lasts = lasts_appended tells old new n asked (view_of p) fits.file fits.rows may (length bytes) steps fits.lasts });
}

-- a write of no sectors
abbrev stand_of : List Cell → ℕ → ℕ → Stand
stand_of cells rows filled = record { cells = cells; rows = rows; filled = filled }

nothing_written : (at : ℕ) (bytes : List ℕ) (s : Stand) → bytes ≡ [] → with_write at bytes s ≡ s
unfolding put_at sectors_in
nothing_written at bytes s none =
    let cells : put_at at (map Filled (sectors_in [])) s.cells ≡ s.cells =
    ap (λ (k : ℕ). take at s.cells ++ drop k s.cells) (let e : at + 0 ≡ at = omega arith in e) ∙ take-append-drop at s.cells in
    let rows : s.rows + 0 ≡ s.rows = omega arith in
    let filled : s.filled + 0 ≡ s.filled = omega arith in
    ap (λ (b : List ℕ). with_write at b s) none
    ∙ ap (λ (xs : List Cell). stand_of xs (s.rows + 0) (s.filled + 0)) cells
    ∙ ap (λ (k : ℕ). stand_of s.cells k (s.filled + 0)) rows
    ∙ ap (λ (k : ℕ). stand_of s.cells s.rows k) filled

pub goes_nothing : (tells : Bool) (now : DiskState) (p q : Top) (at : ℕ) (bytes : List ℕ) → bytes ≡ [] → TopGoes tells now now p q unchanged as_before
    → TopGoes tells now now p q (with_write at bytes) as_before
goes_nothing tells now p q at bytes none goes = record {
  epoch = goes.epoch;
  sectors = goes.sectors;
  sequence = goes.sequence;
  fits = λ n asked s may fits. subst (λ (t : Stand). TopFits tells now n asked q t may) (sym (nothing_written at bytes s none)) (goes.fits n asked s may fits);
  any_moment = goes.any_moment;
}

-- a zero
pub fits_zeroed : (tells : Bool) (now : DiskState) (n : ℕ) (asked : HeadsAsked) (p q : Top) (extent : Extent) (s : Stand) (may : List Stand)
    → extent.at + extent.count ≤ p.sectors → IsZeroed (view_of p) extent (view_of q)
    → TopFits tells now n asked p s may → TopFits tells now n asked q (with_zero extent.at extent.count s) may
fits_zeroed tells now n asked p q extent s may within zeroed fits =
    let v : TopView = view_of p in
    let holds = fits.holds in
    let notes = zeroed.notes in
    let in_image : extent.at + extent.count ≤ n = omega (arith, within, holds.sectors) in
    let front : HasFront (4096 + 512 * q.filled) fits.file fits.file = record { long = omega (arith, holds.long, notes.filled); same = refl } in
    let room : HasRoom (p.rows + rows_for extent.count) q.filled = subst (λ (k : ℕ). HasRoom k q.filled) notes.rows zeroed.room in
    record {
      file = fits.file;
      rows = fits.rows ++ rows_of extent.at extent.count what.Zero;
      holds = noted_holds n asked v (view_of q) extent what.Zero q.filled s (with_zero extent.at extent.count s) fits.file fits.file fits.rows
          holds notes (omega (arith, notes.filled)) (subst (λ (k : ℕ). HasFront (4096 + 512 * k) fits.file fits.file) notes.filled front) (omega (arith, holds.long, notes.filled)) in_image tt room
          refl (omega (arith, holds.filled_are, notes.filled))
          (ap (put_at extent.at (replicate extent.count Zero)) holds.cells ∙ zeroed_sheet n extent.at extent.count fits.rows fits.file in_image);
      lasts = lasts_more tells now n asked v (view_of q) fits.file fits.file fits.rows (rows_of extent.at extent.count what.Zero) may
          notes.epoch notes.mark notes.synced (omega (arith, notes.filled)) (subst (λ (k : ℕ). HasFront (4096 + 512 * k) fits.file fits.file) notes.filled front)
          (synced_rows n asked v s fits.file fits.rows holds)
          (λ told. subst (λ (k : ℕ). HasFront (4096 + 512 * k) fits.file (now.seen (data_file p.epoch))) (sym notes.filled) (fits.lasts.seen told))
          fits.lasts;
    }

pub zero_goes : (tells : Bool) (now : DiskState) (p q : Top) (extent : Extent) → extent.at + extent.count ≤ p.sectors → IsZeroed (view_of p) extent (view_of q)
    → KnowsNow now → TopGoes tells now now p q (with_zero extent.at extent.count) as_before
zero_goes tells now p q extent within zeroed now_at = record {
  epoch = zeroed.notes.epoch;
  sectors = zeroed.notes.sectors;
  sequence = omega (arith, ap sequence_in zeroed.notes.mark);
  fits = λ n asked s may fits. fits_zeroed tells now n asked p q extent s may within zeroed fits;
  any_moment = λ n asked s may fits. going_started tells now n asked (view_of p) s may now_at fits;
}

-- what goes on from a top with the same fields
pub goes_from : (tells : Bool) (old new : DiskState) (p mid q : Top) (becomes : Stand → Stand) (leaves : Stand → List Stand → List Stand) → view_of mid ≡ view_of p
    → TopGoes tells old new mid q becomes leaves → TopGoes tells old new p q becomes leaves
goes_from tells old new p mid q becomes leaves same goes =
    let epoch : mid.epoch ≡ p.epoch = ap (λ (v : TopView). v.epoch) same in
    let back : (n : ℕ) (asked : HeadsAsked) (s : Stand) (may : List Stand) → TopFits tells old n asked p s may → TopFits tells old n asked mid s may =
    λ n asked s may fits. subst (λ (v : TopView). ViewFits tells old n asked v s may) (sym same) fits in
    record {
      epoch = goes.epoch ∙ epoch;
      sectors = goes.sectors ∙ ap (λ (v : TopView). v.sectors) same;
      sequence = omega (arith, goes.sequence, ap (λ (v : TopView). sequence_in v.mark) same);
      fits = λ n asked s may fits. goes.fits n asked s may (back n asked s may fits);
      any_moment = λ n asked s may fits. subst (λ (e : ℕ). Run (TopFiles e) old new (ShowsOne e n asked (s ∷ may))) epoch
          (goes.any_moment n asked s may (back n asked s may fits));
    }

pub no_bytes : (bytes : List ℕ) (count : ℕ) → length bytes ≡ 512 * count → count ≡ 0 → bytes ≡ []
no_bytes [] count size none = refl
no_bytes (b ∷ bytes) count size none = absurd (omega (arith, size, none))

-- the condition of the next call
pub fitted_goes : (tells : Bool) (old new : DiskState) (p q : Top) (becomes : Stand → Stand) (leaves : Stand → List Stand → List Stand)
    → IsFitted tells old p → TopGoes tells old new p q becomes leaves → IsFitted tells new q
fitted_goes tells old new p q becomes leaves fitted goes = record {
  n = fitted.n;
  asked = fitted.asked;
  stand = becomes fitted.stand;
  may = leaves fitted.stand fitted.may;
  fits = goes.fits fitted.n fitted.asked fitted.stand fitted.may fitted.fits;
}

pub fitted_quiet : (tells : Bool) (old new : DiskState) (p : Top) → Quiet old new → IsFitted tells old p → IsFitted tells new p
fitted_quiet tells old new p quiet fitted = record {
  n = fitted.n;
  asked = fitted.asked;
  stand = fitted.stand;
  may = fitted.may;
  fits = fits_quiet tells old new fitted.n fitted.asked p fitted.stand fitted.may quiet fitted.fits;
}

pub fitted_same : (tells : Bool) (now : DiskState) (p q : Top) → view_of q ≡ view_of p → IsFitted tells now p → IsFitted tells now q
fitted_same tells now p q same fitted = record {
  n = fitted.n;
  asked = fitted.asked;
  stand = fitted.stand;
  may = fitted.may;
  fits = subst (λ (v : TopView). ViewFits tells now fitted.n fitted.asked v fitted.stand fitted.may) (sym same) fitted.fits;
}

pub fitted_zeroed : (tells : Bool) (now : DiskState) (p q : Top) (extent : Extent) → extent.at + extent.count ≤ p.sectors → IsZeroed (view_of p) extent (view_of q)
    → IsFitted tells now p → IsFitted tells now q
fitted_zeroed tells now p q extent within zeroed fitted = record {
  n = fitted.n;
  asked = fitted.asked;
  stand = with_zero extent.at extent.count fitted.stand;
  may = fitted.may;
  fits = fits_zeroed tells now fitted.n fitted.asked p q extent fitted.stand fitted.may within zeroed fitted.fits;
}

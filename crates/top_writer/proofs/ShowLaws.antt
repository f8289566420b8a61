-- What a crash leaves of a top's files shows one of the tops that it may leave.
use Rattle.std.proofs.Common.{◌≡◌, ℕ, zero, suc, ◌+◌, ◌*◌, ◌≤◌, ◌⊎◌, List, [], ◌∷◌, length, take, refl, sym, ap, subst, ◌∙◌, arith, inl, inr, Bool, Option}
use Rattle.std.specs.Prelude.{Contains}
use Rattle.std.proofs.lemmas.List.{take-take, length-take-le}
use Rattle.block_disk.specs.DiskState.{DiskState, Files, Leaves}
use Rattle.gate_mark.specs.declared.mark.Mark.{Mark}
use Rattle.gate_mark.specs.declared.mark.Rest.{Rest}
use Rattle.gate_mark.specs.declared.mark.Rest.TheVariants.{Closed, Stale, Attempted}
use Rattle.gate_mark.specs.MarkFile.{Shows}
use Rattle.gate_mark.specs.Mark.{ShowsAttempt, ShowsEither}
use Rattle.gate_mark.specs.Shown.{shown}
use Rattle.seg_mapping.specs.declared.Row.{Row}
use Rattle.lsmt_header.specs.Blocks.{BlockOf, raw_head}
use Rattle.flat_image.specs.Left.{Stand}
use Rattle.flat_image.specs.RowCells.{AreSpelled}
use Rattle.top_writer.specs.Files.{Stored, data_file, index_file, mark_file, IsSizeFor, size_said, parent_said, IsParent, HeadsAsked}
use Rattle.top_writer.specs.Fitting.{HasFront, IsData, IsIndex, IsCounted, Holds, Lasts, ViewFits}
use Rattle.top_writer.specs.Showing.{ShowsTop, ShowsOne}
use Rattle.top_writer.specs.View.{TopView}
use Rattle.top_writer.proofs.Fronts.{front_less}
use Rattle.top_writer.proofs.RowCellLaws.{sheet_front}

-- the head of a data file depends on its first block
pub same_head : (n : ℕ) (asked : HeadsAsked) (whole file : List ℕ) → take 4096 file ≡ take 4096 whole → IsData n asked whole → IsData n asked file
unfolding size_said parent_said
same_head n asked whole file same is = record {
  head = (is.head.0, subst (λ (b : List ℕ). BlockOf b is.head.0) (sym same) is.head.1, is.head.2);
  size = subst (IsSizeFor asked.exact n) (sym (ap (λ (b : List ℕ). (raw_head b).sectors) same)) is.size;
  parent_is = subst (IsParent asked.parent) (sym (ap (λ (b : List ℕ). (raw_head b).parent) same)) is.parent_is;
}

pub front_head : (n size : ℕ) (asked : HeadsAsked) (whole file : List ℕ) → 4096 ≤ size → HasFront size whole file → IsData n asked whole → IsData n asked file
front_head n size asked whole file le front is =
    same_head n asked whole file (front_less 4096 size whole file le front).same is

-- the body that a mark shows
attempt_body : (rest : Rest) (sequence : ℕ) (c : List ℕ) → ShowsAttempt rest sequence c → (body : List ℕ) × (rest ≡ Attempted body) × Shows sequence body c
attempt_body Closed sequence c h = absurd h
attempt_body Stale sequence c h = absurd h
attempt_body (Attempted body) sequence c h = (body, refl, h)

pub either_body : (mark : Mark) (rest : Rest) (c : List ℕ) → ShowsEither mark rest c
    → (sequence : ℕ) × (body : List ℕ) × ((body ≡ mark.body) ⊎ (rest ≡ Attempted body)) × Shows sequence body c
either_body mark rest c (inl old) = (mark.sequence, mark.body, inl refl, old)
either_body mark rest c (inr new) = let a = attempt_body rest (mark.sequence + 1) c new in (mark.sequence + 1, a.0, inr a.1, a.2)

spelled_none : (file : List ℕ) (at : ℕ) (rows : List Row) → AreSpelled file at (take 0 rows)
spelled_none file at [] = tt
spelled_none file at (row ∷ rows) = tt

pub spelled_take : (file : List ℕ) (at k : ℕ) (rows : List Row) → AreSpelled file at rows → AreSpelled file at (take k rows)
spelled_take file at zero rows are = spelled_none file at rows
spelled_take file at (suc k) [] are = tt
spelled_take file at (suc k) (row ∷ rows) are = (are.0, spelled_take file (at + 16) k rows are.1)

-- a mark, rows and data of which all that it counts is synced show the top that it counts
pub counted_shows : (n : ℕ) (asked : HeadsAsked) (whole : List ℕ) (rows : List Row) (synced synced_sectors sequence : ℕ) (body : List ℕ) (s : Stand) (t : Stored)
    → IsData n asked whole → synced ≤ length rows → IsCounted n whole rows synced synced_sectors body s
    → HasFront (4096 + 512 * synced_sectors) whole t.bytes → IsIndex n asked t.index (take synced rows) → Shows sequence body t.mark
    → ShowsTop n asked s t
counted_shows n asked whole rows synced synced_sectors sequence body s t head enough counted front index mark =
    let number : length (take synced rows) ≡ synced = length-take-le synced rows enough in
    let le_rows = counted.rows_synced in
    let le_sectors = counted.sectors_synced in
    let data_head = front_head n (4096 + 512 * synced_sectors) asked whole t.bytes (omega arith) front head in
    let part : HasFront (4096 + 512 * s.filled) whole t.bytes = front_less (4096 + 512 * s.filled) (4096 + 512 * synced_sectors) whole t.bytes (omega (arith, le_sectors)) front in
    let first : take s.rows (take synced rows) ≡ take s.rows rows = take-take s.rows synced rows le_rows in
    record {
      sequence = sequence;
      body = body;
      rows = take s.rows rows;
      heads = record { bytes_head = data_head.head; index_head = index.head; bytes_size = data_head.size; index_size = index.size; parent_is = data_head.parent_is };
      mark = mark;
      counts = counted.counts;
      index_long = omega (arith, index.long, number, le_rows);
      bytes_long = part.long;
      number = length-take-le s.rows rows (omega (arith, le_rows, enough));
      spelled = subst (AreSpelled t.index 4096) first (spelled_take t.index 4096 s.rows (take synced rows) index.spelled);
      sound = counted.sound;
      cells = counted.cells ∙ sym (sheet_front n s.filled (take s.rows rows) whole t.bytes counted.sound part);
    }

-- what is on the disk is among what the top has
pub synced_rows : (n : ℕ) (asked : HeadsAsked) (v : TopView) (s : Stand) (file : List ℕ) (rows : List Row) → Holds n asked v s file rows → v.synced ≤ length rows
synced_rows n asked v s file rows holds = omega (arith, holds.number, holds.waiting_size)

pub lasts_shown : (tells : Bool) (now : DiskState) (n : ℕ) (asked : HeadsAsked) (v : TopView) (s : Stand) (file : List ℕ) (rows : List Row) (may : List Stand) (t : Stored)
    → Holds n asked v s file rows → Lasts tells now n asked v file rows may
    → now.may_leave (data_file v.epoch) t.bytes → now.may_leave (index_file v.epoch) t.index → now.may_leave (mark_file v.epoch) t.mark
    → (u : Stand) × Contains may u × ShowsTop n asked u t
lasts_shown tells now n asked v s file rows may t holds lasts bytes index mark =
    let fits = lasts.mark t.mark (subst (λ f. now.may_leave f t.mark) (sym lasts.mark_is) mark) in
    let held = either_body v.mark v.mark.rest t.mark (shown v.mark.current v.mark.sequence v.mark.body v.mark.rest t.mark fits) in
    let counted = lasts.bodies held.1 held.2 in (
      counted.0,
      counted.1,
      counted_shows n asked file rows v.synced lasts.synced_sectors held.0 held.1 counted.0 t holds.head
          (synced_rows n asked v s file rows holds) counted.2 (lasts.bytes_left t.bytes bytes) (lasts.index_left t.index index) held.3,
    )

-- a file set that a crash now may leave shows one of the tops
pub fits_shown : (tells : Bool) (now : DiskState) (n : ℕ) (asked : HeadsAsked) (v : TopView) (s : Stand) (may : List Stand)
    → ViewFits tells now n asked v s may → (files : Files) → Leaves now files → ShowsOne v.epoch n asked may files
fits_shown tells now n asked v s may fits files leaves =
    let one = lasts_shown tells now n asked v s fits.file fits.rows may
    (record { bytes = files (data_file v.epoch); index = files (index_file v.epoch); mark = files (mark_file v.epoch) })
    fits.holds fits.lasts (leaves (data_file v.epoch)) (leaves (index_file v.epoch)) (leaves (mark_file v.epoch)) in
    record { stand = one.0; among = one.1; shows = one.2 }

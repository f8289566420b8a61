-- A read, stretch by stretch.
use Rattle.std.proofs.Common.{◌≡◌, ℕ, ◌+◌, ◌-◌, ◌*◌, ◌<◌, ◌≤◌, ◌⊎◌, List, [], ◌∷◌, ◌++◌, length, map, take, drop, refl, sym, ap, subst, ◌∙◌, arith, append_assoc, length-append, Option, Some, None, Bool, IsTrue}
use Rattle.std.specs.List.{range_with_len}
use Rattle.std.proofs.Math.Seq.{take-append_seam, drop-append_seam, drop-append-add}
use Rattle.std.proofs.lemmas.List.{take-append-drop, drop-drop, length-take-le, length-drop, append-nil}
use Rattle.sector_extent.specs.declared.extent.Extent.{Extent}
use Rattle.block_disk.specs.DiskState.{DiskState, Files, Leaves}
use Rattle.block_disk.specs.Claims.{Quiet}
use Rattle.block_disk.proofs.Moments.{run_started, run_joined}
use Rattle.seg_table.specs.declared.segment.What.{What}
use Rattle.seg_table.specs.declared.segment.What.TheVariants as what
use Rattle.seg_table.specs.Cells.{onward}
use Rattle.flat_image.specs.Sheets.{Cell, paint, bytes_of, image_in}
use Rattle.flat_image.proofs.Runs.{run, bytes_of-paint, run-split, run-holes, run-zeros, run-filled}
use Rattle.top_writer.specs.Gaps.{AddsGaps}
use Rattle.top_writer.specs.Reading.{Says, IsRead, IsPiece, ReadsTo}
use Rattle.top_writer.specs.View.{cell_at}
use Rattle.top_writer.proofs.GapLaws.{adds_more, adds_push}

-- the sectors up to `mid` are read; then those of a piece
pub read_step : (tells : Bool) (file : List ℕ) (cells : ℕ → Option What) (at mid count : ℕ) (start old new piece : List ℕ) (gaps_then gaps_old gaps_new : List Extent)
    → at ≤ mid → IsRead tells file cells at mid start old gaps_then gaps_old
    → length piece ≡ 512 * count → new ≡ take (512 * (mid - at)) old ++ (piece ++ drop (512 * (mid - at) + 512 * count) old)
    → (IsTrue tells → piece ≡ run (λ i. cell_at file (cells i)) mid count (drop (512 * (mid - at)) old))
    → AddsGaps (λ i. cells i ≡ None) at (mid + count) gaps_then gaps_new
    → IsRead tells file cells at (mid + count) start new gaps_then gaps_new
read_step tells file cells at mid count start old new piece gaps_then gaps_old gaps_new order read size is painted adds =
    let m : ℕ = mid - at in
    let f : ℕ → Cell = λ i. cell_at file (cells i) in
    let whole : 512 * m + 512 * count ≡ 512 * (mid + count - at) = omega (arith, order) in
    let behind : List ℕ = drop (512 * m) start in
    let first : take (512 * m) old ≡ read.front = ap (take (512 * m)) read.is ∙ ap (λ (k : ℕ). take k (read.front ++ behind)) (sym read.size) ∙ take-append_seam read.front behind in
    let rest : drop (512 * m) old ≡ behind = ap (drop (512 * m)) read.is ∙ ap (λ (k : ℕ). drop k (read.front ++ behind)) (sym read.size) ∙ drop-append_seam read.front behind in
    let last : drop (512 * m + 512 * count) old ≡ drop (512 * (mid + count - at)) start =
    ap (drop (512 * m + 512 * count)) read.is
    ∙ ap (λ (k : ℕ). drop (k + 512 * count) (read.front ++ behind)) (sym read.size)
    ∙ drop-append-add read.front behind (512 * count)
    ∙ drop-drop (512 * count) (512 * m) start ∙ ap (λ (k : ℕ). drop k start) whole in
    let more : mid + count - at ≡ m + count = omega (arith, order) in
    let here : at + m ≡ mid = omega (arith, order) in
    record {
      front = read.front ++ piece;
      size = length-append read.front piece ∙ omega (arith, read.size, size, whole);
      is = is ∙ ap (λ (xs : List ℕ). xs ++ (piece ++ drop (512 * m + 512 * count) old)) first ∙ sym (append_assoc read.front piece (drop (512 * m + 512 * count) old))
          ∙ ap (λ (xs : List ℕ). read.front ++ piece ++ xs) last;
      painted = λ told.
          ap (λ (xs : List ℕ). xs ++ piece) (read.painted told ∙ bytes_of-paint f at m start)
          ∙ ap (λ (xs : List ℕ). run f at m start ++ xs) (painted told ∙ ap (run f mid count) rest ∙ ap (λ (k : ℕ). run f k count behind) (sym here))
          ∙ sym (run-split f at m count start)
          ∙ ap (λ (k : ℕ). run f at k start) (sym more)
          ∙ sym (bytes_of-paint f at (mid + count - at) start);
      gaps_added = adds;
    }

drop_nothing : (xs : List ℕ) → xs ≡ [] ++ drop 0 xs
drop_nothing xs = refl

append_none : (xs : List Extent) → xs ++ [] ≡ xs
append_none xs = append-nil xs

-- nothing is read yet
pub read_start : (tells : Bool) (file : List ℕ) (cells : ℕ → Option What) (at : ℕ) (start : List ℕ) (gaps : List Extent) → IsRead tells file cells at at start start gaps gaps
read_start tells file cells at start gaps =
    let none : at - at ≡ 0 = omega arith in
    record {
      front = [];
      size = omega (arith, none);
      is = drop_nothing start ∙ ap (λ (k : ℕ). drop (512 * k) start) (sym none);
      painted = λ told. ap (λ (k : ℕ). bytes_of (paint (image_in k start) (map (λ i. cell_at file (cells i)) (range_with_len at k)))) (sym none);
      gaps_added = record { added = []; behind = sym (append_none gaps); gaps = (omega arith, λ i low high. absurd (omega (arith, low, high))) };
    }

pub read_nothing : (tells : Bool) (file : List ℕ) (cells : ℕ → Option What) (at mid count : ℕ) (start out : List ℕ) (gaps_then gaps : List Extent) → count ≡ 0
    → IsRead tells file cells at mid start out gaps_then gaps → IsRead tells file cells at (mid + count) start out gaps_then gaps
read_nothing tells file cells at mid count start out gaps_then gaps none read =
    subst (λ (k : ℕ). IsRead tells file cells at k start out gaps_then gaps) (let e : mid ≡ mid + count = omega (arith, none) in e) read

-- a stretch of which the top has nothing
pub read_gap : (tells : Bool) (file : List ℕ) (cells : ℕ → Option What) (at mid count : ℕ) (start out : List ℕ) (gaps_then old new : List Extent) (gap : Extent)
    → at ≤ mid → 0 < count → 512 * (mid - at) + 512 * count ≤ length out → Says cells mid count None
    → (mid ≡ at) ⊎ ¬ (cells (mid - 1) ≡ None) → gap.at ≡ mid → gap.count ≡ count → new ≡ old ++ gap ∷ []
    → IsRead tells file cells at mid start out gaps_then old → IsRead tells file cells at (mid + count) start out gaps_then new
read_gap tells file cells at mid count start out gaps_then old new gap order some fits says fresh begins size is read =
    let a : ℕ = 512 * (mid - at) in
    let piece : List ℕ = take (512 * count) (drop a out) in
    let parts : out ≡ take a out ++ (piece ++ drop (a + 512 * count) out) =
    sym (take-append-drop a out) ∙ ap (λ (xs : List ℕ). take a out ++ xs) (sym (take-append-drop (512 * count) (drop a out)) ∙ ap (λ (xs : List ℕ). piece ++ xs) (drop-drop (512 * count) a out)) in
    let holes : (i : ℕ) → mid ≤ i → i < mid + count → cells i ≡ None = λ i low high.
    ap cells (let e : i ≡ mid + (i - mid) = omega (arith, low) in e) ∙ says (i - mid) (omega (arith, low, high)) in
    read_step tells file cells at mid count start out out piece gaps_then old new order read
    (length-take-le (512 * count) (drop a out) (omega (arith, length-drop a out, fits))) parts
    (λ told. sym (run-holes (λ i. cell_at file (cells i)) mid count (drop a out) (λ i low high. ap (cell_at file) (holes i low high))))
    (subst (λ (k : ℕ). AddsGaps (λ i. cells i ≡ None) at (mid + k) gaps_then new) size
    (adds_push (λ i. cells i ≡ None) at mid gaps_then old new gap begins (omega (arith, some, size))
    (λ i inside. holes i (omega (arith, inside.from, begins)) (omega (arith, inside.below, begins, size))) fresh is read.gaps_added))

-- what stands in a piece that was filled
piece_painted : (tells : Bool) (file : List ℕ) (cells : ℕ → Option What) (mid count : ℕ) (w : What) (old piece : List ℕ) → Says cells mid count (Some w) → IsPiece tells file w (512 * count) piece
    → IsTrue tells → piece ≡ run (λ i. cell_at file (cells i)) mid count old
piece_painted tells file cells mid count what.Zero old piece says is told =
    is ∙ sym (run-zeros (λ i. cell_at file (cells i)) mid count old
    (λ i low high. ap (cell_at file) (ap cells (let e : i ≡ mid + (i - mid) = omega (arith, low) in e) ∙ says (i - mid) (omega (arith, low, high)))))
piece_painted tells file cells mid count (what.Place place) old piece says is told =
    is told ∙ sym (run-filled (λ i. cell_at file (cells i)) file mid place count old (λ i lt. ap (cell_at file) (says i lt)))

set_is_set : (w : What) (k : ℕ) → Some (onward w k) ≡ None → ⊥
set_is_set w k e = cc

-- a stretch that the top has
pub read_filled : (tells : Bool) (file : List ℕ) (cells : ℕ → Option What) (at mid count : ℕ) (w : What) (start old new piece : List ℕ) (gaps_then gaps : List Extent)
    → at ≤ mid → 0 < count → Says cells mid count (Some w)
    → length piece ≡ 512 * count → new ≡ take (512 * (mid - at)) old ++ (piece ++ drop (512 * (mid - at) + 512 * count) old)
    → IsPiece tells file w (512 * count) piece
    → IsRead tells file cells at mid start old gaps_then gaps → IsRead tells file cells at (mid + count) start new gaps_then gaps
read_filled tells file cells at mid count w start old new piece gaps_then gaps order some says size is filled read =
    read_step tells file cells at mid count start old new piece gaps_then gaps gaps order read size is
    (piece_painted tells file cells mid count w (drop (512 * (mid - at)) old) piece says filled)
    (adds_more (λ i. cells i ≡ None) at mid (mid + count) gaps_then gaps (omega arith)
    (λ i low high none. set_is_set w (i - mid) (sym (says (i - mid) (omega (arith, low, high))) ∙ ap cells (let e : mid + (i - mid) ≡ i = omega (arith, low) in e) ∙ none)) read.gaps_added)

-- calls that change nothing, one after another
pub quiet_on : (old mid new : DiskState) → Quiet old mid → Quiet mid new → Quiet old new
quiet_on old mid new first second = run_joined (λ f. ⊥) old mid new (λ (files : Files). Unit {0}) first second

pub quiet_none : (now : DiskState) → ((files : Files) → now.left_at now.moment files → Leaves now files) → Quiet now now
quiet_none now now_at = run_started (λ f. ⊥) now (λ (files : Files). Unit {0}) now_at (λ files leaves. tt)

pub quiet_seen : (old new : DiskState) (file : ℕ) → Quiet old new → new.seen file ≡ old.seen file
quiet_seen old new file quiet = quiet.others.seen file (λ none. none)

-- one part of a read after another
pub reads_on : (tells : Bool) (old mid : DiskState) (file : ℕ) (cells : ℕ → Option What) (extent : Extent) (from between until : ℕ) (first second third : List ℕ) (gaps_first gaps_second gaps_third : List Extent)
    → Quiet old mid
    → ReadsTo tells (old.seen file) cells extent from between first second gaps_first gaps_second
    → ReadsTo tells (mid.seen file) cells extent between until second third gaps_second gaps_third
    → ReadsTo tells (old.seen file) cells extent from until first third gaps_first gaps_third
reads_on tells old mid file cells extent from between until first second third gaps_first gaps_second gaps_third quiet one two start gaps_then read =
    subst (λ (f : List ℕ). IsRead tells f cells extent.at until start third gaps_then gaps_third) (quiet_seen old mid file quiet)
    (two start gaps_then (subst (λ (f : List ℕ). IsRead tells f cells extent.at between start second gaps_then gaps_second) (sym (quiet_seen old mid file quiet)) (one start gaps_then read)))

pub reads_none : (tells : Bool) (file : List ℕ) (cells : ℕ → Option What) (extent : Extent) (from : ℕ) (out : List ℕ) (gaps : List Extent)
    → ReadsTo tells file cells extent from from out out gaps gaps
reads_none tells file cells extent from out gaps start gaps_then read = read

-- what was read by the calls before, and is read on now
pub read_then : (tells : Bool) (old mid : DiskState) (file : ℕ) (cells : ℕ → Option What) (extent : Extent) (between until : ℕ) (start second third : List ℕ) (gaps_start gaps_second gaps_third : List Extent)
    → Quiet old mid
    → IsRead tells (old.seen file) cells extent.at between start second gaps_start gaps_second
    → ReadsTo tells (mid.seen file) cells extent between until second third gaps_second gaps_third
    → IsRead tells (old.seen file) cells extent.at until start third gaps_start gaps_third
read_then tells old mid file cells extent between until start second third gaps_start gaps_second gaps_third quiet read two =
    reads_on tells old mid file cells extent between between until second second third gaps_second gaps_second gaps_third quiet (λ s g r. r) two start gaps_start read

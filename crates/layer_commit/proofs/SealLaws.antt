-- What a call makes of a sealing and its two files.
use Rattle.std.proofs.Common.{◌≡◌, ℕ, ◌+◌, ◌-◌, ◌*◌, ◌<◌, ◌≤◌, List, [], length, take, min, Bool, IsTrue, refl, sym, ap, subst, ◌∙◌, arith, inl, inr, get_or}
use Rattle.std.specs.Prelude.{max, slice_index}
use Rattle.std.proofs.lemmas.Bool.Decides.{leb_tells}
use Rattle.std.proofs.lemmas.List.{length-take, get_or-take, ext_get_or, take_all}
use Rattle.block_disk.specs.Changes.{piece, put, Torn, Same, Only}
use Rattle.block_disk.specs.ChangeLaws.{length-put, put_below}
use Rattle.block_disk.specs.Pieces.{get_or-piece, put_inside, length-piece}
use Rattle.block_disk.specs.DiskState.{DiskState, Files, Leaves, Spares, Steps}
use Rattle.block_disk.specs.Claims.{FileRun, Quiet}
use Rattle.block_disk.proofs.Moments.{run_on, by_quiet}
use Rattle.layer_commit.specs.Fitting.{IsWritten, SealFits, IsFitted, IsWhole, with_done}
use Rattle.layer_commit.specs.View.{SealView, file_by, length_of, pieces_of}

-- a file that is written up to a byte of the whole one is as long
front_long : (p : ℕ) (whole c : List ℕ) → take p c ≡ take p whole → p ≤ length whole → p ≤ length c
front_long p whole c same fits = omega (arith, ap length same, length-take p c, length-take p whole)

front_same : (p : ℕ) (whole c : List ℕ) → take p c ≡ take p whole → (i : ℕ) → i < p → slice_index c i ≡ slice_index whole i
front_same p whole c same i lt = sym (get_or-take p c i 0 lt) ∙ ap (λ (l : List ℕ). get_or l i 0) same ∙ get_or-take p whole i 0 lt

-- a piece more
pub written_more : (p n : ℕ) (whole c bytes : List ℕ) → IsWritten p whole c → n ≡ min 131072 (length whole - p) → p ≤ length whole → length bytes ≡ n
    → bytes ≡ piece p n whole → IsWritten (p + 131072) whole (put c p bytes)
written_more p n whole c bytes so_far size fits long is =
    let len : length (put c p bytes) ≡ max (length c) (p + length bytes) = length-put c p bytes in
    let old_long : p ≤ length c = front_long p whole c so_far.same fits in
    record {
      same = ext_get_or 0 (take (p + 131072) (put c p bytes)) (take (p + 131072) whole)
          (omega (arith, length-take (p + 131072) (put c p bytes), length-take (p + 131072) whole, len, size, long, so_far.no_longer, fits))
          (λ i lt.
          let below : i < p + 131072 = omega (arith, lt, length-take (p + 131072) (put c p bytes)) in
          let within : i < length whole = omega (arith, lt, length-take (p + 131072) (put c p bytes), len, size, long, so_far.no_longer, fits) in
          get_or-take (p + 131072) (put c p bytes) i 0 below
          ∙ (elim (leb_tells p i) as (λ _. slice_index (put c p bytes) i ≡ slice_index whole i) [
            | inl late ↦
                let here : i - p < n = omega (arith, size, within, below, late.1) in
                ap (slice_index (put c p bytes)) (let e : i ≡ p + (i - p) = omega (arith, late.1) in e)
                ∙ put_inside c p bytes (i - p) (omega (arith, here, long))
                ∙ ap (λ (l : List ℕ). slice_index l (i - p)) is
                ∙ get_or-piece p n whole (i - p) here
                ∙ ap (slice_index whole) (let e : p + (i - p) ≡ i = omega (arith, late.1) in e)
            | inr early ↦ put_below c p bytes i (omega (arith, old_long, early.1)) early.1 ∙ front_same p whole c so_far.same i early.1
          ])
          ∙ sym (get_or-take (p + 131072) whole i 0 below));
      no_longer = omega (arith, len, size, long, so_far.no_longer, fits);
      one_piece = omega (arith, len, size, long, so_far.one_piece);
    }

-- and then the file is just what is written
pub front_is : (p n : ℕ) (whole c bytes : List ℕ) → IsWritten p whole c → n ≡ min 131072 (length whole - p) → p ≤ length whole → length bytes ≡ n
    → bytes ≡ piece p n whole → put c p bytes ≡ take (p + 131072) whole
front_is p n whole c bytes so_far size fits long is =
    let len : length (put c p bytes) ≡ max (length c) (p + length bytes) = length-put c p bytes in
    sym (take_all (p + 131072) (put c p bytes) (omega (arith, len, size, long, so_far.one_piece)))
    ∙ (written_more p n whole c bytes so_far size fits long is).same

-- a piece that is written in part, or not at all
pub written_torn : (p n : ℕ) (whole c d : List ℕ) → IsWritten p whole c → p + n ≤ length whole → n ≤ 131072 → Torn p n c d → IsWritten p whole d
written_torn p n whole c d so_far fits small torn =
    let old_long : p ≤ length c = front_long p whole c so_far.same (omega (arith, fits)) in
    let new_long : p ≤ length d = omega (arith, old_long, torn.no_shorter) in
    record {
      same = ext_get_or 0 (take p d) (take p whole) (omega (arith, length-take p d, length-take p whole, new_long, fits))
          (λ i lt.
          let below : i < p = omega (arith, lt, length-take p d) in
          get_or-take p d i 0 below ∙ torn.below i (omega (arith, below, old_long)) below ∙ front_same p whole c so_far.same i below ∙ sym (get_or-take p whole i 0 below));
      no_longer = omega (arith, torn.no_longer, so_far.no_longer, fits);
      one_piece = omega (arith, torn.no_longer, so_far.one_piece, small);
    }

-- all pieces are the whole file
pub written_all : (p : ℕ) (whole c : List ℕ) → IsWritten p whole c → length whole ≤ p → c ≡ whole
written_all p whole c so_far long =
    ext_get_or 0 c whole (omega (arith, ap length so_far.same, length-take p c, length-take p whole, so_far.no_longer, long))
    (λ i lt. front_same p whole c so_far.same i (omega (arith, lt, so_far.no_longer, long)))

-- calls that touch the new file alone, and leave as much of it as there was
pub fits_run : (tells : Bool) (old new : DiskState) (v : SealView) (stored : List ℕ) → SealFits tells old v stored
    → FileRun v.to_file old new (λ c. Unit {0})
    → (IsTrue tells → 0 < v.done → IsWritten (131072 * v.done) (file_by v stored) (new.seen v.to_file))
    → SealFits tells new v stored
fits_run tells old new v stored fits run written = record {
  sound = fits.sound;
  within = fits.within;
  source = λ t. ap (take (length stored)) (run.others.seen v.from_file fits.sound.apart) ∙ fits.source t;
  written = written;
}

-- and one piece is written
pub fits_more : (tells : Bool) (old new : DiskState) (v : SealView) (stored : List ℕ) (done : ℕ) → SealFits tells old v stored
    → FileRun v.to_file old new (λ c. Unit {0})
    → done ≤ pieces_of v
    → (IsTrue tells → 0 < done → IsWritten (131072 * done) (file_by v stored) (new.seen v.to_file))
    → SealFits tells new (with_done v done) stored
fits_more tells old new v stored done fits run bound written = record {
  sound = record {
    apart = fits.sound.apart;
    layer = fits.sound.layer;
    index = fits.sound.index;
    sources = fits.sound.sources;
    low = fits.sound.low;
    room = fits.sound.room;
    done = bound;
  };
  within = fits.within;
  source = λ t. ap (take (length stored)) (run.others.seen v.from_file fits.sound.apart) ∙ fits.source t;
  written = written;
}

-- the file after a sync
pub whole_synced : (tells : Bool) (old new : DiskState) (v : SealView) (stored : List ℕ) → SealFits tells old v stored → v.done ≡ pieces_of v → 0 < v.done
    → length (file_by v stored) ≡ length_of v.head
    → ((c : List ℕ) → new.may_leave v.to_file c → IsTrue tells)
    → Steps v.to_file Same old new → Only (new.seen v.to_file) (new.may_leave v.to_file)
    → IsWhole tells new v.to_file (file_by v stored)
whole_synced tells old new v stored fits all some long told steps durable =
    let seen : IsTrue tells → new.seen v.to_file ≡ file_by v stored =
    λ t. steps.seen ∙ written_all (131072 * v.done) (file_by v stored) (old.seen v.to_file) (fits.written t some) (omega (arith, long, all)) in
    record {
      stays = λ c left. durable c left ∙ seen (told c left);
      seen = seen;
    }

-- nothing is written of a file
written_none : (p : ℕ) (whole c : List ℕ) → p ≡ 0 → c ≡ [] → IsWritten p whole c
written_none p whole c none empty = record {
  same = ap (λ (k : ℕ). take k c) none ∙ sym (ap (λ (k : ℕ). take k whole) none);
  no_longer = omega (arith, ap (length {A = ℕ}) empty);
  one_piece = omega (arith, ap (length {A = ℕ}) empty);
}

-- the new file before a piece is written
pub ready : (tells : Bool) (old cut now : DiskState) (v : SealView) (stored : List ℕ) → SealFits tells old v stored
    → (IsTrue tells → v.done ≡ 0 → cut.seen v.to_file ≡ [])
    → (0 < v.done → cut.seen v.to_file ≡ old.seen v.to_file)
    → Quiet cut now → IsTrue tells → IsWritten (131072 * v.done) (file_by v stored) (now.seen v.to_file)
ready tells old cut now v stored fits empty same quiet t =
    let here : now.seen v.to_file ≡ cut.seen v.to_file = quiet.others.seen v.to_file (λ x. x) in
    elim (leb_tells 1 v.done) as (λ _. IsWritten (131072 * v.done) (file_by v stored) (now.seen v.to_file)) [
      | inl some ↦ subst (IsWritten (131072 * v.done) (file_by v stored)) (sym (here ∙ same some.1)) (fits.written t some.1)
      | inr none ↦ written_none (131072 * v.done) (file_by v stored) (now.seen v.to_file) (omega (arith, none.1)) (here ∙ empty t (omega (arith, none.1)))
    ]

-- only the new file is touched
pub run_read : (to : ℕ) (old cut now : DiskState) → FileRun to old cut (λ c. Unit {0}) → Quiet cut now
    → ((files : Files) → Leaves cut files → cut.left_at cut.moment files) → FileRun to old now (λ c. Unit {0})
run_read to old cut now run quiet at_now = by_quiet (λ f. f ≡ to) old cut now (λ (u : Unit {0}) files. Unit {0}) run quiet at_now

pub run_write : (to at n : ℕ) (old mid new : DiskState) → FileRun to old mid (λ c. Unit {0}) → Steps to (Torn at n) mid new → FileRun to old new (λ c. Unit {0})
run_write to at n old mid new run steps = run_on (λ f. f ≡ to) old mid new (λ files. Unit {0}) to (Torn at n) run refl steps (λ files leaves. tt)

-- a write that failed, and one that did not
pub fits_failed : (tells : Bool) (old now new : DiskState) (v : SealView) (stored : List ℕ) (n : ℕ) → SealFits tells old v stored
    → n ≡ min 131072 (length_of v.head - 131072 * v.done) → v.done < pieces_of v → length (file_by v stored) ≡ length_of v.head
    → (IsTrue tells → IsWritten (131072 * v.done) (file_by v stored) (now.seen v.to_file))
    → FileRun v.to_file old new (λ c. Unit {0}) → Steps v.to_file (Torn (131072 * v.done) n) now new
    → SealFits tells new v stored
fits_failed tells old now new v stored n fits size more long before run steps =
    fits_run tells old new v stored fits run
    (λ t some. written_torn (131072 * v.done) n (file_by v stored) (now.seen v.to_file) (new.seen v.to_file) (before t) (omega (arith, size, more, long)) (omega (arith, size)) steps.seen)

pub fits_written : (tells : Bool) (old now new : DiskState) (v : SealView) (stored bytes : List ℕ) (n : ℕ) → SealFits tells old v stored
    → n ≡ min 131072 (length_of v.head - 131072 * v.done) → v.done < pieces_of v → length (file_by v stored) ≡ length_of v.head
    → (IsTrue tells → IsWritten (131072 * v.done) (file_by v stored) (now.seen v.to_file))
    → FileRun v.to_file old new (λ c. Unit {0})
    → (IsTrue tells → bytes ≡ piece (131072 * v.done) n (file_by v stored))
    → (IsTrue tells → new.seen v.to_file ≡ put (now.seen v.to_file) (131072 * v.done) bytes)
    → SealFits tells new (with_done v (v.done + 1)) stored
fits_written tells old now new v stored bytes n fits size more long before run is put_is =
    fits_more tells old new v stored (v.done + 1) fits run (omega (arith, more))
    (λ t some.
    let whole : List ℕ = file_by v stored in
    let bytes_long : length bytes ≡ n = ap length (is t) ∙ length-piece (131072 * v.done) n whole (omega (arith, size, more, long)) in
    let at : 131072 * v.done + 131072 ≡ 131072 * (v.done + 1) = omega arith in
    subst (λ (k : ℕ). IsWritten k whole (new.seen v.to_file)) at
    (subst (IsWritten (131072 * v.done + 131072) whole) (sym (put_is t))
    (written_more (131072 * v.done) n whole (now.seen v.to_file) bytes (before t) (omega (arith, size, long)) (omega (arith, more, long)) bytes_long (is t))))

-- all pieces, and one piece more, are a front of the whole file
pub all_front : (tells : Bool) (now : DiskState) (v : SealView) (stored : List ℕ) → SealFits tells now v stored → v.done ≡ pieces_of v → length (file_by v stored) ≡ length_of v.head
    → IsTrue tells → now.seen v.to_file ≡ take (131072 * v.done) (file_by v stored)
all_front tells now v stored fits all long t =
    let whole : List ℕ = file_by v stored in
    let enough : length whole ≤ 131072 * v.done = omega (arith, all, long) in
    written_all (131072 * v.done) whole (now.seen v.to_file) (fits.written t (omega (arith, all))) enough ∙ sym (take_all (131072 * v.done) whole enough)

pub front_written : (tells : Bool) (now new : DiskState) (v : SealView) (stored bytes : List ℕ) (n : ℕ)
    → n ≡ min 131072 (length_of v.head - 131072 * v.done) → v.done < pieces_of v → length (file_by v stored) ≡ length_of v.head
    → (IsTrue tells → IsWritten (131072 * v.done) (file_by v stored) (now.seen v.to_file))
    → (IsTrue tells → bytes ≡ piece (131072 * v.done) n (file_by v stored))
    → (IsTrue tells → new.seen v.to_file ≡ put (now.seen v.to_file) (131072 * v.done) bytes)
    → IsTrue tells → new.seen v.to_file ≡ take (131072 * (v.done + 1)) (file_by v stored)
front_written tells now new v stored bytes n size more long before is put_is t =
    let whole : List ℕ = file_by v stored in
    let bytes_long : length bytes ≡ n = ap length (is t) ∙ length-piece (131072 * v.done) n whole (omega (arith, size, more, long)) in
    put_is t
    ∙ front_is (131072 * v.done) n whole (now.seen v.to_file) bytes (before t) (omega (arith, size, long)) (omega (arith, more, long)) bytes_long (is t)
    ∙ ap (λ (k : ℕ). take k whole) (let e : 131072 * v.done + 131072 ≡ 131072 * (v.done + 1) = omega arith in e)

-- whatever calls leave the new file and the data as they are
pub fits_kept : (tells : Bool) (old new : DiskState) (v : SealView) (stored : List ℕ) → SealFits tells old v stored
    → new.seen v.to_file ≡ old.seen v.to_file → (IsTrue tells → take (length stored) (new.seen v.from_file) ≡ stored) → SealFits tells new v stored
fits_kept tells old new v stored fits same source = record {
  sound = fits.sound;
  within = fits.within;
  source = source;
  written = λ t some. subst (IsWritten (131072 * v.done) (file_by v stored)) (sym same) (fits.written t some);
}

pub fitted_spared : (tells : Bool) (old new : DiskState) (v : SealView) → Spares (λ f. ⊥) old new → IsFitted tells old v → IsFitted tells new v
fitted_spared tells old new v spares fitted = (
  fitted.0,
  fits_kept tells old new v fitted.0 fitted.1 (spares.seen v.to_file (λ x. x)) (λ t. ap (take (length fitted.0)) (spares.seen v.from_file (λ x. x)) ∙ fitted.1.source t),
)

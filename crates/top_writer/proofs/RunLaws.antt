-- What a list of calls makes of a top, and what a crash may leave then.
use Rattle.std.proofs.Common.{◌≡◌, ℕ, List, [], ◌∷◌, ◌++◌, refl, sym, ap, subst, ◌∙◌, arith, inl, inr, false, Bool, Option, append-nil, append_assoc}
use Rattle.std.specs.Prelude.{All, Contains}
use Rattle.std.proofs.lemmas.Bool.{true≢false}
use Rattle.std.proofs.lemmas.List.Elements.{All-nil, All-cons, All-append, All-weaker, All-contains, All-head, All-tail}
use Rattle.block_disk.specs.DiskState.{DiskState, Files, Leaves}
use Rattle.block_disk.specs.Claims.{Quiet}
use Rattle.block_disk.proofs.Moments.{run_weakened}
use Rattle.flat_image.specs.Left.{Stand}
use Rattle.top_writer.specs.declared.top.Top.{Top}
use Rattle.top_writer.specs.Fitting.{TopFits, TopGoes}
use Rattle.top_writer.specs.Files.{TopFiles, HeadsAsked}
use Rattle.top_writer.specs.Runs.{Call, Wrote, Zeroed, Flushed, FlushFailed, Refused, becomes, leaves, stand_after, left_after, left_by, flushes, IsFlush, AreUnflushed, IsFlushedFront, ShowsFront, FitsAfter, GoesOn}
use Rattle.top_writer.specs.Showing.{ShowsOne}
use Rattle.top_writer.specs.Stands.{unchanged, as_before, this_too}
use Rattle.top_writer.specs.View.{view_of, epoch_of}
use Rattle.top_writer.proofs.Going.{contains_more, shows_here, fits_quiet}
use Rattle.top_writer.proofs.ShowLaws.{fits_shown}

abbrev IsUnflushed : Call → Type 0
IsUnflushed call = flushes call ≡ false

-- all of the calls
pub front_all : (s : Stand) (calls : List Call) → IsFlushedFront s calls (stand_after s calls)
front_all s calls = record {
  front = calls;
  flushed = record { rest = []; splits = sym (append-nil calls); unflushed = All-nil IsUnflushed };
  is = refl;
}

-- a front has all that was flushed still where a call follows that is no flush
pub front_more : (s : Stand) (calls : List Call) (call : Call) (t : Stand) → flushes call ≡ false → IsFlushedFront s calls t → IsFlushedFront s (calls ++ call ∷ []) t
front_more s calls call t keeps_none f = record {
  front = f.front;
  flushed = record {
    rest = f.flushed.rest ++ call ∷ [];
    splits = ap (λ (l : List Call). l ++ call ∷ []) f.flushed.splits ∙ append_assoc f.front f.flushed.rest (call ∷ []);
    unflushed = All-append IsUnflushed f.flushed.rest (call ∷ []) f.flushed.unflushed (All-cons IsUnflushed call [] keeps_none (All-nil IsUnflushed));
  };
  is = f.is;
}

pub stand-append : (s : Stand) (calls more : List Call) → stand_after s (calls ++ more) ≡ stand_after (stand_after s calls) more
stand-append s [] more = refl
stand-append s (call ∷ calls) more = stand-append (becomes call s) calls more

pub left-append : (s : Stand) (may : List Stand) (calls more : List Call)
    → left_after s may (calls ++ more) ≡ left_after (stand_after s calls) (left_after s may calls) more
left-append s may [] more = refl
left-append s may (call ∷ calls) more = left-append (becomes call s) (leaves call s may) calls more

-- the top as it stands, where a call follows that changes nothing
pub front_now : (s : Stand) (calls : List Call) (call : Call) → becomes call (stand_after s calls) ≡ stand_after s calls
    → IsFlushedFront s (calls ++ call ∷ []) (stand_after s calls)
front_now s calls call same =
    subst (IsFlushedFront s (calls ++ call ∷ [])) (stand-append s calls (call ∷ []) ∙ same) (front_all s (calls ++ call ∷ []))

-- one call more
pub left_next : (s : Stand) (calls : List Call) (call : Call) (may : List Stand) → All (IsFlushedFront s calls) may
    → All (IsFlushedFront s (calls ++ call ∷ [])) (leaves call (stand_after s calls) may)
left_next s calls (Wrote at bytes) may all =
    All-weaker (IsFlushedFront s calls) (IsFlushedFront s (calls ++ Wrote at bytes ∷ [])) (λ t f. front_more s calls (Wrote at bytes) t refl f) may all
left_next s calls (Zeroed at count) may all =
    All-weaker (IsFlushedFront s calls) (IsFlushedFront s (calls ++ Zeroed at count ∷ [])) (λ t f. front_more s calls (Zeroed at count) t refl f) may all
left_next s calls Flushed may all =
    All-cons (IsFlushedFront s (calls ++ Flushed ∷ [])) (stand_after s calls) [] (front_now s calls Flushed refl) (All-nil (IsFlushedFront s (calls ++ Flushed ∷ [])))
left_next s calls FlushFailed may all =
    All-cons (IsFlushedFront s (calls ++ FlushFailed ∷ [])) (stand_after s calls) may (front_now s calls FlushFailed refl)
    (All-weaker (IsFlushedFront s calls) (IsFlushedFront s (calls ++ FlushFailed ∷ [])) (λ t f. front_more s calls FlushFailed t refl f) may all)
left_next s calls Refused may all =
    All-weaker (IsFlushedFront s calls) (IsFlushedFront s (calls ++ Refused ∷ [])) (λ t f. front_more s calls Refused t refl f) may all

-- all further calls
pub left_on : (s : Stand) (more calls : List Call) (now : Stand) (may : List Stand) → now ≡ stand_after s calls → All (IsFlushedFront s calls) may
    → All (IsFlushedFront s (calls ++ more)) (left_after now may more)
left_on s [] calls now may is all = subst (λ (l : List Call). All (IsFlushedFront s l) may) (sym (append-nil calls)) all
left_on s (call ∷ more) calls now may is all =
    let next : All (IsFlushedFront s (calls ++ call ∷ [])) (leaves call now may) =
    subst (λ (t : Stand). All (IsFlushedFront s (calls ++ call ∷ [])) (leaves call t may)) (sym is) (left_next s calls call may all) in
    let now_is : becomes call now ≡ stand_after s (calls ++ call ∷ []) = ap (becomes call) is ∙ sym (stand-append s calls (call ∷ [])) in
    subst (λ (l : List Call). All (IsFlushedFront s l) (left_after (becomes call now) (leaves call now may) more)) (append_assoc calls (call ∷ []) more)
    (left_on s more (calls ++ call ∷ []) (becomes call now) (leaves call now may) now_is next)

-- what a crash may leave is the top after a front that has all that was flushed
pub left_fronts : (s : Stand) (calls : List Call) → All (IsFlushedFront s calls) (left_by s calls)
left_fronts s calls =
    left_on s calls [] s (s ∷ []) refl (All-cons (IsFlushedFront s []) s [] (front_all s []) (All-nil (IsFlushedFront s [])))

-- and so at each moment of the next call
pub moment_fronts : (s : Stand) (calls : List Call) → All (IsFlushedFront s calls) (this_too (stand_after s calls) (left_by s calls))
moment_fronts s calls = All-cons (IsFlushedFront s calls) (stand_after s calls) (left_by s calls) (front_all s calls) (left_fronts s calls)

-- after a flush that answered Ok it is the top as it stands
pub flushed_left : (s : Stand) (may : List Stand) (calls : List Call) → left_after s may (calls ++ Flushed ∷ []) ≡ stand_after s calls ∷ []
flushed_left s may calls = left-append s may calls (Flushed ∷ [])

pub contains_first : (s : Stand) (may : List Stand) → Contains (s ∷ may) s
contains_first s may = (0, omega arith, refl)

-- what a crash may leave it may leave still, until a flush answers Ok
pub contains_on : (t : Stand) (calls : List Call) (s : Stand) (may : List Stand) → AreUnflushed calls → Contains may t → Contains (left_after s may calls) t
contains_on t [] s may none among = among
contains_on t (Wrote at bytes ∷ calls) s may none among =
    contains_on t calls (becomes (Wrote at bytes) s) may (All-tail IsUnflushed (Wrote at bytes) calls none) among
contains_on t (Zeroed at count ∷ calls) s may none among =
    contains_on t calls (becomes (Zeroed at count) s) may (All-tail IsUnflushed (Zeroed at count) calls none) among
contains_on t (Flushed ∷ calls) s may none among = absurd (true≢false (All-head IsUnflushed Flushed calls none))
contains_on t (FlushFailed ∷ calls) s may none among =
    contains_on t calls s (s ∷ may) (All-tail IsUnflushed FlushFailed calls none) (contains_more s may t among)
contains_on t (Refused ∷ calls) s may none among =
    contains_on t calls s may (All-tail IsUnflushed Refused calls none) among

-- before the first of them it may leave the top as it was at the start
pub start_left : (s : Stand) (calls : List Call) → AreUnflushed calls → Contains (left_by s calls) s
start_left s calls none = contains_on s calls s (s ∷ []) none (contains_first s [])

-- after a flush a crash may leave the top as it stands there
pub flush_contains : (call : Call) (rest : List Call) (s : Stand) (may : List Stand) → IsFlush call → AreUnflushed rest → Contains (left_after s may (call ∷ rest)) s
flush_contains call rest s may is none = elim is [
  | inl ok ↦ subst (λ (c : Call). Contains (left_after s may (c ∷ rest)) s) (sym ok) (contains_on s rest s (s ∷ []) none (contains_first s []))
  | inr err ↦ subst (λ (c : Call). Contains (left_after s may (c ∷ rest)) s) (sym err) (contains_on s rest s (s ∷ may) none (contains_first s may))
]

-- and so until the next that answers Ok
pub tried_left : (front rest : List Call) (call : Call) (s : Stand) (may : List Stand) → IsFlush call → AreUnflushed rest
    → Contains (left_after s may (front ++ call ∷ rest)) (stand_after s front)
tried_left front rest call s may is none =
    subst (λ (l : List Stand). Contains l (stand_after s front)) (sym (left-append s may front (call ∷ rest)))
    (flush_contains call rest (stand_after s front) (left_after s may front) is none)

-- files that a crash leaves now
pub shows_now : (tells : Bool) (now : DiskState) (n : ℕ) (asked : HeadsAsked) (p : Top) (s : Stand) (calls : List Call) (files : Files)
    → FitsAfter tells now n asked p s calls → Leaves now files → ShowsFront (epoch_of p) n asked s calls files
shows_now tells now n asked p s calls files fits leaves =
    let one = fits_shown tells now n asked (view_of p) (stand_after s calls) (left_by s calls) fits files leaves in
    record {
      stand = one.stand;
      front = All-contains (IsFlushedFront s calls) (left_by s calls) one.stand (left_fronts s calls) one.among;
      shows = one.shows;
    }

-- files that show one of those show the top after a front
pub shows_front : (epoch n : ℕ) (asked : HeadsAsked) (s : Stand) (calls : List Call) (files : Files)
    → ShowsOne epoch n asked (this_too (stand_after s calls) (left_by s calls)) files → ShowsFront epoch n asked s calls files
shows_front epoch n asked s calls files one = record {
  stand = one.stand;
  front = All-contains (IsFlushedFront s calls) (this_too (stand_after s calls) (left_by s calls)) one.stand (moment_fronts s calls) one.among;
  shows = one.shows;
}

-- a call on a top that is what some calls made of s
pub goes_on : (tells : Bool) (old new : DiskState) (n : ℕ) (asked : HeadsAsked) (p q : Top) (s : Stand) (calls : List Call) (call : Call)
    → FitsAfter tells old n asked p s calls → TopGoes tells old new p q (becomes call) (leaves call) → GoesOn tells old new n asked p q s calls call
goes_on tells old new n asked p q s calls call fits goes = record {
  fits = subst (λ (t : Stand). TopFits tells new n asked q t (left_by s (calls ++ call ∷ []))) (sym (stand-append s calls (call ∷ [])))
      (subst (λ (l : List Stand). TopFits tells new n asked q (becomes call (stand_after s calls)) l) (sym (left-append s (s ∷ []) calls (call ∷ [])))
      (goes.fits n asked (stand_after s calls) (left_by s calls) fits));
  any_moment = run_weakened {I = Unit {0}} (TopFiles (epoch_of p)) old new (λ u. ShowsOne (epoch_of p) n asked (this_too (stand_after s calls) (left_by s calls)))
      (ShowsFront (epoch_of p) n asked s calls) (goes.any_moment n asked (stand_after s calls) (left_by s calls) fits)
      (λ u files beside. shows_front (epoch_of p) n asked s calls files beside.has);
}

-- a call that changes no file
pub goes_quiet : (tells : Bool) (old new : DiskState) (p : Top) → Quiet old new → TopGoes tells old new p p unchanged as_before
goes_quiet tells old new p quiet = record {
  epoch = refl;
  sectors = refl;
  sequence = omega arith;
  fits = λ n asked s may fits. fits_quiet tells old new n asked p s may quiet fits;
  any_moment = λ n asked s may fits. record {
    leaves = record {
      later = quiet.leaves.later;
      past = quiet.leaves.past;
      each = λ k from to. (
        tt,
        λ files left. let there = (quiet.leaves.each k from to).1 files left in record {
          has = shows_here tells old n asked (view_of p) s may fits files (λ f. there.others f (λ x. x));
          others = λ f apart. there.others f (λ x. x);
        },
      );
    };
    others = record {
      seen = λ f apart. quiet.others.seen f (λ x. x);
      left = λ f c apart. quiet.others.left f c (λ x. x);
    };
  };
}

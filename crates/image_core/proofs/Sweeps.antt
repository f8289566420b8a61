-- A sweep of an image: the files of tops that became layers are cut, and no file that its manifest names.
use Rattle.std.proofs.Common.{◌≡◌, ◌⊎◌, ℕ, ◌+◌, ◌*◌, ◌^◌, ◌<◌, ◌≤◌, inl, inr, Bool, IsTrue, List, [], ◌∷◌, ◌++◌, length, take, refl, sym, ap, ◌∙◌, subst, arith}
use Rattle.std.specs.Prelude.{All, Contains, Option, Some, None}
use Rattle.std.proofs.lemmas.Bool.Decides.{leb_tells}
use Rattle.block_disk.specs.DiskState.{DiskState, Files, Leaves, Steps}
use Rattle.block_disk.specs.declared.disk.Disk.{Ghosts}
use Rattle.block_disk.specs.Claims.{LeavesOnly, FileRun, Run}
use Rattle.block_disk.proofs.Moments.{run_started, run_on, run_joined}
use Rattle.flat_image.specs.declared.act.Act.{Act}
use Rattle.flat_image.specs.declared.act.Act.TheVariants.{Fault}
use Rattle.flat_image.specs.declared.act.Asked.{Asked}
use Rattle.flat_image.specs.declared.act.Asked.TheVariants.{Nothing}
use Rattle.flat_image.specs.declared.base.Base.{Base}
use Rattle.flat_image.specs.Base.{pending_of}
use Rattle.flat_image.specs.Frozen.{Frozen}
use Rattle.flat_image.specs.History.{History, now}
use Rattle.flat_image.specs.Left.{Stand, stand}
use Rattle.flat_image.proofs.HistoryLaws.{base-stays}
use Rattle.top_writer.specs.declared.top.Top.{Top}
use Rattle.top_writer.specs.Files.{TopFiles, HeadsAsked, data_file, index_file, mark_file}
use Rattle.top_writer.specs.Showing.{ShowsOne}
use Rattle.top_writer.specs.View.{epoch_of}
use Rattle.top_writer.proofs.Going.{KnowsNow, fits_spared}
use Rattle.image_core.specs.declared.parts.Parts.{Parts}
use Rattle.image_core.specs.Numbers.{manifest_file, sealed_file, with_pending}
use Rattle.image_core.specs.Shows as shows
use Rattle.image_core.specs.Shows.{heads_asked, IsFrozenFile}
use Rattle.image_core.specs.FileSets.{FilesFit}
use Rattle.image_core.specs.MayBe.{ShowsMayBe}
use Rattle.image_core.specs.Standing.{ShowsLeft}
use Rattle.image_core.specs.Parts.{PartsFit}
use Rattle.image_core.specs.Seen.{Seen, with_disk, StandsFor, ShowsLeftWithin, Goes}
use Rattle.image_core.specs.Sweeping.{IsSweptFile, IsEmptied, AreEmptied}
use Rattle.image_core.proofs.FilesShown.{files-shown}
use Rattle.image_core.proofs.Lifts.{left-of, kept-more, blamed-more}
use Rattle.image_core.proofs.ManifestSets.{stands-fault}
use Rattle.image_core.proofs.PartsHold.{files-of, held-body}
use Rattle.image_core.proofs.Freezes.{fits-stepped}
use Rattle.image_core.proofs.SheetsRead.{layers-length}
use Rattle.image_core.proofs.StackLaws.{not-manifest, not-sealed, top-shown, stack-spared, made-spared, made-shown}
use Rattle.image_core.proofs.StepGoes.{left-within}

-- a run on fewer files is one on more
pub run-wider : (few more : ℕ → Type 0) (old new : DiskState) → ((f : ℕ) → few f → more f) → Run few old new (λ files. Unit {0}) → Run more old new (λ files. Unit {0})
run-wider few more old new wider run = record {
  leaves = record {
    later = run.leaves.later;
    past = run.leaves.past;
    each = λ k from to. let at_k = run.leaves.each k from to in (
      tt,
      λ files left. record { has = tt; others = λ f apart. (at_k.1 files left).others f (λ is. apart (wider f is)) },
    );
  };
  others = record {
    seen = λ f apart. run.others.seen f (λ is. apart (wider f is));
    left = λ f c apart left. run.others.left f c (λ is. apart (wider f is)) left;
  };
}

pub run-none : (touched : ℕ → Type 0) (now : DiskState) → KnowsNow now → Run touched now now (λ files. Unit {0})
run-none touched now now_at = run_started touched now (λ files. Unit {0}) now_at (λ files left. tt)

-- one call on a file
pub file-run : (file : ℕ) (step : List ℕ → List ℕ → Type 0) (old new : DiskState) → KnowsNow old → Steps file step old new → FileRun file old new (λ c. Unit {0})
file-run file step old new now_at steps =
    run_on (λ f. f ≡ file) old old new (λ files. Unit {0}) file step (run-none (λ f. f ≡ file) old now_at) refl steps (λ files left. tt)

-- and as one on the files of a top
pub top-run : (epoch number file : ℕ) (old new : DiskState) → number ≡ file → TopFiles epoch file → FileRun number old new (λ c. Unit {0}) → Run (TopFiles epoch) old new (λ files. Unit {0})
top-run epoch number file old new is of_top run = run-wider (λ f. f ≡ number) (TopFiles epoch) old new (λ f same. subst (TopFiles epoch) (sym (same ∙ is)) of_top) run

pub top-then : (epoch number file : ℕ) (old mid new : DiskState) → number ≡ file → TopFiles epoch file → Run (TopFiles epoch) old mid (λ files. Unit {0}) → FileRun number mid new (λ c. Unit {0})
    → Run (TopFiles epoch) old new (λ files. Unit {0})
top-then epoch number file old mid new is of_top first run = run_joined (TopFiles epoch) old mid new (λ files. Unit {0}) first (top-run epoch number file mid new is of_top run)

-- the three files of a top were emptied one after another
pub emptied-three : (epoch one two three : ℕ) (a b c : DiskState) → one ≡ data_file epoch → two ≡ index_file epoch → three ≡ mark_file epoch
    → a.seen one ≡ [] → FileRun two a b (λ c. Unit {0}) → b.seen two ≡ [] → FileRun three b c (λ c. Unit {0}) → c.seen three ≡ [] → IsEmptied c.seen epoch
emptied-three epoch one two three a b c is_one is_two is_three first second at_two third at_three = (
  ap c.seen (sym is_one) ∙ (third.others.seen one (λ same. omega (arith, same, is_one, is_three)) ∙ (second.others.seen one (λ same. omega (arith, same, is_one, is_two)) ∙ first)),
  ap c.seen (sym is_two) ∙ (third.others.seen two (λ same. omega (arith, same, is_two, is_three)) ∙ at_two),
  ap c.seen (sym is_three) ∙ at_three,
)

-- no file is one of two tops
pub not-apart : (one other f : ℕ) → one < other → TopFiles one f → TopFiles other f → ⊥
not-apart one other f is (inl a) (inl b) = omega (arith, is, a, b)
not-apart one other f is (inl a) (inr (inl b)) = omega (arith, is, a, b)
not-apart one other f is (inl a) (inr (inr b)) = omega (arith, is, a, b)
not-apart one other f is (inr (inl a)) (inl b) = omega (arith, is, a, b)
not-apart one other f is (inr (inl a)) (inr (inl b)) = omega (arith, is, a, b)
not-apart one other f is (inr (inl a)) (inr (inr b)) = omega (arith, is, a, b)
not-apart one other f is (inr (inr a)) (inl b) = omega (arith, is, a, b)
not-apart one other f is (inr (inr a)) (inr (inl b)) = omega (arith, is, a, b)
not-apart one other f is (inr (inr a)) (inr (inr b)) = omega (arith, is, a, b)

-- one epoch more is emptied
pub swept-more : (tells : Bool) (epoch count : ℕ) (old mid new : DiskState) → epoch < count → Run (IsSweptFile count) old mid (λ files. Unit {0})
    → Run (TopFiles epoch) mid new (λ files. Unit {0}) → Run (IsSweptFile count) old new (λ files. Unit {0})
swept-more tells epoch count old mid new below first run =
    run_joined (IsSweptFile count) old mid new (λ files. Unit {0}) first (run-wider (TopFiles epoch) (IsSweptFile count) mid new (λ f of_top. (epoch, below, of_top)) run)

pub emptied-more : (epoch : ℕ) (mid new : DiskState) → Run (TopFiles epoch) mid new (λ files. Unit {0}) → AreEmptied mid.seen epoch → IsEmptied new.seen epoch → AreEmptied new.seen (epoch + 1)
emptied-more epoch mid new run before here e below =
    elim (leb_tells (e + 1) epoch) [
      | inl less ↦
          let under : e < epoch = omega (arith, less.1) in
          let was = before e under in (
            run.others.seen (data_file e) (not-apart e epoch (data_file e) under (inl refl)) ∙ was.0,
            run.others.seen (index_file e) (not-apart e epoch (index_file e) under (inr (inl refl))) ∙ was.1,
            run.others.seen (mark_file e) (not-apart e epoch (mark_file e) under (inr (inr refl))) ∙ was.2,
          )
      | inr last ↦ let same : epoch ≡ e = omega (arith, last.1, below) in subst (IsEmptied new.seen) same here
    ]

-- A run on files of the tops of committed epochs.
module _ (tells : Bool) (old new : DiskState) (p : Parts) (b : Base) (tops : List Stand) (attempts : List Asked) (fit : PartsFit tells old p b tops attempts) (count : ℕ) (number : count ≡ length b.done)
    (run : Run (IsSweptFile count) old new (λ files. Unit {0})) where
  abbrev Own : ℕ → Type 0
  Own = IsSweptFile count

  not-later : (e f : ℕ) → length b.done ≤ e → TopFiles e f → ¬ Own f
  not-later e f above of_top own = not-apart own.0 e f (omega (arith, own.1, number, above)) own.2 of_top

  not-layer : (k : ℕ) → ¬ Own (sealed_file k)
  not-layer k own = not-sealed own.0 k own.2

  not-own-manifest : (f : ℕ) → f ≡ manifest_file → ¬ Own f
  not-own-manifest f is own = not-manifest own.0 f is own.2

  frozen-apart : (frozen : Option Frozen) (f : ℕ) → IsFrozenFile (length b.done) frozen f → ¬ Own f
  frozen-apart None f of_frozen own = absurd of_frozen
  frozen-apart (Some frozen) f of_frozen own = not-later (length b.done) f (omega arith) of_frozen own

  later : (pending : Option (List ℕ)) → length b.done ≤ with_pending (length b.done) pending
  later None = omega arith
  later (Some uuid) = omega arith

  top-apart : (f : ℕ) → TopFiles (epoch_of p.top) f → ¬ Own f
  top-apart f of_top = not-later (epoch_of p.top) f (omega (arith, later (pending_of b.frozen), fit.epoch)) of_top

  sweep-files : (files : Files) → ((f : ℕ) → ¬ Own f → old.may_leave f (files f)) → FilesFit b tops attempts files
  sweep-files files at =
      let body = held-body tells old p b tops attempts fit files (at manifest_file (not-own-manifest manifest_file refl)) in
      let heads : HeadsAsked = heads_asked fit.exact (shows.epoch_of b) b.lowers in
      let one : ShowsOne (epoch_of p.top) b.sectors heads tops files =
      top-shown tells old b.sectors heads p.top (stand b) tops fit.top files (λ f of_top. at f (top-apart f of_top)) in
      files-of tells old p b tops attempts fit tops attempts files body.0 body.1 body.3 (fit.format body.1 body.2)
      (elim (fit.named body.1 body.2) [
        | inl names ↦ inl names
        | inr m ↦ inr (
          m.0,
          m.1,
          made-shown tells old b p.stack m.0 body.1 files fit.stack.next m.2
              (λ t is f of_next. at f (not-later (length b.done + 1) f (omega arith) of_next)) (at (sealed_file (length b.done)) (not-layer (length b.done))),
        )
      ])
      (λ k below. at (sealed_file k) (not-layer k))
      (λ f of_frozen. at f (frozen-apart b.frozen f of_frozen))
      (subst (λ e. ShowsOne e b.sectors heads tops files) fit.epoch one)

  -- the image stays
  pub swept : PartsFit tells new p b tops attempts
  swept =
      let heads : HeadsAsked = heads_asked fit.exact (shows.epoch_of b) b.lowers in
      let pending = not-layer (length b.done) in
      record {
        exact = fit.exact;
        sound = fit.sound;
        manifest_is = fit.manifest_is;
        manifest = λ file left. fit.manifest file (run.others.left p.manifest.file file (not-own-manifest p.manifest.file fit.manifest_is) left);
        format = fit.format;
        named = λ body may. elim (fit.named body may) [
          | inl names ↦ inl names
          | inr m ↦ inr (m.0, m.1, made-spared tells old new Own run.others fit.exact b.sectors b.lowers b.done pending b.frozen p.stack m.0 body m.2)
        ];
        stack = stack-spared tells old new Own run.others fit.exact b.sectors b.lowers b.done pending b.frozen p.stack
            (λ k below. not-layer k) (λ f of_frozen. frozen-apart b.frozen f of_frozen)
            (λ t is f of_next. not-later (length b.done + 1) f (omega arith) of_next) fit.stack;
        epoch = fit.epoch;
        top = fits_spared tells old new b.sectors heads p.top (stand b) tops Own run.others (λ f of_top. top-apart f of_top) fit.top;
      }

-- a sweep from the disk at the start of it
module _ {D : Type 0} (kind : Ghosts D) (start after : D) (p : Parts) (count : ℕ) (number : count ≡ length p.stack.committed.items)
    (run : Run (IsSweptFile count) (kind.state start) (kind.state after) (λ files. Unit {0})) where
  abbrev before : Seen
  before = with_disk kind start p

  own-count : (b : Base) (tops : List Stand) (attempts : List Asked) → PartsFit kind.tells (kind.state start) p b tops attempts → count ≡ length b.done
  own-count b tops attempts fit = number ∙ sym (layers-length b.done p.stack.committed.items fit.stack.committed)

  sweep-fits : (b : Base) (tops : List Stand) (attempts : List Asked) → PartsFit kind.tells (kind.state start) p b tops attempts → PartsFit kind.tells (kind.state after) p b tops attempts
  sweep-fits b tops attempts fit = swept kind.tells (kind.state start) (kind.state after) p b tops attempts fit count (own-count b tops attempts fit) run

  sweep-moment : (noted : Option Act) (base : Base) (history : History) → StandsFor before base history
      → LeavesOnly (kind.state start) (kind.state after) (λ (u : Unit {0}) (files : Files). ShowsLeftWithin base history noted files)
  sweep-moment noted base history k =
      let b : Base = now base history in
      let good = base-stays base history k.base_is k.few k.proper in
      let left : (files : Files) → ((f : ℕ) → ¬ IsSweptFile count f → (kind.state start).may_leave f (files f)) → ShowsLeft base history files =
      λ files others.
      let shown : ShowsMayBe b k.tops k.attempts files =
      files-shown b k.tops k.attempts files good.0 good.1
      (sweep-files kind.tells (kind.state start) (kind.state after) p b k.tops k.attempts k.fits count (own-count b k.tops k.attempts k.fits) run files others) in
      record { found = shown.found; shows = shown.shows; left = left-of base history k.tops k.attempts shown.found k.kept k.blamed shown.may_be } in
      record {
        later = run.leaves.later;
        past = run.leaves.past;
        each = λ j from to. let at_j = run.leaves.each j from to in (tt, λ files at_it. left-within base history noted files (left files (at_j.1 files at_it).others));
      }

  pub sweep-done : kind.faults start ≤ kind.faults after → Goes before (with_disk kind after p) None
  sweep-done rise = record {
    stands = λ base history number k. record {
      base_is = k.base_is;
      few = k.few;
      proper = k.proper;
      failed = omega (arith, k.failed, rise);
      steps = k.steps;
      low = k.low;
      manifest_low = k.manifest_low;
      tops = k.tops;
      attempts = k.attempts;
      fits = sweep-fits (now base history) k.tops k.attempts k.fits;
      kept = k.kept;
      blamed = k.blamed;
    };
    any_moment = λ base history k. sweep-moment None base history k;
  }

  pub sweep-failed : kind.faults start + 1 ≤ kind.faults after → Goes before (with_disk kind after (record p { steps = p.steps + 1 })) (Some (Fault Nothing))
  sweep-failed rose = record {
    stands = λ base history number k.
        stands-fault before (with_disk kind after (record p { steps = p.steps + 1 })) base history number Nothing k.tops k.attempts k rose refl
        (omega (arith, k.low)) (omega (arith, k.manifest_low))
        (fits-stepped kind.tells (kind.state after) p (p.steps + 1) (now base history) k.tops k.attempts (sweep-fits (now base history) k.tops k.attempts k.fits))
        (kept-more base history k.tops number (Fault Nothing) refl k.kept) (blamed-more history k.attempts number (Fault Nothing) refl k.blamed);
    any_moment = λ base history k. sweep-moment (Some (Fault Nothing)) base history k;
  }

-- Steps of an image that are calls on its top.
use Rattle.std.proofs.Common.{◌≡◌, ℕ, ◌+◌, ◌*◌, ◌^◌, ◌<◌, ◌≤◌, inl, inr, Bool, false, List, [], ◌∷◌, ◌++◌, length, refl, sym, ap, ◌∙◌, subst, arith, length-append}
use Rattle.std.specs.Prelude.{All, Contains, ◌⊎◌, Option, Some, None}
use Rattle.block_disk.specs.DiskState.{DiskState, Files, Leaves}
use Rattle.block_disk.specs.Claims.{LeavesOnly, Beside, Quiet}
use Rattle.block_disk.proofs.Moments.{by_quiet}
use Rattle.gate_mark.specs.Mark.{sequence_in, IsKept, MayHold}
use Rattle.flat_image.specs.declared.act.Act.{Act}
use Rattle.flat_image.specs.declared.act.Act.TheVariants.{Read, Write, Zero, Flush, Freeze, Seal, Grow, Fault}
use Rattle.flat_image.specs.declared.act.Asked.{Asked}
use Rattle.flat_image.specs.declared.act.Asked.TheVariants.{Nothing, Uuid, Sectors}
use Rattle.flat_image.specs.declared.base.Base.{Base}
use Rattle.flat_image.specs.Entries.{entry}
use Rattle.flat_image.specs.History.{History, now, step, keeps, is_fault, fault_count, Allowed, HasRoom, IsWithin}
use Rattle.flat_image.specs.Left.{Stand, stand, put_top, ends_blame}
use Rattle.flat_image.proofs.HistoryLaws.{now-entry, proper-entry, base-stays}
use Rattle.top_writer.specs.Files.{TopFiles, HeadsAsked}
use Rattle.top_writer.specs.declared.top.Top.{Top}
use Rattle.top_writer.proofs.Going.{KnowsNow, going_started, fits_quiet, goes_same}
use Rattle.top_writer.specs.Fitting.{TopGoes}
use Rattle.top_writer.specs.Showing.{ShowsOne}
use Rattle.top_writer.specs.Stands.{unchanged, as_before, just_this, this_too}
use Rattle.top_writer.specs.View.{view_of, epoch_of, sectors_of, sequence_of}
use Rattle.image_core.specs.declared.image.Image.{Image}
use Rattle.image_core.specs.declared.parts.Parts.{Parts}
use Rattle.block_disk.specs.declared.disk.Disk.{Ghosts}
use Rattle.image_core.specs.Numbers.{sealed_file}
use Rattle.image_core.specs.Manifest.{Names}
use Rattle.flat_image.specs.Base.{pending_of}
use Rattle.image_core.specs.declared.parts.Stack.{Stack}
use Rattle.image_core.specs.Shows as shows
use Rattle.image_core.specs.FileSets.{FilesFit}
use Rattle.image_core.specs.Standing.{ShowsLeft}
use Rattle.image_core.specs.MayBe.{ShowsMayBe, KeptStand}
use Rattle.image_core.specs.Parts.{parts_view, StackFits, WasMade, PartsFit}
use Rattle.image_core.specs.Seen.{Seen, seen, with_disk, StandsFor, ShowsLeftWithin, Goes}
use Rattle.image_core.proofs.FilesShown.{files-shown}
use Rattle.image_core.proofs.Lifts.{left-of, kept-more, kept-one, kept-too, blamed-more, fault-entry, fault-more}
use Rattle.image_core.proofs.PartsHold.{top-room, files-fit}
use Rattle.image_core.proofs.StackLaws.{not-manifest, not-sealed, not-frozen_file, not-next_file, stack-spared, made-spared}

-- the same but for the top and the steps
pub record IsSameBesides (p q : Parts) : Type 0 where
  pub manifest : q.manifest ≡ p.manifest
  pub stack : q.stack ≡ p.stack

-- what a crash leaves of the history it may leave within any step
pub left-within : (base : Base) (history : History) (noted : Option Act) (files : Files) → ShowsLeft base history files → ShowsLeftWithin base history noted files
left-within base history (Some (Freeze uuid)) files left = inl left
left-within base history (Some (Seal uuid)) files left = inl left
left-within base history (Some (Grow sectors)) files left = inl left
left-within base history (Some (Fault (Sectors sectors))) files left = inl left
left-within base history (Some (Fault (Uuid uuid))) files left = inl left
left-within base history (Some (Fault Nothing)) files left = left
left-within base history (Some (Read at count)) files left = left
left-within base history (Some (Write at bytes)) files left = left
left-within base history (Some (Zero at count)) files left = left
left-within base history (Some Flush) files left = left
left-within base history None files left = left

module _ (x y : Seen) (becomes : Stand → Stand) (leaves : Stand → List Stand → List Stand) (same : IsSameBesides x.parts y.parts) (tells_is : y.tells ≡ x.tells)
    (goes : TopGoes x.tells x.state y.state x.parts.top y.parts.top becomes leaves) where
  -- what the image is after a call on its top
  pub fits-after : (b : Base) (tops : List Stand) (attempts : List Asked) → PartsFit x.tells x.state x.parts b tops attempts
      → PartsFit y.tells y.state y.parts (put_top b (becomes (stand b))) (leaves (stand b) tops) attempts
  fits-after b tops attempts fit =
      let asked : HeadsAsked = shows.heads_asked fit.exact (shows.epoch_of b) b.lowers in
      let run = goes.any_moment b.sectors asked (stand b) tops fit.top in
      let others = run.others in
      let own : (f : ℕ) → TopFiles (epoch_of x.parts.top) f → TopFiles (shows.epoch_of b) f = λ f of_top. subst (λ e. TopFiles e f) fit.epoch of_top in
      let kept : IsKept y.state x.parts.manifest = λ file left. fit.manifest file
      (others.left x.parts.manifest.file file (not-manifest (epoch_of x.parts.top) x.parts.manifest.file fit.manifest_is) left) in
      let made : Base = put_top b (becomes (stand b)) in
      let pending : ¬ TopFiles (epoch_of x.parts.top) (sealed_file (length b.done)) = not-sealed (epoch_of x.parts.top) (length b.done) in
      let under : StackFits x.tells y.state fit.exact b.sectors b.lowers b.done b.frozen x.parts.stack =
      stack-spared x.tells x.state y.state (TopFiles (epoch_of x.parts.top)) others fit.exact b.sectors b.lowers b.done pending b.frozen x.parts.stack
      (λ k below. not-sealed (epoch_of x.parts.top) k)
      (λ f of_frozen of_top. not-frozen_file (length b.done) b.frozen f of_frozen (own f of_top))
      (λ t is f of_next of_top. not-next_file x.tells x.state b.sectors (length b.done) b.frozen x.parts.stack.next t f is fit.stack.next of_next (own f of_top)) fit.stack in
      let named : (body : List ℕ) → MayHold x.parts.manifest body → Names body (length b.done) (pending_of b.frozen) b.sectors
      ⊎ ((a : Asked) × Contains attempts a × WasMade y.state b.sectors b.lowers b.done b.frozen x.parts.stack a body) =
      λ body may. elim (fit.named body may) [
        | inl names ↦ inl names
        | inr m ↦ inr (m.0, m.1, made-spared x.tells x.state y.state (TopFiles (epoch_of x.parts.top)) others fit.exact b.sectors b.lowers b.done pending b.frozen x.parts.stack m.0 body m.2)
      ] in
      subst (λ (t : Bool). PartsFit t y.state y.parts made (leaves (stand b) tops) attempts) (sym tells_is) (record {
        exact = fit.exact;
        sound = record { size = fit.sound.size; few = fit.sound.few; stack = fit.sound.stack; unlike = fit.sound.unlike };
        manifest_is = ap (λ m. m.file) same.manifest ∙ fit.manifest_is;
        manifest = subst (IsKept y.state) (sym same.manifest) kept;
        format = λ body may. fit.format body (subst (λ m. MayHold m body) same.manifest may);
        named = λ body may. subst (λ (s : Stack). Names body (length b.done) (pending_of b.frozen) b.sectors
            ⊎ ((a : Asked) × Contains attempts a × WasMade y.state b.sectors b.lowers b.done b.frozen s a body)) (sym same.stack)
            (named body (subst (λ m. MayHold m body) same.manifest may));
        stack = subst (StackFits x.tells y.state fit.exact b.sectors b.lowers b.done b.frozen) (sym same.stack) under;
        epoch = goes.epoch ∙ fit.epoch;
        top = goes.fits b.sectors asked (stand b) tops fit.top;
      })

  -- and what a crash leaves at each moment of it
  pub moment : (noted : Option Act) (base : Base) (history : History) → StandsFor x base history
      → LeavesOnly x.state y.state (λ (u : Unit {0}) (files : Files). ShowsLeftWithin base history noted files)
  moment noted base history stands =
      let b : Base = now base history in
      let asked : HeadsAsked = shows.heads_asked stands.fits.exact (shows.epoch_of b) b.lowers in
      let may : List Stand = stand b ∷ stands.tops in
      let run = goes.any_moment b.sectors asked (stand b) stands.tops stands.fits.top in
      let good = base-stays base history stands.base_is stands.few stands.proper in
      let left : (files : Files) → Beside (TopFiles (epoch_of x.parts.top)) x.state (ShowsOne (epoch_of x.parts.top) b.sectors asked may) files → ShowsLeft base history files =
      λ files beside.
      let fits : FilesFit b may stands.attempts files =
      files-fit x.tells x.state x.parts b stands.tops stands.attempts stands.fits may files
      (λ f not. beside.others f (λ of_top. not (subst (λ e. TopFiles e f) stands.fits.epoch of_top)))
      (subst (λ e. ShowsOne e b.sectors asked may files) stands.fits.epoch beside.has) in
      let shown : ShowsMayBe b may stands.attempts files = files-shown b may stands.attempts files good.0 good.1 fits in
      record {
        found = shown.found;
        shows = shown.shows;
        left = left-of base history may stands.attempts shown.found (kept-too base history (stand b) stands.tops refl stands.kept) stands.blamed shown.may_be;
      }
      in record {
        later = run.leaves.later;
        past = run.leaves.past;
        each = λ k from to. let at_k = run.leaves.each k from to in (tt, λ files at_it. left-within base history noted files (left files (at_k.1 files at_it)));
      }

-- a call that notes an act
pub goes-noted : (x y : Seen) (becomes : Stand → Stand) (leaves : Stand → List Stand → List Stand) (act : Act)
    → IsSameBesides x.parts y.parts → y.tells ≡ x.tells → y.parts.steps ≡ x.parts.steps + 1 → TopGoes x.tells x.state y.state x.parts.top y.parts.top becomes leaves
    → ends_blame act ≡ false → ((b : Base) → step b act ≡ put_top b (becomes (stand b)))
    → ((b : Base) → sectors_of x.parts.top ≡ b.sectors → Allowed b act)
    → ((base : Base) (history : History) (number : ℕ) → base.faults + fault_count history ≤ x.faults → base.faults + fault_count (history ++ entry number act ∷ []) ≤ y.faults)
    → ((base : Base) (history : History) (number : ℕ) (tops : List Stand) → All (KeptStand base history) tops
    → All (KeptStand base (history ++ entry number act ∷ [])) (leaves (stand (now base history)) tops))
    → Goes x y (Some act)
goes-noted x y becomes leaves act same tells_is steps goes blames is allowed counts keeping = record {
  stands = λ base history number k.
      let b : Base = now base history in
      let made : Base = put_top b (becomes (stand b)) in
      let asked : HeadsAsked = shows.heads_asked k.fits.exact (shows.epoch_of b) b.lowers in
      let after : PartsFit y.tells y.state y.parts made (leaves (stand b) k.tops) k.attempts = fits-after x y becomes leaves same tells_is goes b k.tops k.attempts k.fits in
      let room : HasRoom made.rows made.filled = top-room y.tells y.state b.sectors (shows.heads_asked after.exact (shows.epoch_of made) made.lowers) (view_of y.parts.top) (becomes (stand b)) (leaves (stand b) k.tops) after.top in
      record {
        base_is = k.base_is;
        few = k.few;
        proper = proper-entry base history number act k.proper (allowed b k.fits.top.holds.sectors) (subst (λ (c : Base). HasRoom c.rows c.filled) (sym (is b)) room);
        failed = counts base history number k.failed;
        steps = steps ∙ (let e : x.parts.steps + 1 ≡ length (history ++ entry number act ∷ []) = omega (arith, k.steps, length-append history (entry number act ∷ [])) in e);
        low = omega (arith, goes.sequence, k.low, steps);
        manifest_low = omega (arith, k.manifest_low, steps, ap sequence_in same.manifest);
        tops = leaves (stand b) k.tops;
        attempts = k.attempts;
        fits = subst (λ (c : Base). PartsFit y.tells y.state y.parts c (leaves (stand b) k.tops) k.attempts) (sym (now-entry base history number act ∙ is b)) after;
        kept = keeping base history number k.tops k.kept;
        blamed = blamed-more history k.attempts number act blames k.blamed;
      };
  any_moment = λ base history k. moment x y becomes leaves same tells_is goes (Some act) base history k;
}

-- a call that was refused
pub goes-refused : (x y : Seen) → IsSameBesides x.parts y.parts → y.tells ≡ x.tells → y.parts.steps ≡ x.parts.steps → sequence_of y.parts.top ≡ sequence_of x.parts.top
    → x.faults ≤ y.faults → TopGoes x.tells x.state y.state x.parts.top y.parts.top unchanged as_before → Goes x y None
goes-refused x y same tells_is steps sequence rise goes = record {
  stands = λ base history number k. record {
    base_is = k.base_is;
    few = k.few;
    proper = k.proper;
    failed = omega (arith, k.failed, rise);
    steps = steps ∙ k.steps;
    low = omega (arith, sequence, k.low, steps);
    manifest_low = omega (arith, k.manifest_low, steps, ap sequence_in same.manifest);
    tops = k.tops;
    attempts = k.attempts;
    fits = fits-after x y unchanged as_before same tells_is goes (now base history) k.tops k.attempts k.fits;
    kept = k.kept;
    blamed = k.blamed;
  };
  any_moment = λ base history k. moment x y unchanged as_before same tells_is goes None base history k;
}

-- an image that nothing is done to
pub goes-not : (x : Seen) → KnowsNow x.state → Goes x x None
goes-not x now_at =
    goes-refused x x (record { manifest = refl; stack = refl }) refl refl refl (omega arith) (goes_same x.tells x.state x.parts.top x.parts.top refl now_at)

-- and that notes nothing
pub goes-unnoted : (x : Seen) (noted : Option Act) → KnowsNow x.state → noted ≡ None → Goes x x noted
goes-unnoted x noted now_at is = subst (Goes x x) (sym is) (goes-not x now_at)

-- how many faults there are with one act more
pub counts-clean : (faults later : ℕ) (act : Act) → is_fault act ≡ false → faults ≤ later → (base : Base) (history : History) (number : ℕ)
    → base.faults + fault_count history ≤ faults → base.faults + fault_count (history ++ entry number act ∷ []) ≤ later
counts-clean faults later act clean rise base history number before = omega (arith, before, rise, fault-entry history number act clean)

pub counts-fault : (faults later : ℕ) (asked : Asked) → faults + 1 ≤ later → (base : Base) (history : History) (number : ℕ)
    → base.faults + fault_count history ≤ faults → base.faults + fault_count (history ++ entry number (Fault asked) ∷ []) ≤ later
counts-fault faults later asked rise base history number before = omega (arith, before, rise, fault-more history number asked)

-- tops that the history keeps, after a change or a fault, after a flush, and after one that failed
pub keeps-before : (act : Act) → keeps act ≡ false → (base : Base) (history : History) (number : ℕ) (tops : List Stand) → All (KeptStand base history) tops
    → All (KeptStand base (history ++ entry number act ∷ [])) (as_before (stand (now base history)) tops)
keeps-before act is base history number tops kept = kept-more base history tops number act is kept

pub keeps-flushed : (base : Base) (history : History) (number : ℕ) (tops : List Stand) → All (KeptStand base history) tops
    → All (KeptStand base (history ++ entry number Flush ∷ [])) (just_this (stand (now base history)) tops)
keeps-flushed base history number tops kept =
    kept-one base (history ++ entry number Flush ∷ []) (stand (now base history)) (ap stand (sym (now-entry base history number Flush)))

pub keeps-unflushed : (asked : Asked) (base : Base) (history : History) (number : ℕ) (tops : List Stand) → All (KeptStand base history) tops
    → All (KeptStand base (history ++ entry number (Fault asked) ∷ [])) (this_too (stand (now base history)) tops)
keeps-unflushed asked base history number tops kept =
    let h : History = history ++ entry number (Fault asked) ∷ [] in
    kept-too base h (stand (now base history)) tops (ap stand (sym (now-entry base history number (Fault asked)))) (kept-more base history tops number (Fault asked) refl kept)

-- whole sectors of an extent within the image may be written
pub within-write : (n at count : ℕ) (bytes : List ℕ) → length bytes ≡ 512 * count → at + count ≤ n → IsWithin n at bytes
within-write n at count bytes size within = record { whole = omega (arith, size); within = omega (arith, size, within) }

-- calls that change nothing, as a call on a top
pub quiet-goes : (tells : Bool) (old new : DiskState) (top : Top) → KnowsNow old → ((files : Files) → Leaves old files → old.left_at old.moment files)
    → Quiet old new → TopGoes tells old new top top unchanged as_before
quiet-goes tells old new top now_at at_now quiet = record {
  epoch = refl;
  sectors = refl;
  sequence = omega arith;
  fits = λ n asked s may fits. fits_quiet tells old new n asked top s may quiet fits;
  any_moment = λ n asked s may fits.
      by_quiet (TopFiles (epoch_of top)) old old new (λ (u : Unit {0}) (files : Files). ShowsOne (epoch_of top) n asked (s ∷ may) files)
      (going_started tells old n asked (view_of top) s may now_at fits) quiet at_now;
}

-- a read of the disk, which changes nothing, that is noted, that failed, and that was refused
module _ {D : Type 0} (kind : Ghosts D) (image : Image D) (disk : D) (now_at : KnowsNow (kind.state image.disk))
    (at_now : (files : Files) → Leaves (kind.state image.disk) files → (kind.state image.disk).left_at (kind.state image.disk).moment files)
    (quiet : Quiet (kind.state image.disk) (kind.state disk)) (rise : kind.faults image.disk ≤ kind.faults disk) where
  abbrev as_top : TopGoes kind.tells (kind.state image.disk) (kind.state disk) image.parts.top image.parts.top unchanged as_before
  as_top = quiet-goes kind.tells (kind.state image.disk) (kind.state disk) image.parts.top now_at at_now quiet

  pub reads-noted : (at count : ℕ) → at + count ≤ (parts_view image.parts).sectors
      → Goes (seen kind image) (with_disk kind disk (record image.parts { steps = image.parts.steps + 1 })) (Some (Read at count))
  reads-noted at count within =
      goes-noted (seen kind image) (with_disk kind disk (record image.parts { steps = image.parts.steps + 1 })) unchanged as_before (Read at count)
      (record { manifest = refl; stack = refl }) refl refl as_top refl (λ b. refl) (λ b is. omega (arith, is, within))
      (counts-clean (kind.faults image.disk) (kind.faults disk) (Read at count) refl rise) (keeps-before (Read at count) refl)

  pub reads-failed : kind.faults image.disk < kind.faults disk
      → Goes (seen kind image) (with_disk kind disk (record image.parts { steps = image.parts.steps + 1 })) (Some (Fault Nothing))
  reads-failed rose =
      goes-noted (seen kind image) (with_disk kind disk (record image.parts { steps = image.parts.steps + 1 })) unchanged as_before (Fault Nothing)
      (record { manifest = refl; stack = refl }) refl refl as_top refl (λ b. refl) (λ b is. tt)
      (counts-fault (kind.faults image.disk) (kind.faults disk) Nothing (omega (arith, rose))) (keeps-before (Fault Nothing) refl)

  pub reads-refused : Goes (seen kind image) (with_disk kind disk image.parts) None
  reads-refused = goes-refused (seen kind image) (with_disk kind disk image.parts) (record { manifest = refl; stack = refl }) refl refl refl rise as_top

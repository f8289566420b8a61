-- The command that commits an image, and the one that sweeps it.
use Rattle.std.proofs.Common.{◌≡◌, ℕ, ◌<◌, ◌≤◌, IsTrue, List, [], ◌++◌, length, refl, sym, ap, ◌∙◌, subst, arith, inl, inr}
use Rattle.std.proofs.lemmas.List.{length-map}
use Rattle.std.specs.Prelude.{Option, Contains, Result, Ok, Err, OnOk, OnErr, IfErr}
use Rattle.std.specs.Result.{IsErrOf}
use Rattle.std.specs.Io.KnownBytes.{Appends, Keeps}
use Rattle.std.proofs.KnownBytes.{Keeps-refl}
use Rattle.byte_ports.specs.Ports.{AppendsFront}
use Rattle.byte_ports.proofs.Chains.{AppendsFront-none}
use Rattle.block_disk.specs.DiskState.{Leaves}
use Rattle.block_disk.specs.Claims.{Quiet}
use Rattle.top_writer.proofs.QuietLaws.{quiet_joined}
use Rattle.flat_image.specs.declared.act.Asked.TheVariants.{Nothing}
use Rattle.flat_image.specs.declared.base.Base.{Base}
use Rattle.flat_image.specs.Base.{pending_of}
use Rattle.flat_image.specs.Entries.{StartsWith}
use Rattle.flat_image.specs.History.{History}
use Rattle.flat_image.specs.LayerReading.{uuid_in}
use Rattle.image_core.specs.Growing.{pending_in}
use Rattle.image_core.specs.Parts.{parts_view}
use Rattle.image_core.specs.Seen.{Seen, StandsFor}
use Rattle.image_core.specs.Sweeping.{AreEmptied}
use Rattle.tool_setup.specs.declared.command.Command.TheVariants.{Commit, Sweep}
use Rattle.layer_commands.specs.declared.refusal.Refusal.{Refusal}
use Rattle.layer_commands.specs.declared.refusal.Refusal.TheVariants as refused
use Rattle.layer_commands.specs.Ports.{Ports}
use Rattle.image_commands.specs.ImageReports.{committed_line, swept_line}
use Rattle.image_commands.specs.Images.{DiskPort, Began, Does, IsBegun, IsFound, IsFree, IsPrinted, LiesOver, MayAsk, Opens, commit_acts, committed_size, entries}
use Rattle.image_commands.specs.ImageCauses.{ImageCause}
use Rattle.image_commands.specs.ImageSteps.{port_of, Adds, AddsFront, CommitCause, CommitTold, SaysCommit, SweepTold, TellsCommit, fault, fault_of}
use Rattle.image_commands.proofs.CommitSteps.{pending-now, uuids-now, committed-now}
use Rattle.image_commands.proofs.WithoutReads.{shows-none, shows-committed}
use Rattle.image_commands.proofs.TellLaws.{acts-do, acts-began, none-begun, all-begun, fault-begun}

-- the commit was refused, and nothing was written
pub commit-refused : (uuid : List ℕ) (old new : Seen) (sink : ℕ) (written : Option (List ℕ)) (refusal : Refusal) → CommitCause uuid old new refusal
    → CommitTold uuid old new sink sink written written refusal
commit-refused uuid old new sink written refused.DiskFault cause = (cause, Keeps-refl written)
commit-refused uuid old new sink written refused.Memory cause = (cause, Keeps-refl written)
commit-refused uuid old new sink written refused.TooManyLayers cause = (cause, Keeps-refl written)
commit-refused uuid old new sink written refused.UuidTwice cause = (cause, Keeps-refl written)
commit-refused uuid old new sink written (refused.Busy other) cause = (cause, Keeps-refl written)
commit-refused uuid old new sink written other cause = absurd cause

-- its line was not written whole
pub commit-cut : {T : Type 0} (r : Result T Refusal) (uuid text : List ℕ) (old new : Seen) (sink sink_now : ℕ) (written written_now : Option (List ℕ)) → IsFree uuid (pending_in (parts_view old.parts))
    → Adds (entries (commit_acts uuid (pending_in (parts_view old.parts)))) old new → SaysCommit uuid old text
    → IfErr r (λ refusal. refusal ≡ refused.SinkFault) → (IsErrOf r refused.SinkFault → sink < sink_now) → OnErr r (AppendsFront written written_now text)
    → IfErr r (CommitTold uuid old new sink sink_now written written_now)
commit-cut (Ok value) uuid text old new sink sink_now written written_now free adds says is rose front = tt
commit-cut (Err refusal) uuid text old new sink sink_now written written_now free adds says is rose front =
    subst (λ (x : Refusal). CommitTold uuid old new sink sink_now written written_now x) (sym is) (free, rose (ap Err is), adds, (text, says, front))

pub commit-said : {T : Type 0} (r : Result T Refusal) (uuid text : List ℕ) (old : Seen) (written written_now : Option (List ℕ)) → SaysCommit uuid old text → OnOk r (Appends written written_now text)
    → OnOk r (TellsCommit uuid old written written_now)
commit-said (Ok value) uuid text old written written_now says sent = (text, says, sent)
commit-said (Err refusal) uuid text old written written_now says sent = tt

-- what it comes to for the command
module _ (uuid : List ℕ) (before now : Ports) (disk : DiskPort) (old new : Seen) (base : Base) (told_same : IsTrue disk.tells → IsTrue old.tells)
    (over : LiesOver before.files before.count base) (found : IsFound disk base) (stands : StandsFor old base []) where
  held : pending_in (parts_view old.parts) ≡ pending_of base.frozen
  held = pending-now old base [] stands

  opens : IsFree uuid (pending_in (parts_view old.parts)) → Opens (Commit uuid) before disk [] base
  opens free = record { takes = refl; over = over; starts = (found, subst (λ (o : Option (List ℕ)). IsFree uuid o) held free) }

  printed : (text : List ℕ) → SaysCommit uuid old text → IsPrinted (Commit uuid) before disk [] base text
  printed text (size, is, sized) =
      (size, is ∙ ap (λ (n : ℕ). committed_line uuid n size) (committed-now old base [] stands), λ tells. sized base stands (told_same tells))

  -- the line, whatever was written
  abbrev whole_line : List ℕ
  whole_line = committed_line uuid (length base.done) (committed_size uuid base)

  whole-printed : IsPrinted (Commit uuid) before disk [] base whole_line
  whole-printed = (committed_size uuid base, refl, λ tells. refl)

  all-added : Adds (entries (commit_acts uuid (pending_in (parts_view old.parts)))) old new → Adds (entries (commit_acts uuid (pending_of base.frozen))) old new
  all-added adds = subst (λ (o : Option (List ℕ)). Adds (entries (commit_acts uuid o)) old new) held adds

  pub commit-done : (r : Result (Unit {0}) Refusal) → (IsTrue new.tells → Leaves new.state new.state.seen) → OnOk r (IsFree uuid (pending_in (parts_view old.parts)))
      → OnOk r (Adds (entries (commit_acts uuid (pending_in (parts_view old.parts)))) old new) → OnOk r (TellsCommit uuid old before.written now.written)
      → OnOk r (Does (Commit uuid) before now disk (port_of new))
  commit-done (Ok value) stay free adds (text, says, sent) =
      acts-do (Commit uuid) [] text (commit_acts uuid (pending_of base.frozen)) before now disk old new base refl (opens free) (omega arith) stands (printed text says)
      (λ files. shows-committed base uuid (pending_of base.frozen) files) stay tt (all-added adds) sent
  commit-done (Err refusal) stay free adds told = tt

  abbrev began : (free : IsFree uuid (pending_in (parts_view old.parts))) (history : History) → IsBegun (entries (commit_acts uuid (pending_of base.frozen))) (MayAsk (Commit uuid)) disk.faults new.faults history
      → Adds history old new → Keeps before.written now.written → Began (Commit uuid) before now disk (port_of new)
  began free history begun adds keeps =
      acts-began (Commit uuid) [] whole_line (commit_acts uuid (pending_of base.frozen)) before now disk old new base refl (opens free) (omega arith) stands whole-printed history begun adds
      (AppendsFront-none before.written now.written whole_line keeps)

  front-began : IsFree uuid (pending_in (parts_view old.parts)) → disk.faults < new.faults → AddsFront (entries (commit_acts uuid (pending_in (parts_view old.parts)))) (MayAsk (Commit uuid)) old new
      → Keeps before.written now.written → Began (Commit uuid) before now disk (port_of new)
  front-began free rose (front, starts, how) keeps =
      let here : StartsWith (entries (commit_acts uuid (pending_of base.frozen))) front = subst (λ (o : Option (List ℕ)). StartsWith (entries (commit_acts uuid o)) front) held starts in
      elim how [
        | inl adds ↦ began free front (record { front = front; starts = here; is = inl refl }) adds keeps
        | inr failed ↦ began free (front ++ fault_of failed.0) (record { front = front; starts = here; is = inr (rose, (failed.0, failed.1, refl)) }) failed.2 keeps
      ]

  refused-cause : (sink : ℕ) → Quiet disk.state old.state → disk.faults ≤ old.faults → before.sink_faults ≤ sink → (refusal : Refusal)
      → CommitTold uuid old new sink now.sink_faults before.written now.written refusal → ImageCause (Commit uuid) before now disk (port_of new) refusal
  unfolding acts-began
  refused-cause sink quiet later sink_later refused.Memory ((free, adds), keeps) = (
    tt,
    inr (record {
      opened = λ (asked, is). cc;
      began = began free [] (record { front = []; starts = record { rest = entries (commit_acts uuid (pending_of base.frozen)); is = refl }; is = inl refl }) adds keeps;
      none = refl;
      silent = inr keeps;
    }),
  )
  refused-cause sink quiet later sink_later refused.DiskFault ((free, failed, how), keeps) =
      let rose : disk.faults < new.faults = omega (arith, later, failed) in
      record {
        rose = rose;
        fed = ([], refl);
        stacked = over.stacked;
        size = λ asked is. absurd (cc);
        silent = inr keeps;
        stands = inr (inr (front-began free rose how keeps));
      }
  refused-cause sink quiet later sink_later (refused.Busy other) (cause, keeps) = (
    record { stops = cause.1; base = base; over = over; found = found; pending = sym held ∙ cause.0 },
    record { sink = keeps; same = quiet_joined disk.state old.state new.state quiet cause.2.same },
  )
  refused-cause sink quiet later sink_later refused.TooManyLayers (cause, keeps) = (
    record {
      uuid = uuid;
      commits = refl;
      base = base;
      opens = opens (inl cause.0);
      free = sym held ∙ cause.0;
      many = let same = ap (λ (l : List (List ℕ)). length l) (uuids-now old base [] stands) in let long = length-map (base.lowers ++ base.done) uuid_in in let many = cause.1 in omega (arith, same, long, many);
    },
    record { sink = keeps; same = quiet_joined disk.state old.state new.state quiet cause.2.same },
  )
  refused-cause sink quiet later sink_later refused.UuidTwice (cause, keeps) = (
    record {
      uuid = uuid;
      commits = refl;
      base = base;
      opens = opens (inl cause.0);
      free = sym held ∙ cause.0;
      few = let same = ap (λ (l : List (List ℕ)). length l) (uuids-now old base [] stands) in let long = length-map (base.lowers ++ base.done) uuid_in in let few = cause.1 in omega (arith, same, long, few);
      twice = subst (λ (l : List (List ℕ)). Contains l uuid) (uuids-now old base [] stands) cause.2;
    },
    record { sink = keeps; same = quiet_joined disk.state old.state new.state quiet cause.3.same },
  )
  refused-cause sink quiet later sink_later refused.SinkFault (free, rose, adds, (text, says, front)) = (
    omega (arith, sink_later, rose),
    record {
      began = acts-began (Commit uuid) [] text (commit_acts uuid (pending_of base.frozen)) before now disk old new base refl (opens free) (omega arith) stands (printed text says)
          (entries (commit_acts uuid (pending_of base.frozen)))
          (all-begun (Commit uuid) [] text (commit_acts uuid (pending_of base.frozen)) before now disk old new base refl (opens free) (omega arith) stands (printed text says)) (all-added adds) front;
      all = refl;
    },
  )
  refused-cause sink quiet later sink_later other cause = absurd cause.0

  pub commit-failed : (r : Result (Unit {0}) Refusal) (sink : ℕ) → Quiet disk.state old.state → disk.faults ≤ old.faults → before.sink_faults ≤ sink
      → IfErr r (CommitTold uuid old new sink now.sink_faults before.written now.written) → IfErr r (ImageCause (Commit uuid) before now disk (port_of new))
  commit-failed (Ok value) sink quiet later sink_later cause = tt
  commit-failed (Err refusal) sink quiet later sink_later cause = refused-cause sink quiet later sink_later refusal cause

-- ---- a sweep

-- its line was not written whole
pub sweep-cut : {T : Type 0} (r : Result T Refusal) (old new : Seen) (sink sink_now : ℕ) (written written_now : Option (List ℕ)) → Adds [] old new
    → IfErr r (λ refusal. refusal ≡ refused.SinkFault) → (IsErrOf r refused.SinkFault → sink < sink_now) → OnErr r (AppendsFront written written_now (swept_line (length (parts_view old.parts).committed)))
    → IfErr r (SweepTold old new sink sink_now written written_now)
sweep-cut (Ok value) old new sink sink_now written written_now adds is rose front = tt
sweep-cut (Err refusal) old new sink sink_now written written_now adds is rose front =
    subst (λ (x : Refusal). SweepTold old new sink sink_now written written_now x) (sym is) (rose (ap Err is), adds, front)

module _ (before now : Ports) (disk : DiskPort) (old new : Seen) (base : Base) (opens : Opens Sweep before disk [] base) (stands : StandsFor old base []) where
  abbrev line : List ℕ
  line = swept_line (length (parts_view old.parts).committed)

  line-is : line ≡ swept_line (length base.done)
  line-is = ap (λ (n : ℕ). swept_line n) (committed-now old base [] stands)

  pub sweep-done : (r : Result (Unit {0}) Refusal) → (IsTrue new.tells → Leaves new.state new.state.seen) → OnOk r (Adds [] old new)
      → OnOk r (IsTrue new.tells → AreEmptied new.state.seen (length (parts_view old.parts).committed)) → OnOk r (Appends before.written now.written line)
      → OnOk r (Does Sweep before now disk (port_of new))
  sweep-done (Ok value) stay adds emptied sent =
      acts-do Sweep [] line [] before now disk old new base refl opens (omega arith) stands line-is (λ files. shows-none base files) stay
      (λ tells. subst (λ (n : ℕ). AreEmptied new.state.seen n) (committed-now old base [] stands) (emptied tells)) adds sent
  sweep-done (Err refusal) stay adds emptied sent = tt

  sweep-cause : (sink : ℕ) → disk.faults ≤ old.faults → before.sink_faults ≤ sink → (refusal : Refusal)
      → SweepTold old new sink now.sink_faults before.written now.written refusal → ImageCause Sweep before now disk (port_of new) refusal
  unfolding acts-began
  sweep-cause sink later sink_later refused.DiskFault (failed, adds, keeps) =
      let rose : disk.faults < new.faults = omega (arith, later, failed) in
      record {
        rose = rose;
        fed = ([], opens.takes);
        stacked = opens.over.stacked;
        size = λ asked is. absurd (cc);
        silent = inr keeps;
        stands = inr (inr (
            acts-began Sweep [] line [] before now disk old new base refl opens (omega arith) stands line-is fault
            (fault-begun Sweep [] line [] before now disk old new base refl opens (omega arith) stands line-is Nothing refl [] (record { rest = []; is = refl }) rose) adds
            (AppendsFront-none before.written now.written line keeps)));
      }
  sweep-cause sink later sink_later refused.SinkFault (rose, adds, front) = (
    omega (arith, sink_later, rose),
    record {
      began = acts-began Sweep [] line [] before now disk old new base refl opens (omega arith) stands line-is []
          (none-begun Sweep [] line [] before now disk old new base refl opens (omega arith) stands line-is) adds front;
      all = refl;
    },
  )
  sweep-cause sink later sink_later other cause = absurd cause

  pub sweep-failed : (r : Result (Unit {0}) Refusal) (sink : ℕ) → disk.faults ≤ old.faults → before.sink_faults ≤ sink
      → IfErr r (SweepTold old new sink now.sink_faults before.written now.written) → IfErr r (ImageCause Sweep before now disk (port_of new))
  sweep-failed (Ok value) sink later sink_later cause = tt
  sweep-failed (Err refusal) sink later sink_later cause = sweep-cause sink later sink_later refusal cause

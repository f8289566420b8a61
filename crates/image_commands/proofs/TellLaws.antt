-- The commands that change an image.
use Rattle.std.proofs.Common.{◌≡◌, ℕ, ◌+◌, ◌<◌, ◌≤◌, IsTrue, List, [], ◌++◌, refl, sym, ap, ◌∙◌, subst, arith, inl, inr, append-nil}
use Rattle.std.specs.Prelude.{Option, Result, Ok, Err, OnOk, OnErr, IfErr}
use Rattle.std.specs.Result.{IsErrOf}
use Rattle.std.specs.Io.KnownBytes.{Appends}
use Rattle.std.proofs.KnownBytes.{Keeps-refl}
use Rattle.byte_ports.specs.Ports.{AppendsFront}
use Rattle.byte_ports.proofs.Chains.{AppendsFront-none}
use Rattle.block_disk.specs.DiskState.{Files, Leaves}
use Rattle.flat_image.specs.declared.act.Act.{Act}
use Rattle.flat_image.specs.declared.base.Base.{Base}
use Rattle.flat_image.specs.Base.{pending_of}
use Rattle.flat_image.specs.Entries.{StartsWith}
use Rattle.flat_image.specs.History as history
use Rattle.flat_image.specs.History.{History, kept, IsOver, rows_taken, sectors_taken}
use Rattle.flat_image.specs.declared.act.Asked.{Asked}
use Rattle.flat_image.specs.declared.act.Asked.TheVariants.{Nothing}
use Rattle.image_core.specs.Shows.{Shows}
use Rattle.image_core.specs.Standing.{ShowsLeft}
use Rattle.tool_setup.specs.declared.command.Command.{Command}
use Rattle.tool_setup.specs.declared.command.Command.TheVariants.{Create}
use Rattle.layer_commands.specs.declared.refusal.Refusal.{Refusal}
use Rattle.layer_commands.specs.declared.refusal.Refusal.TheVariants as refused
use Rattle.layer_commands.specs.Ports.{Ports}
use Rattle.image_core.specs.Seen.{Seen, StandsFor}
use Rattle.image_commands.specs.Images.{DiskPort, Opens, IsPrinted, Does, Began, IsBegun, MayAsk, IsSwept, kept_change, entries, acts_of, entries_of, reach_of}
use Rattle.image_commands.specs.ImageCauses.{IsPartFed, ImageCause}
use Rattle.image_commands.specs.ImageSteps.{port_of, Adds, fault, fault_of, ChangeCause, TellCause}
use Rattle.image_commands.proofs.Answered.{ok-both}
use Rattle.image_commands.proofs.WithoutReads.{IsChange, shows-kept}
use Rattle.image_commands.proofs.ImageLaws.{leaves-acts, holds-of, rows-are, filled-is}

-- the change or its flush was refused
pub tell-changed : (change : Act) (line : List ℕ) (old new : Seen) (sink : ℕ) (written : Option (List ℕ)) (refusal : Refusal) → ChangeCause change old new refusal
    → TellCause change line old new sink sink written written refusal
tell-changed change line old new sink written refused.Memory cause = (cause, Keeps-refl written)
tell-changed change line old new sink written refused.DiskFault cause = (cause, Keeps-refl written)
tell-changed change line old new sink written (refused.Full rows sectors) cause = (cause, Keeps-refl written)
tell-changed change line old new sink written other cause = absurd cause

-- the line was not written whole
pub tell-failed : {T : Type 0} (r : Result T Refusal) (change : Act) (line : List ℕ) (old new : Seen) (sink sink_now : ℕ) (written written_now : Option (List ℕ)) → Adds (entries (kept_change change)) old new
    → IfErr r (λ refusal. refusal ≡ refused.SinkFault) → (IsErrOf r refused.SinkFault → sink < sink_now) → OnErr r (AppendsFront written written_now line)
    → IfErr r (TellCause change line old new sink sink_now written written_now)
tell-failed (Ok value) change line old new sink sink_now written written_now adds is rose front = tt
tell-failed (Err refusal) change line old new sink sink_now written written_now adds is rose front =
    subst (λ (x : Refusal). TellCause change line old new sink sink_now written written_now x) (sym is) (rose (ap Err is), adds, front)

-- ---- the acts of a command, and the line that tells of them

module _ (command : Command) (bytes line : List ℕ) (acts : List Act) (before now : Ports) (disk : DiskPort) (old new : Seen) (base : Base)
    (asked : acts_of command bytes (pending_of base.frozen) ≡ acts) (opens : Opens command before disk bytes base) (within : reach_of command bytes ≤ base.sectors)
    (stands : StandsFor old base []) (printed : IsPrinted command before disk bytes base line) where
  pub same-acts : entries acts ≡ entries_of command bytes (pending_of base.frozen)
  same-acts = ap (λ list. entries list) (sym asked)

  pub acts-do : ((files : Files) → ShowsLeft base (entries acts) files → Shows files (history.now base (entries acts))) → (IsTrue new.tells → Leaves new.state new.state.seen)
      → IsSwept command (port_of new) base → Adds (entries acts) old new → Appends before.written now.written line → Does command before now disk (port_of new)
  acts-do shown stay swept adds written = record {
    bytes = bytes;
    base = base;
    opens = opens;
    within = within;
    holds = holds-of (port_of new) (history.now base (entries_of command bytes (pending_of base.frozen))) stay
        (λ files leaves. subst (λ (h : History). Shows files (history.now base h)) same-acts
        (shown files (leaves-acts old base stands new (entries acts) adds files leaves)));
    swept = swept;
    prints = record { text = line; is = printed; written = written };
  }

  unfoldable pub acts-began : (history : History) → IsBegun (entries_of command bytes (pending_of base.frozen)) (MayAsk command) disk.faults new.faults history → Adds history old new
      → AppendsFront before.written now.written line → Began command before now disk (port_of new)
  acts-began history begun adds front = record {
    bytes = bytes;
    base = base;
    opens = opens;
    within = within;
    history = history;
    begun = begun;
    crash = leaves-acts old base stands new history adds;
    prints = record { text = line; is = printed; front = front };
  }

  pub none-begun : IsBegun (entries_of command bytes (pending_of base.frozen)) (MayAsk command) disk.faults new.faults []
  none-begun = record { front = []; starts = record { rest = entries_of command bytes (pending_of base.frozen); is = refl }; is = inl refl }

  pub all-begun : IsBegun (entries_of command bytes (pending_of base.frozen)) (MayAsk command) disk.faults new.faults (entries acts)
  all-begun = record { front = entries acts; starts = record { rest = []; is = sym same-acts ∙ sym (append-nil (entries acts)) }; is = inl refl }

  pub fault-begun : (wanted : Asked) → MayAsk command wanted → (front : History) → StartsWith (entries acts) front → disk.faults < new.faults
      → IsBegun (entries_of command bytes (pending_of base.frozen)) (MayAsk command) disk.faults new.faults (front ++ fault_of wanted)
  fault-begun wanted may front starts rose = record { front = front; starts = subst (λ (h : History). StartsWith h front) same-acts starts; is = inr (rose, (wanted, may, refl)) }

-- ---- a change, and the flush behind it

module _ (command : Command) (bytes line : List ℕ) (change : Act) (before now : Ports) (disk : DiskPort) (old new : Seen) (base : Base)
    (asked : acts_of command bytes (pending_of base.frozen) ≡ kept_change change) (is_change : IsChange change) (all_kept : kept (entries (kept_change change)) ≡ 2) (unnamed : MayAsk command Nothing) (unswept : IsSwept command (port_of new) base)
    (opens : Opens command before disk bytes base) (within : reach_of command bytes ≤ base.sectors) (stands : StandsFor old base [])
    (printed : IsPrinted command before disk bytes base line) (part : IsPartFed command before now) where
  pub change-does : (IsTrue new.tells → Leaves new.state new.state.seen) → Adds (entries (kept_change change)) old new → Appends before.written now.written line
      → Does command before now disk (port_of new)
  change-does stay =
      acts-do command bytes line (kept_change change) before now disk old new base asked opens within stands printed (λ files. shows-kept base change files is_change all_kept) stay unswept

  pub change-began : (history : History) → IsBegun (entries_of command bytes (pending_of base.frozen)) (MayAsk command) disk.faults new.faults history → Adds history old new → AppendsFront before.written now.written line
      → Began command before now disk (port_of new)
  change-began = acts-began command bytes line (kept_change change) before now disk old new base asked opens within stands printed

  not-create : (wanted : Option ℕ) → command ≡ Create wanted → ⊥
  not-create wanted is = let none : [] ≡ kept_change change = sym (ap (λ (c : Command). acts_of c bytes (pending_of base.frozen)) is) ∙ asked in cc

  change-none : IsBegun (entries_of command bytes (pending_of base.frozen)) (MayAsk command) disk.faults new.faults []
  change-none = none-begun command bytes line (kept_change change) before now disk old new base asked opens within stands printed

  change-all : IsBegun (entries_of command bytes (pending_of base.frozen)) (MayAsk command) disk.faults new.faults (entries (kept_change change))
  change-all = all-begun command bytes line (kept_change change) before now disk old new base asked opens within stands printed

  change-fault : (front : History) → StartsWith (entries (kept_change change)) front → disk.faults < new.faults
      → IsBegun (entries_of command bytes (pending_of base.frozen)) (MayAsk command) disk.faults new.faults (front ++ fault)
  change-fault front starts rose =
      fault-begun command bytes line (kept_change change) before now disk old new base asked opens within stands printed Nothing unnamed front starts rose

  same-change : entries (kept_change change) ≡ entries_of command bytes (pending_of base.frozen)
  same-change = same-acts command bytes line (kept_change change) before now disk old new base asked opens within stands printed

  pub change-refused : (sink : ℕ) → disk.faults ≤ old.faults → before.sink_faults ≤ sink → (refusal : Refusal)
      → TellCause change line old new sink now.sink_faults before.written now.written refusal → ImageCause command before now disk (port_of new) refusal
  unfolding change-began acts-began
  change-refused sink later sink_later refused.Memory (adds, keeps) = (
    part,
    inr (record {
      opened = λ (wanted, is). not-create wanted is;
      began = change-began [] change-none adds (AppendsFront-none before.written now.written line keeps);
      none = refl;
      silent = inr keeps;
    }),
  )
  change-refused sink later sink_later refused.DiskFault (cause, keeps) =
      let rose : disk.faults < new.faults = omega (arith, later, cause.0) in
      record {
        rose = rose;
        fed = (bytes, opens.takes);
        stacked = opens.over.stacked;
        size = λ wanted is. absurd (not-create wanted is);
        silent = inr keeps;
        stands = inr (inr (change-began (cause.1.0 ++ fault) (change-fault cause.1.0 cause.1.1 rose) cause.1.2 (AppendsFront-none before.written now.written line keeps)));
      }
  change-refused sink later sink_later (refused.Full rows sectors) (cause, keeps) =
      let r : rows ≡ base.rows = cause.rows_are ∙ rows-are old base stands in
      let n : sectors ≡ base.filled = cause.sectors_are ∙ filled-is old base stands in (
        record {
          bytes = bytes;
          base = base;
          opens = opens;
          within = within;
          change = change;
          asked = asked;
          rows_are = r;
          sectors_are = n;
          over = subst (λ (a : ℕ). IsOver (a + rows_taken change) (base.filled + sectors_taken change)) r
              (subst (λ (b : ℕ). IsOver (rows + rows_taken change) (b + sectors_taken change)) n cause.over);
          crash = leaves-acts old base stands new [] cause.adds;
        },
        keeps,
      )
  change-refused sink later sink_later refused.SinkFault (rose, adds, front) =
      (omega (arith, sink_later, rose), record { began = change-began (entries (kept_change change)) change-all adds front; all = same-change })
  change-refused sink later sink_later other cause = absurd cause

  pub change-done : (r : Result (Unit {0}) Refusal) → (IsTrue new.tells → Leaves new.state new.state.seen) → OnOk r (Adds (entries (kept_change change)) old new)
      → OnOk r (Appends before.written now.written line) → OnOk r (Does command before now disk (port_of new))
  change-done r stay adds written =
      ok-both r (Adds (entries (kept_change change)) old new) (Appends before.written now.written line) (Does command before now disk (port_of new)) (change-does stay) adds written

  pub change-failed : (r : Result (Unit {0}) Refusal) (sink : ℕ) → disk.faults ≤ old.faults → before.sink_faults ≤ sink
      → IfErr r (TellCause change line old new sink now.sink_faults before.written now.written) → IfErr r (ImageCause command before now disk (port_of new))
  change-failed (Ok value) sink later sink_later cause = tt
  change-failed (Err refusal) sink later sink_later cause = change-refused sink later sink_later refusal cause

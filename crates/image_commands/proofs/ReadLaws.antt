-- The command that reads sectors of an image.
use Rattle.std.proofs.Common.{◌≡◌, ℕ, ◌+◌, ◌-◌, ◌*◌, ◌<◌, ◌≤◌, IsTrue, List, [], ◌++◌, length, refl, sym, ap, ◌∙◌, arith, inl, inr, length-append}
use Rattle.std.specs.Prelude.{Result, OnOk, OnErr, IfErr}
use Rattle.byte_ports.proofs.Chains.{AppendsFront-more}
use Rattle.block_disk.specs.DiskState.{Leaves}
use Rattle.flat_image.specs.declared.act.Asked.TheVariants.{Nothing}
use Rattle.flat_image.specs.declared.base.Base.{Base}
use Rattle.flat_image.specs.History.{History, reply}
use Rattle.tool_setup.specs.declared.command.Command.TheVariants.{Read}
use Rattle.layer_commands.specs.declared.refusal.Refusal.{Refusal}
use Rattle.layer_commands.specs.declared.refusal.Refusal.TheVariants as refused
use Rattle.layer_commands.specs.Ports.{Ports}
use Rattle.image_core.specs.Seen.{Seen, StandsFor}
use Rattle.image_commands.specs.Images.{DiskPort, Opens, PrintsFront, Does, Began, IsBegun, MayAsk}
use Rattle.image_commands.specs.ImageCauses.{OpenedOnly, ImageCause}
use Rattle.image_commands.specs.ImageSteps.{port_of, Adds, fault, WritesSectors, WritesFront, ReadCause}
use Rattle.image_commands.proofs.Answered.{ok-both, err-both}
use Rattle.layer_commands.proofs.Pieces.{IfSome-at, IfSome-each}
use Rattle.image_commands.proofs.WithoutReads.{shows-none}
use Rattle.image_commands.proofs.CopyLaws.{reply-split}
use Rattle.image_commands.proofs.ImageLaws.{length-reply, leaves-acts, sectors-are, holds-of}

module _ (at count : ℕ) (before now : Ports) (disk : DiskPort) (old new : Seen) (base : Base) (told_same : IsTrue disk.tells → IsTrue old.tells)
    (opens : Opens (Read at count) before disk [] base) (within : at + count ≤ base.sectors) (stands : StandsFor old base []) where
  pub read-does : (IsTrue new.tells → Leaves new.state new.state.seen) → Adds [] old new → WritesSectors old before.files at count before.written now.written
      → Does (Read at count) before now disk (port_of new)
  read-does stay adds writes = record {
    bytes = [];
    base = base;
    opens = opens;
    within = within;
    holds = holds-of (port_of new) base stay (λ files leaves. shows-none base files (leaves-acts old base stands new [] adds files leaves));
    swept = tt;
    prints = record {
      text = writes.bytes;
      is = (writes.sectors.long, λ tells. sectors-are old base stands before.files before.count at count writes.bytes opens.over writes.sectors (told_same tells));
      written = writes.written;
    };
  }

  -- a front of the sectors is one of all that is printed
  pub read-front : WritesFront old before.files at count before.written now.written → PrintsFront (Read at count) before now disk [] base
  read-front front =
      let part : ℕ = front.part in
      let rest : List ℕ = reply base [] (at + part) (count - part) in
      let less : part ≤ count = front.within in
      let long : length rest ≡ 512 * (count - part) = length-reply old base stands (at + part) (count - part) (omega (arith, within, less)) in
      let first : length front.bytes ≡ 512 * part = front.sectors.long in
      let whole : part + (count - part) ≡ count = omega (arith, less) in
      record {
        text = front.bytes ++ rest;
        is = (
          omega (arith, length-append front.bytes rest, first, long, less),
          λ tells. IfSome-each before.files (λ files e.
              ap (λ (l : List ℕ). l ++ rest) (IfSome-at before.files (λ files. front.bytes ≡ reply base [] at part) files e
              (sectors-are old base stands before.files before.count at part front.bytes opens.over front.sectors (told_same tells)))
              ∙ sym (reply-split base [] at part (count - part)) ∙ ap (λ n. reply base [] at n) whole),
        );
        front = AppendsFront-more before.written now.written front.bytes rest front.front;
      }

  pub read-began : (history : History) → IsBegun [] (MayAsk (Read at count)) disk.faults new.faults history → Adds history old new → WritesFront old before.files at count before.written now.written
      → Began (Read at count) before now disk (port_of new)
  read-began history begun adds front = record {
    bytes = [];
    base = base;
    opens = opens;
    within = within;
    history = history;
    begun = begun;
    crash = leaves-acts old base stands new history adds;
    prints = read-front front;
  }

  none-begun : IsBegun [] (MayAsk (Read at count)) disk.faults new.faults []
  none-begun = record { front = []; starts = record { rest = []; is = refl }; is = inl refl }

  fault-begun : disk.faults < new.faults → IsBegun [] (MayAsk (Read at count)) disk.faults new.faults fault
  fault-begun rose = record { front = []; starts = record { rest = []; is = refl }; is = inr (rose, (Nothing, refl, refl)) }

  opened-only : Adds [] old new → WritesFront old before.files at count before.written now.written → OpenedOnly (Read at count) before now disk (port_of new)
  unfolding read-began
  opened-only adds front = record {
    opened = λ (asked, is). cc;
    began = read-began [] none-begun adds front;
    none = refl;
    silent = inl (at, count, refl);
  }

  pub read-refused : (shelf sink : ℕ) → disk.faults ≤ old.faults → before.shelf_faults ≤ shelf → before.sink_faults ≤ sink → WritesFront old before.files at count before.written now.written
      → (refusal : Refusal) → ReadCause old new shelf now.shelf_faults sink now.sink_faults refusal → ImageCause (Read at count) before now disk (port_of new) refusal
  unfolding read-began
  read-refused shelf sink later shelf_later sink_later front refused.Memory cause = (tt, inr (opened-only cause front))
  read-refused shelf sink later shelf_later sink_later front refused.DiskFault cause =
      let rose : disk.faults < new.faults = omega (arith, later, cause.0) in
      record {
        rose = rose;
        fed = ([], opens.takes);
        stacked = opens.over.stacked;
        size = λ asked is. absurd (cc);
        silent = inl (at, count, refl);
        stands = inr (inr (read-began fault (fault-begun rose) cause.1 front));
      }
  read-refused shelf sink later shelf_later sink_later front refused.ShelfFault cause =
      (omega (arith, shelf_later, cause.0), ([], opens.takes), inr ((at, count, refl), opened-only cause.1 front))
  read-refused shelf sink later shelf_later sink_later front refused.SinkFault cause =
      (omega (arith, sink_later, cause.0), record { began = read-began [] none-begun cause.1 front; all = refl })
  read-refused shelf sink later shelf_later sink_later front other cause = absurd cause

  pub read-done : (r : Result (Unit {0}) Refusal) → (IsTrue new.tells → Leaves new.state new.state.seen) → OnOk r (Adds [] old new)
      → OnOk r (WritesSectors old before.files at count before.written now.written) → OnOk r (Does (Read at count) before now disk (port_of new))
  read-done r stay adds writes =
      ok-both r (Adds [] old new) (WritesSectors old before.files at count before.written now.written) (Does (Read at count) before now disk (port_of new)) (read-does stay) adds writes

  pub read-failed : (r : Result (Unit {0}) Refusal) (shelf sink : ℕ) → disk.faults ≤ old.faults → before.shelf_faults ≤ shelf → before.sink_faults ≤ sink
      → OnErr r (WritesFront old before.files at count before.written now.written) → IfErr r (ReadCause old new shelf now.shelf_faults sink now.sink_faults)
      → IfErr r (ImageCause (Read at count) before now disk (port_of new))
  read-failed r shelf sink later shelf_later sink_later front cause =
      err-both r (WritesFront old before.files at count before.written now.written) (ReadCause old new shelf now.shelf_faults sink now.sink_faults) (ImageCause (Read at count) before now disk (port_of new))
      (λ refusal f is. read-refused shelf sink later shelf_later sink_later f refusal is) front cause

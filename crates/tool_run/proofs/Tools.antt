-- Statuses, and what a run says that was refused or not.
use Rattle.std.proofs.Common.{◌≡◌, ℕ, length, refl, sym, ap, ◌∙◌, subst, arith, inl, inr}
use Rattle.std.specs.Prelude.{Option, Some, None, IfSome, ◌⊎◌, Result, Ok, Err, IfErr}
use Rattle.std.specs.Result.{IsErrOf}
use Rattle.tool_setup.specs.declared.command.Command.{Command}
use Rattle.tool_setup.specs.declared.command.Command.TheVariants.{Flatten, Info, Stack, Create, Grow, Read, Write, Zero, Commit, Sweep, Make, Export}
use Rattle.layer_commands.specs.declared.refusal.Refusal.{Refusal}
use Rattle.layer_commands.specs.declared.refusal.Refusal.TheVariants as refused
use Rattle.layer_commands.specs.Texts.{code_of}
use Rattle.layer_commands.specs.Ports.{Ports}
use Rattle.layer_commands.specs.Prints.{read_by}
use Rattle.layer_commands.specs.Causes.{AreCharged}
use Rattle.layer_commands.proofs.Pieces.{IfSome-each}
use Rattle.layer_commands.proofs.Charged.{charges_as}
use Rattle.layer_commands.proofs.Refusals.{only_memory}
use Rattle.image_commands.specs.declared.refusal.ImageRefusal.{ImageRefusal}
use Rattle.image_commands.specs.declared.refusal.ImageRefusal.TheVariants.{Load, Other}
use Rattle.image_commands.specs.ImageTexts.{image_code}
use Rattle.image_commands.specs.Images.{DiskPort}
use Rattle.image_commands.proofs.ClearLaws.{clear-command}
use Rattle.tool_run.specs.Runs.{CanMake, Fails, IsComplete, IsUnhindered, MakeRefused, PrintFails, WordsFail}

-- ---- statuses

pub code_two : (refusal : ImageRefusal) → image_code refusal ≡ 2 → refusal ≡ Other refused.Usage
code_two (Other refused.Usage) e = refl
code_two (Other other) e = absurd (omega (arith, e))
code_two (Load fault) e = absurd (omega (arith, e))

-- no command is refused as a faulty command line
not-usage : (command : Command) (before now : Ports) (disk disk_now : DiskPort) → Fails command before now disk disk_now (Other refused.Usage) → ⊥
not-usage (Create sectors) before now disk disk_now cause = cause
not-usage (Read at count) before now disk disk_now cause = cause
not-usage (Write at) before now disk disk_now cause = cause
not-usage (Zero at count) before now disk disk_now cause = cause
not-usage (Flatten stdin) before now disk disk_now cause = cause.0
not-usage (Info number) before now disk disk_now cause = cause.0
not-usage Stack before now disk disk_now cause = cause.0
not-usage (Grow sectors) before now disk disk_now cause = cause
not-usage (Commit uuid) before now disk disk_now cause = cause
not-usage Sweep before now disk disk_now cause = cause
not-usage (Make seed acts) before now disk disk_now cause = cause
not-usage (Export connections) before now disk disk_now cause = cause

pub usage-only : (command : Option Command) (before now : Ports) (disk disk_now : DiskPort) (told : ImageRefusal) → WordsFail command before now disk disk_now told → (code : ℕ) → code ≡ image_code told
    → (code ≡ 2 → command ≡ None) × (command ≡ None → (code ≡ 2) ⊎ (code ≡ 5))
usage-only None before now disk disk_now told (inl cause) code is = ((λ two. refl), (λ none. inl (is ∙ ap (λ (r : ImageRefusal). image_code r) cause.0)))
usage-only None before now disk disk_now told (inr short) code is = ((λ two. refl), (λ none. inr (is ∙ ap (λ (r : ImageRefusal). image_code r) short.0)))
usage-only (Some command) before now disk disk_now told (inl cause) code is = (
  (λ two. absurd (not-usage command before now disk disk_now (subst (λ (r : ImageRefusal). Fails command before now disk disk_now r) (code_two told (sym is ∙ two)) cause))),
  (λ none. absurd (cc)),
)
usage-only (Some command) before now disk disk_now told (inr short) code is = (
  (λ two. let five : code ≡ 5 = is ∙ ap (λ (r : ImageRefusal). image_code r) short.0 in absurd (omega (arith, two, five))),
  (λ none. absurd (cc)),
)

-- ---- where nothing stands in the way

pub complete_done : (command : Option Command) (before now : Ports) (code : ℕ) → code ≡ 0 → IsComplete command before now code
complete_done None before now code is = tt
complete_done (Some command) before now code is = IfSome-each (read_by command before.left before.files) (λ files e bytes prints calm. inl is)

print-complete : (command : Command) (before now : Ports) (disk disk_now : DiskPort) (told : ImageRefusal) (code : ℕ) → IfSome before.files (λ files. length files ≡ before.count)
    → PrintFails command before now disk disk_now told → AreCharged before now (λ r. told ≡ Other r) → code ≡ image_code told → IsComplete (Some command) before now code
print-complete command before now disk disk_now (Load fault) code counted cause charged is = absurd cause
print-complete command before now disk disk_now (Other told) code counted cause charged is =
    IfSome-each (read_by command before.left before.files) (λ files e bytes prints calm.
    inr (is ∙ ap (λ (r : Refusal). code_of r) (only_memory command before now files bytes e counted prints calm (λ r. Other told ≡ Other r) charged told refl cause.0)))

complete-command : (command : Command) (before now : Ports) (disk disk_now : DiskPort) (told : ImageRefusal) (code : ℕ) → IfSome before.files (λ files. length files ≡ before.count)
    → Fails command before now disk disk_now told → AreCharged before now (λ r. told ≡ Other r) → code ≡ image_code told → IsComplete (Some command) before now code
complete-command (Create sectors) before now disk disk_now told code counted cause charged is = IfSome-each (read_by (Create sectors) before.left before.files) (λ files e bytes prints calm. absurd prints)
complete-command (Read at count) before now disk disk_now told code counted cause charged is = IfSome-each (read_by (Read at count) before.left before.files) (λ files e bytes prints calm. absurd prints)
complete-command (Write at) before now disk disk_now told code counted cause charged is = IfSome-each (read_by (Write at) before.left before.files) (λ files e bytes prints calm. absurd prints)
complete-command (Zero at count) before now disk disk_now told code counted cause charged is = IfSome-each (read_by (Zero at count) before.left before.files) (λ files e bytes prints calm. absurd prints)
complete-command (Grow sectors) before now disk disk_now told code counted cause charged is = IfSome-each (read_by (Grow sectors) before.left before.files) (λ files e bytes prints calm. absurd prints)
complete-command (Commit uuid) before now disk disk_now told code counted cause charged is = IfSome-each (read_by (Commit uuid) before.left before.files) (λ files e bytes prints calm. absurd prints)
complete-command Sweep before now disk disk_now told code counted cause charged is = IfSome-each (read_by Sweep before.left before.files) (λ files e bytes prints calm. absurd prints)
complete-command (Make seed acts) before now disk disk_now told code counted cause charged is = IfSome-each (read_by (Make seed acts) before.left before.files) (λ files e bytes prints calm. absurd prints)
complete-command (Export connections) before now disk disk_now told code counted cause charged is = IfSome-each (read_by (Export connections) before.left before.files) (λ files e bytes prints calm. absurd prints)
complete-command (Flatten stdin) before now disk disk_now told code counted cause charged is = print-complete (Flatten stdin) before now disk disk_now told code counted cause charged is
complete-command (Info number) before now disk disk_now told code counted cause charged is = print-complete (Info number) before now disk disk_now told code counted cause charged is
complete-command Stack before now disk disk_now told code counted cause charged is = print-complete Stack before now disk disk_now told code counted cause charged is

pub complete-refused : (command : Option Command) (before now : Ports) (disk disk_now : DiskPort) (told : ImageRefusal) (code : ℕ) → IfSome before.files (λ files. length files ≡ before.count)
    → WordsFail command before now disk disk_now told → AreCharged before now (λ r. told ≡ Other r) → code ≡ image_code told → IsComplete command before now code
complete-refused None before now disk disk_now told code counted cause charged is = tt
complete-refused (Some command) before now disk disk_now told code counted (inl cause) charged is = complete-command command before now disk disk_now told code counted cause charged is
complete-refused (Some command) before now disk disk_now told code counted (inr short) charged is =
    IfSome-each (read_by command before.left before.files) (λ files e bytes prints calm. inr (is ∙ ap (λ (r : ImageRefusal). image_code r) short.0))

make-clear : (seed acts : ℕ) (before now : Ports) (disk disk_now : DiskPort) (refusal : ImageRefusal) → CanMake before now disk disk_now
    → MakeRefused seed acts before.sink_faults now.sink_faults before.written now.written disk disk_now refusal → refusal ≡ Other refused.Memory
make-clear seed acts before now disk disk_now (Load fault) can cause = absurd cause
make-clear seed acts before now disk disk_now (Other refused.Memory) can cause = refl
make-clear seed acts before now disk disk_now (Other refused.ImageExists) can cause = absurd (cause.0 can.tells (can.none can.tells))
make-clear seed acts before now disk disk_now (Other refused.DiskFault) can cause = absurd (omega (arith, can.steady, cause.0))
make-clear seed acts before now disk disk_now (Other refused.SinkFault) can cause = absurd (omega (arith, can.calm.sink, cause.0))
make-clear seed acts before now disk disk_now (Other other) can cause = absurd cause

clear-fails : (command : Command) (before now : Ports) (disk disk_now : DiskPort) (refusal : ImageRefusal) → IfSome before.files (λ files. length files ≡ before.count)
    → IsUnhindered command before now disk disk_now → Fails command before now disk disk_now refusal → refusal ≡ Other refused.Memory
clear-fails (Create sectors) before now disk disk_now refusal counted clear cause = clear-command (Create sectors) before now disk disk_now refusal counted clear cause
clear-fails (Read at count) before now disk disk_now refusal counted clear cause = clear-command (Read at count) before now disk disk_now refusal counted clear cause
clear-fails (Write at) before now disk disk_now refusal counted clear cause = clear-command (Write at) before now disk disk_now refusal counted clear cause
clear-fails (Zero at count) before now disk disk_now refusal counted clear cause = clear-command (Zero at count) before now disk disk_now refusal counted clear cause
clear-fails (Flatten stdin) before now disk disk_now refusal counted clear cause = absurd clear.ready
clear-fails (Info number) before now disk disk_now refusal counted clear cause = absurd clear.ready
clear-fails Stack before now disk disk_now refusal counted clear cause = absurd clear.ready
clear-fails (Grow sectors) before now disk disk_now refusal counted clear cause = clear-command (Grow sectors) before now disk disk_now refusal counted clear cause
clear-fails (Commit uuid) before now disk disk_now refusal counted clear cause = clear-command (Commit uuid) before now disk disk_now refusal counted clear cause
clear-fails Sweep before now disk disk_now refusal counted clear cause = clear-command Sweep before now disk disk_now refusal counted clear cause
clear-fails (Make seed acts) before now disk disk_now refusal counted clear cause = make-clear seed acts before now disk disk_now refusal clear cause
clear-fails (Export connections) before now disk disk_now refusal counted clear cause = absurd clear.ready

pub clear-run : (command : Option Command) (before now : Ports) (disk disk_now : DiskPort) (refusal : ImageRefusal) (code : ℕ) → IfSome before.files (λ files. length files ≡ before.count)
    → WordsFail command before now disk disk_now refusal → code ≡ image_code refusal
    → IfSome command (λ command. IsUnhindered command before now disk disk_now → (code ≡ 0) ⊎ (code ≡ 5))
clear-run None before now disk disk_now refusal code counted cause is = tt
clear-run (Some command) before now disk disk_now refusal code counted (inl cause) is =
    λ clear. inr (is ∙ ap (λ (r : ImageRefusal). image_code r) (clear-fails command before now disk disk_now refusal counted clear cause))
clear-run (Some command) before now disk disk_now refusal code counted (inr short) is = λ clear. inr (is ∙ ap (λ (r : ImageRefusal). image_code r) short.0)

pub clear-done : (command : Option Command) (before now : Ports) (disk disk_now : DiskPort) (code : ℕ) → code ≡ 0
    → IfSome command (λ command. IsUnhindered command before now disk disk_now → (code ≡ 0) ⊎ (code ≡ 5))
clear-done None before now disk disk_now code is = tt
clear-done (Some command) before now disk disk_now code is = λ clear. inl is

-- ---- whose fault is told

told-by : (r : Result (Unit {0}) ImageRefusal) (refusal : ImageRefusal) (x : Refusal) → r ≡ Err refusal → IsErrOf r (Other x) → refusal ≡ Other x
told-by r refusal x is told = cc

by-told : (r : Result (Unit {0}) ImageRefusal) (refusal : ImageRefusal) (x : Refusal) → r ≡ Err refusal → refusal ≡ Other x → IsErrOf r (Other x)
by-told r refusal x is same = is ∙ ap (λ (y : ImageRefusal). Err y) same

-- the answer is that refusal
pub charged-by : (before now : Ports) (r : Result (Unit {0}) ImageRefusal) (refusal : ImageRefusal) → r ≡ Err refusal → AreCharged before now (λ x. IsErrOf r (Other x))
    → AreCharged before now (λ x. refusal ≡ Other x)
charged-by before now r refusal is charged = record {
  source = charges_as (λ (p : Ports). p.source_faults) before now (IsErrOf r (Other refused.SourceFault)) (refusal ≡ Other refused.SourceFault)
      (told-by r refusal refused.SourceFault is) (by-told r refusal refused.SourceFault is) charged.source;
  sink = charges_as (λ (p : Ports). p.sink_faults) before now (IsErrOf r (Other refused.SinkFault)) (refusal ≡ Other refused.SinkFault)
      (told-by r refusal refused.SinkFault is) (by-told r refusal refused.SinkFault is) charged.sink;
  shelf = charges_as (λ (p : Ports). p.shelf_faults) before now (IsErrOf r (Other refused.ShelfFault)) (refusal ≡ Other refused.ShelfFault)
      (told-by r refusal refused.ShelfFault is) (by-told r refusal refused.ShelfFault is) charged.shelf;
}

-- what has no cause is not the answer
pub not-told : (r : Result (Unit {0}) ImageRefusal) (P : ImageRefusal → Type 0) (x : ImageRefusal) → IfErr r P → (P x → ⊥) → IsErrOf r x → ⊥
not-told (Ok value) P x cause none is = cc
not-told (Err y) P x cause none is = let same : y ≡ x = cc in none (subst P same cause)

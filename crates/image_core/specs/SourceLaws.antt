-- Reads of the files of an image, one after another.
use Rattle.std.proofs.Common.{◌≡◌, ℕ, ◌<◌, inl, inr, refl, sym, ◌∙◌, subst}
use Rattle.block_disk.specs.DiskState.{DiskState, Files, Leaves}
use Rattle.top_writer.proofs.QuietLaws.{quiet_none, quiet_joined}
use Rattle.image_core.specs.declared.whole.WholeFault.{WholeFault}
use Rattle.image_core.specs.Sources.{ReadsFiles, FailsFiles}

pub reads-none : (now : DiskState) (disk shelf : ℕ) → ((files : Files) → now.left_at now.moment files → Leaves now files) → ReadsFiles now now disk disk shelf shelf
reads-none now disk shelf now_at = record { quiet = quiet_none now now_at; disk = refl; shelf = refl }

pub reads-joined : (old mid new : DiskState) (d e f s t u : ℕ) → ReadsFiles old mid d e s t → ReadsFiles mid new e f t u → ReadsFiles old new d f s u
reads-joined old mid new d e f s t u first second = record {
  quiet = quiet_joined old mid new first.quiet second.quiet;
  disk = second.disk ∙ first.disk;
  shelf = second.shelf ∙ first.shelf;
}

pub reads-failed : (old mid new : DiskState) (d e f s t u : ℕ) (fault : WholeFault) → ReadsFiles old mid d e s t → FailsFiles mid new e f t u fault → FailsFiles old new d f s u fault
reads-failed old mid new d e f s t u fault first second = record {
  quiet = quiet_joined old mid new first.quiet second.quiet;
  cause = elim second.cause [
    | inl of_disk ↦ inl (of_disk.0, subst (λ (k : ℕ). k < f) first.disk of_disk.1, of_disk.2 ∙ first.shelf)
    | inr of_shelf ↦ inr (of_shelf.0, subst (λ (k : ℕ). k < u) first.shelf of_shelf.1, of_shelf.2 ∙ first.disk)
  ];
}

-- The format of a manifest that was just set.
use Rattle.std.proofs.Common.{◌≡◌, ℕ, ◌+◌, Bool, IsTrue, List, inl, inr, sym, subst}
use Rattle.block_disk.specs.DiskState.{DiskState}
use Rattle.gate_mark.specs.declared.mark.Mark.{Mark}
use Rattle.gate_mark.specs.Mark.{file_of, MarkShows, IsSet}
use Rattle.image_core.specs.Manifest.{format_said, HasFormat2, IsInFormat2}
use Rattle.image_core.specs.Numbers.{manifest_file}

-- a file that shows a mark as it was set holds its body
set-shows : (old new : Mark) (body file : List ℕ) → IsSet old body new → format_said body ≡ 2 → MarkShows new file → HasFormat2 file
set-shows old new body file set format shows =
    elim (subst (λ (m : Mark). MarkShows m file) set shows) [
      | inl shown ↦ record { sequence = old.sequence + 1; body = body; shows = shown; format = format }
      | inr none ↦ absurd none
    ]

-- whatever a crash leaves of a set shows the mark as it was set, and what is read is among that
pub set-format : (tells : Bool) (disk : DiskState) (old new : Mark) (body : List ℕ) → file_of old ≡ manifest_file → IsSet old body new → format_said body ≡ 2
    → ((file : List ℕ) → disk.may_leave (file_of old) file → MarkShows new file)
    → (IsTrue tells → disk.may_leave manifest_file (disk.seen manifest_file)) → IsInFormat2 tells disk
set-format tells disk old new body is set format now stays =
    let left : (file : List ℕ) → disk.may_leave manifest_file file → HasFormat2 file =
    λ file may. set-shows old new body file set format (now file (subst (λ (f : ℕ). disk.may_leave f file) (sym is) may)) in
    record { left = left; reads = λ told. left (disk.seen manifest_file) (stays told) }

use Rattle.std.proofs.Common.{◌≡◌, ℕ, ◌+◌, ◌<◌, ◌≤◌, IsTrue, Bool, true, false, List, [], ◌++◌, length, refl, sym, ap, ◌∙◌, subst, arith, inl, inr}
use Rattle.std.specs.Prelude.{Err, Option, Some, None, IfSome, slice_index_or}
use Rattle.sector_extent.specs.declared.extent.Extent.{Extent}
use Rattle.sector_extent.specs.CauseLaws.{calm, calm_value}
use Rattle.flat_image.specs.History.{now, committed}
use Rattle.flat_image.proofs.HistoryLaws.{base-stays}
use Rattle.top_writer.specs.declared.fault.ReadFault.TheVariants as reads
use Rattle.top_writer.specs.Gaps.{AreGaps}
use Rattle.top_writer.proofs.QuietLaws.{quiet_joined}
use Rattle.merged_index.specs.Cells.{cells_of}
use Rattle.image_core.specs.declared.whole.WholeFault.TheVariants as why
use Rattle.image_core.specs.Pieces.{SnapshotView, IsSnapshotOf}
use Rattle.image_core.specs.Whole.{sectors_by, AreFilled, LiesIn}
use Rattle.image_core.specs.Seen.{seen}
use Rattle.image_core.specs.Upper.{IsGap}
use Rattle.image_core.proofs.FaultCounts.{value_no_fault}
use Rattle.image_core.proofs.FilledSectors.{gaps-lie}
use Rattle.image_core.proofs.StandFacts.{image-few, image-fits, image-snapshot}
use Rattle.image_core.proofs.StepGoes.{reads-noted, reads-failed, reads-refused}
use Rattle.image_core.proofs.WholeReads.{whole-hole, whole-reply, on-shelf, told-filled, sealed-files, each-told, layers-filled, not-disk}
use Rattle.image_core.proofs.image.Image.read_whole.Goals as goal

pub read_upper-requires-clause-fits : goal.read_upper-requires-clause-fits
read_upper-requires-clause-fits g c = image-fits (seen g.D.Disk c.args.self.now) c.requires.standing

pub returns-in-Err-Memory-clause-goes : goal.returns-in-Err-Memory-clause-goes
returns-in-Err-Memory-clause-goes g c = reads-refused g.D.Disk c.args.self.now c.read_upper.new.disk (λ files left. g.met.D.Disk.now_at c.args.self.now.disk files left) (λ files leaves. g.met.D.Disk.at_now c.args.self.now.disk files leaves) c.read_upper.ensures.quiet c.read_upper.ensures.cause.later

pub returns-in-Err-Failed-clause-goes : goal.returns-in-Err-Failed-clause-goes
returns-in-Err-Failed-clause-goes g c = reads-failed g.D.Disk c.args.self.now c.read_upper.new.disk (λ files left. g.met.D.Disk.now_at c.args.self.now.disk files left) (λ files leaves. g.met.D.Disk.at_now c.args.self.now.disk files leaves) c.read_upper.ensures.quiet c.read_upper.ensures.cause.later (c.in-Err-Failed.ensures.cause.failed (ap (λ e. Err e) c.in-Err-Failed.field-0-is))

pub count-count-requires : goal.count-count-requires
count-count-requires g c = omega (arith, image-few (seen g.D.Disk c.args.self.now) c.requires.standing)

pub fill_gaps-requires-clause-named : goal.fill_gaps-requires-clause-named
fill_gaps-requires-clause-named g c =
    on-shelf c.deref-snapshot.result.now c.args.self.now.parts.stack.lowers c.args.self.now.parts.stack.committed.items _
    (subst (λ (s : SnapshotView). IsSnapshotOf s c.args.self.now.parts.stack.lowers c.args.self.now.parts.stack.committed.items) (sym c.deref-snapshot.ensures) (image-snapshot (seen g.D.Disk c.args.self.now) c.requires.standing))
    (omega (arith, c.requires.count, c.count-count.ensures))

pub fill_gaps-requires-clause-there : goal.fill_gaps-requires-clause-there
fill_gaps-requires-clause-there g c =
    let (base, history, k) = c.requires.standing in
    let are = subst (AreGaps (IsGap (now base history)) c.args.extent.at (c.args.extent.at + c.args.extent.count)) (sym c.as_slice-extents.ensures) (c.in-Ok.ensures.gaps (now base history) k.tops k.attempts k.fits) in
    gaps-lie (IsGap (now base history)) c.args.extent.at (length c.read_upper.new.out) c.args.extent.at (c.args.extent.at + c.args.extent.count) c.as_slice-extents.result.now
    (omega arith) (omega (arith, c.read_upper.ensures.size, c.requires.size)) are

pub returns-in-Ok-fill_gaps-clause-goes : goal.returns-in-Ok-fill_gaps-clause-goes
returns-in-Ok-fill_gaps-clause-goes g c = reads-noted g.D.Disk c.args.self.now c.fill_gaps.new.disk (λ files left. g.met.D.Disk.now_at c.args.self.now.disk files left) (λ files leaves. g.met.D.Disk.at_now c.args.self.now.disk files leaves) (quiet_joined (g.D.Disk.state c.args.self.now.disk) (g.D.Disk.state c.read_upper.new.disk) (g.D.Disk.state c.fill_gaps.new.disk) c.read_upper.ensures.quiet c.fill_gaps.ensures.quiet) (omega (arith, c.read_upper.ensures.cause.later, c.fill_gaps.ensures.cause.later)) c.args.extent.at c.args.extent.count c.requires.within

pub returns-in-Ok-fill_gaps-clause-bytes : goal.returns-in-Ok-fill_gaps-clause-bytes
returns-in-Ok-fill_gaps-clause-bytes g c told =
    told-filled g.D.Disk.tells (g.S.Shelf.files c.args.shelf.now) (g.D.Disk.state c.read_upper.new.disk).seen c.count-count.result
    (λ files. AreFilled (sectors_by files (cells_of c.deref-snapshot.result.now.index)) c.args.extent.at c.as_slice-extents.result.now c.read_upper.new.out c.fill_gaps.new.out) _ told
    c.in-Ok-fill_gaps.ensures.filled
    (λ files filled base history k lows.
    let s = c.deref-snapshot.result.now in
    let are = subst (AreGaps (IsGap (now base history)) c.args.extent.at (c.args.extent.at + c.args.extent.count)) (sym c.as_slice-extents.ensures) (c.in-Ok.ensures.gaps (now base history) k.tops k.attempts k.fits) in
    whole-reply (seen g.D.Disk c.args.self.now) base history s c.args.extent.at c.args.extent.count c.read_upper.new.out c.fill_gaps.new.out c.as_slice-extents.result.now k
    (subst (λ (v : SnapshotView). IsSnapshotOf v c.args.self.now.parts.stack.lowers c.args.self.now.parts.stack.committed.items) (sym c.deref-snapshot.ensures) k.fits.stack.snapshot) c.requires.within are
    (subst (λ (l : List (List ℕ)). AreFilled (sectors_by l (cells_of s.index)) c.args.extent.at c.as_slice-extents.result.now c.read_upper.new.out c.fill_gaps.new.out)
    (sealed-files (seen g.D.Disk c.args.self.now) base history k (g.D.Disk.state c.read_upper.new.disk) c.read_upper.ensures.quiet c.count-count.result c.count-count.ensures told files lows) filled)
    c.args.out.now c.requires.size (c.fill_gaps.auto.out ∙ (c.read_upper.ensures.size ∙ c.requires.size))
    (c.in-Ok.ensures.bytes told (now base history) k.tops k.attempts k.fits (base-stays base history k.base_is k.few k.proper).0))

pub returns-in-Ok-fill_gaps-clause-holes : goal.returns-in-Ok-fill_gaps-clause-holes
returns-in-Ok-fill_gaps-clause-holes g c =
    each-told (g.S.Shelf.files c.args.shelf.now) _ (λ lowers is base history k lows both.
    let s = c.deref-snapshot.result.now in
    let are = subst (AreGaps (IsGap (now base history)) c.args.extent.at (c.args.extent.at + c.args.extent.count)) (sym c.as_slice-extents.ensures) (c.in-Ok.ensures.gaps (now base history) k.tops k.attempts k.fits) in
    let filled : AreFilled (sectors_by (base.lowers ++ committed base history) (cells_of s.index)) c.args.extent.at c.as_slice-extents.result.now c.read_upper.new.out c.fill_gaps.new.out =
    layers-filled (seen g.D.Disk c.args.self.now) (g.S.Shelf.files c.args.shelf.now) (g.D.Disk.state c.read_upper.new.disk) c.count-count.result
    (λ files. AreFilled (sectors_by files (cells_of s.index)) c.args.extent.at c.as_slice-extents.result.now c.read_upper.new.out c.fill_gaps.new.out)
    c.read_upper.ensures.quiet c.count-count.ensures c.in-Ok-fill_gaps.ensures.filled c.in-Ok-fill_gaps.ensures.bare lowers is base history k lows both in
    whole-hole (seen g.D.Disk c.args.self.now) base history s c.args.extent.at c.args.extent.count c.read_upper.new.out c.fill_gaps.new.out c.as_slice-extents.result.now k
    (subst (λ (v : SnapshotView). IsSnapshotOf v c.args.self.now.parts.stack.lowers c.args.self.now.parts.stack.committed.items) (sym c.deref-snapshot.ensures) k.fits.stack.snapshot) c.requires.within are filled)

pub overflow_cast-count : goal.overflow_cast-count
overflow_cast-count g c = omega (arith, image-few (seen g.D.Disk c.args.self.now) c.requires.standing, c.count-count.ensures)

pub returns-in-Ok-fill_gaps-clause-quiet : goal.returns-in-Ok-fill_gaps-clause-quiet
returns-in-Ok-fill_gaps-clause-quiet g c = (quiet_joined (g.D.Disk.state c.args.self.now.disk) (g.D.Disk.state c.read_upper.new.disk) (g.D.Disk.state c.fill_gaps.new.disk) c.read_upper.ensures.quiet c.fill_gaps.ensures.quiet)

pub returns-in-Err-DiskFault-clause-quiet : goal.returns-in-Err-DiskFault-clause-quiet
returns-in-Err-DiskFault-clause-quiet g c = (quiet_joined (g.D.Disk.state c.args.self.now.disk) (g.D.Disk.state c.read_upper.new.disk) (g.D.Disk.state c.fill_gaps.new.disk) c.read_upper.ensures.quiet c.fill_gaps.ensures.quiet)

pub returns-in-Err-ShelfFault-clause-quiet : goal.returns-in-Err-ShelfFault-clause-quiet
returns-in-Err-ShelfFault-clause-quiet g c = (quiet_joined (g.D.Disk.state c.args.self.now.disk) (g.D.Disk.state c.read_upper.new.disk) (g.D.Disk.state c.fill_gaps.new.disk) c.read_upper.ensures.quiet c.fill_gaps.ensures.quiet)

pub returns-in-Ok-fill_gaps-clause-cause : goal.returns-in-Ok-fill_gaps-clause-cause
returns-in-Ok-fill_gaps-clause-cause g c =
    let calm = calm_value g.D.Disk.faults c.read_upper.new.disk c.fill_gaps.new.disk tt why.DiskFault c.in-Ok-fill_gaps.ensures.cause ∙ calm_value g.D.Disk.faults c.args.self.now.disk c.read_upper.new.disk tt reads.Failed c.in-Ok.ensures.cause in
    record { later = omega (arith, calm); failed = λ is. absurd (value_no_fault _ why.DiskFault is); only = λ rose. absurd (omega (arith, calm, rose)) }

pub returns-in-Err-ShelfFault-clause-cause : goal.returns-in-Err-ShelfFault-clause-cause
returns-in-Err-ShelfFault-clause-cause g c =
    let same = calm g.D.Disk.faults c.read_upper.new.disk c.fill_gaps.new.disk _ c.in-Err-ShelfFault.ensures.cause (not-disk c.in-Err-ShelfFault.field-0 c.in-Err-ShelfFault.field-0-is)
    ∙ calm_value g.D.Disk.faults c.args.self.now.disk c.read_upper.new.disk tt reads.Failed c.in-Ok.ensures.cause in
    record { later = omega (arith, same); failed = λ is. absurd (not-disk why.ShelfFault refl is); only = λ rose. absurd (omega (arith, same, rose)) }

pub returns-in-Err-DiskFault-clause-goes : goal.returns-in-Err-DiskFault-clause-goes
returns-in-Err-DiskFault-clause-goes g c =
    reads-failed g.D.Disk c.args.self.now c.fill_gaps.new.disk (λ files left. g.met.D.Disk.now_at c.args.self.now.disk files left) (λ files leaves. g.met.D.Disk.at_now c.args.self.now.disk files leaves) (quiet_joined (g.D.Disk.state c.args.self.now.disk) (g.D.Disk.state c.read_upper.new.disk) (g.D.Disk.state c.fill_gaps.new.disk) c.read_upper.ensures.quiet c.fill_gaps.ensures.quiet) (omega (arith, c.read_upper.ensures.cause.later, c.fill_gaps.ensures.cause.later))
    (omega (arith, c.read_upper.ensures.cause.later, c.in-Err-DiskFault.ensures.cause.failed (ap (λ e. Err e) c.in-Err-DiskFault.field-0-is)))

pub returns-in-Err-ShelfFault-clause-goes : goal.returns-in-Err-ShelfFault-clause-goes
returns-in-Err-ShelfFault-clause-goes g c = reads-refused g.D.Disk c.args.self.now c.fill_gaps.new.disk (λ files left. g.met.D.Disk.now_at c.args.self.now.disk files left) (λ files leaves. g.met.D.Disk.at_now c.args.self.now.disk files leaves) (quiet_joined (g.D.Disk.state c.args.self.now.disk) (g.D.Disk.state c.read_upper.new.disk) (g.D.Disk.state c.fill_gaps.new.disk) c.read_upper.ensures.quiet c.fill_gaps.ensures.quiet) (omega (arith, c.read_upper.ensures.cause.later, c.fill_gaps.ensures.cause.later))

pub returns-clause-goes : goal.returns-clause-goes
returns-clause-goes g c = reads-refused g.D.Disk c.args.self.now c.fill_gaps.new.disk (λ files left. g.met.D.Disk.now_at c.args.self.now.disk files left) (λ files leaves. g.met.D.Disk.at_now c.args.self.now.disk files leaves) (quiet_joined (g.D.Disk.state c.args.self.now.disk) (g.D.Disk.state c.read_upper.new.disk) (g.D.Disk.state c.fill_gaps.new.disk) c.read_upper.ensures.quiet c.fill_gaps.ensures.quiet) (omega (arith, c.read_upper.ensures.cause.later, c.fill_gaps.ensures.cause.later))

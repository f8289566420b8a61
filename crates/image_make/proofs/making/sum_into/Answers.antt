use Rattle.std.proofs.Common.{◌≡◌, ℕ, List, [], refl, sym, ap, ◌∙◌}
use Rattle.flat_image.specs.declared.act.Act.TheVariants as act
use Rattle.flat_image.specs.History.{after}
use Rattle.flat_image.specs.Sectors.{sectors_in}
use Rattle.image_core.specs.declared.whole.WholeFault.{WholeFault}
use Rattle.image_core.specs.Parts.{parts_view}
use Rattle.image_core.specs.Seen.{Seen, seen}
use Rattle.image_core.proofs.StandLaws.{history-reads}
use Rattle.image_commands.proofs.ImageLaws.{stands-for}
use Rattle.image_make.specs.Steps.{AsksNothing}
use Rattle.image_make.specs.Sums.{filled_in, sum_in}
use Rattle.image_make.proofs.StepLaws.{misread, read-added, refuses_read, stops-failed, stops-short, unread}
use Rattle.image_make.proofs.SumLaws.{sectors-back}
use Rattle.image_make.proofs.making.sum_into.Goals as goal

pub returns-in-Ok-clause-adds : goal.returns-in-Ok-clause-adds
returns-in-Ok-clause-adds g c =
    read-added c.extent_of.result.at c.extent_of.result.count (seen g.D.Disk c.args.image.now) (seen g.D.Disk c.read_whole.new.self) c.in-Ok.ensures.goes

pub returns-in-Ok-clause-sums : goal.returns-in-Ok-clause-sums
returns-in-Ok-clause-sums g c =
    let old : Seen = seen g.D.Disk c.args.image.now in
    λ tells base history stands bare.
    let whole = (history-reads old.tells old.state old.faults (parts_view old.parts) base history (stands-for old base history stands)).1 in
    let is : sectors_in c.read_whole.new.out ≡ after base history =
    sectors-back (after base history) c.extent_of.result.at c.extent_of.result.count c.read_whole.new.out c.extent_of.ensures.place
    (whole.count ∙ sym c.sectors-count.ensures ∙ sym c.extent_of.ensures.count) whole.sectors (c.in-Ok.ensures.bytes tells base history stands bare) in
    record {
      filled = c.sum_sectors.ensures.filled ∙ ap (λ (image : List (List ℕ)). filled_in image) is;
      total = c.sum_sectors.ensures.sum ∙ ap (λ (image : List (List ℕ)). sum_in image) is;
    }

pub returns-in-Err-Memory-clause-refused : goal.returns-in-Err-Memory-clause-refused
returns-in-Err-Memory-clause-refused g c =
    let old : Seen = seen g.D.Disk c.args.image.now in
    let new : Seen = seen g.D.Disk c.read_whole.new.self in
    stops-short [] AsksNothing old new
    (unread (act.Read c.extent_of.result.at c.extent_of.result.count) old new c.in-Err-Memory.field-0 c.in-Err-Memory.field-0-is c.in-Err-Memory.ensures.goes)

pub returns-in-Err-DiskFault-clause-refused : goal.returns-in-Err-DiskFault-clause-refused
returns-in-Err-DiskFault-clause-refused g c =
    let old : Seen = seen g.D.Disk c.args.image.now in
    let new : Seen = seen g.D.Disk c.read_whole.new.self in
    stops-failed [] AsksNothing old new refl (c.in-Err-DiskFault.ensures.cause.failed (ap (λ (w : WholeFault). refuses_read w) c.in-Err-DiskFault.field-0-is))
    (misread (act.Read c.extent_of.result.at c.extent_of.result.count) old new c.in-Err-DiskFault.field-0 c.in-Err-DiskFault.field-0-is c.in-Err-DiskFault.ensures.goes)

-- The base over which an image was opened, before and after.
use Rattle.std.proofs.Common.{◌≡◌, ℕ, ◌∙◌, Bool, IsTrue, List, Option, sym, subst}
use Rattle.std.specs.Prelude.{IfSome}
use Rattle.std.specs.Option.{ForSome}
use Rattle.block_disk.specs.DiskState.{DiskState, Files}
use Rattle.block_disk.specs.Claims.{Quiet}
use Rattle.flat_image.specs.declared.base.Base.{Base}
use Rattle.image_core.specs.Shows.{Shows, IsUnworn}
use Rattle.image_core.specs.Seen.{Seen}
use Rattle.image_commands.specs.Images.{LiesOver, IsFound}
use Rattle.image_commands.specs.ImageSteps.{IsOpened}

abbrev FoundIn : Bool → Files → Base → Type 0
FoundIn tells files base = (shows : IsTrue tells → Shows files base) × ((told : IsTrue tells) → IsUnworn files base (shows told))

pub quiet-seen : (s t : DiskState) → Quiet s t → t.seen ≡ s.seen
quiet-seen s t quiet i f = quiet.others.seen f (λ x. x) i

pub found-same : (tells : Bool) (s t : DiskState) (f g : ℕ) (base : Base) → t.seen ≡ s.seen → IsFound (record { tells = tells; state = s; faults = f }) base
    → IsFound (record { tells = tells; state = t; faults = g }) base
found-same tells s t f g base same h =
    let moved : FoundIn tells t.seen base = subst (λ (files : Files). FoundIn tells files base) (sym same) (h.shows, h.unworn) in
    record { shows = moved.0; unworn = moved.1 }

pub opened-now : (told told_now : Option (List (List ℕ))) (count count_now : ℕ) (tells : Bool) (s t : DiskState) (f g : ℕ) (image : Seen) → told_now ≡ told → count_now ≡ count → g ≡ f → Quiet s t
    → IsOpened told count (record { tells = tells; state = s; faults = f }) image → IsOpened told_now count_now (record { tells = tells; state = t; faults = g }) image
opened-now told told_now count count_now tells s t f g image files number counted quiet h = (
  h.0,
  (
    subst (λ (o : Option (List (List ℕ))). LiesOver o count_now h.0) (sym files) (subst (λ (n : ℕ). LiesOver told n h.0) (sym number) h.1.0),
    found-same tells s t f g h.0 (quiet-seen s t quiet) h.1.1,
    h.1.2 ∙ sym counted,
    h.1.3,
  ),
)

pub lies-before : (told told_now : Option (List (List ℕ))) (count count_now : ℕ) (base : Base) → told_now ≡ told → count_now ≡ count → LiesOver told_now count_now base → LiesOver told count base
lies-before told told_now count count_now base files number h =
    subst (λ (o : Option (List (List ℕ))). LiesOver o count base) files (subst (λ (n : ℕ). LiesOver told_now n base) number h)

-- where files are told, they are the lower layers
pub told-lowers : (told : Option (List (List ℕ))) (count : ℕ) (base : Base) → LiesOver told count base → ForSome told (λ files. files ≡ base.lowers)
told-lowers told count base h files is = sym (subst (λ (o : Option (List (List ℕ))). IfSome o (λ f. base.lowers ≡ f)) is h.lowers)

-- What an opened image and the acts on it come to, for the command that opened it.
use Rattle.std.proofs.Common.{◌≡◌, ℕ, ◌+◌, ◌-◌, ◌*◌, ◌^◌, ◌<◌, ◌≤◌, Bool, true, false, IsTrue, List, [], length, take, drop, refl, sym, ap, ◌∙◌, subst, arith}
use Rattle.std.specs.Prelude.{Option, Some, None, IfSome}
use Rattle.std.specs.Option.{option_map}
use Rattle.std.proofs.lemmas.List.{length-take-le, length-drop}
use Rattle.std.proofs.lemmas.List.Elements.{All-take, All-drop}
use Rattle.block_disk.specs.DiskState.{Files, Leaves}
use Rattle.flat_image.specs.declared.base.Base.{Base}
use Rattle.flat_image.specs.Base.{pending_of}
use Rattle.flat_image.specs.Frozen.{Frozen}
use Rattle.flat_image.specs.Sheets.{IsSector}
use Rattle.flat_image.specs.History.{History, after, reply}
use Rattle.flat_image.proofs.Painting.{length-bytes_of}
use Rattle.image_core.specs.Shows.{Shows}
use Rattle.image_core.specs.View.{AreLayersOf, CommitView, IsCommitOf}
use Rattle.image_core.specs.Growing.{pending_in}
use Rattle.image_core.specs.Parts.{parts_view}
use Rattle.image_core.specs.Standing.{ShowsLeft, ViewStands}
use Rattle.image_core.proofs.Lifts.{keeps-stands}
use Rattle.image_core.proofs.PartsHold.{parts-keep}
use Rattle.image_core.proofs.StandLaws.{history-reads}
use Rattle.image_core.proofs.SheetsRead.{layers-length}
use Rattle.image_core.specs.Seen.{Seen, StandsFor, IsImage}
use Rattle.image_commands.specs.Images.{DiskPort, LeavesOf, Holds, LiesOver}
use Rattle.image_commands.specs.ImageSteps.{size_of, port_of, Adds, AreSectors}
use Rattle.layer_commands.proofs.Pieces.{IfSome-at, IfSome-each}
use Rattle.image_commands.proofs.WithoutReads.{shows-without}

pub stands-for : (image : Seen) (base : Base) (history : History) → StandsFor image base history
    → ViewStands image.tells image.state image.faults (parts_view image.parts) base history
stands-for image base history stands =
    keeps-stands image.tells image.state image.faults (parts_view image.parts) base history (parts-keep image base history stands)

-- what is frozen has the uuid of the commit in progress
pub same-pending : (epoch : ℕ) (frozen : Option Frozen) (commit : Option CommitView) → IsCommitOf epoch frozen commit → option_map (λ c. c.uuid) commit ≡ pending_of frozen
same-pending epoch None None is = refl
same-pending epoch None (Some commit) is = absurd is
same-pending epoch (Some frozen) None is = absurd is
same-pending epoch (Some frozen) (Some commit) is = ap (λ (u : List ℕ). Some u) is.0

-- ---- an image for which nothing was done yet

module _ (image : Seen) (base : Base) (stands : StandsFor image base []) where
  pub size-is : size_of image ≡ base.sectors
  size-is = (stands-for image base [] stands).view.sectors

  pub size-limit : size_of image ≤ 2 ^ 31
  size-limit = let size = stands.fits.sound.size.1 in omega (arith, size-is, size)

  pub rows-are : (parts_view image.parts).rows ≡ base.rows
  rows-are = (stands-for image base [] stands).view.rows

  pub filled-is : (parts_view image.parts).filled ≡ base.filled
  filled-is = (stands-for image base [] stands).view.filled

  -- the commit in progress
  pub pending-is : pending_in (parts_view image.parts) ≡ pending_of base.frozen
  pending-is = same-pending (length base.done) base.frozen (parts_view image.parts).commit (stands-for image base [] stands).view.commit

  pub none-done : (parts_view image.parts).steps ≡ 0
  none-done = stands.steps

  pub is-standing : IsImage image
  is-standing = (base, [], stands)

  pub lowers-told : (told : Option (List (List ℕ))) (count : ℕ) → LiesOver told count base → (files : List (List ℕ)) → told ≡ Some files → AreLayersOf files (parts_view image.parts).lowers
  lowers-told told count over files e =
      subst (λ (l : List (List ℕ)). AreLayersOf l (parts_view image.parts).lowers) (IfSome-at told (λ files. base.lowers ≡ files) files e over.lowers) stands.fits.stack.lowers_are

  pub lowers-count : (told : Option (List (List ℕ))) (count : ℕ) → LiesOver told count base → count ≡ length (parts_view image.parts).lowers
  lowers-count told count over = sym over.long ∙ layers-length base.lowers (parts_view image.parts).lowers stands.fits.stack.lowers_are

  -- what a read gives has as many bytes as it should
  pub length-reply : (at count : ℕ) → at + count ≤ base.sectors → length (reply base [] at count) ≡ 512 * count
  length-reply at count within =
      let whole = (history-reads image.tells image.state image.faults (parts_view image.parts) base [] (stands-for image base [] stands)).1 in
      let picture : List (List ℕ) = after base [] in
      let long : length picture ≡ size_of image = whole.count in
      let part : List (List ℕ) = take count (drop at picture) in
      let behind : length (drop at picture) ≡ length picture - at = length-drop at picture in
      let enough : count ≤ length (drop at picture) = omega (arith, behind, long, size-is, within) in
      length-bytes_of part (All-take IsSector count (drop at picture) (All-drop IsSector at picture whole.sectors)) ∙ ap (λ n. 512 * n) (length-take-le count (drop at picture) enough)

  -- the acts that were done are what a crash leaves
  pub leaves-acts : (new : Seen) (acts : History) → Adds acts image new → LeavesOf (port_of new) base acts
  leaves-acts new acts adds files leaves =
      let a = adds.stands base [] stands in
      subst (λ (h : History). ShowsLeft base h files) a.1 (shows-without base a.0 files ((stands-for new base a.0 a.2).crash files leaves))

  -- sectors that were written are what a read gives
  pub sectors-are : (told : Option (List (List ℕ))) (count at n : ℕ) (bytes : List ℕ) → LiesOver told count base → AreSectors image told at n bytes
      → IsTrue image.tells → IfSome told (λ files. bytes ≡ reply base [] at n)
  sectors-are told count at n bytes over sectors tells =
      IfSome-each told (λ files e.
      IfSome-at told (λ files. (b : Base) (history : History) → StandsFor image b history → b.lowers ≡ files → bytes ≡ reply b history at n) files e (sectors.are tells) base [] stands
      (IfSome-at told (λ files. base.lowers ≡ files) files e over.lowers))

-- what a crash leaves shows, and so does what a read gives of a disk that tells
pub holds-of : (disk : DiskPort) (base : Base) → (IsTrue disk.tells → Leaves disk.state disk.state.seen) → ((files : Files) → Leaves disk.state files → Shows files base) → Holds disk base
holds-of disk base stay crash = record { reads = λ tells. crash disk.state.seen (stay tells); crash = crash }

-- sectors that do not lie in an image go past its end
pub not-within : (b : Bool) (m n : ℕ) → b ≡ false → (m ≤ n → IsTrue b) → n < m
not-within b m n is all =
    let none : m ≤ n → ⊥ = λ h. (let yes : b ≡ true = all h in cc) in
    omega (arith, none)

-- A change of an image, and the flush behind it.
use Rattle.std.proofs.Common.{◌≡◌, ℕ, ◌+◌, ◌<◌, Bool, [], ◌∷◌, ◌++◌, refl, ap, ◌∙◌, subst, arith, length-append}
use Rattle.std.specs.Prelude.{Some, Result, Err, ◌↔◌}
use Rattle.std.specs.Result.{IsErrOf}
use Rattle.block_disk.specs.DiskState.{DiskState}
use Rattle.flat_image.specs.declared.act.Act.{Act}
use Rattle.flat_image.specs.declared.act.Act.TheVariants as act
use Rattle.flat_image.specs.declared.act.Asked.TheVariants.{Nothing}
use Rattle.flat_image.specs.Entries.{entry}
use Rattle.flat_image.specs.History.{IsOver, rows_taken, sectors_taken}
use Rattle.top_writer.specs.declared.fault.WriteFault.{WriteFault}
use Rattle.top_writer.specs.declared.fault.WriteFault.TheVariants.{Full, Memory, Failed}
use Rattle.image_core.specs.declared.parts.Parts.{Parts}
use Rattle.image_core.specs.Parts.{parts_view, noted_change}
use Rattle.image_core.specs.Seen.{Seen, IsImage, Goes}
use Rattle.image_commands.specs.Images.{kept_change, entries}
use Rattle.image_commands.specs.ImageSteps.{Adds, fault, without_reads, ChangeCause, change_refused_as}
use Rattle.image_commands.proofs.ImageAdds.{adds-none, adds-act, adds-joined}

abbrev refuses : WriteFault → Result (Unit {0}) WriteFault
refuses why = Err why

module _ (tells : Bool) (s s' : DiskState) (f f' : ℕ) (p p' : Parts) where
  abbrev old : Seen
  old = record { tells = tells; state = s; faults = f; parts = p }

  abbrev new : Seen
  new = record { tells = tells; state = s'; faults = f'; parts = p' }

  pub standing-then : (change : Act) → Goes old new (Some change) → IsImage old → IsImage new
  standing-then change goes standing = (standing.0, standing.1 ++ entry 0 change ∷ [], goes.stands standing.0 standing.1 0 standing.2)

  pub steps-then : (change : Act) → Goes old new (Some change) → IsImage old → p'.steps ≡ p.steps + 1
  steps-then change goes standing =
      let before = standing.2.steps in
      let after = (goes.stands standing.0 standing.1 0 standing.2).steps in
      omega (arith, before, after, length-append standing.1 (entry 0 change ∷ []))

  -- a change was refused
  pub change-refused : (change : Act) (rows sectors : ℕ) (why : WriteFault) → rows ≡ (parts_view p).rows + rows_taken change → sectors ≡ (parts_view p).filled + sectors_taken change
      → Goes old new (noted_change change (refuses why))
      → (IsOver rows sectors ↔ (refuses why ≡ refuses (Full (parts_view p).rows (parts_view p).filled)))
      → ((r n : ℕ) → refuses why ≡ refuses (Full r n) → (r ≡ (parts_view p).rows) × (n ≡ (parts_view p).filled))
      → (IsErrOf (refuses why) Failed → f < f')
      → ChangeCause change old new (change_refused_as why)
  change-refused change rows sectors (Full r n) rows_are sectors_are goes full only failed =
      let same = only r n refl in
      let fulls : ℕ → ℕ → Result (Unit {0}) WriteFault = λ a b. refuses (Full a b) in
      let is : refuses (Full r n) ≡ refuses (Full (parts_view p).rows (parts_view p).filled) = ap (λ a. fulls a n) same.0 ∙ ap (λ b. fulls (parts_view p).rows b) same.1 in
      record {
        rows_are = same.0;
        sectors_are = same.1;
        over = subst (λ (a : ℕ). IsOver a (n + sectors_taken change)) (let e : rows ≡ r + rows_taken change = omega (arith, same.0, rows_are) in e)
            (subst (λ (b : ℕ). IsOver rows b) (let e : sectors ≡ n + sectors_taken change = omega (arith, same.1, sectors_are) in e) (full.1 is));
        adds = adds-none tells s s' f f' p p' goes;
      }
  change-refused change rows sectors Memory rows_are sectors_are goes full only failed = adds-none tells s s' f f' p p' goes
  change-refused change rows sectors Failed rows_are sectors_are goes full only failed = (
    failed refl,
    ([], record { rest = entries (kept_change change); is = refl }, adds-act tells s s' f f' p p' (act.Fault Nothing) refl goes),
  )

-- a change, and the flush behind it
module _ (tells : Bool) (s m s' : DiskState) (f g f' : ℕ) (p q p' : Parts) where
  abbrev first : Seen
  first = record { tells = tells; state = s; faults = f; parts = p }

  abbrev middle : Seen
  middle = record { tells = tells; state = m; faults = g; parts = q }

  abbrev last : Seen
  last = record { tells = tells; state = s'; faults = f'; parts = p' }

  pub change-kept : (change : Act) → without_reads (entry 0 change ∷ []) ≡ entry 0 change ∷ [] → Goes first middle (Some change) → Goes middle last (Some act.Flush)
      → Adds (entries (kept_change change)) first last
  change-kept change stays one two =
      adds-joined (entry 0 change ∷ []) (entry 0 act.Flush ∷ []) first middle last (adds-act tells s m f g p q change stays one) (adds-act tells m s' g f' q p' act.Flush refl two)

  pub flush-refused : (change : Act) → without_reads (entry 0 change ∷ []) ≡ entry 0 change ∷ [] → Goes first middle (Some change) → Goes middle last (Some (act.Fault Nothing))
      → Adds ((entry 0 change ∷ []) ++ fault) first last
  flush-refused change stays one two =
      adds-joined (entry 0 change ∷ []) fault first middle last (adds-act tells s m f g p q change stays one) (adds-act tells m s' g f' q p' (act.Fault Nothing) refl two)

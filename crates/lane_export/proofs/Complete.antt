-- Where nothing stands in the way of an export, its status is 0, or 5 for want of memory, unless its history is full.
use Rattle.std.proofs.Common.{◌≡◌, ℕ, zero, suc, ◌+◌, ◌^◌, ◌<◌, ◌≤◌, ◌⊎◌, Bool, true, false, IsTrue, List, [], ◌∷◌, ◌++◌, length, get_or, Option, Some, None, refl, sym, ap, ◌∙◌, subst, arith, inl, inr}
use Rattle.std.specs.Prelude.{IfSome}
use Rattle.std.specs.List.{AllZip}
use Rattle.std.proofs.lemmas.List.Elements.{AllZip-get_or}
use Rattle.block_disk.specs.declared.disk.Disk as disks
use Rattle.layer_shelf.specs.declared.shelves.Shelf as shelves
use Rattle.flat_image.specs.declared.act.Act.TheVariants.{Fault}
use Rattle.flat_image.specs.declared.act.Asked.TheVariants.{Nothing}
use Rattle.flat_image.specs.declared.base.Base.{Base}
use Rattle.flat_image.specs.Entries.{entry}
use Rattle.flat_image.specs.History.{History, fault_count}
use Rattle.flat_image.specs.Stacks.{Legal}
use Rattle.flat_image.proofs.HistoryLaws.{fault_count-append}
use Rattle.image_core.specs.Seen.{Seen}
use Rattle.image_core.specs.View.{AreLayersOf}
use Rattle.image_core.proofs.Reopening.{reopens}
use Rattle.layer_commands.specs.declared.refusal.Refusal.{Refusal}
use Rattle.layer_commands.specs.declared.refusal.Refusal.TheVariants as refused
use Rattle.layer_commands.specs.Texts.{code_of}
use Rattle.layer_commands.specs.Prints.{LayerSheet, AreLayers, heads_of}
use Rattle.layer_commands.specs.Causes.{StopsAt}
use Rattle.layer_commands.proofs.Pieces.{IfSome-at, IfSome-each}
use Rattle.layer_commands.proofs.Refusals.{not_stopped, not_unstacked}
use Rattle.tool_setup.specs.declared.command.Command.{Command}
use Rattle.tool_setup.specs.declared.command.Command.TheVariants as command
use Rattle.image_commands.specs.declared.refusal.ImageRefusal.{ImageRefusal}
use Rattle.image_commands.specs.declared.refusal.ImageRefusal.TheVariants.{Load, Other}
use Rattle.image_commands.specs.ImageTexts.{image_code}
use Rattle.image_commands.specs.Images.{DiskPort, disk_port}
use Rattle.image_commands.specs.ImageSteps.{OpenCause}
use Rattle.image_commands.specs.Clear.{IsOpen}
use Rattle.nbd_session.specs.declared.served.Served.{Served}
use Rattle.control_session.specs.declared.control_end.ControlEnd.{ControlEnd}
use Rattle.lane_serve.specs.declared.lane.LaneEnd.{LaneEnd}
use Rattle.lane_serve.specs.declared.lane.LaneEnd.TheVariants as end_is
use Rattle.lane_serve.specs.Listeners.{Listening}
use Rattle.lane_serve.specs.Lanes.{Ways, IsOver}
use Rattle.lane_export.specs.declared.export_end.ExportEnd.{ExportEnd}
use Rattle.lane_export.specs.declared.export_end.ExportEnd.TheVariants as export_end
use Rattle.lane_export.specs.Lanes.{any_failed, ControlAt, HasServed, Exports}
use Rattle.lane_export.specs.Exporting.{Moment, end_code, HasExported, IsComplete}

-- only want of memory keeps such an image from being opened
cause-clear : (command : Command) (told : Option (List (List ℕ))) (count shelf shelf_now : ℕ) (disk disk_now : DiskPort) (files : List (List ℕ)) (layers : List LayerSheet)
    → disk_now.faults ≤ disk.faults → shelf_now ≤ shelf → IsTrue disk.tells → told ≡ Some files → IfSome told (λ list. length list ≡ count)
    → AreLayers files layers → (1 ≤ length files → Legal (heads_of layers)) → IsOpen command files disk []
    → (refusal : ImageRefusal) → OpenCause told count shelf shelf_now disk disk_now refusal → refusal ≡ Other refused.Memory
cause-clear command told count shelf shelf_now disk disk_now files layers steady calm tells e counted are legal shown (Other refused.Memory) cause = refl
cause-clear command told count shelf shelf_now disk disk_now files layers steady calm tells e counted are legal shown (Other refused.DiskFault) cause =
    absurd (let rose = cause.0 in omega (arith, steady, rose))
cause-clear command told count shelf shelf_now disk disk_now files layers steady calm tells e counted are legal shown (Other refused.ShelfFault) cause = absurd (omega (arith, calm, cause))
cause-clear command told count shelf shelf_now disk disk_now files layers steady calm tells e counted are legal shown (Other (refused.Layer number fault)) cause =
    absurd (not_stopped files layers number fault are (IfSome-at told (λ list. StopsAt list number fault) files e cause))
cause-clear command told count shelf shelf_now disk disk_now files layers steady calm tells e counted are legal shown (Other (refused.Stack fault)) cause =
    let whole : length files ≡ count = IfSome-at told (λ list. length list ≡ count) files e counted in
    let bad = IfSome-at told _ files e cause.2 in
    absurd (not_unstacked files layers bad.0 fault are (legal (omega (arith, whole, cause.0))) bad.1 bad.2)
cause-clear command told count shelf shelf_now disk disk_now files layers steady calm tells e counted are legal shown (Load fault) cause =
    let none = cause.1 in
    let read : AreLayersOf files none.layers = IfSome-at told (λ list. AreLayersOf list none.layers) files e none.read in
    elim (reopens disk.state.seen shown.base none.layers fault shown.shows shown.unworn
    (subst (λ (l : List (List ℕ)). AreLayersOf l none.layers) (sym shown.over) read) (none.reason tells)) [
      | inl memory ↦ absurd (none.of_image.1 memory)
      | inr failed ↦ absurd (none.of_image.0 failed)
    ]
cause-clear command told count shelf shelf_now disk disk_now files layers steady calm tells e counted are legal shown (Other other) cause = absurd cause

-- a lane whose listener failed
some-failed : (ends : List LaneEnd) → any_failed ends ≡ true → (k : ℕ) × (k < length ends) × ((d : LaneEnd) → get_or ends k d ≡ end_is.Failed)
some-failed [] is = absurd (let no : false ≡ true = is in cc)
some-failed (end_is.Failed ∷ ends) is = (zero, omega arith, λ d. refl)
some-failed (end_is.NoMore ∷ ends) is = let (k, lt, here) = some-failed ends is in (suc k, omega (arith, lt), here)
some-failed (end_is.Enough ∷ ends) is = let (k, lt, here) = some-failed ends is in (suc k, omega (arith, lt), here)

none-rose : {P : Type 0} (faults : P → ℕ) (olds news : List P) (k : ℕ) → AllZip (λ x y. faults y ≤ faults x) olds news → k < length olds
    → ((e f : P) → faults (get_or olds k e) < faults (get_or news k f)) → ⊥
none-rose faults [] news k calm lt rose = let no : ⊥ = omega (arith, lt) in absurd no
none-rose {P} faults (x ∷ xs) news k calm lt rose =
    let still = AllZip-get_or (λ (a b : P). faults b ≤ faults a) (x ∷ xs) news k x x calm lt in
    let more = rose x x in
    omega (arith, still, more)

-- a fault that comes last is counted
last-fault : (history before : History) (number : ℕ) → history ≡ before ++ entry number (Fault Nothing) ∷ [] → 1 ≤ fault_count history
last-fault history before number is =
    let here : fault_count history ≡ fault_count before + 1 = ap (λ (l : History). fault_count l) is ∙ fault_count-append before (entry number (Fault Nothing) ∷ []) in
    omega (arith, here)

module _ {P A B : Type 0} (w : Ways A B) (base : Base) (tells : P → Bool) (shelf : P → ℕ) (told : P → Option (Listening A B Served)) (faults : P → ℕ) (olds news : List P) (connections : ℕ)
    (start later : ControlAt) (ended : Option ControlEnd) (image : Seen) where
  -- the listener of no lane failed
  listeners-clear : (end : ExportEnd) (s : HasServed w base tells shelf told faults olds news connections start later ended image end) → AllZip (λ x y. faults y ≤ faults x) olds news
      → any_failed s.ends ≡ true → ⊥
  listeners-clear end s calm failed =
      let (k, lt, here) = some-failed s.ends failed in
      let many = s.many in
      none-rose faults olds news k calm (omega (arith, lt, many)) (λ e f.
      let lane = s.lanes k e f end_is.NoMore (omega (arith, lt, many)) in
      subst (λ (x : LaneEnd). IsOver x connections lane.ran.served (told (get_or news k f)) (faults (get_or olds k e)) (faults (get_or news k f))) (here end_is.NoMore) lane.ran.why)

  run-clear : (end : ExportEnd) (code : ℕ) → code ≡ end_code end → Exports w base tells shelf told faults olds news connections start later ended image end
      → image.faults ≤ base.faults → AllZip (λ x y. faults y ≤ faults x) olds news → (code ≡ 0) ⊎ (code ≡ 5) ⊎ (image.parts.steps ≡ 2 ^ 62)
  run-clear export_end.Flushed code is s steady calm = inl is
  run-clear export_end.Memory code is s steady calm = inr (inl is)
  run-clear export_end.ListenerFailed code is s steady calm = absurd (listeners-clear export_end.ListenerFailed s calm s.why.0)
  run-clear export_end.FlushFailed code is s steady calm =
      let some = last-fault s.history s.why.1.0 (length olds) s.why.1.1 in
      let failed = s.stands.failed in
      absurd (omega (arith, some, failed, steady))
  run-clear export_end.Worn code is s steady calm = inr (inr (s.stands.steps ∙ s.why.1))

pub complete : {D S L A B : Type 0} (w : Ways A B) (d : disks.Ghosts D) (s : shelves.Ghosts S) (told : L → Option (Listening A B Served)) (faults : L → ℕ) (old new : Moment D S L)
    (connections : ℕ) (ended : Option ControlEnd) (code : ℕ) → IfSome (s.files old.shelf) (λ files. length files ≡ s.count old.shelf)
    → HasExported w d s told faults old new connections ended code → IsComplete w d s told faults old new connections ended code
unfolding IsComplete
complete w d s told faults old new connections ended code counted (inl none) clear =
    inr (inl (none.code_is ∙ ap (λ (r : ImageRefusal). image_code r) (cause-clear (command.Export connections) (s.files old.shelf) (s.count old.shelf) (s.faults old.shelf) (s.faults new.shelf)
    (disk_port d old.disk) (disk_port d new.disk) clear.files clear.layers clear.steady clear.calm clear.tells clear.told counted clear.are clear.legal clear.shown none.refusal none.cause)))
complete {D} {S} {L} w d s told faults old new connections ended code counted (inr run) clear =
    let same = run.faults_are in
    let steady = clear.steady in
    elim (run-clear w run.base _ _ (λ (pair : S × L). told pair.1) (λ (pair : S × L). faults pair.1) old.lanes new.lanes connections _ _ ended _ run.end code run.code_is run.exports
    (omega (arith, same, steady)) clear.listening) [
      | inl fine ↦ inl fine
      | inr other ↦ elim other [ inl memory ↦ inr (inl memory) | inr full ↦ inr (inr (run, full)) ]
    ]

-- want of memory is owed nothing
pub memory-complete : {D S L A B : Type 0} (w : Ways A B) (d : disks.Ghosts D) (s : shelves.Ghosts S) (told : L → Option (Listening A B Served)) (faults : L → ℕ) (old new : Moment D S L)
    (connections : ℕ) (ended : Option ControlEnd) (code : ℕ) → code ≡ 5 → IsComplete w d s told faults old new connections ended code
unfolding IsComplete
memory-complete w d s told faults old new connections ended code is clear = inr (inl is)

-- words that were not read are no export, or memory was wanting
pub unread-complete : {P : Type 0} (o : Option ℕ) (refusal : Refusal) (code : ℕ) → code ≡ code_of refusal → (refusal ≡ refused.Memory) ⊎ ((refusal ≡ refused.Usage) × (o ≡ None))
    → (before after : Option P) (Owed : ℕ → P → P → Type 0) → ((n : ℕ) (x y : P) → code ≡ 5 → Owed n x y) → IfSome o (λ n. IfSome before (λ x. IfSome after (λ y. Owed n x y)))
unread-complete o refusal code is (inl memory) before after Owed owed =
    IfSome-each o (λ n e. IfSome-each before (λ x f. IfSome-each after (λ y g. owed n x y (is ∙ ap (λ (r : Refusal). code_of r) memory))))
unread-complete o refusal code is (inr other) before after Owed owed = subst (λ (p : Option ℕ). IfSome p (λ n. IfSome before (λ x. IfSome after (λ y. Owed n x y)))) (sym other.1) tt

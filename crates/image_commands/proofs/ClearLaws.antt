-- Where nothing stands in the way of a command on an image, only want of memory refuses it.
use Rattle.std.proofs.Common.{◌≡◌, ◌≢◌, ℕ, ◌+◌, ◌%◌, ◌<◌, ◌≤◌, IsTrue, List, [], ◌∷◌, ◌++◌, length, map, refl, sym, ap, ◌∙◌, subst, arith, inl, inr}
use Rattle.std.specs.Prelude.{Option, Some, None, IfSome, Contains}
use Rattle.block_disk.specs.DiskState.{Files}
use Rattle.lsmt_header.specs.declared.head.Head.{Head}
use Rattle.flat_image.specs.declared.act.Act.{Act}
use Rattle.flat_image.specs.declared.act.Act.TheVariants as act
use Rattle.flat_image.specs.declared.base.Base.{Base}
use Rattle.flat_image.specs.Base.{pending_of}
use Rattle.flat_image.specs.LayerReading.{uuid_in}
use Rattle.flat_image.specs.Sectors.{sector_count}
use Rattle.flat_image.specs.History.{IsOver, rows_taken, sectors_taken}
use Rattle.flat_image.specs.Stacks.{uppermost, Legal}
use Rattle.layer_stack.specs.Faults.{IsStackFault}
use Rattle.image_core.specs.declared.loading.LoadFault.{LoadFault}
use Rattle.image_core.specs.Shows.{Shows}
use Rattle.image_core.specs.View.{AreLayersOf}
use Rattle.image_core.proofs.ShownBase.{shows-one_base}
use Rattle.image_core.proofs.Reopening.{reopens}
use Rattle.tool_setup.specs.declared.command.Command.{Command}
use Rattle.tool_setup.specs.declared.command.Command.TheVariants.{Flatten, Info, Stack, Create, Grow, Read, Write, Zero, Commit, Sweep, Make, Export}
use Rattle.layer_commands.specs.declared.refusal.Refusal.{Refusal}
use Rattle.layer_commands.specs.declared.refusal.Refusal.TheVariants as refused
use Rattle.layer_commands.specs.Prints.{LayerSheet, AreLayers, heads_of, sectors_of}
use Rattle.layer_commands.specs.Ports.{Ports}
use Rattle.layer_commands.specs.Causes.{StopsAt}
use Rattle.image_commands.specs.Images.{DiskPort, LiesOver, StartsAt, acts_of, commit_acts, kept_change, reach_of}
use Rattle.image_commands.specs.ImageCauses.{IsCreate, HaveOtherSize, HoldsNone, GoesPast, IsFull, HasCommit, HasMostLayers, HasLayerOf, IsAsLarge, ImageCause, CommandCause}
use Rattle.image_commands.specs.declared.refusal.ImageRefusal.{ImageRefusal}
use Rattle.image_commands.specs.declared.refusal.ImageRefusal.TheVariants.{Load, Other}
use Rattle.image_commands.specs.Clear.{HaveAskedSize, IsOpen, IsReady, IsClear}
use Rattle.layer_commands.proofs.Pieces.{IfSome-at}
use Rattle.layer_commands.proofs.ToldLayers.{heads_agree}
use Rattle.layer_commands.proofs.Refusals.{not_stopped, not_unstacked}

-- files do not speak of a base's faults
shows-again : (files : Files) (base : Base) (k : ℕ) → Shows files base → Shows files (record base { faults = k })
shows-again files base k s = record {
  sequence = s.sequence;
  body = s.body;
  manifest = s.manifest;
  names = s.names;
  sound = record { size = s.sound.size; few = s.sound.few; stack = s.sound.stack; unlike = s.sound.unlike };
  done = s.done;
  frozen = s.frozen;
  top = s.top;
}

one-image : (files : Files) (base other : Base) → Shows files base → Shows files other → base.lowers ≡ other.lowers → record base { faults = other.faults } ≡ other
one-image files base other here there over = shows-one_base files (record base { faults = other.faults }) other (shows-again files base other.faults here) there over refl

module _ (command : Command) (files : List (List ℕ)) (disk : DiskPort) (bytes : List ℕ) (ready : IsOpen command files disk bytes) (told : Option (List (List ℕ))) (count : ℕ)
    (e : told ≡ Some files) (tells : IsTrue disk.tells) (other : Base) (over : LiesOver told count other) (shows : IsTrue disk.tells → Shows disk.state.seen other) where
  same-base : record ready.base { faults = other.faults } ≡ other
  same-base = one-image disk.state.seen ready.base other ready.shows (shows tells) (ready.over ∙ sym (IfSome-at told (λ files. other.lowers ≡ files) files e over.lowers))

  not-past : other.sectors < reach_of command bytes → ⊥
  not-past past = let size = ap (λ (b : Base). b.sectors) same-base in let within = ready.within in omega (arith, past, size, within)

  not-full : (change : Act) → acts_of command bytes (pending_of other.frozen) ≡ kept_change change → IsOver (other.rows + rows_taken change) (other.filled + sectors_taken change) → ⊥
  not-full change asked full =
      ready.room change (ap (λ (b : Base). acts_of command bytes (pending_of b.frozen)) same-base ∙ asked)
      (subst (λ (a : ℕ). IsOver (a + rows_taken change) (ready.base.filled + sectors_taken change)) (sym (ap (λ (b : Base). b.rows) same-base))
      (subst (λ (b : ℕ). IsOver (other.rows + rows_taken change) (b + sectors_taken change)) (sym (ap (λ (b : Base). b.filled) same-base)) full))

  same-pending : pending_of ready.base.frozen ≡ pending_of other.frozen
  same-pending = ap (λ (b : Base). pending_of b.frozen) same-base

  same-layers : ready.base.lowers ++ ready.base.done ≡ other.lowers ++ other.done
  same-layers = ap (λ (b : Base). b.lowers ++ b.done) same-base

  not-held : (sectors : ℕ) → command ≡ Grow sectors → (uuid : List ℕ) → pending_of other.frozen ≡ Some uuid → ⊥
  not-held sectors grows uuid pending = let free : pending_of other.frozen ≡ None = sym same-pending ∙ (ready.larger sectors grows).none in cc

  not-busy : (own : List ℕ) → command ≡ Commit own → (uuid : List ℕ) → uuid ≢ own → pending_of other.frozen ≡ Some uuid → ⊥
  not-busy own commits uuid unlike pending =
      elim (ready.free own commits) [
        | inl is ↦ (let e : Some uuid ≡ Some own = sym pending ∙ (sym same-pending ∙ is) in unlike (cc))
        | inr free ↦ (let none : pending_of other.frozen ≡ None = sym same-pending ∙ free.0 in cc)
      ]

  not-many : (own : List ℕ) → command ≡ Commit own → pending_of other.frozen ≡ None → 255 ≤ length (other.lowers ++ other.done) → ⊥
  not-many own commits none many =
      elim (ready.free own commits) [
        | inl is ↦ (let e : pending_of other.frozen ≡ Some own = sym same-pending ∙ is in cc)
        | inr free ↦ (let few = free.1 in let long = ap (λ (l : List (List ℕ)). length l) same-layers in omega (arith, few, long, many))
      ]

  not-twice : (own : List ℕ) → command ≡ Commit own → pending_of other.frozen ≡ None → Contains (map uuid_in (other.lowers ++ other.done)) own → ⊥
  not-twice own commits none twice =
      elim (ready.free own commits) [
        | inl is ↦ (let e : pending_of other.frozen ≡ Some own = sym same-pending ∙ is in cc)
        | inr free ↦ free.2 (subst (λ (l : List (List ℕ)). Contains (map uuid_in l) own) (sym same-layers) twice)
      ]

  not-as_large : (sectors : ℕ) → command ≡ Grow sectors → sectors ≤ other.sectors → ⊥
  not-as_large sectors grows within = let size = ap (λ (b : Base). b.sectors) same-base in let larger = (ready.larger sectors grows).more in omega (arith, size, larger, within)

-- the bytes of a write are those that the source has
same-bytes : (left : Option (List ℕ)) (bytes other : List ℕ) → left ≡ Some bytes → IfSome left (λ all. other ≡ all) → other ≡ bytes
same-bytes left bytes other e told = IfSome-at left (λ all. other ≡ all) bytes e told

past-clear : (command : Command) (before now : Ports) (disk disk_now : DiskPort) → IsClear command before now disk disk_now → GoesPast command before disk disk_now → ⊥
past-clear (Create asked) before now disk disk_now clear past = let p = past.past in omega (arith, p)
past-clear (Read at count) before now disk disk_now clear past =
    not-past (Read at count) clear.files disk [] clear.ready before.files before.count clear.told clear.tells past.base past.opens.over past.opens.starts.shows past.past
past-clear (Zero at count) before now disk disk_now clear past =
    not-past (Zero at count) clear.files disk [] clear.ready before.files before.count clear.told clear.tells past.base past.opens.over past.opens.starts.shows past.past
past-clear (Write at) before now disk disk_now clear past =
    let ready = clear.ready in
    let same : past.bytes ≡ ready.0 = same-bytes before.left ready.0 past.bytes ready.1 past.opens.takes.0 in
    not-past (Write at) clear.files disk ready.0 ready.3 before.files before.count clear.told clear.tells past.base past.opens.over past.opens.starts.shows
    (subst (λ (b : List ℕ). past.base.sectors < at + sector_count b) same past.past)
past-clear (Flatten stdin) before now disk disk_now clear past = clear.ready
past-clear (Info number) before now disk disk_now clear past = clear.ready
past-clear Stack before now disk disk_now clear past = clear.ready
past-clear (Grow sectors) before now disk disk_now clear past = let p = past.past in omega (arith, p)
past-clear (Commit uuid) before now disk disk_now clear past = let p = past.past in omega (arith, p)
past-clear Sweep before now disk disk_now clear past = let p = past.past in omega (arith, p)
past-clear (Make seed acts) before now disk disk_now clear past = clear.ready
past-clear (Export connections) before now disk disk_now clear past = clear.ready

-- a commit is no change with a flush behind it
no-commit : (uuid : List ℕ) (pending : Option (List ℕ)) (change : Act) → commit_acts uuid pending ≡ kept_change change → ⊥
no-commit uuid None change e = cc
no-commit uuid (Some own) change e = cc

full-clear : (command : Command) (before now : Ports) (disk disk_now : DiskPort) (rows sectors : ℕ) → IsClear command before now disk disk_now → IsFull command before disk disk_now rows sectors → ⊥
full-clear (Create asked) before now disk disk_now rows sectors clear full = let e : [] ≡ kept_change full.change = full.asked in cc
full-clear (Read at count) before now disk disk_now rows sectors clear full = let e : [] ≡ kept_change full.change = full.asked in cc
full-clear (Zero at count) before now disk disk_now rows sectors clear full =
    not-full (Zero at count) clear.files disk [] clear.ready before.files before.count clear.told clear.tells full.base full.opens.over full.opens.starts.shows full.change full.asked full.over
full-clear (Write at) before now disk disk_now rows sectors clear full =
    let ready = clear.ready in
    let same : full.bytes ≡ ready.0 = same-bytes before.left ready.0 full.bytes ready.1 full.opens.takes.0 in
    not-full (Write at) clear.files disk ready.0 ready.3 before.files before.count clear.told clear.tells full.base full.opens.over full.opens.starts.shows full.change
    (subst (λ (b : List ℕ). acts_of (Write at) b (pending_of full.base.frozen) ≡ kept_change full.change) same full.asked) full.over
full-clear (Flatten stdin) before now disk disk_now rows sectors clear full = clear.ready
full-clear (Info number) before now disk disk_now rows sectors clear full = clear.ready
full-clear Stack before now disk disk_now rows sectors clear full = clear.ready
full-clear (Grow size) before now disk disk_now rows sectors clear full = let e : act.Grow size ∷ [] ≡ kept_change full.change = full.asked in cc
full-clear (Commit uuid) before now disk disk_now rows sectors clear full = no-commit uuid (pending_of full.base.frozen) full.change full.asked
full-clear Sweep before now disk disk_now rows sectors clear full = let e : [] ≡ kept_change full.change = full.asked in cc
full-clear (Make seed acts) before now disk disk_now rows sectors clear full = clear.ready
full-clear (Export connections) before now disk disk_now rows sectors clear full = clear.ready

busy-clear : (command : Command) (before now : Ports) (disk disk_now : DiskPort) (uuid : List ℕ) → IsClear command before now disk disk_now → HasCommit command before disk uuid → ⊥
busy-clear (Grow sectors) before now disk disk_now uuid clear busy =
    not-held (Grow sectors) clear.files disk [] clear.ready before.files before.count clear.told clear.tells busy.base busy.over busy.found.shows sectors refl uuid busy.pending
busy-clear (Commit own) before now disk disk_now uuid clear busy =
    not-busy (Commit own) clear.files disk [] clear.ready before.files before.count clear.told clear.tells busy.base busy.over busy.found.shows own refl uuid busy.stops busy.pending
busy-clear other before now disk disk_now uuid clear busy = absurd busy.stops

many-clear : (command : Command) (before now : Ports) (disk disk_now : DiskPort) → IsClear command before now disk disk_now → HasMostLayers command before disk → ⊥
many-clear command before now disk disk_now clear most =
    let ready = subst (λ (c : Command). IsReady c before.left clear.files clear.layers disk) most.commits clear.ready in
    let starts = subst (λ (c : Command). StartsAt c before.count disk most.base) most.commits most.opens.starts in
    not-many (Commit most.uuid) clear.files disk [] ready before.files before.count clear.told clear.tells most.base most.opens.over starts.0.shows most.uuid refl most.free most.many

twice-clear : (command : Command) (before now : Ports) (disk disk_now : DiskPort) → IsClear command before now disk disk_now → HasLayerOf command before disk → ⊥
twice-clear command before now disk disk_now clear has =
    let ready = subst (λ (c : Command). IsReady c before.left clear.files clear.layers disk) has.commits clear.ready in
    let starts = subst (λ (c : Command). StartsAt c before.count disk has.base) has.commits has.opens.starts in
    not-twice (Commit has.uuid) clear.files disk [] ready before.files before.count clear.told clear.tells has.base has.opens.over starts.0.shows has.uuid refl has.free has.twice

large-clear : (command : Command) (before now : Ports) (disk disk_now : DiskPort) (sectors : ℕ) → IsClear command before now disk disk_now → IsAsLarge command before disk sectors → ⊥
large-clear command before now disk disk_now sectors clear large =
    let ready = subst (λ (c : Command). IsReady c before.left clear.files clear.layers disk) large.grows clear.ready in
    let starts = subst (λ (c : Command). StartsAt c before.count disk large.base) large.grows large.opens.starts in
    not-as_large (Grow large.wanted) clear.files disk [] ready before.files before.count clear.told clear.tells large.base large.opens.over starts.shows large.wanted refl large.within

opened-by : (command : Command) (left : Option (List ℕ)) (files : List (List ℕ)) (layers : List LayerSheet) (disk : DiskPort) → (IsCreate command → ⊥) → IsReady command left files layers disk
    → (bytes : List ℕ) × IsOpen command files disk bytes
opened-by (Create asked) left files layers disk other ready = absurd (other (asked, refl))
opened-by (Read at count) left files layers disk other ready = ([], ready)
opened-by (Zero at count) left files layers disk other ready = ([], ready)
opened-by (Write at) left files layers disk other ready = (ready.0, ready.3)
opened-by (Flatten stdin) left files layers disk other ready = absurd ready
opened-by (Info number) left files layers disk other ready = absurd ready
opened-by Stack left files layers disk other ready = absurd ready
opened-by (Grow sectors) left files layers disk other ready = ([], ready)
opened-by (Commit uuid) left files layers disk other ready = ([], ready)
opened-by Sweep left files layers disk other ready = ([], ready)
opened-by (Make seed acts) left files layers disk other ready = absurd ready
opened-by (Export connections) left files layers disk other ready = absurd ready

load-clear : (command : Command) (before now : Ports) (disk disk_now : DiskPort) (fault : LoadFault) → IsClear command before now disk disk_now → (IsCreate command → ⊥) → HoldsNone before.files disk fault → ⊥
load-clear command before now disk disk_now fault clear other none =
    let ready = (opened-by command before.left clear.files clear.layers disk other clear.ready).1 in
    let are : AreLayersOf clear.files none.layers = IfSome-at before.files (λ files. AreLayersOf files none.layers) clear.files clear.told none.read in
    elim (reopens disk.state.seen ready.base none.layers fault ready.shows ready.unworn
    (subst (λ (l : List (List ℕ)). AreLayersOf l none.layers) (sym ready.over) are) (none.reason clear.tells)) [
      | inl memory ↦ none.of_image.1 memory
      | inr failed ↦ none.of_image.0 failed
    ]

-- ---- sizes

size-by_heads : (n : ℕ) (layers : List LayerSheet) → uppermost n (map (λ (l : LayerSheet). l.head.sectors) layers) ≡ uppermost n (map (λ (h : Head). h.sectors) (heads_of layers))
size-by_heads n [] = refl
size-by_heads n (layer ∷ above) = size-by_heads layer.head.sectors above

some-files : (files : List (List ℕ)) (layers : List LayerSheet) → AreLayers files layers → Legal (heads_of layers) → 1 ≤ length files
some-files [] [] are legal = absurd (let some = legal.some in omega (arith, some))
some-files [] (layer ∷ layers) are legal = absurd are
some-files (file ∷ files) layers are legal = omega arith

size-clear : (sectors : ℕ) (files : List (List ℕ)) (layers : List LayerSheet) → AreLayers files layers → HaveAskedSize (Some sectors) files layers → HaveOtherSize files sectors → ⊥
size-clear sectors files layers are asked (others, these, legal, differs) =
    let same : sectors_of others ≡ sectors_of layers =
    size-by_heads 0 others ∙ ap (λ (heads : List Head). uppermost 0 (map (λ (h : Head). h.sectors) heads)) (heads_agree files others layers these are) ∙ sym (size-by_heads 0 layers) in
    let within = asked (some-files files others these legal) in
    omega (arith, same, differs, within)

-- ---- all refusals

clear-memory : (command : Command) (before now : Ports) (disk disk_now : DiskPort) (refusal : Refusal) → IfSome before.files (λ files. length files ≡ before.count)
    → IsClear command before now disk disk_now → ImageCause command before now disk disk_now refusal → refusal ≡ refused.Memory
clear-memory command before now disk disk_now refused.Memory counted clear cause = refl
clear-memory command before now disk disk_now refused.SourceFault counted clear cause = absurd (let calm = clear.calm.source in omega (arith, calm, cause.1))
clear-memory command before now disk disk_now refused.SinkFault counted clear cause = absurd (let calm = clear.calm.sink in omega (arith, calm, cause.0))
clear-memory command before now disk disk_now refused.ShelfFault counted clear cause = absurd (let calm = clear.calm.shelf in omega (arith, calm, cause.0))
clear-memory command before now disk disk_now refused.DiskFault counted clear cause = absurd (let calm = clear.steady in let rose = cause.rose in omega (arith, calm, rose))
clear-memory command before now disk disk_now refused.TooLong counted clear ((at, is), long, untouched) =
    let ready = subst (λ (c : Command). IsReady c before.left clear.files clear.layers disk) is clear.ready in
    let here : 33554432 < length ready.0 = IfSome-at before.left (λ all. 33554432 < length all) ready.0 ready.1 long in
    let short = ready.2.short in
    absurd (omega (arith, here, short))
clear-memory command before now disk disk_now refused.NotWholeSectors counted clear ((at, is), broken, untouched) =
    let ready = subst (λ (c : Command). IsReady c before.left clear.files clear.layers disk) is clear.ready in
    let here : (length ready.0 ≤ 33554432) × (length ready.0 % 512 ≢ 0) = IfSome-at before.left (λ all. (length all ≤ 33554432) × (length all % 512 ≢ 0)) ready.0 ready.1 broken in
    let whole = ready.2.whole in
    let none : length ready.0 % 512 ≡ 0 = omega (arith, whole) in
    absurd (here.1 none)
clear-memory command before now disk disk_now (refused.Layer number fault) counted clear cause =
    absurd (not_stopped clear.files clear.layers number fault clear.are (IfSome-at before.files (λ files. StopsAt files number fault) clear.files clear.told cause.1))
clear-memory command before now disk disk_now (refused.Stack fault) counted clear cause =
    let whole : length clear.files ≡ before.count = IfSome-at before.files (λ files. length files ≡ before.count) clear.files clear.told counted in
    let (others, these, wrong) = IfSome-at before.files (λ files. (layers : List LayerSheet) × AreLayers files layers × IsStackFault (heads_of layers) fault) clear.files clear.told cause.3 in
    absurd (not_unstacked clear.files clear.layers others fault clear.are (clear.legal (omega (arith, whole, cause.1))) these wrong)
clear-memory command before now disk disk_now refused.NoSize counted clear cause =
    let whole : length clear.files ≡ before.count = IfSome-at before.files (λ files. length files ≡ before.count) clear.files clear.told counted in
    let ready = subst (λ (c : Command). IsReady c before.left clear.files clear.layers disk) cause.0 clear.ready in
    absurd (omega (arith, whole, cause.1, ready.0))
clear-memory command before now disk disk_now refused.OtherSize counted clear ((sectors, is, some, few, differs), untouched) =
    let ready = subst (λ (c : Command). IsReady c before.left clear.files clear.layers disk) is clear.ready in
    absurd (size-clear sectors clear.files clear.layers clear.are ready.0 (IfSome-at before.files (λ files. HaveOtherSize files sectors) clear.files clear.told differs))
clear-memory command before now disk disk_now refused.ImageExists counted clear ((asked, is, size), stacked, exists, untouched) =
    let ready = subst (λ (c : Command). IsReady c before.left clear.files clear.layers disk) is clear.ready in
    absurd (exists clear.tells ready.1)
clear-memory command before now disk disk_now refused.OutOfRange counted clear cause = absurd (past-clear command before now disk disk_now clear cause.0)
clear-memory command before now disk disk_now (refused.Full rows sectors) counted clear cause = absurd (full-clear command before now disk disk_now rows sectors clear cause.0)
clear-memory command before now disk disk_now (refused.Busy uuid) counted clear cause = absurd (busy-clear command before now disk disk_now uuid clear cause.0)
clear-memory command before now disk disk_now (refused.NotLarger sectors) counted clear cause = absurd (large-clear command before now disk disk_now sectors clear cause.0)
clear-memory command before now disk disk_now refused.TooManyLayers counted clear cause = absurd (many-clear command before now disk disk_now clear cause.0)
clear-memory command before now disk disk_now refused.UuidTwice counted clear cause = absurd (twice-clear command before now disk disk_now clear cause.0)
clear-memory command before now disk disk_now other counted clear cause = absurd cause

pub clear-command : (command : Command) (before now : Ports) (disk disk_now : DiskPort) (refusal : ImageRefusal) → IfSome before.files (λ files. length files ≡ before.count)
    → IsClear command before now disk disk_now → CommandCause command before now disk disk_now refusal → refusal ≡ Other refused.Memory
clear-command command before now disk disk_now (Other refusal) counted clear cause =
    ap (λ (r : Refusal). Other r) (clear-memory command before now disk disk_now refusal counted clear cause)
clear-command command before now disk disk_now (Load fault) counted clear cause = absurd (load-clear command before now disk disk_now fault clear cause.0 cause.3)

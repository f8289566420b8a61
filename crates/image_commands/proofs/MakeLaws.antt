-- Making an image over the layers of a shelf.
use Rattle.std.proofs.Common.{◌≡◌, ℕ, ◌-◌, ◌<◌, ◌≤◌, Bool, true, false, IsTrue, List, [], ◌∷◌, length, map, refl, sym, ap, ◌∙◌, subst, arith, All, inl, inr}
use Rattle.std.specs.Prelude.{Option, Some, None, IfSome, ◌≢◌, slice_get, ◌⊎◌, Result, Ok, Err, OnOk, OnErr, IfErr}
use Rattle.std.specs.Result.{IsErrOf}
use Rattle.std.specs.Io.KnownBytes.{Appends, Keeps}
use Rattle.std.proofs.KnownBytes.{Keeps-refl}
use Rattle.byte_ports.specs.Ports.{AppendsFront}
use Rattle.lsmt_header.specs.declared.head.Head.{Head}
use Rattle.std.proofs.lemmas.List.{length-map}
use Rattle.std.proofs.lemmas.List.Elements.{All-head, All-tail, All-map, All-weaker}
use Rattle.block_disk.specs.DiskState.{DiskState, Leaves}
use Rattle.block_disk.specs.Claims.{Quiet}
use Rattle.gate_mark.specs.MarkFile.{mark_of}
use Rattle.flat_image.specs.declared.base.Base.{Base}
use Rattle.flat_image.specs.Stacks.{uppermost, Legal}
use Rattle.sealed_layer.specs.Layers.{LayerIndex, IsLayerIndex}
use Rattle.image_core.specs.declared.creating.CreateFault.{CreateFault}
use Rattle.image_core.specs.declared.creating.CreateFault.TheVariants as create
use Rattle.image_core.specs.declared.parts.Parts.{Parts}
use Rattle.image_core.specs.Numbers.{manifest_file}
use Rattle.image_core.specs.Loading.{heads_in, AreStackOrNone}
use Rattle.image_core.specs.Opening.{blank_layers, lowers_from}
use Rattle.flat_image.specs.Base.{top_size}
use Rattle.flat_image.specs.LayerReading.{size_in}
use Rattle.flat_image.specs.RowCells.{sheet_of}
use Rattle.flat_image.proofs.LayerLaws.{size_in-layer}
use Rattle.top_writer.specs.Files.{IsSizeFor as IsTopSize}
use Rattle.image_core.specs.Shows.{HaveSize}
use Rattle.image_core.specs.View.{AreLayersOf}
use Rattle.image_core.proofs.BlankLayers.{layers-blank}
use Rattle.image_core.proofs.Created.{layer-file}
use Rattle.image_core.specs.Creating.{AreLegal, fresh_at}
use Rattle.tool_setup.specs.declared.command.Command.{Command}
use Rattle.tool_setup.specs.declared.command.Command.TheVariants.{Create}
use Rattle.layer_commands.specs.declared.refusal.Refusal.{Refusal}
use Rattle.layer_commands.specs.declared.refusal.Refusal.TheVariants as refused
use Rattle.image_core.specs.Seen.{Seen, StandsFor}
use Rattle.image_commands.specs.ImageReports.{created_line}
use Rattle.layer_commands.specs.Ports.{Ports}
use Rattle.layer_commands.specs.Flattening.{AreTold, FitIn, upper_sectors}
use Rattle.image_commands.specs.Images.{DiskPort, AreStackedFiles, IsSizeFor, Opens, Does, Began}
use Rattle.image_commands.specs.ImageCauses.{Untouched, HasSize, FailsToMake, DiskFailed, HaveOtherSize, HaveOwnSize, ImageCause}
use Rattle.image_commands.specs.ImageSteps.{port_of, IsMade, IsOtherSize, SizeCause, MakeCause, create_refused_as}
use Rattle.layer_commands.proofs.Pieces.{IfSome-at, IfSome-each, last_sectors}
use Rattle.layer_commands.proofs.ToldLayers.{layers_of, told_layers, told_heads, told_sectors, stack_fits}
use Rattle.image_commands.proofs.OpenLaws.{stacked, lies-over}
use Rattle.image_commands.proofs.WithoutReads.{shows-none}
use Rattle.image_commands.proofs.ImageAdds.{adds-nothing}
use Rattle.image_commands.proofs.ImageLaws.{leaves-acts, holds-of}

pub some-layer : (layers : List LayerIndex) (d : LayerIndex) (i : ℕ) → slice_get layers i ≡ Some d → 1 ≤ length layers
some-layer [] d i is = absurd (let e : None ≡ Some d = is in cc)
some-layer (layer ∷ above) d i is = omega arith

-- layers in memory are those of some files
read-of : (files : List (List ℕ)) (layers : List LayerIndex) → AreLayersOf files layers → AreTold files layers
read-of [] [] are = tt
read-of [] (layer ∷ layers) are = absurd are
read-of (file ∷ files) [] are = absurd are
read-of (file ∷ files) (layer ∷ layers) are = (are.0, read-of files layers are.1)

-- none of a stack's layers has more sectors than the uppermost
pub stack-fits : (layers : List LayerIndex) → All (λ (l : LayerIndex). IsLayerIndex l.head l.rows) layers → Legal (heads_in layers) → FitIn (upper_sectors layers) layers
stack-fits layers sound legal = stack_fits (blank_layers layers) layers (read-of (blank_layers layers) layers (layers-blank layers sound)) legal.sizes

-- so layers that form a stack are those of an image with no fewer sectors
pub legal-size : (layers : List LayerIndex) (upper : LayerIndex) (n : ℕ) → All (λ (l : LayerIndex). IsLayerIndex l.head l.rows) layers
    → slice_get layers (length layers - 1) ≡ Some upper → upper.head.sectors ≤ n → AreStackOrNone layers → AreLegal n layers
legal-size layers upper n sound is more legal =
    let stack : Legal (heads_in layers) = legal (some-layer layers upper (length layers - 1) is) in
    let own : upper.head.sectors ≡ upper_sectors layers = last_sectors layers upper is in
    record {
      few = let few = stack.few in omega (arith, few, length-map layers (λ (l : LayerIndex). l.head));
      sizes = All-map (λ (head : Head). IsTopSize false n head.sectors) (λ (l : LayerIndex). l.head) layers
          (All-weaker (λ (l : LayerIndex). l.head.sectors ≤ upper_sectors layers) (λ (l : LayerIndex). IsTopSize false n l.head.sectors)
          (λ l below. record { within = omega (arith, below, own, more); same = λ e. absurd (let no : false ≡ true = e in cc) }) layers (stack-fits layers sound stack));
      legal = legal;
    }

-- a size over layers, as a slice shows them
pub sized-as : (asked : Option ℕ) (count n : ℕ) (slice layers : List LayerIndex) → slice ≡ layers → length layers ≡ count → IsSizeFor asked (length slice) (upper_sectors slice) n
    → IsSizeFor asked count (upper_sectors layers) n
sized-as asked count n slice layers same long size =
    subst (λ (m : ℕ). IsSizeFor asked m (upper_sectors layers) n) long (subst (λ (l : List LayerIndex). IsSizeFor asked (length l) (upper_sectors l) n) same size)

-- the sectors of the uppermost file are those of the uppermost layer
upper-file : (n : ℕ) (files : List (List ℕ)) (layers : List LayerIndex) → AreLayersOf files layers
    → top_size n files ≡ uppermost n (map (λ (l : LayerIndex). l.head.sectors) layers)
upper-file n [] [] are = refl
upper-file n [] (layer ∷ layers) are = absurd are
upper-file n (file ∷ files) [] are = absurd are
upper-file n (file ∷ files) (layer ∷ layers) are =
    ap (λ (k : ℕ). uppermost k (map size_in files)) (size_in-layer file layer.head (sheet_of file layer.head.sectors layer.rows) (layer-file file layer are.0))
    ∙ upper-file layer.head.sectors files layers are.1

some-of : (layers : List LayerIndex) (sectors : ℕ) → sectors < upper_sectors layers → 1 ≤ length layers
some-of [] sectors below = absurd (omega (arith, below))
some-of (layer ∷ above) sectors below = omega arith

other-size : (told : Option (List (List ℕ))) (count : ℕ) (layers : List LayerIndex) (asked : Option ℕ) → length layers ≡ count → length layers ≤ 255 → IfSome told (λ files. AreTold files layers) → AreStackOrNone layers → IsOtherSize asked layers
    → (sectors : ℕ) × (asked ≡ Some sectors) × (1 ≤ count) × (count ≤ 255) × IfSome told (λ files. HaveOtherSize files sectors)
other-size told count layers asked long few are legal (sectors, is, below) = (
  sectors,
  is,
  omega (arith, some-of layers sectors below, long),
  omega (arith, few, long),
  IfSome-each told (λ files e.
      let here : AreTold files layers = IfSome-at told (λ files. AreTold files layers) files e are in (
        layers_of files layers,
        told_layers files layers here,
        subst Legal (sym (told_heads files layers here)) (legal (some-of layers sectors below)),
        omega (arith, below, told_sectors files layers here),
      )),
)

-- there is no size
pub size-refused : (asked : Option ℕ) (told : Option (List (List ℕ))) (count shelf shelf_now : ℕ) (disk : DiskPort) (layers : List LayerIndex) → length layers ≡ count
    → length layers ≤ 255 → IfSome told (λ files. AreTold files layers) → AreStackOrNone layers → Quiet disk.state disk.state → (refusal : Refusal) → SizeCause asked layers refusal
    → MakeCause asked told count shelf shelf_now disk disk refusal
size-refused asked told count shelf shelf_now disk layers long few are legal quiet refused.NoSize cause = (cause.0, sym long ∙ cause.1, quiet)
size-refused asked told count shelf shelf_now disk layers long few are legal quiet refused.OtherSize cause = (other-size told count layers asked long few are legal cause, quiet)
size-refused asked told count shelf shelf_now disk layers long few are legal quiet other cause = absurd cause

most-of : (n low : ℕ) (layers : List LayerIndex) → low ≤ n → HaveSize false n (heads_in layers) → uppermost low (map (λ (l : LayerIndex). l.head.sectors) layers) ≤ n
most-of n low [] below sizes = below
most-of n low (layer ∷ layers) below sizes =
    let Size : Head → Type 0 = λ h. IsTopSize false n h.sectors in
    most-of n layer.head.sectors layers (All-head Size layer.head (heads_in layers) sizes).within (All-tail Size layer.head (heads_in layers) sizes)

own-size : (n : ℕ) (files : List (List ℕ)) (layers : List LayerIndex) → AreTold files layers → AreLegal n layers → HaveOwnSize files n
own-size n files layers told legal = (
  layers_of files layers,
  told_layers files layers told,
  λ some. let most : upper_sectors layers ≤ n = most-of n 0 layers (omega arith) legal.sizes in omega (arith, most, told_sectors files layers told),
)

has-size : (asked : Option ℕ) (told : Option (List (List ℕ))) (count n : ℕ) (layers : List LayerIndex) → IfSome told (λ files. AreTold files layers) → AreLegal n layers
    → IsSizeFor asked count (upper_sectors layers) n → HasSize asked told count
has-size None told count n layers are legal size = size.0
has-size (Some sectors) told count n layers are legal size =
    IfSome-each told (λ files e. subst (λ (m : ℕ). HaveOwnSize files m) size (own-size n files layers (IfSome-at told (λ files. AreTold files layers) files e are) legal))

-- nothing changed, or there was no mark where the disk tells
stays : {A : Type 0} (tells : Bool) (mark : Option A) (Q : Type 0) → (IsTrue tells → mark ≢ None → Q) → Q ⊎ (IsTrue tells → mark ≡ None)
stays false mark Q kept = inr (λ t. cc)
stays true None Q kept = inr (λ t. refl)
stays true (Some a) Q kept = inl (kept refl (λ e. cc))

-- a creation was refused
pub make-refused : (asked : Option ℕ) (told : Option (List (List ℕ))) (count n shelf shelf_now : ℕ) (disk disk_now : DiskPort) (layers : List LayerIndex) → length layers ≡ count → length layers ≤ 255 → IfSome told (λ files. AreTold files layers)
    → AreLegal n layers → IsSizeFor asked count (upper_sectors layers) n → (fault : CreateFault) → (IsTrue disk.tells → fault ≡ create.Exists → mark_of (disk.state.seen manifest_file) ≢ None)
    → (fault ≡ create.Failed → disk.faults < disk_now.faults) → (fault ≡ create.Exists → Quiet disk.state disk_now.state) → (fault ≡ create.Memory → Quiet disk.state disk_now.state)
    → (IsTrue disk.tells → mark_of (disk.state.seen manifest_file) ≢ None → Quiet disk.state disk_now.state) → MakeCause asked told count shelf shelf_now disk disk_now (create_refused_as fault)
make-refused asked told count n shelf shelf_now disk disk_now layers long few are legal size create.Exists exists failed untouched unbegun kept =
    (has-size asked told count n layers are legal size, stacked told count layers long few are legal.legal, λ tells. exists tells refl, untouched refl)
make-refused asked told count n shelf shelf_now disk disk_now layers long few are legal size create.Memory exists failed untouched unbegun kept = unbegun refl
make-refused asked told count n shelf shelf_now disk disk_now layers long few are legal size create.Failed exists failed untouched unbegun kept =
    (failed refl, has-size asked told count n layers are legal size, stacked told count layers long few are legal.legal, stays disk.tells (mark_of (disk.state.seen manifest_file)) (Quiet disk.state disk_now.state) kept)

-- and one that was made
pub made : (asked : Option ℕ) (told : Option (List (List ℕ))) (count n : ℕ) (layers : List LayerIndex) (tells : Bool) (s s' : DiskState) (f f' : ℕ) (p : Parts) → AreStackedFiles told count → length layers ≡ count → p.stack.lowers ≡ layers
    → IsSizeFor asked count (upper_sectors layers) n → (IsTrue tells → mark_of (s.seen manifest_file) ≡ None) → StandsFor (record { tells = tells; state = s'; faults = f'; parts = p }) (fresh_at n (lowers_from told layers) f') []
    → IsMade asked told count (record { tells = tells; state = s; faults = f }) (record { tells = tells; state = s'; faults = f'; parts = p })
made asked told count n layers tells s s' f f' p are long same size none stands =
    let base : Base = fresh_at n (lowers_from told layers) f' in (
      base,
      lies-over told count layers tells s' f' p base are long same refl stands,
      record {
        size = subst (λ (upper : ℕ). IsSizeFor asked count upper n)
            (sym (upper-file 0 (lowers_from told layers) layers (subst (AreLayersOf (lowers_from told layers)) same stands.fits.stack.lowers_are))) size;
        none = none;
        fresh = refl;
      },
      stands,
    )

-- ---- the command

abbrev create_with : Option ℕ → Command
create_with asked = Create asked

keeps : (old new : Option (List ℕ)) → new ≡ old → Keeps old new
keeps old new same = subst (Keeps old) (sym same) (Keeps-refl old)

untouched : (before now : Ports) (disk disk_now : DiskPort) → now.written ≡ before.written → Quiet disk.state disk_now.state → Untouched before now disk disk_now
untouched before now disk disk_now same quiet = record { sink = keeps before.written now.written same; same = quiet }

module _ (asked : Option ℕ) (before now : Ports) (disk : DiskPort) (new : Seen) (base : Base) (opens : Opens (Create asked) before disk [] base) (stands : StandsFor new base [])
    (n : ℕ) (size : n ≡ base.sectors) where
  line-is : created_line n before.count ≡ created_line base.sectors before.count
  line-is = ap (λ (m : ℕ). created_line m before.count) size

  pub create-does : (IsTrue new.tells → Leaves new.state new.state.seen) → Appends before.written now.written (created_line n before.count) → Does (Create asked) before now disk (port_of new)
  create-does stay written = record {
    bytes = [];
    base = base;
    opens = opens;
    within = omega arith;
    holds = holds-of (port_of new) base stay (λ files leaves. shows-none base files (leaves-acts new base stands new [] (adds-nothing new) files leaves));
    swept = tt;
    prints = record { text = created_line n before.count; is = line-is; written = written };
  }

  create-began : AppendsFront before.written now.written (created_line n before.count) → Began (Create asked) before now disk (port_of new)
  create-began front = record {
    bytes = [];
    base = base;
    opens = opens;
    within = omega arith;
    history = [];
    begun = record { front = []; starts = record { rest = []; is = refl }; is = inl refl };
    crash = leaves-acts new base stands new [] (adds-nothing new);
    prints = record { text = created_line n before.count; is = line-is; front = front };
  }

  pub create-done : (r : Result (Unit {0}) Refusal) → (IsTrue new.tells → Leaves new.state new.state.seen) → OnOk r (Appends before.written now.written (created_line n before.count))
      → OnOk r (Does (Create asked) before now disk (port_of new))
  create-done (Ok value) stay written = create-does stay written
  create-done (Err refusal) stay written = tt

  pub create-failed : (r : Result (Unit {0}) Refusal) → IfErr r (λ refusal. refusal ≡ refused.SinkFault) → (IsErrOf r refused.SinkFault → before.sink_faults < now.sink_faults)
      → OnErr r (AppendsFront before.written now.written (created_line n before.count)) → IfErr r (ImageCause (Create asked) before now disk (port_of new))
  unfolding create-began
  create-failed (Ok value) is rose front = tt
  create-failed (Err refusal) is rose front =
      subst (λ (x : Refusal). ImageCause (Create asked) before now disk (port_of new) x) (sym is) (rose (ap Err is), record { began = create-began front; all = refl })

disk-failed : (asked : Option ℕ) (before now : Ports) (disk disk_now : DiskPort) → disk.faults < disk_now.faults → HasSize asked before.files before.count → AreStackedFiles before.files before.count
    → Keeps before.written now.written → Untouched before now disk disk_now ⊎ FailsToMake (Create asked) before now disk ⊎ Began (Create asked) before now disk disk_now
    → DiskFailed (Create asked) before now disk disk_now
disk-failed asked before now disk disk_now rose size are keeps stands = record {
  rose = rose;
  fed = ([], refl);
  stacked = are;
  size = λ other is. subst (λ (o : Option ℕ). HasSize o before.files before.count) (let e : asked ≡ other = cc in e) size;
  silent = inr keeps;
  stands = stands;
}

-- no image was made
pub make-failed : (asked : Option ℕ) (before now : Ports) (disk disk_now : DiskPort) → now.written ≡ before.written → (refusal : Refusal)
    → MakeCause asked before.files before.count before.shelf_faults now.shelf_faults disk disk_now refusal → ImageCause (Create asked) before now disk disk_now refusal
make-failed asked before now disk disk_now same refused.Memory cause = (tt, inl (untouched before now disk disk_now same cause))
make-failed asked before now disk disk_now same refused.DiskFault (rose, size, are, stands) =
    let silent : Keeps before.written now.written = keeps before.written now.written same in
    disk-failed asked before now disk disk_now rose size are silent (elim stands [
      | inl quiet ↦ inl (untouched before now disk disk_now same quiet)
      | inr none ↦ inr (inl ((asked, refl), none, silent))
    ])
make-failed asked before now disk disk_now same refused.ShelfFault cause = (cause.0, ([], refl), inl (untouched before now disk disk_now same cause.1))
make-failed asked before now disk disk_now same (refused.Layer number reason) cause = (([], refl), cause.0, untouched before now disk disk_now same cause.1)
make-failed asked before now disk disk_now same (refused.Stack reason) cause = (([], refl), cause.0, cause.1, cause.2, untouched before now disk disk_now same cause.3)
make-failed asked before now disk disk_now same refused.NoSize cause =
    (ap (λ (o : Option ℕ). create_with o) cause.0, cause.1, untouched before now disk disk_now same cause.2)
make-failed asked before now disk disk_now same refused.OtherSize ((sectors, is, some, few, other), quiet) =
    ((sectors, ap (λ (o : Option ℕ). create_with o) is, some, few, other), untouched before now disk disk_now same quiet)
make-failed asked before now disk disk_now same refused.ImageExists cause =
    ((asked, refl, cause.0), cause.1, cause.2, untouched before now disk disk_now same cause.3)
make-failed asked before now disk disk_now same other cause = absurd cause

-- Which refusals exclude one another.
use Rattle.std.proofs.Common.{◌≡◌, ℕ, zero, suc, ◌^◌, ◌<◌, ◌≤◌, true, false, List, [], ◌∷◌, length, refl, sym, subst, arith, inl, inr}
use Rattle.std.specs.Prelude.{Option, None, Some, IfSome}
use Rattle.std.proofs.lemmas.Option.{MatchOption-at_some}
use Rattle.std.proofs.lemmas.List.Elements.{All-head}
use Rattle.layer_shelf.specs.Shelves.{file_at}
use Rattle.flat_image.specs.LayerFiles.{LayerFile}
use Rattle.flat_image.specs.Stacks.{Legal}
use Rattle.layer_stack.specs.declared.fault.StackFault.{StackFault}
use Rattle.layer_stack.specs.Faults.{IsStackFault}
use Rattle.layer_stack.proofs.StackLemmas.{fault_not_legal}
use Rattle.sealed_layer.specs.LayerFaults.{IsLayerFault}
use Rattle.sealed_layer.proofs.LayerUnique.{no_layer_fault}
use Rattle.sealed_layer.specs.declared.fault.LayerFault.{LayerFault}
use Rattle.tool_setup.specs.declared.command.Command.{Command}
use Rattle.tool_setup.specs.declared.command.Command.TheVariants.{Flatten, Info, Stack, Create, Grow, Read, Write, Zero, Commit, Sweep, Make, Export}
use Rattle.layer_commands.specs.declared.refusal.Refusal.{Refusal}
use Rattle.layer_commands.specs.declared.refusal.Refusal.TheVariants as refused
use Rattle.layer_commands.specs.Prints.{LayerSheet, AreLayers, AreShort, heads_of, input_limit, read_by, Prints}
use Rattle.layer_commands.specs.Causes.{AreCharged, Cause, IsBadLayer, IsCalm, IsMissing, IsOfFile, ReadsSource, ReadsStack, StopsAt}
use Rattle.layer_commands.specs.Ports.{Ports}
use Rattle.layer_commands.proofs.ToldLayers.{heads_agree}

-- a layer's file has no fault
not_faulty : (file : List ℕ) (fault : LayerFault) (layer : LayerSheet) → LayerFile file layer.head layer.sheet → IsLayerFault file fault → IsOfFile fault → ⊥
not_faulty file fault layer is bad real =
    elim (no_layer_fault file layer.head is.rows fault is.layer bad) [ inl e ↦ real.0 e | inr e ↦ real.1 e ]

layer_at : (files : List (List ℕ)) (layers : List LayerSheet) (number : ℕ) → AreLayers files layers → number < length files
    → (layer : LayerSheet) × LayerFile (file_at files number) layer.head layer.sheet
layer_at [] layers number are within = absurd (omega arith)
layer_at (file ∷ files) [] number are within = absurd are
layer_at (file ∷ files) (layer ∷ layers) zero are within = (layer, are.0)
layer_at (file ∷ files) (layer ∷ layers) (suc number) are within = layer_at files layers number are.1 (omega arith)

pub not_stopped : (files : List (List ℕ)) (layers : List LayerSheet) (number : ℕ) (fault : LayerFault) → AreLayers files layers → StopsAt files number fault → ⊥
not_stopped files layers number fault are stops =
    let (layer, is) = layer_at files layers number are stops.within in not_faulty (file_at files number) fault layer is stops.here stops.of_file

not_bad : (command : Command) (files : List (List ℕ)) (bytes : List ℕ) (number : ℕ) (fault : LayerFault) → Prints command files bytes → IsBadLayer command files number fault → ⊥
not_bad (Flatten true) files bytes number fault (layers, short, are, is) bad = not_stopped files layers number fault are bad.1
not_bad (Flatten false) files bytes number fault (layers, are, legal, is) bad = not_stopped files layers number fault are bad
not_bad Stack files bytes number fault (layers, are, legal, is) bad = not_stopped files layers number fault are bad
not_bad (Info wanted) files bytes number fault (layer, within, is, text) (same, inside, here, real) =
    not_faulty (file_at files wanted) fault layer is (subst (λ (k : ℕ). IsLayerFault (file_at files k) fault) same here) real
not_bad (Create asked) files bytes number fault prints bad = prints
not_bad (Grow sectors) files bytes number fault prints bad = prints
not_bad (Commit uuid) files bytes number fault prints bad = prints
not_bad Sweep files bytes number fault prints bad = prints
not_bad (Make seed acts) files bytes number fault prints bad = prints
not_bad (Export connections) files bytes number fault prints bad = prints
not_bad (Read at count) files bytes number fault prints bad = prints
not_bad (Write at) files bytes number fault prints bad = prints
not_bad (Zero at count) files bytes number fault prints bad = prints

pub not_unstacked : (files : List (List ℕ)) (xs ys : List LayerSheet) (fault : StackFault) → AreLayers files xs → Legal (heads_of xs) → AreLayers files ys → IsStackFault (heads_of ys) fault → ⊥
not_unstacked files xs ys fault p legal q bad = fault_not_legal (heads_of ys) fault bad (subst Legal (heads_agree files xs ys p q) legal)

not_stack : (command : Command) (files : List (List ℕ)) (told : Option (List (List ℕ))) (left : Option (List ℕ)) (bytes : List ℕ) (fault : StackFault)
    → read_by command left told ≡ Some files → Prints command files bytes → ReadsStack command
    → IfSome told (λ files. (layers : List LayerSheet) × AreLayers files layers × IsStackFault (heads_of layers) fault) → ⊥
not_stack (Flatten false) files told left bytes fault read (layers, are, legal, is) reads bad =
    let (others, these, wrong) = MatchOption-at_some _ (λ files. (layers : List LayerSheet) × AreLayers files layers × IsStackFault (heads_of layers) fault) files read bad in
    not_unstacked files layers others fault are legal these wrong
not_stack Stack files told left bytes fault read (layers, are, legal, is) reads bad =
    let (others, these, wrong) = MatchOption-at_some _ (λ files. (layers : List LayerSheet) × AreLayers files layers × IsStackFault (heads_of layers) fault) files read bad in
    not_unstacked files layers others fault are legal these wrong
not_stack (Flatten true) files told left bytes fault read prints reads bad = reads
not_stack (Info number) files told left bytes fault read prints reads bad = reads
not_stack (Create asked) files told left bytes fault read prints reads bad = reads
not_stack (Grow sectors) files told left bytes fault read prints reads bad = reads
not_stack (Commit uuid) files told left bytes fault read prints reads bad = reads
not_stack Sweep files told left bytes fault read prints reads bad = reads
not_stack (Make seed acts) files told left bytes fault read prints reads bad = reads
not_stack (Export connections) files told left bytes fault read prints reads bad = reads
not_stack (Read at count) files told left bytes fault read prints reads bad = reads
not_stack (Write at) files told left bytes fault read prints reads bad = reads
not_stack (Zero at count) files told left bytes fault read prints reads bad = reads

not_long : (command : Command) (files : List (List ℕ)) (told : Option (List (List ℕ))) (left : Option (List ℕ)) (bytes : List ℕ)
    → read_by command left told ≡ Some files → Prints command files bytes → ReadsSource command → IfSome left (λ file. input_limit command < length file) → ⊥
not_long (Flatten true) files told None bytes read prints reads long = absurd (cc)
not_long (Flatten true) files told (Some file) bytes read (layers, short, are, is) reads long =
    let same : file ∷ [] ≡ files = cc in
    let few : length file ≤ 2 ^ 30 = All-head (λ (file : List ℕ). length file ≤ 2 ^ 30) file [] (subst AreShort (sym same) short) in
    omega (arith, few, long)
not_long (Write at) files told left bytes read prints reads long = prints
not_long (Flatten false) files told left bytes read prints reads long = reads
not_long (Info number) files told left bytes read prints reads long = reads
not_long Stack files told left bytes read prints reads long = reads
not_long (Create asked) files told left bytes read prints reads long = reads
not_long (Grow sectors) files told left bytes read prints reads long = reads
not_long (Commit uuid) files told left bytes read prints reads long = reads
not_long Sweep files told left bytes read prints reads long = reads
not_long (Make seed acts) files told left bytes read prints reads long = reads
not_long (Export connections) files told left bytes read prints reads long = reads
not_long (Read at count) files told left bytes read prints reads long = reads
not_long (Zero at count) files told left bytes read prints reads long = reads

not_missing : (command : Command) (files : List (List ℕ)) (told : Option (List (List ℕ))) (left : Option (List ℕ)) (bytes : List ℕ) (count : ℕ)
    → read_by command left told ≡ Some files → IfSome told (λ files. length files ≡ count) → Prints command files bytes → IsMissing command count → ⊥
not_missing (Info wanted) files told left bytes count read counted (layer, within, is, text) missing =
    let whole : length files ≡ count = MatchOption-at_some _ (λ files. length files ≡ count) files read counted in
    omega (arith, whole, within, missing)
not_missing (Flatten stdin) files told left bytes count read counted prints missing = missing
not_missing Stack files told left bytes count read counted prints missing = missing
not_missing (Create asked) files told left bytes count read counted prints missing = missing
not_missing (Grow sectors) files told left bytes count read counted prints missing = missing
not_missing (Commit uuid) files told left bytes count read counted prints missing = missing
not_missing Sweep files told left bytes count read counted prints missing = missing
not_missing (Make seed acts) files told left bytes count read counted prints missing = missing
not_missing (Export connections) files told left bytes count read counted prints missing = missing
not_missing (Read at layers) files told left bytes count read counted prints missing = missing
not_missing (Write at) files told left bytes count read counted prints missing = missing
not_missing (Zero at layers) files told left bytes count read counted prints missing = missing

-- where a command can succeed and no fault rises, only want of memory refuses it
pub only_memory : (command : Command) (before now : Ports) (files : List (List ℕ)) (bytes : List ℕ) → read_by command before.left before.files ≡ Some files
    → IfSome before.files (λ files. length files ≡ before.count) → Prints command files bytes → IsCalm before now
    → (told : Refusal → Type 0) → AreCharged before now told → (refusal : Refusal) → told refusal → Cause command before now refusal → refusal ≡ refused.Memory
only_memory command before now files bytes read counted prints calm told charged refused.SourceFault is cause =
    absurd (let rose = charged.source.failed is in omega (arith, rose, calm.source))
only_memory command before now files bytes read counted prints calm told charged refused.SinkFault is cause =
    absurd (let rose = charged.sink.failed is in omega (arith, rose, calm.sink))
only_memory command before now files bytes read counted prints calm told charged refused.ShelfFault is cause =
    absurd (let rose = charged.shelf.failed is in omega (arith, rose, calm.shelf))
only_memory command before now files bytes read counted prints calm told charged refused.Memory is cause = refl
only_memory command before now files bytes read counted prints calm told charged refused.TooLong is cause =
    absurd (not_long command files before.files before.left bytes read prints cause.0 cause.1)
only_memory command before now files bytes read counted prints calm told charged refused.NoLayer is cause =
    absurd (not_missing command files before.files before.left bytes before.count read counted prints cause.0)
only_memory command before now files bytes read counted prints calm told charged (refused.Layer number fault) is cause =
    absurd (not_bad command files bytes number fault prints (MatchOption-at_some _ (λ files. IsBadLayer command files number fault) files read cause.0))
only_memory command before now files bytes read counted prints calm told charged (refused.Stack fault) is cause =
    absurd (not_stack command files before.files before.left bytes fault read prints cause.0 cause.2)
only_memory command before now files bytes read counted prints calm told charged other is cause = absurd cause

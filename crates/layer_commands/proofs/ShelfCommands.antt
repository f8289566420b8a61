-- What the commands over a shelf have written, and why they are refused.
use Rattle.std.proofs.Common.{◌≡◌, ℕ, ◌<◌, false, List, [], length, map, sym, ap, ◌∙◌, subst, arith, inl, inr}
use Rattle.std.specs.Prelude.{Option, None, ◌⊎◌, IfSome, Result, Ok, Err, IfErr, OnErr}
use Rattle.std.proofs.KnownBytes.{Consumes-nil, Keeps-refl}
use Rattle.byte_ports.specs.Ports.{AppendsFront}
use Rattle.layer_shelf.specs.Shelves.{file_at}
use Rattle.lsmt_header.specs.declared.head.Head.{Head}
use Rattle.flat_image.specs.LayerFiles.{LayerOf}
use Rattle.flat_image.specs.Stacks.{Legal}
use Rattle.sealed_layer.specs.Layers.{LayerIndex}
use Rattle.sealed_layer.specs.LayerFaults.{IsLayerFault}
use Rattle.tool_setup.specs.declared.command.Command.{Command}
use Rattle.tool_setup.specs.declared.command.Command.TheVariants.{Flatten, Info, Stack}
use Rattle.layer_commands.specs.declared.refusal.Refusal.{Refusal}
use Rattle.layer_commands.specs.declared.refusal.Refusal.TheVariants as refused
use Rattle.layer_commands.specs.Reports.{info_lines, stack_lines}
use Rattle.layer_commands.specs.Prints.{Prints}
use Rattle.layer_commands.specs.Causes.{Cause, PrintsFront}
use Rattle.layer_commands.specs.Ports.{Ports, TakesAtMost, shelf_ports}
use Rattle.layer_commands.specs.Flattening.{AreTold, told_flat, upper_sectors}
use Rattle.layer_commands.specs.Reading.{IsFileRefusal, IsStackRefusal}
use Rattle.layer_commands.proofs.ToldLayers.{layers_of, one_file, told_layers, told_heads, told_image}
use Rattle.layer_commands.proofs.Pieces.{IfSome-at, IfSome-each}

none_taken : TakesAtMost None None 0
none_taken = ([], Consumes-nil None, omega arith)

-- the shelf's layers were refused
pub flatten_refused : (files files' : Option (List (List ℕ))) (count count' before now : ℕ) (old : Option (List ℕ)) (s s' : ℕ) (refusal : Refusal) → IsStackRefusal files count refusal
    → Cause (Flatten false) (shelf_ports files count before old s) (shelf_ports files' count' now old s') refusal
flatten_refused files files' count count' before now old s s' refused.Memory cause = (none_taken, inl (Keeps-refl old))
flatten_refused files files' count count' before now old s s' refused.ShelfFault cause = ((λ reads. reads), inl (Keeps-refl old))
flatten_refused files files' count count' before now old s s' (refused.Layer number fault) cause = (cause, Keeps-refl old)
flatten_refused files files' count count' before now old s s' (refused.Stack fault) cause = (tt, cause.0, cause.1, Keeps-refl old)
flatten_refused files files' count count' before now old s s' other cause = absurd cause

-- the shelf's layers were refused
pub stack_refused : (files files' : Option (List (List ℕ))) (count count' before now : ℕ) (old : Option (List ℕ)) (s s' : ℕ) (refusal : Refusal) → IsStackRefusal files count refusal
    → Cause Stack (shelf_ports files count before old s) (shelf_ports files' count' now old s') refusal
stack_refused files files' count count' before now old s s' refused.Memory cause = (none_taken, inl (Keeps-refl old))
stack_refused files files' count count' before now old s s' refused.ShelfFault cause = ((λ reads. reads), inl (Keeps-refl old))
stack_refused files files' count count' before now old s s' (refused.Layer number fault) cause = (cause, Keeps-refl old)
stack_refused files files' count count' before now old s s' (refused.Stack fault) cause = (tt, cause.0, cause.1, Keeps-refl old)
stack_refused files files' count count' before now old s s' other cause = absurd cause

-- the one layer was refused
pub info_refused : (files files' : Option (List (List ℕ))) (k count count' before now : ℕ) (old : Option (List ℕ)) (s s' : ℕ) → IfSome files (λ list. length list ≡ count) → k < count
    → (refusal : Refusal) → IsFileRefusal files k refusal
    → Cause (Info k) (shelf_ports files count before old s) (shelf_ports files' count' now old s') refusal
info_refused files files' k count count' before now old s s' counted within refused.Memory cause = (none_taken, inl (Keeps-refl old))
info_refused files files' k count count' before now old s s' counted within refused.ShelfFault cause = ((λ reads. reads), inl (Keeps-refl old))
info_refused files files' k count count' before now old s s' counted within (refused.Layer number fault) (same, bad, real) = (
  IfSome-each files (λ list e.
      let whole : length list ≡ count = IfSome-at files (λ list. length list ≡ count) list e counted in
      let here : IsLayerFault (file_at list k) fault = IfSome-at files (λ list. IsLayerFault (file_at list k) fault) list e bad in
      (same, omega (arith, whole, same), subst (λ (n : ℕ). IsLayerFault (file_at list n) fault) (sym same) here, real)),
  Keeps-refl old,
)
info_refused files files' k count count' before now old s s' counted within other cause = absurd cause

-- ---- what was written

-- writing a text failed
pub sink_refused : {T : Type 0} (r : Result T Refusal) (command : Command) (before now : Ports) (old new : Option (List ℕ)) (text : List ℕ) → IfErr r (λ refusal. refusal ≡ refused.SinkFault)
    → OnErr r (AppendsFront old new text) → (AppendsFront old new text → PrintsFront command before now) → IfErr r (Cause command before now)
sink_refused (Ok value) command before now old new text is front prints = tt
sink_refused (Err refusal) command before now old new text is front prints =
    subst (λ (refusal : Refusal). Cause command before now refusal) (sym is) (prints front)

-- Of what a command prints where it succeeds that was written which the relation says: all of it, or a front.
pub flatten_told : (W : List ℕ → Type 0) (files : Option (List (List ℕ))) (layers : List LayerIndex) (n : ℕ)
    → IfSome files (λ list. AreTold list layers) → Legal (map (λ layer. layer.head) layers) → n ≡ upper_sectors layers
    → IfSome files (λ list. W (told_flat n list layers)) → IfSome files (λ list. (bytes : List ℕ) × Prints (Flatten false) list bytes × W bytes)
flatten_told W files layers n told legal size written =
    IfSome-each files (λ list e.
    let are : AreTold list layers = IfSome-at files (λ list. AreTold list layers) list e told in (
      told_flat n list layers,
      (layers_of list layers, told_layers list layers are, subst Legal (sym (told_heads list layers are)) legal, sym (told_image n list layers are size)),
      IfSome-at files (λ list. W (told_flat n list layers)) list e written,
    ))

pub stack_told : (W : List ℕ → Type 0) (files : Option (List (List ℕ))) (layers : List LayerIndex) (text : List ℕ)
    → IfSome files (λ list. AreTold list layers) → Legal (map (λ layer. layer.head) layers) → text ≡ stack_lines 0 (map (λ layer. layer.head) layers)
    → W text → IfSome files (λ list. (bytes : List ℕ) × Prints Stack list bytes × W bytes)
stack_told W files layers text told legal is written =
    IfSome-each files (λ list e.
    let are : AreTold list layers = IfSome-at files (λ list. AreTold list layers) list e told in
    let heads = told_heads list layers are in
    (text, (layers_of list layers, told_layers list layers are, subst Legal (sym heads) legal, is ∙ ap (λ (heads : List Head). stack_lines 0 heads) (sym heads)), written))

pub info_told : (W : List ℕ → Type 0) (files : Option (List (List ℕ))) (layer : LayerIndex) (k count : ℕ) (text : List ℕ)
    → IfSome files (λ list. length list ≡ count) → k < count → IfSome files (λ list. LayerOf (file_at list k) layer.head layer.rows) → text ≡ info_lines k layer.head
    → W text → IfSome files (λ list. (bytes : List ℕ) × Prints (Info k) list bytes × W bytes)
info_told W files layer k count text counted within of is written =
    IfSome-each files (λ list e.
    let whole : length list ≡ count = IfSome-at files (λ list. length list ≡ count) list e counted in
    let here : LayerOf (file_at list k) layer.head layer.rows = IfSome-at files (λ list. LayerOf (file_at list k) layer.head layer.rows) list e of in
    (text, (record { head = layer.head; sheet = _ }, omega (arith, whole), one_file (file_at list k) layer here, is), written))

pub flat_refused : (files files' : Option (List (List ℕ))) (count count' before now : ℕ) (old new : Option (List ℕ)) (s s' : ℕ) (same : Type 0) (refusal : Refusal)
    → PrintsFront (Flatten false) (shelf_ports files count before old s) (shelf_ports files' count' now new s')
    → (refusal ≡ refused.ShelfFault) ⊎ (refusal ≡ refused.SinkFault) ⊎ ((refusal ≡ refused.Memory) × same)
    → Cause (Flatten false) (shelf_ports files count before old s) (shelf_ports files' count' now new s') refusal
flat_refused files files' count count' before now old new s s' same refusal front (inl is) =
    subst (λ (r : Refusal). Cause (Flatten false) (shelf_ports files count before old s) (shelf_ports files' count' now new s') r) (sym is) ((λ reads. reads), inr front)
flat_refused files files' count count' before now old new s s' same refusal front (inr (inl is)) =
    subst (λ (r : Refusal). Cause (Flatten false) (shelf_ports files count before old s) (shelf_ports files' count' now new s') r) (sym is) front
flat_refused files files' count count' before now old new s s' same refusal front (inr (inr is)) =
    subst (λ (r : Refusal). Cause (Flatten false) (shelf_ports files count before old s) (shelf_ports files' count' now new s') r) (sym is.0) (none_taken, inr front)

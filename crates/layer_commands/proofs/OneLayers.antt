-- One layer that is flattened.
use Rattle.std.proofs.Common.{◌≡◌, ℕ, ◌^◌, ◌≤◌, true, List, [], ◌∷◌, length, refl, sym, subst, arith, inl, inr}
use Rattle.std.specs.Prelude.{Option, Some, None, IfSome, Result, Ok, Err, IfErr, OnErr, ◌⊎◌}
use Rattle.std.specs.Option.{option_map}
use Rattle.std.specs.Io.KnownBytes.{Appends, Keeps}
use Rattle.std.proofs.KnownBytes.{Keeps-refl}
use Rattle.std.proofs.lemmas.List.Elements.{All-cons, All-nil}
use Rattle.byte_ports.specs.Ports.{AppendsFront}
use Rattle.flat_image.specs.LayerFiles.{LayerOf}
use Rattle.sealed_layer.specs.Layers.{LayerIndex}
use Rattle.sealed_layer.specs.LayerFaults.{IsLayerFault}
use Rattle.sealed_layer.specs.declared.fault.LayerFault.{LayerFault}
use Rattle.sealed_layer.specs.declared.fault.LayerFault.TheVariants as f
use Rattle.tool_setup.specs.declared.command.Command.TheVariants.{Flatten}
use Rattle.layer_commands.specs.declared.refusal.Refusal.{Refusal}
use Rattle.layer_commands.specs.declared.refusal.Refusal.TheVariants as refused
use Rattle.layer_commands.specs.Prints.{AreShort, Prints}
use Rattle.layer_commands.specs.Causes.{Cause, PrintsAll, IsOfFile, StopsAt}
use Rattle.layer_commands.specs.Ports.{TakesAtMost, source_ports}
use Rattle.layer_commands.specs.Input.{IsInputRefusal}
use Rattle.layer_commands.specs.Flattening.{AreTold, told_flat}
use Rattle.layer_commands.specs.Reading.{refusal_of}
use Rattle.layer_commands.specs.OneLayer.{IsImageOf, WritesImage, WritesFront, IsImageCause}
use Rattle.layer_commands.proofs.ToldLayers.{layers_of, told_layers, told_image}

pub kept_by : {S : Type 0} (written : S → Option (List ℕ)) (old new : S) → new ≡ old → Keeps (written old) (written new)
kept_by written old new same = subst (λ state. Keeps (written old) (written state)) (sym same) (Keeps-refl (written old))

-- the file is no layer
stops : (file : List ℕ) (fault : LayerFault) → IsLayerFault file fault → IsOfFile fault → StopsAt (file ∷ []) 0 fault
stops file fault bad real = record { within = omega arith; below = []; before = tt; here = bad; of_file = real }

pub file_refused : (file : List ℕ) (old : Option (List ℕ)) (fault : LayerFault) → IsLayerFault file fault → (fault ≡ f.Failed → ⊥) → IsImageCause file old old (refusal_of 0 fault)
file_refused file old f.Failed bad sure = absurd (sure refl)
file_refused file old f.Memory bad sure = Keeps-refl old
file_refused file old f.Short bad sure = (stops file f.Short bad (sure, λ e. cc), Keeps-refl old)
file_refused file old (f.Head fault) bad sure = (stops file (f.Head fault) bad (sure, λ e. cc), Keeps-refl old)
file_refused file old f.TrailerDiffers bad sure = (stops file f.TrailerDiffers bad (sure, λ e. cc), Keeps-refl old)
file_refused file old (f.TooManyRows rows) bad sure = (stops file (f.TooManyRows rows) bad (sure, λ e. cc), Keeps-refl old)
file_refused file old f.BadIndexPlace bad sure = (stops file f.BadIndexPlace bad (sure, λ e. cc), Keeps-refl old)
file_refused file old (f.Row row fault) bad sure = (stops file (f.Row row fault) bad (sure, λ e. cc), Keeps-refl old)
file_refused file old (f.RowOrder row) bad sure = (stops file (f.RowOrder row) bad (sure, λ e. cc), Keeps-refl old)
file_refused file old (f.RowRange row) bad sure = (stops file (f.RowRange row) bad (sure, λ e. cc), Keeps-refl old)
file_refused file old (f.RowPlace row) bad sure = (stops file (f.RowPlace row) bad (sure, λ e. cc), Keeps-refl old)

-- its flat image
image_of : (file : List ℕ) (layer : LayerIndex) → LayerOf file layer.head layer.rows → IsImageOf file (told_flat layer.head.sectors (file ∷ []) (layer ∷ []))
image_of file layer of =
    let told : AreTold (file ∷ []) (layer ∷ []) = (of, tt) in
    (layers_of (file ∷ []) (layer ∷ []), told_layers (file ∷ []) (layer ∷ []) told, sym (told_image layer.head.sectors (file ∷ []) (layer ∷ []) told refl))

pub one_image : (file : List ℕ) (layer : LayerIndex) (old new : Option (List ℕ)) → LayerOf file layer.head layer.rows
    → Appends old new (told_flat layer.head.sectors (file ∷ []) (layer ∷ [])) → WritesImage file old new
one_image file layer old new of written = (told_flat layer.head.sectors (file ∷ []) (layer ∷ []), image_of file layer of, written)

-- writing it was refused
pub flat_caused : (file : List ℕ) (layer : LayerIndex) (old new : Option (List ℕ)) (refusal : Refusal) → LayerOf file layer.head layer.rows
    → AppendsFront old new (told_flat layer.head.sectors (file ∷ []) (layer ∷ []))
    → (refusal ≡ refused.SinkFault) ⊎ ((refusal ≡ refused.Memory) × Keeps old new) → IsImageCause file old new refusal
flat_caused file layer old new refusal of front (inl is) =
    subst (λ (r : Refusal). IsImageCause file old new r) (sym is) (told_flat layer.head.sectors (file ∷ []) (layer ∷ []), image_of file layer of, front)
flat_caused file layer old new refusal of front (inr is) = subst (λ (r : Refusal). IsImageCause file old new r) (sym is.0) is.1

pub err_each : {T E : Type 0} (r : Result T E) (P Q : E → Type 0) → ((y : E) → r ≡ Err y → P y → Q y) → IfErr r P → IfErr r Q
err_each (Ok x) P Q each h = tt
err_each (Err y) P Q each h = each y refl h

pub err_both : {T E : Type 0} (r : Result T E) (F : Type 0) (P Q : E → Type 0) → ((y : E) → r ≡ Err y → F → P y → Q y) → OnErr r F → IfErr r P → IfErr r Q
err_both (Ok x) F P Q each f h = tt
err_both (Err y) F P Q each f h = each y refl f h

-- ---- the bytes are those of the source

told_as : (left : Option (List ℕ)) (file : List ℕ) (P : List (List ℕ) → Type 0) → IfSome left (λ whole. file ≡ whole) → P (file ∷ []) → IfSome (option_map (λ file. file ∷ []) left) P
told_as None file P same p = tt
told_as (Some whole) file P same p = subst (λ (one : List ℕ). P (one ∷ [])) same p

short_one : (file : List ℕ) → length file ≤ 2 ^ 30 → AreShort (file ∷ [])
short_one file few = let P : List ℕ → Type 0 = λ file. length file ≤ 2 ^ 30 in All-cons P file [] few (All-nil P)

pub source_done : (left left' : Option (List ℕ)) (file : List ℕ) (old new : Option (List ℕ)) (a a' s s' : ℕ) → IfSome left (λ whole. file ≡ whole) → length file ≤ 2 ^ 30
    → WritesImage file old new → PrintsAll (Flatten true) (source_ports left a old s) (source_ports left' a' new s')
source_done left left' file old new a a' s s' same few (bytes, (layers, are, is), written) =
    told_as left file (λ files. (bytes : List ℕ) × Prints (Flatten true) files bytes × Appends old new bytes) same (bytes, (layers, short_one file few, are, is), written)

source_front : (left : Option (List ℕ)) (file : List ℕ) (old new : Option (List ℕ)) → IfSome left (λ whole. file ≡ whole) → length file ≤ 2 ^ 30
    → WritesFront file old new
    → IfSome (option_map (λ file. file ∷ []) left) (λ files. (bytes : List ℕ) × Prints (Flatten true) files bytes × AppendsFront old new bytes)
source_front left file old new same few (bytes, (layers, are, is), written) =
    told_as left file (λ files. (bytes : List ℕ) × Prints (Flatten true) files bytes × AppendsFront old new bytes) same (bytes, (layers, short_one file few, are, is), written)

pub source_cause : (left left' : Option (List ℕ)) (file : List ℕ) (old new : Option (List ℕ)) (a a' s s' : ℕ) → IfSome left (λ whole. file ≡ whole) → length file ≤ 2 ^ 30
    → TakesAtMost left left' (2 ^ 30) → (refusal : Refusal) → IsImageCause file old new refusal
    → Cause (Flatten true) (source_ports left a old s) (source_ports left' a' new s') refusal
source_cause left left' file old new a a' s s' same few takes refused.SinkFault cause = source_front left file old new same few cause
source_cause left left' file old new a a' s s' same few takes refused.Memory cause = (takes, inl cause)
source_cause left left' file old new a a' s s' same few takes (refused.Layer number fault) cause =
    (told_as left file (λ files. AreShort files × StopsAt files number fault) same (short_one file few, cause.0), cause.1)
source_cause left left' file old new a a' s s' same few takes other cause = absurd cause

pub input_caused : (left left' old : Option (List ℕ)) (a a' s : ℕ) (refusal : Refusal) → IsInputRefusal left left' (2 ^ 30) refusal
    → Cause (Flatten true) (source_ports left a old s) (source_ports left' a' old s) refusal
input_caused left left' old a a' s refused.SourceFault cause = (tt, Keeps-refl old)
input_caused left left' old a a' s refused.TooLong cause = (tt, cause, Keeps-refl old)
input_caused left left' old a a' s refused.Memory cause = ((cause.bytes, cause.taken, cause.short), inl (Keeps-refl old))
input_caused left left' old a a' s other cause = absurd cause

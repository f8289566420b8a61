-- A new image stands for nothing written over its lower layers.
use Rattle.std.proofs.Common.{◌≡◌, ℕ, zero, suc, ◌+◌, ◌≤◌, Bool, true, false, inl, List, [], ◌∷◌, length, map, refl, sym, ap, ◌∙◌, subst, arith}
use Rattle.std.specs.Prelude.{All, nat_eq, Some, None, slice_index_or}
use Rattle.std.specs.Arc.{arc_value}
use Rattle.std.proofs.lemmas.List.{append-nil, length-replicate}
use Rattle.std.proofs.lemmas.List.Elements.{All-nil, All-replicate}
use Rattle.std.proofs.lemmas.Grind.{get_or_head}
use Rattle.block_disk.specs.DiskState.{DiskState, Spares}
use Rattle.gate_mark.specs.Mark.{file_of, sequence_in, IsKept, MayHold}
use Rattle.lsmt_header.specs.Blocks.{IsSize, nil}
use Rattle.sealed_layer.specs.Layers.{LayerIndex}
use Rattle.flat_image.specs.declared.base.Base.{Base}
use Rattle.flat_image.specs.Sheets.{Hole, IsCell}
use Rattle.flat_image.specs.LayerFiles.{LayerOf, LayerFile, AreHeadsOf}
use Rattle.flat_image.specs.RowCells.{sheet_of}
use Rattle.flat_image.specs.LayerReading.{size_in}
use Rattle.flat_image.specs.Stacks.{AreRising}
use Rattle.flat_image.specs.Base.{top_uuid, IsLayerFile, IsBase}
use Rattle.flat_image.specs.Left.{fresh_stand, Blamed}
use Rattle.flat_image.proofs.LayerLaws.{uuid_in-layer}
use Rattle.flat_image.proofs.SealedSheets.{fresh-few}
use Rattle.top_writer.specs.Files.{asked_of}
use Rattle.top_writer.specs.Fitting.{TopFits}
use Rattle.top_writer.specs.View.{epoch_of, sequence_of}
use Rattle.top_writer.proofs.Going.{fits_spared}
use Rattle.image_core.specs.declared.parts.Stack.{Stack}
use Rattle.image_core.specs.declared.parts.Parts.{Parts}
use Rattle.image_core.specs.Parts.{CommitsFit, NextsFit, IsBareStack, StackFits}
use Rattle.image_core.specs.Numbers.{manifest_file}
use Rattle.image_core.specs.Manifest.{Names, IsWritten, exact_said}
use Rattle.image_core.specs.Shows.{HaveSize, AreStack, IsSound}
use Rattle.image_core.specs.View.{AreLayersOf}
use Rattle.image_core.specs.Pieces.{IsSnapshotOf}
use Rattle.image_core.specs.Seen.{Seen, StandsFor}
use Rattle.image_core.specs.Loading.{heads_in, upper_uuid, AreStackOrNone}
use Rattle.image_core.specs.Creating.{AreLegal, fresh_at}
use Rattle.image_core.proofs.Lifts.{kept-one}
use Rattle.image_core.proofs.SheetsRead.{layers-length}
use Rattle.image_core.proofs.Sizes.{heads-layers, stack-rising}
use Rattle.image_core.proofs.StackLaws.{not-manifest}

pub layer-file : (file : List ℕ) (layer : LayerIndex) → LayerOf file layer.head layer.rows → LayerFile file layer.head (sheet_of file layer.head.sectors layer.rows)
layer-file file layer is = record { rows = layer.rows; layer = is; sheet_is = refl }

-- the uuid of the uppermost layer is that of the uppermost file
pub same-upper : (files : List (List ℕ)) (layers : List LayerIndex) → AreLayersOf files layers → upper_uuid layers ≡ top_uuid files
same-upper [] [] are = refl
same-upper [] (layer ∷ layers) are = absurd are
same-upper (file ∷ files) [] are = absurd are
same-upper (file ∷ []) (layer ∷ []) are = sym (uuid_in-layer file layer.head (sheet_of file layer.head.sectors layer.rows) (layer-file file layer are.0))
same-upper (file ∷ []) (layer ∷ next ∷ layers) are = absurd are.1
same-upper (file ∷ next ∷ files) (layer ∷ []) are = absurd are.1
same-upper (file ∷ next ∷ files) (layer ∷ above ∷ layers) are = same-upper (next ∷ files) (above ∷ layers) are.1

-- the files have the heads of the layers
pub heads-of : (files : List (List ℕ)) (layers : List LayerIndex) → AreLayersOf files layers → AreHeadsOf files (heads_in layers)
heads-of [] [] are = tt
heads-of [] (layer ∷ layers) are = absurd are
heads-of (file ∷ files) [] are = absurd are
heads-of (file ∷ files) (layer ∷ layers) are =
    (record { sheet = sheet_of file layer.head.sectors layer.rows; layer = layer-file file layer are.0 }, heads-of files layers are.1)

module _ (exact : Bool) (n : ℕ) (files : List (List ℕ)) (layers : List LayerIndex) (faults : ℕ) (few : length layers ≤ 255) (sizes : HaveSize exact n (heads_in layers))
    (stack : AreStackOrNone layers) (size : IsSize n) (are : AreLayersOf files layers) where
  heads : AreHeadsOf files (heads_in layers)
  heads = heads-of files layers are

  fresh-stack : AreStack exact n files
  fresh-stack = record { heads = heads_in layers; are = heads; sizes = sizes; legal = λ some. stack (omega (arith, some, layers-length files layers are)) }

  pub fresh-sound : IsSound exact (fresh_at n files faults)
  fresh-sound = record {
    size = size;
    few = omega (arith, few, layers-length files layers are);
    stack = subst (AreStack exact n) (sym (append-nil files)) fresh-stack;
    unlike = tt;
  }

  pub fresh-base : IsBase (fresh_at n files faults)
  fresh-base = record {
    top_is = record { some = size.0; few = size.1; count = length-replicate n Hole; cells = All-replicate IsCell n Hole tt };
    frozen_is = tt;
    layers = subst (All IsLayerFile) (sym (append-nil files)) (heads-layers files (heads_in layers) heads);
    rising = subst (λ (l : List (List ℕ)). AreRising 0 n (map size_in l)) (sym (append-nil files)) (stack-rising exact n files fresh-stack);
  }

-- only lower layers stand under the top
pub bare-fits : (tells : Bool) (disk : DiskState) (exact : Bool) (n : ℕ) (files : List (List ℕ)) (layers : List LayerIndex) (s : Stack) → AreLayersOf files layers → IsBareStack layers s
    → StackFits tells disk exact n files [] None s
bare-fits tells disk exact n files layers s are bare = record {
  lowers_are = subst (AreLayersOf files) (sym bare.lowers) are;
  committed = subst (AreLayersOf []) (sym bare.committed) tt;
  sealed = λ k below. absurd (omega (arith, below));
  snapshot = subst (λ l. IsSnapshotOf (arc_value s.snapshot) l s.committed.items) (sym bare.lowers) (subst (IsSnapshotOf (arc_value s.snapshot) layers) (sym bare.committed) bare.snapshot);
  commit = subst (CommitsFit tells disk exact n files [] None) (sym bare.commit) tt;
  becomes = λ c is. absurd (let e : Some c ≡ None = sym is ∙ bare.commit in cc);
  next = subst (NextsFit tells disk n 0 None) (sym bare.next) tt;
}

module _ (n : ℕ) (files : List (List ℕ)) (layers : List LayerIndex) (faults : ℕ) (legal : AreLegal n layers) (size : IsSize n) (are : AreLayersOf files layers) where
  -- the parts of a new image, of which the mark was made last
  pub created : (tells : Bool) (mid disk : DiskState) (p : Parts) (parent body : List ℕ) (slice : List LayerIndex) → slice ≡ layers → IsBareStack layers p.stack → p.steps ≡ 0
      → parent ≡ upper_uuid slice
      → ((exact : Bool) → TopFits tells mid n (asked_of exact (Some parent)) p.top (fresh_stand n) (fresh_stand n ∷ [])) → epoch_of p.top ≡ 0 → sequence_of p.top ≡ 1
      → Spares (λ f. f ≡ manifest_file) mid disk → file_of p.manifest ≡ manifest_file → sequence_in p.manifest ≡ 1 → IsKept disk p.manifest
      → ((b : List ℕ) → MayHold p.manifest b → b ≡ body) → IsWritten body 0 None n
      → StandsFor (record { tells = tells; state = disk; faults = faults; parts = p }) (fresh_at n files faults) []
  created tells mid disk p parent body slice same bare steps parent_is top epoch sequence spares file made kept bodies names =
      let uppermost : parent ≡ top_uuid files = parent_is ∙ (ap upper_uuid same ∙ same-upper files layers are) in
      let fits : TopFits tells disk n (asked_of false (Some parent)) p.top (fresh_stand n) (fresh_stand n ∷ []) =
      fits_spared tells mid disk n (asked_of false (Some parent)) p.top (fresh_stand n) (fresh_stand n ∷ []) (λ f. f ≡ manifest_file) spares
      (λ f of_top is. not-manifest (epoch_of p.top) f is of_top) (top false) in
      record {
        base_is = fresh-base false n files layers faults legal.few legal.sizes legal.legal size are;
        few = record { top = (fresh-few n files).top; frozen = tt };
        proper = record { rows_fit = omega arith; sectors_fit = omega arith };
        failed = omega arith;
        steps = steps;
        low = omega (arith, sequence);
        manifest_low = omega (arith, made);
        tops = fresh_stand n ∷ [];
        attempts = [];
        fits = record {
          exact = false;
          sound = fresh-sound false n files layers faults legal.few legal.sizes legal.legal size are;
          manifest_is = file;
          manifest = kept;
          format = λ b may is.
              let not : exact_said b ≡ false = ap exact_said (bodies b may) ∙ ap (λ (f : ℕ). nat_eq f 0) names.format in
              absurd (let no : false ≡ true = sym not ∙ is in cc);
          named = λ b may. inl (subst (λ (x : List ℕ). Names x 0 None n) (sym (bodies b may)) names.names);
          stack = bare-fits tells disk false n files layers p.stack are bare;
          epoch = epoch;
          top = subst (λ (u : List ℕ). TopFits tells disk n (asked_of false (Some u)) p.top (fresh_stand n) (fresh_stand n ∷ [])) uppermost fits;
        };
        kept = kept-one (fresh_at n files faults) [] (fresh_stand n) refl;
        blamed = All-nil (Blamed []);
      }

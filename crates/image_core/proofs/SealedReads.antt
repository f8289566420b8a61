-- Reading the sealed files of an image one after another.
use Rattle.std.proofs.Common.{◌≡◌, ◌≢◌, ◌⊎◌, ℕ, zero, suc, ◌+◌, ◌<◌, ◌≤◌, inl, inr, Bool, IsTrue, List, [], ◌∷◌, ◌++◌, length, map, take, get_or, refl, sym, ap, ◌∙◌, subst, arith, length-append}
use Rattle.std.specs.Prelude.{All, Contains, slice_index_or}
use Rattle.std.proofs.lemmas.List.{append-nil, append_assoc, take_more, map-append}
use Rattle.std.proofs.lemmas.List.Elements.{All-nil, All-cons, All-head, All-tail, All-append}
use Rattle.std.proofs.lemmas.Bool.Decides.{leb_tells}
use Rattle.std.proofs.lemmas.List.FromFn.{map-range_with_len_more}
use Rattle.block_disk.specs.Changes.{Only}
use Rattle.block_disk.specs.Claims.{Quiet}
use Rattle.block_disk.specs.DiskState.{DiskState, Files, Leaves}
use Rattle.lsmt_header.specs.declared.head.Head.{Head}
use Rattle.flat_image.specs.LayerFiles.{LayerOf}
use Rattle.sealed_layer.specs.Layers.{LayerIndex}
use Rattle.sealed_layer.specs.LayerFaults.{IsLayerFault}
use Rattle.sealed_layer.specs.declared.fault.LayerFault.{LayerFault}
use Rattle.top_writer.specs.Files.{IsSizeFor}
use Rattle.top_writer.proofs.QuietLaws.{quiet_none, quiet_joined}
use Rattle.image_core.specs.Numbers.{sealed_file}
use Rattle.image_core.specs.Shows.{HaveSize}
use Rattle.image_core.specs.View.{AreLayersOf, sealed_read}
use Rattle.image_core.specs.Loading.{heads_in}
use Rattle.image_core.specs.Found.{AreRead}
use Rattle.image_core.proofs.FrozenTops.{layers-append}
use Rattle.image_core.proofs.LoadedParts.{seen-same}

-- so many sealed files were read, and their layers stand behind those that were there
pub record AreReadTo (tells : Bool) (old now : DiskState) (before all : List LayerIndex) (count : ℕ) : Type 0 where
  pub sealed : List LayerIndex
  pub behind : all ≡ before ++ sealed
  pub number : length sealed ≡ count
  pub read : AreRead tells old now sealed
  pub quiet : Quiet old now

pub reads-none : (tells : Bool) (now : DiskState) (before : List LayerIndex) → ((files : Files) → now.left_at now.moment files → Leaves now files)
    → AreReadTo tells now now before before 0
reads-none tells now before now_at = record {
  sealed = [];
  behind = sym (append-nil before);
  number = refl;
  read = record { told = λ told. tt; left = λ k below. absurd (omega (arith, below)) };
  quiet = quiet_none now now_at;
}

pub reads-more : (tells : Bool) (old mid new : DiskState) (before all more : List LayerIndex) (count file : ℕ) (layer : LayerIndex) → AreReadTo tells old mid before all count
    → Quiet mid new → file ≡ sealed_file count → (IsTrue tells → LayerOf (mid.seen file) layer.head layer.rows) → Only (mid.seen file) (new.may_leave file)
    → more ≡ all ++ layer ∷ [] → AreReadTo tells old new before more (count + 1)
reads-more tells old mid new before all more count file layer reads quiet file_is found only items =
    let seen : mid.seen ≡ old.seen = seen-same old mid reads.quiet in
    let long : length (reads.sealed ++ layer ∷ []) ≡ count + 1 = length-append reads.sealed (layer ∷ []) ∙ (let e : length reads.sealed + 1 ≡ count + 1 = omega (arith, reads.number) in e) in
    let f : ℕ → List ℕ = λ k. old.seen (sealed_file k) in
    record {
      sealed = reads.sealed ++ layer ∷ [];
      behind = items ∙ (ap (λ (l : List LayerIndex). l ++ layer ∷ []) reads.behind ∙ append_assoc before reads.sealed (layer ∷ []));
      number = long;
      read = record {
        told = λ told.
            let own : LayerOf (old.seen (sealed_file count)) layer.head layer.rows =
            subst (λ (files : Files). LayerOf (files (sealed_file count)) layer.head layer.rows) seen
            (subst (λ (k : ℕ). LayerOf (mid.seen k) layer.head layer.rows) file_is (found told)) in
            let others : AreLayersOf (sealed_read old.seen count) reads.sealed =
            subst (λ (k : ℕ). AreLayersOf (sealed_read old.seen k) reads.sealed) reads.number (reads.read.told told) in
            subst (λ (k : ℕ). AreLayersOf (sealed_read old.seen k) (reads.sealed ++ layer ∷ [])) (sym long)
            (subst (λ (l : List (List ℕ)). AreLayersOf l (reads.sealed ++ layer ∷ [])) (sym (map-range_with_len_more f 0 count count (omega arith)))
            (layers-append (sealed_read old.seen count) (old.seen (sealed_file count) ∷ []) reads.sealed (layer ∷ []) others (own, tt)));
        left = λ k below. elim (leb_tells (k + 1) count) [
          | inl less ↦ λ c left. reads.read.left k (omega (arith, less.1, reads.number)) c (quiet.others.left (sealed_file k) c (λ none. none) left)
          | inr last ↦
              let here : k ≡ count = omega (arith, last.1, below, long) in
              subst (λ (j : ℕ). Only (old.seen (sealed_file j)) (new.may_leave (sealed_file j))) (sym here)
              (subst (λ (files : Files). Only (files (sealed_file count)) (new.may_leave (sealed_file count))) seen
              (subst (λ (j : ℕ). Only (mid.seen j) (new.may_leave j)) file_is only))
        ];
      };
      quiet = quiet_joined old mid new reads.quiet quiet;
    }

-- one layer more has sectors for an image,
pub size-more : (exact : Bool) (n : ℕ) (layers : List LayerIndex) (i : ℕ) (x : LayerIndex) (h : Head) → i < length layers → slice_index_or layers i x ≡ x → h ≡ x.head
    → HaveSize exact n (heads_in (take i layers)) → IsSizeFor exact n h.sectors → HaveSize exact n (heads_in (take (i + 1) layers))
size-more exact n layers i x h below is head sizes fits =
    let Size : Head → Type 0 = λ h. IsSizeFor exact n h.sectors in
    let took : take (i + 1) layers ≡ take i layers ++ x ∷ [] = take_more layers i x below ∙ ap (λ (l : LayerIndex). take i layers ++ l ∷ []) is in
    subst (λ (l : List LayerIndex). HaveSize exact n (heads_in l)) (sym took)
    (subst (HaveSize exact n) (sym (map-append (λ (l : LayerIndex). l.head) (take i layers) (x ∷ [])))
    (All-append Size (heads_in (take i layers)) (x.head ∷ []) sizes (All-cons Size x.head [] (subst Size head fits) (All-nil Size))))

-- and where all have, each has
pub size-at : (exact : Bool) (n : ℕ) (layers : List LayerIndex) (i : ℕ) (x : LayerIndex) → i < length layers → slice_index_or layers i x ≡ x → HaveSize exact n (heads_in layers)
    → IsSizeFor exact n x.head.sectors
size-at exact n [] i x below is sizes = absurd (omega (arith, below))
size-at exact n (l ∷ layers) zero x below is sizes = subst (λ (y : LayerIndex). IsSizeFor exact n y.head.sectors) is (All-head (λ (h : Head). IsSizeFor exact n h.sectors) l.head (heads_in layers) sizes)
size-at exact n (l ∷ layers) (suc i) x below is sizes = size-at exact n layers i x (omega (arith, below)) is (All-tail (λ (h : Head). IsSizeFor exact n h.sectors) l.head (heads_in layers) sizes)

-- layers of which none has a uuid do not contain it
pub none-has : (layers : List LayerIndex) (uuid : List ℕ) → All (λ l. l.head.uuid ≢ uuid) layers → Contains (map (λ (l : LayerIndex). l.head.uuid) layers) uuid → ⊥
none-has [] uuid all (k, below, is) = absurd (omega (arith, below))
none-has (l ∷ layers) uuid all (zero, below, is) = All-head (λ (l : LayerIndex). l.head.uuid ≢ uuid) l layers all is
none-has (l ∷ layers) uuid all (suc k, below, is) = none-has layers uuid (All-tail (λ (l : LayerIndex). l.head.uuid ≢ uuid) l layers all) (k, omega (arith, below), is)

-- the next sealed file is none of a layer
pub stops-here : (tells : Bool) (old mid : DiskState) (before all : List LayerIndex) (epoch : ℕ) (reads : AreReadTo tells old mid before all epoch) → IsTrue tells → (file : ℕ) → file ≡ sealed_file epoch
    → (fault : LayerFault) → IsLayerFault (mid.seen file) fault → AreLayersOf (sealed_read old.seen epoch) reads.sealed × IsLayerFault (old.seen (sealed_file epoch)) fault
stops-here tells old mid before all epoch reads told file is fault bad = (
  subst (λ (k : ℕ). AreLayersOf (sealed_read old.seen k) reads.sealed) reads.number (reads.read.told told),
  subst (λ (f : Files). IsLayerFault (f (sealed_file epoch)) fault) (seen-same old mid reads.quiet) (subst (λ (k : ℕ). IsLayerFault (mid.seen k) fault) is bad),
)

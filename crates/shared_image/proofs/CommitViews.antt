-- What the refusals of an image say of what it is made of.
use Rattle.std.proofs.Common.{◌≡◌, ◌≢◌, ℕ, suc, ◌+◌, ◌<◌, ◌≤◌, ◌⊎◌, Bool, List, [], ◌∷◌, ◌++◌, length, map, Option, Some, None, Result, Ok, Err, refl, sym, ap, subst, ◌∙◌, arith, inl, inr, length-append}
use Rattle.std.specs.Prelude.{Contains}
use Rattle.std.specs.Option.{option_map}
use Rattle.std.proofs.lemmas.List.{length-map, map-append}
use Rattle.std.proofs.lemmas.Bool.Decides.{eqb_tells}
use Rattle.lsmt_header.specs.Blocks.{nil}
use Rattle.flat_image.specs.declared.base.Base.{Base}
use Rattle.flat_image.specs.Base.{pending_of}
use Rattle.flat_image.specs.Frozen.{Frozen}
use Rattle.flat_image.specs.History.{History, now, CanFreeze}
use Rattle.flat_image.specs.RowCells.{sheet_of}
use Rattle.flat_image.specs.LayerReading.{uuid_in}
use Rattle.flat_image.proofs.LayerLaws.{uuid_in-layer}
use Rattle.sealed_layer.specs.Layers.{LayerIndex}
use Rattle.image_core.specs.declared.commit.FreezeFault.{FreezeFault}
use Rattle.image_core.specs.declared.commit.FreezeFault.TheVariants as freezes
use Rattle.image_core.specs.declared.commit.CopyFault.{CopyFault}
use Rattle.image_core.specs.declared.commit.CopyFault.TheVariants as copies
use Rattle.image_core.specs.declared.commit.SealFault.{SealFault}
use Rattle.image_core.specs.declared.commit.SealFault.TheVariants as seals
use Rattle.image_core.specs.Committing.{uuids_in, done_of, total_of, IsRefusedFreeze, IsRefusedCopy, IsRefusedSeal}
use Rattle.image_core.specs.Growing.{pending_in}
use Rattle.image_core.specs.Numbers.{with_pending}
use Rattle.image_core.specs.View.{CommitView, ImageView, AreLayersOf, IsCommitOf, IsViewOf}

-- ---- the commit in progress, and the uuids of the layers

pending-is : (epoch : ℕ) (frozen : Option Frozen) (commit : Option CommitView) → IsCommitOf epoch frozen commit → option_map (λ c. c.uuid) commit ≡ pending_of frozen
pending-is epoch None None h = refl
pending-is epoch None (Some c) h = absurd h
pending-is epoch (Some f) None h = absurd h
pending-is epoch (Some f) (Some c) h = ap (λ (u : List ℕ). Some u) h.0

uuids-are : (files : List (List ℕ)) (layers : List LayerIndex) → AreLayersOf files layers → map (λ l. l.head.uuid) layers ≡ map uuid_in files
uuids-are [] [] h = refl
uuids-are [] (l ∷ layers) h = absurd h
uuids-are (f ∷ files) [] h = absurd h
uuids-are (f ∷ files) (l ∷ layers) h =
    let here : uuid_in f ≡ l.head.uuid = uuid_in-layer f l.head (sheet_of f l.head.sectors l.rows) (record { rows = l.rows; layer = h.0; sheet_is = refl }) in
    let rest = uuids-are files layers h.1 in
    λ i. sym here i ∷ rest i

pub pending-here : (b : Base) (v : ImageView) → IsViewOf b v → pending_in v ≡ pending_of b.frozen
pending-here b v is = pending-is (length b.done) b.frozen v.commit is.commit

uuids-here : (b : Base) (v : ImageView) → IsViewOf b v → uuids_in v ≡ map uuid_in (b.lowers ++ b.done)
uuids-here b v is =
    map-append (λ (l : LayerIndex). l.head.uuid) v.lowers v.committed
    ∙ ((λ i. uuids-are b.lowers v.lowers is.lowers i ++ uuids-are b.done v.committed is.committed i)
    ∙ sym (map-append uuid_in b.lowers b.done))

length-uuids : (files : List (List ℕ)) → length (map uuid_in files) ≡ length files
length-uuids files = length-map files uuid_in

-- how many committed layers there are
pub layers-many : (files : List (List ℕ)) (layers : List LayerIndex) → AreLayersOf files layers → length layers ≡ length files
layers-many [] [] h = refl
layers-many [] (l ∷ layers) h = absurd h
layers-many (f ∷ files) [] h = absurd h
layers-many (f ∷ files) (l ∷ layers) h = ap suc (layers-many files layers h.1)

-- ---- equal or not

lists-or : (xs ys : List ℕ) → (xs ≡ ys) ⊎ (xs ≢ ys)
lists-or [] [] = inl refl
lists-or [] (y ∷ ys) = inr (λ e. cc)
lists-or (x ∷ xs) [] = inr (λ e. cc)
lists-or (x ∷ xs) (y ∷ ys) =
    let rest = lists-or xs ys in
    elim (eqb_tells x y) [
      | inl here ↦ elim rest [
        | inl same ↦ inl (λ i. here.1 i ∷ same i)
        | inr other ↦ inr (λ e. other (ap tail_of e))
      ]
      | inr here ↦ inr (λ e. here.1 (ap (head_of x) e))
    ]
  where
    tail_of : List ℕ → List ℕ
    tail_of [] = []
    tail_of (z ∷ zs) = zs

    head_of : ℕ → List ℕ → ℕ
    head_of d [] = d
    head_of d (z ∷ zs) = z

this-or : (pending : Option (List ℕ)) (uuid : List ℕ) → (pending ≡ Some uuid) ⊎ (pending ≢ Some uuid)
this-or None uuid = inr (λ e. cc)
this-or (Some other) uuid = elim (lists-or other uuid) [
  | inl same ↦ inl (ap (λ (u : List ℕ). Some u) same)
  | inr apart ↦ inr (λ e. apart (ap (uuid_or uuid) e))
]
  where
    uuid_or : List ℕ → Option (List ℕ) → List ℕ
    uuid_or d None = d
    uuid_or d (Some u) = u

-- ---- a freeze

abbrev RefusedHere : {T : Type 0} → Base → List ℕ → Result T FreezeFault → Type 0
RefusedHere b uuid outcome = IsRefusedFreeze (pending_of b.frozen) (map uuid_in (b.lowers ++ b.done)) uuid outcome

refused-here : {T : Type 0} (b : Base) (v : ImageView) (uuid : List ℕ) (outcome : Result T FreezeFault) → IsViewOf b v → IsRefusedFreeze (pending_in v) (uuids_in v) uuid outcome
    → RefusedHere b uuid outcome
refused-here b v uuid outcome is r =
    subst (λ (p : Option (List ℕ)). IsRefusedFreeze p (map uuid_in (b.lowers ++ b.done)) uuid outcome) (pending-here b v is)
    (subst (λ (us : List (List ℕ)). IsRefusedFreeze (pending_in v) us uuid outcome) (uuids-here b v is) r)

free-by : (frozen : Option Frozen) → pending_of frozen ≡ None → frozen ≡ None
free-by None is = refl
free-by (Some f) is = absurd (let clash : Some f.uuid ≡ None = is in cc)

none-or : (pending : Option (List ℕ)) → ((other : List ℕ) → pending ≡ Some other → ⊥) → pending ≡ None
none-or None h = refl
none-or (Some u) h = absurd (h u refl)

may-by : {T : Type 0} (b : Base) (uuid : List ℕ) (outcome : Result T FreezeFault) → RefusedHere b uuid outcome → length uuid ≡ 16 → uuid ≢ nil
    → ((other : List ℕ) → outcome ≡ Err (freezes.Busy other) → ⊥) → (outcome ≡ Err freezes.TooMany → ⊥) → (outcome ≡ Err freezes.UuidTwice → ⊥)
    → CanFreeze (b.lowers ++ b.done) b.frozen uuid
may-by b uuid outcome r long named not_busy not_many not_twice =
    let idle : pending_of b.frozen ≡ None = none-or (pending_of b.frozen) (λ other is. not_busy other ((r.busy other).0 is)) in
    let size = length-uuids (b.lowers ++ b.done) in
    let below : 255 ≤ length (map uuid_in (b.lowers ++ b.done)) → ⊥ = λ many. not_many (r.many.0 (idle, many)) in
    let few : length (map uuid_in (b.lowers ++ b.done)) < 255 = grind (arith, below) in
    record {
      long = long;
      named = named;
      free = free-by b.frozen idle;
      few = omega (arith, few, size);
      unlike = λ twice. not_twice (r.twice.0 (idle, few, twice));
    }

-- it may come where it was made, and where there was no memory or the disk failed
abbrev pub HasNoCause : FreezeFault → Type 0
HasNoCause (freezes.Busy other) = ⊥
HasNoCause freezes.TooMany = ⊥
HasNoCause freezes.UuidTwice = ⊥
HasNoCause freezes.Memory = Unit {0}
HasNoCause freezes.Failed = Unit {0}

abbrev fault_or : {T : Type 0} → FreezeFault → Result T FreezeFault → FreezeFault
fault_or d (Ok x) = d
fault_or d (Err fault) = fault

pub may-freeze : {T : Type 0} (b : Base) (v : ImageView) (uuid : List ℕ) (fault : FreezeFault) → IsViewOf b v → IsRefusedFreeze {T = T} (pending_in v) (uuids_in v) uuid (Err fault)
    → length uuid ≡ 16 → uuid ≢ nil → HasNoCause fault → CanFreeze (b.lowers ++ b.done) b.frozen uuid
may-freeze {T} b v uuid fault is r long named none =
    may-by b uuid (Err fault) (refused-here b v uuid (Err fault) is r) long named
    (λ other e. subst HasNoCause (ap (fault_or {T = T} fault) e) none)
    (λ e. subst HasNoCause (ap (fault_or {T = T} fault) e) none)
    (λ e. subst HasNoCause (ap (fault_or {T = T} fault) e) none)

pub busy-here : {T : Type 0} (b : Base) (v : ImageView) (uuid other : List ℕ) (fault : FreezeFault) → IsViewOf b v → IsRefusedFreeze {T = T} (pending_in v) (uuids_in v) uuid (Err fault)
    → fault ≡ freezes.Busy other → pending_of b.frozen ≡ Some other
busy-here b v uuid other fault is r e = ((refused-here b v uuid (Err fault) is r).busy other).1 (ap (λ (f : FreezeFault). Err f) e)

pub many-here : {T : Type 0} (b : Base) (v : ImageView) (uuid : List ℕ) (fault : FreezeFault) → IsViewOf b v → IsRefusedFreeze {T = T} (pending_in v) (uuids_in v) uuid (Err fault)
    → fault ≡ freezes.TooMany → with_pending (length b.lowers + length b.done) (pending_of b.frozen) ≤ 255
    → (pending_of b.frozen ≡ None) × (length (b.lowers ++ b.done) ≡ 255)
many-here b v uuid fault is r e few =
    let h = (refused-here b v uuid (Err fault) is r).many.1 (ap (λ (f : FreezeFault). Err f) e) in
    let most : length b.lowers + length b.done ≤ 255 = subst (λ (p : Option (List ℕ)). with_pending (length b.lowers + length b.done) p ≤ 255) h.0 few in
    let size = length-uuids (b.lowers ++ b.done) in
    let both = length-append b.lowers b.done in
    let least = h.1 in
    (h.0, omega (arith, most, size, both, least))

pub twice-here : {T : Type 0} (b : Base) (v : ImageView) (uuid : List ℕ) (fault : FreezeFault) → IsViewOf b v → IsRefusedFreeze {T = T} (pending_in v) (uuids_in v) uuid (Err fault)
    → fault ≡ freezes.UuidTwice → (pending_of b.frozen ≡ None) × (length (b.lowers ++ b.done) < 255) × Contains (map uuid_in (b.lowers ++ b.done)) uuid
twice-here b v uuid fault is r e =
    let h = (refused-here b v uuid (Err fault) is r).twice.1 (ap (λ (f : FreezeFault). Err f) e) in
    let size = length-uuids (b.lowers ++ b.done) in
    let few = h.1 in
    (h.0, omega (arith, size, few), h.2)

-- ---- a copy, and a seal

abbrev IsRefusedCall : {T E : Type 0} → Result T E → Type 0
IsRefusedCall (Ok x) = ⊥
IsRefusedCall (Err fault) = Unit {0}

abbrev pub IsPending : CopyFault → Type 0
IsPending (copies.NotPending other) = ⊥
IsPending copies.Failed = Unit {0}

abbrev copy_or : {T : Type 0} → CopyFault → Result T CopyFault → CopyFault
copy_or d (Ok x) = d
copy_or d (Err fault) = fault

pub copied-here : {T : Type 0} (b : Base) (v : ImageView) (uuid : List ℕ) (x : T) → IsViewOf b v → IsRefusedCopy (pending_in v) uuid (Ok x) → pending_of b.frozen ≡ Some uuid
copied-here {T} b v uuid x is r =
    elim (this-or (pending_of b.frozen) uuid) [
      | inl same ↦ same
      | inr other ↦ absurd (subst (IsRefusedCall {T = T}) (sym (r.other.0 (λ e. other (sym (pending-here b v is) ∙ e)))) tt)
    ]

pub copy-pending : {T : Type 0} (b : Base) (v : ImageView) (uuid : List ℕ) (fault : CopyFault) → IsViewOf b v → IsRefusedCopy {T = T} (pending_in v) uuid (Err fault)
    → IsPending fault → pending_of b.frozen ≡ Some uuid
copy-pending {T} b v uuid fault is r there =
    elim (this-or (pending_of b.frozen) uuid) [
      | inl same ↦ same
      | inr other ↦ absurd (subst IsPending (ap (copy_or {T = T} fault) (r.other.0 (λ e. other (sym (pending-here b v is) ∙ e)))) there)
    ]

-- another one is in progress, which is the one that is told
pub copy-other : {T : Type 0} (b : Base) (v : ImageView) (uuid : List ℕ) (said : Option (List ℕ)) (fault : CopyFault) → IsViewOf b v → IsRefusedCopy {T = T} (pending_in v) uuid (Err fault)
    → fault ≡ copies.NotPending said → (pending_of b.frozen ≡ said) × (said ≢ Some uuid)
copy-other b v uuid said fault is r e =
    let told : said ≡ pending_in v = r.only said (ap (λ (f : CopyFault). Err f) e) in
    (sym (told ∙ pending-here b v is), λ same. r.other.1 (ap (λ (f : CopyFault). Err f) (e ∙ ap (λ (p : Option (List ℕ)). copies.NotPending p) told)) (sym told ∙ same))

abbrev pub IsPendingSeal : SealFault → Type 0
IsPendingSeal (seals.NotPending other) = ⊥
IsPendingSeal (seals.NotWhole done total) = Unit {0}
IsPendingSeal seals.Failed = Unit {0}

abbrev seal_or : {T : Type 0} → SealFault → Result T SealFault → SealFault
seal_or d (Ok x) = d
seal_or d (Err fault) = fault

pub sealed-here : {T : Type 0} (b : Base) (v : ImageView) (uuid : List ℕ) (done total : ℕ) (x : T) → IsViewOf b v → IsRefusedSeal (pending_in v) done total uuid (Ok x)
    → pending_of b.frozen ≡ Some uuid
sealed-here {T} b v uuid done total x is r =
    elim (this-or (pending_of b.frozen) uuid) [
      | inl same ↦ same
      | inr other ↦ absurd (subst (IsRefusedCall {T = T}) (sym (r.other.0 (λ e. other (sym (pending-here b v is) ∙ e)))) tt)
    ]

pub seal-pending : {T : Type 0} (b : Base) (v : ImageView) (uuid : List ℕ) (done total : ℕ) (fault : SealFault) → IsViewOf b v → IsRefusedSeal {T = T} (pending_in v) done total uuid (Err fault)
    → IsPendingSeal fault → pending_of b.frozen ≡ Some uuid
seal-pending {T} b v uuid done total fault is r there =
    elim (this-or (pending_of b.frozen) uuid) [
      | inl same ↦ same
      | inr other ↦ absurd (subst IsPendingSeal (ap (seal_or {T = T} fault) (r.other.0 (λ e. other (sym (pending-here b v is) ∙ e)))) there)
    ]

pub seal-other : {T : Type 0} (b : Base) (v : ImageView) (uuid : List ℕ) (done total : ℕ) (said : Option (List ℕ)) (fault : SealFault) → IsViewOf b v
    → IsRefusedSeal {T = T} (pending_in v) done total uuid (Err fault) → fault ≡ seals.NotPending said → (pending_of b.frozen ≡ said) × (said ≢ Some uuid)
seal-other b v uuid done total said fault is r e =
    let told : said ≡ pending_in v = r.only said (ap (λ (f : SealFault). Err f) e) in
    (sym (told ∙ pending-here b v is), λ same. r.other.1 (ap (λ (f : SealFault). Err f) (e ∙ ap (λ (p : Option (List ℕ)). seals.NotPending p) told)) (sym told ∙ same))

-- pieces of its file are left
pub seal-left : {T : Type 0} (p : Option (List ℕ)) (uuid : List ℕ) (done total d t : ℕ) (fault : SealFault) → IsRefusedSeal {T = T} p done total uuid (Err fault)
    → fault ≡ seals.NotWhole d t → d < t
seal-left p uuid done total d t fault r e =
    let said = r.left_only d t (ap (λ (f : SealFault). Err f) e) in
    let is : fault ≡ seals.NotWhole done total = e ∙ (λ i. seals.NotWhole (said.0 i) (said.1 i)) in
    let less = (r.left.1 (ap (λ (f : SealFault). Err f) is)).1 in
    let one = said.0 in
    let all = said.1 in
    omega (arith, less, one, all)

-- Stacks that grow by one head, and what a fault says of a stack.
use Rattle.std.proofs.Common.{◌≡◌, ◌≢◌, ℕ, ◌+◌, ◌<◌, ◌≤◌, List, [], ◌∷◌, ◌++◌, length, map, take, drop, get_or, refl, sym, ap, ◌∙◌, subst, arith, All}
use Rattle.std.proofs.lemmas.List.Elements.{All-push, All-cons, All-nil, All-head, All-tail, All-get_or}
use Rattle.std.proofs.lemmas.List.{take-append-drop, take_more, drop_more}
use Rattle.std.proofs.lemmas.Option.{slice_get_within, get_or_from_slice_get}
use Rattle.lsmt_header.specs.declared.head.Head.{Head}
use Rattle.flat_image.specs.Stacks.{uppermost, StandsOn, AreSized, AreSizedOver, AreStacked, AreUnlike, Legal}
use Rattle.lsmt_header.specs.Blocks.{nil}
use Rattle.layer_stack.specs.declared.fault.StackFault.{StackFault}
use Rattle.layer_stack.specs.declared.fault.StackFault.TheVariants.{Empty, TooMany, SizeDiffers, ParentDiffers, UuidTwice}
use Rattle.layer_stack.specs.Faults.{top_uuid, top_sectors, HasSize, HasParent, HasOwnUuid, SharesUuid, IsFreeOver, IsFaultOver, AreFree, IsLowestFault, IsStackFault}

-- ---- one head more

pub uppermost-push : {A : Type 0} (field : Head → A) (none : A) (below : List Head) (head : Head)
    → uppermost none (map field (below ++ head ∷ [])) ≡ field head
uppermost-push field none [] head = refl
uppermost-push field none (other ∷ below) head = uppermost-push field (field other) below head

AreStacked-push : (uuid : List ℕ) (below : List Head) (head : Head) → AreStacked uuid below → head.parent ≡ top_uuid uuid below → AreStacked uuid (below ++ head ∷ [])
AreStacked-push uuid [] head stacked parent = (parent, tt)
AreStacked-push uuid (other ∷ below) head stacked parent = (stacked.0, AreStacked-push other.uuid below head stacked.1 parent)

AreUnlike-push : (below : List Head) (head : Head) → AreUnlike below → HasOwnUuid below head → AreUnlike (below ++ head ∷ [])
AreUnlike-push [] head unlike own = (All-nil (λ other. other.uuid ≢ head.uuid), tt)
AreUnlike-push (lowest ∷ below) head unlike own =
    let P : Head → Type 0 = λ other. other.uuid ≢ head.uuid in
    let Q : Head → Type 0 = λ other. other.uuid ≢ lowest.uuid in
    let apart : head.uuid ≢ lowest.uuid = λ same. All-head P lowest below own (sym same) in
    (All-push Q below head unlike.0 apart, AreUnlike-push below head unlike.1 (All-tail P lowest below own))

AreSized-push : (n : ℕ) (below : List Head) (head : Head) → AreSized n below → StandsOn (top_sectors n below) head → AreSized n (below ++ head ∷ [])
AreSized-push n [] head sized stands = (stands, tt)
AreSized-push n (other ∷ below) head sized stands = (sized.0, AreSized-push other.sectors below head sized.1 stands)

sizes-push : (below : List Head) (head : Head) → AreSizedOver below → HasSize below head → AreSizedOver (below ++ head ∷ [])
sizes-push [] head sizes size = tt
sizes-push (lowest ∷ below) head sizes size = AreSized-push lowest.sectors below head sizes size

pub AreFree-push : (below : List Head) (head : Head) → AreFree below → IsFreeOver below head → AreFree (below ++ head ∷ [])
AreFree-push below head free over = record {
  sizes = sizes-push below head free.sizes over.size;
  stacked = AreStacked-push nil below head free.stacked over.parent;
  unlike = AreUnlike-push below head free.unlike over.uuid;
}

pub AreFree-none : AreFree []
AreFree-none = record { sizes = tt; stacked = tt; unlike = tt }

pub Legal-from_free : (heads : List Head) → 1 ≤ length heads → length heads ≤ 255 → AreFree heads → Legal heads
Legal-from_free heads some few free =
    record { some = some; few = few; sizes = free.sizes; stacked = free.stacked; unlike = free.unlike }

-- ---- what a fault says

parent_within : (uuid : List ℕ) (below : List Head) (head : Head) (above : List Head) → AreStacked uuid (below ++ head ∷ above) → head.parent ≡ top_uuid uuid below
parent_within uuid [] head above stacked = stacked.0
parent_within uuid (other ∷ below) head above stacked = parent_within other.uuid below head above stacked.1

AreSized-within : (n : ℕ) (below : List Head) (head : Head) (above : List Head) → AreSized n (below ++ head ∷ above) → StandsOn (top_sectors n below) head
AreSized-within n [] head above sized = sized.0
AreSized-within n (other ∷ below) head above sized = AreSized-within other.sectors below head above sized.1

HasSize-within : (below : List Head) (head : Head) (above : List Head) → AreSizedOver (below ++ head ∷ above) → HasSize below head
HasSize-within [] head above sizes = tt
HasSize-within (lowest ∷ below) head above sizes = AreSized-within lowest.sectors below head above sizes

own_within : (Q : Head → Type 0) (below : List Head) (head : Head) (above : List Head) → All Q (below ++ head ∷ above) → Q head
own_within Q [] head above all = All-head Q head above all
own_within Q (other ∷ below) head above all = own_within Q below head above (All-tail Q other (below ++ head ∷ above) all)

HasOwnUuid-within : (below : List Head) (head : Head) (above : List Head) → AreUnlike (below ++ head ∷ above) → HasOwnUuid below head
HasOwnUuid-within [] head above unlike = All-nil (λ other. other.uuid ≢ head.uuid)
HasOwnUuid-within (lowest ∷ below) head above unlike =
    let Q : Head → Type 0 = λ other. other.uuid ≢ lowest.uuid in
    let apart = own_within Q below head above unlike.0 in
    All-cons (λ other. other.uuid ≢ head.uuid) lowest below (λ same. apart (sym same)) (HasOwnUuid-within below head above unlike.1)

not_shared : (below : List Head) (number : ℕ) (head : Head) → HasOwnUuid below head → SharesUuid below number head → ⊥
not_shared below number head own (other, there, same) =
    let P : Head → Type 0 = λ other. other.uuid ≢ head.uuid in
    let apart : P other = subst P (get_or_from_slice_get below number other other there) (All-get_or P below number other (slice_get_within below number other there) own) in
    apart same

no_fault : (below : List Head) (head : Head) (fault : StackFault) → HasSize below head → HasParent below head → HasOwnUuid below head → IsFaultOver below head fault → ⊥
no_fault below head Empty size parent own f = f
no_fault below head (TooMany count) size parent own f = f
no_fault below head (SizeDiffers number) size parent own f = f.1 size
no_fault below head (ParentDiffers number) size parent own f = f.2 parent
no_fault below head (UuidTwice first number) size parent own f = not_shared below first head own f.3

lowest_not_legal : (heads : List Head) (fault : StackFault) → IsLowestFault heads fault → Legal heads → ⊥
lowest_not_legal heads fault lowest legal =
    let whole : Legal (lowest.below ++ lowest.head ∷ lowest.above) = subst Legal lowest.split legal in
    no_fault lowest.below lowest.head fault (HasSize-within lowest.below lowest.head lowest.above whole.sizes)
    (parent_within nil lowest.below lowest.head lowest.above whole.stacked)
    (HasOwnUuid-within lowest.below lowest.head lowest.above whole.unlike) lowest.is_fault

-- heads with a fault form no stack
pub fault_not_legal : (heads : List Head) (fault : StackFault) → IsStackFault heads fault → Legal heads → ⊥
fault_not_legal heads Empty none legal = let some = legal.some in omega (arith, ap length none)
fault_not_legal heads (TooMany count) many legal = let few = legal.few in omega (arith, many.1)
fault_not_legal heads (SizeDiffers number) lowest legal = lowest_not_legal heads (SizeDiffers number) lowest legal
fault_not_legal heads (ParentDiffers number) lowest legal = lowest_not_legal heads (ParentDiffers number) lowest legal
fault_not_legal heads (UuidTwice first number) lowest legal = lowest_not_legal heads (UuidTwice first number) lowest legal

-- a fault over the heads below is the lowest one
pub fault_from_over : (heads below above : List Head) (head : Head) (fault : StackFault) → length heads ≤ 255 → heads ≡ below ++ head ∷ above → AreFree below
    → IsFaultOver below head fault → IsStackFault heads fault
fault_from_over heads below above head Empty few split free f = absurd f
fault_from_over heads below above head (TooMany count) few split free f = absurd f
fault_from_over heads below above head (SizeDiffers number) few split free f =
    record { few = few; below = below; head = head; above = above; split = split; free = free; is_fault = f }
fault_from_over heads below above head (ParentDiffers number) few split free f =
    record { few = few; below = below; head = head; above = above; split = split; free = free; is_fault = f }
fault_from_over heads below above head (UuidTwice first number) few split free f =
    record { few = few; below = below; head = head; above = above; split = split; free = free; is_fault = f }

-- ---- the head at a place of a list

pub split_at : (heads : List Head) (number : ℕ) (head : Head) → number < length heads → head ≡ get_or heads number head → heads ≡ take number heads ++ head ∷ drop (number + 1) heads
split_at heads number head within is =
    sym (take-append-drop number heads) ∙ ap (λ rest. take number heads ++ rest) (drop_more heads number head within ∙ ap (λ first. first ∷ drop (number + 1) heads) (sym is))

pub take_one_more : (heads : List Head) (number : ℕ) (head : Head) → number < length heads → head ≡ get_or heads number head → take (number + 1) heads ≡ take number heads ++ head ∷ []
take_one_more heads number head within is = take_more heads number head within ∙ ap (λ last. take number heads ++ last ∷ []) (sym is)

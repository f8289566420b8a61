-- One layer more on files that form a stack.
use Rattle.std.proofs.Common.{◌≡◌, ◌≢◌, ℕ, suc, ◌+◌, ◌<◌, ◌≤◌, List, [], ◌∷◌, ◌++◌, length, map, get_or, true, false, refl, sym, ap, ◌∙◌, subst, arith, length-append}
use Rattle.std.specs.Prelude.{All, Contains}
use Rattle.std.proofs.lemmas.List.{length-map, get_or-map}
use Rattle.std.proofs.lemmas.List.Elements.{All-nil, All-cons, All-head, All-append, All-weaker, All-contains_itself}
use Rattle.lsmt_header.specs.declared.head.Head.{Head}
use Rattle.lsmt_header.specs.Blocks.{nil}
use Rattle.flat_image.specs.LayerFiles.{IsHeadOf, AreHeadsOf}
use Rattle.flat_image.specs.Stacks.{uppermost, StandsOn, Legal}
use Rattle.flat_image.specs.LayerReading.{uuid_in, size_in}
use Rattle.flat_image.specs.Base as bases
use Rattle.flat_image.proofs.LayerLaws.{uuid_in-layer, size_in-layer}
use Rattle.layer_stack.specs.Faults.{top_uuid, top_sectors, HasSize, AreFree}
use Rattle.layer_stack.proofs.StackLemmas.{AreFree-push, AreFree-none, Legal-from_free}
use Rattle.top_writer.specs.Files.{IsSizeFor}
use Rattle.image_core.specs.Shows.{AreStack}

-- as many heads as files
pub heads-length : (files : List (List ℕ)) (heads : List Head) → AreHeadsOf files heads → length heads ≡ length files
heads-length [] [] are = refl
heads-length [] (head ∷ heads) are = absurd are
heads-length (file ∷ files) [] are = absurd are
heads-length (file ∷ files) (head ∷ heads) are = ap suc (heads-length files heads are.1)

-- the uuids of the files are those of their heads
heads-uuids : (files : List (List ℕ)) (heads : List Head) → AreHeadsOf files heads → map uuid_in files ≡ map (λ h. h.uuid) heads
heads-uuids [] [] are = refl
heads-uuids [] (head ∷ heads) are = absurd are
heads-uuids (file ∷ files) [] are = absurd are
heads-uuids (file ∷ files) (head ∷ heads) are =
    let here : uuid_in file ≡ head.uuid = uuid_in-layer file head are.0.sheet are.0.layer in
    let rest = heads-uuids files heads are.1 in
    λ i. here i ∷ rest i

-- the uuid of the uppermost file
heads-top : (files : List (List ℕ)) (heads : List Head) (uuid : List ℕ) → AreHeadsOf files heads → 1 ≤ length files → bases.top_uuid files ≡ top_uuid uuid heads
heads-top [] heads uuid are some = absurd (omega (arith, some))
heads-top (file ∷ files) [] uuid are some = absurd are
heads-top (file ∷ []) (head ∷ []) uuid are some = uuid_in-layer file head are.0.sheet are.0.layer
heads-top (file ∷ []) (head ∷ other ∷ heads) uuid are some = absurd are.1
heads-top (file ∷ next ∷ files) (head ∷ heads) uuid are some = heads-top (next ∷ files) heads head.uuid are.1 (omega arith)

pub stack-top : (files : List (List ℕ)) (heads : List Head) → AreHeadsOf files heads → bases.top_uuid files ≡ top_uuid nil heads
stack-top [] [] are = refl
stack-top [] (head ∷ heads) are = absurd are
stack-top (file ∷ files) heads are = heads-top (file ∷ files) heads nil are (omega arith)

-- none of the heads has a uuid that none of the files has
own-uuid : (files : List (List ℕ)) (heads : List Head) (uuid : List ℕ) → AreHeadsOf files heads → (Contains (map uuid_in files) uuid → ⊥)
    → All (λ other. other.uuid ≢ uuid) heads
own-uuid files heads uuid are none =
    All-weaker (Contains heads) (λ other. other.uuid ≢ uuid)
    (λ other among same. none (
      among.0,
      omega (arith, among.1, length-map files uuid_in, heads-length files heads are),
      ap (λ (l : List (List ℕ)). get_or l among.0 uuid) (heads-uuids files heads are)
          ∙ (get_or-map (λ (h : Head). h.uuid) heads among.0 other uuid among.1 ∙ (ap (λ (h : Head). h.uuid) among.2 ∙ same)),
    ))
    heads (All-contains_itself heads)

heads-more : (files : List (List ℕ)) (heads : List Head) (file : List ℕ) (head : Head) → AreHeadsOf files heads → IsHeadOf file head
    → AreHeadsOf (files ++ file ∷ []) (heads ++ head ∷ [])
heads-more [] [] file head are is = (is, tt)
heads-more [] (other ∷ heads) file head are is = absurd are
heads-more (first ∷ files) [] file head are is = absurd are
heads-more (first ∷ files) (other ∷ heads) file head are is = (are.0, heads-more files heads file head are.1 is)

legal-free : (heads : List Head) → (1 ≤ length heads → Legal heads) → AreFree heads
legal-free [] legal = AreFree-none
legal-free (head ∷ heads) legal =
    let is : Legal (head ∷ heads) = legal (omega arith) in record { sizes = is.sizes; stacked = is.stacked; unlike = is.unlike }

-- the sectors of the uppermost file
heads-size : (n : ℕ) (files : List (List ℕ)) (heads : List Head) → AreHeadsOf files heads → bases.top_size n files ≡ top_sectors n heads
heads-size n [] [] are = refl
heads-size n [] (head ∷ heads) are = absurd are
heads-size n (file ∷ files) [] are = absurd are
heads-size n (file ∷ files) (head ∷ heads) are =
    ap (λ (k : ℕ). uppermost k (map size_in files)) (size_in-layer file head are.0.sheet are.0.layer) ∙ heads-size head.sectors files heads are.1

has_size : (n : ℕ) (files : List (List ℕ)) (heads : List Head) (head : Head) → AreHeadsOf files heads → StandsOn (bases.top_size n files) head → HasSize heads head
has_size n [] [] head are stands = tt
has_size n [] (lowest ∷ heads) head are stands = absurd are
has_size n (file ∷ files) [] head are stands = absurd are
has_size n (file ∷ files) (lowest ∷ heads) head are stands =
    subst (λ (k : ℕ). StandsOn k head)
    (ap (λ (k : ℕ). uppermost k (map size_in files)) (size_in-layer file lowest are.0.sheet are.0.layer) ∙ heads-size lowest.sectors files heads are.1) stands

-- a layer that stands over the uppermost, with a uuid of its own, makes a stack again
pub stack-more : (n below : ℕ) (files : List (List ℕ)) (file : List ℕ) (head : Head) → AreStack false n files → IsHeadOf file head → head.sectors ≤ n
    → StandsOn (bases.top_size below files) head → head.parent ≡ bases.top_uuid files
    → (Contains (map uuid_in files) head.uuid → ⊥) → length files < 255 → AreStack false n (files ++ file ∷ [])
stack-more n below files file head stack is size stands parent none few =
    let count : length stack.heads ≡ length files = heads-length files stack.heads stack.are in
    let free : AreFree stack.heads = legal-free stack.heads (λ some. stack.legal (omega (arith, count, some))) in
    let long : length (stack.heads ++ head ∷ []) ≡ length files + 1 = length-append stack.heads (head ∷ []) ∙ (let e : length stack.heads + 1 ≡ length files + 1 = omega (arith, count) in e) in
    record {
      heads = stack.heads ++ head ∷ [];
      are = heads-more files stack.heads file head stack.are is;
      sizes =
          let Size : Head → Type 0 = λ h. IsSizeFor false n h.sectors in
          All-append Size stack.heads (head ∷ []) stack.sizes
          (All-cons Size head [] (record { within = size; same = λ e. absurd (let no : false ≡ true = e in cc) }) (All-nil Size));
      legal = λ some. Legal-from_free (stack.heads ++ head ∷ []) (omega (arith, long)) (omega (arith, long, few))
          (AreFree-push stack.heads head free (record {
            size = has_size below files stack.heads head stack.are stands;
            parent = parent ∙ stack-top files stack.heads stack.are;
            uuid = own-uuid files stack.heads head.uuid stack.are none;
          }));
    }

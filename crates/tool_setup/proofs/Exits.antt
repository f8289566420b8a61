-- Exits of the reading of words and of texts.
use Rattle.std.proofs.Common.{◌≡◌, ◌≢◌, ◌⊎◌, inl, inr, ◌∙◌, ap, sym, subst, refl, List, [], ◌∷◌, ℕ, Bool, true, false, ◌&&◌}
use Rattle.std.specs.Prelude.{Option, None, Some, Result, Ok, Err, IsErrAnd}
use Rattle.clap.specs.Words.{App, Kinds, Row, Text, built, fault_of, is_simple, is_simple_and_free, matches_of}
use Rattle.clap.specs.Faults.{is_free_app}
use Rattle.uuid.specs.Parts.{is_nil_bytes}
use Rattle.tool_setup.specs.declared.command.WordsFault.{WordsFault}
use Rattle.tool_setup.specs.declared.command.WordsFault.TheVariants.{BadWords, Memory}
use Rattle.tool_setup.specs.Gives.{Gives, and_then}
use Rattle.tool_setup.specs.Values.{uuid_for}
use Rattle.tool_setup.specs.Taken.{Takes, if_taken, taken}

-- ---- what is determined but for memory

pub gives_err : {X Y E : Type 0} (memory e : E) (a : Result X E) (next : X → Result Y E) → Gives memory a (Err e) → Gives memory (and_then a next) (Err e)
gives_err memory e (Ok x) next (inl m) = inl cc
gives_err memory e (Ok x) next (inr m) = absurd cc
gives_err memory e (Err d) next (inl m) = inl cc
gives_err memory e (Err d) next (inr m) = inr cc

pub gives_then : {X Y E : Type 0} (memory : E) (a : Result X E) (next : X → Result Y E) (x : X) (r : Result Y E) → Gives memory a (Ok x)
    → Gives memory (next x) r → Gives memory (and_then a next) r
gives_then memory a next x r (inl m) after = absurd cc
gives_then memory a next x r (inr m) (inl after) = inl after
gives_then memory a next x r (inr m) (inr after) = inr (after ∙ ap (λ a. and_then a next) m)

-- ---- words that are taken

taken_on : {X : Type 0} (kinds : Kinds) (x : Result X WordsFault) → kinds ≡ [] → if_taken kinds x ≡ x
taken_on [] x none = refl
taken_on (k ∷ ks) x none = absurd cc

taken_off : {X : Type 0} (kinds : Kinds) (x : Result X WordsFault) → kinds ≢ [] → if_taken kinds x ≡ Err BadWords
taken_off [] x some = absurd (some refl)
taken_off (k ∷ ks) x some = refl

pub takes_err : {X Y : Type 0} (app : App) (words : List Text) (Finds : List Row → Y → Type 0) (read : List Row → Result X WordsFault) (e : WordsFault)
    → Takes app words Finds (Err e) → Gives Memory (taken app words read) (Err e)
takes_err app words Finds read e (inl m) = inl (ap (λ f. Err f) m)
takes_err app words Finds read e (inr p) = inr (ap (λ f. Err f) p.0 ∙ sym (taken_off (fault_of app words) (read (matches_of app words)) p.1))

pub takes_ok : {X Y : Type 0} (app : App) (words : List Text) (Finds : List Row → Y → Type 0) (read : List Row → Result X WordsFault) (y : Y) (r : Result X WordsFault)
    → Takes app words Finds (Ok y) → Gives Memory (read (matches_of app words)) r → Gives Memory (taken app words read) r
takes_ok app words Finds read y r takes (inl m) = inl m
takes_ok app words Finds read y r takes (inr m) = inr (m ∙ sym (taken_on (fault_of app words) (read (matches_of app words)) takes.0))

-- ---- texts that are parsed

pub not_some : {X : Type 0} (o : Option X) → ((x : X) × (o ≡ Some x) → ⊥) → o ≡ None
not_some None none = refl
not_some (Some x) none = absurd (none (x, refl))

pub uuid_some : (uuid : List ℕ) → is_nil_bytes uuid ≡ false → uuid_for (Some uuid) ≡ Ok uuid
uuid_some uuid whole = rw whole refl

-- ---- commands

pub is_simple-both : (app : App) → is_simple_and_free app ≡ true → is_simple app ≡ true
is_simple-both app both = and_left (is_simple app) (is_free_app (built app)) both
  where
    and_left : (a b : Bool) → (a && b) ≡ true → a ≡ true
    and_left true b e = refl
    and_left false b e = absurd cc

-- what was found in the matches of the command that was built
pub takes_found : {Y : Type 0} (app real : App) (words : List Text) (rows : List Row) (Finds : List Row → Y → Type 0) (y : Y) → app ≡ real
    → (fault_of app words ≡ []) × (matches_of app words ≡ rows) → Finds rows y → (fault_of real words ≡ []) × Finds (matches_of real words) y
takes_found app real words rows Finds y same taken found = subst (λ a. (fault_of a words ≡ []) × Finds (matches_of a words) y) same (taken.0, subst (λ r. Finds r y) (sym taken.1) found)

-- ---- what is read of the values of arguments that are named by their ids

pub named_ok : {I X Y : Type 0} (app : I → App) (words : List Text) (Finds : I → List Row → Y → Type 0) (read : I → List Row → Result X WordsFault) (id real : I) (y : Y) (r : Result X WordsFault)
    → id ≡ real → (fault_of (app id) words ≡ []) × Finds id (matches_of (app id) words) y → (Finds real (matches_of (app real) words) y → r ≡ read real (matches_of (app real) words))
    → Gives Memory (taken (app real) words (read real)) r
named_ok app words Finds read id real y r same takes next =
    let here : (fault_of (app real) words ≡ []) × Finds real (matches_of (app real) words) y = subst (λ i. (fault_of (app i) words ≡ []) × Finds i (matches_of (app i) words) y) same takes in
    takes_ok (app real) words (Finds real) (read real) y r here (inr (next here.1))

pub named_err : {I X : Type 0} (app : I → App) (words : List Text) (read : I → List Row → Result X WordsFault) (id real : I) (e : WordsFault) (r : Result X WordsFault)
    → id ≡ real → (e ≡ Memory) ⊎ ((e ≡ BadWords) × (fault_of (app id) words ≢ [])) → IsErrAnd r (λ x. x ≡ e) → Gives Memory (taken (app real) words (read real)) r
named_err app words read id real e (Ok x) same takes told = absurd told
named_err app words read id real e (Err x) same takes told =
    subst (λ y. Gives Memory (taken (app real) words (read real)) (Err y)) (sym told)
    (takes_err (app real) words (λ rows found. found ≡ refuse rows) (read real) e (subst (λ i. (e ≡ Memory) ⊎ ((e ≡ BadWords) × (fault_of (app i) words ≢ []))) same takes))
  where
    refuse : List Row → WordsFault
    refuse rows = Memory

pub gives_exit : {X Y E : Type 0} (memory e : E) (a : Result X E) (next : X → Result Y E) (r : Result Y E) → Gives memory a (Err e) → IsErrAnd r (λ x. x ≡ e) → Gives memory (and_then a next) r
gives_exit memory e a next (Ok x) gives told = absurd told
gives_exit memory e a next (Err x) gives told = subst (λ y. Gives memory (and_then a next) (Err y)) (sym told) (gives_err memory e a next gives)

pub gives_ok : {X Y E : Type 0} (memory : E) (a : Result X E) (next : X → Result Y E) (x : X) (r : Result Y E) → Gives memory a (Ok x) → r ≡ next x → Gives memory (and_then a next) r
gives_ok memory a next x r gives is = gives_then memory a next x r gives (inr is)

pub gives_same : {X E : Type 0} (memory : E) (a r : Result X E) → r ≡ a → Gives memory a r
gives_same memory a r is = inr is

-- Names and values of a JSON text.
use Rattle.std.proofs.Common.{◌≡◌, ◌∙◌, ap, ap₂, sym, refl, ℕ, Bool, true, false, ◌&&◌, ◌||◌, List, [], ◌∷◌, length, map, take, Bor, get_or, ◌<◌, ◌≤◌, arith, zero, suc, nat_le}
use Rattle.std.proofs.lemmas.Bool.Decides.{nat_tests}
use Rattle.std.specs.Prelude.{Option, None, Some, Err, string_bytes}
use Rattle.std.specs.List.{list_all, list_any}
use Rattle.std.specs.Str.{bytes_eq}
use Rattle.serde_json.specs.Data.{Data, Items, Members}
use Rattle.serde_json.specs.View.{view, items_view, members_view}
use Rattle.serde_json.specs.declared.value.Value.{Value}
use Rattle.serde_json.proofs.Views.{Entry}
use Rattle.tool_setup.specs.Fields.{all_named, few, is_named, is_text, items_of, texts_in}
use Rattle.tool_setup.specs.declared.config.ConfigFault.TheVariants.{BadField, UnknownField}
use Rattle.tool_setup.specs.Configs.{field_names, fields_in, object_in}
use Rattle.tool_setup.specs.declared.config.Field.TheVariants.{Lowers}

pub named-refs : (names : List (Bor (List ℕ))) (name : List ℕ) → list_any (λ known. bytes_eq known.now name) names ≡ is_named (map (λ known. known.now) names) name
named-refs [] name = refl
named-refs (known ∷ rest) name = ap (λ b. bytes_eq known.now name || b) (named-refs rest name)

pub items-of-view : (values : List Value) → items_of (items_view values) ≡ map view values
items-of-view [] = refl
items-of-view (v ∷ vs) = ap (λ l. view v ∷ l) (items-of-view vs)

pub length-map : {X Y : Type 0} (f : X → Y) (xs : List X) → length (map f xs) ≡ length xs
length-map f [] = refl
length-map f (x ∷ xs) = ap suc (length-map f xs)

-- the next name is known, or it is not
pub name-known : (known : List ℕ → Bool) (e : Entry) (rest : List Entry) → known (string_bytes e.0) ≡ true → all_named known (members_view (e ∷ rest)) ≡ all_named known (members_view rest)
name-known known e rest is = rw is refl

pub name-unknown : (known : List ℕ → Bool) (e : Entry) (rest : List Entry) → known (string_bytes e.0) ≡ false → all_named known (members_view (e ∷ rest)) ≡ false
name-unknown known e rest is = rw is refl

-- a list of values of which one is no text
and-false : (a b : Bool) → b ≡ false → (a && b) ≡ false
and-false true b e = e
and-false false b e = refl

pub one-fails : (values : List Value) (i : ℕ) (d : Value) → i < length values → is_text (view (get_or values i d)) ≡ false → list_all is_text (map view values) ≡ false
one-fails [] i d less fails = absurd (omega (arith, less))
one-fails (v ∷ vs) zero d less fails = rw fails refl
one-fails (v ∷ vs) (suc i) d less fails = and-false (is_text (view v)) (list_all is_text (map view vs)) (one-fails vs i d (omega (arith, less)) fails)

pub bad-texts : (values : List Value) → list_all is_text (map view values) ≡ false → texts_in (map view values) ≡ Err (BadField Lowers)
bad-texts values fails = rw fails refl

pub too-many : (values : List Value) → 255 < length values → few (map view values) ≡ Err (BadField Lowers)
too-many values many =
    let long : length (map view values) ≡ length values = length-map view values in
    let test : nat_le (length (map view values)) 255 ≡ false = grind (arith, nat_tests) in
    rw test refl

pub not-many : (values : List Value) → length values ≤ 255 → few (map view values) ≡ texts_in (map view values)
not-many values few_ones =
    let long : length (map view values) ≡ length values = length-map view values in
    let test : nat_le (length (map view values)) 255 ≡ true = grind (arith, nat_tests) in
    rw test refl

-- an object with an unknown name, and one without
pub unknown-object : (ms : Members) (value : Data) (o : Option Members) → Some ms ≡ o → all_named (is_named field_names) ms ≡ false → object_in o value ≡ Err UnknownField
unknown-object ms value o is named = rw (← is, named) refl

pub known-object : (ms : Members) (value : Data) (o : Option Members) → Some ms ≡ o → all_named (is_named field_names) ms ≡ true → object_in o value ≡ fields_in value
known-object ms value o is named = rw (← is, named) refl

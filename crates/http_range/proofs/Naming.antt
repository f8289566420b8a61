-- The values of a name, field by field.
use Rattle.std.proofs.Common.{◌≡◌, ℕ, ◌+◌, ◌<◌, Bool, true, false, List, [], ◌∷◌, ◌++◌, length, take, get_or, map, refl, sym, ap, ◌∙◌, subst, add-one}
use Rattle.std.specs.Prelude.{if◌then◌else◌}
use Rattle.httparse.specs.declared.spans.HeaderSpan.{HeaderSpan}
use Rattle.httparse.specs.Spans.{span_bytes, header_bytes}
use Rattle.std.proofs.lemmas.List.{map-append, append-nil}
use Rattle.std.proofs.Math.Seq.{take-suc}
use Rattle.http_range.specs.declared.fields.Fields.{Fields}
use Rattle.http_range.specs.Fields.{FieldsAre}
use Rattle.http_range.specs.Replies.{same_name, values_of}

keep_append : (same : Bool) (value : List ℕ) (values more : List (List ℕ))
    → (if same then value ∷ (values ++ more) else (values ++ more)) ≡ (if same then value ∷ values else values) ++ more
keep_append true value values more = refl
keep_append false value values more = refl

values-append : (name : List ℕ) (fields more : List (List ℕ × List ℕ))
    → values_of name (fields ++ more) ≡ values_of name fields ++ values_of name more
values-append name [] more = refl
values-append name (field ∷ fields) more =
    ap (λ values. if same_name field.0 name then field.1 ∷ values else values) (values-append name fields more)
    ∙ keep_append (same_name field.0 name) field.1 (values_of name fields) (values_of name more)

next_values : (name bytes : List ℕ) (headers : List HeaderSpan) (i : ℕ) (d : HeaderSpan) → i < length headers
    → values_of name (map (header_bytes bytes) (take (i + 1) headers))
    ≡ values_of name (map (header_bytes bytes) (take i headers)) ++ values_of name (header_bytes bytes (get_or headers i d) ∷ [])
next_values name bytes headers i d within =
    ap (λ l. values_of name (map (header_bytes bytes) l)) (ap (λ n. take n headers) (add-one i) ∙ take-suc headers i d within)
    ∙ ap (values_of name) (map-append (header_bytes bytes) (take i headers) (get_or headers i d ∷ []))
    ∙ values-append name (map (header_bytes bytes) (take i headers)) (header_bytes bytes (get_or headers i d) ∷ [])

-- a header of that name adds its value, and another adds nothing
pub named : (name bytes : List ℕ) (headers : List HeaderSpan) (i : ℕ) (d : HeaderSpan) (found : Fields) → i < length headers
    → same_name (span_bytes bytes (get_or headers i d).name) name ≡ true
    → FieldsAre (values_of name (map (header_bytes bytes) (take i headers)) ++ span_bytes bytes (get_or headers i d).value ∷ []) bytes found
    → FieldsAre (values_of name (map (header_bytes bytes) (take (i + 1) headers))) bytes found
named name bytes headers i d found within is =
    let before = values_of name (map (header_bytes bytes) (take i headers)) in
    let value = span_bytes bytes (get_or headers i d).value in
    subst (λ (values : List (List ℕ)). FieldsAre values bytes found)
    (sym (next_values name bytes headers i d within ∙ ap (λ (same : Bool). before ++ (if same then value ∷ [] else [])) is))

pub not_named : (name bytes : List ℕ) (headers : List HeaderSpan) (i : ℕ) (d : HeaderSpan) (found : Fields) → i < length headers
    → same_name (span_bytes bytes (get_or headers i d).name) name ≡ false
    → FieldsAre (values_of name (map (header_bytes bytes) (take i headers))) bytes found
    → FieldsAre (values_of name (map (header_bytes bytes) (take (i + 1) headers))) bytes found
not_named name bytes headers i d found within is =
    let before = values_of name (map (header_bytes bytes) (take i headers)) in
    let value = span_bytes bytes (get_or headers i d).value in
    subst (λ (values : List (List ℕ)). FieldsAre values bytes found)
    (sym (next_values name bytes headers i d within ∙ ap (λ (same : Bool). before ++ (if same then value ∷ [] else [])) is ∙ append-nil before))

-- What is found of the fields of one name.
use Rattle.std.specs.Prelude.{◌≡◌, ℕ, ◌≤◌, List, [], ◌∷◌, length}
use Rattle.httparse.specs.Spans.{span_bytes, IsWithin}
use Rattle.http_range.specs.declared.fields.Fields.{Fields}
use Rattle.http_range.specs.declared.fields.Fields.TheVariants.{Absent, One, More}

-- these are the values: none, the bytes of that span, or two and more
abbrev pub FieldsAre : List (List ℕ) → List ℕ → Fields → Type 0
FieldsAre values bytes Absent = values ≡ []
FieldsAre values bytes (One span) = (values ≡ span_bytes bytes span ∷ []) × IsWithin (length bytes) span
FieldsAre values bytes More = 2 ≤ length values

-- A tag's 256 bytes are the text up to the first zero, and zeros.
use Rattle.std.proofs.Common.{◌≡◌, ◌≢◌, ℕ, ◌-◌, ◌<◌, ◌≤◌, List, ◌++◌, length, get_or, take, drop, replicate, refl, sym, ap, subst, ◌∙◌, arith, inl, inr}
use Rattle.std.specs.Prelude.{IsUtf8}
use Rattle.std.proofs.lemmas.Bool.{cases_lt}
use Rattle.std.proofs.lemmas.List.{take_at, drop_at, take-append-drop, length-append, length-take, length-replicate, length-drop, get_or-take, get_or-append_right, get_or-replicate}
use Rattle.std.proofs.lemmas.List.Elements.{All-get_or, All-from_get_or}
use Rattle.byte_fields.proofs.Fronts.{split_same}
use Rattle.lsmt_header.specs.Tags.{IsTagText, IsTag, IsTextEnd, padded}

pub length-padded : (text : List ℕ) → length text ≤ 256 → length (padded text) ≡ 256
length-padded text short = simp (length-append, length-replicate) (omega arith)

-- before the end of the text stand its bytes, and behind it zeros
get_or-front : (text rest : List ℕ) (i : ℕ) → i < length text → get_or (text ++ rest) i 0 ≡ get_or text i 0
get_or-front text rest i lt = sym (get_or-take (length text) (text ++ rest) i 0 lt) ∙ ap (λ (xs : List ℕ). get_or xs i 0) (take_at text rest (length text) refl)

get_or-behind : (text : List ℕ) (i : ℕ) → length text ≤ i → i < 256 → get_or (padded text) i 0 ≡ 0
get_or-behind text i le lt =
    get_or-append_right text (replicate (256 - length text) 0) (length text) i 0 refl le ∙ get_or-replicate (256 - length text) (i - length text) 0 0 (omega arith)

-- a padded text ends with its own length
pub padded-end : (text : List ℕ) → IsTagText text → IsTextEnd (padded text) (length text)
padded-end text is = record {
  within = omega (arith, length-padded text is.short);
  before = λ i lt. rw (get_or-front text (replicate (256 - length text) 0) i lt) (All-get_or (λ byte. byte ≢ 0) text i 0 lt is.no_zero);
  end = λ lt. get_or-behind text (length text) (omega arith) (omega (arith, length-padded text is.short));
}

-- bytes have one end of a text
pub one_end : (bytes : List ℕ) (a b : ℕ) → IsTextEnd bytes a → IsTextEnd bytes b → a ≡ b
one_end bytes a b h k =
    elim (cases_lt a b) [
      | inl lt ↦ absurd (k.before a lt (h.end (omega (arith, k.within))))
      | inr le ↦ elim (cases_lt b a) [
        | inl lt ↦ absurd (h.before b lt (k.end (omega (arith, h.within))))
        | inr ge ↦ omega arith
      ]
    ]

-- a text has one padding
pub padded-same : (a b : List ℕ) → IsTagText a → IsTagText b → padded a ≡ padded b → a ≡ b
padded-same a b h k e =
    let len : length a ≡ length b = one_end (padded b) (length a) (length b) (subst (λ (bytes : List ℕ). IsTextEnd bytes (length a)) e (padded-end a h)) (padded-end b k) in
    (split_same a b (replicate (256 - length a) 0) (replicate (256 - length b) 0) len e).0

-- the text up to the first zero, and zeros, are a tag
pub tag_found : (field : List ℕ) (len : ℕ) → length field ≡ 256 → IsTextEnd field len → IsUtf8 (take len field) → drop len field ≡ replicate (length (drop len field)) 0 → IsTag field len
tag_found field len whole end utf8 zeros =
    let long : length (take len field) ≡ len = simp length-take (omega (arith, end.within)) in
    record {
      text = record {
        short = omega (arith, end.within);
        utf8 = utf8;
        no_zero = All-from_get_or (λ byte. byte ≢ 0) (take len field) 0 (λ i lt. rw (get_or-take len field i 0 (omega (arith, long))) (end.before i (omega (arith, long))));
      };
      whole = sym (take-append-drop len field) ∙ ap (λ (rest : List ℕ). take len field ++ rest) (zeros ∙ ap (λ (n : ℕ). replicate n 0) (omega (arith, long, length-drop len field)));
      long = long;
    }

-- where a tag is not text and zeros up to the first zero, it is none
pub tag_parts : (field text : List ℕ) (len : ℕ) → IsTextEnd field len → IsTagText text → field ≡ padded text → (take len field ≡ text) × (drop len field ≡ replicate (length (drop len field)) 0)
tag_parts field text len end is e =
    let same : len ≡ length text = one_end field len (length text) end (subst (λ (bytes : List ℕ). IsTextEnd bytes (length text)) (sym e) (padded-end text is)) in
    let front : take len field ≡ text = ap (take len) e ∙ take_at text (replicate (256 - length text) 0) len (sym same) in
    let behind : drop len field ≡ replicate (256 - length text) 0 = ap (drop len) e ∙ drop_at text (replicate (256 - length text) 0) len (sym same) in
    (front, behind ∙ ap (λ (n : ℕ). replicate n 0) (sym (length-replicate (256 - length text) 0) ∙ ap length (sym behind)))

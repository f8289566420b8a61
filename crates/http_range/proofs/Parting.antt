-- A buffer in parts.
use Rattle.std.proofs.Common.{◌≡◌, ℕ, ◌+◌, ◌-◌, ◌≤◌, List, ◌++◌, append_assoc, length, take, drop, sym, ap, ◌∙◌, arith, length-take-le, take_at, length-drop}
use Rattle.std.proofs.lemmas.List.{take-append-drop, take-take, drop-take, drop-drop}

-- a part of a front is that part of the whole
part_of : (buffer : List ℕ) (body size len : ℕ) → body + size ≤ len → take size (drop body (take len buffer)) ≡ take size (drop body buffer)
part_of buffer body size len within =
    let apart : len ≡ body + (len - body) = omega arith in
    ap (λ n. take size (drop body (take n buffer))) apart ∙ ap (take size) (drop-take body (len - body) buffer)
    ∙ take-take size (len - body) (drop body buffer) (omega arith)

-- a part, and what stands behind it
pub part_and_rest : (buffer copied : List ℕ) (body size len : ℕ) → body + size ≤ len → copied ≡ take size (drop body buffer)
    → copied ++ drop (body + size) (take len buffer) ≡ drop body (take len buffer)
part_and_rest buffer copied body size len within is =
    ap (λ l. l ++ drop (body + size) (take len buffer)) (is ∙ sym (part_of buffer body size len within))
    ∙ ap (λ l. take size (drop body (take len buffer)) ++ l) (sym (drop-drop size body (take len buffer)))
    ∙ take-append-drop size (drop body (take len buffer))

-- what was rotated to the front
pub front_of : (buffer rotated behind : List ℕ) (from len : ℕ) → from ≤ len → len ≤ length buffer
    → rotated ≡ drop from (take len buffer) ++ take from (take len buffer) → take (len - from) (rotated ++ behind) ≡ drop from (take len buffer)
front_of buffer rotated behind from len low high is =
    let rest = drop from (take len buffer) in
    let long : length rest ≡ len - from = length-drop from (take len buffer) ∙ ap (λ n. n - from) (length-take-le len buffer high) in
    ap (λ l. take (len - from) (l ++ behind)) is ∙ ap (take (len - from)) (append_assoc rest (take from (take len buffer)) behind)
    ∙ take_at rest (take from (take len buffer) ++ behind) (len - from) long

-- The numbers in the body of a mark.
use Rattle.std.proofs.Common.{◌≡◌, ℕ, ◌<◌, List, [], ◌++◌, take, drop, sym, ap, ◌∙◌}
use Rattle.std.specs.Prelude.{◌^◌}
use Rattle.std.specs.Int.{w64, to_le_bytes, from_le_bytes}
use Rattle.std.proofs.lemmas.Nat.{from_le_bytes-to_le_bytes_8}
use Rattle.top_writer.specs.Files.{rows_said, sectors_said}

-- two numbers, put one after the other into a block
pub said_rows : (a b : ℕ) (body one two none rest : List ℕ) → none ≡ [] → one ≡ none ++ to_le_bytes w64 a → two ≡ one ++ to_le_bytes w64 b → body ≡ two ++ rest
    → a < 2 ^ 64 → rows_said body ≡ a
unfolding rows_said
said_rows a b body one two none rest empty first second whole fits =
    ap (λ (f : List ℕ). from_le_bytes w64 (take 8 f))
    (whole ∙ ap (λ (f : List ℕ). f ++ rest) (second ∙ ap (λ (f : List ℕ). f ++ to_le_bytes w64 b) (first ∙ ap (λ (f : List ℕ). f ++ to_le_bytes w64 a) empty)))
    ∙ from_le_bytes-to_le_bytes_8 a fits

pub said_sectors : (a b : ℕ) (body one two none rest : List ℕ) → none ≡ [] → one ≡ none ++ to_le_bytes w64 a → two ≡ one ++ to_le_bytes w64 b → body ≡ two ++ rest
    → b < 2 ^ 64 → sectors_said body ≡ b
unfolding sectors_said
said_sectors a b body one two none rest empty first second whole fits =
    ap (λ (f : List ℕ). from_le_bytes w64 (take 8 (drop 8 f)))
    (whole ∙ ap (λ (f : List ℕ). f ++ rest) (second ∙ ap (λ (f : List ℕ). f ++ to_le_bytes w64 b) (first ∙ ap (λ (f : List ℕ). f ++ to_le_bytes w64 a) empty)))
    ∙ from_le_bytes-to_le_bytes_8 b fits

-- two numbers, taken one after the other from the front
pub rows_taken_of : (a : ℕ) (body fields rest : List ℕ) → fields ≡ body → fields ≡ to_le_bytes w64 a ++ rest → a < 2 ^ 64 → a ≡ rows_said body
unfolding rows_said
rows_taken_of a body fields rest same front fits =
    sym (ap (λ (f : List ℕ). from_le_bytes w64 (take 8 f)) (sym same ∙ front) ∙ from_le_bytes-to_le_bytes_8 a fits)

pub sectors_taken_of : (a b : ℕ) (body fields mid rest : List ℕ) → fields ≡ body → fields ≡ to_le_bytes w64 a ++ mid → mid ≡ to_le_bytes w64 b ++ rest → b < 2 ^ 64 → b ≡ sectors_said body
unfolding sectors_said
sectors_taken_of a b body fields mid rest same front next fits =
    sym (ap (λ (f : List ℕ). from_le_bytes w64 (take 8 (drop 8 f))) (sym same ∙ front)
    ∙ ap (λ (f : List ℕ). from_le_bytes w64 (take 8 f)) next ∙ from_le_bytes-to_le_bytes_8 b fits)

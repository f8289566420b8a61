-- The five fields of a manifest's body.
use Rattle.std.proofs.Common.{◌≡◌, ℕ, ◌+◌, ◌-◌, ◌<◌, List, [], ◌++◌, length, take, drop, refl, sym, ap, ◌∙◌, arith, append_assoc, length-append}
use Rattle.std.specs.Prelude.{◌^◌, replicate}
use Rattle.std.proofs.lemmas.List.{drop-drop}
use Rattle.std.specs.Int.{w64, to_le_bytes, from_le_bytes}
use Rattle.std.proofs.lemmas.Nat.{from_le_bytes-to_le_bytes_8}
use Rattle.std.proofs.Math.Seq.{take-append_seam, drop-append_seam}
use Rattle.image_core.specs.Manifest.{count_said, epoch_said, uuid_said, size_said, format_said}

-- what was put one after the other into a block
pub record IsPut (count epoch size format : ℕ) (uuid body : List ℕ) : Type 0 where
  pub rest : List ℕ
  pub more : List ℕ
  pub next : rest ≡ to_le_bytes w64 format ++ more
  pub is : body ≡ ((([] ++ to_le_bytes w64 count) ++ to_le_bytes w64 epoch) ++ (uuid ++ to_le_bytes w64 size)) ++ rest

abbrev pub was-put : (count epoch size format : ℕ) (uuid body none one two three four five more : List ℕ) → none ≡ [] → one ≡ none ++ to_le_bytes w64 count → two ≡ one ++ to_le_bytes w64 epoch
    → three ≡ two ++ uuid → four ≡ three ++ to_le_bytes w64 size → five ≡ four ++ to_le_bytes w64 format → body ≡ five ++ more → IsPut count epoch size format uuid body
was-put count epoch size format uuid body none one two three four five more empty first second third fourth fifth last =
    let rest : List ℕ = to_le_bytes w64 format ++ more in
    let whole : body ≡ four ++ rest = last ∙ (ap (λ (f : List ℕ). f ++ more) fifth ∙ append_assoc four (to_le_bytes w64 format) more) in
    let front : two ≡ ([] ++ to_le_bytes w64 count) ++ to_le_bytes w64 epoch =
    second ∙ ap (λ (f : List ℕ). f ++ to_le_bytes w64 epoch) (first ∙ ap (λ (f : List ℕ). f ++ to_le_bytes w64 count) empty) in
    record {
      rest = rest;
      more = more;
      next = refl;
      is = whole ∙ ap (λ (f : List ℕ). f ++ rest)
          (fourth ∙ (ap (λ (f : List ℕ). f ++ to_le_bytes w64 size) third ∙ (append_assoc two uuid (to_le_bytes w64 size)
          ∙ ap (λ (f : List ℕ). f ++ (uuid ++ to_le_bytes w64 size)) front)));
    }

-- what was taken from its front, one after the other
pub was-taken : (count epoch size format : ℕ) (uuid body start one two three four five : List ℕ) → start ≡ body → start ≡ to_le_bytes w64 count ++ one → one ≡ to_le_bytes w64 epoch ++ two
    → two ≡ uuid ++ three → three ≡ to_le_bytes w64 size ++ four → four ≡ to_le_bytes w64 format ++ five → IsPut count epoch size format uuid body
was-taken count epoch size format uuid body start one two three four five same first second third fourth fifth = record {
  rest = four;
  more = five;
  next = fifth;
  is = sym same ∙ (first ∙ ap (λ (f : List ℕ). to_le_bytes w64 count ++ f)
      (second ∙ ap (λ (f : List ℕ). to_le_bytes w64 epoch ++ f)
      (third ∙ (ap (λ (f : List ℕ). uuid ++ f) fourth ∙ sym (append_assoc uuid (to_le_bytes w64 size) four)))));
}

module _ (count epoch size format : ℕ) (uuid body : List ℕ) (put : IsPut count epoch size format uuid body) where
  pub count-put : count < 2 ^ 64 → count_said body ≡ count
  unfolding count_said
  count-put fits = ap (λ (f : List ℕ). from_le_bytes w64 (take 8 f)) put.is ∙ from_le_bytes-to_le_bytes_8 count fits

  pub epoch-put : epoch < 2 ^ 64 → epoch_said body ≡ epoch
  unfolding epoch_said
  epoch-put fits = ap (λ (f : List ℕ). from_le_bytes w64 (take 8 (drop 8 f))) put.is ∙ from_le_bytes-to_le_bytes_8 epoch fits

  pub uuid-put : length uuid ≡ 16 → uuid_said body ≡ uuid
  unfolding uuid_said
  uuid-put long =
      let behind : List ℕ = to_le_bytes w64 size ++ put.rest in
      ap (λ (f : List ℕ). take 16 (drop 16 f)) put.is
      ∙ (ap (take 16) (append_assoc uuid (to_le_bytes w64 size) put.rest)
      ∙ (ap (λ (k : ℕ). take k (uuid ++ behind)) (sym long) ∙ take-append_seam uuid behind))

  pub size-put : length uuid ≡ 16 → size < 2 ^ 64 → size_said body ≡ size
  unfolding size_said
  size-put long fits =
      let behind : List ℕ = to_le_bytes w64 size ++ put.rest in
      let here : drop 16 (uuid ++ behind) ≡ behind = ap (λ (k : ℕ). drop k (uuid ++ behind)) (sym long) ∙ drop-append_seam uuid behind in
      ap (λ (f : List ℕ). from_le_bytes w64 (take 8 (drop 32 f))) put.is
      ∙ (ap (λ (f : List ℕ). from_le_bytes w64 (take 8 (drop 16 f))) (append_assoc uuid (to_le_bytes w64 size) put.rest)
      ∙ (ap (λ (f : List ℕ). from_le_bytes w64 (take 8 f)) here ∙ from_le_bytes-to_le_bytes_8 size fits))

  pub format-put : length uuid ≡ 16 → format < 2 ^ 64 → format_said body ≡ format
  unfolding format_said
  format-put long fits =
      let last : List ℕ = to_le_bytes w64 size in
      let behind : List ℕ = last ++ put.rest in
      let here : drop 16 (uuid ++ behind) ≡ behind = ap (λ (k : ℕ). drop k (uuid ++ behind)) (sym long) ∙ drop-append_seam uuid behind in
      let past : drop 40 body ≡ put.rest =
      ap (drop 40) put.is ∙ (ap (drop 24) (append_assoc uuid last put.rest) ∙ (sym (drop-drop 8 16 (uuid ++ behind)) ∙ ap (drop 8) here)) in
      ap (λ (f : List ℕ). from_le_bytes w64 (take 8 f)) (past ∙ put.next) ∙ from_le_bytes-to_le_bytes_8 format fits

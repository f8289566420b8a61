-- What is spelled as the head of an option is read as that head.
use Rattle.std.proofs.Common.{◌≡◌, ℕ, ◌^◌, ◌<◌, List, ◌++◌, length, None, Some, sym, ap, ◌∙◌}
use Rattle.std.specs.Int.{w32, w64, to_be_bytes}
use Rattle.std.proofs.lemmas.Bool.{ne_eqb, cond-false}
use Rattle.std.proofs.lemmas.Nat.{from_be_bytes-to_be_bytes_4, from_be_bytes-to_be_bytes_8}
use Rattle.byte_fields.proofs.Fronts.{read_more, read_all}
use Rattle.nbd_wire.specs.declared.options.OptionHead.{OptionHead}
use Rattle.nbd_wire.specs.Options.{OptionHeadOf, option_bytes, option_at}
use Rattle.nbd_wire.specs.Numbers.{number_at}

option_at-spelled : (head : OptionHead) → head.option < 2 ^ 32 → head.length < 2 ^ 32 → option_at (option_bytes head) ≡ Some head
unfolding option_at option_bytes
option_at-spelled head o l = λ i. Some (record { option = from_be_bytes-to_be_bytes_4 head.option o i; length = from_be_bytes-to_be_bytes_4 head.length l i })

pub option_at-of : (bytes : List ℕ) (head : OptionHead) → OptionHeadOf bytes head → option_at bytes ≡ Some head
option_at-of bytes head h = ap option_at h.spelled ∙ option_at-spelled head h.option h.length

-- another magic word
pub option_at-other : (bytes rest : List ℕ) (magic : ℕ) → bytes ≡ to_be_bytes w64 magic ++ rest → magic < 2 ^ 64 → (magic ≡ 0x4948_4156_454F_5054 → ⊥) → option_at bytes ≡ None
unfolding option_at
option_at-other bytes rest magic is small other =
    cond-false _ _ _ (ne_eqb _ _ (λ same. other (sym (ap (number_at w64 0) is ∙ from_be_bytes-to_be_bytes_8 magic small) ∙ same)))

-- the fields of the head of an option, as they were read
pub option_read : (bytes a b c : List ℕ) (magic : ℕ) (head : OptionHead) → magic ≡ 0x4948_4156_454F_5054
    → bytes ≡ to_be_bytes w64 magic ++ a → a ≡ to_be_bytes w32 head.option ++ b → b ≡ to_be_bytes w32 head.length ++ c → length c ≡ 0 → bytes ≡ option_bytes head
unfolding option_bytes
option_read bytes a b c magic head known p q s none =
    let fields : List ℕ → List ℕ = λ lead. lead ++ to_be_bytes w32 head.option ++ to_be_bytes w32 head.length in
    let one = to_be_bytes w64 magic in
    let two = one ++ to_be_bytes w32 head.option in
    let whole : bytes ≡ fields one = read_all bytes (fields one) c (read_more bytes two b (to_be_bytes w32 head.length) c (read_more bytes one a (to_be_bytes w32 head.option) b p q) s) none in
    whole ∙ ap (λ n. fields (to_be_bytes w64 n)) known

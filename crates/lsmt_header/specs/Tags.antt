-- The tag of a layer: a text, and the 256 bytes that a block has for it.
use Rattle.std.specs.Prelude.{◌≡◌, ◌≢◌, ℕ, ◌-◌, ◌<◌, ◌≤◌, List, ◌++◌, length, take, replicate, All, IsUtf8, slice_index}

-- a text of at most 256 bytes of UTF-8 with no zero byte
pub record IsTagText (text : List ℕ) : Type 0 where
  pub short : length text ≤ 256
  pub utf8 : IsUtf8 text
  pub no_zero : All (λ byte. byte ≢ 0) text

-- the text, and zeros up to 256 bytes
abbrev pub padded : List ℕ → List ℕ
padded text = text ++ replicate (256 - length text) 0

-- these bytes are the first so many as a text, and zeros behind it
pub record IsTag (field : List ℕ) (len : ℕ) : Type 0 where
  pub text : IsTagText (take len field)
  pub whole : field ≡ padded (take len field)
  pub long : length (take len field) ≡ len

-- so many bytes stand before the first zero
pub record IsTextEnd (bytes : List ℕ) (len : ℕ) : Type 0 where
  pub within : len ≤ length bytes
  pub before : (i : ℕ) → i < len → slice_index bytes i ≢ 0
  pub end : len < length bytes → slice_index bytes len ≡ 0

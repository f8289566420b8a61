-- What is asked for, and the text that asks for it.
use Rattle.std.specs.Prelude.{◌≡◌, ◌≢◌, ℕ, ◌<◌, List, ◌++◌, slice_index, codes, decimal, All}

-- the bytes of a host's name and of a path
pub record TargetTexts : Type 0 where
  pub host : List ℕ
  pub path : List ℕ

-- a visible ASCII character
abbrev pub IsVisible : ℕ → Type 0
IsVisible b = (32 < b) × (b < 127)

-- a character of a path: visible, and none of " < >
abbrev pub IsPathByte : ℕ → Type 0
IsPathByte b = IsVisible b × (b ≢ 34) × (b ≢ 60) × (b ≢ 62)

-- the host has only visible characters; the path begins with a slash and has only characters of a path
pub record IsTarget (t : TargetTexts) : Type 0 where
  pub host : All IsVisible t.host
  pub slash : slice_index t.path 0 ≡ 47
  pub path : All IsPathByte t.path

-- what stands behind the host in a request for the bytes first to last, both included
abbrev pub range_line : ℕ → ℕ → List ℕ
range_line first last = codes "\r\nRange: bytes=" ++ decimal first ++ codes "-" ++ decimal last ++ codes "\r\n\r\n"

-- the text that asks for the bytes first to last of the path
abbrev pub request_text : TargetTexts → ℕ → ℕ → List ℕ
request_text t first last = codes "GET " ++ t.path ++ codes " HTTP/1.1\r\nHost: " ++ t.host ++ range_line first last

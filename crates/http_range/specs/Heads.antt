-- What is found at the front of received bytes.
use Rattle.std.specs.Prelude.{◌≡◌, ℕ, ◌≤◌, List, length, drop, Ok}
use Rattle.httparse.specs.Grammar.{ResponseHead, MayBecomeResponse, status_code}
use Rattle.http_range.specs.declared.heads.Head.{Head}
use Rattle.http_range.specs.declared.heads.Head.TheVariants.{More, Bad, Refused, Good}
use Rattle.http_range.specs.Replies.{HasHead, HasNoHead, SpoilsHead, RefusesHead, judged_head}

-- a good head of that status, which names that total, and whose body begins at that place
pub record IsGoodHead (bytes : List ℕ) (first last status total body : ℕ) : Type 0 where
  pub head : ResponseHead
  pub within : body ≤ length bytes
  pub has : HasHead bytes head (drop body bytes)
  pub status_is : status ≡ status_code head
  pub good : judged_head head first last ≡ Ok total

-- more bytes are wanted, no head can come, it is refused, or it is good
abbrev pub HeadIs : List ℕ → ℕ → ℕ → Head → Type 0
HeadIs bytes first last More = HasNoHead bytes × MayBecomeResponse bytes
HeadIs bytes first last Bad = HasNoHead bytes × SpoilsHead bytes
HeadIs bytes first last (Refused status reason) = RefusesHead bytes first last status reason
HeadIs bytes first last (Good status total body) = IsGoodHead bytes first last status total body

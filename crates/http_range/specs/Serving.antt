-- What a link that tells its files gives to the texts that are sent on it.
use Rattle.std.specs.Prelude.{◌≡◌, ℕ, ◌+◌, ◌-◌, ◌^◌, ◌<◌, ◌≤◌, ◌⊎◌, min, List, [], ◌∷◌, ◌++◌, length, All, if◌then◌else◌, Option, Some, None, IfSome, IsSome, false}
use Rattle.std.specs.Str.{bytes_eq}
use Rattle.http_range.specs.Fetching.{FetcherState}
use Rattle.http_range.specs.Links.{Blob, Dial, Dials, LinkState}
use Rattle.http_range.specs.RangeReplies.{range_in, range_reply}
use Rattle.http_range.specs.Replies.{GoodReply}
use Rattle.http_range.specs.Requests.{TargetTexts, IsTarget, request_text}

-- a range that was asked for, both ends included
pub record Asked : Type 0 where
  pub target : TargetTexts
  pub first : ℕ
  pub last : ℕ

abbrev pub asked_text : Asked → List ℕ
asked_text a = request_text a.target a.first a.last

-- the texts, one after another
abbrev pub texts : List Asked → List ℕ
texts [] = []
texts (a ∷ list) = asked_text a ++ texts list

-- the file at a path, which is the first one of that path
abbrev pub blob_at : List Blob → List ℕ → Option (List ℕ)
blob_at [] path = None
blob_at (blob ∷ blobs) path = if bytes_eq blob.path path then Some blob.bytes else blob_at blobs path

-- a text of which the rules speak: it has at most 16,384 bytes and is for a file that is there
pub record IsAsked (blobs : List Blob) (a : Asked) : Type 0 where
  pub target : IsTarget a.target
  pub short : length (asked_text a) ≤ 16384
  pub order : a.first ≤ a.last
  pub small : a.last < 2 ^ 63
  pub there : IsSome (blob_at blobs a.target.path)

-- its range begins in the file
abbrev pub BeginsIn : List Blob → Asked → Type 0
BeginsIn blobs a = IfSome (blob_at blobs a.target.path) (λ bytes. a.first < length bytes)

-- the reply: as much of the range as the file has
abbrev pub reply_to : Option (List ℕ) → Asked → List ℕ
reply_to None a = []
reply_to (Some bytes) a = range_reply bytes a.first (min a.last (length bytes - 1))

-- the replies, one after another
abbrev pub replies : List Blob → List Asked → List ℕ
replies blobs [] = []
replies blobs (a ∷ list) = reply_to (blob_at blobs a.target.path) a ++ replies blobs list

abbrev pub IsFrontOf : List ℕ → List ℕ → Type 0
IsFrontOf front whole = (rest : List ℕ) × (front ++ rest ≡ whole)

-- texts whose ranges begin in their files, and the beginning of one more text
pub record AreAsked (blobs : List Blob) (list : List Asked) (begun sent : List ℕ) : Type 0 where
  pub asked : All (IsAsked blobs) list
  pub begin : All (BeginsIn blobs) list
  pub begun_is : (begun ≡ []) ⊎ ((next : Asked) × IsAsked blobs next × IsFrontOf begun (asked_text next))
  pub sent_is : sent ≡ texts list ++ begun

-- what was received on a dial answers what was sent on it
pub record Answers (blobs : List Blob) (dial : Dial) : Type 0 where
  -- it is a front of the replies to the whole texts
  pub within : (list : List Asked) (begun : List ℕ) → AreAsked blobs list begun dial.sent → IsFrontOf dial.received (replies blobs list)
  -- and behind a text whose range begins past its file there is no good reply to it
  pub past : (list : List Asked) (a : Asked) (more reply rest : List ℕ) (total : ℕ) (body : List ℕ) → All (IsAsked blobs) list → All (BeginsIn blobs) list
      → IsAsked blobs a → ¬ BeginsIn blobs a → dial.sent ≡ texts list ++ (asked_text a ++ more)
      → dial.received ≡ replies blobs list ++ (reply ++ rest) → ¬ GoodReply reply a.first a.last total body

-- the link tells its dials, and each of them is answered
pub record ServesBlobs (blobs : List Blob) (link : LinkState) : Type 0 where
  pub dials : Dials
  pub told : link.dials ≡ Some dials
  pub now : Answers blobs dials.now
  pub past : All (Answers blobs) dials.past

-- a link that tells its files serves them
abbrev pub Serves : LinkState → Type 0
Serves link = IfSome link.blobs (λ blobs. ServesBlobs blobs link)

-- the end of a dial comes only behind the replies to all whole texts, or where the link failed on it
abbrev pub EndsServed : LinkState → Type 0
EndsServed link = IfSome link.blobs (λ blobs. IfSome link.dials (λ dials. (list : List Asked) (begun : List ℕ)
    → AreAsked blobs list begun dials.now.sent → (dials.now.received ≡ replies blobs list) ⊎ (dials.now.began < link.faults)))

-- ---- a fetcher over such a link

-- the link has the file of that target, below 2^63 bytes, and each text for it has at most 16,384 bytes
pub record IsFileOf (blobs : List Blob) (t : TargetTexts) (bytes : List ℕ) : Type 0 where
  pub there : blob_at blobs t.path ≡ Some bytes
  pub small : length bytes < 2 ^ 63
  pub short : length t.path + length t.host ≤ 16000

-- the total is the file's length, and the bytes are those of the range, which lies in the file
pub record IsRangeOf (bytes : List ℕ) (first last : ℕ) (out : List ℕ) (total : ℕ) : Type 0 where
  pub total_is : total ≡ length bytes
  pub within : last < length bytes
  pub out_is : out ≡ range_in bytes first last

-- all that was asked for on the present dial was answered, and nothing is held
pub record IsServedAt (blobs : List Blob) (link : LinkState) (held : List ℕ) : Type 0 where
  pub list : List Asked
  pub asked : All (IsAsked blobs) list
  pub begin : All (BeginsIn blobs) list
  pub dials : Dials
  pub told : link.dials ≡ Some dials
  pub sent : dials.now.sent ≡ texts list
  pub received : dials.now.received ≡ replies blobs list
  pub none_held : held ≡ []

-- the same of a fetcher that goes on with its dial
abbrev pub IsServed : List Blob → FetcherState → Type 0
IsServed blobs fetcher = fetcher.refused ≡ false → IsServedAt blobs fetcher.link fetcher.held

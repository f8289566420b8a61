-- What a fetch asks of its link, and what it answers.
use Rattle.std.specs.Prelude.{◌≡◌, ℕ, ◌<◌, ◌≤◌, ◌⊎◌, ◌↔◌, Bool, true, false, ◌&&◌, IsTrue, ◌-◌, List, [], ◌++◌, length, take, Result, Ok, Err, MatchResult, IfSome}
use Rattle.http_range.specs.declared.reason.ReplyReason.{ReplyReason}
use Rattle.http_range.specs.declared.reason.ReplyReason.TheVariants.{ShortBody}
use Rattle.http_range.specs.declared.reason.FetchFault.{FetchFault}
use Rattle.http_range.specs.declared.reason.FetchFault.TheVariants.{Failed, BadReply}
use Rattle.http_range.specs.declared.receiving.BodyStop.{BodyStop}
use Rattle.http_range.specs.declared.receiving.BodyStop.TheVariants.{Ended, Broken}
use Rattle.http_range.specs.Heads.{IsGoodHead}
use Rattle.http_range.specs.Links.{LinkState, Went, Dialed, SendsFront}
use Rattle.http_range.specs.Replies.{GoodReply, Refuses, AwaitsHead, AwaitsBody}

-- a fetcher: its link, the bytes received behind the last reply, whether a whole reply was received on this dial, and
-- whether the last fetch was refused
pub record FetcherState : Type 0 where
  pub link : LinkState
  pub held : List ℕ
  pub used : Bool
  pub refused : Bool

-- where the link tells its dials, nothing was sent on the present one and no fault has come since it began
abbrev pub IsFresh : LinkState → Type 0
IsFresh link = IfSome link.dials (λ dials. (dials.now.sent ≡ []) × (link.faults ≡ dials.now.began))

-- a link as it was, but for the bytes that it sent and received
pub record Carried (sent got : List ℕ) (ended : Bool) (old new : LinkState) : Type 0 where
  pub went : Went sent got ended old new
  pub calm : new.faults ≡ old.faults

-- the text was sent, or a front of it before the link failed
abbrev pub SendsAll : {T E : Type 0} → List ℕ → LinkState → LinkState → Result T E → Type 0
SendsAll text old new result = MatchResult result
    (λ _. Carried text [] false old new)
    (λ _. SendsFront old new text × (old.faults < new.faults))

-- the whole text was sent, and what was received is a good reply and what is held behind it. Where bytes are held, all
-- that came with them came before the head was looked at
pub record AsksWell (text held : List ℕ) (first last : ℕ) (old new : LinkState) (out more : List ℕ) (total : ℕ) : Type 0 where
  pub got : List ℕ
  pub reply : List ℕ
  pub carried : Carried text got false old new
  pub received : held ++ got ≡ reply ++ more
  pub good : GoodReply reply first last total out
  pub bounded : (more ≡ []) ⊎ (length (reply ++ more) ≤ 16384)

-- the whole text was sent, and what was received is refused. Early is where no byte of the reply came
pub record AsksBadly (text held : List ℕ) (first last : ℕ) (old new : LinkState) (early : Bool) (status : ℕ)
    (reason : ReplyReason) : Type 0 where
  pub got : List ℕ
  pub ended : Bool
  pub carried : Carried text got ended old new
  pub why : Refuses (held ++ got) ended first last status reason
  pub bounded : (reason ≡ ShortBody) ⊎ (length (held ++ got) ≤ 16384)
  pub early_is : IsTrue early ↔ (held ++ got ≡ [])

-- the link failed while the text was sent
pub record FailsSending (text : List ℕ) (old new : LinkState) (early : Bool) : Type 0 where
  pub sent : SendsFront old new text
  pub rose : old.faults < new.faults
  pub early_is : IsTrue early

-- the link failed while bytes were wanted
pub record FailsReceiving (text held : List ℕ) (first last : ℕ) (old new : LinkState) (early : Bool) : Type 0 where
  pub got : List ℕ
  pub went : Went text got false old new
  pub rose : old.faults < new.faults
  pub wanted : AwaitsHead (held ++ got) ⊎ AwaitsBody (held ++ got) first last
  pub early_is : IsTrue early ↔ (held ++ got ≡ [])

-- the text was sent and no good reply came, and whether not even the first byte of one did
abbrev pub Misses : List ℕ → List ℕ → ℕ → ℕ → LinkState → LinkState → Bool → FetchFault → Type 0
Misses text held first last old new early Failed = FailsReceiving text held first last old new early
Misses text held first last old new early (BadReply status reason) =
    AsksBadly text held first last old new early status reason

-- why an asking gave no good reply, and whether it stopped before the first byte of one
abbrev pub Stops : List ℕ → List ℕ → ℕ → ℕ → LinkState → LinkState → Bool → FetchFault → Type 0
Stops text held first last old new early fault =
    ((fault ≡ Failed) × FailsSending text old new early) ⊎ Misses text held first last old new early fault

-- one asking, over the bytes that were held
abbrev pub Asks : List ℕ → List ℕ → ℕ → ℕ → LinkState → LinkState → List ℕ → List ℕ → Bool → Result ℕ FetchFault → Type 0
Asks text held first last old new out more early (Ok total) =
    (early ≡ false) × AsksWell text held first last old new out more total
Asks text held first last old new out more early (Err fault) = Stops text held first last old new early fault

-- a redial that failed
pub record FailsDialing (old new : LinkState) : Type 0 where
  pub dialed : Dialed old new ⊎ Went [] [] false old new
  pub rose : old.faults < new.faults

-- a redial that did not
pub record DialsWell (old new : LinkState) : Type 0 where
  pub dialed : Dialed old new
  pub calm : new.faults ≡ old.faults

-- after a redial
abbrev pub AsksAfter : List ℕ → ℕ → ℕ → LinkState → LinkState → List ℕ → List ℕ → Result ℕ FetchFault → Type 0
AsksAfter text first last lost new out more result = (FailsDialing lost new × (result ≡ Err Failed))
    ⊎ ((mid : LinkState) × (early : Bool) × DialsWell lost mid × Asks text [] first last mid new out more early result)

-- asked once: the asking stopped no earlier than its first byte, or no whole reply was received on this dial before
pub record AsksOnce (text held : List ℕ) (first last : ℕ) (used : Bool) (old new : LinkState) (out more : List ℕ)
    (result : Result ℕ FetchFault) : Type 0 where
  pub early : Bool
  pub asks : Asks text held first last old new out more early result
  pub enough : (used && early) ≡ false

-- else asked again after a redial: the second answer counts, or the redial's failure
pub record AsksAgain (text held : List ℕ) (first last : ℕ) (used : Bool) (old new : LinkState) (out more : List ℕ)
    (result : Result ℕ FetchFault) : Type 0 where
  pub used_is : used ≡ true
  pub lost : LinkState
  pub fault : FetchFault
  pub stops : Stops text held first last old lost true fault
  pub again : AsksAfter text first last lost new out more result

abbrev pub AsksOn : List ℕ → List ℕ → ℕ → ℕ → Bool → LinkState → LinkState → List ℕ → List ℕ → Result ℕ FetchFault → Type 0
AsksOn text held first last used old new out more result =
    AsksOnce text held first last used old new out more result ⊎ AsksAgain text held first last used old new out more result

-- after a refusal a redial comes first, and what was held is dropped
abbrev pub Fetches : List ℕ → ℕ → ℕ → FetcherState → FetcherState → List ℕ → Result ℕ FetchFault → Type 0
Fetches text first last old new out result =
    ((old.refused ≡ false) × AsksOn text old.held first last old.used old.link new.link out new.held result)
    ⊎ (((old.refused ≡ true) × FailsDialing old.link new.link × (result ≡ Err Failed))
    ⊎ ((old.refused ≡ true) × (mid : LinkState) × DialsWell old.link mid
    × AsksOn text [] first last false mid new.link out new.held result))

-- ---- parts of an asking

abbrev pub is_ended : BodyStop → Bool
is_ended Ended = true
is_ended Broken = false

abbrev pub HasStopped : BodyStop → ℕ → ℕ → Type 0
HasStopped Ended before after = after ≡ before
HasStopped Broken before after = before < after

-- what was received by then begins with a good head
pub record FindsHead (held : List ℕ) (first last : ℕ) (old new : LinkState) (bytes : List ℕ) (status total body : ℕ) : Type 0 where
  pub got : List ℕ
  pub carried : Carried [] got false old new
  pub bytes_are : bytes ≡ held ++ got
  pub good : IsGoodHead bytes first last status total body

-- some bytes came behind those that were there
pub record ReceivesMore (old new : LinkState) (before after : List ℕ) : Type 0 where
  pub got : List ℕ
  pub carried : Carried [] got false old new
  pub after_are : after ≡ before ++ got

-- the link failed, or found its end, before so many bytes came
pub record LacksBytes (wanted : ℕ) (old new : LinkState) (stop : BodyStop) : Type 0 where
  pub got : List ℕ
  pub short : length got < wanted
  pub went : Went [] got (is_ended stop) old new
  pub cause : HasStopped stop old.faults new.faults

-- the body filled the place from there on
abbrev pub FillsBody : {T : Type 0} → ℕ → LinkState → LinkState → List ℕ → List ℕ → Result T BodyStop → Type 0
FillsBody at old new before after result = MatchResult result
    (λ _. ReceivesMore old new (take at before) after)
    (λ stop. LacksBytes (length before - at) old new stop)

-- what was there of a body, and what came, are the body and what stands behind it
pub record TakesBody (rest : List ℕ) (old new : LinkState) (body more : List ℕ) : Type 0 where
  pub got : List ℕ
  pub carried : Carried [] got false old new
  pub all : rest ++ got ≡ body ++ more
  pub bounded : (more ≡ []) ⊎ (got ≡ [])

-- the body is short
pub record LacksBody (rest : List ℕ) (size : ℕ) (old new : LinkState) (stop : BodyStop) : Type 0 where
  pub got : List ℕ
  pub short : length (rest ++ got) < size
  pub went : Went [] got (is_ended stop) old new
  pub cause : HasStopped stop old.faults new.faults

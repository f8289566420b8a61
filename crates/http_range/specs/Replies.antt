-- Which replies to a range request are good, and why others are not.
use Rattle.std.specs.Prelude.{◌≡◌, ℕ, ◌+◌, ◌-◌, ◌^◌, ◌<◌, ◌≤◌, ◌⊎◌, Bool, not, ◌&&◌, if◌then◌else◌, ◌==◌, nat_lt, IsTrue, List, [], ◌∷◌, length, take, drop, map, codes, Option, Some, None, option_map, option_and_then, Result, Ok, Err}
use Rattle.std.specs.List.{list_all}
use Rattle.std.specs.Str.{bytes_eq}
use Rattle.std.specs.Char.{is_ascii_digit, to_ascii_lowercase}
use Rattle.std.specs.Str.Parse.{digits_value}
use Rattle.httparse.specs.Grammar.{ResponseHead, print_response, ReadsResponse, NeverHasResponse, MayBecomeResponse, status_code}
use Rattle.httparse.specs.Spans.{name_and_value, ResponseExceeds}
use Rattle.http_range.specs.declared.reason.ReplyReason.{ReplyReason}
use Rattle.http_range.specs.declared.values.ContentRange.{ContentRange}
use Rattle.http_range.specs.declared.reason.ReplyReason.TheVariants.{BadHead, NotPartial, Chunked, NoRange, OtherRange, NoLength, OtherLength, ShortBody}

-- ---- fields

-- names are compared without regard to ASCII case
abbrev pub same_name : List ℕ → List ℕ → Bool
same_name a b = bytes_eq (map to_ascii_lowercase a) (map to_ascii_lowercase b)

-- the values of the fields of that name
abbrev pub values_of : List ℕ → List (List ℕ × List ℕ) → List (List ℕ)
values_of name [] = []
values_of name (field ∷ fields) = if same_name field.0 name then field.1 ∷ values_of name fields else values_of name fields

-- the one value, where there is just one
abbrev pub only : List (List ℕ) → Option (List ℕ)
only [] = None
only (value ∷ []) = Some value
only (value ∷ other ∷ values) = None

-- ---- values

-- one decimal digit or more, whose number is below 2^63
abbrev pub is_number : List ℕ → Bool
is_number digits = nat_lt 0 (length digits) && list_all is_ascii_digit digits && nat_lt (digits_value 10 digits) (2 ^ 63)

-- the number that they write
abbrev pub number : List ℕ → Option ℕ
number digits = if is_number digits then Some (digits_value 10 digits) else None

-- what stands before the first such byte, and behind it
abbrev pub cut : ℕ → List ℕ → Option (List ℕ × List ℕ)
cut byte [] = None
cut byte (b ∷ bytes) = if b == byte then Some ([], bytes) else option_map (λ p. (b ∷ p.0, p.1)) (cut byte bytes)

-- what stands behind that front
abbrev pub behind : List ℕ → List ℕ → Option (List ℕ)
behind front bytes = if bytes_eq (take (length front) bytes) front then Some (drop (length front) bytes) else None

-- the three numbers, where all are there
abbrev pub range_from : Option ℕ → Option ℕ → Option ℕ → Option ContentRange
range_from (Some x) (Some y) (Some z) = Some (record { first = x; last = y; total = z })
range_from (Some x) (Some y) None = None
range_from (Some x) None z = None
range_from None y z = None

-- the value `bytes x-y/z`
abbrev pub range_of : List ℕ → Option ContentRange
range_of value = option_and_then (λ numbers. option_and_then (λ front. option_and_then
    (λ back. range_from (number front.0) (number back.0) (number back.1)) (cut 47 front.1)) (cut 45 numbers))
    (behind (codes "bytes ") value)

-- ---- heads

-- the total, or the first reason of those that come after the range
abbrev pub lengthed : Option ℕ → ℕ → ℕ → Result ℕ ReplyReason
lengthed None size total = Err NoLength
lengthed (Some length) size total = if length == size then Ok total else Err OtherLength

-- the same from the range on
abbrev pub ranged : Option ContentRange → Option ℕ → ℕ → ℕ → Result ℕ ReplyReason
ranged None length first last = Err NoRange
ranged (Some range) length first last =
    if range.first == first && range.last == last && nat_lt last range.total
    then lengthed length (last + 1 - first) range.total else Err OtherRange

-- what a head of that status and these fields gives for the bytes first to last: the total, or the first reason
abbrev pub judged : ℕ → List (List ℕ × List ℕ) → ℕ → ℕ → Result ℕ ReplyReason
judged status fields first last =
    if not (status == 206) then Err NotPartial
    else if nat_lt 0 (length (values_of (codes "transfer-encoding") fields)) then Err Chunked
    else ranged (option_and_then range_of (only (values_of (codes "content-range") fields)))
    (option_and_then number (only (values_of (codes "content-length") fields))) first last

abbrev pub judged_head : ResponseHead → ℕ → ℕ → Result ℕ ReplyReason
judged_head head first last = judged (status_code head) (map name_and_value head.fields) first last

-- the bytes begin with that head, of at most 16,384 bytes and 64 fields
pub record HasHead (bytes : List ℕ) (head : ResponseHead) (rest : List ℕ) : Type 0 where
  pub reads : ReadsResponse bytes head rest
  pub short : length (print_response head) ≤ 16384
  pub few : length head.fields ≤ 64

abbrev pub HasNoHead : List ℕ → Type 0
HasNoHead bytes = (head : ResponseHead) (rest : List ℕ) → ¬ (HasHead bytes head rest)

-- these bytes cannot begin a head, or it has over 64 fields
abbrev pub SpoilsHead : List ℕ → Type 0
SpoilsHead bytes = NeverHasResponse bytes ⊎ ResponseExceeds 64 bytes

-- ---- replies

-- the bytes are a reply to a request for the bytes first to last, with that total and that body
pub record GoodReply (bytes : List ℕ) (first last total : ℕ) (body : List ℕ) : Type 0 where
  pub head : ResponseHead
  pub has : HasHead bytes head body
  pub good : judged_head head first last ≡ Ok total
  pub whole : length body ≡ last + 1 - first

-- the head has that status and is refused for that reason
abbrev pub RefusesHead : List ℕ → ℕ → ℕ → ℕ → ReplyReason → Type 0
RefusesHead bytes first last status reason = (head : ResponseHead) × (rest : List ℕ)
    × HasHead bytes head rest × (status ≡ status_code head) × (judged_head head first last ≡ Err reason)

-- there is no head and none can come
abbrev pub RefusesStart : List ℕ → Bool → ℕ → Type 0
RefusesStart bytes ended status =
    (status ≡ 0) × HasNoHead bytes × ((16384 ≤ length bytes) ⊎ (IsTrue ended ⊎ SpoilsHead bytes))

-- the input ended before the body did
abbrev pub RefusesBody : List ℕ → Bool → ℕ → ℕ → ℕ → Type 0
RefusesBody bytes ended first last status = (head : ResponseHead) × (rest : List ℕ) × (total : ℕ)
    × HasHead bytes head rest × (status ≡ status_code head) × (judged_head head first last ≡ Ok total)
    × (length rest < last + 1 - first) × IsTrue ended

-- the received bytes, which may have ended, are refused with that status and for that reason
abbrev pub Refuses : List ℕ → Bool → ℕ → ℕ → ℕ → ReplyReason → Type 0
Refuses bytes ended first last status reason = ((reason ≡ BadHead) × RefusesStart bytes ended status)
    ⊎ (RefusesHead bytes first last status reason ⊎ ((reason ≡ ShortBody) × RefusesBody bytes ended first last status))

-- the bytes are the beginning of a head
abbrev pub AwaitsHead : List ℕ → Type 0
AwaitsHead bytes = HasNoHead bytes × MayBecomeResponse bytes × (length bytes < 16384)

-- or a good head and a part of its body
abbrev pub AwaitsBody : List ℕ → ℕ → ℕ → Type 0
AwaitsBody bytes first last = (head : ResponseHead) × (rest : List ℕ) × (total : ℕ)
    × HasHead bytes head rest × (judged_head head first last ≡ Ok total) × (length rest < last + 1 - first)

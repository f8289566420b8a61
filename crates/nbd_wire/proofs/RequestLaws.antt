-- What is spelled as a request is read as that request.
use Rattle.std.proofs.Common.{◌≡◌, ℕ, ◌^◌, ◌<◌, List, ◌++◌, length, None, Some, sym, ap, ◌∙◌}
use Rattle.std.specs.Int.{w16, w32, w64, to_be_bytes}
use Rattle.std.proofs.lemmas.Bool.{ne_eqb, cond-false}
use Rattle.std.proofs.lemmas.Nat.{from_be_bytes-to_be_bytes_2, from_be_bytes-to_be_bytes_4, from_be_bytes-to_be_bytes_8}
use Rattle.byte_fields.proofs.Fronts.{read_more, read_all}
use Rattle.nbd_wire.specs.declared.request.Request.{Request}
use Rattle.nbd_wire.specs.Requests.{RequestHeadOf, request_bytes, request_at}
use Rattle.nbd_wire.specs.Numbers.{number_at}

request_at-spelled : (r : Request) → r.flags < 2 ^ 16 → r.command < 2 ^ 16 → r.cookie < 2 ^ 64 → r.offset < 2 ^ 64 → r.length < 2 ^ 32 → request_at (request_bytes r) ≡ Some r
unfolding request_at request_bytes
request_at-spelled r f c k o l = λ i. Some (record {
  flags = from_be_bytes-to_be_bytes_2 r.flags f i;
  command = from_be_bytes-to_be_bytes_2 r.command c i;
  cookie = from_be_bytes-to_be_bytes_8 r.cookie k i;
  offset = from_be_bytes-to_be_bytes_8 r.offset o i;
  length = from_be_bytes-to_be_bytes_4 r.length l i;
})

pub request_at-of : (bytes : List ℕ) (r : Request) → RequestHeadOf bytes r → request_at bytes ≡ Some r
request_at-of bytes r h = ap request_at h.spelled ∙ request_at-spelled r h.flags h.command h.cookie h.offset h.length

-- another magic number
pub request_at-other : (bytes rest : List ℕ) (magic : ℕ) → bytes ≡ to_be_bytes w32 magic ++ rest → magic < 2 ^ 32 → (magic ≡ 0x25609513 → ⊥) → request_at bytes ≡ None
unfolding request_at
request_at-other bytes rest magic is small other =
    cond-false _ _ _ (ne_eqb _ _ (λ same. other (sym (ap (number_at w32 0) is ∙ from_be_bytes-to_be_bytes_4 magic small) ∙ same)))

-- the fields of a request, as they were read
pub request_read : (bytes a b c d e f : List ℕ) (magic : ℕ) (r : Request) → magic ≡ 0x25609513
    → bytes ≡ to_be_bytes w32 magic ++ a → a ≡ to_be_bytes w16 r.flags ++ b → b ≡ to_be_bytes w16 r.command ++ c → c ≡ to_be_bytes w64 r.cookie ++ d
    → d ≡ to_be_bytes w64 r.offset ++ e → e ≡ to_be_bytes w32 r.length ++ f → length f ≡ 0 → bytes ≡ request_bytes r
unfolding request_bytes
request_read bytes a b c d e f magic r known p q s t u v none =
    let fields : List ℕ → List ℕ = λ lead. lead ++ to_be_bytes w16 r.flags ++ to_be_bytes w16 r.command ++ to_be_bytes w64 r.cookie ++ to_be_bytes w64 r.offset ++ to_be_bytes w32 r.length in
    let one = to_be_bytes w32 magic in
    let two = one ++ to_be_bytes w16 r.flags in
    let three = two ++ to_be_bytes w16 r.command in
    let four = three ++ to_be_bytes w64 r.cookie in
    let five = four ++ to_be_bytes w64 r.offset in
    let whole : bytes ≡ fields one =
    read_all bytes (fields one) f (read_more bytes five e (to_be_bytes w32 r.length) f (read_more bytes four d (to_be_bytes w64 r.offset) e (read_more bytes three c (to_be_bytes w64 r.cookie) d
    (read_more bytes two b (to_be_bytes w16 r.command) c (read_more bytes one a (to_be_bytes w16 r.flags) b p q) s) t) u) v) none in
    whole ∙ ap (λ n. fields (to_be_bytes w32 n)) known

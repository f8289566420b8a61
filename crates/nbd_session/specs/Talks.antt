-- What a connection is sent, what is put to the port, and how it ends, as a function of the bytes that the client sent
-- and of the answers to what was put to the port.
use Rattle.std.specs.Prelude.{ℕ, zero, suc, ◌^◌, Bool, true, false, List, [], ◌∷◌, ◌++◌, length, take, drop, Option, Some, None, Result, Ok, Err, nat_lt, ◌==◌}
use Rattle.nbd_wire.specs.declared.hello.Hello.{Hello}
use Rattle.nbd_wire.specs.declared.options.OptionHead.{OptionHead}
use Rattle.nbd_wire.specs.declared.request.Request.{Request}
use Rattle.nbd_wire.specs.Hellos.{hello_at, server_hello}
use Rattle.nbd_wire.specs.Options.{option_at}
use Rattle.nbd_wire.specs.Requests.{request_at, data_length, simple_reply_bytes}
use Rattle.nbd_session.specs.declared.errno.Errno.{Errno}
use Rattle.nbd_session.specs.declared.export.Export.{Export}
use Rattle.nbd_session.specs.declared.job.Job.{Job}
use Rattle.nbd_session.specs.declared.served.Served.{Served}
use Rattle.nbd_session.specs.declared.served.Served.TheVariants.{Done, BadHello, BadMagic, Truncated, Oversized, TooManyOptions, TooManyRequests}
use Rattle.nbd_session.specs.Replies.{Answer, errno_number, reply_of}
use Rattle.nbd_session.specs.Jobs.{job_of}
use Rattle.nbd_session.specs.Options.{Next, More, Start, Stop, OptionAnswer, long_answer, short_answer}

-- a request that is put to the port, with its data
pub record Passed : Type 0 where
  pub job : Job
  pub bytes : List ℕ

-- a connection: the pieces that are sent, the greeting and then one for each message that is answered, the requests that
-- are put to the port in order, and the end; whether the bytes ended before a word that ends the connection; whether something was read behind
-- the message that the last piece answers; and the bytes behind the word that ends the connection
pub record Talk : Type 0 where
  pub pieces : List (List ℕ)
  pub passed : List Passed
  pub end : Served
  pub hungry : Bool
  pub begun : Bool
  pub unread : List ℕ

-- a part of a connection, from the bytes that are still to be read and the answers that are still to be given
abbrev pub Rest : Type 0
Rest = List ℕ → List Answer → Talk

-- the bytes ended, between two messages or inside one that was begun
abbrev pub stop : Served → Bool → Talk
stop end begun = record { pieces = []; passed = []; end = end; hungry = true; begun = begun; unread = [] }

-- a word ended the connection before these bytes: an answer that was sent, or a message that has none
abbrev pub stop_at : Served → Bool → List ℕ → Talk
stop_at end begun unread = record { pieces = []; passed = []; end = end; hungry = false; begun = begun; unread = unread }

-- a connection that begins with these
abbrev pub front : List (List ℕ) → List Passed → Talk → Talk
front pieces passed t = record { pieces = pieces ++ t.pieces; passed = passed ++ t.passed; end = t.end; hungry = t.hungry; begun = t.begun; unread = t.unread }

-- ---- requests

-- a request is put to the port and answered. One that has no answer is put to the port all the same
abbrev pub asks : Rest → ℕ → Passed → Rest
asks go cookie passed bytes [] = record { pieces = []; passed = passed ∷ []; end = Truncated; hungry = true; begun = true; unread = [] }
asks go cookie passed bytes (answer ∷ answers) = front (reply_of cookie answer ∷ []) (passed ∷ []) (go bytes answers)

-- a request that is put to the port, behind its data
unfoldable pub with_job : Rest → Request → Job → Rest
with_job go r job bytes answers = elim (nat_lt (length bytes) (data_length r)) [
  | true ↦ stop Truncated true
  | false ↦ asks go r.cookie (record { job = job; bytes = take (data_length r) bytes }) (drop (data_length r) bytes) answers
]

-- a request that is refused, behind its data
unfoldable pub with_refusal : Rest → Request → Errno → Rest
with_refusal go r errno bytes answers = elim (nat_lt (length bytes) (data_length r)) [
  | true ↦ stop Truncated true
  | false ↦ front (simple_reply_bytes (errno_number errno) r.cookie ∷ []) [] (go (drop (data_length r) bytes) answers)
]

abbrev pub tested : Rest → Request → Result Job Errno → Rest
tested go r (Err errno) = with_refusal go r errno
tested go r (Ok job) = with_job go r job

-- behind the 28 bytes of a request: DISC, which is command 2, and a WRITE of over 33,554,432 bytes end the connection
unfoldable pub after_request : Export → ℕ → Rest → Request → Rest
after_request export n go r bytes answers = elim (r.command == 2) [
  | true ↦ stop_at Done true bytes
  | false ↦ elim (nat_lt 33554432 (data_length r)) [
    | true ↦ stop_at (Oversized r.length) true bytes
    | false ↦ tested go r (job_of export n r) bytes answers
  ]
]

abbrev pub after_magic : Export → ℕ → Rest → Option Request → Rest
after_magic export n go None bytes answers = stop_at BadMagic true bytes
after_magic export n go (Some r) bytes answers = after_request export n go r bytes answers

-- one request, or the end of the bytes
unfoldable pub one_request : Export → ℕ → Rest → Rest
one_request export n go [] answers = stop Done false
one_request export n go (byte ∷ bytes) answers = elim (nat_lt (length (byte ∷ bytes)) 28) [
  | true ↦ stop Truncated true
  | false ↦ after_magic export n go (request_at (take 28 (byte ∷ bytes))) (drop 28 (byte ∷ bytes)) answers
]

-- at most so many requests
unfoldable pub transmission : Export → ℕ → ℕ → Rest
transmission export n zero bytes answers = stop_at TooManyRequests false bytes
transmission export n (suc left) bytes answers = one_request export n (transmission export n left) bytes answers

-- ---- the handshake

-- what comes after an option
abbrev pub goes_on : Rest → Rest → Next → Rest
goes_on more start More = more
goes_on more start Start = start
goes_on more start (Stop end) = λ bytes answers. stop_at end false bytes

abbrev pub answered : Rest → Rest → OptionAnswer → Rest
answered more start answer bytes answers = front (answer.said ∷ []) [] (goes_on more start answer.next bytes answers)

-- behind the head of an option: its data, and the answer
unfoldable pub after_option : Export → ℕ → Hello → Rest → Rest → OptionHead → Rest
after_option export n hello more start head bytes answers = elim (nat_lt (length bytes) head.length) [
  | true ↦ stop Truncated true
  | false ↦ elim (nat_lt 8192 head.length) [
    | true ↦ answered more start (long_answer head.option) (drop head.length bytes) answers
    | false ↦ answered more start (short_answer export n hello head.option (take head.length bytes)) (drop head.length bytes) answers
  ]
]

abbrev pub after_head : (OptionHead → Rest) → Option OptionHead → Rest
after_head next None bytes answers = stop_at BadMagic true bytes
after_head next (Some head) bytes answers = next head bytes answers

-- the head of an option, and what stands behind it
unfoldable pub with_head : (OptionHead → Rest) → Rest
with_head next bytes answers = elim (nat_lt (length bytes) 16) [
  | true ↦ stop Truncated (nat_lt 0 (length bytes))
  | false ↦ after_head next (option_at (take 16 bytes)) (drop 16 bytes) answers
]

-- at most so many options, and then at most 2^62 requests
unfoldable pub options : Export → ℕ → Hello → ℕ → Rest
options export n hello zero bytes answers = with_head (λ head. λ rest others. stop_at TooManyOptions true rest) bytes answers
options export n hello (suc left) bytes answers =
    with_head (after_option export n hello (options export n hello left) (transmission export n (2 ^ 62))) bytes answers

-- a good word of the client is answered by no bytes
abbrev pub after_hello : Export → ℕ → Option Hello → Rest
after_hello export n None bytes answers = stop_at BadHello true bytes
after_hello export n (Some hello) bytes answers = front ([] ∷ []) [] (options export n hello 64 bytes answers)

-- the client's first word, at most 64 options, and the requests
unfoldable pub greeted : Export → ℕ → Rest
greeted export n bytes answers = elim (nat_lt (length bytes) 4) [
  | true ↦ stop Truncated (nat_lt 0 (length bytes))
  | false ↦ after_hello export n (hello_at (take 4 bytes)) (drop 4 bytes) answers
]

-- a connection to an export of n sectors: the server speaks first
unfoldable pub talk : Export → ℕ → Rest
talk export n bytes answers = front (server_hello ∷ []) [] (greeted export n bytes answers)

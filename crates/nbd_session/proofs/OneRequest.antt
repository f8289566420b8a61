-- One request, step by step.
use Rattle.std.proofs.Common.{zero, suc, ◌≡◌, ℕ, ◌<◌, ◌≤◌, true, false, List, [], ◌∷◌, ◌++◌, length, refl, arith, length-append, take_at, drop_at}
use Rattle.std.proofs.lemmas.Bool.{lt-ltb, le-ltb, eq-eqb, ne_eqb}
use Rattle.nbd_wire.specs.declared.request.Request.{Request}
use Rattle.nbd_wire.specs.Requests.{request_at, data_length, simple_reply_bytes}
use Rattle.nbd_session.specs.declared.errno.Errno.{Errno}
use Rattle.nbd_session.specs.declared.export.Export.{Export}
use Rattle.nbd_session.specs.declared.job.Job.{Job}
use Rattle.nbd_session.specs.declared.served.Served.TheVariants.{Done, Truncated, Oversized}
use Rattle.nbd_session.specs.Replies.{Answer, errno_number}
use Rattle.nbd_session.specs.Jobs.{job_of}
use Rattle.nbd_session.specs.Talks.{Rest, stop, stop_at, asks, with_job, with_refusal, tested, after_request, after_magic, one_request, transmission}
use Rattle.nbd_session.specs.Sessions.{said, IsIdle}

-- ---- the 28 bytes

-- 28 bytes, and what they say
pub one_request-whole : (export : Export) (n : ℕ) (go : Rest) (bytes more : List ℕ) (answers : List Answer) → length bytes ≡ 28
    → one_request export n go (bytes ++ more) answers ≡ after_magic export n go (request_at bytes) more answers
unfolding one_request
one_request-whole export n go [] more answers whole = absurd (omega arith)
one_request-whole export n go (byte ∷ bytes) more answers whole =
    rw (le-ltb (length ((byte ∷ bytes) ++ more)) 28 (omega (arith, length-append (byte ∷ bytes) more)), one_request, take_at (byte ∷ bytes) more 28 whole, drop_at (byte ∷ bytes) more 28 whole)

-- no bytes
pub one_request-none : (export : Export) (n : ℕ) (go : Rest) (answers : List Answer) → one_request export n go [] answers ≡ stop Done false
unfolding one_request
one_request-none export n go answers = refl

-- some bytes, but fewer than 28
pub one_request-short : (export : Export) (n : ℕ) (go : Rest) (bytes : List ℕ) (answers : List Answer) → 0 < length bytes → length bytes < 28
    → one_request export n go bytes answers ≡ stop Truncated true
unfolding one_request
one_request-short export n go [] answers some short = absurd (omega arith)
one_request-short export n go (byte ∷ bytes) answers some short = rw (lt-ltb (length (byte ∷ bytes)) 28 short, one_request)

-- ---- the data

pub with_job-whole : (go : Rest) (r : Request) (job : Job) (bytes more : List ℕ) (answers : List Answer) → length bytes ≡ data_length r
    → with_job go r job (bytes ++ more) answers ≡ asks go r.cookie (record { job = job; bytes = bytes }) more answers
unfolding with_job
with_job-whole go r job bytes more answers whole =
    rw (le-ltb (length (bytes ++ more)) (data_length r) (omega (arith, length-append bytes more)), with_job, take_at bytes more (data_length r) whole, drop_at bytes more (data_length r) whole)

pub with_job-short : (go : Rest) (r : Request) (job : Job) (bytes : List ℕ) (answers : List Answer) → length bytes < data_length r
    → with_job go r job bytes answers ≡ stop Truncated true
unfolding with_job
with_job-short go r job bytes answers short = rw (lt-ltb (length bytes) (data_length r) short, with_job)

pub with_refusal-whole : (go : Rest) (r : Request) (errno : Errno) (bytes more : List ℕ) (answers : List Answer) → length bytes ≡ data_length r
    → with_refusal go r errno (bytes ++ more) answers ≡ said (simple_reply_bytes (errno_number errno) r.cookie) go more answers
unfolding with_refusal
with_refusal-whole go r errno bytes more answers whole =
    rw (le-ltb (length (bytes ++ more)) (data_length r) (omega (arith, length-append bytes more)), with_refusal, drop_at bytes more (data_length r) whole)

pub with_refusal-short : (go : Rest) (r : Request) (errno : Errno) (bytes : List ℕ) (answers : List Answer) → length bytes < data_length r
    → with_refusal go r errno bytes answers ≡ stop Truncated true
unfolding with_refusal
with_refusal-short go r errno bytes answers short = rw (lt-ltb (length bytes) (data_length r) short, with_refusal)

-- ---- behind the 28 bytes

pub after_request-done : (export : Export) (n : ℕ) (go : Rest) (r : Request) (bytes : List ℕ) (answers : List Answer) → r.command ≡ 2
    → after_request export n go r bytes answers ≡ stop_at Done true bytes
unfolding after_request
after_request-done export n go r bytes answers done = rw (eq-eqb r.command 2 done, after_request)

pub after_request-long : (export : Export) (n : ℕ) (go : Rest) (r : Request) (bytes : List ℕ) (answers : List Answer) → (r.command ≡ 2 → ⊥) → 33554432 < data_length r
    → after_request export n go r bytes answers ≡ stop_at (Oversized r.length) true bytes
unfolding after_request
after_request-long export n go r bytes answers other long =
    rw (ne_eqb r.command 2 other, after_request, lt-ltb 33554432 (data_length r) long)

pub after_request-tested : (export : Export) (n : ℕ) (go : Rest) (r : Request) (bytes : List ℕ) (answers : List Answer) → (r.command ≡ 2 → ⊥) → data_length r ≤ 33554432
    → after_request export n go r bytes answers ≡ tested go r (job_of export n r) bytes answers
unfolding after_request
after_request-tested export n go r bytes answers other short =
    rw (ne_eqb r.command 2 other, after_request, le-ltb 33554432 (data_length r) short)

-- ---- idle rests

pub transmission-idle : (export : Export) (n left : ℕ) → IsIdle (transmission export n left)
unfolding transmission one_request
transmission-idle export n zero = (refl, refl, refl, refl)
transmission-idle export n (suc left) = (refl, refl, refl, refl)

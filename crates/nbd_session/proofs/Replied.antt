-- One request behind its 28 bytes: its data, the port's answer, and the reply.
use Rattle.std.proofs.Common.{◌≡◌, ℕ, Bool, true, false, List, [], length, refl, inl}
use Rattle.std.specs.Prelude.{Option, Result}
use Rattle.std.specs.Io.KnownBytes.{Consumes}
use Rattle.flat_image.specs.Ports.{PortState}
use Rattle.nbd_wire.specs.declared.request.Request.{Request}
use Rattle.nbd_wire.specs.Requests.{data_length, simple_reply_bytes}
use Rattle.nbd_session.specs.declared.errno.Errno.{Errno}
use Rattle.nbd_session.specs.declared.errno.Errno.TheVariants as errno
use Rattle.nbd_session.specs.declared.job.Job.{Job}
use Rattle.nbd_session.specs.declared.job.Job.TheVariants.{Read, Write}
use Rattle.nbd_session.specs.declared.served.Served.{Served}
use Rattle.nbd_session.specs.Replies.{Answer, Bad, errno_number, reply_of}
use Rattle.nbd_session.specs.Talks.{Rest, asks, with_job, with_refusal}
use Rattle.nbd_session.specs.Fits.{Passes}
use Rattle.nbd_session.specs.Sessions.{ends, Ended, GoesOn, IsIdle, said, IsCut, Sends}
use Rattle.nbd_session.proofs.Charged.{charges_none}
use Rattle.nbd_session.proofs.OneRequest.{with_job-whole, with_job-short, with_refusal-whole, with_refusal-short}
use Rattle.nbd_session.proofs.Steps.{went_trans, goes_after, went_read, ended_cut, went_asked, sends_on}

module _ {T : Type 0} (takes : Bool) (go : Rest) (r : Request) (left left_now : Option (List ℕ)) (reads reads_now : ℕ) (written written_now : Option (List ℕ)) (writes writes_now : ℕ) where
  -- a request that was put to the port, behind these data
  pub job_replied : (job : Job) (bytes : List ℕ) (answer : Answer) (port port_now : PortState) (result : Result T Served) → IsIdle go
      → length bytes ≡ data_length r → Consumes left left_now bytes → reads_now ≡ reads
      → Passes takes port port_now (record { job = job; bytes = bytes }) answer → Sends written written_now writes writes_now (reply_of r.cookie answer) result
      → GoesOn takes (with_job go r job) (λ _. go) (ends left reads written writes port) (ends left_now reads_now written_now writes_now port_now) result
  job_replied job bytes answer port port_now result idle whole taken calm does sent =
      let read = went_read {takes = takes} (with_job go r job) (asks go r.cookie (record { job = job; bytes = bytes })) left left_now reads reads_now written writes port bytes taken calm
      (λ more others. with_job-whole go r job bytes more others whole) in
      let asked = went_asked {takes = takes} go r.cookie (record { job = job; bytes = bytes }) answer left_now reads_now written writes port port_now does in
      goes_after (λ _. go) (ends left_now reads_now written_now writes_now port_now) result (went_trans read asked)
      (sends_on takes (λ _. go) go left_now reads_now written written_now writes writes_now port_now (reply_of r.cookie answer) result idle (λ value. refl) sent)

  -- a request that was refused, behind these data
  pub refusal_replied : (refusal : Errno) (bytes : List ℕ) (port : PortState) (result : Result T Served) → IsIdle go
      → length bytes ≡ data_length r → Consumes left left_now bytes → reads_now ≡ reads
      → Sends written written_now writes writes_now (reply_of r.cookie (Bad refusal)) result
      → GoesOn takes (with_refusal go r refusal) (λ _. go) (ends left reads written writes port) (ends left_now reads_now written_now writes_now port) result
  refusal_replied refusal bytes port result idle whole taken calm sent =
      let read = went_read {takes = takes} (with_refusal go r refusal) (said (simple_reply_bytes (errno_number refusal) r.cookie) go) left left_now reads reads_now written writes port bytes taken calm
      (λ more others. with_refusal-whole go r refusal bytes more others whole) in
      goes_after (λ _. go) (ends left_now reads_now written_now writes_now port) result read
      (sends_on takes (λ _. go) go left_now reads_now written written_now writes writes_now port (reply_of r.cookie (Bad refusal)) result idle (λ value. refl) sent)

module _ (takes : Bool) (go : Rest) (r : Request) (left left_now : Option (List ℕ)) (reads reads_now : ℕ) (written : Option (List ℕ)) (writes : ℕ) (port : PortState) (end : Served) where
  -- the data were cut short
  pub job_cut : (job : Job) → IsCut left left_now reads reads_now (data_length r) end
      → Ended takes (with_job go r job) (ends left reads written writes port) (ends left_now reads_now written writes port) end
  job_cut job cut =
      ended_cut (with_job go r job) left left_now reads reads_now written writes port (data_length r) end (λ bytes. true) (λ bytes short. with_job-short go r job bytes [] short) cut

  pub refusal_cut : (refusal : Errno) → IsCut left left_now reads reads_now (data_length r) end
      → Ended takes (with_refusal go r refusal) (ends left reads written writes port) (ends left_now reads_now written writes port) end
  refusal_cut refusal cut =
      ended_cut (with_refusal go r refusal) left left_now reads reads_now written writes port (data_length r) end (λ bytes. true) (λ bytes short. with_refusal-short go r refusal bytes [] short) cut

-- a READ or a WRITE whose own bytes found no memory, and the port was not called
pub read-no_memory : (takes : Bool) (port : PortState) (at count : ℕ) (bytes : List ℕ) → Passes takes port port (record { job = Read at count; bytes = bytes }) (Bad errno.Memory)
read-no_memory takes port at count bytes = record { does = inl refl; cause = charges_none port (Bad errno.Memory) (λ e. cc) }

pub write-no_memory : (takes : Bool) (port : PortState) (at count : ℕ) (fua : Bool) (bytes : List ℕ) → Passes takes port port (record { job = Write at count fua; bytes = bytes }) (Bad errno.Memory)
write-no_memory takes port at count false bytes = record { does = inl refl; cause = charges_none port (Bad errno.Memory) (λ e. cc) }
write-no_memory takes port at count true bytes = record { does = inl (inl refl); cause = charges_none port (Bad errno.Memory) (λ e. cc) }

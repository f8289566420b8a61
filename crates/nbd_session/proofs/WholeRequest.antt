-- One request from its 28 bytes to its reply, and one after another.
use Rattle.std.proofs.Common.{suc, ◌≡◌, ℕ, ◌+◌, ◌-◌, ◌<◌, ◌≤◌, Bool, true, false, List, [], refl, sym, ap, ◌∙◌, subst, arith}
use Rattle.std.specs.Prelude.{Option, Result, Ok, Err}
use Rattle.std.proofs.KnownBytes.{Consumes-nil}
use Rattle.flat_image.specs.Ports.{PortState}
use Rattle.nbd_wire.specs.declared.request.Request.{Request}
use Rattle.nbd_wire.specs.Requests.{data_length}
use Rattle.nbd_session.specs.declared.errno.Errno.{Errno}
use Rattle.nbd_session.specs.declared.export.Export.{Export}
use Rattle.nbd_session.specs.declared.job.Job.{Job}
use Rattle.nbd_session.specs.declared.served.Served.{Served}
use Rattle.nbd_session.specs.declared.served.Served.TheVariants.{Done, Oversized, TooManyRequests}
use Rattle.nbd_session.specs.Replies.{Answer}
use Rattle.nbd_session.specs.Jobs.{job_of}
use Rattle.nbd_session.specs.Talks.{Rest, stop_at, with_job, with_refusal, tested, after_request, one_request, transmission}
use Rattle.nbd_session.specs.Sessions.{Ends, ends, Ended, Went, GoesOn}
use Rattle.nbd_session.proofs.OneRequest.{after_request-done, after_request-long, after_request-tested}
use Rattle.nbd_session.proofs.Steps.{went_trans, went_along, ended_after, ended_along, ended_word}

module _ (takes : Bool) (export : Export) (n : ℕ) (go : Rest) (r : Request) (old : Ends) (left : Option (List ℕ)) (reads : ℕ) (written : Option (List ℕ)) (writes : ℕ) (port : PortState) where
  -- DISC
  pub request_done : Went takes (one_request export n go) (after_request export n go r) old (ends left reads written writes port) → r.command ≡ 2
      → Ended takes (one_request export n go) old (ends left reads written writes port) Done
  request_done first done =
      ended_after first (ended_word (after_request export n go r) left left reads reads written writes port Done true [] (Consumes-nil left) refl
      (after_request-done export n go r [] [] done) (λ e. e) (λ e. cc) (λ e. cc))

  -- a WRITE of too many bytes
  pub request_long : Went takes (one_request export n go) (after_request export n go r) old (ends left reads written writes port) → (r.command ≡ 2 → ⊥) → 33554432 < data_length r
      → Ended takes (one_request export n go) old (ends left reads written writes port) (Oversized r.length)
  request_long first other long =
      ended_after first (ended_word (after_request export n go r) left left reads reads written writes port (Oversized r.length) true [] (Consumes-nil left) refl
      (after_request-long export n go r [] [] other long) (λ e. e) (λ e. cc) (λ e. cc))

-- all others
tested_on : {T : Type 0} (takes : Bool) (export : Export) (n : ℕ) (go : Rest) (r : Request) (rest : T → Rest) (old mid new : Ends) (result : Result T Served)
    → Went takes (one_request export n go) (after_request export n go r) old mid → (r.command ≡ 2 → ⊥) → data_length r ≤ 33554432
    → GoesOn takes (tested go r (job_of export n r)) rest mid new result → GoesOn takes (one_request export n go) rest old new result
tested_on takes export n go r rest old mid new (Ok value) first other short second =
    went_trans first (went_along (after_request export n go r) (rest value) (λ bytes answers. after_request-tested export n go r bytes answers other short) (λ bytes answers. refl) second)
tested_on takes export n go r rest old mid new (Err end) first other short second =
    ended_after first (ended_along (after_request export n go r) (λ bytes answers. after_request-tested export n go r bytes answers other short) second)

module _ {T : Type 0} (takes : Bool) (export : Export) (n : ℕ) (go : Rest) (r : Request) (rest : T → Rest) (old mid new : Ends) (result : Result T Served) where
  pub job_on : (job : Job) → Went takes (one_request export n go) (after_request export n go r) old mid → (r.command ≡ 2 → ⊥) → data_length r ≤ 33554432
      → job_of export n r ≡ Ok job → GoesOn takes (with_job go r job) rest mid new result → GoesOn takes (one_request export n go) rest old new result
  job_on job first other short is second =
      tested_on takes export n go r rest old mid new result first other short (subst (λ j. GoesOn takes (tested go r j) rest mid new result) (sym is) second)

  pub refusal_on : (errno : Errno) → Went takes (one_request export n go) (after_request export n go r) old mid → (r.command ≡ 2 → ⊥) → data_length r ≤ 33554432
      → job_of export n r ≡ Err errno → GoesOn takes (with_refusal go r errno) rest mid new result → GoesOn takes (one_request export n go) rest old new result
  refusal_on errno first other short is second =
      tested_on takes export n go r rest old mid new result first other short (subst (λ j. GoesOn takes (tested go r j) rest mid new result) (sym is) second)

-- ---- one request after another

transmission-suc : (export : Export) (n left less : ℕ) (bytes : List ℕ) (answers : List Answer) → left ≡ suc less
    → transmission export n left bytes answers ≡ one_request export n (transmission export n less) bytes answers
unfolding transmission
transmission-suc export n left less bytes answers is = ap (λ k. transmission export n k bytes answers) is

transmission-zero : (export : Export) (n : ℕ) (bytes : List ℕ) (answers : List Answer) → transmission export n 0 bytes answers ≡ stop_at TooManyRequests false bytes
unfolding transmission
transmission-zero export n bytes answers = refl

module _ (takes : Bool) (export : Export) (n : ℕ) (total done : ℕ) (old mid new : Ends) where
  -- a request more
  pub requests_more : done < total → Went takes (transmission export n total) (transmission export n (total - done)) old mid
      → Went takes (one_request export n (transmission export n (total - (done + 1)))) (transmission export n (total - (done + 1))) mid new
      → Went takes (transmission export n total) (transmission export n (total - (done + 1))) old new
  requests_more few first second =
      went_trans first (went_along (transmission export n (total - done)) (transmission export n (total - (done + 1)))
      (λ bytes answers. transmission-suc export n (total - done) (total - (done + 1)) bytes answers (omega arith)) (λ bytes answers. refl) second)

  -- a request at which the connection ended
  pub requests_end : (end : Served) → done < total → Went takes (transmission export n total) (transmission export n (total - done)) old mid
      → Ended takes (one_request export n (transmission export n (total - (done + 1)))) mid new end
      → Ended takes (transmission export n total) old new end
  requests_end end few first second =
      ended_after first (ended_along (transmission export n (total - done))
      (λ bytes answers. transmission-suc export n (total - done) (total - (done + 1)) bytes answers (omega arith)) second)

-- as many as there may be
pub requests_all : (takes : Bool) (export : Export) (n total done : ℕ) (old : Ends) (left : Option (List ℕ)) (reads : ℕ) (written : Option (List ℕ)) (writes : ℕ) (port : PortState) → total ≤ done
    → Went takes (transmission export n total) (transmission export n (total - done)) old (ends left reads written writes port)
    → Ended takes (transmission export n total) old (ends left reads written writes port) TooManyRequests
requests_all takes export n total done old left reads written writes port all first =
    ended_after first (ended_word (transmission export n (total - done)) left left reads reads written writes port TooManyRequests false [] (Consumes-nil left) refl
    (ap (λ k. transmission export n k [] []) (let none : total - done ≡ 0 = omega arith in none) ∙ transmission-zero export n [] []) (λ e. e) (λ e. cc) (λ e. cc))

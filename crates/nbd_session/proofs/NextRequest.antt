-- What becomes of a connection where the 28 bytes of a request are read.
use Rattle.std.proofs.Common.{◌≡◌, ℕ, ◌<◌, ◌≤◌, Bool, true, false, List, [], ◌∷◌, length, take, sym, ap, ◌∙◌, subst, arith, append-nil, length-take-le}
use Rattle.std.specs.Prelude.{Option, None, Some}
use Rattle.std.specs.Io.KnownBytes.{Consumes}
use Rattle.std.proofs.lemmas.List.{take_all}
use Rattle.byte_ports.specs.Ports.{FillsTo, TakesSome}
use Rattle.flat_image.specs.Ports.{PortState}
use Rattle.nbd_wire.specs.declared.request.Request.{Request}
use Rattle.nbd_wire.specs.Requests.{request_at}
use Rattle.nbd_session.specs.declared.export.Export.{Export}
use Rattle.nbd_session.specs.declared.served.Served.{Served}
use Rattle.nbd_session.specs.declared.served.Served.TheVariants.{Done, BadMagic, Truncated, SourceFault}
use Rattle.nbd_session.specs.Talks.{Rest, stop, after_request, after_magic, one_request}
use Rattle.nbd_session.specs.Sessions.{ends, Ended, Went}
use Rattle.nbd_session.proofs.OneRequest.{one_request-whole, one_request-none, one_request-short}
use Rattle.nbd_session.proofs.Steps.{went_read, ended_word, ended_bytes, ended_fault}

short_end : (export : Export) (n : ℕ) (go : Rest) (bytes : List ℕ) → length bytes < 28 → (end : Served) × (begun : Bool) × (one_request export n go bytes [] ≡ stop end begun)
short_end export n go [] short = (Done, false, one_request-none export n go [])
short_end export n go (byte ∷ bytes) short = (Truncated, true, one_request-short export n go (byte ∷ bytes) [] (omega arith) short)

module _ (takes : Bool) (export : Export) (n : ℕ) (go : Rest) (left left_now : Option (List ℕ)) (reads reads_now : ℕ) (written : Option (List ℕ)) (writes : ℕ) (port : PortState) where
  pub request-fault : (out : List ℕ) → length out ≡ 28 → TakesSome left left_now out → reads < reads_now
      → Ended takes (one_request export n go) (ends left reads written writes port) (ends left_now reads_now written writes port) SourceFault
  request-fault out size (count, few, taken) rose =
      let cut = short_end export n go (take count out) (omega (arith, length-take-le count out (omega arith))) in
      ended_fault (one_request export n go) left left_now reads reads_now written writes port cut.0 cut.1 (take count out) taken rose cut.2

  pub request-none : (out : List ℕ) (count : ℕ) → length out ≡ 28 → FillsTo left left_now out count → reads_now ≡ reads → count ≡ 0
      → Ended takes (one_request export n go) (ends left reads written writes port) (ends left_now reads_now written writes port) Done
  request-none out count size filled calm none =
      ended_bytes (one_request export n go) left left_now reads reads_now written writes port Done false (take count out) filled.taken (filled.end (omega arith)) calm
      (ap (λ k. one_request export n go (take k out) []) none ∙ one_request-none export n go []) (λ e. e) (λ e. cc) (λ e. cc)

  pub request-short : (out : List ℕ) (count : ℕ) → length out ≡ 28 → FillsTo left left_now out count → reads_now ≡ reads → (count ≡ 0 → ⊥) → count < 28
      → Ended takes (one_request export n go) (ends left reads written writes port) (ends left_now reads_now written writes port) Truncated
  request-short out count size filled calm some short =
      let long = length-take-le count out filled.within in
      ended_bytes (one_request export n go) left left_now reads reads_now written writes port Truncated true (take count out) filled.taken (filled.end (omega arith)) calm
      (one_request-short export n go (take count out) [] (omega arith) (omega arith)) (λ e. e) (λ e. cc) (λ e. cc)

  whole_taken : (out : List ℕ) (count : ℕ) → length out ≡ 28 → FillsTo left left_now out count → 28 ≤ count → Consumes left left_now out
  whole_taken out count size filled long = subst (Consumes left left_now) (take_all count out (omega arith)) filled.taken

  pub request-magic : (out : List ℕ) (count : ℕ) → length out ≡ 28 → FillsTo left left_now out count → reads_now ≡ reads → 28 ≤ count → request_at out ≡ None
      → Ended takes (one_request export n go) (ends left reads written writes port) (ends left_now reads_now written writes port) BadMagic
  request-magic out count size filled calm long other =
      ended_word (one_request export n go) left left_now reads reads_now written writes port BadMagic true out (whole_taken out count size filled long) calm
      (ap (λ l. one_request export n go l []) (sym (append-nil out)) ∙ (one_request-whole export n go out [] [] size ∙ ap (λ o. after_magic export n go o [] []) other)) (λ e. e) (λ e. cc) (λ e. cc)

  pub request-read : (out : List ℕ) (count : ℕ) (r : Request) → length out ≡ 28 → FillsTo left left_now out count → 28 ≤ count → reads_now ≡ reads → request_at out ≡ Some r
      → Went takes (one_request export n go) (after_request export n go r) (ends left reads written writes port) (ends left_now reads_now written writes port)
  request-read out count r size filled long calm found =
      went_read (one_request export n go) (after_request export n go r) left left_now reads reads_now written writes port out (whole_taken out count size filled long) calm
      (λ more others. one_request-whole export n go out more others size ∙ ap (λ o. after_magic export n go o more others) found)

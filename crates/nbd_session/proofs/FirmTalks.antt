-- A connection that was ended by a word is the same whatever stands behind that word.
use Rattle.std.proofs.Common.{◌≡◌, ℕ, zero, suc, ◌<◌, ◌^◌, inl, inr, Bool, true, false, List, [], ◌∷◌, ◌++◌, length, take, drop, refl, sym, ap, ◌∙◌, arith, append_assoc, take-append-drop, length-take-le, true≢false}
use Rattle.std.specs.Prelude.{Option, Some, None, Result, Ok, Err, nat_lt, ◌==◌}
use Rattle.std.proofs.lemmas.Bool.{cases_Bool, cases_lt, eqb-true, eqb-false, ltb-true, ltb-false}
use Rattle.nbd_wire.specs.declared.hello.Hello.{Hello}
use Rattle.nbd_wire.specs.declared.options.OptionHead.{OptionHead}
use Rattle.nbd_wire.specs.declared.request.Request.{Request}
use Rattle.nbd_wire.specs.Hellos.{hello_at, server_hello}
use Rattle.nbd_wire.specs.Options.{option_at}
use Rattle.nbd_wire.specs.Requests.{request_at, data_length, simple_reply_bytes}
use Rattle.nbd_session.specs.declared.errno.Errno.{Errno}
use Rattle.nbd_session.specs.declared.export.Export.{Export}
use Rattle.nbd_session.specs.declared.job.Job.{Job}
use Rattle.nbd_session.specs.declared.served.Served.{Served}
use Rattle.nbd_session.specs.declared.served.Served.TheVariants.{Done, BadHello, BadMagic, Oversized, TooManyOptions, TooManyRequests}
use Rattle.nbd_session.specs.Replies.{Answer, errno_number, reply_of}
use Rattle.nbd_session.specs.Jobs.{job_of}
use Rattle.nbd_session.specs.Options.{Next, More, Start, Stop, OptionAnswer}
use Rattle.nbd_session.specs.Talks.{Passed, Rest, front, stop_at, asks, with_job, with_refusal, tested, after_request, after_magic, one_request, transmission, goes_on, answered, after_option, after_head, with_head, options, after_hello, greeted, talk}
use Rattle.nbd_session.specs.Completeness.{answer_to, with_more, IsFirm}
use Rattle.nbd_session.proofs.OneRequest.{one_request-whole, one_request-none, one_request-short, with_job-whole, with_job-short, with_refusal-whole, with_refusal-short, after_request-done, after_request-long, after_request-tested}
use Rattle.nbd_session.proofs.Greetings.{greeted-whole, greeted-short, with_head-whole, with_head-short, options-some, talk-said, after_option-cut}
use Rattle.nbd_session.proofs.OrderlyLaws.{after_option-whole, transmission_more}

-- a word ends the connection
abbrev word : Served → Bool → Rest
word end begun bytes answers = stop_at end begun bytes

firm_stop : (end : Served) (begun : Bool) → IsFirm (word end begun)
firm_stop end begun bytes more answers fed = refl

firm_same : (f g : Rest) → ((bytes : List ℕ) (answers : List Answer) → f bytes answers ≡ g bytes answers) → IsFirm g → IsFirm f
firm_same f g same firm bytes more answers fed =
    same (bytes ++ more) answers
    ∙ (firm bytes more answers (ap (λ t. t.hungry) (sym (same bytes answers)) ∙ fed)
    ∙ ap (λ t. with_more t more) (sym (same bytes answers)))

-- a part that begins with so many bytes, or ends where they are not there
firm_after : (f : Rest) (size : ℕ) (rest : List ℕ → Rest)
    → ((bytes : List ℕ) (answers : List Answer) → length bytes < size → (f bytes answers).hungry ≡ true)
    → ((bytes more : List ℕ) (answers : List Answer) → length bytes ≡ size → f (bytes ++ more) answers ≡ rest bytes more answers)
    → ((bytes : List ℕ) → IsFirm (rest bytes)) → IsFirm f
firm_after f size rest short whole firm bytes more answers fed = elim (cases_lt (length bytes) size) [
  | inl lt ↦ absurd (true≢false (sym (short bytes answers lt) ∙ fed))
  | inr le ↦
      let lead = take size bytes in
      let behind = drop size bytes in
      let long = length-take-le size bytes le in
      let is : f bytes answers ≡ rest lead behind answers =
      ap (λ l. f l answers) (sym (take-append-drop size bytes)) ∙ whole lead behind answers long in
      ap (λ l. f (l ++ more) answers) (sym (take-append-drop size bytes))
      ∙ (ap (λ l. f l answers) (append_assoc lead behind more)
      ∙ (whole lead (behind ++ more) answers long
      ∙ (firm lead behind more answers (ap (λ t. t.hungry) (sym is) ∙ fed)
      ∙ ap (λ t. with_more t more) (sym is))))
]

firm_front : (go : Rest) (pieces : List (List ℕ)) (passed : List Passed) → IsFirm go → IsFirm (λ bytes answers. front pieces passed (go bytes answers))
firm_front go pieces passed firm bytes more answers fed = ap (front pieces passed) (firm bytes more answers fed)

-- ---- requests

firm_asks : (go : Rest) (cookie : ℕ) (passed : Passed) → IsFirm go → IsFirm (asks go cookie passed)
firm_asks go cookie passed firm bytes more [] fed = absurd (true≢false fed)
firm_asks go cookie passed firm bytes more (answer ∷ answers) fed = ap (front (reply_of cookie answer ∷ []) (passed ∷ [])) (firm bytes more answers fed)

firm_job : (go : Rest) (r : Request) (job : Job) → IsFirm go → IsFirm (with_job go r job)
firm_job go r job firm =
    firm_after (with_job go r job) (data_length r) (λ bytes. asks go r.cookie (record { job = job; bytes = bytes }))
    (λ bytes answers short. ap (λ t. t.hungry) (with_job-short go r job bytes answers short)) (λ bytes more answers whole. with_job-whole go r job bytes more answers whole)
    (λ bytes. firm_asks go r.cookie (record { job = job; bytes = bytes }) firm)

firm_refusal : (go : Rest) (r : Request) (errno : Errno) → IsFirm go → IsFirm (with_refusal go r errno)
firm_refusal go r errno firm =
    firm_after (with_refusal go r errno) (data_length r) (λ bytes rest answers. front (simple_reply_bytes (errno_number errno) r.cookie ∷ []) [] (go rest answers))
    (λ bytes answers short. ap (λ t. t.hungry) (with_refusal-short go r errno bytes answers short)) (λ bytes more answers whole. with_refusal-whole go r errno bytes more answers whole)
    (λ bytes. firm_front go (simple_reply_bytes (errno_number errno) r.cookie ∷ []) [] firm)

firm_tested : (go : Rest) (r : Request) (result : Result Job Errno) → IsFirm go → IsFirm (tested go r result)
firm_tested go r (Err errno) firm = firm_refusal go r errno firm
firm_tested go r (Ok job) firm = firm_job go r job firm

firm_request : (export : Export) (n : ℕ) (go : Rest) (r : Request) → IsFirm go → IsFirm (after_request export n go r)
firm_request export n go r firm = elim (cases_Bool (r.command == 2)) [
  | inl done ↦ firm_same (after_request export n go r) (word Done true) (λ bytes answers. after_request-done export n go r bytes answers (eqb-true r.command 2 done)) (firm_stop Done true)
  | inr other ↦ elim (cases_Bool (nat_lt 33554432 (data_length r))) [
    | inl long ↦ firm_same (after_request export n go r) (word (Oversized r.length) true)
        (λ bytes answers. after_request-long export n go r bytes answers (eqb-false r.command 2 other) (ltb-true 33554432 (data_length r) long)) (firm_stop (Oversized r.length) true)
    | inr short ↦ firm_same (after_request export n go r) (tested go r (job_of export n r))
        (λ bytes answers. after_request-tested export n go r bytes answers (eqb-false r.command 2 other) (ltb-false 33554432 (data_length r) short)) (firm_tested go r (job_of export n r) firm)
  ]
]

firm_magic : (export : Export) (n : ℕ) (go : Rest) (found : Option Request) → IsFirm go → IsFirm (after_magic export n go found)
firm_magic export n go None firm = firm_stop BadMagic true
firm_magic export n go (Some r) firm = firm_request export n go r firm

hungry_request : (export : Export) (n : ℕ) (go : Rest) (bytes : List ℕ) (answers : List Answer) → length bytes < 28 → (one_request export n go bytes answers).hungry ≡ true
hungry_request export n go [] answers short = ap (λ t. t.hungry) (one_request-none export n go answers)
hungry_request export n go (byte ∷ bytes) answers short = ap (λ t. t.hungry) (one_request-short export n go (byte ∷ bytes) answers (omega arith) short)

pub firm_transmission : (export : Export) (n left : ℕ) → IsFirm (transmission export n left)
unfolding transmission
firm_transmission export n zero = firm_stop TooManyRequests false
firm_transmission export n (suc left) =
    firm_same (transmission export n (suc left)) (one_request export n (transmission export n left)) (transmission_more export n left)
    (firm_after (one_request export n (transmission export n left)) 28 (λ bytes. after_magic export n (transmission export n left) (request_at bytes))
    (hungry_request export n (transmission export n left)) (one_request-whole export n (transmission export n left))
    (λ bytes. firm_magic export n (transmission export n left) (request_at bytes) (firm_transmission export n left)))

-- ---- options

firm_goes_on : (go start : Rest) (next : Next) → IsFirm go → IsFirm start → IsFirm (goes_on go start next)
firm_goes_on go start More firm begins = firm
firm_goes_on go start Start firm begins = begins
firm_goes_on go start (Stop end) firm begins = firm_stop end false

-- what is answered to an option
abbrev chosen : Export → ℕ → Hello → OptionHead → List ℕ → OptionAnswer
chosen export n hello head bytes = answer_to export n hello (record { bytes = []; head = head; items = bytes })

firm_option : (export : Export) (n : ℕ) (hello : Hello) (go start : Rest) (head : OptionHead) → IsFirm go → IsFirm start → IsFirm (after_option export n hello go start head)
firm_option export n hello go start head firm begins =
    firm_after (after_option export n hello go start head) head.length (λ bytes. answered go start (chosen export n hello head bytes))
    (λ bytes answers short. ap (λ t. t.hungry) (after_option-cut export n hello go start head bytes answers short)) (λ bytes more answers whole. after_option-whole export n hello go start (record { bytes = []; head = head; items = bytes }) more answers whole)
    (λ bytes. firm_front (goes_on go start (chosen export n hello head bytes).next) ((chosen export n hello head bytes).said ∷ []) []
    (firm_goes_on go start (chosen export n hello head bytes).next firm begins))

firm_found : (next : OptionHead → Rest) (found : Option OptionHead) → ((head : OptionHead) → IsFirm (next head)) → IsFirm (after_head next found)
firm_found next None firm = firm_stop BadMagic true
firm_found next (Some head) firm = firm head

firm_head : (next : OptionHead → Rest) → ((head : OptionHead) → IsFirm (next head)) → IsFirm (with_head next)
firm_head next firm =
    firm_after (with_head next) 16 (λ bytes. after_head next (option_at bytes)) (λ bytes answers short. ap (λ t. t.hungry) (with_head-short next bytes answers short)) (with_head-whole next)
    (λ bytes. firm_found next (option_at bytes) firm)

firm_options : (export : Export) (n : ℕ) (hello : Hello) (left : ℕ) → IsFirm (options export n hello left)
unfolding options
firm_options export n hello zero = firm_head (λ head. λ rest others. stop_at TooManyOptions true rest) (λ head. firm_stop TooManyOptions true)
firm_options export n hello (suc left) =
    let next = after_option export n hello (options export n hello left) (transmission export n (2 ^ 62)) in
    firm_same (options export n hello (suc left)) (with_head next) (options-some export n hello left)
    (firm_head next (λ head. firm_option export n hello (options export n hello left) (transmission export n (2 ^ 62)) head
    (firm_options export n hello left) (firm_transmission export n (2 ^ 62))))

-- ---- the whole

firm_hello : (export : Export) (n : ℕ) (found : Option Hello) → IsFirm (after_hello export n found)
firm_hello export n None = firm_stop BadHello true
firm_hello export n (Some hello) = firm_front (options export n hello 64) ([] ∷ []) [] (firm_options export n hello 64)

firm_greeted : (export : Export) (n : ℕ) → IsFirm (greeted export n)
firm_greeted export n =
    firm_after (greeted export n) 4 (λ bytes. after_hello export n (hello_at bytes)) (λ bytes answers short. ap (λ t. t.hungry) (greeted-short export n bytes answers short))
    (greeted-whole export n) (λ bytes. firm_hello export n (hello_at bytes))

pub firm_talk : (export : Export) (n : ℕ) → IsFirm (talk export n)
firm_talk export n =
    firm_same (talk export n) (λ bytes answers. front (server_hello ∷ []) [] (greeted export n bytes answers)) (talk-said export n server_hello refl)
    (firm_front (greeted export n) (server_hello ∷ []) [] (firm_greeted export n))

-- A client that is in order is served to the end.
use Rattle.std.proofs.Common.{◌≡◌, ℕ, zero, suc, ◌+◌, ◌<◌, ◌≤◌, ◌^◌, ◌⊎◌, inl, inr, Bool, true, false, cond, List, [], ◌∷◌, ◌++◌, length, map, All, refl, sym, ap, ◌∙◌, subst, arith, append_assoc, append-nil, length-append}
use Rattle.std.specs.Prelude.{Some, Ok, Err, nat_lt, not}
use Rattle.std.specs.List.{concat}
use Rattle.std.specs.Int.{w32, to_be_bytes}
use Rattle.std.proofs.lemmas.Bool.{cond-true, cond-false, cases_Bool, ltb-true, ltb-false}
use Rattle.std.proofs.lemmas.List.Elements.{All-nil, All-cons, All-head, All-tail}
use Rattle.std.specs.Io.KnownBytes.{IsAtEnd}
use Rattle.flat_image.specs.declared.base.Base.{Base}
use Rattle.flat_image.specs.Ports.{PortState, IsWorn}
use Rattle.nbd_wire.specs.declared.hello.Hello.{Hello}
use Rattle.nbd_wire.specs.declared.options.OptionHead.{OptionHead}
use Rattle.nbd_wire.specs.declared.request.Request.{Request}
use Rattle.nbd_wire.specs.Hellos.{HelloOf, hello_at, server_hello}
use Rattle.nbd_wire.specs.Options.{OptionOf, OptionHeadOf, option_bytes}
use Rattle.nbd_wire.specs.Requests.{RequestHeadOf, request_bytes}
use Rattle.nbd_wire.proofs.OptionLaws.{option_at-of}
use Rattle.nbd_wire.proofs.RequestLaws.{request_at-of}
use Rattle.nbd_session.specs.declared.errno.Errno.TheVariants.{Invalid}
use Rattle.nbd_session.specs.declared.export.Export.{Export}
use Rattle.nbd_session.specs.declared.job.Job.{Job}
use Rattle.nbd_session.specs.declared.served.Served.{Served}
use Rattle.nbd_session.specs.declared.served.Served.TheVariants.{Done, Aborted, BadHello, BadMagic, Truncated, Oversized, TooManyOptions, UnknownExport, TooManyRequests, SourceFault, SinkFault, Memory}
use Rattle.nbd_session.specs.Replies.{Answer, reply_of}
use Rattle.nbd_session.specs.Jobs.{job_of, is_known}
use Rattle.nbd_session.specs.Options.{Next, More, Start, Stop, OptionAnswer}
use Rattle.nbd_session.specs.Talks.{Talk, Rest, front, asks, tested, after_magic, one_request, transmission, goes_on, answered, after_option, after_head, with_head, options, after_hello, greeted, talk}
use Rattle.nbd_session.specs.Fits.{Fits}
use Rattle.nbd_session.specs.Sessions.{Ends, TellsFaults, Why}
use Rattle.nbd_session.specs.Completeness.{Offer, Message, answer_to, AreOptions, IsProper, IsGoodbye, IsOrderly, IsCalm, JobHasRoom, HasRoomForIt, option_replies, replies, IsWell, IsServed, OrderlyAreServed, NoneEnds, EndsOrWants}
use Rattle.nbd_session.proofs.Greetings.{greeted-whole, with_head-whole, options-some}
use Rattle.nbd_session.proofs.Steps.{front-front}
use Rattle.nbd_session.proofs.OneRequest.{one_request-whole, one_request-none, with_job-whole, after_request-done, after_request-tested}
use Rattle.nbd_session.proofs.OneAnswer.{later_base, does_notes}
use Rattle.nbd_session.proofs.FitsLaws.{fits_notes}
use Rattle.nbd_session.proofs.Greetings.{greeted-whole, with_head-whole, options-some, talk-said, after_option-long, after_option-short}
use Rattle.nbd_session.proofs.QuietLaws.{does_well}

-- ---- requests

request_length : (bytes : List ℕ) (r : Request) → RequestHeadOf bytes r → length bytes ≡ 28
unfolding request_bytes
request_length bytes r h = ap length h.spelled

-- DISC is none of the requests that have a job
job-going : (export : Export) (n : ℕ) (r : Request) (job : Job) → job_of export n r ≡ Ok job → r.command ≡ 2 → ⊥
unfolding job_of
job-going export n r job asks done =
    let refused : job_of export n r ≡ Err Invalid = cond-true _ _ _ (ap (λ c. not (is_known c)) done) in
    let never : Err Invalid ≡ Ok job = sym refused ∙ asks in cc

-- a proper request is put to the port
pub proper_asks : (export : Export) (n : ℕ) (go : Rest) (m : Message) (h : IsProper export n m) (more : List ℕ) (answers : List Answer)
    → one_request export n go (m.bytes ++ more) answers ≡ asks go m.request.cookie (record { job = h.job; bytes = m.items }) more answers
proper_asks export n go m h more answers =
    ap (λ l. one_request export n go (l ++ more) answers) h.is.spelled
    ∙ (ap (λ l. one_request export n go l answers) (append_assoc h.is.front m.items more)
    ∙ (one_request-whole export n go h.is.front (m.items ++ more) answers (request_length h.is.front m.request h.is.head_is)
    ∙ (ap (λ o. after_magic export n go o (m.items ++ more) answers) (request_at-of h.is.front m.request h.is.head_is)
    ∙ (after_request-tested export n go m.request (m.items ++ more) answers (job-going export n m.request h.job h.asks) h.small
    ∙ (ap (λ r. tested go m.request r (m.items ++ more) answers) h.asks
    ∙ with_job-whole go m.request h.job m.items more answers h.is.whole)))))

-- nothing more is sent, and nothing put to the port
abbrev pub bye : Bool → Talk
bye hungry = record { pieces = []; passed = []; end = Done; hungry = hungry; begun = not hungry; unread = [] }

pub goodbye : (export : Export) (n : ℕ) (go : Rest) (tail : List ℕ) (answers : List Answer) → IsGoodbye tail → (hungry : Bool) × (one_request export n go tail answers ≡ bye hungry)
goodbye export n go tail answers end = elim end [
  | inl none ↦ (true, ap (λ l. one_request export n go l answers) none ∙ one_request-none export n go answers)
  | inr (r, is, done) ↦ (
    false,
    ap (λ l. one_request export n go l answers) is.spelled
        ∙ (one_request-whole export n go is.front [] answers (request_length is.front r is.head_is)
        ∙ (ap (λ o. after_magic export n go o [] answers) (request_at-of is.front r is.head_is)
        ∙ after_request-done export n go r [] answers done)),
  )
]

-- a connection that is done, with a reply for each request
record Ran (requests : List Message) (answers : List Answer) (t : Talk) : Type 0 where
  done : t.end ≡ Done
  each : length answers ≡ length requests
  well : All IsWell answers
  sent : t.pieces ≡ replies requests answers

abbrev pub sent_by : List Message → List ℕ
sent_by requests = concat (map (λ m. m.bytes) requests)

pub transmission_more : (export : Export) (n left : ℕ) (bytes : List ℕ) (answers : List Answer) → transmission export n (suc left) bytes answers ≡ one_request export n (transmission export n left) bytes answers
unfolding transmission
transmission_more export n left bytes answers = refl

ran_none : (takes : Bool) (p new : PortState) (answers : List Answer) (t : Talk) (hungry : Bool) → t ≡ bye hungry → Fits takes p t.passed answers new → Ran [] answers t
ran_none takes p new [] t hungry is fits = record { done = ap (λ s. s.end) is; each = refl; well = All-nil IsWell; sent = ap (λ s. s.pieces) is }
ran_none takes p new (answer ∷ answers) t hungry is fits = absurd (subst (λ s. Fits takes p s.passed (answer ∷ answers) new) is fits)

requests_run : (takes : Bool) (export : Export) (n : ℕ) (base : Base) (new : PortState) (tail : List ℕ) → IsGoodbye tail → (IsWorn new → ⊥)
    → (requests : List Message) (left : ℕ) (answers : List Answer) (p : PortState)
    → All (IsProper export n) requests → length requests < left → All (HasRoomForIt export n base new.seen) requests → p.base ≡ base → new.faults ≤ p.faults
    → Fits takes p (transmission export n left (sent_by requests ++ tail) answers).passed answers new
    → Ran requests answers (transmission export n left (sent_by requests ++ tail) answers)
requests_run takes export n base new tail end going [] zero answers p proper many roomy same calm fits = absurd (omega arith)
requests_run takes export n base new tail end going [] (suc left) answers p proper many roomy same calm fits =
    let (hungry, is) = goodbye export n (transmission export n left) tail answers end in
    ran_none takes p new answers (transmission export n (suc left) tail answers) hungry (transmission_more export n left tail answers ∙ is) fits
requests_run takes export n base new tail end going (m ∷ requests) zero answers p proper many roomy same calm fits = absurd (omega arith)
requests_run takes export n base new tail end going (m ∷ requests) (suc left) [] p proper many roomy same calm fits =
    let h = All-head (IsProper export n) m requests proper in
    let is = transmission_more export n left ((m.bytes ++ sent_by requests) ++ tail) []
    ∙ (ap (λ l. one_request export n (transmission export n left) l []) (append_assoc m.bytes (sent_by requests) tail)
    ∙ proper_asks export n (transmission export n left) m h (sent_by requests ++ tail) []) in
    absurd (subst (λ t. Fits takes p t.passed [] new) is fits)
requests_run takes export n base new tail end going (m ∷ requests) (suc left) (answer ∷ answers) p proper many roomy same calm fits =
    let h = All-head (IsProper export n) m requests proper in
    let go = transmission export n left in
    let more = sent_by requests ++ tail in
    let is = transmission_more export n left ((m.bytes ++ sent_by requests) ++ tail) (answer ∷ answers)
    ∙ (ap (λ l. one_request export n (transmission export n left) l (answer ∷ answers)) (append_assoc m.bytes (sent_by requests) tail)
    ∙ proper_asks export n (transmission export n left) m h (sent_by requests ++ tail) (answer ∷ answers)) in
    let (mid, does, rest) = subst (λ t. Fits takes p t.passed (answer ∷ answers) new) is fits in
    let (noted, notes) = does_notes takes p mid h.job m.items answer does.does in
    let (others, later) = fits_notes takes mid new (go more answers).passed answers rest in
    let fit = All-head (HasRoomForIt export n base new.seen) m requests roomy h.job h.asks in
    let run = requests_run takes export n base new tail end going requests left answers mid (All-tail (IsProper export n) m requests proper) (omega arith)
    (All-tail (HasRoomForIt export n base new.seen) m requests roomy) (later_base p mid noted notes ∙ same) (omega (arith, notes.later)) rest in
    record {
      done = ap (λ s. s.end) is ∙ run.done;
      each = ap suc run.each;
      well = All-cons IsWell answer answers (does_well takes p mid new others h.job m.items answer does.does later calm going (subst (λ b. JobHasRoom b new.seen h.job m.items) (sym same) fit)) run.well;
      sent = ap (λ s. s.pieces) is ∙ ap (λ l. reply_of m.request.cookie answer ∷ l) run.sent;
    }

-- ---- options

option_length : (bytes : List ℕ) (head : OptionHead) → OptionHeadOf bytes head → length bytes ≡ 16
unfolding option_bytes
option_length bytes head h = ap length h.spelled

-- an option behind its head, with its data
pub after_option-whole : (export : Export) (n : ℕ) (hello : Hello) (go start : Rest) (o : Offer) (more : List ℕ) (answers : List Answer) → length o.items ≡ o.head.length
    → after_option export n hello go start o.head (o.items ++ more) answers ≡ answered go start (answer_to export n hello o) more answers
after_option-whole export n hello go start o more answers whole = elim (cases_Bool (nat_lt 8192 o.head.length)) [
  | inl long ↦ after_option-long export n hello go start o.head o.items more answers whole (ltb-true 8192 o.head.length long)
      ∙ ap (λ a. answered go start a more answers) (sym (cond-true _ _ _ long))
  | inr short ↦ after_option-short export n hello go start o.head o.items more answers whole (ltb-false 8192 o.head.length short)
      ∙ ap (λ a. answered go start a more answers) (sym (cond-false _ _ _ short))
]

option_answered : (export : Export) (n : ℕ) (hello : Hello) (go start : Rest) (o : Offer) → OptionOf o.bytes o.head o.items → (more : List ℕ) (answers : List Answer)
    → with_head (after_option export n hello go start) (o.bytes ++ more) answers ≡ answered go start (answer_to export n hello o) more answers
option_answered export n hello go start o h more answers =
    ap (λ l. with_head (after_option export n hello go start) (l ++ more) answers) h.spelled
    ∙ (ap (λ l. with_head (after_option export n hello go start) l answers) (append_assoc h.front o.items more)
    ∙ (with_head-whole (after_option export n hello go start) h.front (o.items ++ more) answers (option_length h.front o.head h.head_is)
    ∙ (ap (λ x. after_head (after_option export n hello go start) x (o.items ++ more) answers) (option_at-of h.front o.head h.head_is)
    ∙ after_option-whole export n hello go start o more answers h.whole)))

abbrev offered : List Offer → List ℕ
offered options = concat (map (λ o. o.bytes) options)

-- the last option begins the transmission
begun : (go start : Rest) (answer : OptionAnswer) (more : List ℕ) (answers : List Answer) → answer.next ≡ Start
    → answered go start answer more answers ≡ front (answer.said ∷ []) [] (start more answers)
begun go start answer more answers begins = ap (λ x. front (answer.said ∷ []) [] (goes_on go start x more answers)) begins

-- an option before it goes on: it does not end the connection, or bytes stand behind it that were read
went_on : (go start : Rest) (next : Next) → (next ≡ Start → ⊥) → (more : List ℕ) (answers : List Answer) → 0 < length more
    → ((goes_on go start next more answers).unread ≡ []) ⊎ ((end : Served) → next ≡ Stop end → ⊥) → goes_on go start next more answers ≡ go more answers
went_on go start More other more answers some how = refl
went_on go start Start other more answers some how = absurd (other refl)
went_on go start (Stop end) other more answers some how = elim how [
  | inl read ↦ let none : 0 ≡ length more = ap length (sym read) in let never : ⊥ = omega (arith, none, some) in absurd never
  | inr goes ↦ absurd (goes end refl)
]

-- an option has bytes
some_bytes : (export : Export) (n : ℕ) (hello : Hello) (offers : List Offer) (more : List ℕ) → AreOptions export n hello offers → 0 < length (offered offers ++ more)
some_bytes export n hello [] more are = absurd are
some_bytes export n hello (o ∷ []) more (is, begins) =
    let size : length o.bytes ≡ length is.front + length o.items = ap length is.spelled ∙ length-append is.front o.items in
    omega (arith, size, option_length is.front o.head is.head_is, length-append o.bytes [], length-append (o.bytes ++ []) more)
some_bytes export n hello (o ∷ next ∷ offers) more (is, other, are) =
    let size : length o.bytes ≡ length is.front + length o.items = ap length is.spelled ∙ length-append is.front o.items in
    omega (arith, size, option_length is.front o.head is.head_is, length-append o.bytes (offered (next ∷ offers)), length-append (o.bytes ++ offered (next ∷ offers)) more)

-- all bytes were read, or no option ends the connection
abbrev Reads : Export → ℕ → Hello → List Offer → Talk → Type 0
Reads export n hello offers t = (t.unread ≡ []) ⊎ NoneEnds export n hello offers

first_reads : (export : Export) (n : ℕ) (hello : Hello) (o : Offer) (offers : List Offer) (t u : Talk) → t.unread ≡ u.unread → Reads export n hello (o ∷ offers) t → (u.unread ≡ []) ⊎ ((end : Served) → (answer_to export n hello o).next ≡ Stop end → ⊥)
first_reads export n hello o offers t u same how = elim how [
  | inl read ↦ inl (sym same ∙ read)
  | inr goes ↦ inr (All-head (λ x. (end : Served) → (answer_to export n hello x).next ≡ Stop end → ⊥) o offers goes)
]

other_reads : (export : Export) (n : ℕ) (hello : Hello) (o : Offer) (offers : List Offer) (t u : Talk) → t.unread ≡ u.unread → Reads export n hello (o ∷ offers) t → Reads export n hello offers u
other_reads export n hello o offers t u same how = elim how [
  | inl read ↦ inl (sym same ∙ read)
  | inr goes ↦ inr (All-tail (λ x. (end : Served) → (answer_to export n hello x).next ≡ Stop end → ⊥) o offers goes)
]

pub options_run : (export : Export) (n : ℕ) (hello : Hello) (offers : List Offer) (left : ℕ) (more : List ℕ) (answers : List Answer)
    → AreOptions export n hello offers → length offers ≤ left
    → Reads export n hello offers (options export n hello left (offered offers ++ more) answers)
    → options export n hello left (offered offers ++ more) answers ≡ front (option_replies export n hello offers) [] (transmission export n (2 ^ 62) more answers)
options_run export n hello [] left more answers are few how = absurd are
options_run export n hello (o ∷ []) zero more answers are few how = absurd (omega arith)
options_run export n hello (o ∷ []) (suc left) more answers (is, begins) few how =
    let go = options export n hello left in
    let start = transmission export n (2 ^ 62) in
    ap (λ l. options export n hello (suc left) (l ++ more) answers) (append-nil o.bytes)
    ∙ (options-some export n hello left (o.bytes ++ more) answers
    ∙ (option_answered export n hello go start o is more answers
    ∙ begun go start (answer_to export n hello o) more answers begins))
options_run export n hello (o ∷ next ∷ offers) zero more answers are few how = absurd (omega arith)
options_run export n hello (o ∷ next ∷ offers) (suc left) more answers (is, other, are) few how =
    let go = options export n hello left in
    let start = transmission export n (2 ^ 62) in
    let answer = answer_to export n hello o in
    let rest = offered (next ∷ offers) ++ more in
    let whole = options export n hello (suc left) (offered (o ∷ next ∷ offers) ++ more) answers in
    let first : whole ≡ answered go start answer rest answers =
    ap (λ l. options export n hello (suc left) l answers) (append_assoc o.bytes (offered (next ∷ offers)) more)
    ∙ (options-some export n hello left (o.bytes ++ rest) answers
    ∙ option_answered export n hello go start o is rest answers) in
    let unread : whole.unread ≡ (goes_on go start answer.next rest answers).unread = ap (λ t. t.unread) first in
    let on : goes_on go start answer.next rest answers ≡ go rest answers =
    went_on go start answer.next other rest answers (some_bytes export n hello (next ∷ offers) more are)
    (first_reads export n hello o (next ∷ offers) whole (goes_on go start answer.next rest answers) unread how) in
    first
    ∙ (ap (front (answer.said ∷ []) []) (on ∙ options_run export n hello (next ∷ offers) left more answers are (omega arith)
    (other_reads export n hello o (next ∷ offers) whole (go rest answers) (unread ∙ ap (λ t. t.unread) on) how))
    ∙ front-front (answer.said ∷ []) (option_replies export n hello (next ∷ offers)) [] [] (start more answers))

-- ---- the first word

hello_read : (no_zeroes : Bool) → hello_at (to_be_bytes w32 (cond no_zeroes 3 1)) ≡ Some (record { no_zeroes = no_zeroes })
hello_read true = refl
hello_read false = refl

word_read : (export : Export) (n : ℕ) (word : List ℕ) (hello : Hello) (more : List ℕ) (answers : List Answer) → HelloOf word hello
    → greeted export n (word ++ more) answers ≡ front ([] ∷ []) [] (options export n hello 64 more answers)
word_read export n word hello more answers h =
    greeted-whole export n word more answers (ap length h)
    ∙ ap (λ o. after_hello export n o more answers) (ap hello_at h ∙ hello_read hello.no_zeroes)

-- ---- the whole connection

-- what an orderly client is answered: the handshake, and then the requests
pub orderly_talk : (export : Export) (n : ℕ) (bytes : List ℕ) (answers : List Answer) (o : IsOrderly export n bytes)
    → Reads export n o.hello o.options (talk export n bytes answers)
    → talk export n bytes answers
    ≡ front (server_hello ∷ [] ∷ []) [] (front (option_replies export n o.hello o.options) [] (transmission export n (2 ^ 62) (sent_by o.requests ++ o.tail) answers))
orderly_talk export n bytes answers o how =
    let rest = sent_by o.requests ++ o.tail in
    let handshake = options export n o.hello 64 (offered o.options ++ rest) answers in
    let begins : talk export n bytes answers ≡ front (server_hello ∷ [] ∷ []) [] handshake =
    talk-said export n server_hello refl bytes answers
    ∙ (ap (λ l. front (server_hello ∷ []) [] (greeted export n l answers)) o.is
    ∙ ap (front (server_hello ∷ []) []) (word_read export n o.word o.hello (offered o.options ++ rest) answers o.hello_is)) in
    begins ∙ ap (front (server_hello ∷ [] ∷ []) []) (options_run export n o.hello o.options 64 rest answers o.options_are o.few
    (subst (λ l. (l ≡ []) ⊎ NoneEnds export n o.hello o.options) (ap (λ t. t.unread) begins) how))

-- without a fault the talk gives the end
pub end_of : (old new : Ends) (t : Talk) (end : Served) → Why old new t end → TellsFaults old new end → IsCalm old new → (t.end ≡ end) × (t.unread ≡ []) × (t.hungry ≡ true → IsAtEnd new.left)
end_of old new t Done why tells calm = (why.0, why.3, why.2)
end_of old new t Aborted why tells calm = (why.0, why.3, why.2)
end_of old new t BadHello why tells calm = (why.0, why.3, why.2)
end_of old new t BadMagic why tells calm = (why.0, why.3, why.2)
end_of old new t Truncated why tells calm = (why.0, why.3, why.2)
end_of old new t (Oversized size) why tells calm = (why.0, why.3, why.2)
end_of old new t TooManyOptions why tells calm = (why.0, why.3, why.2)
end_of old new t UnknownExport why tells calm = (why.0, why.3, why.2)
end_of old new t TooManyRequests why tells calm = (why.0, why.3, why.2)
end_of old new t SourceFault why tells calm = let never : ⊥ = omega (arith, tells.source.failed refl, calm.source) in absurd never
end_of old new t SinkFault why tells calm = let never : ⊥ = omega (arith, tells.sink.failed refl, calm.sink) in absurd never
end_of old new t Memory why tells calm = absurd why

-- a talk over bytes that are in order, all of which were read
pub orderly_served : (takes : Bool) (export : Export) (n : ℕ) (old new : Ends) (end : Served) (bytes : List ℕ) (answers : List Answer) (o : IsOrderly export n bytes)
    → Fits takes old.port (talk export n bytes answers).passed answers new.port → (talk export n bytes answers).end ≡ end → (talk export n bytes answers).unread ≡ []
    → IsCalm old new → All (HasRoomForIt export n old.port.base new.port.seen) o.requests → IsServed export n bytes o answers end
orderly_served takes export n old new end bytes answers o fits ends read calm roomy =
    let is = orderly_talk export n bytes answers o (inl read) in
    let run = requests_run takes export n old.port.base new.port o.tail o.goodbye calm.going o.requests (2 ^ 62) answers old.port
    o.requests_are o.many roomy refl calm.port (subst (λ s. Fits takes old.port s.passed answers new.port) is fits) in
    record {
      done = sym ends ∙ (ap (λ s. s.end) is ∙ run.done);
      each = run.each;
      well = run.well;
      sent = ap (λ s. s.pieces) is ∙ ap (λ l. server_hello ∷ [] ∷ (option_replies export n o.hello o.options ++ l)) run.sent;
    }

pub orderly_are_served : (takes : Bool) (export : Export) (n : ℕ) (old new : Ends) (end : Served) → OrderlyAreServed takes export n old new end
orderly_are_served takes export n old new end e o calm roomy =
    let (ends, read, at_end) = end_of old new (talk export n e.read e.answers) end e.why e.faults calm in
    orderly_served takes export n old new end e.read e.answers o e.fits ends read calm roomy

pub ends_or_wants : (takes : Bool) (talk : Rest) (old new : Ends) (end : Served) → EndsOrWants takes talk old new end
ends_or_wants takes talk old new Done h = inr h
ends_or_wants takes talk old new Aborted h = inr h
ends_or_wants takes talk old new BadHello h = inr h
ends_or_wants takes talk old new BadMagic h = inr h
ends_or_wants takes talk old new Truncated h = inr h
ends_or_wants takes talk old new (Oversized size) h = inr h
ends_or_wants takes talk old new TooManyOptions h = inr h
ends_or_wants takes talk old new UnknownExport h = inr h
ends_or_wants takes talk old new TooManyRequests h = inr h
ends_or_wants takes talk old new SourceFault h = inr h
ends_or_wants takes talk old new SinkFault h = inr h
ends_or_wants takes talk old new Memory h = inl refl

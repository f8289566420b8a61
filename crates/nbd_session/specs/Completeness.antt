-- When a client is served to the end: what it sends is in order, and nothing fails.
use Rattle.std.specs.Prelude.{◌≡◌, ℕ, ◌≤◌, ◌<◌, ◌^◌, ◌⊎◌, Bool, nat_lt, if◌then◌else◌, false, List, [], ◌∷◌, ◌++◌, length, map, All, Some, Ok, ⊤}
use Rattle.std.specs.List.{concat}
use Rattle.nbd_wire.specs.declared.hello.Hello.{Hello}
use Rattle.nbd_wire.specs.declared.options.OptionHead.{OptionHead}
use Rattle.nbd_wire.specs.declared.request.Request.{Request}
use Rattle.nbd_wire.specs.Hellos.{HelloOf, server_hello}
use Rattle.nbd_wire.specs.Options.{OptionOf}
use Rattle.nbd_wire.specs.Requests.{RequestOf, data_length}
use Rattle.flat_image.specs.declared.act.Act.{Act}
use Rattle.flat_image.specs.declared.act.Act.TheVariants as act
use Rattle.flat_image.specs.declared.base.Base.{Base}
use Rattle.flat_image.specs.Entries.{StartsWith}
use Rattle.flat_image.specs.History.{History}
use Rattle.flat_image.specs.Ports.{IsWorn, HasRoomFor}
use Rattle.nbd_session.specs.declared.errno.Errno.TheVariants.{Memory}
use Rattle.nbd_session.specs.declared.export.Export.{Export}
use Rattle.nbd_session.specs.declared.job.Job.{Job}
use Rattle.nbd_session.specs.declared.job.Job.TheVariants.{Read, Write, Zero, Flush}
use Rattle.nbd_session.specs.declared.served.Served.{Served}
use Rattle.nbd_session.specs.declared.served.Served.TheVariants as served
use Rattle.nbd_session.specs.Replies.{Answer, Good, Bad, reply_of}
use Rattle.nbd_session.specs.Jobs.{job_of}
use Rattle.nbd_session.specs.Options.{OptionAnswer, Start, Stop, long_answer, short_answer}
use Rattle.nbd_session.specs.Talks.{Talk, Rest, talk}
use Rattle.nbd_session.specs.Sessions.{Ends, Ended, Serves}

-- an option as it was sent, with its head and its data
pub record Offer : Type 0 where
  pub bytes : List ℕ
  pub head : OptionHead
  pub items : List ℕ

-- a request as it was sent, with its data
pub record Message : Type 0 where
  pub bytes : List ℕ
  pub request : Request
  pub items : List ℕ

-- what is answered to an option
abbrev pub answer_to : Export → ℕ → Hello → Offer → OptionAnswer
answer_to export n hello o =
    if nat_lt 8192 o.head.length then long_answer o.head.option else short_answer export n hello o.head.option o.items

-- the option begins the transmission
abbrev pub Begins : Export → ℕ → Hello → Offer → Type 0
Begins export n hello o = (answer_to export n hello o).next ≡ Start

-- options, of which the last begins the transmission and no other one does
abbrev pub AreOptions : Export → ℕ → Hello → List Offer → Type 0
AreOptions export n hello [] = ⊥
AreOptions export n hello (o ∷ []) = OptionOf o.bytes o.head o.items × Begins export n hello o
AreOptions export n hello (o ∷ next ∷ options) =
    OptionOf o.bytes o.head o.items × (Begins export n hello o → ⊥) × AreOptions export n hello (next ∷ options)

-- a request that meets no check but those of the port, and no WRITE that is too long
pub record IsProper (export : Export) (n : ℕ) (m : Message) : Type 0 where
  pub is : RequestOf m.bytes m.request m.items
  pub small : data_length m.request ≤ 33554432
  pub job : Job
  pub asks : job_of export n m.request ≡ Ok job

-- nothing, or DISC
abbrev pub IsGoodbye : List ℕ → Type 0
IsGoodbye tail = (tail ≡ []) ⊎ ((r : Request) × RequestOf tail r [] × (r.command ≡ 2))

-- the client's word, at most 64 options and fewer than 2^62 requests, and then the end of the bytes or DISC
pub record IsOrderly (export : Export) (n : ℕ) (bytes : List ℕ) : Type 0 where
  pub word : List ℕ
  pub hello : Hello
  pub options : List Offer
  pub requests : List Message
  pub tail : List ℕ
  pub is : bytes ≡ word ++ (concat (map (λ o. o.bytes) options) ++ (concat (map (λ m. m.bytes) requests) ++ tail))
  pub hello_is : HelloOf word hello
  pub options_are : AreOptions export n hello options
  pub few : length options ≤ 64
  pub requests_are : All (IsProper export n) requests
  pub many : length requests < 2 ^ 62
  pub goodbye : IsGoodbye tail

-- nothing failed, and the history has not come to its end
pub record IsCalm (old new : Ends) : Type 0 where
  pub source : new.read_faults ≤ old.read_faults
  pub sink : new.write_faults ≤ old.write_faults
  pub port : new.port.faults ≤ old.port.faults
  pub going : IsWorn new.port → ⊥

-- at every place of the history there was room for the change
abbrev pub HasRoomAlong : Base → History → Act → Type 0
HasRoomAlong base seen change = (front : History) → StartsWith seen front → HasRoomFor base front change

-- there was room for the job with these data, if it is a change
abbrev pub JobHasRoom : Base → History → Job → List ℕ → Type 0
JobHasRoom base seen (Read at count) items = ⊤
JobHasRoom base seen (Write at count fua) items = HasRoomAlong base seen (act.Write at items)
JobHasRoom base seen (Zero at count fua) items = HasRoomAlong base seen (act.Zero at count)
JobHasRoom base seen Flush items = ⊤

-- whatever job the request is, there was room for it
abbrev pub HasRoomForIt : Export → ℕ → Base → History → Message → Type 0
HasRoomForIt export n base seen m = (job : Job) → job_of export n m.request ≡ Ok job → JobHasRoom base seen job m.items

-- what is sent back to options
abbrev pub option_replies : Export → ℕ → Hello → List Offer → List (List ℕ)
option_replies export n hello options = map (λ o. (answer_to export n hello o).said) options

-- the replies to requests, one for each
abbrev pub replies : List Message → List Answer → List (List ℕ)
replies [] answers = []
replies (m ∷ requests) [] = []
replies (m ∷ requests) (answer ∷ answers) = reply_of m.request.cookie answer ∷ replies requests answers

-- error 0, or ENOMEM
abbrev pub IsWell : Answer → Type 0
IsWell answer = ((bytes : List ℕ) × (answer ≡ Good bytes)) ⊎ (answer ≡ Bad Memory)

-- the connection is done, each request has its reply, and no reply has another error than ENOMEM
pub record IsServed (export : Export) (n : ℕ) (bytes : List ℕ) (o : IsOrderly export n bytes) (answers : List Answer) (end : Served) : Type 0 where
  pub done : end ≡ served.Done
  pub each : length answers ≡ length o.requests
  pub well : All IsWell answers
  pub sent : (talk export n bytes answers).pieces
      ≡ server_hello ∷ [] ∷ (option_replies export n o.hello o.options ++ replies o.requests answers)

-- a client that is in order is served to the end
abbrev pub OrderlyAreServed : Bool → Export → ℕ → Ends → Ends → Served → Type 0
OrderlyAreServed takes export n old new end =
    (e : Ended takes (talk export n) old new end) (o : IsOrderly export n e.read) → IsCalm old new → All (HasRoomForIt export n old.port.base new.port.seen) o.requests
    → IsServed export n e.read o e.answers end

-- no option ends the connection
abbrev pub NoneEnds : Export → ℕ → Hello → List Offer → Type 0
NoneEnds export n hello options = All (λ o. (end : Served) → (answer_to export n hello o).next ≡ Stop end → ⊥) options

-- the same where the source tells its bytes and they are in order: all of them are read
abbrev pub ToldAreServed : Bool → Export → ℕ → Ends → Ends → Served → Type 0
ToldAreServed takes export n old new end =
    (e : Ended takes (talk export n) old new end) (bytes : List ℕ) → old.left ≡ Some bytes → (o : IsOrderly export n bytes) → NoneEnds export n o.hello o.options
    → IsCalm old new → All (HasRoomForIt export n old.port.base new.port.seen) o.requests → (e.read ≡ bytes) × IsServed export n bytes o e.answers end

-- the same talk with more bytes behind those that were not read
abbrev pub with_more : Talk → List ℕ → Talk
with_more t more = record { pieces = t.pieces; passed = t.passed; end = t.end; hungry = t.hungry; begun = t.begun; unread = t.unread ++ more }

-- a talk that was ended by a word is the same whatever stands behind it
abbrev pub IsFirm : Rest → Type 0
IsFirm rest = (bytes more : List ℕ) (answers : List Answer) → (rest bytes answers).hungry ≡ false → rest (bytes ++ more) answers ≡ with_more (rest bytes answers) more

-- a connection is served to one of its ends, or is not begun for want of memory
abbrev pub EndsOrWants : Bool → Rest → Ends → Ends → Served → Type 0
EndsOrWants takes talk old new end = Serves takes talk old new end → (end ≡ served.Memory) ⊎ Ended takes talk old new end

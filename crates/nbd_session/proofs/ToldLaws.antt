-- A client that is in order is read to the end, where the source tells its bytes.
use Rattle.std.proofs.Common.{◌≡◌, ℕ, zero, suc, ◌<◌, ◌^◌, inl, inr, Bool, true, List, [], ◌∷◌, ◌++◌, length, All, refl, sym, ap, ◌∙◌, subst, arith, append_assoc, append-nil}
use Rattle.std.specs.Prelude.{Option, Some, None}
use Rattle.std.specs.Io.KnownBytes.{Consumes, IsAtEnd}
use Rattle.std.proofs.lemmas.Bool.{cases_Bool}
use Rattle.std.proofs.lemmas.List.Elements.{All-head, All-tail}
use Rattle.nbd_session.specs.declared.export.Export.{Export}
use Rattle.nbd_session.specs.declared.served.Served.{Served}
use Rattle.nbd_session.specs.Replies.{Answer}
use Rattle.nbd_session.specs.Talks.{one_request, transmission, talk}
use Rattle.nbd_session.specs.Fits.{Fits}
use Rattle.nbd_session.specs.Sessions.{Ends}
use Rattle.nbd_session.specs.Completeness.{Message, IsProper, IsGoodbye, IsOrderly, NoneEnds, ToldAreServed}
use Rattle.nbd_session.proofs.OrderlyLaws.{sent_by, goodbye, proper_asks, transmission_more, orderly_talk, end_of, orderly_served}
use Rattle.nbd_session.proofs.FirmTalks.{firm_talk}

-- of requests that are in order nothing is left, whatever the answers
requests_read : (export : Export) (n : ℕ) (tail : List ℕ) → IsGoodbye tail → (requests : List Message) (left : ℕ) (answers : List Answer) → All (IsProper export n) requests
    → length requests < left → (transmission export n left (sent_by requests ++ tail) answers).unread ≡ []
requests_read export n tail end [] zero answers proper many = absurd (omega arith)
requests_read export n tail end [] (suc left) answers proper many =
    ap (λ t. t.unread) (transmission_more export n left tail answers ∙ (goodbye export n (transmission export n left) tail answers end).1)
requests_read export n tail end (m ∷ requests) zero answers proper many = absurd (omega arith)
requests_read export n tail end (m ∷ requests) (suc left) [] proper many =
    ap (λ t. t.unread) (transmission_more export n left ((m.bytes ++ sent_by requests) ++ tail) []
    ∙ (ap (λ l. one_request export n (transmission export n left) l []) (append_assoc m.bytes (sent_by requests) tail)
    ∙ proper_asks export n (transmission export n left) m (All-head (IsProper export n) m requests proper) (sent_by requests ++ tail) []))
requests_read export n tail end (m ∷ requests) (suc left) (answer ∷ answers) proper many =
    ap (λ t. t.unread) (transmission_more export n left ((m.bytes ++ sent_by requests) ++ tail) (answer ∷ answers)
    ∙ (ap (λ l. one_request export n (transmission export n left) l (answer ∷ answers)) (append_assoc m.bytes (sent_by requests) tail)
    ∙ proper_asks export n (transmission export n left) m (All-head (IsProper export n) m requests proper) (sent_by requests ++ tail) (answer ∷ answers)))
    ∙ requests_read export n tail end requests left answers (All-tail (IsProper export n) m requests proper) (omega arith)

all_read : (export : Export) (n : ℕ) (bytes : List ℕ) (answers : List Answer) (o : IsOrderly export n bytes) → NoneEnds export n o.hello o.options
    → (talk export n bytes answers).unread ≡ []
all_read export n bytes answers o none =
    ap (λ t. t.unread) (orderly_talk export n bytes answers o (inr none))
    ∙ requests_read export n o.tail o.goodbye o.requests (2 ^ 62) answers o.requests_are o.many

-- what a source that tells its bytes has left behind those that were read
left_of : (old new : Option (List ℕ)) (bytes read : List ℕ) → old ≡ Some bytes → Consumes old new read → (rest : List ℕ) × (new ≡ Some rest) × (bytes ≡ read ++ rest)
left_of old new bytes read is taken = consumed new (subst (λ s. Consumes s new read) is taken)
  where
    consumed : (later : Option (List ℕ)) → Consumes (Some bytes) later read → (rest : List ℕ) × (later ≡ Some rest) × (bytes ≡ read ++ rest)
    consumed None h = absurd h
    consumed (Some rest) h = (rest, refl, h)

none_left : (export : Export) (n : ℕ) (read rest : List ℕ) (answers : List Answer) (left : Option (List ℕ)) → left ≡ Some rest
    → (talk export n read answers).unread ≡ [] → ((talk export n read answers).hungry ≡ true → IsAtEnd left) → (talk export n (read ++ rest) answers).unread ≡ []
    → rest ≡ []
none_left export n read rest answers left is unread at_end whole = elim (cases_Bool (talk export n read answers).hungry) [
  | inl hungry ↦ subst IsAtEnd is (at_end hungry)
  | inr fed ↦ ap (λ l. l ++ rest) (sym unread) ∙ (ap (λ t. t.unread) (sym (firm_talk export n read rest answers fed)) ∙ whole)
]

pub told_are_served : (takes : Bool) (export : Export) (n : ℕ) (old new : Ends) (end : Served) → ToldAreServed takes export n old new end
told_are_served takes export n old new end e bytes tells o none calm roomy =
    let (rest, left, split) = left_of old.left new.left bytes e.read tells e.taken in
    let (ends, unread, at_end) = end_of old new (talk export n e.read e.answers) end e.why e.faults calm in
    let whole = subst (λ l. (talk export n l e.answers).unread ≡ []) split (all_read export n bytes e.answers o none) in
    let gone = none_left export n e.read rest e.answers new.left left unread at_end whole in
    let same : bytes ≡ e.read = split ∙ (ap (λ l. e.read ++ l) gone ∙ append-nil e.read) in (
      sym same,
      orderly_served takes export n old new end bytes e.answers o
          (subst (λ l. Fits takes old.port (talk export n l e.answers).passed e.answers new.port) (sym same) e.fits)
          (ap (λ l. (talk export n l e.answers).end) same ∙ ends) (ap (λ l. (talk export n l e.answers).unread) same ∙ unread) calm roomy,
    )

-- The handshake, step by step.
use Rattle.std.proofs.Common.{zero, suc, ◌≡◌, ℕ, ◌+◌, ◌-◌, ◌^◌, ◌<◌, ◌≤◌, Bool, true, List, [], ◌∷◌, ◌++◌, length, take, refl, sym, ap, ◌∙◌, subst, arith, length-append, append_assoc, take_at, drop_at, append-nil}
use Rattle.std.specs.Prelude.{Option, Result, Ok, Err, nat_lt}
use Rattle.std.specs.Io.KnownBytes.{Appends}
use Rattle.std.proofs.KnownBytes.{Consumes-nil, Appends-nil}
use Rattle.std.proofs.lemmas.Bool.{lt-ltb, le-ltb}
use Rattle.flat_image.specs.Ports.{PortState}
use Rattle.nbd_wire.specs.declared.hello.Hello.{Hello}
use Rattle.nbd_wire.specs.declared.options.OptionHead.{OptionHead}
use Rattle.nbd_wire.specs.Hellos.{hello_at, server_hello}
use Rattle.nbd_wire.specs.Options.{option_at}
use Rattle.nbd_session.specs.declared.export.Export.{Export}
use Rattle.nbd_session.specs.declared.option_answers.Phase.{Phase}
use Rattle.nbd_session.specs.declared.served.Served.{Served}
use Rattle.nbd_session.specs.declared.served.Served.TheVariants.{Truncated, TooManyOptions}
use Rattle.nbd_session.specs.Replies.{Answer}
use Rattle.nbd_session.specs.Options.{Next, More, Start, Stop, OptionAnswer, short_answer, long_answer}
use Rattle.nbd_session.specs.Talks.{Rest, front, stop, stop_at, transmission, goes_on, answered, after_option, after_head, with_head, options, after_hello, greeted, talk}
use Rattle.nbd_session.specs.Fits.{Fits}
use Rattle.nbd_session.specs.Sessions.{Ends, ends, Ended, Went, GoesOn, IsIdle, said}
use Rattle.nbd_session.specs.Handshakes.{in_phase, Says}
use Rattle.nbd_session.proofs.Steps.{tells_sink, went_along, went_trans}
use Rattle.nbd_session.proofs.OneRequest.{transmission-idle}

-- the two replies to LIST, one piece behind another; the head has the length of what follows it
pub list_said : (head : ℕ → List ℕ) (long name back rest a b d : List ℕ) (size n : ℕ) → size ≡ length (long ++ name)
    → a ≡ head size ++ long → b ≡ name → d ≡ back → n ≡ length ((a ++ b) ++ d)
    → take n (a ++ (b ++ (d ++ rest))) ≡ (head (length (long ++ name)) ++ (long ++ name)) ++ back
list_said head long name back rest a b d size n whole e f g l =
    ap (take n) (sym (append_assoc a b (d ++ rest)) ∙ sym (append_assoc (a ++ b) d rest))
    ∙ take_at ((a ++ b) ++ d) rest n (sym l)
    ∙ (λ i. (e i ++ f i) ++ g i)
    ∙ ap (λ x. x ++ back) (append_assoc (head size) long name)
    ∙ ap (λ k. (head k ++ (long ++ name)) ++ back) whole

-- ---- idle rests

pub options-idle : (export : Export) (n : ℕ) (hello : Hello) (left : ℕ) → IsIdle (options export n hello left)
unfolding options with_head
options-idle export n hello zero = (refl, refl, refl, refl)
options-idle export n hello (suc left) = (refl, refl, refl, refl)

pub greeted-idle : (export : Export) (n : ℕ) → IsIdle (greeted export n)
unfolding greeted
greeted-idle export n = (refl, refl, refl, refl)

-- ---- the client's word

pub greeted-whole : (export : Export) (n : ℕ) (bytes more : List ℕ) (answers : List Answer) → length bytes ≡ 4
    → greeted export n (bytes ++ more) answers ≡ after_hello export n (hello_at bytes) more answers
unfolding greeted
greeted-whole export n bytes more answers whole =
    rw (le-ltb (length (bytes ++ more)) 4 (omega (arith, length-append bytes more)), greeted, take_at bytes more 4 whole, drop_at bytes more 4 whole)

pub greeted-all : (export : Export) (n : ℕ) (bytes : List ℕ) (answers : List Answer) → length bytes ≡ 4
    → greeted export n bytes answers ≡ after_hello export n (hello_at bytes) [] answers
greeted-all export n bytes answers whole = ap (λ l. greeted export n l answers) (sym (append-nil bytes)) ∙ greeted-whole export n bytes [] answers whole

pub greeted-short : (export : Export) (n : ℕ) (bytes : List ℕ) (answers : List Answer) → length bytes < 4 → greeted export n bytes answers ≡ stop Truncated (nat_lt 0 (length bytes))
unfolding greeted
greeted-short export n bytes answers short = rw (lt-ltb (length bytes) 4 short, greeted)

-- ---- the head of an option

pub with_head-whole : (next : OptionHead → Rest) (bytes more : List ℕ) (answers : List Answer) → length bytes ≡ 16
    → with_head next (bytes ++ more) answers ≡ after_head next (option_at bytes) more answers
unfolding with_head
with_head-whole next bytes more answers whole =
    rw (le-ltb (length (bytes ++ more)) 16 (omega (arith, length-append bytes more)), with_head, take_at bytes more 16 whole, drop_at bytes more 16 whole)

pub with_head-all : (next : OptionHead → Rest) (bytes : List ℕ) (answers : List Answer) → length bytes ≡ 16
    → with_head next bytes answers ≡ after_head next (option_at bytes) [] answers
with_head-all next bytes answers whole = ap (λ l. with_head next l answers) (sym (append-nil bytes)) ∙ with_head-whole next bytes [] answers whole

pub with_head-short : (next : OptionHead → Rest) (bytes : List ℕ) (answers : List Answer) → length bytes < 16 → with_head next bytes answers ≡ stop Truncated (nat_lt 0 (length bytes))
unfolding with_head
with_head-short next bytes answers short = rw (lt-ltb (length bytes) 16 short, with_head)

pub options-some : (export : Export) (n : ℕ) (hello : Hello) (left : ℕ) (bytes : List ℕ) (answers : List Answer)
    → options export n hello (suc left) bytes answers ≡ with_head (after_option export n hello (options export n hello left) (transmission export n (2 ^ 62))) bytes answers
unfolding options
options-some export n hello left bytes answers = refl

pub options-none : (export : Export) (n : ℕ) (hello : Hello) (bytes : List ℕ) (answers : List Answer)
    → options export n hello 0 bytes answers ≡ with_head (λ head. λ rest others. stop_at TooManyOptions true rest) bytes answers
unfolding options
options-none export n hello bytes answers = refl

-- one of the 64 options
pub options-next : (export : Export) (n : ℕ) (hello : Hello) (number : ℕ) → number < 64 → (bytes : List ℕ) (answers : List Answer)
    → options export n hello (64 - number) bytes answers
    ≡ with_head (after_option export n hello (options export n hello (64 - (number + 1))) (transmission export n (2 ^ 62))) bytes answers
options-next export n hello number few bytes answers =
    let is : 64 - number ≡ suc (64 - (number + 1)) = omega arith in
    ap (λ k. options export n hello k bytes answers) is ∙ options-some export n hello (64 - (number + 1)) bytes answers

-- one more: behind its head, and from its head on
abbrev pub too_many : Rest
too_many rest others = stop_at TooManyOptions true rest

abbrev pub one_too_many : Rest
one_too_many = with_head (λ head. too_many)

pub options-last : (export : Export) (n : ℕ) (hello : Hello) (number : ℕ) → 64 ≤ number → (bytes : List ℕ) (answers : List Answer)
    → options export n hello (64 - number) bytes answers ≡ one_too_many bytes answers
options-last export n hello number many bytes answers =
    let is : 64 - number ≡ 0 = omega arith in
    ap (λ k. options export n hello k bytes answers) is ∙ options-none export n hello bytes answers

-- the server's word comes first
pub talk-said : (export : Export) (n : ℕ) (word : List ℕ) → word ≡ server_hello → (bytes : List ℕ) (answers : List Answer)
    → talk export n bytes answers ≡ said word (greeted export n) bytes answers
unfolding talk
talk-said export n word is bytes answers = ap (λ w. front (w ∷ []) [] (greeted export n bytes answers)) (sym is)

-- ---- the data of an option

module _ (export : Export) (n : ℕ) (hello : Hello) (more start : Rest) (head : OptionHead) where
  pub after_option-cut : (bytes : List ℕ) (answers : List Answer) → length bytes < head.length
      → after_option export n hello more start head bytes answers ≡ stop Truncated true
  unfolding after_option
  after_option-cut bytes answers short = rw (lt-ltb (length bytes) head.length short, after_option)

  pub after_option-long : (bytes behind : List ℕ) (answers : List Answer) → length bytes ≡ head.length → 8192 < head.length
      → after_option export n hello more start head (bytes ++ behind) answers ≡ answered more start (long_answer head.option) behind answers
  unfolding after_option
  after_option-long bytes behind answers whole long =
      rw (le-ltb (length (bytes ++ behind)) head.length (omega (arith, length-append bytes behind)), after_option, lt-ltb 8192 head.length long, drop_at bytes behind head.length whole)

  pub after_option-short : (bytes behind : List ℕ) (answers : List Answer) → length bytes ≡ head.length → head.length ≤ 8192
      → after_option export n hello more start head (bytes ++ behind) answers ≡ answered more start (short_answer export n hello head.option bytes) behind answers
  unfolding after_option
  after_option-short bytes behind answers whole short =
      rw (
        le-ltb (length (bytes ++ behind)) head.length (omega (arith, length-append bytes behind)),
        after_option,
        le-ltb 8192 head.length short,
        take_at bytes behind head.length whole,
        drop_at bytes behind head.length whole,
      )

-- ---- the answer to an option

pub goes_on-idle : (more start : Rest) → IsIdle more → IsIdle start → (next : Next) → IsIdle (goes_on more start next)
goes_on-idle more start first second More = first
goes_on-idle more start first second Start = second
goes_on-idle more start first second (Stop end) = (refl, refl, refl, refl)

pub says_on : (takes : Bool) (more start : Rest) (left : Option (List ℕ)) (reads : ℕ) (written written_now : Option (List ℕ)) (writes writes_now : ℕ) (port : PortState)
    (answer : OptionAnswer) (result : Result Phase Served)
    → IsIdle more → IsIdle start → Says answer written written_now writes writes_now result
    → GoesOn takes (answered more start answer) (in_phase more start) (ends left reads written writes port) (ends left reads written_now writes_now port) result
says_on takes more start left reads written written_now writes writes_now port answer (Ok phase) first second (next, sent, calm) = record {
  read = [];
  pieces = answer.said ∷ [];
  passed = [];
  answers = [];
  taken = Consumes-nil left;
  sent = subst (Appends written written_now) (sym (append-nil answer.said)) sent;
  fits = refl;
  reads_calm = refl;
  writes_calm = calm;
  goes = λ bytes others. ap (λ next. front (answer.said ∷ []) [] (goes_on more start next bytes others)) next;
}
says_on takes more start left reads written written_now writes writes_now port answer (Err end) first second (is, part, rose) =
    let idle = goes_on-idle more start first second answer.next in
    subst (λ s. Ended takes (answered more start answer) (ends left reads written writes port) (ends left reads written_now writes_now port) s) (sym is) (record {
      read = [];
      answers = [];
      taken = Consumes-nil left;
      fits = subst (λ l. Fits takes port l [] port) (sym idle.1) refl;
      why = (
        record {
          before = [];
          last = answer.said;
          are = ap (λ l. answer.said ∷ l) idle.0;
          mid = written;
          sent = Appends-nil written;
          part = part;
        },
        idle.2,
        idle.3,
      );
      faults = tells_sink refl rose;
    })

-- ---- one option after another

module _ (export : Export) (n : ℕ) (hello : Hello) (number : ℕ) where
  -- the options behind this one, this one and what follows, and the one behind the last
  abbrev pub left_options : Rest
  left_options = options export n hello (64 - (number + 1))

  abbrev pub this_option : Rest
  this_option = with_head (after_option export n hello left_options (transmission export n (2 ^ 62)))

  pub left-idle : IsIdle left_options
  left-idle = options-idle export n hello (64 - (number + 1))

  pub start-idle : IsIdle (transmission export n (2 ^ 62))
  start-idle = transmission-idle export n (2 ^ 62)

  -- those before this one are behind
  pub at_option : {takes : Bool} {old mid : Ends} → number < 64
      → Went takes (options export n hello 64) (options export n hello (64 - number)) old mid → Went takes (options export n hello 64) this_option old mid
  at_option few = went_along (options export n hello 64) this_option (λ bytes answers. refl) (options-next export n hello number few)

  -- all 64 are behind
  pub at_last : {takes : Bool} {old mid : Ends} → 64 ≤ number
      → Went takes (options export n hello 64) (options export n hello (64 - number)) old mid → Went takes (options export n hello 64) one_too_many old mid
  at_last many = went_along (options export n hello 64) one_too_many (λ bytes answers. refl) (options-last export n hello number many)

  -- this one was answered
  pub went_option : {takes : Bool} {old mid new : Ends} (phase known : Phase) → phase ≡ known → number < 64
      → Went takes (options export n hello 64) (options export n hello (64 - number)) old mid
      → Went takes this_option (in_phase left_options (transmission export n (2 ^ 62)) phase) mid new
      → Went takes (options export n hello 64) (in_phase left_options (transmission export n (2 ^ 62)) known) old new
  went_option {takes} {old} {mid} {new} phase known is few before this =
      subst (λ p. Went takes (options export n hello 64) (in_phase left_options (transmission export n (2 ^ 62)) p) old new) is (went_trans (at_option few before) this)

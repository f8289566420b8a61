-- What is received of a link that serves its files.
use Rattle.std.proofs.Common.{◌≡◌, ℕ, ◌+◌, ◌-◌, ◌^◌, ◌<◌, ◌≤◌, min, inl, inr, Bool, true, false, List, [], ◌∷◌, ◌++◌, length, refl, sym, ap, subst, ◌∙◌, arith, append_assoc, Some}
use Rattle.std.specs.Prelude.{Result, Ok, Err, IfOk, IfSome, IsSome, is_err, codes, decimal}
use Rattle.std.proofs.lemmas.Bool.{cases_lt}
use Rattle.std.proofs.lemmas.Fmt.{length-decimal-le}
use Rattle.std.proofs.lemmas.List.{append-nil, append_cancel_left, length-append}
use Rattle.std.proofs.lemmas.List.Elements.{All-nil, All-push}
use Rattle.http_range.specs.declared.reason.FetchFault.{FetchFault}
use Rattle.http_range.specs.Fetching.{FetcherState, Asks, AsksAfter, AsksOn, AsksWell, DialsWell, FailsDialing, Fetches, IsFresh, Stops}
use Rattle.http_range.specs.declared.reason.FetchFault.TheVariants.{Failed, BadReply}
use Rattle.http_range.specs.Links.{Blob, Dial, Dials, LinkState, Went, dial_on, dials_on, dialed, new_dial}
use Rattle.http_range.specs.RangeReplies.{range_in, range_reply}
use Rattle.http_range.specs.Requests.{TargetTexts, IsTarget, range_line, request_text}
use Rattle.http_range.specs.Serving.{AreAsked, Answers, Asked, BeginsIn, IsAsked, IsServed, IsFileOf, IsRangeOf, IsServedAt, Serves, ServesBlobs, asked_text, blob_at, replies, reply_to, texts}
use Rattle.http_range.proofs.RangeReply.{IsServerReply, reply_at}

texts-more : (list : List Asked) (a : Asked) → texts (list ++ a ∷ []) ≡ texts list ++ asked_text a
texts-more [] a = append-nil (asked_text a)
texts-more (b ∷ list) a = ap (λ x. asked_text b ++ x) (texts-more list a) ∙ sym (append_assoc (asked_text b) (texts list) (asked_text a))

replies-more : (blobs : List Blob) (list : List Asked) (a : Asked) → replies blobs (list ++ a ∷ []) ≡ replies blobs list ++ reply_to (blob_at blobs a.target.path) a
replies-more blobs [] a = append-nil (reply_to (blob_at blobs a.target.path) a)
replies-more blobs (b ∷ list) a =
    ap (λ x. reply_to (blob_at blobs b.target.path) b ++ x) (replies-more blobs list a)
    ∙ sym (append_assoc (reply_to (blob_at blobs b.target.path) b) (replies blobs list) (reply_to (blob_at blobs a.target.path) a))

no_rest : (xs ys : List ℕ) → xs ++ ys ≡ xs → ys ≡ []
no_rest xs ys is = append_cancel_left xs ys [] (is ∙ sym (append-nil xs))

front_nil : (xs ys : List ℕ) → xs ++ ys ≡ [] → xs ≡ []
front_nil [] ys is = refl
front_nil (x ∷ xs) ys is = absurd (let e = ap (λ (zs : List ℕ). length zs) is in omega (arith, e))

-- one asking that went well
pub asks_served : (blobs : List Blob) (a c : LinkState) (held out more : List ℕ) (x : Asked) (total : ℕ) (bytes : List ℕ)
    → IsServedAt blobs a held → ServesBlobs blobs c → IsAsked blobs x → blob_at blobs x.target.path ≡ Some bytes → length bytes < 2 ^ 63
    → AsksWell (asked_text x) held x.first x.last a c out more total → IsRangeOf bytes x.first x.last out total × IsServedAt blobs c more
asks_served blobs a c held out more x total bytes before serves asked there small well =
    let text : List ℕ = asked_text x in
    let d : Dial = dial_on text well.got false before.dials.now in
    let after : c.dials ≡ Some (record { now = d; past = before.dials.past }) = well.carried.went.dials ∙ ap (dials_on text well.got false) before.told in
    let same : Some serves.dials ≡ Some (record { now = d; past = before.dials.past }) = sym serves.told ∙ after in
    let dials_are : serves.dials ≡ record { now = d; past = before.dials.past } = cc same in
    let answers : Answers blobs d = subst (λ (k : Dials). Answers blobs k.now) dials_are serves.now in
    let got_is : well.got ≡ well.reply ++ more = ap (λ h. h ++ well.got) (sym before.none_held) ∙ well.received in
    let sent_is : d.sent ≡ texts before.list ++ text = ap (λ s. s ++ text) before.sent in
    let got_all : d.received ≡ replies blobs before.list ++ well.got = ap (λ r. r ++ well.got) before.received in
    elim (cases_lt x.first (length bytes)) [
      | inl begins ↦
          let m : ℕ = min x.last (length bytes - 1) in
          let here : BeginsIn blobs x = subst (λ o. IfSome o (λ file. x.first < length file)) (sym there) begins in
          let list : List Asked = before.list ++ x ∷ [] in
          let are : AreAsked blobs list [] d.sent = record {
            asked = All-push (IsAsked blobs) before.list x before.asked asked;
            begin = All-push (BeginsIn blobs) before.list x before.begin here;
            begun_is = inl refl;
            sent_is = sent_is ∙ sym (texts-more before.list x) ∙ sym (append-nil (texts list));
          } in
          let front = answers.within list [] are in
          let reply_is : reply_to (blob_at blobs x.target.path) x ≡ range_reply bytes x.first m = ap (λ o. reply_to o x) there in
          let all : replies blobs before.list ++ (well.got ++ front.0) ≡ replies blobs before.list ++ range_reply bytes x.first m =
          sym (append_assoc (replies blobs before.list) well.got front.0) ∙ ap (λ r. r ++ front.0) (sym got_all) ∙ front.1 ∙ replies-more blobs before.list x ∙ ap (λ r. replies blobs before.list ++ r) reply_is in
          let one : well.got ++ front.0 ≡ range_reply bytes x.first m = append_cancel_left (replies blobs before.list) (well.got ++ front.0) (range_reply bytes x.first m) all in
          let whole : well.reply ++ (more ++ front.0) ≡ range_reply bytes x.first m ++ [] =
          sym (append_assoc well.reply more front.0) ∙ ap (λ g. g ++ front.0) (sym got_is) ∙ one ∙ sym (append-nil (range_reply bytes x.first m)) in
          let is : IsServerReply bytes well.reply x.first m x.last total out =
          reply_at bytes well.reply (more ++ front.0) [] x.first m x.last total out (omega (arith, asked.order, begins)) (omega (arith, begins)) small well.good whole in
          let none : more ++ front.0 ≡ [] = append_cancel_left well.reply (more ++ front.0) []
          (whole ∙ append-nil (range_reply bytes x.first m) ∙ sym is.all ∙ sym (append-nil well.reply)) in
          let more_none : more ≡ [] = front_nil more front.0 none in
          let got_reply : well.got ≡ range_reply bytes x.first m = got_is ∙ ap (λ k. well.reply ++ k) more_none ∙ append-nil well.reply ∙ is.all in (
            record {
              total_is = is.total_is;
              within = omega (arith, is.range, begins);
              out_is = is.body_is ∙ ap (λ k. range_in bytes x.first k) (sym is.range);
            },
            record {
              list = list;
              asked = are.asked;
              begin = are.begin;
              dials = record { now = d; past = before.dials.past };
              told = after;
              sent = are.sent_is ∙ append-nil (texts list);
              received = got_all ∙ ap (λ r. replies blobs before.list ++ r) (got_reply ∙ sym reply_is) ∙ sym (replies-more blobs before.list x);
              none_held = more_none;
            },
          )
      | inr past ↦
          let not_here : BeginsIn blobs x → ⊥ = λ h. let less : x.first < length bytes = subst (λ o. IfSome o (λ file. x.first < length file)) there h in omega (arith, less, past) in
          absurd (answers.past before.list x [] well.reply more total out before.asked before.begin asked not_here
          (sent_is ∙ ap (λ k. texts before.list ++ k) (sym (append-nil text))) (got_all ∙ ap (λ r. replies blobs before.list ++ r) got_is) well.good)
    ]

-- a dial that has just begun
pub dial_served : (blobs : List Blob) (a b : LinkState) (dials : Dials) → a.dials ≡ Some dials → DialsWell a b → IsServedAt blobs b []
dial_served blobs a b dials told dials_well = record {
  list = [];
  asked = All-nil (IsAsked blobs);
  begin = All-nil (BeginsIn blobs);
  dials = record { now = new_dial b.faults; past = dials.now ∷ dials.past };
  told = dials_well.dialed.dials ∙ ap (dialed b.faults) told;
  sent = refl;
  received = refl;
  none_held = refl;
}

-- ---- the dials that are told, and the files, stay so

abbrev IsTold : LinkState → Type 0
IsTold link = (dials : Dials) × (link.dials ≡ Some dials)

went_told : (sent got : List ℕ) (ended : Bool) (a b : LinkState) → IsTold a → Went sent got ended a b → IsTold b
went_told sent got ended a b told went =
    (record { now = dial_on sent got ended told.0.now; past = told.0.past }, went.dials ∙ ap (dials_on sent got ended) told.1)

stops_told : (text held : List ℕ) (first last : ℕ) (a b : LinkState) (early : Bool) (fault : FetchFault) → IsTold a
    → Stops text held first last a b early fault → IsTold b
stops_told text held first last a b early fault told (inl sending) = went_told _ [] false a b told sending.1.sent.2
stops_told text held first last a b early Failed told (inr receiving) = went_told text receiving.got false a b told receiving.went
stops_told text held first last a b early (BadReply status reason) told (inr bad) = went_told text bad.got bad.ended a b told bad.carried.went

stops_blobs : (text held : List ℕ) (first last : ℕ) (a b : LinkState) (early : Bool) (fault : FetchFault)
    → Stops text held first last a b early fault → b.blobs ≡ a.blobs
stops_blobs text held first last a b early fault (inl sending) = sending.1.sent.2.blobs
stops_blobs text held first last a b early Failed (inr receiving) = receiving.went.blobs
stops_blobs text held first last a b early (BadReply status reason) (inr bad) = bad.carried.went.blobs

asks_blobs : (text held : List ℕ) (first last : ℕ) (a b : LinkState) (out more : List ℕ) (early : Bool) (result : Result ℕ FetchFault)
    → Asks text held first last a b out more early result → b.blobs ≡ a.blobs
asks_blobs text held first last a b out more early (Ok total) asks = asks.1.carried.went.blobs
asks_blobs text held first last a b out more early (Err fault) asks = stops_blobs text held first last a b early fault asks

fails_blobs : (a b : LinkState) → FailsDialing a b → b.blobs ≡ a.blobs
fails_blobs a b fails = elim fails.dialed [ inl dialed ↦ dialed.blobs | inr went ↦ went.blobs ]

after_blobs : (text : List ℕ) (first last : ℕ) (a c : LinkState) (out more : List ℕ) (result : Result ℕ FetchFault)
    → AsksAfter text first last a c out more result → c.blobs ≡ a.blobs
after_blobs text first last a c out more result (inl fails) = fails_blobs a c fails.0
after_blobs text first last a c out more result (inr asked) =
    asks_blobs text [] first last asked.0 c out more asked.1 result asked.3 ∙ asked.2.dialed.blobs

on_blobs : (text held : List ℕ) (first last : ℕ) (used : Bool) (a c : LinkState) (out more : List ℕ) (result : Result ℕ FetchFault)
    → AsksOn text held first last used a c out more result → c.blobs ≡ a.blobs
on_blobs text held first last used a c out more result (inl once) = asks_blobs text held first last a c out more once.early result once.asks
on_blobs text held first last used a c out more result (inr again) =
    after_blobs text first last again.lost c out more result again.again ∙ stops_blobs text held first last a again.lost true again.fault again.stops

pub fetches_blobs : (text : List ℕ) (first last : ℕ) (old new : FetcherState) (out : List ℕ) (result : Result ℕ FetchFault)
    → Fetches text first last old new out result → new.link.blobs ≡ old.link.blobs
fetches_blobs text first last old new out result (inl on) = on_blobs text old.held first last old.used old.link new.link out new.held result on.1
fetches_blobs text first last old new out result (inr (inl fails)) = fails_blobs old.link new.link fails.1
fetches_blobs text first last old new out result (inr (inr anew)) =
    on_blobs text [] first last false anew.1 new.link out new.held result anew.3 ∙ anew.2.dialed.blobs

-- ---- a fetch over a link that serves its files

module _ (blobs : List Blob) (x : Asked) (bytes : List ℕ) (asked : IsAsked blobs x) (there : blob_at blobs x.target.path ≡ Some bytes) (small : length bytes < 2 ^ 63) where
  abbrev IsFetched : LinkState → List ℕ → List ℕ → ℕ → Type 0
  IsFetched link more out total = IsRangeOf bytes x.first x.last out total × IsServedAt blobs link more

  one_asked : (a c : LinkState) (held out more : List ℕ) (early : Bool) (total : ℕ) (result : Result ℕ FetchFault) → result ≡ Ok total
      → IsServedAt blobs a held → ServesBlobs blobs c → Asks (asked_text x) held x.first x.last a c out more early result → IsFetched c more out total
  one_asked a c held out more early total result is before serves asks =
      let well = subst (λ (r : Result ℕ FetchFault). Asks (asked_text x) held x.first x.last a c out more early r) is asks in
      asks_served blobs a c held out more x total bytes before serves asked there small well.1

  after_asked : (a c : LinkState) (out more : List ℕ) (total : ℕ) (result : Result ℕ FetchFault) → result ≡ Ok total
      → IsTold a → ServesBlobs blobs c → AsksAfter (asked_text x) x.first x.last a c out more result → IsFetched c more out total
  after_asked a c out more total result is told serves (inl fails) = absurd (let clash : Ok total ≡ Err Failed = sym is ∙ fails.1 in cc)
  after_asked a c out more total result is told serves (inr again) =
      one_asked again.0 c [] out more again.1 total result is (dial_served blobs a again.0 told.0 told.1 again.2) serves again.3

  on_asked : (a c : LinkState) (held out more : List ℕ) (used : Bool) (total : ℕ) (result : Result ℕ FetchFault) → result ≡ Ok total
      → IsServedAt blobs a held → ServesBlobs blobs c → AsksOn (asked_text x) held x.first x.last used a c out more result → IsFetched c more out total
  on_asked a c held out more used total result is before serves (inl once) = one_asked a c held out more once.early total result is before serves once.asks
  on_asked a c held out more used total result is before serves (inr again) =
      after_asked again.lost c out more total result is
      (stops_told (asked_text x) held x.first x.last a again.lost true again.fault (before.dials, before.told) again.stops) serves again.again

  pub fetches_served : (old new : FetcherState) (out : List ℕ) (total : ℕ) (result : Result ℕ FetchFault) → result ≡ Ok total
      → IsTold old.link → IsServed blobs old → ServesBlobs blobs new.link → Fetches (asked_text x) x.first x.last old new out result
      → IsFetched new.link new.held out total
  fetches_served old new out total result is told before serves (inl on) =
      on_asked old.link new.link old.held out new.held old.used total result is (before on.0) serves on.1
  fetches_served old new out total result is told before serves (inr (inl fails)) = absurd (let clash : Ok total ≡ Err Failed = sym is ∙ fails.2 in cc)
  fetches_served old new out total result is told before serves (inr (inr anew)) =
      on_asked anew.1 new.link [] out new.held false total result is (dial_served blobs old.link anew.1 told.0 told.1 anew.2) serves anew.3

-- ---- what a fetcher says of it

-- the text for a target of at most 16,000 bytes is not too long
text_short : (t : TargetTexts) (first last : ℕ) → length t.path + length t.host ≤ 16000 → last < 2 ^ 63 → first ≤ last → length (request_text t first last) ≤ 16384
text_short t first last short small order =
    let a : List ℕ = decimal first in
    let b : List ℕ = decimal last in
    let few_a : length a ≤ 20 = length-decimal-le 20 first (omega arith) (omega arith) (omega arith) in
    let few_b : length b ≤ 20 = length-decimal-le 20 last (omega arith) (omega arith) (omega arith) in
    let host_line : List ℕ = codes "GET " ++ t.path ++ codes " HTTP/1.1\r\nHost: " ++ t.host in
    let one = length-append (codes "GET ") t.path in
    let two = length-append (codes "GET " ++ t.path) (codes " HTTP/1.1\r\nHost: ") in
    let three = length-append (codes "GET " ++ t.path ++ codes " HTTP/1.1\r\nHost: ") t.host in
    let four = length-append host_line (range_line first last) in
    let five = length-append (codes "\r\nRange: bytes=") a in
    let six = length-append (codes "\r\nRange: bytes=" ++ a) (codes "-") in
    let seven = length-append (codes "\r\nRange: bytes=" ++ a ++ codes "-") b in
    let eight = length-append (codes "\r\nRange: bytes=" ++ a ++ codes "-" ++ b) (codes "\r\n\r\n") in
    omega (arith, short, few_a, few_b, one, two, three, four, five, six, seven, eight)

pub fetch_served : (blobs : List Blob) (bytes : List ℕ) (t : TargetTexts) (first last : ℕ) (old new : FetcherState) (out : List ℕ) (result : Result ℕ FetchFault)
    → old.link.blobs ≡ Some blobs → Serves old.link → Serves new.link → IsServed blobs old → IsTarget t → IsFileOf blobs t bytes → first ≤ last → last < 2 ^ 63
    → Fetches (request_text t first last) first last old new out result → (new.refused ≡ is_err result)
    → IfOk result (IsRangeOf bytes first last out) × IsServed blobs new
fetch_served blobs bytes t first last old new out (Err fault) told serves_old serves_new before target file order small fetches after =
    (tt, λ going. absurd (let clash : true ≡ false = sym after ∙ going in cc))
fetch_served blobs bytes t first last old new out (Ok total) told serves_old serves_new before target file order small fetches after =
    let x : Asked = record { target = t; first = first; last = last } in
    let asked : IsAsked blobs x = record {
      target = target;
      short = text_short t first last file.short small order;
      order = order;
      small = small;
      there = subst IsSome (sym file.there) refl;
    } in
    let told_new : new.link.blobs ≡ Some blobs = fetches_blobs (request_text t first last) first last old new out (Ok total) fetches ∙ told in
    let serving_old : ServesBlobs blobs old.link = subst (λ o. IfSome o (λ list. ServesBlobs list old.link)) told serves_old in
    let serving_new : ServesBlobs blobs new.link = subst (λ o. IfSome o (λ list. ServesBlobs list new.link)) told_new serves_new in
    let both = fetches_served blobs x bytes asked file.there file.small old new out total (Ok total) refl (serving_old.dials, serving_old.told) before serving_new fetches in
    (both.0, λ going. both.1)

-- a fetcher that was just made
pub fresh_served : (blobs : List Blob) (link : LinkState) → link.blobs ≡ Some blobs → Serves link → IsFresh link → IsServedAt blobs link []
fresh_served blobs link told serves fresh =
    let serving : ServesBlobs blobs link = subst (λ o. IfSome o (λ list. ServesBlobs list link)) told serves in
    let dials : Dials = serving.dials in
    let sent : dials.now.sent ≡ [] = (subst (λ o. IfSome o (λ (d : Dials). (d.now.sent ≡ []) × (link.faults ≡ d.now.began))) serving.told fresh).0 in
    let none : AreAsked blobs [] [] dials.now.sent = record {
      asked = All-nil (IsAsked blobs);
      begin = All-nil (BeginsIn blobs);
      begun_is = inl refl;
      sent_is = sent;
    } in
    let front = serving.now.within [] [] none in
    record {
      list = [];
      asked = none.asked;
      begin = none.begin;
      dials = dials;
      told = serving.told;
      sent = sent;
      received = front_nil dials.now.received front.0 front.1;
      none_held = refl;
    }

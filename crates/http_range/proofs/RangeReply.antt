-- The reply of a server that has the file is a good one.
use Rattle.std.proofs.Common.{◌≡◌, ℕ, ◌+◌, ◌-◌, ◌^◌, ◌<◌, ◌≤◌, Bool, true, false, IsTrue, List, [], ◌∷◌, ◌++◌, length, take, drop, reverse, refl, sym, ap, subst, ◌∙◌, arith, append_assoc, Some, Option}
use Rattle.std.specs.Prelude.{Ok, Err, nat_eq, codes, decimal, not, ◌&&◌, ◌||◌, ◌==◌, nat_le, nat_lt, option_map, option_and_then}
use Rattle.std.specs.List.{list_all}
use Rattle.std.specs.Char.{is_ascii_digit}
use Rattle.std.specs.Str.Parse.{AllDigits, digits_value}
use Rattle.std.proofs.lemmas.Bool.{cond-true, cond-false, le-leb, lt-ltb, eq-eqb, eqb-true, ne_eqb, and_from, and_parts}
use Rattle.std.proofs.lemmas.Fmt.{decimal_is_IsNumeral, length-decimal-le}
use Rattle.std.proofs.lemmas.Str.Parse.{tells_digits}
use Rattle.std.proofs.lemmas.List.{length-append, length-take-le, length-drop, length-reverse, reverse-append, append-nil, take_at}
use Rattle.std.proofs.lemmas.List.Elements.{All-nil, All-cons, All-append}
use Rattle.httparse.specs.Grammar.{AllPass, Field, IsField, IsResponseHead, ReadsResponse, ResponseHead, crlf, is_ows, is_token_byte, is_value_byte, print_response, skip_ows, trim_ows}
use Rattle.httparse.proofs.GrammarLemmas.{ReadsResponse-append, cons-append, response_unique}
use Rattle.httparse.proofs.TrimLemmas.{trim_ows_space}
use Rattle.http_range.specs.declared.reason.ReplyReason.TheVariants.{OtherRange}
use Rattle.http_range.specs.RangeReplies.{range_lines, range_in, range_reply}
use Rattle.http_range.specs.Replies.{GoodReply, HasHead, cut, judged, judged_head, number, range_from, range_of, ranged}

-- decimal digits, one by one
abbrev AreDigits : List ℕ → Type 0
AreDigits [] = Unit {0}
AreDigits (d ∷ ds) = (48 ≤ d) × (d ≤ 57) × AreDigits ds

are-digits : (ds : List ℕ) → AllDigits 10 ds → AreDigits ds
are-digits [] all = tt
are-digits (d ∷ ds) all = let q = tells_digits.parts d ds all in (q.0.0, q.0.1, are-digits ds q.1)

digits : (n : ℕ) → n < 2 ^ 64 → AreDigits (decimal n)
digits n small = are-digits (decimal n) (decimal_is_IsNumeral n small).0.1

some : (n : ℕ) → n < 2 ^ 64 → 0 < length (decimal n)
some n small = (decimal_is_IsNumeral n small).0.0

digits-append : (xs ys : List ℕ) → AreDigits xs → AreDigits ys → AreDigits (xs ++ ys)
digits-append [] ys are more = more
digits-append (x ∷ xs) ys are more = (are.0, are.1, digits-append xs ys are.2 more)

digits-reverse : (ds : List ℕ) → AreDigits ds → AreDigits (reverse ds)
digits-reverse [] are = tt
digits-reverse (d ∷ ds) are =
    subst AreDigits (sym (reverse-append (d ∷ []) ds)) (digits-append (reverse ds) (d ∷ []) (digits-reverse ds are.2) (are.0, are.1, tt))

-- they are digits by the test, and bytes of a value
digits-all : (ds : List ℕ) → AreDigits ds → list_all is_ascii_digit ds ≡ true
digits-all [] are = refl
digits-all (d ∷ ds) are =
    (and_from _ _ (is_digit d are.0 are.1) (digits-all ds are.2))
  where
    is_digit : (d : ℕ) → 48 ≤ d → d ≤ 57 → is_ascii_digit d ≡ true
    is_digit d low high = and_from _ _ (le-leb 48 d low) (le-leb d 57 high)

digits-pass : (ds : List ℕ) → AreDigits ds → AllPass is_value_byte ds
digits-pass [] are = All-nil (λ b. IsTrue (is_value_byte b))
digits-pass (d ∷ ds) are = All-cons (λ b. IsTrue (is_value_byte b)) d ds (passes d are.0 are.1) (digits-pass ds are.2)
  where
    passes : (d : ℕ) → 48 ≤ d → d ≤ 57 → IsTrue (is_value_byte d)
    passes d low high = ap (λ t. t || (nat_le 32 d && not (d == 127))) (ne_eqb d 9 (λ same. omega (arith, same, low))) ∙ and_from _ _ (le-leb 32 d (omega (arith, low))) (ap not (ne_eqb d 127 (λ same. omega (arith, same, high))))

-- no white space stands before digits
skip-digits : (ds more : List ℕ) → AreDigits ds → 0 < length ds → skip_ows (ds ++ more) ≡ ds ++ more
skip-digits [] more are some = absurd (omega arith)
skip-digits (d ∷ ds) more are some = cond-false (is_ows d) _ _ (no_space d are.0)
  where
    no_space : (d : ℕ) → 48 ≤ d → is_ows d ≡ false
    no_space d low = ap (λ t. t || d == 9) (ne_eqb d 32 (λ same. omega (arith, same, low))) ∙ ne_eqb d 9 (λ same. omega (arith, same, low))

-- a cut behind digits
cut-digits : (ds more : List ℕ) (byte : ℕ) → byte < 48 → AreDigits ds → cut byte (ds ++ byte ∷ more) ≡ Some (ds, more)
cut-digits [] more byte low are = cond-true (byte == byte) _ _ (eq-eqb byte byte refl)
cut-digits (d ∷ ds) more byte low are =
    cond-false (d == byte) _ _ (ne_eqb d byte (λ same. omega (arith, same, low, are.0)))
    ∙ ap (λ (o : Option (List ℕ × List ℕ)). option_map (λ p. (d ∷ p.0, p.1)) o) (cut-digits ds more byte low are.2)

-- the number that its text writes
number-decimal : (n : ℕ) → n < 2 ^ 63 → number (decimal n) ≡ Some n
number-decimal n small =
    let wide : n < 2 ^ 64 = omega arith in
    let value : digits_value 10 (decimal n) ≡ n = (decimal_is_IsNumeral n wide).1 in
    cond-true _ _ _ (and_from _ _ (and_from _ _ (lt-ltb 0 (length (decimal n)) (some n wide)) (digits-all (decimal n) (digits n wide))) (lt-ltb (digits_value 10 (decimal n)) (2 ^ 63) (omega (arith, value))))
    ∙ ap (λ k. Some k) value

-- ---- the head

pass-all : (test : ℕ → Bool) (bs : List ℕ) → list_all test bs ≡ true → AllPass test bs
pass-all test [] all = All-nil (λ b. IsTrue (test b))
pass-all test (b ∷ bs) all =
    let q = and_parts (test b) (list_all test bs) all in All-cons (λ x. IsTrue (test x)) b bs q.0 (pass-all test bs q.1)

-- the value of Content-Range, over the texts of its numbers
abbrev range_text : List ℕ → List ℕ → List ℕ → List ℕ
range_text a b t = codes "bytes " ++ (a ++ 45 ∷ (b ++ 47 ∷ t))

abbrev length_field : List ℕ → Field
length_field n = record { name = codes "Content-Length"; raw = 32 ∷ n; end = crlf }

abbrev range_field : List ℕ → List ℕ → List ℕ → Field
range_field a b t = record { name = codes "Content-Range"; raw = 32 ∷ range_text a b t; end = crlf }

abbrev head_of : List ℕ → List ℕ → List ℕ → List ℕ → ResponseHead
head_of n a b t = record {
  blank = [];
  minor = 1;
  digits = codes "206";
  reason = Some (codes "Partial Content");
  line_end = crlf;
  fields = length_field n ∷ range_field a b t ∷ [];
  last = crlf;
}

abbrev line : List ℕ
line = 13 ∷ 10 ∷ []

abbrev last_lines : List ℕ
last_lines = 13 ∷ 10 ∷ 13 ∷ 10 ∷ []

-- the lines, over the texts of their numbers
abbrev text_of : List ℕ → List ℕ → List ℕ → List ℕ → List ℕ
text_of n a b t = codes "HTTP/1.1 206 Partial Content\r\nContent-Length: " ++ (n ++ (codes "\r\nContent-Range: bytes " ++ (a ++ 45 ∷ (b ++ 47 ∷ (t ++ last_lines)))))

lines_are : (n a b t : List ℕ) → ((((((n ++ codes "\r\nContent-Range: bytes ") ++ a) ++ 45 ∷ []) ++ b) ++ 47 ∷ []) ++ t) ++ last_lines
    ≡ n ++ (codes "\r\nContent-Range: bytes " ++ (a ++ 45 ∷ (b ++ 47 ∷ (t ++ last_lines))))
lines_are n a b t = simp (append_assoc, cons-append)

numbers_are : (a b t : List ℕ) → (((a ++ 45 ∷ (b ++ 47 ∷ t)) ++ line) ++ []) ++ line ≡ a ++ 45 ∷ (b ++ 47 ∷ (t ++ last_lines))
numbers_are a b t =
    let y : List ℕ = a ++ 45 ∷ (b ++ 47 ∷ t) in
    ap (λ x. x ++ line) (append-nil (y ++ line)) ∙ append_assoc y line line ∙ append_assoc a (45 ∷ (b ++ 47 ∷ t)) last_lines
    ∙ ap (λ x. a ++ 45 ∷ x) (append_assoc b (47 ∷ t) last_lines)

printed : (n a b t : List ℕ) → print_response (head_of n a b t) ≡ text_of n a b t
unfolding print_response
printed n a b t =
    let ranges : List ℕ = (codes "Content-Range: bytes " ++ ((a ++ 45 ∷ (b ++ 47 ∷ t)) ++ line)) ++ [] in
    ap (λ x. codes "HTTP/1.1 206 Partial Content\r\nContent-Length: " ++ x)
    (append_assoc (n ++ line) ranges line ∙ append_assoc n line (ranges ++ line) ∙ ap (λ x. n ++ (codes "\r\nContent-Range: bytes " ++ x)) (numbers_are a b t))

text_length : (n a b t : List ℕ) → length n ≤ 20 → length a ≤ 20 → length b ≤ 20 → length t ≤ 20 → length (text_of n a b t) ≤ 16384
text_length n a b t n_few a_few b_few t_few =
    let rest_b : List ℕ = 47 ∷ (t ++ last_lines) in
    let rest_a : List ℕ = 45 ∷ (b ++ rest_b) in
    let rest_n : List ℕ = codes "\r\nContent-Range: bytes " ++ (a ++ rest_a) in
    let one = length-append t last_lines in
    let two = length-append b rest_b in
    let three = length-append a rest_a in
    let four = length-append (codes "\r\nContent-Range: bytes ") (a ++ rest_a) in
    let five = length-append n rest_n in
    let six = length-append (codes "HTTP/1.1 206 Partial Content\r\nContent-Length: ") (n ++ rest_n) in
    omega (arith, n_few, a_few, b_few, t_few, one, two, three, four, five, six)

range_digits : (a b t : List ℕ) → AreDigits a → AreDigits b → AreDigits t → AllPass is_value_byte (range_text a b t)
range_digits a b t a_are b_are t_are =
    All-append (λ x. IsTrue (is_value_byte x)) (codes "bytes ") (a ++ 45 ∷ (b ++ 47 ∷ t)) (pass-all is_value_byte (codes "bytes ") refl)
    (All-append (λ x. IsTrue (is_value_byte x)) a (45 ∷ (b ++ 47 ∷ t)) (digits-pass a a_are)
    (All-cons (λ x. IsTrue (is_value_byte x)) 45 (b ++ 47 ∷ t) refl
    (All-append (λ x. IsTrue (is_value_byte x)) b (47 ∷ t) (digits-pass b b_are)
    (All-cons (λ x. IsTrue (is_value_byte x)) 47 t refl (digits-pass t t_are)))))

head_is : (n a b t : List ℕ) → AreDigits n → AreDigits a → AreDigits b → AreDigits t → IsResponseHead (head_of n a b t)
unfolding is_token_byte
head_is n a b t n_are a_are b_are t_are = record {
  minor = omega arith;
  digits = (refl, pass-all is_ascii_digit (codes "206") refl);
  reason = pass-all is_value_byte (codes "Partial Content") refl;
  fields = All-cons IsField (length_field n) (range_field a b t ∷ [])
      (record { name = (omega arith, pass-all is_token_byte (codes "Content-Length") refl); raw = All-cons (λ x. IsTrue (is_value_byte x)) 32 n refl (digits-pass n n_are) })
      (All-cons IsField (range_field a b t) []
      (record { name = (omega arith, pass-all is_token_byte (codes "Content-Range") refl); raw = All-cons (λ x. IsTrue (is_value_byte x)) 32 (range_text a b t) refl (range_digits a b t a_are b_are t_are) })
      (All-nil IsField));
}

-- the values are those that stand behind the spaces
skip-all : (ds : List ℕ) → AreDigits ds → 0 < length ds → skip_ows ds ≡ ds
skip-all ds are some = subst (λ xs. skip_ows xs ≡ xs) (append-nil ds) (skip-digits ds [] are some)

value_length : (n : List ℕ) → AreDigits n → 0 < length n → trim_ows (32 ∷ n) ≡ n
value_length n are some =
    trim_ows_space n (skip-all n are some) (skip-all (reverse n) (digits-reverse n are) (omega (arith, some, length-reverse n)))

value_range : (a b t : List ℕ) → AreDigits t → 0 < length t → trim_ows (32 ∷ range_text a b t) ≡ range_text a b t
value_range a b t are more =
    let front : List ℕ = codes "bytes " ++ (a ++ 45 ∷ (b ++ 47 ∷ [])) in
    let apart : range_text a b t ≡ front ++ t = regroup a b t in
    let back : reverse (range_text a b t) ≡ reverse t ++ reverse front = ap reverse apart ∙ reverse-append front t in
    trim_ows_space (range_text a b t) refl
    (subst (λ xs. skip_ows xs ≡ xs) (sym back) (skip-digits (reverse t) (reverse front) (digits-reverse t are) (omega (arith, more, length-reverse t))))
  where
    regroup : (a b t : List ℕ) → codes "bytes " ++ (a ++ 45 ∷ (b ++ 47 ∷ t)) ≡ (codes "bytes " ++ (a ++ 45 ∷ (b ++ 47 ∷ []))) ++ t
    regroup a b t = ap (λ x. codes "bytes " ++ x) (sym (append_assoc a (45 ∷ (b ++ 47 ∷ [])) t ∙ ap (λ x. a ++ 45 ∷ x) (append_assoc b (47 ∷ []) t)))

-- the range that they write
reads_range : (first last total : ℕ) → first < 2 ^ 63 → last < 2 ^ 63 → total < 2 ^ 63
    → range_of (range_text (decimal first) (decimal last) (decimal total)) ≡ Some (record { first = first; last = last; total = total })
reads_range first last total small_a small_b small_t =
    let behind_a : List ℕ = decimal last ++ (47 ∷ decimal total) in
    ap (λ o. option_and_then (λ front. option_and_then (λ back. range_from (number front.0) (number back.0) (number back.1)) (cut 47 front.1)) o)
    (cut-digits (decimal first) behind_a 45 (omega arith) (digits first (omega arith)))
    ∙ ap (λ o. option_and_then (λ back. range_from (number (decimal first)) (number back.0) (number back.1)) o)
    (cut-digits (decimal last) (decimal total) 47 (omega arith) (digits last (omega arith)))
    ∙ (λ i. range_from (number-decimal first small_a i) (number-decimal last small_b i) (number-decimal total small_t i))

judged_good : (first last total : ℕ) → first ≤ last → last < total → total < 2 ^ 63
    → judged_head (head_of (decimal (last + 1 - first)) (decimal first) (decimal last) (decimal total)) first last ≡ Ok total
judged_good first last total order within small =
    let n : ℕ = last + 1 - first in
    let wide_n : n < 2 ^ 64 = omega arith in
    let wide_t : total < 2 ^ 64 = omega arith in
    let v : List ℕ = range_text (decimal first) (decimal last) (decimal total) in
    let length_is : trim_ows (32 ∷ decimal n) ≡ decimal n = value_length (decimal n) (digits n wide_n) (some n wide_n) in
    let range_is : trim_ows (32 ∷ v) ≡ v = value_range (decimal first) (decimal last) (decimal total) (digits total wide_t) (some total wide_t) in
    let same : judged 206 ((codes "Content-Length", trim_ows (32 ∷ decimal n)) ∷ (codes "Content-Range", trim_ows (32 ∷ v)) ∷ []) first last
    ≡ ranged (range_of v) (number (decimal n)) first last =
    (λ i. ranged (range_of (range_is i)) (number (length_is i)) first last) in
    same
    ∙ (λ i. ranged (reads_range first last total (omega arith) (omega arith) small i) (number-decimal n (omega arith) i) first last)
    ∙ cond-true _ _ _ (and_from _ _ (and_from _ _ (eq-eqb first first refl) (eq-eqb last last refl)) (lt-ltb last total within))
    ∙ cond-true _ _ _ (eq-eqb n n refl)

abbrev reply_head : ℕ → ℕ → ℕ → ResponseHead
reply_head first last total = head_of (decimal (last + 1 - first)) (decimal first) (decimal last) (decimal total)

has_head : (bytes : List ℕ) (first last : ℕ) → first ≤ last → last < length bytes → length bytes < 2 ^ 63
    → HasHead (range_reply bytes first last) (reply_head first last (length bytes)) (range_in bytes first last)
has_head bytes first last order within small =
    let n : ℕ = last + 1 - first in
    let total : ℕ = length bytes in
    let is : print_response (reply_head first last total) ≡ text_of (decimal n) (decimal first) (decimal last) (decimal total) = printed (decimal n) (decimal first) (decimal last) (decimal total) in
    let lines : range_lines first last total ≡ text_of (decimal n) (decimal first) (decimal last) (decimal total) =
    ap (λ x. codes "HTTP/1.1 206 Partial Content\r\nContent-Length: " ++ x) (lines_are (decimal n) (decimal first) (decimal last) (decimal total)) in
    let few : (k : ℕ) → k < 2 ^ 64 → length (decimal k) ≤ 20 = λ k wide. length-decimal-le 20 k (omega arith) (omega arith) wide in
    let wide_n : n < 2 ^ 64 = omega arith in
    let wide_a : first < 2 ^ 64 = omega arith in
    let wide_b : last < 2 ^ 64 = omega arith in
    let wide_t : total < 2 ^ 64 = omega arith in
    record {
      reads = (
        head_is (decimal n) (decimal first) (decimal last) (decimal total) (digits n wide_n) (digits first wide_a) (digits last wide_b) (digits total wide_t),
        ap (λ x. x ++ range_in bytes first last) (lines ∙ sym is),
      );
      short = subst (λ (x : List ℕ). length x ≤ 16384) (sym is)
          (text_length (decimal n) (decimal first) (decimal last) (decimal total) (few n wide_n) (few first wide_a) (few last wide_b) (few total wide_t));
      few = omega arith;
    }

whole_range : (bytes : List ℕ) (first last : ℕ) → first ≤ last → last < length bytes → length (range_in bytes first last) ≡ last + 1 - first
whole_range bytes first last order within = length-take-le (last + 1 - first) (drop first bytes) (omega (arith, length-drop first bytes))

-- the reply of a server that has the file is a good one, with the bytes of the range
pub reply_good : (bytes : List ℕ) (first last : ℕ) → first ≤ last → last < length bytes → length bytes < 2 ^ 63
    → GoodReply (range_reply bytes first last) first last (length bytes) (range_in bytes first last)
reply_good bytes first last order within small = record {
  head = reply_head first last (length bytes);
  has = has_head bytes first last order within small;
  good = judged_good first last (length bytes) order within small;
  whole = whole_range bytes first last order within;
}

and_last : (b : Bool) → (b && false) ≡ false
and_last true = refl
and_last false = refl

-- a head that names a range up to another byte is refused for this one
judged_other : (first m last total t : ℕ) → first < 2 ^ 63 → m < 2 ^ 63 → total < 2 ^ 63
    → judged_head (reply_head first m total) first last ≡ Ok t → last ≡ m
judged_other first m last total t small_a small_m small_t good = elim (nat_eq m last) as (λ b. nat_eq m last ≡ b → last ≡ m) [
  | true ↦ λ is. sym (eqb-true m last is)
  | false ↦ λ is. absurd (no_good (ranges is) good)
] refl
  where
    n : ℕ
    n = m + 1 - first

    v : List ℕ
    v = range_text (decimal first) (decimal m) (decimal total)

    wide_t : total < 2 ^ 64
    wide_t = omega arith

    ranges : nat_eq m last ≡ false → judged_head (reply_head first m total) first last ≡ Err OtherRange
    ranges other =
        (λ i. ranged (range_of (value_range (decimal first) (decimal m) (decimal total) (digits total wide_t) (some total wide_t) i)) (number (trim_ows (32 ∷ decimal n))) first last)
        ∙ (λ i. ranged (reads_range first m total small_a small_m small_t i) (number (trim_ows (32 ∷ decimal n))) first last)
        ∙ cond-false _ _ _ (ap (λ b. (first == first && b) && nat_lt last total) other ∙ ap (λ b. b && nat_lt last total) (and_last (first == first)))

    no_good : judged_head (reply_head first m total) first last ≡ Err OtherRange → judged_head (reply_head first m total) first last ≡ Ok t → ⊥
    no_good bad good = let clash : Ok t ≡ Err OtherRange = sym good ∙ bad in cc

-- a good reply that goes on as that of a server does is all of it, and for just that range
pub record IsServerReply (bytes got : List ℕ) (first m last total : ℕ) (body : List ℕ) : Type 0 where
  pub range : last ≡ m
  pub total_is : total ≡ length bytes
  pub body_is : body ≡ range_in bytes first m
  pub all : got ≡ range_reply bytes first m

pub reply_at : (bytes got rest more : List ℕ) (first m last total : ℕ) (body : List ℕ) → first ≤ m → m < length bytes → length bytes < 2 ^ 63
    → GoodReply got first last total body → got ++ rest ≡ range_reply bytes first m ++ more → IsServerReply bytes got first m last total body
reply_at bytes got rest more first m last total body order within small good same =
    let h : ResponseHead = reply_head first m (length bytes) in
    let ours = has_head bytes first m order within small in
    let theirs_on : ReadsResponse (got ++ rest) good.head (body ++ rest) = ReadsResponse-append got good.head body rest good.has.reads in
    let ours_on : ReadsResponse (range_reply bytes first m ++ more) h (range_in bytes first m ++ more) =
    ReadsResponse-append (range_reply bytes first m) h (range_in bytes first m) more ours.reads in
    let one = response_unique (range_reply bytes first m ++ more) good.head h (body ++ rest) (range_in bytes first m ++ more)
    (subst (λ xs. ReadsResponse xs good.head (body ++ rest)) same theirs_on) ours_on in
    let judged_h : judged_head h first last ≡ Ok total = sym (ap (λ k. judged_head k first last) one.0) ∙ good.good in
    let range : last ≡ m = judged_other first m last (length bytes) total (omega arith) (omega arith) small judged_h in
    let totals : Ok total ≡ Ok (length bytes) = sym judged_h ∙ ap (λ k. judged_head h first k) range ∙ judged_good first m (length bytes) order within small in
    let size : length body ≡ length (range_in bytes first m) = good.whole ∙ ap (λ k. k + 1 - first) range ∙ sym (whole_range bytes first m order within) in
    let body_is : body ≡ range_in bytes first m = sym (take_at body rest (length body) refl) ∙ ap (take (length body)) one.1 ∙ take_at (range_in bytes first m) more (length body) (sym size) in
    record {
      range = range;
      total_is = cc totals;
      body_is = body_is;
      all = good.has.reads.1 ∙ (λ i. print_response (one.0 i) ++ body_is i) ∙ sym ours.reads.1;
    }

pub reply_only : (bytes got rest more : List ℕ) (first last total : ℕ) (body : List ℕ) → first ≤ last → last < length bytes → length bytes < 2 ^ 63
    → GoodReply got first last total body → got ++ rest ≡ range_reply bytes first last ++ more → (total ≡ length bytes) × (body ≡ range_in bytes first last)
reply_only bytes got rest more first last total body order within small good same =
    let is = reply_at bytes got rest more first last last total body order within small good same in (is.total_is, is.body_is)

-- What the spans of a head say of it.
use Rattle.std.proofs.Common.{◌≡◌, ℕ, ◌≤◌, List, length, take, drop, map, sym, ap, ◌∙◌, arith, length-take}
use Rattle.std.specs.Prelude.{Result, Ok}
use Rattle.std.proofs.lemmas.List.{length-map}
use Rattle.httparse.specs.Grammar.{ResponseHead}
use Rattle.httparse.specs.Spans.{header_bytes, name_and_value, IsResponseWithin, IsResponseAt}
use Rattle.httparse.specs.declared.spans.HeaderSpan.{HeaderSpan}
use Rattle.httparse.specs.declared.spans.ResponseSpans.{ResponseSpans}
use Rattle.http_range.specs.declared.reason.ReplyReason.{ReplyReason}
use Rattle.http_range.specs.Replies.{judged, judged_head, HasHead}
use Rattle.http_range.specs.Heads.{IsGoodHead}

module _ (bytes : List ℕ) (headers : List HeaderSpan) (spans : ResponseSpans) (head : ResponseHead)
    (inside : IsResponseWithin bytes headers spans) (at : IsResponseAt bytes headers spans head)
    (short : length bytes ≤ 16384) (room : length headers ≤ 64) where
  pub has_head : HasHead bytes head (drop spans.len bytes)
  has_head =
      let same : length (take spans.headers headers) ≡ length head.fields =
      sym (length-map (take spans.headers headers) (header_bytes bytes)) ∙ ap length at.fields ∙ length-map head.fields name_and_value in
      let fits = inside.section.len_fits in
      let len = at.len in
      record { reads = at.reads; short = omega arith; few = omega (arith, same, length-take spans.headers headers) }

  pub judged_so : (first last : ℕ) (result : Result ℕ ReplyReason)
      → result ≡ judged spans.code (map (header_bytes bytes) (take spans.headers headers)) first last → judged_head head first last ≡ result
  judged_so first last result is = sym (is ∙ ap (λ fields. judged spans.code fields first last) at.fields
      ∙ ap (λ code. judged code (map name_and_value head.fields) first last) at.code)

  pub good_head : (first last total : ℕ) → Ok total ≡ judged spans.code (map (header_bytes bytes) (take spans.headers headers)) first last
      → IsGoodHead bytes first last spans.code total spans.len
  good_head first last total is = record {
    head = head;
    within = inside.section.len_fits;
    has = has_head;
    status_is = at.code;
    good = judged_so first last (Ok total) is;
  }

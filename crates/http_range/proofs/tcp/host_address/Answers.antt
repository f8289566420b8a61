-- What stands between the brackets.
use Rattle.std.proofs.Common.{rules, ◌≡◌, ◌∷◌, [], ◌++◌, ap, ◌∙◌, inl}
use Rattle.std.specs.Prelude.{Some}
use Rattle.std.proofs.lemmas.Bool.Decides.{Decides-eqb}
use Rattle.std.proofs.lemmas.Slice.Eq.{strip_prefix_is, strip_suffix_is}
use Rattle.http_range.proofs.tcp.host_address.Goals as goal

pub returns-in-Some-strip_suffix : goal.returns-in-Some-strip_suffix
returns-in-Some-strip_suffix c =
    let host = c.args.host.now in
    let rest = c.in-Some.rest in
    let address = c.in-Some-strip_suffix.address in
    let opening : c.as_slice.result.now ≡ 91 ∷ [] = search rules in
    let closing : c.as_slice-in-Some.result.now ≡ 93 ∷ [] = search rules in
    let front : host ≡ 91 ∷ rest.now =
    strip_prefix_is Decides-eqb host c.as_slice.result.now (Some rest) c.in-Some.ensures.cases ∙ ap (λ l. l ++ rest.now) opening in
    let back : rest.now ≡ address.now ++ 93 ∷ [] =
    strip_suffix_is Decides-eqb rest.now c.as_slice-in-Some.result.now (Some address) c.in-Some-strip_suffix.ensures.cases
    ∙ ap (λ l. address.now ++ l) closing in
    inl (front ∙ ap (λ l. 91 ∷ l) back)

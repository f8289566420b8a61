use Rattle.std.proofs.Common.{◌∙◌, sym, rules}
use Rattle.std.proofs.lemmas.Result.{err_from_is_err_and}
use Rattle.nbd_session.proofs.NextRequest.{request-fault, request-none, request-short, request-magic, request-read}
use Rattle.nbd_session.proofs.requests.read_request.Goals as goal

pub returns-in_err-count : goal.returns-in_err-count
returns-in_err-count g c = λ takes export n go written writes port.
    let p = err_from_is_err_and c.from_residual.result c.from_residual.ensures.1 in
    let e = c.in_err-count.ensures in
    rw (p.1, p.2, e.0) (request-fault takes export n go _ _ _ _ written writes port c.pull.new.out (search rules) e.1 e.2)

pub returns-then-count-eq0 : goal.returns-then-count-eq0
returns-then-count-eq0 g c = λ takes export n go written writes port.
    request-none takes export n go _ _ _ _ written writes port c.pull.new.out c.in_ok-count.count (search rules) c.in_ok-count.ensures.0 c.in_ok-count.ensures.1 c.if-count-eq0.true

pub returns-then-count-lt28 : goal.returns-then-count-lt28
returns-then-count-lt28 g c = λ takes export n go written writes port.
    request-short takes export n go _ _ _ _ written writes port c.pull.new.out c.in_ok-count.count (search rules) c.in_ok-count.ensures.0 c.in_ok-count.ensures.1 c.if-count-eq0.false c.if-count-lt28.true

pub returns-in-Some : goal.returns-in-Some
returns-in-Some g c = λ takes export n go written writes port.
    request-read takes export n go _ _ _ _ written writes port c.pull.new.out c.in_ok-count.count c.in-Some.request (search rules) c.in_ok-count.ensures.0 c.if-count-lt28.false
    c.in_ok-count.ensures.1 (sym c.decode_request.ensures.reads ∙ c.in-Some.is)

pub returns-in-None : goal.returns-in-None
returns-in-None g c = λ takes export n go written writes port.
    request-magic takes export n go _ _ _ _ written writes port c.pull.new.out c.in_ok-count.count (search rules) c.in_ok-count.ensures.0 c.in_ok-count.ensures.1 c.if-count-lt28.false
    (sym c.decode_request.ensures.reads ∙ c.in-None.is)

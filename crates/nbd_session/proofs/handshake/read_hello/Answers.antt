use Rattle.std.proofs.Common.{rules, ◌≡◌, ◌∙◌, [], length, sym, ap, arith, true}
use Rattle.std.specs.Prelude.{nat_lt}
use Rattle.std.proofs.lemmas.Result.{err_from_is_err_and}
use Rattle.nbd_session.specs.declared.served.Served.TheVariants.{BadHello}
use Rattle.nbd_session.specs.Talks.{greeted, options, after_hello}
use Rattle.nbd_session.proofs.Steps.{went_unanswered, ended_word, ended_cut}
use Rattle.nbd_session.proofs.Greetings.{greeted-whole, greeted-all, greeted-short}
use Rattle.nbd_session.proofs.handshake.read_hello.Goals as goal

pub returns-in_err-fill : goal.returns-in_err-fill
returns-in_err-fill g c = λ takes export n written faults port.
    let p = err_from_is_err_and c.from_residual.result c.from_residual.ensures.1 in
    let long : length c.fill.new.out ≡ 4 = search rules in
    rw (p.1, p.2)
    (ended_cut (greeted export n) (g.A.Source.left c.args.source.now) (g.A.Source.left c.fill.new.source) _ _ written faults port (length c.fill.new.out) _ (λ bytes. nat_lt 0 (length bytes))
    (λ bytes short. greeted-short export n bytes [] (omega (arith, long))) c.in_err-fill.ensures)

pub returns-in-Some : goal.returns-in-Some
returns-in-Some g c = λ takes export n written faults port.
    let bytes = c.fill.new.out in
    let long : length c.fill.new.out ≡ 4 = search rules in
    went_unanswered (greeted export n) (options export n c.in-Some.hello 64) (g.A.Source.left c.args.source.now) (g.A.Source.left c.fill.new.source) _ _ written faults port bytes
    c.in_ok-fill.ensures.0 c.in_ok-fill.ensures.1
    (λ more others. greeted-whole export n bytes more others long ∙ ap (λ o. after_hello export n o more others) (sym c.in-Some.ensures.reads))

pub returns-in-None : goal.returns-in-None
returns-in-None g c = λ takes export n written faults port.
    let bytes = c.fill.new.out in
    let long : length c.fill.new.out ≡ 4 = search rules in
    ended_word (greeted export n) (g.A.Source.left c.args.source.now) (g.A.Source.left c.fill.new.source) _ _ written faults port BadHello true bytes
    c.in_ok-fill.ensures.0 c.in_ok-fill.ensures.1
    (greeted-all export n bytes [] long ∙ ap (λ o. after_hello export n o [] []) (sym c.in-None.ensures.reads)) (λ e. e) (λ e. cc) (λ e. cc)

use Rattle.std.proofs.Common.{rules, ◌≡◌, ◌∙◌, [], length, sym, ap, arith, true}
use Rattle.std.specs.Prelude.{nat_lt}
use Rattle.std.proofs.lemmas.Result.{err_from_is_err_and}
use Rattle.nbd_session.specs.declared.served.Served.TheVariants.{BadMagic}
use Rattle.nbd_session.specs.Talks.{with_head, after_head}
use Rattle.nbd_session.proofs.Steps.{went_read, ended_word, ended_cut}
use Rattle.nbd_session.proofs.Greetings.{with_head-whole, with_head-all, with_head-short}
use Rattle.nbd_session.proofs.handshake.read_head.Goals as goal

pub returns-in_err-fill : goal.returns-in_err-fill
returns-in_err-fill g c = λ takes next written faults port.
    let p = err_from_is_err_and c.from_residual.result c.from_residual.ensures.1 in
    let long : length c.fill.new.out ≡ 16 = search rules in
    rw (p.1, p.2)
    (ended_cut (with_head next) (g.A.Source.left c.args.source.now) (g.A.Source.left c.fill.new.source) _ _ written faults port (length c.fill.new.out) _ (λ bytes. nat_lt 0 (length bytes))
    (λ bytes short. with_head-short next bytes [] (omega (arith, long))) c.in_err-fill.ensures)

pub returns-in-Some : goal.returns-in-Some
returns-in-Some g c = λ takes next written faults port.
    let bytes = c.fill.new.out in
    let long : length c.fill.new.out ≡ 16 = search rules in
    went_read (with_head next) (next c.in-Some.head) (g.A.Source.left c.args.source.now) (g.A.Source.left c.fill.new.source) _ _ written faults port bytes
    c.in_ok-fill.ensures.0 c.in_ok-fill.ensures.1
    (λ more others. with_head-whole next bytes more others long ∙ ap (λ o. after_head next o more others) (sym c.in-Some.ensures.reads))

pub returns-in-None : goal.returns-in-None
returns-in-None g c = λ takes next written faults port.
    let bytes = c.fill.new.out in
    let long : length c.fill.new.out ≡ 16 = search rules in
    ended_word (with_head next) (g.A.Source.left c.args.source.now) (g.A.Source.left c.fill.new.source) _ _ written faults port BadMagic true bytes
    c.in_ok-fill.ensures.0 c.in_ok-fill.ensures.1
    (with_head-all next bytes [] long ∙ ap (λ o. after_head next o [] []) (sym c.in-None.ensures.reads)) (λ e. e) (λ e. cc) (λ e. cc)

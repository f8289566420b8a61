-- Where the byte was found, or that it is nowhere.
use Rattle.std.proofs.Common.{◌≡◌, suc, ◌+◌, ◌-◌, length, take, drop, ap, sym, ◌∙◌, arith, add-one}
use Rattle.std.proofs.lemmas.List.{take_rest}
use Rattle.std.specs.Prelude.{Some}
use Rattle.http_range.proofs.Numbers.{cut_found, cut_nowhere}
use Rattle.http_range.proofs.values.cut_at.Goals as goal

pub returns-then-bytes-at : goal.returns-then-bytes-at
returns-then-bytes-at c =
    let bytes = c.args.bytes.now in
    let at = c.loop-at.at in
    let rest : take (length bytes - (at + 1)) (drop (at + 1) bytes) ≡ drop (suc at) bytes = take_rest bytes (at + 1) ∙ ap (λ n. drop n bytes) (add-one at) in
    ap (λ l. Some (take at bytes, l)) rest ∙ sym (cut_found bytes c.args.byte at c.loop-at-test.true c.loop-at.invariant c.if-bytes-at.true)

pub returns : goal.returns
returns c = sym (cut_nowhere c.args.bytes.now c.args.byte (λ k h. c.loop-at.invariant k (omega arith)))

-- What was copied is what is gone from the bytes left.
use Rattle.std.proofs.Common.{◌≡◌, ◌-◌, min, ◌++◌, length, take, drop, sym, ap, ◌∙◌, arith, length-take-le, take_at}
use Rattle.std.proofs.lemmas.List.{take_rest}
use Rattle.std.proofs.Math.Seq.{take-add}
use Rattle.byte_ports.proofs.Taking.{took}
use Rattle.http_range.proofs.in_memory.MemDial.receive.Goals as goal

pub returns-clause-left : goal.returns-clause-left
returns-clause-left c =
    let all = c.self.inside.text in
    let at = c.self.inside.at in
    let n = c.min-count.result in
    let out = c.args.out.now in
    let copied = c.copy_from_slice.new.self in
    let rest : take (length c.as_slice.result.now - at) (drop at c.as_slice.result.now) ≡ drop at all =
    ap (λ l. take (length l - at) (drop at l)) c.as_slice.ensures ∙ take_rest all at in
    let least : n ≡ min (length (drop at all)) (length out) = c.min-count.ensures ∙ ap (λ l. min (length l) (length out)) rest in
    let same : copied ≡ take n (drop at all) = c.copy_from_slice.ensures.after ∙ ap (take n) rest in
    ap (λ d. d.left) (sym c.self.view_is) ∙ took all at n copied (drop n out) same (omega arith)

pub returns-clause-received : goal.returns-clause-received
returns-clause-received c =
    let all = c.self.inside.text in
    let at = c.self.inside.at in
    let n = c.min-count.result in
    let out = c.args.out.now in
    let copied = c.copy_from_slice.new.self in
    let rest : take (length c.as_slice.result.now - at) (drop at c.as_slice.result.now) ≡ drop at all =
    ap (λ l. take (length l - at) (drop at l)) c.as_slice.ensures ∙ take_rest all at in
    let least : n ≡ min (length (drop at all)) (length out) = c.min-count.ensures ∙ ap (λ l. min (length l) (length out)) rest in
    let same : copied ≡ take n (drop at all) = c.copy_from_slice.ensures.after ∙ ap (take n) rest in
    let long : length copied ≡ n = ap length same ∙ length-take-le n (drop at all) (omega arith) in
    take-add at n all ∙ ap (λ l. take at all ++ l) (sym (take_at copied (drop n out) n long ∙ same))
    ∙ ap (λ d. d.received ++ take n (copied ++ drop n out)) c.self.view_is

-- What was copied is what is gone from the bytes left.
use Rattle.std.proofs.Common.{◌≡◌, ◌-◌, min, ◌++◌, length, take, drop, sym, ap, ◌∙◌, arith}
use Rattle.std.proofs.lemmas.List.{take_rest, length-append, length-drop, length-take}
use Rattle.byte_ports.proofs.Taking.{took, ended}
use Rattle.byte_ports.proofs.in_memory.MemSourceSource.read.Goals as goal

pub returns-clause-bytes : goal.returns-clause-bytes
returns-clause-bytes c =
    let all = c.self.inside.bytes in
    let at = c.self.inside.at in
    let n = c.min-count.result in
    let out = c.args.out.now in
    let copied = c.copy_from_slice.new.self in
    let rest : take (length c.as_slice.result.now - at) (drop at c.as_slice.result.now) ≡ drop at all =
    ap (λ l. take (length l - at) (drop at l)) c.as_slice.ensures ∙ take_rest all at in
    let least : n ≡ min (length (drop at all)) (length out) = c.min-count.ensures ∙ ap (λ l. min (length l) (length out)) rest in
    let same : copied ≡ take n (drop at all) = c.copy_from_slice.ensures.after ∙ ap (take n) rest in
    let long : length (copied ++ drop n out) ≡ length out =
    omega (arith, length-append copied (drop n out), length-drop n out, length-take n out, c.copy_from_slice.ensures.len) in
    (ap (λ s. s.left) (sym c.self.view_is) ∙ took all at n copied (drop n out) same (omega arith), λ none some. ended all at n (length out) least none (omega (arith, long)))

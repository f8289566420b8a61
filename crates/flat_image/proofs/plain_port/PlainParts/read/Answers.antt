use Rattle.std.proofs.Common.{◌≡◌, length, take, drop, ◌*◌, ◌+◌, ◌-◌, ap, ◌∙◌, arith}
use Rattle.std.proofs.lemmas.Result.{err_from_is_err_and}
use Rattle.flat_image.specs.PlainParts.{view_of}
use Rattle.flat_image.proofs.PlainExits.{read-refused, read-done}
use Rattle.flat_image.proofs.plain_port.PlainParts.read.Goals as goal

pub returns-in_err-note : goal.returns-in_err-note
returns-in_err-note c =
    let b = c.in_ok-fails.ensures in
    let p = err_from_is_err_and c.from_residual-in_err-note.result c.from_residual-in_err-note.ensures.1 in
    rw (p.1, p.2)
    (read-refused (view_of c.args.self.now) c.begin.new.plan c.requires.plain b.counted c.in_ok-fails.fails b.open.0 b.open.1
    c.note.new.entries.items c.note.new.faults.count c.args.at _ _ _ c.in_err-note.ensures.noted)

pub returns : goal.returns
returns c =
    let b = c.in_ok-fails.ensures in
    read-done (view_of c.args.self.now) c.begin.new.plan c.requires.plain b.counted c.in_ok-fails.fails b.open.0 b.open.1
    c.note.new.entries.items c.note.new.faults.count c.args.at c.args.out.now c.copy_from_slice.new.self c.requires.within
    c.in_ok-note.ensures.noted c.copy_from_slice.ensures.len
    (c.copy_from_slice.ensures.after
    ∙ (ap (λ k. take k (drop (512 * c.args.at) c.as_slice.result.now)) (let same : 512 * c.args.at + length c.args.out.now - 512 * c.args.at ≡ length c.args.out.now = omega arith in same)
    ∙ ap (λ l. take (length c.args.out.now) (drop (512 * c.args.at) l)) c.as_slice.ensures.value))
